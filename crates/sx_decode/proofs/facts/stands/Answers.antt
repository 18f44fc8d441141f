use Rattle.std.proofs.Common.{ℕ, List, Bor, ◌∙◌, rules, tests}
use Rattle.std.proofs.lemmas.Iterator.{YieldsList-from_slice}
use Rattle.std.proofs.lemmas.Iterator.Search.{any_from_yields_List}
use Rattle.sx_decode.specs.Facts.{names}
use Rattle.sx_decode.proofs.Lent.{any_lent}
use Rattle.sx_decode.proofs.facts.stands.Goals as goal

pub returns : goal.returns
returns c =
    any_from_yields_List (λ (t : Bor (List ℕ)). names c.args.word.now t.now) _ _ c.any.result c.any.ensures.ran (YieldsList-from_slice c.args.texts.now cc) (λ x b q k. search (rules, tests))
    ∙ any_lent (names c.args.word.now) c.args.texts.now
