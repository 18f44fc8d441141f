use Rattle.std.proofs.Common.{ℕ, List, Bor, ◌∙◌, rules, tests}
use Rattle.std.proofs.lemmas.Iterator.{YieldsList-from_slice}
use Rattle.std.proofs.lemmas.Iterator.Search.{all_from_yields_List}
use Rattle.sx_decode.specs.Facts.{is_attribute}
use Rattle.sx_decode.proofs.Lent.{all_lent}
use Rattle.sx_decode.proofs.facts.are_attributes.Goals as goal

pub returns : goal.returns
returns c =
    all_from_yields_List (λ (t : Bor (List ℕ)). is_attribute c.args.directory t.now) _ _ c.all.result c.all.ensures.ran (YieldsList-from_slice c.args.texts.now cc) (λ x b q k. search (rules, tests))
    ∙ all_lent (is_attribute c.args.directory) c.args.texts.now
