use Rattle.std.proofs.Common.{ℕ, List, Bor, true, ◌∙◌, rules, tests}
use Rattle.std.proofs.lemmas.Iterator.{YieldsList-from_slice}
use Rattle.std.proofs.lemmas.Iterator.Search.{any_from_yields_List}
use Rattle.sx_decode.specs.Words.{is_word_in_blanks}
use Rattle.sx_decode.proofs.Lent.{any_lent}
use Rattle.sx_decode.proofs.asked.has_word.Goals as goal

pub returns : goal.returns
returns c =
    any_from_yields_List (λ (t : Bor (List ℕ)). is_word_in_blanks true c.args.word.now t.now) _ _ c.any.result c.any.ensures.ran (YieldsList-from_slice c.args.words.now cc) (λ x b q k. search (rules, tests))
    ∙ any_lent (is_word_in_blanks true c.args.word.now) c.args.words.now
