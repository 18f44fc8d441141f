use Rattle.std.proofs.Common.{ℕ, List, bytes_eq, rules, tests}
use Rattle.std.proofs.lemmas.Iterator.Search.{any_from_yields_List}
use Rattle.std.proofs.lemmas.Iterator.Splits.{YieldsList-from_slice_split}
use Rattle.sx_answer_reader.specs.Attributes.{is_bar}
use Rattle.sx_answer_reader.proofs.attributes.has_word.Goals as goal

pub returns : goal.returns
returns c =
    any_from_yields_List (λ (part : List ℕ). bytes_eq part c.args.name.now) _ _ c.any.result c.any.ensures.ran
    (YieldsList-from_slice_split _ is_bar c.args.word.now c.split.ensures.rest c.split.ensures.done c.split.ensures.closure (λ x r q k. search (rules, tests)))
    (λ x b q k. search (rules, tests))
