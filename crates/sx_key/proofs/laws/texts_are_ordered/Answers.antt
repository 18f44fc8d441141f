use Rattle.sx_key.proofs.Ordering.{texts_sorted, texts_distinct}
use Rattle.sx_key.proofs.laws.texts_are_ordered.Goals as goal

pub returns : goal.returns
returns c = record { sorted = texts_sorted; distinct = texts_distinct }
