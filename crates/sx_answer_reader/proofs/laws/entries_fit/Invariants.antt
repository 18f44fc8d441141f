use Rattle.std.proofs.Common.{ℕ, ◌<◌, get_or}
use Rattle.sx_names.specs.declared.page.NameItem.{NameItem}
use Rattle.sx_answer_reader.specs.Answers.{FitsEntry}
use Rattle.sx_answer_reader.specs.Doors.{entry_of}
use Rattle.sx_answer_reader.proofs.laws.entries_fit.Given as goal

-- the items that were gone through fit
abbrev pub invariant-loop-item : goal.invariant-loop-item
invariant-loop-item l = (k : ℕ) (d : NameItem) → k < l.item-index → FitsEntry (entry_of (get_or l.items k d))
