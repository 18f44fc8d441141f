use Rattle.std.proofs.Common.{◌≡◌, take}
use Rattle.sx_book.proofs.tail.copy_all.Given as goal

abbrev pub invariant-loop-noted : goal.invariant-loop-noted
invariant-loop-noted l = l.copied ≡ take l.noted-index l.entries
