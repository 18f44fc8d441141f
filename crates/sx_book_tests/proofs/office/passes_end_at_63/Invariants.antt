use Rattle.std.proofs.Common.{◌≡◌}
use Rattle.sx_book_tests.proofs.office.passes_end_at_63.Given as goal

abbrev pub invariant-loop-number : goal.invariant-loop-number
invariant-loop-number g l = l.main.office ≡ l.office
