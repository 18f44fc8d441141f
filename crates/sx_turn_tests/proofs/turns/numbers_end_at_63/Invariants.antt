use Rattle.std.proofs.Common.{◌≡◌, None}
use Rattle.sx_turn_tests.proofs.turns.numbers_end_at_63.Given as goal

abbrev pub invariant-loop-number : goal.invariant-loop-number
invariant-loop-number g l = (l.main.turn ≡ l.turn) × (l.main.taken ≡ None)
