use Rattle.std.proofs.Common.{◌≡◌, None}
use Rattle.sx_turn_tests.proofs.turns.run_lane_slowly.Given as goal

abbrev pub invariant-loop-what : goal.invariant-loop-what
invariant-loop-what g l = (l.lane.seat.turn ≡ l.turn) × (l.lane.seat.taken ≡ None)
