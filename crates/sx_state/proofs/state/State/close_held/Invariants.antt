use Rattle.sx_state.proofs.HeldLaws.{IsClosing}
use Rattle.sx_state.proofs.state.State.close_held.Given as goal

abbrev pub invariant-loop : goal.invariant-loop
invariant-loop l = IsClosing l.session l.initial.self l.self l.counter
