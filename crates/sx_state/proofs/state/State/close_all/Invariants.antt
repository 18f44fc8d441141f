use Rattle.std.proofs.Common.{◌≡◌, drop}
use Rattle.sx_spec.specs.Changes.{close_all}
use Rattle.sx_state.proofs.state.State.close_all.Given as goal

abbrev pub invariant-loop-held : goal.invariant-loop-held
invariant-loop-held l = close_all (drop l.held-index l.opens) l.self ≡ close_all l.opens l.initial.self
