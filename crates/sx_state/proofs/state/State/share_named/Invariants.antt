use Rattle.std.proofs.Common.{◌≡◌}
use Rattle.std.specs.Prelude.{find}
use Rattle.sx_spec.specs.Account.{has_name}
use Rattle.sx_state.proofs.state.State.share_named.Given as goal

abbrev pub invariant-loop-number : goal.invariant-loop-number
invariant-loop-number l = find (has_name l.name) l.number-iterator ≡ find (has_name l.name) l.fn.self.shares
