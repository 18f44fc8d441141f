use Rattle.std.proofs.Common.{List, subst, sym}
use Rattle.sx_guard.specs.Handle.{same_handle}
use Rattle.sx_call.specs.declared.opens.Open.{Open}
use Rattle.sx_state.specs.Guards.{AreGuards}
use Rattle.sx_state.proofs.GuardLaws.{AreGuards-mark}
use Rattle.sx_state.proofs.handles.Opens.mark.Goals as goal

pub invariant_of-self : goal.invariant_of-self
invariant_of-self c =
    let es = c.self.inside.nodes.items in
    subst (λ (os : List Open). AreGuards os es) (sym c.mark_open.ensures)
    (AreGuards-mark (λ (o : Open). same_handle c.args.handle o.handle) c.args.on c.self.inside.listed.items es c.self.invariant)
