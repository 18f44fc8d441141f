use Rattle.std.proofs.Common.{Some, subst, sym}
use Rattle.sx_book.specs.Passes.{MayAskBy}
use Rattle.sx_call.specs.declared.doors.Door.{Door}
use Rattle.sx_rows.proofs.saying.say.Goals as goal

pub ask-requires-clause-call : goal.ask-requires-clause-call
ask-requires-clause-call g c = subst (λ (d : Door). MayAskBy c.args.pass.now (Some c.args.session.now) d) (sym c.call_of-call.ensures) c.requires.mine
