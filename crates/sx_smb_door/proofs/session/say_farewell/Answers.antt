use Rattle.std.proofs.Common.{refl}
use Rattle.sx_smb_door.proofs.session.say_farewell.Goals as goal

pub returns-in-Some-clause-said : goal.returns-in-Some-clause-said
returns-in-Some-clause-said g c = rw c.in-Some.is (refl, refl)

pub returns-in-Some-clause-step : goal.returns-in-Some-clause-step
returns-in-Some-clause-step g c = g.met.K.Sink.puts_none c.args.sink.now

pub returns-in-Ok-clause-said : goal.returns-in-Ok-clause-said
returns-in-Ok-clause-said g c = rw c.in-None.is (c.in-Ok.ensures.ok.behind, c.in-Ok.ensures.cause.kept)

pub returns-in-Ok-clause-step : goal.returns-in-Ok-clause-step
returns-in-Ok-clause-step g c = c.in-Ok.ensures.step

pub returns-clause-said : goal.returns-clause-said
returns-clause-said g c = rw c.in-None.is (c.in-Err.ensures.err.behind, c.in-Err.ensures.cause.failed)

pub returns-clause-step : goal.returns-clause-step
returns-clause-step g c = c.in-Err.ensures.step
