use Rattle.sx_http.proofs.Reasons.{request_given}
use Rattle.sx_http.proofs.reader.Reader.give_held.Goals as goal

pub returns-in-Ok-clause-answered : goal.returns-in-Ok-clause-answered
returns-in-Ok-clause-answered c left =
    request_given c.args.self.now c.cut_off.new.self c.args.found c.in-Ok.body left c.requires.head c.requires.whole c.in-Ok.ensures.ok.0 c.in-Ok.ensures.ok.1
