use Rattle.sx_run.proofs.service.prepare.Goals as goal

pub returns-in-Err-clause-cause : goal.returns-in-Err-clause-cause
returns-in-Err-clause-cause g c = (c.in-Err.ensures.cause.failed, (c.args.rest_port, c.args.smb_port, c.in-Err.ensures.err.behind))
