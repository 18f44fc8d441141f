use Rattle.std.proofs.Common.{inl, inr}
use Rattle.sx_tool.proofs.tool.run_tool.Goals as goal

pub returns-in-Sign-clause-runs : goal.returns-in-Sign-clause-runs
returns-in-Sign-clause-runs g c = inr (inr (inl (c.in-Sign.account, c.in-Sign.ensures, c.sign_input.ensures.signs)))

pub returns-in-Check-clause-runs : goal.returns-in-Check-clause-runs
returns-in-Check-clause-runs g c = inr (inr (inr (c.in-Check.account, c.in-Check.now, c.in-Check.ensures, c.check_input.ensures.checks)))
