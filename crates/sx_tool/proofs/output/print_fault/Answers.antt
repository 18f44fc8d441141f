use Rattle.sx_tool.proofs.output.print_fault.Goals as goal

pub returns-in-TooOld-clause-reports : goal.returns-in-TooOld-clause-reports
returns-in-TooOld-clause-reports g c = rw c.in-TooOld.is c.print_moments.ensures.reports

pub returns-in-Differs-clause-reports : goal.returns-in-Differs-clause-reports
returns-in-Differs-clause-reports g c = rw c.in-Differs.is c.print_all-in-Differs.ensures.reports
