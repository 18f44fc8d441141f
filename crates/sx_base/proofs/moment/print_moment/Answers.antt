use Rattle.sx_base.proofs.moment.print_moment.Goals as goal

pub returns : goal.returns
returns c =
    let p = c.to_plain-plain.ensures in
    let y = c.year_of.ensures in
    (c.civil_time-time.result, c.civil_time-time.ensures, rw (← y) (rw p at c.print_fields.ensures))
