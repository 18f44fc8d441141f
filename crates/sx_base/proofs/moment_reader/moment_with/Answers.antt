use Rattle.std.proofs.Common.{sym, ap, ◌∙◌}
use Rattle.sx_base.specs.Moment.{moment_of}
use Rattle.sx_base.proofs.CivilFields.{civil_fields, fields_in_time, shown_moment, shown_fields}
use Rattle.sx_base.proofs.MomentFields.{in_calendar, fields_are, moment_back}
use Rattle.sx_base.proofs.moment_reader.moment_with.Goals as goal

pub civil_time_of-requires : goal.civil_time_of-requires
civil_time_of-requires c =
    let m = c.args.fields in
    civil_fields m.0.0 m.0.1.0 m.0.1.1 m.1.0.0 m.1.0.1.0 m.1.0.1.1 m.1.1 c.requires

pub moment_of-requires : goal.moment_of-requires
moment_of-requires c =
    let m = c.args.fields in
    shown_moment c.civil_time_of.result m.0.0 m.0.1.0 m.0.1.1 m.1.0.0 m.1.0.1.0 m.1.0.1.1 m.1.1 c.civil_time_of.ensures
    (civil_fields m.0.0 m.0.1.0 m.0.1.1 m.1.0.0 m.1.0.1.0 m.1.0.1.1 m.1.1 c.requires)
    (fields_in_time m.0.0 m.0.1.0 m.0.1.1 m.1.0.0 m.1.0.1.0 m.1.0.1.1 m.1.1 c.requires)

pub returns-clause-moment : goal.returns-clause-moment
returns-clause-moment c =
    let m = c.args.fields in
    let dt = c.civil_time_of.result in
    let at = c.moment_of.result in
    let is = c.moment_of.ensures.moment in
    let shown = shown_fields dt m.0.0 m.0.1.0 m.0.1.1 m.1.0.0 m.1.0.1.0 m.1.0.1.1 m.1.1 c.civil_time_of.ensures in
    sym (moment_back at (in_calendar dt at is)) ∙ ap moment_of (sym (fields_are dt at is) ∙ shown)
