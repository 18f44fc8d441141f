use Rattle.std.proofs.Common.{◌≡◌, None}
use Rattle.sx_call.specs.declared.calls.Call.TheVariants as call
use Rattle.sx_spec.specs.Checks.{file_checks, first_check}
use Rattle.sx_ops_file.proofs.Begins.{list_begins}
use Rattle.sx_ops_file.proofs.bytes.list_ranges.Goals as goal

pub ranges_listed-requires : goal.ranges_listed-requires
ranges_listed-requires c =
    let p = c.in-Ok.place in
    let none : first_check c.args.state.now (file_checks (call.ListRanges c.args.call.now) p) ≡ None = cc in
    list_begins c.args.state.now p c.args.call.now none
