use Rattle.std.proofs.Common.{◌≡◌, None}
use Rattle.sx_call.specs.declared.calls.Call.TheVariants as call
use Rattle.sx_spec.specs.Checks.{file_checks, first_check}
use Rattle.sx_ops_file.proofs.Begins.{get_begins}
use Rattle.sx_ops_file.proofs.bytes.get_file.Goals as goal

pub file_bytes-requires : goal.file_bytes-requires
file_bytes-requires c =
    let p = c.in-Ok.place in
    let none : first_check c.args.state.now (file_checks (call.GetFile c.args.call.now) p) ≡ None = cc in
    get_begins c.args.state.now p c.args.call.now none
