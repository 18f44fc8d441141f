use Rattle.std.proofs.Common.{length, arith}
use Rattle.sx_base.proofs.DateReading.{shown-reading}
use Rattle.sx_base.proofs.date_reader.take_date.Goals as goal

pub moment_shown_by-requires : goal.moment_shown_by-requires
moment_shown_by-requires c =
    ((shown-reading (length c.args.bytes.now)).takes c.args.bytes.now c.in_ok-shown.shown c.in_ok-shown.rest.now (omega arith) c.in_ok-shown.ensures).0
