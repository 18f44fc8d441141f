use Rattle.std.proofs.Common.{length, arith}
use Rattle.sx_base.proofs.MomentReading.{fields-reading}
use Rattle.sx_base.proofs.moment_reader.take_moment.Goals as goal

pub moment_with-requires : goal.moment_with-requires
moment_with-requires c =
    ((fields-reading (length c.args.bytes.now)).takes c.args.bytes.now c.in_ok-fields.fields c.in_ok-fields.rest.now (omega arith) c.in_ok-fields.ensures).0
