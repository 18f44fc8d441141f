use Rattle.sx_decode.proofs.MetaValues.{values_step}
use Rattle.sx_decode.proofs.metadata.values_by_name.Goals as goal

pub loop-header-preserved : goal.loop-header-preserved
loop-header-preserved c =
    values_step c.args.headers.now c.loop-header.header-index c.header-item.result c.loop-header.values.entries c.put_value.new.values.entries
    c.loop-header-test.true c.header-item.is c.loop-header.invariant c.in_ok-put_value.ensures
