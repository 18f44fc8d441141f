use Rattle.sx_heads.proofs.MetaHeaders.{meta_step}
use Rattle.sx_heads.proofs.fields.put_metas.Goals as goal

pub loop-pair-preserved : goal.loop-pair-preserved
loop-pair-preserved c =
    meta_step c.loop-pair.headers c.put_meta.new.headers c.args.pairs.now c.loop-pair.pair-index c.pair-item.result _
    c.loop-pair-test.true c.loop-pair.invariant c.in_ok-put_meta.ensures c.pair-item.is
