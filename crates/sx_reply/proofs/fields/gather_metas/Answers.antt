use Rattle.sx_reply.specs.Headers.{pair_text}
use Rattle.sx_base.specs.declared.fault.Failed.{Failed}
use Rattle.sx_reply.proofs.Gathering.{struct_stops, struct_more, items_done}
use Rattle.sx_reply.proofs.fields.gather_metas.Goals as goal

pub returns-in-Err : goal.returns-in-Err
returns-in-Err g c =
    let l = c.loop-pair in
    struct_stops Failed g.K.Sink.wrote g.K.Sink.write_count g.K.Sink.puts g.met.K.Sink.puts_more pair_text
    c.args.sink.now l.sink c.gather_pair.new.sink c.args.gathered.now.items l.gathered.items c.gather_pair.new.gathered.items
    c.args.pairs.now l.pair-index c.pair-item.result c.in-Err.failed c.loop-pair-test.true c.pair-item.is l.invariant c.in-Err.ensures

pub loop-pair-preserved : goal.loop-pair-preserved
loop-pair-preserved g c =
    let l = c.loop-pair in
    struct_more Failed g.K.Sink.wrote g.K.Sink.write_count g.K.Sink.puts g.met.K.Sink.puts_more pair_text
    c.args.sink.now l.sink c.gather_pair.new.sink c.args.gathered.now.items l.gathered.items c.gather_pair.new.gathered.items
    c.args.pairs.now l.pair-index c.pair-item.result c.loop-pair-test.true c.pair-item.is l.invariant c.in-Ok.ensures

pub returns : goal.returns
returns g c =
    let l = c.loop-pair in
    items_done Failed g.K.Sink.wrote g.K.Sink.write_count g.K.Sink.puts g.met.K.Sink.puts_more pair_text
    c.args.sink.now l.sink c.args.gathered.now.items l.gathered.items c.args.pairs.now l.pair-index
    c.loop-pair-test.false l.invariant
