use Rattle.sx_lines.specs.Printed.{slashed}
use Rattle.sx_base.specs.declared.fault.Failed.{Failed}
use Rattle.sx_reply.proofs.Gathering.{struct_stops, struct_more, items_done}
use Rattle.sx_lines.proofs.middle.gather_slashed.Goals as goal

pub returns-in-Err : goal.returns-in-Err
returns-in-Err g c =
    let l = c.loop-part in
    struct_stops Failed g.K.Sink.wrote g.K.Sink.write_count g.K.Sink.puts g.met.K.Sink.puts_more slashed
    c.args.sink.now l.sink c.gather_part.new.sink c.args.gathered.now.items l.gathered.items c.gather_part.new.gathered.items
    c.args.parts.now l.part-index c.part-item.result c.in-Err.failed c.loop-part-test.true c.part-item.is l.invariant c.in-Err.ensures

pub loop-part-preserved : goal.loop-part-preserved
loop-part-preserved g c =
    let l = c.loop-part in
    struct_more Failed g.K.Sink.wrote g.K.Sink.write_count g.K.Sink.puts g.met.K.Sink.puts_more slashed
    c.args.sink.now l.sink c.gather_part.new.sink c.args.gathered.now.items l.gathered.items c.gather_part.new.gathered.items
    c.args.parts.now l.part-index c.part-item.result c.loop-part-test.true c.part-item.is l.invariant c.in-Ok.ensures

pub returns : goal.returns
returns g c =
    let l = c.loop-part in
    items_done Failed g.K.Sink.wrote g.K.Sink.write_count g.K.Sink.puts g.met.K.Sink.puts_more slashed
    c.args.sink.now l.sink c.args.gathered.now.items l.gathered.items c.args.parts.now l.part-index
    c.loop-part-test.false l.invariant
