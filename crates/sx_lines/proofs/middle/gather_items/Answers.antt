use Rattle.sx_lines.specs.Printed.{item_text}
use Rattle.sx_base.specs.declared.fault.Failed.{Failed}
use Rattle.sx_reply.proofs.Gathering.{struct_stops, struct_more, items_done}
use Rattle.sx_lines.proofs.middle.gather_items.Goals as goal

pub returns-in-Err : goal.returns-in-Err
returns-in-Err g c =
    let l = c.loop-item in
    struct_stops Failed g.K.Sink.wrote g.K.Sink.write_count g.K.Sink.puts g.met.K.Sink.puts_more item_text
    c.args.sink.now l.sink c.gather_item.new.sink c.args.gathered.now.items l.gathered.items c.gather_item.new.gathered.items
    c.args.items.now l.item-index c.item-item.result c.in-Err.failed c.loop-item-test.true c.item-item.is l.invariant c.in-Err.ensures

pub loop-item-preserved : goal.loop-item-preserved
loop-item-preserved g c =
    let l = c.loop-item in
    struct_more Failed g.K.Sink.wrote g.K.Sink.write_count g.K.Sink.puts g.met.K.Sink.puts_more item_text
    c.args.sink.now l.sink c.gather_item.new.sink c.args.gathered.now.items l.gathered.items c.gather_item.new.gathered.items
    c.args.items.now l.item-index c.item-item.result c.loop-item-test.true c.item-item.is l.invariant c.in-Ok.ensures

pub returns : goal.returns
returns g c =
    let l = c.loop-item in
    items_done Failed g.K.Sink.wrote g.K.Sink.write_count g.K.Sink.puts g.met.K.Sink.puts_more item_text
    c.args.sink.now l.sink c.args.gathered.now.items l.gathered.items c.args.items.now l.item-index
    c.loop-item-test.false l.invariant
