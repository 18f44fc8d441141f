use Rattle.sx_listing.specs.Percent.{percent_byte}
use Rattle.sx_base.specs.declared.fault.Failed.{Failed}
use Rattle.sx_reply.proofs.Gathering.{item_stops, item_more, items_done}
use Rattle.sx_lines.proofs.gather.gather_percent.Goals as goal

pub returns-in-Err : goal.returns-in-Err
returns-in-Err g c =
    let l = c.loop-byte in
    item_stops Failed g.K.Sink.wrote g.K.Sink.write_count g.K.Sink.puts g.met.K.Sink.puts_more percent_byte
    c.args.sink.now l.sink c.gather_escape.new.sink c.args.gathered.now.items l.gathered.items c.gather_escape.new.gathered.items
    c.args.bytes.now l.byte-index 0 c.in-Err.failed c.loop-byte-test.true l.invariant c.in-Err.ensures

pub loop-byte-preserved : goal.loop-byte-preserved
loop-byte-preserved g c =
    let l = c.loop-byte in
    item_more Failed g.K.Sink.wrote g.K.Sink.write_count g.K.Sink.puts g.met.K.Sink.puts_more percent_byte
    c.args.sink.now l.sink c.gather_escape.new.sink c.args.gathered.now.items l.gathered.items c.gather_escape.new.gathered.items
    c.args.bytes.now l.byte-index 0 c.loop-byte-test.true l.invariant c.in-Ok.ensures

pub returns : goal.returns
returns g c =
    let l = c.loop-byte in
    items_done Failed g.K.Sink.wrote g.K.Sink.write_count g.K.Sink.puts g.met.K.Sink.puts_more percent_byte
    c.args.sink.now l.sink c.args.gathered.now.items l.gathered.items c.args.bytes.now l.byte-index
    c.loop-byte-test.false l.invariant
