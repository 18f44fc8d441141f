use Rattle.sx_reply.specs.Fields.{field_text}
use Rattle.sx_base.specs.declared.fault.Failed.{Failed}
use Rattle.sx_reply.proofs.Gathering.{struct_stops, struct_more, items_done}
use Rattle.sx_reply.proofs.fields.gather_fields.Goals as goal

pub returns-in-Err : goal.returns-in-Err
returns-in-Err g c =
    let l = c.loop-field in
    struct_stops Failed g.K.Sink.wrote g.K.Sink.write_count g.K.Sink.puts g.met.K.Sink.puts_more field_text
    c.args.sink.now l.sink c.gather_field.new.sink c.args.gathered.now.items l.gathered.items c.gather_field.new.gathered.items
    c.args.fields.now l.field-index c.field-item.result c.in-Err.failed c.loop-field-test.true c.field-item.is l.invariant c.in-Err.ensures

pub loop-field-preserved : goal.loop-field-preserved
loop-field-preserved g c =
    let l = c.loop-field in
    struct_more Failed g.K.Sink.wrote g.K.Sink.write_count g.K.Sink.puts g.met.K.Sink.puts_more field_text
    c.args.sink.now l.sink c.gather_field.new.sink c.args.gathered.now.items l.gathered.items c.gather_field.new.gathered.items
    c.args.fields.now l.field-index c.field-item.result c.loop-field-test.true c.field-item.is l.invariant c.in-Ok.ensures

pub returns : goal.returns
returns g c =
    let l = c.loop-field in
    items_done Failed g.K.Sink.wrote g.K.Sink.write_count g.K.Sink.puts g.met.K.Sink.puts_more field_text
    c.args.sink.now l.sink c.args.gathered.now.items l.gathered.items c.args.fields.now l.field-index
    c.loop-field-test.false l.invariant
