use Rattle.std.proofs.Common.{◌++◌}
use Rattle.std.specs.List.{flat_map}
use Rattle.sx_reply.specs.Fields.{field_text}
use Rattle.sx_reply.specs.Pages.{front_text}
use Rattle.sx_base.specs.declared.fault.Failed.{Failed}
use Rattle.sx_reply.proofs.Gathering.{gathers_more, gathers_stop}
use Rattle.sx_reply.proofs.frame.gather_front.Goals as goal

pub returns-in-Ok : goal.returns-in-Ok
returns-in-Ok g c =
    gathers_more {E = Failed} g.K.Sink.wrote g.K.Sink.write_count g.K.Sink.puts g.met.K.Sink.puts_more
    c.args.sink.now c.gather_status.new.sink c.gather_fields.new.sink c.args.gathered.now.items c.gather_status.new.gathered.items c.gather_fields.new.gathered.items
    (front_text c.args.frame.now.status c.args.frame.now.place c.args.frame.now.at) (flat_map field_text c.args.headers.now) c.gather_fields.result c.in-Ok.ensures c.gather_fields.ensures

pub returns-in-Err : goal.returns-in-Err
returns-in-Err g c =
    gathers_stop {E = Failed} g.K.Sink.wrote g.K.Sink.write_count g.K.Sink.puts
    c.args.sink.now c.gather_status.new.sink c.args.gathered.now.items c.gather_status.new.gathered.items c.gather_status.new.gathered.items
    (front_text c.args.frame.now.status c.args.frame.now.place c.args.frame.now.at) (flat_map field_text c.args.headers.now) c.in-Err.failed c.in-Err.ensures
