use Rattle.std.specs.List.{flat_map}
use Rattle.sx_base.specs.declared.fault.Failed.{Failed}
use Rattle.sx_lines.specs.Printed.{word_text, middle_text}
use Rattle.sx_reply.proofs.Gathering.{gathers_more, gathers_stop}
use Rattle.sx_lines.proofs.middle.gather_front.Goals as goal

pub returns-in-Ok : goal.returns-in-Ok
returns-in-Ok g c =
    gathers_more {E = Failed} g.K.Sink.wrote g.K.Sink.write_count g.K.Sink.puts g.met.K.Sink.puts_more
    c.args.sink.now c.gather.new.sink c.gather_middle.new.sink c.args.gathered.now.items c.gather.new.gathered.items c.gather_middle.new.gathered.items
    (flat_map word_text c.args.front.now) (middle_text c.args.middle.now) c.gather_middle.result c.in-Ok.ensures c.gather_middle.ensures

pub returns-in-Err : goal.returns-in-Err
returns-in-Err g c =
    gathers_stop {E = Failed} g.K.Sink.wrote g.K.Sink.write_count g.K.Sink.puts
    c.args.sink.now c.gather.new.sink c.args.gathered.now.items c.gather.new.gathered.items c.gather.new.gathered.items
    (flat_map word_text c.args.front.now) (middle_text c.args.middle.now) c.in-Err.failed c.in-Err.ensures
