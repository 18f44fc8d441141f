use Rattle.std.proofs.Common.{◌++◌}
use Rattle.std.specs.List.{flat_map}
use Rattle.sx_base.specs.declared.fault.Failed.{Failed}
use Rattle.sx_lines.specs.Printed.{word_text, middle_text}
use Rattle.sx_reply.proofs.Gathering.{gathered_last}
use Rattle.sx_lines.proofs.middle.print_parts.Goals as goal

pub returns-in-Ok : goal.returns-in-Ok
returns-in-Ok g c =
    gathered_last {E = Failed} g.K.Sink.wrote g.K.Sink.write_count g.K.Sink.puts g.met.K.Sink.puts_more
    c.args.sink.now c.gather_parts.new.sink c.put_gathered.new.sink c.gather_parts.new.gathered.items
    (flat_map word_text c.args.front.now ++ middle_text c.args.middle.now ++ flat_map word_text c.args.last.now) c.put_gathered.result
    (rw c.new-gathered.ensures at c.in-Ok.ensures) c.put_gathered.ensures.printed
