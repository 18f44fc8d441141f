use Rattle.std.proofs.Common.{◌++◌}
use Rattle.std.specs.List.{flat_map}
use Rattle.sx_base.specs.declared.fault.Failed.{Failed}
use Rattle.sx_reply.specs.Fields.{field_text}
use Rattle.sx_reply.specs.Pages.{front_text, end_text}
use Rattle.sx_reply.proofs.Gathering.{gathered_last}
use Rattle.sx_reply.proofs.frame.print_page.Goals as goal

pub returns-in-Ok : goal.returns-in-Ok
returns-in-Ok g c =
    gathered_last {E = Failed} g.K.Sink.wrote g.K.Sink.write_count g.K.Sink.puts g.met.K.Sink.puts_more
    c.args.sink.now c.gather_page.new.sink c.put_gathered.new.sink c.gather_page.new.gathered.items
    (front_text c.args.frame.now.status c.args.frame.now.place c.args.frame.now.at ++ flat_map field_text c.args.headers.now
    ++ end_text c.args.frame.now.length c.args.frame.now.close ++ flat_map field_text c.args.body.now) c.put_gathered.result
    (rw c.new-gathered.ensures at c.in-Ok.ensures) c.put_gathered.ensures.printed
