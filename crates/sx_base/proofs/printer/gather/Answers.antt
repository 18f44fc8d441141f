use Rattle.sx_base.specs.declared.fault.Failed.{Failed}
use Rattle.sx_base.proofs.Printing.{gathered_next}
use Rattle.sx_base.proofs.printer.gather.Goals as goal

pub returns-in-Ok : goal.returns-in-Ok
returns-in-Ok g c =
    gathered_next Failed g.K.Sink.wrote g.K.Sink.write_count g.K.Sink.puts g.met.K.Sink.puts_more
    c.args.sink.now c.put_gathered.new.sink c.gather_next.new.sink c.args.gathered.now.items c.gather_next.new.gathered.items c.args.bytes.now
    c.gather_next.result (rw c.in-Err.ensures.err at c.in-Ok.ensures.printed) c.gather_next.ensures
