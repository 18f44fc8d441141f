use Rattle.sx_lines.specs.Printed.{item_text}
use Rattle.sx_base.specs.declared.fault.Failed.{Failed}
use Rattle.sx_reply.proofs.Gathering.{HasGathered}
use Rattle.sx_lines.proofs.middle.gather_items.Given as goal

abbrev pub invariant-loop-item : goal.invariant-loop-item
invariant-loop-item g l = HasGathered Failed g.K.Sink.wrote g.K.Sink.write_count g.K.Sink.puts g.met.K.Sink.puts_more item_text
    l.fn.sink l.sink l.fn.gathered.items l.gathered.items l.items l.item-index
