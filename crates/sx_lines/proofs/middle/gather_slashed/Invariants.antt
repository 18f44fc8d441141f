use Rattle.sx_lines.specs.Printed.{slashed}
use Rattle.sx_base.specs.declared.fault.Failed.{Failed}
use Rattle.sx_reply.proofs.Gathering.{HasGathered}
use Rattle.sx_lines.proofs.middle.gather_slashed.Given as goal

abbrev pub invariant-loop-part : goal.invariant-loop-part
invariant-loop-part g l = HasGathered Failed g.K.Sink.wrote g.K.Sink.write_count g.K.Sink.puts g.met.K.Sink.puts_more slashed
    l.fn.sink l.sink l.fn.gathered.items l.gathered.items l.parts l.part-index
