use Rattle.sx_listing.specs.Percent.{percent_byte}
use Rattle.sx_base.specs.declared.fault.Failed.{Failed}
use Rattle.sx_reply.proofs.Gathering.{HasGathered}
use Rattle.sx_lines.proofs.gather.gather_percent.Given as goal

abbrev pub invariant-loop-byte : goal.invariant-loop-byte
invariant-loop-byte g l = HasGathered Failed g.K.Sink.wrote g.K.Sink.write_count g.K.Sink.puts g.met.K.Sink.puts_more percent_byte
    l.fn.sink l.sink l.fn.gathered.items l.gathered.items l.bytes l.byte-index
