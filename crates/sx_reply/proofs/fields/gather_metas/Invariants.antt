use Rattle.sx_reply.specs.Headers.{pair_text}
use Rattle.sx_base.specs.declared.fault.Failed.{Failed}
use Rattle.sx_reply.proofs.Gathering.{HasGathered}
use Rattle.sx_reply.proofs.fields.gather_metas.Given as goal

abbrev pub invariant-loop-pair : goal.invariant-loop-pair
invariant-loop-pair g l = HasGathered Failed g.K.Sink.wrote g.K.Sink.write_count g.K.Sink.puts g.met.K.Sink.puts_more pair_text
    l.fn.sink l.sink l.fn.gathered.items l.gathered.items l.pairs l.pair-index
