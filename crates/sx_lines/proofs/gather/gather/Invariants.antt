use Rattle.sx_lines.specs.Printed.{word_text}
use Rattle.sx_base.specs.declared.fault.Failed.{Failed}
use Rattle.sx_reply.proofs.Gathering.{HasGathered}
use Rattle.sx_lines.proofs.gather.gather.Given as goal

abbrev pub invariant-loop-word : goal.invariant-loop-word
invariant-loop-word g l = HasGathered Failed g.K.Sink.wrote g.K.Sink.write_count g.K.Sink.puts g.met.K.Sink.puts_more word_text
    l.fn.sink l.sink l.fn.gathered.items l.gathered.items l.words l.word-index
