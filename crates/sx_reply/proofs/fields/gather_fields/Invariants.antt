use Rattle.sx_reply.specs.Fields.{field_text}
use Rattle.sx_base.specs.declared.fault.Failed.{Failed}
use Rattle.sx_reply.proofs.Gathering.{HasGathered}
use Rattle.sx_reply.proofs.fields.gather_fields.Given as goal

abbrev pub invariant-loop-field : goal.invariant-loop-field
invariant-loop-field g l = HasGathered Failed g.K.Sink.wrote g.K.Sink.write_count g.K.Sink.puts g.met.K.Sink.puts_more field_text
    l.fn.sink l.sink l.fn.gathered.items l.gathered.items l.fields l.field-index
