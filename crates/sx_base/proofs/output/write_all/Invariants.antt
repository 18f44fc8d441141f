use Rattle.sx_base.specs.Output.{holds}
use Rattle.sx_base.proofs.Writing.{WritesFront}
use Rattle.sx_base.proofs.output.write_all.Given as goal

abbrev pub invariant-loop : goal.invariant-loop
invariant-loop g l = WritesFront (holds g.W.Write.contents) l.fn.writer l.writer l.bytes l.rest
