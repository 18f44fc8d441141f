use Rattle.std.proofs.Common.{List, ℕ, subst}
use Rattle.sx_base.specs.Printer.{Gathers}
use Rattle.sx_base.specs.declared.fault.Failed.{Failed}
use Rattle.sx_reply.proofs.Escaping.{escaped_words}
use Rattle.sx_reply.proofs.escapes.gather_escaped.Goals as goal

pub returns : goal.returns
returns g c =
    subst (λ (t : List ℕ). Gathers {E = Failed} g.K.Sink.wrote g.K.Sink.write_count g.K.Sink.puts c.args.sink.now c.gather_escaped_words.new.sink
    c.args.gathered.now.items c.gather_escaped_words.new.gathered.items t c.gather_escaped_words.result)
    (escaped_words c.args.words.now) c.gather_escaped_words.ensures
