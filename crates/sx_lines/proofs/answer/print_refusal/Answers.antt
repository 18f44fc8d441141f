use Rattle.std.proofs.Common.{◌++◌, [], ◌∷◌}
use Rattle.std.specs.Prelude.{codes}
use Rattle.std.specs.List.{concat}
use Rattle.sx_base.specs.declared.fault.Failed.{Failed}
use Rattle.sx_base.proofs.Writing.{prints_more, prints_front}
use Rattle.sx_reply.specs.Refusals.{message_of}
use Rattle.sx_lines.specs.Answers.{refusal_front, refusal_line}
use Rattle.sx_lines.proofs.answer.print_refusal.Goals as goal

pub returns-in-Ok : goal.returns-in-Ok
unfolding refusal_line
returns-in-Ok g c =
    prints_more {E = Failed} g.K.Sink.wrote g.K.Sink.write_count g.K.Sink.puts g.met.K.Sink.puts_more
    c.args.sink.now c.print_message.new.sink c.print_words.new.sink
    (refusal_front c.args.place c.args.locking c.args.refusal.now ++ message_of c.args.refusal.now) (concat (codes "\n" ∷ [])) tt c.print_words.result
    c.in-Ok.ensures c.print_words.ensures

pub returns-in-Err : goal.returns-in-Err
unfolding refusal_line
returns-in-Err g c =
    prints_front g.K.Sink.wrote g.K.Sink.write_count g.K.Sink.puts c.args.sink.now c.print_message.new.sink
    (refusal_front c.args.place c.args.locking c.args.refusal.now ++ message_of c.args.refusal.now) (concat (codes "\n" ∷ [])) c.in-Err.failed c.in-Err.ensures
