use Rattle.sx_base.specs.declared.fault.Failed.{Failed}
use Rattle.sx_base.proofs.Writing.{prints_more, prints_front}
use Rattle.sx_reply.specs.Refusals.{message_of}
use Rattle.sx_lines.specs.Answers.{refusal_front}
use Rattle.sx_lines.proofs.answer.print_message.Goals as goal

pub returns-in-Ok : goal.returns-in-Ok
returns-in-Ok g c =
    prints_more {E = Failed} g.K.Sink.wrote g.K.Sink.write_count g.K.Sink.puts g.met.K.Sink.puts_more
    c.args.sink.now c.print_refusal_word.new.sink c.put_message.new.sink
    (refusal_front c.args.place c.args.locking c.args.refusal.now) (message_of c.args.refusal.now) tt c.put_message.result
    c.in-Ok.ensures c.put_message.ensures

pub returns-in-Err : goal.returns-in-Err
returns-in-Err g c =
    prints_front g.K.Sink.wrote g.K.Sink.write_count g.K.Sink.puts c.args.sink.now c.print_refusal_word.new.sink
    (refusal_front c.args.place c.args.locking c.args.refusal.now) (message_of c.args.refusal.now) c.in-Err.failed c.in-Err.ensures
