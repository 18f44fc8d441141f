use Rattle.std.proofs.Common.{[]}
use Rattle.sx_lines.specs.Printed.{word_text}
use Rattle.sx_base.specs.declared.fault.Failed.{Failed}
use Rattle.sx_lines.specs.declared.gather.Word.{Word}
use Rattle.sx_lines.specs.declared.gather.Word.TheVariants.{Text}
use Rattle.sx_reply.proofs.Gathering.{item_stops, item_more, items_done}
use Rattle.sx_lines.proofs.gather.gather.Goals as goal

none : Word
none = Text (record { ref_ptr = (0, 0); now = [] })

pub returns-in-Err : goal.returns-in-Err
unfolding none
returns-in-Err g c =
    let l = c.loop-word in
    item_stops Failed g.K.Sink.wrote g.K.Sink.write_count g.K.Sink.puts g.met.K.Sink.puts_more word_text
    c.args.sink.now l.sink c.gather_word.new.sink c.args.gathered.now.items l.gathered.items c.gather_word.new.gathered.items
    c.args.words.now l.word-index none c.in-Err.failed c.loop-word-test.true l.invariant c.in-Err.ensures

pub loop-word-preserved : goal.loop-word-preserved
unfolding none
loop-word-preserved g c =
    let l = c.loop-word in
    item_more Failed g.K.Sink.wrote g.K.Sink.write_count g.K.Sink.puts g.met.K.Sink.puts_more word_text
    c.args.sink.now l.sink c.gather_word.new.sink c.args.gathered.now.items l.gathered.items c.gather_word.new.gathered.items
    c.args.words.now l.word-index none c.loop-word-test.true l.invariant c.in-Ok.ensures

pub returns : goal.returns
returns g c =
    let l = c.loop-word in
    items_done Failed g.K.Sink.wrote g.K.Sink.write_count g.K.Sink.puts g.met.K.Sink.puts_more word_text
    c.args.sink.now l.sink c.args.gathered.now.items l.gathered.items c.args.words.now l.word-index
    c.loop-word-test.false l.invariant
