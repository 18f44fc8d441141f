use Rattle.std.proofs.Common.{◌≡◌, length, sym, subst, rules}
use Rattle.std.proofs.lemmas.List.{take_rest}
use Rattle.sx_base.specs.Output.{holds}
use Rattle.sx_base.proofs.Writing.{WritesFront, writes_some, writes_stopped, writes_ended, writes_whole}
use Rattle.sx_base.proofs.output.write_all.Goals as goal

pub returns-then-is_empty-clause-ok : goal.returns-then-is_empty-clause-ok
returns-then-is_empty-clause-ok g c =
    let none : length c.loop.rest.now ≡ 0 = search rules in
    writes_whole (holds g.W.Write.contents) c.args.writer.now c.loop.writer c.args.bytes.now c.loop.rest.now none c.loop.invariant

pub returns-in-Err-clause-err : goal.returns-in-Err-clause-err
returns-in-Err-clause-err g c =
    writes_ended (holds g.W.Write.contents) c.args.writer.now c.loop.writer c.write_some.new.writer c.args.bytes.now c.loop.rest.now c.loop.invariant c.in-Err.ensures.err

pub returns-clause-err : goal.returns-clause-err
returns-clause-err g c = writes_stopped (holds g.W.Write.contents) c.args.writer.now c.loop.writer c.args.bytes.now c.loop.rest.now c.loop.invariant

pub loop-preserved : goal.loop-preserved
loop-preserved g c =
    let rest = c.loop.rest.now in
    let n = c.in-Ok.count in
    subst (WritesFront (holds g.W.Write.contents) c.args.writer.now c.write_some.new.writer c.args.bytes.now) (sym (take_rest rest n))
    (writes_some (holds g.W.Write.contents) c.args.writer.now c.loop.writer c.write_some.new.writer c.args.bytes.now rest n c.loop.invariant c.in-Ok.ensures.ok)
