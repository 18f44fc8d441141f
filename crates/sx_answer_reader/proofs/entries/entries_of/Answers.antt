use Rattle.std.proofs.Common.{rules}
use Rattle.sx_answer_reader.specs.Entries.{entries_of}
use Rattle.sx_answer_reader.proofs.EntryLists.{entries_next, entries_err, entries_done, entries_left}
use Rattle.sx_answer_reader.proofs.entries.entries_of.Goals as goal

pub returns-in-Err : goal.returns-in-Err
returns-in-Err c =
    let l = c.loop-turn in
    entries_err c.in-Err.unread (entries_of c.args.count c.args.first.now) l.entries c.args.count l._turn l.behind.now c.next_word.result.now
    c.next_word.ensures (search rules) l.invariant c.in-Err.ensures

pub loop-turn-preserved : goal.loop-turn-preserved
loop-turn-preserved c =
    let l = c.loop-turn in
    entries_next (entries_of c.args.count c.args.first.now) l.entries c.push.new.self c.args.count l._turn l.behind.now c.next_word.result.now
    c.behind_next-behind.result.now c.in-Ok.entry c.next_word.ensures c.behind_next-behind.ensures c.in_ok-push-in-Ok.ensures.ok (search rules)
    l.invariant c.in-Ok.ensures

pub returns-in-Ok-end_of : goal.returns-in-Ok-end_of
returns-in-Ok-end_of c =
    let l = c.loop-turn in
    entries_done (entries_of c.args.count c.args.first.now) l.entries c.args.count l._turn l.behind.now c.in-Ok-end_of.field-0 (search rules)
    l.invariant c.in-Ok-end_of.ensures

pub returns-in-Err-end_of : goal.returns-in-Err-end_of
returns-in-Err-end_of c =
    let l = c.loop-turn in
    entries_left c.in-Err-end_of.unread (entries_of c.args.count c.args.first.now) l.entries c.args.count l._turn l.behind.now (search rules)
    l.invariant c.in-Err-end_of.ensures
