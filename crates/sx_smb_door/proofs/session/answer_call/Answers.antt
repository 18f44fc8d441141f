use Rattle.std.proofs.Common.{◌≡◌, ◌+◌, Some, refl, sym, subst, ap, true, Bool}
use Rattle.sx_answers.specs.SessionReply.{is_session_door}
use Rattle.sx_book.specs.Passes.{MayAskBy}
use Rattle.sx_call.specs.declared.doors.Door.{Door}
use Rattle.sx_call.specs.Calls.{door_of}
use Rattle.sx_lines.specs.Answers.{has_line}
use Rattle.sx_lines.specs.declared.answer.LineAnswer.TheVariants.{Core}
use Rattle.sx_smb_door.specs.Asking.{IsAsked}
use Rattle.sx_smb_door.proofs.Asks.{appended_call, stopped_call, receipt_line}
use Rattle.sx_smb_door.proofs.session.answer_call.Goals as goal

pub ask-requires-clause-call : goal.ask-requires-clause-call
ask-requires-clause-call g c = subst (λ (d : Door). MayAskBy c.args.pass.now (Some c.args.session.now) d) (sym c.requires.call) c.requires.held

pub returns-in-Ok-clause-asked : goal.returns-in-Ok-clause-asked
returns-in-Ok-clause-asked g c =
    let door : is_session_door (door_of c.args.call) ≡ true = ap is_session_door c.requires.call in
    let line : has_line c.in-Ok.receipt.reply ≡ true = receipt_line c.session_replies_are_printed.ensures c.args.pass.now c.ask.new.pass c.args.session.now c.now-now.result 0 c.args.call c.in-Ok.receipt door c.in-Ok.ensures.ok in
    let P : Bool → Type 0 = λ (locking : Bool). IsAsked g.C.Clock.ticks c.args.session.now c.args.call (record { pass = c.args.pass.now; clock = c.args.clock.now; tally = c.args.tally.now })
    (record { pass = c.ask.new.pass; clock = c.now-now.new.self; tally = record c.args.tally.now { asked = c.args.tally.now.asked + 1 } }) (Core c.in-Ok.receipt.place c.in-Ok.receipt.reply locking) in
    subst P (sym c.locks_bytes-locking.ensures) (
    appended_call g.C.Clock.ticks c.args.session.now c.args.call (record { pass = c.args.pass.now; clock = c.args.clock.now; tally = c.args.tally.now })
    (record { pass = c.ask.new.pass; clock = c.now-now.new.self; tally = record c.args.tally.now { asked = c.args.tally.now.asked + 1 } })
    c.now-now.result c.in-Ok.receipt line (c.in-Ok.ensures.held c.args.session.now c.requires.held) c.now-now.ensures.step c.in-Ok.ensures.ok refl)

pub returns-in-Err-clause-asked : goal.returns-in-Err-clause-asked
returns-in-Err-clause-asked g c =
    stopped_call g.C.Clock.ticks c.args.session.now c.args.call (record { pass = c.args.pass.now; clock = c.args.clock.now; tally = c.args.tally.now })
    (record { pass = c.ask.new.pass; clock = c.now-now.new.self; tally = c.note.new.self })
    c.now-now.result c.in-Err.stop (c.in-Err.ensures.held c.args.session.now c.requires.held) c.now-now.ensures.step c.in-Err.ensures.stop c.note.ensures
