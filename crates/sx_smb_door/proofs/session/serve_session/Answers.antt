use Rattle.std.proofs.Common.{◌≡◌, ◌<◌, ◌≤◌, ◌^◌, ℕ, [], true, false, ap, ◌∙◌, subst, refl, sym, arith}
use Rattle.sx_answers.specs.SessionReply.{is_session_door}
use Rattle.sx_base.specs.Sides.{Sides}
use Rattle.sx_book.specs.declared.report.ConnEnd.{ConnEnd}
use Rattle.sx_call.specs.declared.calls.Call.TheVariants.{End}
use Rattle.sx_lines.specs.Answers.{answer_line}
use Rattle.sx_lines.specs.declared.answer.LineAnswer.TheVariants.{Core}
use Rattle.sx_smb_door.specs.Asking.{SessionDoorState, caller_in}
use Rattle.sx_book.specs.Reports.{no_tally, report_of, taken_at}
use Rattle.sx_smb_door.specs.Conversation.{SessionConversation, SessionLinkState, ServesLines}
use Rattle.sx_smb_door.specs.LineReaderView.{LineReaderView}
use Rattle.sx_smb_door.proofs.Asks.{receipt_line}
use Rattle.sx_smb_door.proofs.Farewells.{ending, parted, served_again, closed_fits}
use Rattle.sx_smb_door.proofs.Sessions.{session_by, unstarted_by, visit_of}
use Rattle.sx_smb_door.proofs.session.serve_session.Goals as goal

pub say_farewell-end-requires : goal.say_farewell-end-requires
say_farewell-end-requires g c =
    receipt_line c.session_replies_are_printed.ensures c.serve_lines-lines.new.pass c.end_session-receipt.new.pass c.in-Ok.session c.now-now-2.result 0 End c.end_session-receipt.result refl c.end_session-receipt.ensures.ended

pub report-requires : goal.report-requires
report-requires g c =
    let lines = c.serve_lines-lines in
    let bye = c.say_farewell-end in
    let talk = lines.ensures.served.0 in
    let last = answer_line (Core c.end_session-receipt.result.place c.end_session-receipt.result.reply false) in
    let budget : c.new-reader.result.budget ≡ c.args.budget = ap (λ (r : LineReaderView). r.budget) c.new-reader.ensures in
    let sides : Sides = record { left = g.L.Source.left c.args.link.now; reads = g.L.Source.read_count c.args.link.now; writes = g.L.Sink.write_count c.args.link.now } in
    let mid : Sides = record { left = g.L.Source.left lines.new.link; reads = g.L.Source.read_count lines.new.link; writes = g.L.Sink.write_count lines.new.link } in
    let w = caller_in c.start.new.pass c.in-Ok.session in
    let served = subst (λ (n : ℕ). ServesLines w n [] talk (g.L.Sink.wrote c.args.link.now) (g.L.Sink.wrote lines.new.link) sides mid) budget lines.ensures.served.3 in
    let le : lines.new.reader.taken ≤ c.args.budget = subst (λ (n : ℕ). lines.new.reader.taken ≤ n) budget lines.ensures.within in
    let fits : c.args.budget < 2 ^ 64 = omega arith in
    subst (λ (n : ℕ). taken_at bye.result n c.args.budget < 2 ^ 64) (sym c.taken.ensures.value)
    (closed_fits g.L.Sink.wrote g.L.Sink.write_count lines.new.link bye.new.sink last talk c.args.budget lines.new.reader.taken sides mid lines.result bye.result lines.ensures.served.1 bye.ensures.said served.end lines.ensures.served.2.taken_is le fits)

pub returns-clause-conversation : goal.returns-clause-conversation
returns-clause-conversation g c =
    let lines = c.serve_lines-lines in
    let bye = c.say_farewell-end in
    let talk = lines.ensures.served.0 in
    let last = answer_line (Core c.end_session-receipt.result.place c.end_session-receipt.result.reply false) in
    let budget : c.new-reader.result.budget ≡ c.args.budget = ap (λ (r : LineReaderView). r.budget) c.new-reader.ensures in
    let sides : Sides = record { left = g.L.Source.left c.args.link.now; reads = g.L.Source.read_count c.args.link.now; writes = g.L.Sink.write_count c.args.link.now } in
    let mid : Sides = record { left = g.L.Source.left lines.new.link; reads = g.L.Source.read_count lines.new.link; writes = g.L.Sink.write_count lines.new.link } in
    let sides' : Sides = record { left = g.L.Source.left bye.new.sink; reads = g.L.Source.read_count bye.new.sink; writes = g.L.Sink.write_count bye.new.sink } in
    let w = caller_in c.start.new.pass c.in-Ok.session in
    let puts = g.met.L.Link.put_keeps lines.new.link bye.new.sink bye.ensures.step in
    let served = subst (λ (n : ℕ). ServesLines w n [] talk (g.L.Sink.wrote c.args.link.now) (g.L.Sink.wrote lines.new.link) sides mid) budget lines.ensures.served.3 in
    let closed = parted g.L.Sink.wrote g.L.Source.left g.L.Source.read_count g.L.Sink.write_count lines.new.link bye.new.sink w c.args.budget last (g.L.Sink.wrote c.args.link.now) sides talk lines.result bye.result lines.ensures.served.1 served bye.ensures.said puts.rest puts.faults in
    let again = served_again g.C.Clock.ticks w talk bye.result (record { pass = c.start.new.pass; clock = c.now-now.new.self; tally = no_tally }) (record { pass = lines.new.pass; clock = lines.new.clock; tally = lines.new.tally }) lines.new.reader.taken lines.ensures.served.2 in
    let reported : c.report.result ≡ report_of bye.result lines.new.reader.taken c.args.budget lines.new.tally =
    c.report.ensures ∙ ap (λ (n : ℕ). report_of bye.result n c.args.budget lines.new.tally) c.taken.ensures.value in
    subst (λ (n : ℕ). SessionConversation g.C.Clock.ticks (g.L.Sink.wrote c.args.link.now) (g.L.Sink.wrote bye.new.sink) (visit_of c.args.pass.now c.end_session-receipt.new.pass n c.args.budget) (record { sides = sides; clock = c.args.clock.now }) (record { sides = sides'; clock = c.now-now-2.new.self }) c.report.result) c.peer-peer.ensures
    (session_by g.C.Clock.ticks (g.L.Sink.wrote c.args.link.now) (g.L.Sink.wrote bye.new.sink) c.peer-peer.result c.args.budget c.args.pass.now c.end_session-receipt.new.pass
    (record { pass = c.start.new.pass; clock = c.now-now.new.self; tally = no_tally }) (record { pass = lines.new.pass; clock = lines.new.clock; tally = lines.new.tally })
    c.args.clock.now c.now-now-2.new.self c.now-now.result c.now-now-2.result sides sides' c.in-Ok._receipt c.end_session-receipt.result
    c.in-Ok.session (ending talk bye.result) lines.new.reader.taken c.report.result c.now-now.ensures.step c.in-Ok.ensures.ok c.in-Ok.ensures.session.1 again closed c.now-now-2.ensures.step c.end_session-receipt.ensures.ended reported)

pub returns-in-Err-clause-conversation : goal.returns-in-Err-clause-conversation
returns-in-Err-clause-conversation g c =
    let sides : Sides = record { left = g.L.Source.left c.args.link.now; reads = g.L.Source.read_count c.args.link.now; writes = g.L.Sink.write_count c.args.link.now } in
    subst (λ (n : ℕ). SessionConversation g.C.Clock.ticks (g.L.Sink.wrote c.args.link.now) (g.L.Sink.wrote c.args.link.now) (visit_of c.args.pass.now c.start.new.pass n c.args.budget) (record { sides = sides; clock = c.args.clock.now }) (record { sides = sides; clock = c.now-now.new.self }) c.refused.result) c.peer-peer.ensures
    (unstarted_by g.C.Clock.ticks (g.L.Sink.wrote c.args.link.now) c.peer-peer.result c.args.budget c.args.pass.now c.start.new.pass c.now-now.result c.args.clock.now c.now-now.new.self sides c.in-Err.stop c.refused.result c.now-now.ensures.step c.in-Err.ensures.stop c.refused.ensures)

pub returns-clause-held : goal.returns-clause-held
returns-clause-held g c s h =
    let lines = c.serve_lines-lines in
    c.end_session-receipt.ensures.others_held s (c.in-Ok.ensures.other s h) (lines.ensures.keeps s (c.in-Ok.ensures.held s h))

pub returns-clause-calls : goal.returns-clause-calls
returns-clause-calls g c =
    let lines = c.serve_lines-lines in
    let bye = c.say_farewell-end in
    g.met.L.Link.calls_more c.args.link.now lines.new.link bye.new.sink lines.ensures.calls (g.met.L.Link.put_calls lines.new.link bye.new.sink bye.ensures.step)
