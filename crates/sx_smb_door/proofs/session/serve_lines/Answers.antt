use Rattle.std.proofs.Common.{◌≡◌, ◌++◌, ℕ, List, [], Some, None, Option, inl, inr, refl, sym, ap, ◌∙◌, subst, arith}
use Rattle.std.specs.Io.KnownBytes.{prepend_known, Consumes, Keeps}
use Rattle.std.proofs.KnownBytes.{prepend_known-nil}
use Rattle.sx_base.proofs.Streams.{consumes_none, keeps_same}
use Rattle.sx_base.specs.Sides.{Sides}
use Rattle.sx_book.specs.declared.report.ConnEnd.TheVariants as finish
use Rattle.sx_book.specs.OneHistory.{Outcome, Asks}
use Rattle.sx_book.specs.Passes.{PassView}
use Rattle.sx_smb_door.specs.Asking.{SessionDoorState, caller_in, IsLineAnswered, SaysQuit}
use Rattle.sx_smb_door.specs.Conversation.{Caller, line_answers}
use Rattle.sx_smb_door.specs.Lines.{line_stream, with_line_feed}
use Rattle.sx_lines.specs.Answers.{answer_line}
use Rattle.sx_lines.specs.declared.answer.LineAnswer.TheVariants.{Long}
use Rattle.sx_book.specs.declared.report.Tally.{Tally}
use Rattle.sx_book.proofs.Texts.{text_begun, text_kept, text_more}
use Rattle.sx_smb_door.proofs.Turns.{asked_after, same_caller}
use Rattle.sx_smb_door.proofs.Ends.{run_none, run_more, run_breaks, served_by, stopped_by, quit_by}
use Rattle.sx_smb_door.proofs.session.serve_lines.Goals as goal

pub loop-line-init : goal.loop-line-init
loop-line-init g c = record {
  run = run_none g.C.Clock.ticks (caller_in c.args.pass.now c.args.session.now) (line_stream c.args.reader.now (g.L.Source.left c.args.link.now)) (record { pass = c.args.pass.now; clock = c.args.clock.now; tally = c.args.tally.now }) c.args.reader.now.taken (g.L.Sink.wrote c.args.link.now) c.requires.tally c.requires.reader.1;
  held = c.requires.held;
  keeps = (λ s h. h);
  own = c.requires.own;
  pass = refl;
  budget = refl;
  asked = omega (arith, ap (λ (t : Tally). t.asked) c.requires.tally);
  reads = refl;
  writes = refl;
  calls = g.met.L.Link.calls_none c.args.link.now;
}

-- a pass changes what it has seen and its places alone
pass_kept : (p0 p1 p2 : PassView) (os : List Outcome) → p1 ≡ record p0 { seen = p1.seen; mine = p1.mine } → Asks p1 p2 os → p2 ≡ record p0 { seen = p2.seen; mine = p2.mine }
pass_kept p0 p1 p2 os first then =
    let own : p2 ≡ record p1 { seen = p2.seen; mine = p2.mine } = then.pass ∙ ap (λ (m : List ℕ). record p1 { seen = p2.seen; mine = m }) (sym (ap (λ (p : PassView). p.mine) then.pass)) in
    own ∙ ap (λ (p : PassView). record p { seen = p2.seen; mine = p2.mine }) first

pub loop-line-preserved : goal.loop-line-preserved
loop-line-preserved g c =
    let l = c.loop-line in
    let inv = l.invariant in
    let w : Caller = caller_in c.args.pass.now c.args.session.now in
    let same : caller_in l.pass c.args.session.now ≡ w = ap (λ (p : PassView). caller_in p c.args.session.now) inv.pass in
    let P : List ℕ → Type 0 = λ line. IsLineAnswered g.C.Clock.ticks (caller_in l.pass c.args.session.now) line (record { pass = l.pass; clock = l.clock; tally = l.tally }) (record { pass = c.answer_line-answer.new.pass; clock = c.answer_line-answer.new.clock; tally = c.answer_line-answer.new.tally }) c.in-Some.answer in
    let Q : Caller → Type 0 = λ x. IsLineAnswered g.C.Clock.ticks x c.in-Line.line (record { pass = l.pass; clock = l.clock; tally = l.tally }) (record { pass = c.answer_line-answer.new.pass; clock = c.answer_line-answer.new.clock; tally = c.answer_line-answer.new.tally }) c.in-Some.answer in
    let a = subst Q same (subst P c.as_slice.ensures c.in-Some.ensures.answered) in
    let given = c.in-Line.ensures.answered in
    let reads = g.met.L.Link.read_keeps l.link c.next.new.source c.next.ensures.step in
    let puts = g.met.L.Link.put_keeps c.next.new.source c.print_line.new.sink c.in-Ok.ensures.step in
    let bytes = subst (λ (x : Option (List ℕ)). Consumes (line_stream l.reader (g.L.Source.left l.link)) (line_stream c.next.new.self x) (with_line_feed c.in-Line.line)) (sym puts.rest) given.bytes in
    record {
      run = run_more g.C.Clock.ticks w (line_stream c.args.reader.now (g.L.Source.left c.args.link.now)) (line_stream l.reader (g.L.Source.left l.link)) (line_stream c.next.new.self (g.L.Source.left c.print_line.new.sink))
          (record { pass = c.args.pass.now; clock = c.args.clock.now; tally = c.args.tally.now }) (record { pass = l.pass; clock = l.clock; tally = l.tally }) (record { pass = c.answer_line-answer.new.pass; clock = c.answer_line-answer.new.clock; tally = c.answer_line-answer.new.tally }) l.reader.taken c.next.new.self.taken
          (g.L.Sink.wrote c.args.link.now) (g.L.Sink.wrote l.link) (g.L.Sink.wrote c.next.new.source) (g.L.Sink.wrote c.print_line.new.sink) c.in-Line.line c.in-Some.answer
          inv.run given.one given.short bytes given.taken a (λ m. (reads.written m).0) c.in-Ok.ensures.ok.behind;
      held = a.held;
      keeps = (λ s h. c.answer_line-answer.ensures.keeps s (inv.keeps s h));
      own = ap (λ (p : PassView). p.office) a.calls.pass ∙ inv.own;
      pass = pass_kept c.args.pass.now l.pass c.answer_line-answer.new.pass _ inv.pass a.calls;
      budget = given.budget ∙ inv.budget;
      asked = omega (arith, inv.asked, given.taken, ap (λ (t : Tally). t.asked) a.tallied, asked_after w l.tally a.outcome);
      reads = puts.faults ∙ c.in-Line.ensures.cause ∙ inv.reads;
      writes = c.in-Ok.ensures.cause.kept ∙ reads.faults ∙ inv.writes;
      calls = g.met.L.Link.calls_more c.args.link.now c.next.new.source c.print_line.new.sink
          (g.met.L.Link.calls_more c.args.link.now l.link c.next.new.source inv.calls (g.met.L.Link.read_calls l.link c.next.new.source c.next.ensures.step))
          (g.met.L.Link.put_calls c.next.new.source c.print_line.new.sink c.in-Ok.ensures.step);
    }

-- the stream at the start is the link's
left_first : (held : List ℕ) (left : Option (List ℕ)) → held ≡ [] → prepend_known held left ≡ left
left_first held left e = ap (λ (h : List ℕ). prepend_known h left) e ∙ prepend_known-nil left

-- what a step leaves of the stream, where another leaves what the source has
unread_kept : (stream : Option (List ℕ)) (held : List ℕ) (left left' : Option (List ℕ)) → left' ≡ left → Keeps stream (prepend_known held left) → Keeps stream (prepend_known held left')
unread_kept stream held left left' e h = subst (λ (x : Option (List ℕ)). Keeps stream (prepend_known held x)) (sym e) h

pub returns-in-Err-clause-served : goal.returns-in-Err-clause-served
returns-in-Err-clause-served g c =
    let l = c.loop-line in
    let inv = l.invariant in
    let w : Caller = caller_in c.args.pass.now c.args.session.now in
    let same : caller_in l.pass c.args.session.now ≡ w = ap (λ (p : PassView). caller_in p c.args.session.now) inv.pass in
    let P : List ℕ → Type 0 = λ line. IsLineAnswered g.C.Clock.ticks (caller_in l.pass c.args.session.now) line (record { pass = l.pass; clock = l.clock; tally = l.tally }) (record { pass = c.answer_line-answer.new.pass; clock = c.answer_line-answer.new.clock; tally = c.answer_line-answer.new.tally }) c.in-Some.answer in
    let Q : Caller → Type 0 = λ x. IsLineAnswered g.C.Clock.ticks x c.in-Line.line (record { pass = l.pass; clock = l.clock; tally = l.tally }) (record { pass = c.answer_line-answer.new.pass; clock = c.answer_line-answer.new.clock; tally = c.answer_line-answer.new.tally }) c.in-Some.answer in
    let a = subst Q same (subst P c.as_slice.ensures c.in-Some.ensures.answered) in
    let given = c.in-Line.ensures.answered in
    let reads = g.met.L.Link.read_keeps l.link c.next.new.source c.next.ensures.step in
    let puts = g.met.L.Link.put_keeps c.next.new.source c.print_line.new.sink c.in-Err.ensures.step in
    let rest = line_stream c.next.new.self (g.L.Source.left c.next.new.source) in
    let run = run_breaks g.C.Clock.ticks w (line_stream c.args.reader.now (g.L.Source.left c.args.link.now)) (line_stream l.reader (g.L.Source.left l.link)) rest
    (record { pass = c.args.pass.now; clock = c.args.clock.now; tally = c.args.tally.now }) (record { pass = l.pass; clock = l.clock; tally = l.tally }) (record { pass = c.answer_line-answer.new.pass; clock = c.answer_line-answer.new.clock; tally = c.answer_line-answer.new.tally }) l.reader.taken c.next.new.self.taken
    (g.L.Sink.wrote c.args.link.now) (g.L.Sink.wrote l.link) (g.L.Sink.wrote c.next.new.source) (g.L.Sink.wrote c.print_line.new.sink) c.in-Line.line c.in-Some.answer
    inv.run given.one given.short given.bytes given.taken a (λ m. (reads.written m).0) c.in-Err.ensures.err.behind in
    served_by g.C.Clock.ticks w c.args.reader.now.budget (g.L.Sink.wrote c.args.link.now) (g.L.Sink.wrote c.print_line.new.sink) _ _
    (record { pass = c.args.pass.now; clock = c.args.clock.now; tally = c.args.tally.now }) (record { pass = c.answer_line-answer.new.pass; clock = c.answer_line-answer.new.clock; tally = c.answer_line-answer.new.tally }) (Some finish.WriteFault) finish.WriteFault None
    (line_stream c.args.reader.now (g.L.Source.left c.args.link.now)) rest rest c.next.new.self.held c.next.new.self.taken c.next.new.self.taken
    run.0 (left_first c.args.reader.now.held (g.L.Source.left c.args.link.now) c.requires.reader.0) (consumes_none rest) (omega arith) (omega (arith, c.next.ensures.within, given.budget, inv.budget))
    (unread_kept rest c.next.new.self.held (g.L.Source.left c.next.new.source) (g.L.Source.left c.print_line.new.sink) puts.rest (keeps_same rest)) (refl, refl) (inl run.1)
    (omega (arith, inv.writes, reads.faults, c.in-Err.ensures.cause.failed)) tt
    (puts.faults ∙ c.in-Line.ensures.cause ∙ inv.reads)

pub returns-in-Err-clause-calls : goal.returns-in-Err-clause-calls
returns-in-Err-clause-calls g c =
    let l = c.loop-line in
    g.met.L.Link.calls_more c.args.link.now c.next.new.source c.print_line.new.sink
    (g.met.L.Link.calls_more c.args.link.now l.link c.next.new.source l.invariant.calls (g.met.L.Link.read_calls l.link c.next.new.source c.next.ensures.step))
    (g.met.L.Link.put_calls c.next.new.source c.print_line.new.sink c.in-Err.ensures.step)

pub returns-in-Ok-print_line-clause-served : goal.returns-in-Ok-print_line-clause-served
returns-in-Ok-print_line-clause-served g c =
    let l = c.loop-line in
    let inv = l.invariant in
    let w : Caller = caller_in c.args.pass.now c.args.session.now in
    let given = c.in-Long.ensures.answered in
    let reads = g.met.L.Link.read_keeps l.link c.next.new.source c.next.ensures.step in
    let puts = g.met.L.Link.put_keeps c.next.new.source c.print_line-in-Long.new.sink c.in-Ok-print_line.ensures.step in
    let said = line_answers w inv.run.0.turns in
    let rest = line_stream l.reader (g.L.Source.left l.link) in
    served_by g.C.Clock.ticks w c.args.reader.now.budget (g.L.Sink.wrote c.args.link.now) (g.L.Sink.wrote c.print_line-in-Long.new.sink) _ _
    (record { pass = c.args.pass.now; clock = c.args.clock.now; tally = c.args.tally.now }) (record { pass = l.pass; clock = l.clock; tally = l.tally }) (Some (finish.Closed (Some c.in-Long.at))) (finish.Closed (Some c.in-Long.at)) None
    (line_stream c.args.reader.now (g.L.Source.left c.args.link.now)) rest rest c.next.new.self.held l.reader.taken c.next.new.self.taken
    inv.run.0 (left_first c.args.reader.now.held (g.L.Source.left c.args.link.now) c.requires.reader.0) (consumes_none rest) (omega (arith, given.0.taken)) (omega (arith, c.next.ensures.within, given.0.budget, inv.budget))
    (unread_kept rest c.next.new.self.held (g.L.Source.left c.next.new.source) (g.L.Source.left c.print_line-in-Long.new.sink) puts.rest given.0.bytes) (refl, refl)
    (text_more (g.L.Sink.wrote c.args.link.now) (g.L.Sink.wrote c.next.new.source) (g.L.Sink.wrote c.print_line-in-Long.new.sink) said (answer_line Long)
    (text_kept (g.L.Sink.wrote c.args.link.now) (g.L.Sink.wrote l.link) (g.L.Sink.wrote c.next.new.source) said inv.run.1 (λ m. (reads.written m).0)) c.in-Ok-print_line.ensures.ok.behind)
    given.1 tt
    (puts.faults ∙ c.in-Long.ensures.cause ∙ inv.reads, c.in-Ok-print_line.ensures.cause.kept ∙ reads.faults ∙ inv.writes)

pub returns-in-Err-print_line-clause-served : goal.returns-in-Err-print_line-clause-served
returns-in-Err-print_line-clause-served g c =
    let l = c.loop-line in
    let inv = l.invariant in
    let w : Caller = caller_in c.args.pass.now c.args.session.now in
    let given = c.in-Long.ensures.answered in
    let reads = g.met.L.Link.read_keeps l.link c.next.new.source c.next.ensures.step in
    let puts = g.met.L.Link.put_keeps c.next.new.source c.print_line-in-Long.new.sink c.in-Err-print_line.ensures.step in
    let said = line_answers w inv.run.0.turns in
    let rest = line_stream l.reader (g.L.Source.left l.link) in
    served_by g.C.Clock.ticks w c.args.reader.now.budget (g.L.Sink.wrote c.args.link.now) (g.L.Sink.wrote c.print_line-in-Long.new.sink) _ _
    (record { pass = c.args.pass.now; clock = c.args.clock.now; tally = c.args.tally.now }) (record { pass = l.pass; clock = l.clock; tally = l.tally }) (Some finish.WriteFault) finish.WriteFault None
    (line_stream c.args.reader.now (g.L.Source.left c.args.link.now)) rest rest c.next.new.self.held l.reader.taken c.next.new.self.taken
    inv.run.0 (left_first c.args.reader.now.held (g.L.Source.left c.args.link.now) c.requires.reader.0) (consumes_none rest) (omega (arith, given.0.taken)) (omega (arith, c.next.ensures.within, given.0.budget, inv.budget))
    (unread_kept rest c.next.new.self.held (g.L.Source.left c.next.new.source) (g.L.Source.left c.print_line-in-Long.new.sink) puts.rest given.0.bytes) (refl, refl)
    (inr (
      given.1.0,
      given.1.1,
      text_begun (g.L.Sink.wrote c.args.link.now) (g.L.Sink.wrote c.next.new.source) (g.L.Sink.wrote c.print_line-in-Long.new.sink) said (answer_line Long)
          (text_kept (g.L.Sink.wrote c.args.link.now) (g.L.Sink.wrote l.link) (g.L.Sink.wrote c.next.new.source) said inv.run.1 (λ m. (reads.written m).0)) c.in-Err-print_line.ensures.err.behind,
    ))
    (omega (arith, inv.writes, reads.faults, c.in-Err-print_line.ensures.cause.failed)) tt
    (puts.faults ∙ c.in-Long.ensures.cause ∙ inv.reads)

pub returns-in_default-clause-served : goal.returns-in_default-clause-served
returns-in_default-clause-served g c =
    let l = c.loop-line in
    let inv = l.invariant in
    let w : Caller = caller_in c.args.pass.now c.args.session.now in
    let given = c.in-Line.ensures.answered in
    let reads = g.met.L.Link.read_keeps l.link c.next.new.source c.next.ensures.step in
    let P : List ℕ → Type 0 = λ line. SaysQuit line (record { pass = l.pass; clock = l.clock; tally = l.tally }) (record { pass = c.answer_line-answer.new.pass; clock = c.answer_line-answer.new.clock; tally = c.answer_line-answer.new.tally }) in
    quit_by g.C.Clock.ticks w c.args.reader.now.budget (g.L.Sink.wrote c.args.link.now) (g.L.Sink.wrote l.link) (g.L.Sink.wrote c.next.new.source) _ _
    (record { pass = c.args.pass.now; clock = c.args.clock.now; tally = c.args.tally.now }) (record { pass = l.pass; clock = l.clock; tally = l.tally }) (record { pass = c.answer_line-answer.new.pass; clock = c.answer_line-answer.new.clock; tally = c.answer_line-answer.new.tally })
    c.in-Line.line (line_stream c.args.reader.now (g.L.Source.left c.args.link.now)) l.reader c.next.new.self (g.L.Source.left l.link)
    inv.run (left_first c.args.reader.now.held (g.L.Source.left c.args.link.now) c.requires.reader.0) given inv.budget c.next.ensures.within (λ m. (reads.written m).0)
    (subst P c.as_slice.ensures c.in_default.ensures.answered) (c.in-Line.ensures.cause ∙ inv.reads, reads.faults ∙ inv.writes)

pub returns-in-End-clause-served : goal.returns-in-End-clause-served
returns-in-End-clause-served g c =
    let l = c.loop-line in
    let inv = l.invariant in
    let given = c.in-End.ensures.answered in
    let reads = g.met.L.Link.read_keeps l.link c.next.new.source c.next.ensures.step in
    stopped_by g.C.Clock.ticks (caller_in c.args.pass.now c.args.session.now) c.args.reader.now.budget (g.L.Sink.wrote c.args.link.now) (g.L.Sink.wrote l.link) (g.L.Sink.wrote c.next.new.source) _ _
    (record { pass = c.args.pass.now; clock = c.args.clock.now; tally = c.args.tally.now }) (record { pass = l.pass; clock = l.clock; tally = l.tally }) finish.Ended
    (line_stream c.args.reader.now (g.L.Source.left c.args.link.now)) (line_stream l.reader (g.L.Source.left l.link)) l.reader c.next.new.self
    inv.run (left_first c.args.reader.now.held (g.L.Source.left c.args.link.now) c.requires.reader.0) (given.0.taken, given.0.budget) inv.budget c.next.ensures.within given.0.bytes (λ m. (reads.written m).0) (λ h. h)
    given.1 tt (c.in-End.ensures.cause ∙ inv.reads, reads.faults ∙ inv.writes)

pub returns-in-Cut-clause-served : goal.returns-in-Cut-clause-served
returns-in-Cut-clause-served g c =
    let l = c.loop-line in
    let inv = l.invariant in
    let given = c.in-Cut.ensures.answered in
    let reads = g.met.L.Link.read_keeps l.link c.next.new.source c.next.ensures.step in
    stopped_by g.C.Clock.ticks (caller_in c.args.pass.now c.args.session.now) c.args.reader.now.budget (g.L.Sink.wrote c.args.link.now) (g.L.Sink.wrote l.link) (g.L.Sink.wrote c.next.new.source) _ _
    (record { pass = c.args.pass.now; clock = c.args.clock.now; tally = c.args.tally.now }) (record { pass = l.pass; clock = l.clock; tally = l.tally }) (finish.Cut c.in-Cut.left)
    (line_stream c.args.reader.now (g.L.Source.left c.args.link.now)) (line_stream l.reader (g.L.Source.left l.link)) l.reader c.next.new.self
    inv.run (left_first c.args.reader.now.held (g.L.Source.left c.args.link.now) c.requires.reader.0) (given.0.taken, given.0.budget) inv.budget c.next.ensures.within given.0.bytes (λ m. (reads.written m).0) (λ h. h)
    given.1 tt (c.in-Cut.ensures.cause ∙ inv.reads, reads.faults ∙ inv.writes)

pub returns-in-Spent-clause-served : goal.returns-in-Spent-clause-served
returns-in-Spent-clause-served g c =
    let l = c.loop-line in
    let inv = l.invariant in
    let given = c.in-Spent.ensures.answered in
    let reads = g.met.L.Link.read_keeps l.link c.next.new.source c.next.ensures.step in
    stopped_by g.C.Clock.ticks (caller_in c.args.pass.now c.args.session.now) c.args.reader.now.budget (g.L.Sink.wrote c.args.link.now) (g.L.Sink.wrote l.link) (g.L.Sink.wrote c.next.new.source) _ _
    (record { pass = c.args.pass.now; clock = c.args.clock.now; tally = c.args.tally.now }) (record { pass = l.pass; clock = l.clock; tally = l.tally }) finish.Spent
    (line_stream c.args.reader.now (g.L.Source.left c.args.link.now)) (line_stream l.reader (g.L.Source.left l.link)) l.reader c.next.new.self
    inv.run (left_first c.args.reader.now.held (g.L.Source.left c.args.link.now) c.requires.reader.0) (given.0.taken, given.0.budget) inv.budget c.next.ensures.within given.0.bytes (λ m. (reads.written m).0) (λ h. h)
    given.1 tt (c.in-Spent.ensures.cause ∙ inv.reads, reads.faults ∙ inv.writes)

pub returns-in-ReadFault-clause-served : goal.returns-in-ReadFault-clause-served
returns-in-ReadFault-clause-served g c =
    let l = c.loop-line in
    let inv = l.invariant in
    let given = c.in-ReadFault.ensures.answered in
    let reads = g.met.L.Link.read_keeps l.link c.next.new.source c.next.ensures.step in
    stopped_by g.C.Clock.ticks (caller_in c.args.pass.now c.args.session.now) c.args.reader.now.budget (g.L.Sink.wrote c.args.link.now) (g.L.Sink.wrote l.link) (g.L.Sink.wrote c.next.new.source) _ _
    (record { pass = c.args.pass.now; clock = c.args.clock.now; tally = c.args.tally.now }) (record { pass = l.pass; clock = l.clock; tally = l.tally }) finish.ReadFault
    (line_stream c.args.reader.now (g.L.Source.left c.args.link.now)) (line_stream l.reader (g.L.Source.left l.link)) l.reader c.next.new.self
    inv.run (left_first c.args.reader.now.held (g.L.Source.left c.args.link.now) c.requires.reader.0) (given.0.taken, given.0.budget) inv.budget c.next.ensures.within given.0.bytes (λ m. (reads.written m).0) (λ h. h)
    (omega (arith, inv.reads, given.1.0), given.1.1.one, given.1.1.short, given.1.1.room) tt (reads.faults ∙ inv.writes)

pub returns-in-NoMemory-clause-served : goal.returns-in-NoMemory-clause-served
returns-in-NoMemory-clause-served g c =
    let l = c.loop-line in
    let inv = l.invariant in
    let given = c.in-NoMemory.ensures.answered in
    let reads = g.met.L.Link.read_keeps l.link c.next.new.source c.next.ensures.step in
    stopped_by g.C.Clock.ticks (caller_in c.args.pass.now c.args.session.now) c.args.reader.now.budget (g.L.Sink.wrote c.args.link.now) (g.L.Sink.wrote l.link) (g.L.Sink.wrote c.next.new.source) _ _
    (record { pass = c.args.pass.now; clock = c.args.clock.now; tally = c.args.tally.now }) (record { pass = l.pass; clock = l.clock; tally = l.tally }) finish.NoMemory
    (line_stream c.args.reader.now (g.L.Source.left c.args.link.now)) (line_stream l.reader (g.L.Source.left l.link)) l.reader c.next.new.self
    inv.run (left_first c.args.reader.now.held (g.L.Source.left c.args.link.now) c.requires.reader.0) (given.0.taken, given.0.budget) inv.budget c.next.ensures.within given.0.bytes (λ m. (reads.written m).0) (λ h. h)
    tt tt (c.in-NoMemory.ensures.cause ∙ inv.reads, reads.faults ∙ inv.writes)
