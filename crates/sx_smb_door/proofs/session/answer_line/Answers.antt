use Rattle.std.proofs.Common.{◌≡◌, ◌∙◌, ℕ, Result, Ok, Err, ap, subst}
use Rattle.sx_lines.specs.Lines.{line_of}
use Rattle.sx_lines.specs.Reading.{ReadsLine}
use Rattle.sx_lines.specs.declared.line.Line.{Line}
use Rattle.sx_lines.specs.declared.line.LineFault.{LineFault}
use Rattle.sx_smb_door.specs.Asking.{caller_in}
use Rattle.sx_smb_door.proofs.SessionCalls.{spells_session_call}
use Rattle.sx_smb_door.proofs.Turns.{asked_line, wrong_line, unparsed_line}
use Rattle.sx_smb_door.proofs.session.answer_line.Goals as goal

pub answer_call-requires-clause-call : goal.answer_call-requires-clause-call
answer_call-requires-clause-call g c = λ _ _. spells_session_call c.args.line.now c.in-Ok-Ask.call (c.in-Ok-Ask.ensures ∙ ap {B = Result Line ℕ} (λ (x : Line). Ok x) c.in-Ok-Ask.field-0-is)

pub returns-in-Ok-Ask-clause-answered : goal.returns-in-Ok-Ask-clause-answered
returns-in-Ok-Ask-clause-answered g c =
    asked_line g.C.Clock.ticks c.args.session.now c.args.line.now c.in-Ok-Ask.call (record { pass = c.args.pass.now; clock = c.args.clock.now; tally = c.args.tally.now })
    (record { pass = c.answer_call.new.pass; clock = c.answer_call.new.clock; tally = c.answer_call.new.tally }) c.answer_call.result (c.in-Ok-Ask.ensures ∙ ap {B = Result Line ℕ} (λ (x : Line). Ok x) c.in-Ok-Ask.field-0-is) c.answer_call.ensures.asked

pub returns-in-Err-Syntax-clause-answered : goal.returns-in-Err-Syntax-clause-answered
returns-in-Err-Syntax-clause-answered g c =
    wrong_line g.C.Clock.ticks (caller_in c.args.pass.now c.args.session.now) c.args.line.now c.in-Err-Syntax.at (record { pass = c.args.pass.now; clock = c.args.clock.now; tally = c.args.tally.now })
    (subst (λ (fault : LineFault). ReadsLine {A = Line} (Err fault) (line_of c.args.line.now)) c.in-Err-Syntax.field-0-is c.in-Err-Syntax.ensures) c.requires.held
