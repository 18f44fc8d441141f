-- What a session asks of an office, line by line.
use Rattle.std.specs.Prelude.{ℕ, ◌+◌, ◌≡◌, true, List, [], ◌∷◌, Option, None, Some, Ok}
use Rattle.sx_base.specs.Causes.{Rose}
use Rattle.sx_base.specs.Clock.{StepsThrough}
use Rattle.sx_call.specs.declared.calls.Call.{Call}
use Rattle.sx_call.specs.declared.refusals.Stop.{Stop}
use Rattle.sx_call.specs.declared.refusals.Stop.TheVariants.{NoMemory, HistoryFull}
use Rattle.sx_lines.specs.Answers.{is_printed}
use Rattle.sx_lines.specs.Lines.{line_of}
use Rattle.sx_lines.specs.declared.answer.LineAnswer.{LineAnswer}
use Rattle.sx_lines.specs.declared.line.Line.TheVariants.{Quit}
use Rattle.sx_book.specs.OneHistory.{Came, Asks, moments_of}
use Rattle.sx_book.specs.Passes.{PassView, HoldsSession}
use Rattle.sx_book.specs.declared.report.ConnEnd.{ConnEnd}
use Rattle.sx_book.specs.declared.report.ConnEnd.TheVariants as finish
use Rattle.sx_smb_door.specs.Conversation.{LineOutcome, Caller, SessionTalk, SpellsOutcome, calls_in_line}
use Rattle.sx_smb_door.specs.Conversation.{calls_of_lines, session_call}
use Rattle.sx_book.specs.Reports.{HasPrefix, HasText, no_tally, tally_with}
use Rattle.sx_smb_door.specs.Conversation.{answer_to, line_answer, tally_after_line, tally_after_lines}
use Rattle.sx_book.specs.declared.report.Tally.{Tally}

-- a session's pass, its clock and its counts, before or after a call
pub record SessionDoorState (C : Type 0) : Type 0 where
  pub pass : PassView
  pub clock : C
  pub tally : Tally

-- the caller of a session through this pass
abbrev pub caller_in : PassView → ℕ → Caller
caller_in p session = record { who = p.number; session = session; limit = p.limit }

-- a call was asked at a moment of the clock: what it came to, what that left of pass and counts, and its answer, which
-- can be printed; the pass still holds the session
pub record IsAsked {C : Type 0} (ticks : C → ℕ → C → Type 0) (session : ℕ) (call : Call) (old new : SessionDoorState C)
    (answer : LineAnswer) : Type 0 where
  pub moment : ℕ
  pub came : Came
  pub calls : Asks old.pass new.pass (session_call old.pass.number session call moment came ∷ [])
  pub told : ticks old.clock moment new.clock
  pub tallied : new.tally ≡ tally_with old.pass.limit (record old.tally { asked = old.tally.asked + 1 }) came
  pub answer_is : answer ≡ answer_to old.pass.limit call came
  pub printed : is_printed answer ≡ true
  pub held : HoldsSession new.pass session

-- a line of a caller was answered: what came of it, and what that left of pass, clock and counts
pub record IsLineAnswered {C : Type 0} (ticks : C → ℕ → C → Type 0) (w : Caller) (line : List ℕ)
    (old new : SessionDoorState C)
    (answer : LineAnswer) : Type 0 where
  pub outcome : LineOutcome
  pub spells : SpellsOutcome line outcome
  pub calls : Asks old.pass new.pass (calls_in_line w outcome)
  pub told : StepsThrough ticks old.clock (moments_of (calls_in_line w outcome)) new.clock
  pub tallied : new.tally ≡ tally_after_line w old.tally outcome
  pub answer_is : answer ≡ line_answer w outcome
  pub printed : is_printed answer ≡ true
  pub held : HoldsSession new.pass w.session

-- a line ends the session: it asks nothing, and leaves pass, clock and counts as they were
pub record SaysQuit {C : Type 0} (line : List ℕ) (old new : SessionDoorState C) : Type 0 where
  pub spells : line_of line ≡ Ok Quit
  pub same : new ≡ old

-- the lines ended so, or, where no end is told, by `quit`
abbrev pub EndsAs : Option ConnEnd → SessionTalk → Type 0
EndsAs None talk = talk.end ≡ finish.Closed None
EndsAs (Some end) talk = (talk.end ≡ end) × (talk.quit ≡ None)

-- the lines of a caller were answered, and ended so: their calls, the moments that the clock told for them, the counts,
-- and how many bytes the lines have
pub record AreLinesServed {C : Type 0} (ticks : C → ℕ → C → Type 0) (w : Caller) (talk : SessionTalk)
    (old new : SessionDoorState C)
    (taken : ℕ) : Type 0 where
  pub calls : Asks old.pass new.pass (calls_of_lines w talk.turns)
  pub told : StepsThrough ticks old.clock (moments_of (calls_of_lines w talk.turns)) new.clock
  pub tallied : new.tally ≡ tally_after_lines w no_tally talk.turns
  pub taken_is : taken ≡ talk.given

-- what was said once the session was ended: where `quit` ended its lines that is the answer to it, or a prefix of it
-- where the write failed; else nothing, and the session ended as its lines did
abbrev pub IsFarewell : {K : Type 0} → (K → List ℕ → Type 0) → (K → ℕ) → K → K → List ℕ → Option ConnEnd → ConnEnd
    → Type 0
IsFarewell wrote count old new last (Some lines) end = (end ≡ lines) × (new ≡ old)
IsFarewell wrote count old new last None (finish.Closed None) =
    HasText (wrote old) (wrote new) last × (count new ≡ count old)
IsFarewell wrote count old new last None finish.WriteFault =
    HasPrefix (wrote old) (wrote new) last × Rose (count old) (count new)
IsFarewell wrote count old new last None end = ⊥
