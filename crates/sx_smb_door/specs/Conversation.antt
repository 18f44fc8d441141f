-- What a session is answered, line after line, from its Start to its End.
use Rattle.std.specs.Prelude.{ℕ, ◌+◌, ◌-◌, ◌<◌, ◌≤◌, ◌≡◌, ◌⊎◌, false, true, Bool, List, [], ◌∷◌, ◌++◌, length, IfSome}
use Rattle.std.specs.Prelude.{Option, Some, None, Ok, Err}
use Rattle.std.specs.List.{AllByRecursion, flat_map}
use Rattle.std.specs.Io.KnownBytes.{Consumes, IsAtEnd, Keeps, prepend_known}
use mathlib.Core.List.{IsPrefix}
use Rattle.sx_base.specs.Causes.{Rose}
use Rattle.sx_base.specs.Clock.{StepsThrough}
use Rattle.sx_base.specs.Sides.{Sides}
use Rattle.sx_call.specs.declared.calls.Call.{Call}
use Rattle.sx_call.specs.declared.calls.Call.TheVariants.{End, SmbLock}
use Rattle.sx_call.specs.declared.replies.Reply.{Reply}
use Rattle.sx_call.specs.declared.replies.Reply.TheVariants.{Smb}
use Rattle.sx_call.specs.declared.replies.SmbReply.TheVariants.{Started}
use Rattle.sx_call.specs.declared.refusals.Stop.{Stop as Stopped}
use Rattle.sx_call.specs.declared.refusals.Stop.TheVariants as stop
use Rattle.sx_book.specs.History.{History}
use Rattle.sx_book.specs.Reports.{HasBegun, HasText, KeepsCounts, no_tally, report_of, tally_with}
use Rattle.sx_book.specs.OneHistory.{Came, appended, history_full, no_memory, Outcome, AreCallsIn, moments_of}
use Rattle.sx_book.specs.Passes.{start_of}
use Rattle.sx_book.specs.declared.report.Full.{Full}
use Rattle.sx_book.specs.declared.report.ConnEnd.{ConnEnd}
use Rattle.sx_book.specs.declared.report.ConnEnd.TheVariants as finish
use Rattle.sx_book.specs.declared.report.ConnReport.{ConnReport}
use Rattle.sx_lines.specs.declared.line.TheConstants.{LINE_LIMIT}
use Rattle.sx_lines.specs.declared.line.Line.TheVariants.{Ask, Quit}
use Rattle.sx_lines.specs.Lines.{line_of}
use Rattle.sx_lines.specs.Answers.{answer_line}
use Rattle.sx_lines.specs.declared.answer.LineAnswer.{LineAnswer}
use Rattle.sx_lines.specs.declared.answer.LineAnswer.TheVariants.{Core, Syntax, Long, Stop}
use Rattle.sx_smb_door.specs.Lines.{with_line_feed, IsOneLine, IsCutLine, BeginsUnended}
use Rattle.sx_book.specs.declared.report.Tally.{Tally}

-- what came of a line: a word at this place isn't as it must be; no memory was left to parse it; or its call was asked
-- at a moment of the clock, and came to this
pub data LineOutcome : Type 0 where
  wrong_word : ℕ → LineOutcome
  not_parsed : LineOutcome
  called : Call → ℕ → Came → LineOutcome

-- a line without its line feed, and what came of it
pub record AnsweredLine : Type 0 where
  pub line : List ℕ
  pub outcome : LineOutcome

-- the caller of a session: its number, its session, and how many places the history has
pub record Caller : Type 0 where
  pub who : ℕ
  pub session : ℕ
  pub limit : ℕ

-- the line spells the call that was asked, or its first wrong word stands at this place
abbrev pub SpellsOutcome : List ℕ → LineOutcome → Type 0
SpellsOutcome line (wrong_word at) = line_of line ≡ Err at
SpellsOutcome line not_parsed = Unit {0}
SpellsOutcome line (called call moment came) = line_of line ≡ Ok (Ask call)

-- a line within its limit, and what it spells
pub record IsAnsweredLine (t : AnsweredLine) : Type 0 where
  pub one : IsOneLine t.line
  pub short : length t.line ≤ LINE_LIMIT
  pub spells : SpellsOutcome t.line t.outcome

-- a line within its limit that ends the session
pub record IsQuit (line : List ℕ) : Type 0 where
  pub one : IsOneLine line
  pub short : length line ≤ LINE_LIMIT
  pub quits : line_of line ≡ Ok Quit

-- a call in a session, and what it came to; it draws no random number
abbrev pub session_call : ℕ → ℕ → Call → ℕ → Came → Outcome
session_call who session call moment came =
    record { asked = record { who = who; session = session; call = call; now = moment; fresh = 0 }; came = came }

-- the call of a line, if it was asked
abbrev pub calls_in_line : Caller → LineOutcome → List Outcome
calls_in_line w (wrong_word at) = []
calls_in_line w not_parsed = []
calls_in_line w (called call moment came) = session_call w.who w.session call moment came ∷ []

-- the calls of lines
abbrev pub calls_of_lines : Caller → List AnsweredLine → List Outcome
calls_of_lines w ts = flat_map (λ t. calls_in_line w t.outcome) ts

-- whether a call locks bytes
abbrev pub locks_bytes : Call → Bool
locks_bytes (SmbLock c) = true
locks_bytes other = false

-- the answer to a call
abbrev pub answer_to : ℕ → Call → Came → LineAnswer
answer_to limit call (appended place reply) = Core place reply (locks_bytes call)
answer_to limit call (history_full entries sessions) = Stop (stop.HistoryFull entries sessions limit)
answer_to limit call no_memory = Stop stop.NoMemory

-- the answer to a line of this outcome
abbrev pub line_answer : Caller → LineOutcome → LineAnswer
line_answer w (wrong_word at) = Syntax at
line_answer w not_parsed = Stop stop.NoMemory
line_answer w (called call moment came) = answer_to w.limit call came

-- what a report counts, after a line
abbrev pub tally_after_line : Caller → Tally → LineOutcome → Tally
tally_after_line w t (wrong_word at) = t
tally_after_line w t not_parsed = record t { no_memory = true }
tally_after_line w t (called call moment came) = tally_with w.limit (record t { asked = t.asked + 1 }) came

-- what a report counts, after lines
abbrev pub tally_after_lines : Caller → Tally → List AnsweredLine → Tally
tally_after_lines w tally [] = tally
tally_after_lines w tally (t ∷ ts) = tally_after_lines w (tally_after_line w tally t.outcome) ts

-- the printed answers to lines
abbrev pub line_answers : Caller → List AnsweredLine → List ℕ
line_answers w ts = flat_map (λ t. answer_line (line_answer w t.outcome)) ts

-- the bytes of the lines, with their line feeds
abbrev pub line_bytes : List AnsweredLine → List ℕ
line_bytes ts = flat_map (λ t. with_line_feed t.line) ts

-- the bytes of the line by which a session ended itself, if it did
abbrev pub quit_bytes : Option (List ℕ) → List ℕ
quit_bytes None = []
quit_bytes (Some line) = with_line_feed line

-- what was said in a session: the lines that were answered, the line `quit`, if that ended it, how many bytes they
-- have, how they ended, what the link had left behind them, and which bytes of that were taken and not given
pub record SessionTalk : Type 0 where
  pub turns : List AnsweredLine
  pub quit : Option (List ℕ)
  pub given : ℕ
  pub end : ConnEnd
  pub rest : Option (List ℕ)
  pub held : List ℕ

-- the bytes of all lines that were given
abbrev pub given_bytes : SessionTalk → List ℕ
given_bytes t = line_bytes t.turns ++ quit_bytes t.quit

-- the lines were taken off the link, and what was taken in all is within the budget: what the link had left behind
-- the lines is what was taken of it and not given, and what it has left
pub record TakesLines (budget : ℕ) (t : SessionTalk) (old new : Sides) : Type 0 where
  pub lines : Consumes old.left t.rest (given_bytes t)
  pub given_is : t.given ≡ length (given_bytes t)
  pub unread : Keeps t.rest (prepend_known t.held new.left)
  pub within : t.given + length t.held ≤ budget

-- why no further line was answered, by what was left behind the lines and held of it, the budget, and the link's counts
-- of failed reads and puts
abbrev pub IsSessionEnd : ConnEnd → ℕ → SessionTalk → Sides → Sides → Type 0
IsSessionEnd finish.Ended budget t old new = IsAtEnd t.rest × (t.held ≡ []) × (t.given < budget)
IsSessionEnd (finish.Closed None) budget t old new = Unit {0}
IsSessionEnd (finish.Closed (Some at)) budget t old new =
    IfSome t.rest (BeginsUnended (LINE_LIMIT + 1)) × BeginsUnended (LINE_LIMIT + 1) t.held × (at ≡ t.given)
IsSessionEnd (finish.Cut left) budget t old new =
    IfSome t.rest (IsCutLine left) × IsCutLine left t.held × (1 ≤ left) × (left ≤ LINE_LIMIT)
    × (t.given + left < budget)
IsSessionEnd finish.Spent budget t old new =
    IfSome t.rest (BeginsUnended (budget - t.given)) × IsCutLine (budget - t.given) t.held
    × (t.given ≤ budget) × (budget ≤ t.given + LINE_LIMIT)
IsSessionEnd finish.ReadFault budget t old new =
    Rose old.reads new.reads × IsOneLine t.held × (length t.held ≤ LINE_LIMIT)
    × (t.given + length t.held < budget)
IsSessionEnd finish.WriteFault budget t old new = Rose old.writes new.writes
IsSessionEnd (finish.Full full) budget t old new = ⊥
IsSessionEnd finish.NoMemory budget t old new = Unit {0}

-- `quit` ended the session: it closed without a fault of its lines, or the write of the last answer failed
abbrev pub EndsByQuit : ConnEnd → Option (List ℕ) → Type 0
EndsByQuit (finish.Closed None) None = ⊥
EndsByQuit (finish.Closed None) (Some line) = IsQuit line
EndsByQuit finish.WriteFault (Some line) = IsQuit line
EndsByQuit end None = Unit {0}
EndsByQuit end (Some line) = ⊥

-- a write failed at the answer to the last line: those before it were written, and a prefix of it
pub record BreaksAtLine (w : Caller) (turns : List AnsweredLine) (wrote wrote' : List ℕ → Type 0) : Type 0 where
  pub answered : List AnsweredLine
  pub last : AnsweredLine
  pub split : turns ≡ answered ++ last ∷ []
  pub begun : HasBegun wrote wrote' (line_answers w answered) (answer_line (line_answer w last.outcome))

-- a write failed at the refusal of a line over its limit: all answers were written, and a prefix of that
abbrev pub BreaksAtRefusal : Caller → SessionTalk → (List ℕ → Type 0) → (List ℕ → Type 0) → Type 0
BreaksAtRefusal w t wrote wrote' =
    IfSome t.rest (BeginsUnended (LINE_LIMIT + 1)) × BeginsUnended (LINE_LIMIT + 1) t.held
    × HasBegun wrote wrote' (line_answers w t.turns) (answer_line Long)

-- the answer at which a write failed: that to a line, or to a line over its limit; or that to `quit`, which is `last`
abbrev pub BreaksSession : Option (List ℕ) → Caller → List ℕ → SessionTalk → (List ℕ → Type 0) → (List ℕ → Type 0)
    → Type 0
BreaksSession None w last t wrote wrote' = BreaksAtLine w t.turns wrote wrote' ⊎ BreaksAtRefusal w t wrote wrote'
BreaksSession (Some line) w last t wrote wrote' = HasBegun wrote wrote' (line_answers w t.turns) last

-- what was written: the answers, with the refusal of a line over its limit or the answer to `quit` behind them, up to
-- the write that failed
abbrev pub HasWrittenToLines : ConnEnd → Caller → List ℕ → SessionTalk → (List ℕ → Type 0) → (List ℕ → Type 0) → Type 0
HasWrittenToLines finish.WriteFault w last t wrote wrote' = BreaksSession t.quit w last t wrote wrote'
HasWrittenToLines (finish.Closed (Some at)) w last t wrote wrote' =
    HasText wrote wrote' (line_answers w t.turns ++ answer_line Long)
HasWrittenToLines (finish.Closed None) w last t wrote wrote' = HasText wrote wrote' (line_answers w t.turns ++ last)
HasWrittenToLines end w last t wrote wrote' = HasText wrote wrote' (line_answers w t.turns)

-- the lines of a session of this caller: what they spell, what was taken off the link, what was written, with the
-- answer to `quit`, and how they ended
pub record ServesLines (w : Caller) (budget : ℕ) (last : List ℕ) (t : SessionTalk) (wrote wrote' : List ℕ → Type 0)
    (old new : Sides)
    : Type 0 where
  pub lines : AllByRecursion IsAnsweredLine t.turns
  pub bytes : TakesLines budget t old new
  pub answers : HasWrittenToLines t.end w last t wrote wrote'
  pub end : IsSessionEnd t.end budget t old new
  pub quits : EndsByQuit t.end t.quit
  pub counts : KeepsCounts t.end old new

-- the report of a session that was not started
abbrev pub unstarted_report : ConnEnd → ConnReport
unstarted_report end = record { end = end; taken = 0; asked = 0; full = None; starved = false }

-- how a session ends whose start was not appended
abbrev pub end_of : Stopped → ConnEnd
end_of stop.NoMemory = finish.NoMemory
end_of (stop.HistoryFull entries sessions limit) =
    finish.Full (record { entries = entries; sessions = sessions; limit = limit })

-- a session that is served: by which caller, for which peer, with which budget of bytes; the history at its end, and
-- how many entries of that had been seen as it began
pub record SessionVisit : Type 0 where
  pub who : ℕ
  pub peer : ℕ
  pub budget : ℕ
  pub history : History
  pub from : ℕ

-- a link's sides, and a clock, before or after a call
pub record SessionLinkState (C : Type 0) : Type 0 where
  pub sides : Sides
  pub clock : C

-- the caller of the visit's session of a number
abbrev pub caller_of_visit : SessionVisit → ℕ → Caller
caller_of_visit v session = record { who = v.who; session = session; limit = v.history.limit }

-- the call that starts a session
abbrev pub start_call : SessionVisit → ℕ → Came → Outcome
start_call v moment came = session_call v.who 0 (start_of v.peer) moment came

-- the Start of a session and its End: the moment, the place, and the reply, which for the Start is the session's number
pub record Bounds : Type 0 where
  pub session : ℕ
  pub started : ℕ
  pub first : ℕ
  pub finished : ℕ
  pub last : ℕ
  pub reply : Reply

-- the calls of a whole session: its Start, those of its lines, and its End
abbrev pub session_calls : SessionVisit → Bounds → List AnsweredLine → List Outcome
session_calls v b turns =
    start_call v b.started (appended b.first (Smb (Started b.session)))
    ∷ (calls_of_lines (caller_of_visit v b.session) turns
    ++ session_call v.who b.session End b.finished (appended b.last b.reply) ∷ [])

-- the answer to `quit`: that of the session's End
abbrev pub farewell : Bounds → List ℕ
farewell b = answer_line (Core b.last b.reply false)

-- a session that was started, answered its lines, and was ended: its calls in the history, the moments that the clock
-- told for them, its lines, and its report
pub record Session {C : Type 0} (ticks : C → ℕ → C → Type 0) (wrote wrote' : List ℕ → Type 0) (v : SessionVisit)
    (old new : SessionLinkState C) (report : ConnReport) : Type 0 where
  pub bounds : Bounds
  pub talk : SessionTalk
  pub history : AreCallsIn v.history v.who v.from (session_calls v bounds talk.turns)
  pub moments : StepsThrough ticks old.clock (moments_of (session_calls v bounds talk.turns)) new.clock
  pub served : ServesLines (caller_of_visit v bounds.session) v.budget (farewell bounds) talk wrote wrote' old.sides
      new.sides
  pub report_is : report
      ≡ report_of talk.end talk.given v.budget
      (tally_after_lines (caller_of_visit v bounds.session) no_tally talk.turns)

-- the report of a session whose start was not appended
abbrev pub IsSessionRefused : ℕ → Came → ConnReport → Type 0
IsSessionRefused limit (appended place reply) report = ⊥
IsSessionRefused limit (history_full entries sessions) report =
    report ≡ unstarted_report (finish.Full (record { entries = entries; sessions = sessions; limit = limit }))
IsSessionRefused limit no_memory report = report ≡ unstarted_report finish.NoMemory

-- a session whose start was refused: it read and wrote nothing, and has no entry
pub record IsUnstarted {C : Type 0} (ticks : C → ℕ → C → Type 0) (wrote wrote' : List ℕ → Type 0) (v : SessionVisit)
    (old new : SessionLinkState C) (report : ConnReport) : Type 0 where
  pub moment : ℕ
  pub came : Came
  pub history : AreCallsIn v.history v.who v.from (start_call v moment came ∷ [])
  pub moments : ticks old.clock moment new.clock
  pub unread : new.sides ≡ old.sides
  pub answers : HasText wrote wrote' []
  pub report_is : IsSessionRefused v.history.limit came report

-- what a session does and reports
abbrev pub SessionConversation : {C : Type 0} → (C → ℕ → C → Type 0) → (List ℕ → Type 0) → (List ℕ → Type 0)
    → SessionVisit → SessionLinkState C → SessionLinkState C → ConnReport → Type 0
SessionConversation ticks wrote wrote' v old new report =
    IsUnstarted ticks wrote wrote' v old new report ⊎ Session ticks wrote wrote' v old new report
