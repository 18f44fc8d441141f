-- A session from its start to its end.
use Rattle.std.proofs.Common.{ℕ, ◌+◌, ◌≡◌, List, [], ◌∷◌, ◌++◌, length, Option, false, refl, sym, ap, ◌∙◌, subst, inl, inr}
use mathlib.Core.List.{IsPrefix}
use Rattle.sx_base.specs.Clock.{StepsThrough}
use Rattle.sx_base.specs.Sides.{Sides}
use Rattle.sx_base.proofs.Steps.{steps_append}
use Rattle.sx_call.specs.declared.calls.Call.TheVariants.{End}
use Rattle.sx_call.specs.declared.entries.Noted.{Noted}
use Rattle.sx_call.specs.declared.replies.Reply.{Reply}
use Rattle.sx_call.specs.declared.replies.Reply.TheVariants.{Smb}
use Rattle.sx_call.specs.declared.replies.SmbReply.TheVariants.{Started}
use Rattle.sx_call.specs.declared.refusals.Stop.{Stop}
use Rattle.sx_call.specs.declared.refusals.Stop.TheVariants as stop
use Rattle.sx_book.specs.OneHistory.{Came, appended, history_full, no_memory, Outcome, Asks, moments_of, history_of}
use Rattle.sx_book.specs.Passes.{PassView, GrowsByOthers, Appends, AppendsNone, start_of}
use Rattle.sx_book.specs.declared.pass.Receipt.{Receipt}
use Rattle.sx_book.specs.declared.report.ConnEnd.{ConnEnd}
use Rattle.sx_book.specs.declared.report.ConnReport.{ConnReport}
use Rattle.sx_book.proofs.Calls.{asks_join, appended_asks, full_asks, starved_asks}
use Rattle.sx_lines.specs.Answers.{answer_line}
use Rattle.sx_lines.specs.declared.answer.LineAnswer.TheVariants.{Core}
use Rattle.sx_smb_door.specs.Asking.{SessionDoorState, caller_in, AreLinesServed}
use Rattle.sx_book.specs.Reports.{no_tally, report_of}
use Rattle.sx_smb_door.specs.Conversation.{Caller, SessionVisit, SessionLinkState, Bounds, SessionTalk, ServesLines, IsUnstarted, SessionConversation, session_call, calls_of_lines, caller_of_visit, session_calls, tally_after_lines, unstarted_report, end_of}
use Rattle.sx_book.specs.declared.report.Tally.{Tally}
use Rattle.sx_book.proofs.Texts.{text_none}
use Rattle.sx_smb_door.proofs.Turns.{moments_join}

-- entries of others behind what was seen
pub others_grow : (who : ℕ) (seen found : List Noted) → GrowsByOthers who seen found → IsPrefix seen found
others_grow who seen found h = (h.0, sym h.1)

-- a session through a pass, before and after
abbrev pub visit_of : PassView → PassView → ℕ → ℕ → SessionVisit
visit_of p q peer budget = record { who = p.number; peer = peer; budget = budget; history = history_of q; from = length p.seen }

-- a start that came to no place
pub unstarted_by : {C : Type 0} (ticks : C → ℕ → C → Type 0) (wrote : List ℕ → Type 0) (peer budget : ℕ) (p q : PassView) (moment : ℕ) (c c' : C) (sides : Sides) (s : Stop) (report : ConnReport)
    → ticks c moment c' → AppendsNone p (start_of peer) s q → report ≡ unstarted_report (end_of s)
    → SessionConversation ticks wrote wrote (visit_of p q peer budget) (record { sides = sides; clock = c }) (record { sides = sides; clock = c' }) report
unstarted_by {C} ticks wrote peer budget p q moment c c' sides stop.NoMemory report start none is = inl (record {
  moment = moment;
  came = no_memory;
  history = (starved_asks p q 0 moment 0 (start_of peer) none).calls;
  moments = start;
  unread = refl;
  answers = text_none wrote;
  report_is = is;
})
unstarted_by {C} ticks wrote peer budget p q moment c c' sides (stop.HistoryFull entries sessions limit) report start none is = inl (record {
  moment = moment;
  came = history_full entries sessions;
  history = (full_asks p q 0 moment 0 (start_of peer) entries sessions limit none).calls;
  moments = start;
  unread = refl;
  answers = text_none wrote;
  report_is = is ∙ ap (λ (n : ℕ). unstarted_report (end_of (stop.HistoryFull entries sessions n))) (none.cause entries sessions limit refl).limit_is;
})

-- a start, lines, and an end are a conversation
pub session_by : {C : Type 0} (ticks : C → ℕ → C → Type 0) (wrote wrote' : List ℕ → Type 0) (peer budget : ℕ) (p0 p3 : PassView) (s1 s2 : SessionDoorState C) (c0 c3 : C) (first last : ℕ) (sides sides' : Sides)
    (r1 r2 : Receipt) (session : ℕ) (talk : SessionTalk) (taken : ℕ) (report : ConnReport)
    → ticks c0 first s1.clock → Appends p0 0 first 0 (start_of peer) r1 s1.pass → r1.reply ≡ Smb (Started session)
    → AreLinesServed ticks (caller_in s1.pass session) talk s1 s2 taken → ServesLines (caller_in s1.pass session) budget (answer_line (Core r2.place r2.reply false)) talk wrote wrote' sides sides'
    → ticks s2.clock last c3 → Appends s2.pass session last 0 End r2 p3 → report ≡ report_of talk.end taken budget s2.tally
    → SessionConversation ticks wrote wrote' (visit_of p0 p3 peer budget) (record { sides = sides; clock = c0 }) (record { sides = sides'; clock = c3 }) report
session_by {C} ticks wrote wrote' peer budget p0 p3 s1 s2 c0 c3 first last sides sides' r1 r2 session talk taken report start took said served lines stop ended reported =
    let v : SessionVisit = visit_of p0 p3 peer budget in
    let w : Caller = caller_of_visit v session in
    let b : Bounds = record { session = session; started = first; first = r1.place; finished = last; last = r2.place; reply = r2.reply } in
    let opening : List Outcome = session_call p0.number 0 (start_of peer) first (appended r1.place (Smb (Started session))) ∷ [] in
    let closing : List Outcome = session_call p0.number session End last (appended r2.place r2.reply) ∷ [] in
    let begun : Asks p0 s1.pass opening = subst (λ (r : Reply). Asks p0 s1.pass (session_call p0.number 0 (start_of peer) first (appended r1.place r) ∷ [])) said (appended_asks p0 s1.pass 0 first 0 (start_of peer) r1 took) in
    let over : Asks s2.pass p3 (session_call s2.pass.number session End last (appended r2.place r2.reply) ∷ []) = appended_asks s2.pass p3 session last 0 End r2 ended in
    let who1 : s1.pass.number ≡ p0.number = ap (λ (p : PassView). p.number) begun.pass in
    let who2 : s2.pass.number ≡ p0.number = ap (λ (p : PassView). p.number) served.calls.pass ∙ who1 in
    let limit : s1.pass.limit ≡ p3.limit = sym (ap (λ (p : PassView). p.limit) over.pass ∙ ap (λ (p : PassView). p.limit) served.calls.pass) in
    let speaks : caller_in s1.pass session ≡ w = ap (λ (x : ℕ × ℕ). record { who = x.0; session = session; limit = x.1 }) (λ j. (who1 j, limit j)) in
    let between : Asks s1.pass s2.pass (calls_of_lines w talk.turns) = subst (λ (x : Caller). Asks s1.pass s2.pass (calls_of_lines x talk.turns)) speaks served.calls in
    let after : Asks s2.pass p3 closing = subst (λ (n : ℕ). Asks s2.pass p3 (session_call n session End last (appended r2.place r2.reply) ∷ [])) who2 over in
    let rest : Asks s1.pass p3 (calls_of_lines w talk.turns ++ closing) = asks_join s1.pass s2.pass p3 (calls_of_lines w talk.turns) closing between after in
    let all : Asks p0 p3 (opening ++ (calls_of_lines w talk.turns ++ closing)) = asks_join p0 s1.pass p3 opening (calls_of_lines w talk.turns ++ closing) begun rest in
    let told : StepsThrough ticks s1.clock (moments_of (calls_of_lines w talk.turns)) s2.clock = subst (λ (x : Caller). StepsThrough ticks s1.clock (moments_of (calls_of_lines x talk.turns)) s2.clock) speaks served.told in
    let on : StepsThrough ticks s1.clock (moments_of (calls_of_lines w talk.turns ++ closing)) c3 = subst (λ (ms : List ℕ). StepsThrough ticks s1.clock ms c3) (sym (moments_join (calls_of_lines w talk.turns) closing))
    (steps_append ticks s1.clock s2.clock c3 (moments_of (calls_of_lines w talk.turns)) (last ∷ []) told (c3, stop, refl)) in
    inr (record {
      bounds = b;
      talk = talk;
      history = all.calls;
      moments = (s1.clock, start, on);
      served = subst (λ (x : Caller). ServesLines x budget (answer_line (Core r2.place r2.reply false)) talk wrote wrote' sides sides') speaks lines;
      report_is = reported ∙ (ap (λ (n : ℕ). report_of talk.end n budget s2.tally) served.taken_is
          ∙ (ap (λ (t : Tally). report_of talk.end talk.given budget t) served.tallied
          ∙ ap (λ (x : Caller). report_of talk.end talk.given budget (tally_after_lines x no_tally talk.turns)) speaks));
    })
