-- What a session's calls get from an office, and that their replies have lines.
use Rattle.std.proofs.Common.{ℕ, ◌+◌, ◌≡◌, true, false, [], ◌∷◌, refl, ap, ◌∙◌}
use Rattle.sx_answers.specs.SessionReply.{is_session_door, is_session_reply}
use Rattle.sx_call.specs.Calls.{door_of}
use Rattle.sx_call.specs.declared.calls.Call.{Call}
use Rattle.sx_call.specs.declared.entries.Entry.{Entry}
use Rattle.sx_call.specs.declared.refusals.Stop.{Stop}
use Rattle.sx_call.specs.declared.refusals.Stop.TheVariants.{NoMemory, HistoryFull}
use Rattle.sx_call.specs.declared.replies.Reply.{Reply}
use Rattle.sx_call.specs.declared.replies.Reply.TheVariants as reply
use Rattle.sx_spec.specs.Account.{Account}
use Rattle.sx_spec.specs.Step.{step, replay}
use Rattle.sx_book.specs.OneHistory.{appended, history_full, no_memory}
use Rattle.sx_book.specs.Passes.{PassView, HoldsSession, Appends, AppendsNone, entry_behind}
use Rattle.sx_book.specs.declared.pass.Receipt.{Receipt}
use Rattle.sx_book.proofs.Calls.{appended_asks, full_asks, starved_asks}
use Rattle.sx_lines.specs.Answers.{has_line}
use Rattle.sx_lines.specs.declared.answer.LineAnswer.{LineAnswer}
use Rattle.sx_lines.specs.declared.answer.LineAnswer.TheVariants.{Core, Stop as Stopped}
use Rattle.sx_book.specs.Reports.{tally_with_stop}
use Rattle.sx_smb_door.specs.Asking.{SessionDoorState, IsAsked}
use Rattle.sx_smb_door.specs.Conversation.{locks_bytes}

-- ---- its reply has a line
false_true : false ≡ true → ⊥
false_true e = cc

has_line_by : (r : Reply) → is_session_reply r ≡ true → has_line r ≡ true
has_line_by (reply.Refused refusal) h = h
has_line_by (reply.Smb answer) h = refl
has_line_by (reply.Stamped status stamp) h = absurd (false_true h)
has_line_by (reply.Made status stamp facts) h = absurd (false_true h)
has_line_by reply.Gone h = absurd (false_true h)
has_line_by (reply.Snapped moment stamp) h = absurd (false_true h)
has_line_by (reply.ShareFacts stamp quota _ meta) h = absurd (false_true h)
has_line_by (reply.Metas stamp meta) h = absurd (false_true h)
has_line_by (reply.DirFacts stamp facts meta) h = absurd (false_true h)
has_line_by (reply.FileFacts stamp length content facts _ meta) h = absurd (false_true h)
has_line_by (reply.FileBytes stamp part content facts _ meta) h = absurd (false_true h)
has_line_by (reply.Listed body) h = absurd (false_true h)
has_line_by (reply.RangesListed stamp length body) h = absurd (false_true h)
has_line_by (reply.LeaseDone status stamp id) h = absurd (false_true h)
has_line_by (reply.HandlesClosed n) h = absurd (false_true h)

-- each reply to a call of the session's door can be printed
abbrev pub PrintsSessions : Type 0
PrintsSessions = (a : Account) (e : Entry) → is_session_door (door_of e.call) ≡ true → is_session_reply (step a e).1 ≡ true

-- the reply of a receipt has a line
pub receipt_line : PrintsSessions → (p q : PassView) (session moment fresh : ℕ) (call : Call) (r : Receipt) → is_session_door (door_of call) ≡ true → Appends p session moment fresh call r q → has_line r.reply ≡ true
receipt_line law p q session moment fresh call r door took =
    ap (λ (x : Receipt). has_line x.reply) took.receipt
    ∙ has_line_by (step (replay took.log) (entry_behind took.log p.number session moment fresh call)).1 (law (replay took.log) (entry_behind took.log p.number session moment fresh call) door)

-- ---- what an office answers
-- a call that took a place
pub appended_call : {C : Type 0} (ticks : C → ℕ → C → Type 0) (session : ℕ) (call : Call) (old new : SessionDoorState C) (moment : ℕ) (r : Receipt)
    → has_line r.reply ≡ true → HoldsSession new.pass session → ticks old.clock moment new.clock → Appends old.pass session moment 0 call r new.pass → new.tally ≡ record old.tally { asked = old.tally.asked + 1 }
    → IsAsked ticks session call old new (Core r.place r.reply (locks_bytes call))
appended_call {C} ticks session call old new moment r line held told took counted = record {
  moment = moment;
  came = appended r.place r.reply;
  calls = appended_asks old.pass new.pass session moment 0 call r took;
  told = told;
  tallied = counted;
  answer_is = refl;
  printed = line;
  held = held;
}

-- a call that took none
pub stopped_call : {C : Type 0} (ticks : C → ℕ → C → Type 0) (session : ℕ) (call : Call) (old new : SessionDoorState C) (moment : ℕ) (s : Stop)
    → HoldsSession new.pass session → ticks old.clock moment new.clock → AppendsNone old.pass call s new.pass → new.tally ≡ tally_with_stop (record old.tally { asked = old.tally.asked + 1 }) s
    → IsAsked ticks session call old new (Stopped s)
stopped_call {C} ticks session call old new moment NoMemory held told took counted = record {
  moment = moment;
  came = no_memory;
  calls = starved_asks old.pass new.pass session moment 0 call took;
  told = told;
  tallied = counted;
  answer_is = refl;
  printed = refl;
  held = held;
}
stopped_call {C} ticks session call old new moment (HistoryFull entries sessions limit) held told took counted =
    let same : limit ≡ old.pass.limit = (took.cause entries sessions limit refl).limit_is ∙ ap (λ (p : PassView). p.limit) took.others.1 in
    record {
      moment = moment;
      came = history_full entries sessions;
      calls = full_asks old.pass new.pass session moment 0 call entries sessions limit took;
      told = told;
      tallied = counted ∙ ap (λ (n : ℕ). tally_with_stop (record old.tally { asked = old.tally.asked + 1 }) (HistoryFull entries sessions n)) same;
      answer_is = ap (λ (n : ℕ). Stopped (HistoryFull entries sessions n)) same;
      printed = refl;
      held = held;
    }
