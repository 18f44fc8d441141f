-- What an office answers to the call of a request, and that the answer can be printed.
use Rattle.std.proofs.Common.{ℕ, ◌+◌, ◌-◌, ◌≤◌, ◌≡◌, true, List, [], ◌∷◌, ◌++◌, length, slice_get, Some, option_map, refl, sym, ap, ◌∙◌, subst, arith}
use Rattle.sx_base.specs.Clock.{greatest_moment}
use Rattle.sx_base.specs.Moment.{greatest_written}
use Rattle.sx_call.specs.Calls.{door_of}
use Rattle.sx_call.specs.declared.calls.Call.{Call}
use Rattle.sx_call.specs.declared.doors.Door.TheVariants.{Rest}
use Rattle.sx_call.specs.declared.entries.Entry.{Entry}
use Rattle.sx_call.specs.declared.entries.Noted.{Noted}
use Rattle.sx_call.specs.declared.refusals.Stop.{Stop}
use Rattle.sx_call.specs.declared.refusals.Stop.TheVariants.{NoMemory, HistoryFull}
use Rattle.sx_spec.specs.Account.{Account, empty}
use Rattle.sx_spec.specs.History.{IsHistory, IsHistoryFrom, moment_after, noted_at}
use Rattle.sx_spec.specs.Step.{step, replay}
use Rattle.sx_book.specs.OneHistory.{Came, appended, history_full, no_memory, Asks, history_of}
use Rattle.sx_book.specs.Passes.{PassView, Appends, AppendsNone, entry_behind, later, receipt_of, with_noted}
use Rattle.sx_book.specs.declared.pass.Receipt.{Receipt}
use Rattle.sx_book.proofs.Calls.{appended_asks, full_asks, starved_asks, asks_none}
use Rattle.sx_book.proofs.Growth.{get_behind}
use Rattle.sx_reply.specs.PrintedReply.{is_printed, is_reply_printed}
use Rattle.sx_reply.specs.declared.answer.Answer.{Answer}
use Rattle.sx_reply.specs.declared.answer.Said.TheVariants.{Core, Stop as Stopped}
use Rattle.sx_book.specs.Reports.{tally_with_stop}
use Rattle.sx_rest_door.specs.Asking.{RestDoorState, DrawsFresh, IsRequestAnswered, IsOutcomeOf, KeepsHistory}
use Rattle.sx_rest_door.specs.Conversation.{called, rest_call, fresh_of, moment_at}

-- each reply to a call of the REST door can be printed
abbrev pub PrintsRest : Type 0
PrintsRest = (a : Account) (e : Entry) → door_of e.call ≡ Rest → is_reply_printed (step a e).1 ≡ true

-- a legal history's last moment is one of a clock
clocked : (a : Account) (last limit : ℕ) (ns : List Noted) → last ≤ greatest_moment → IsHistoryFrom a last limit ns → moment_after last ns ≤ greatest_moment
clocked a last limit [] le h = le
clocked a last limit (n ∷ ns) le h = clocked (step a n.entry).0 n.entry.at limit ns h.0.clock h.3

-- the last of a list with one more
get_last : (log : List Noted) (n : Noted) → slice_get (log ++ n ∷ []) (length log + 1 - 1) ≡ Some n
get_last log n =
    let e : length log + 1 - 1 ≡ length log = omega arith in
    ap (λ (k : ℕ). slice_get (log ++ n ∷ []) k) e ∙ get_behind log n []

module _ (p q : PassView) (moment fresh : ℕ) (call : Call) (r : Receipt) where
  -- the reply of a receipt can be printed
  pub receipt_printed : PrintsRest → door_of call ≡ Rest → Appends p 0 moment fresh call r q → is_reply_printed r.reply ≡ true
  receipt_printed law door took =
      ap (λ (x : Receipt). is_reply_printed x.reply) took.receipt
      ∙ law (replay took.log) (entry_behind took.log p.number 0 moment fresh call) door

  -- its moment has a text
  pub receipt_shown : moment ≤ greatest_moment → Appends p 0 moment fresh call r q → r.at ≤ greatest_written
  receipt_shown le took =
      let is : r.at ≡ later took.log moment = ap (λ (x : Receipt). x.at) took.receipt in
      let last : moment_after 0 took.log ≤ greatest_moment = clocked empty 0 p.limit took.log (omega arith) took.legal in
      omega (arith, is, last, le)

  -- it is that of the entry at its place
  receipt_moment : Appends p 0 moment fresh call r q → moment_at (history_of q) r.place ≡ Some r.at
  receipt_moment took =
      let e : Entry = entry_behind took.log p.number 0 moment fresh call in
      let n : Noted = noted_at (replay took.log) e in
      let seen : q.seen ≡ took.log ++ n ∷ [] = ap (λ (x : PassView). x.seen) took.pass in
      let P : Receipt → Type 0 = λ x. option_map (λ (m : Noted). m.entry.at) (slice_get q.seen (x.place - 1)) ≡ Some x.at in
      let Q : List Noted → Type 0 = λ s. option_map (λ (m : Noted). m.entry.at) (slice_get s (length took.log + 1 - 1)) ≡ Some e.at in
      subst P (sym took.receipt) (subst Q (sym seen) (ap (option_map (λ (m : Noted). m.entry.at)) (get_last took.log n)))

-- what is kept of a history by a call that took a place
appended_keeps : (p q : PassView) (session moment fresh : ℕ) (call : Call) (r : Receipt) → Appends p session moment fresh call r q → KeepsHistory p q
appended_keeps p q session moment fresh call r took =
    let same : q.limit ≡ p.limit = ap (λ (x : PassView). x.limit) took.pass in
    (λ _. subst (λ (n : ℕ). IsHistory n q.seen) (sym same) took.legal_after, λ _. took.exact)

-- and by one that took none
stopped_keeps : (p q : PassView) (call : Call) (s : Stop) → AppendsNone p call s q → KeepsHistory p q
stopped_keeps p q call s took =
    let same : q.limit ≡ p.limit = ap (λ (x : PassView). x.limit) took.others.1 in
    (λ _. subst (λ (n : ℕ). IsHistory n q.seen) (sym same) took.legal, λ _. took.exact)

-- nothing that was asked keeps all
pub none_keeps : (p : PassView) → KeepsHistory p p
none_keeps p = (λ h. h, λ h. h)

-- one after another
pub keeps_join : (p q r : PassView) → KeepsHistory p q → KeepsHistory q r → KeepsHistory p r
keeps_join p q r h k = (λ x. k.0 (h.0 x), λ x. k.1 (h.1 x))

module _ {R : Type 0} (draws : R → ℕ → R → Type 0) (call : Call) (old new : RestDoorState R) (moment fresh : ℕ) (answer : Answer) where
  -- the call with its two words
  worded : (first second : ℕ) (came : Came) → fresh ≡ fresh_of first second → Asks old.pass new.pass (rest_call old.pass.number call moment fresh came ∷ [])
      → Asks old.pass new.pass (rest_call old.pass.number call moment (fresh_of first second) came ∷ [])
  worded first second came e asks = subst (λ (n : ℕ). Asks old.pass new.pass (rest_call old.pass.number call moment n came ∷ [])) e asks

  -- a call that took a place
  pub appended_call : (r : Receipt) → is_reply_printed r.reply ≡ true → DrawsFresh draws old.random fresh new.random → Appends old.pass 0 moment fresh call r new.pass
      → new.tally ≡ record old.tally { asked = old.tally.asked + 1 } → answer ≡ record { place = r.place; at = r.at; said = Core r.reply }
      → IsRequestAnswered draws moment (IsOutcomeOf call) old new answer
  appended_call r printed drawn took counted is = record {
    outcome = called call drawn.0 drawn.1 (appended r.place r.reply);
    told = r.at;
    comes = (drawn.0, drawn.1, appended r.place r.reply, refl);
    tells = receipt_moment old.pass new.pass moment fresh call r took;
    calls = worded drawn.0 drawn.1 (appended r.place r.reply) drawn.2 (appended_asks old.pass new.pass 0 moment fresh call r took);
    history = appended_keeps old.pass new.pass 0 moment fresh call r took;
    drawn = drawn.3;
    tallied = counted;
    answer_is = is;
    printed = ap (λ (a : Answer). is_printed a.said) is ∙ printed;
  }

  -- a call that took none
  pub stopped_call : (s : Stop) → DrawsFresh draws old.random fresh new.random → AppendsNone old.pass call s new.pass
      → new.tally ≡ tally_with_stop (record old.tally { asked = old.tally.asked + 1 }) s → answer ≡ record { place = 0; at = moment; said = Stopped s }
      → IsRequestAnswered draws moment (IsOutcomeOf call) old new answer
  stopped_call NoMemory drawn took counted is = record {
    outcome = called call drawn.0 drawn.1 no_memory;
    told = moment;
    comes = (drawn.0, drawn.1, no_memory, refl);
    tells = refl;
    calls = worded drawn.0 drawn.1 no_memory drawn.2 (starved_asks old.pass new.pass 0 moment fresh call took);
    history = stopped_keeps old.pass new.pass call NoMemory took;
    drawn = drawn.3;
    tallied = counted;
    answer_is = is;
    printed = ap (λ (a : Answer). is_printed a.said) is;
  }
  stopped_call (HistoryFull entries sessions limit) drawn took counted is =
      let same : limit ≡ old.pass.limit = (took.cause entries sessions limit refl).limit_is ∙ ap (λ (p : PassView). p.limit) took.others.1 in
      record {
        outcome = called call drawn.0 drawn.1 (history_full entries sessions);
        told = moment;
        comes = (drawn.0, drawn.1, history_full entries sessions, refl);
        tells = refl;
        calls = worded drawn.0 drawn.1 (history_full entries sessions) drawn.2 (full_asks old.pass new.pass 0 moment fresh call entries sessions limit took);
        history = stopped_keeps old.pass new.pass call (HistoryFull entries sessions limit) took;
        drawn = drawn.3;
        tallied = counted ∙ ap (λ (n : ℕ). tally_with_stop (record old.tally { asked = old.tally.asked + 1 }) (HistoryFull entries sessions n)) same;
        answer_is = is ∙ ap (λ (n : ℕ). record { place = 0; at = moment; said = Stopped (HistoryFull entries sessions n) }) same;
        printed = ap (λ (a : Answer). is_printed a.said) is;
      }
