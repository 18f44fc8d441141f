-- One line more in a session.
use Rattle.std.proofs.Common.{ℕ, ◌+◌, ◌≤◌, ◌≡◌, true, List, [], ◌∷◌, ◌++◌, length, Option, Ok, Err, refl, sym, ap, ◌∙◌, subst, append_assoc, arith, length-append}
use Rattle.std.specs.List.{AllByRecursion, flat_map}
use Rattle.std.specs.Io.KnownBytes.{Consumes}
use Rattle.std.proofs.lemmas.List.{append-nil}
use Rattle.std.proofs.lemmas.List.Concat.{flat_map-append}
use Rattle.sx_base.specs.Clock.{StepsThrough}
use Rattle.sx_base.proofs.Steps.{steps_append}
use Rattle.sx_base.proofs.Streams.{consumes_more, consumes_none}
use Rattle.sx_call.specs.declared.calls.Call.{Call}
use Rattle.sx_call.specs.declared.refusals.Stop.TheVariants.{NoMemory}
use Rattle.sx_turn.proofs.Lists.{each_snoc}
use Rattle.sx_book.proofs.Texts.{came_after}
use Rattle.sx_book.specs.OneHistory.{Came, appended, history_full, no_memory, Outcome, Asks, moments_of}
use Rattle.sx_book.specs.Passes.{PassView, HoldsSession}
use Rattle.sx_book.proofs.Calls.{asks_none, asks_join}
use Rattle.sx_smb_door.specs.Asking.{SessionDoorState, caller_in, IsAsked, IsLineAnswered}
use Rattle.sx_book.specs.Reports.{no_tally}
use Rattle.sx_smb_door.specs.Conversation.{LineOutcome, wrong_word, not_parsed, called, AnsweredLine, IsAnsweredLine, Caller, calls_in_line, calls_of_lines, line_answer, tally_after_line, tally_after_lines, line_bytes}
use Rattle.sx_lines.specs.Lines.{line_of}
use Rattle.sx_lines.specs.declared.answer.LineAnswer.{LineAnswer}
use Rattle.sx_lines.specs.declared.answer.LineAnswer.TheVariants.{Syntax, Stop as Stopped}
use Rattle.sx_lines.specs.declared.line.Line.TheVariants.{Ask}
use Rattle.sx_lines.specs.declared.line.TheConstants.{LINE_LIMIT}
use Rattle.sx_smb_door.specs.Lines.{with_line_feed, IsOneLine}
use Rattle.sx_book.specs.declared.report.Tally.{Tally}

pub tally_more : (w : Caller) (tally : Tally) (ts : List AnsweredLine) (t : AnsweredLine) → tally_after_lines w tally (ts ++ t ∷ []) ≡ tally_after_line w (tally_after_lines w tally ts) t.outcome
tally_more w tally [] t = refl
tally_more w tally (u ∷ ts) t = tally_more w (tally_after_line w tally u.outcome) ts t

pub flat_more : {A : Type 0} (f : AnsweredLine → List A) (ts : List AnsweredLine) (t : AnsweredLine) → flat_map f (ts ++ t ∷ []) ≡ flat_map f ts ++ f t
flat_more {A} f ts t = flat_map-append f ts (t ∷ []) ∙ ap (λ (xs : List A). flat_map f ts ++ xs) (append-nil (f t))

-- the moments of calls behind calls
pub moments_join : (os us : List Outcome) → moments_of (os ++ us) ≡ moments_of os ++ moments_of us
moments_join os us = flat_map-append (λ (o : Outcome). o.asked.now ∷ []) os us

-- the lines that were answered so far, from one stream and state to another
pub record Going {C : Type 0} (ticks : C → ℕ → C → Type 0) (w : Caller) (stream stream' : Option (List ℕ)) (old new : SessionDoorState C) (taken : ℕ) : Type 0 where
  pub turns : List AnsweredLine
  pub lines : AllByRecursion IsAnsweredLine turns
  pub bytes : Consumes stream stream' (line_bytes turns)
  pub taken_is : taken ≡ length (line_bytes turns)
  pub calls : Asks old.pass new.pass (calls_of_lines w turns)
  pub tallied : new.tally ≡ tally_after_lines w no_tally turns
  pub told : StepsThrough ticks old.clock (moments_of (calls_of_lines w turns)) new.clock

-- no line yet
unfoldable pub going_none : {C : Type 0} (ticks : C → ℕ → C → Type 0) (w : Caller) (stream : Option (List ℕ)) (s : SessionDoorState C) (taken : ℕ) → s.tally ≡ no_tally → taken ≡ 0 → Going ticks w stream stream s s taken
going_none ticks w stream s taken none zero = record {
  turns = [];
  lines = tt;
  bytes = consumes_none stream;
  taken_is = zero;
  calls = asks_none s.pass;
  tallied = none;
  told = refl;
}

-- the caller of a session does not change with its calls
pub same_caller : (session : ℕ) (p q : PassView) (os : List Outcome) → Asks p q os → caller_in q session ≡ caller_in p session
same_caller session p q os a = ap (λ (x : PassView). caller_in x session) a.pass

-- the lines with one more
unfoldable pub going_more : {C : Type 0} (ticks : C → ℕ → C → Type 0) (w : Caller) (s0 s1 s2 : Option (List ℕ)) (a b c : SessionDoorState C) (k1 k2 : ℕ) (line : List ℕ) (answer : LineAnswer)
    → (g : Going ticks w s0 s1 a b k1) → IsOneLine line → length line ≤ LINE_LIMIT → Consumes s1 s2 (with_line_feed line) → k2 ≡ k1 + length line + 1
    → IsLineAnswered ticks w line b c answer → Going ticks w s0 s2 a c k2
going_more {C} ticks w s0 s1 s2 a b c k1 k2 line answer g one short taken count last =
    let t : AnsweredLine = record { line = line; outcome = last.outcome } in
    let lines : line_bytes (g.turns ++ t ∷ []) ≡ line_bytes g.turns ++ with_line_feed line = flat_more (λ (u : AnsweredLine). with_line_feed u.line) g.turns t in
    let calls : calls_of_lines w (g.turns ++ t ∷ []) ≡ calls_of_lines w g.turns ++ calls_in_line w last.outcome = flat_more (λ (u : AnsweredLine). calls_in_line w u.outcome) g.turns t in
    let moments : moments_of (calls_of_lines w (g.turns ++ t ∷ [])) ≡ moments_of (calls_of_lines w g.turns) ++ moments_of (calls_in_line w last.outcome) = ap moments_of calls ∙ moments_join (calls_of_lines w g.turns) (calls_in_line w last.outcome) in
    record {
      turns = g.turns ++ t ∷ [];
      lines = each_snoc _ g.turns t g.lines (record { one = one; short = short; spells = last.spells });
      bytes = subst (Consumes s0 s2) (sym lines) (consumes_more s0 s1 s2 (line_bytes g.turns) (with_line_feed line) g.bytes taken);
      taken_is = omega (arith, count, g.taken_is, ap length lines, length-append (line_bytes g.turns) (with_line_feed line), length-append line (10 ∷ []));
      calls = subst (Asks a.pass c.pass) (sym calls) (asks_join a.pass b.pass c.pass (calls_of_lines w g.turns) (calls_in_line w last.outcome) g.calls last.calls);
      tallied = last.tallied ∙ ap (λ (x : Tally). tally_after_line w x last.outcome) g.tallied ∙ sym (tally_more w no_tally g.turns t);
      told = subst (λ (ms : List ℕ). StepsThrough ticks a.clock ms c.clock) (sym moments) (steps_append ticks a.clock b.clock c.clock (moments_of (calls_of_lines w g.turns)) (moments_of (calls_in_line w last.outcome)) g.told last.told);
    }

-- ---- a call that was asked is a line that was answered
pub asked_line : {C : Type 0} (ticks : C → ℕ → C → Type 0) (session : ℕ) (line : List ℕ) (call : Call) (old new : SessionDoorState C) (answer : LineAnswer)
    → line_of line ≡ Ok (Ask call) → IsAsked ticks session call old new answer → IsLineAnswered ticks (caller_in old.pass session) line old new answer
asked_line {C} ticks session line call old new answer is a = record {
  outcome = called call a.moment a.came;
  spells = is;
  calls = a.calls;
  told = (new.clock, a.told, refl);
  tallied = a.tallied;
  answer_is = a.answer_is;
  printed = a.printed;
  held = a.held;
}

-- a line with a wrong word
pub wrong_line : {C : Type 0} (ticks : C → ℕ → C → Type 0) (w : Caller) (line : List ℕ) (at : ℕ) (s : SessionDoorState C) → line_of line ≡ Err at → HoldsSession s.pass w.session → IsLineAnswered ticks w line s s (Syntax at)
wrong_line ticks w line at s wrong held = record {
  outcome = wrong_word at;
  spells = wrong;
  calls = asks_none s.pass;
  told = refl;
  tallied = refl;
  answer_is = refl;
  printed = refl;
  held = held;
}

-- a line that could not be parsed
pub unparsed_line : {C : Type 0} (ticks : C → ℕ → C → Type 0) (w : Caller) (line : List ℕ) (s : SessionDoorState C) → HoldsSession s.pass w.session → IsLineAnswered ticks w line s (record s { tally = record s.tally { no_memory = true } }) (Stopped NoMemory)
unparsed_line ticks w line s held = record {
  outcome = not_parsed;
  spells = tt;
  calls = asks_none s.pass;
  told = refl;
  tallied = refl;
  answer_is = refl;
  printed = refl;
  held = held;
}

-- an outcome counts at most one call
pub asked_after : (w : Caller) (t : Tally) (o : LineOutcome) → (tally_after_line w t o).asked ≤ t.asked + 1
asked_after w t (wrong_word at) = omega arith
asked_after w t not_parsed = omega arith
asked_after w t (called call moment came) = omega (arith, came_after w.limit (record t { asked = t.asked + 1 }) came)
