-- How a session's lines go on and end.
use Rattle.std.proofs.Common.{ℕ, ◌+◌, ◌≤◌, ◌≡◌, List, [], ◌∷◌, ◌++◌, length, Option, Some, None, refl, sym, ap, ◌∙◌, subst, arith, length-append}
use Rattle.std.proofs.lemmas.List.{append-nil}
use Rattle.std.specs.Io.KnownBytes.{Consumes, Keeps, prepend_known}
use Rattle.sx_base.specs.Sides.{Sides}
use Rattle.sx_base.proofs.Streams.{consumes_more, consumes_none, keeps_same}
use Rattle.sx_book.specs.declared.report.ConnEnd.{ConnEnd}
use Rattle.sx_book.specs.declared.report.ConnEnd.TheVariants as finish
use Rattle.sx_smb_door.specs.Asking.{SessionDoorState, EndsAs, IsLineAnswered, AreLinesServed, SaysQuit}
use Rattle.sx_book.specs.Reports.{HasBegun, HasPrefix, HasText, KeepsCounts, no_tally}
use Rattle.sx_smb_door.specs.Conversation.{AnsweredLine, Caller, SessionTalk, line_answer, line_answers, line_bytes, quit_bytes, BreaksAtLine, HasWrittenToLines, IsSessionEnd, EndsByQuit, ServesLines}
use Rattle.sx_lines.specs.Answers.{answer_line}
use Rattle.sx_lines.specs.declared.answer.LineAnswer.{LineAnswer}
use Rattle.sx_lines.specs.declared.line.TheConstants.{LINE_LIMIT}
use Rattle.sx_smb_door.specs.LineReaderView.{LineReaderView}
use Rattle.sx_smb_door.specs.Lines.{with_line_feed, line_stream, GivesLine, IsOneLine}
use Rattle.sx_book.proofs.Texts.{text_begun, text_kept, text_more, text_none}
use Rattle.sx_smb_door.proofs.Turns.{Going, going_none, going_more, flat_more}

-- lines that were answered, with what was written for them
abbrev pub Run : {C : Type 0} → (C → ℕ → C → Type 0) → Caller → Option (List ℕ) → Option (List ℕ) → SessionDoorState C → SessionDoorState C → ℕ → (List ℕ → Type 0) → (List ℕ → Type 0) → Type 0
Run ticks w s s' old new taken wrote wrote' = (going : Going ticks w s s' old new taken) × HasText wrote wrote' (line_answers w going.turns)

-- no line yet
pub run_none : {C : Type 0} (ticks : C → ℕ → C → Type 0) (w : Caller) (s : Option (List ℕ)) (a : SessionDoorState C) (taken : ℕ) (wrote : List ℕ → Type 0) → a.tally ≡ no_tally → taken ≡ 0 → Run ticks w s s a a taken wrote wrote
unfolding going_none
run_none {C} ticks w s a taken wrote none zero = (going_none ticks w s a taken none zero, text_none wrote)

module _ {C : Type 0} (ticks : C → ℕ → C → Type 0) (w : Caller) (s0 s1 s2 : Option (List ℕ)) (a b c : SessionDoorState C) (k1 k2 : ℕ) (at_first at_line at_answer at_last : List ℕ → Type 0) (line : List ℕ) (answer : LineAnswer) where
  -- one line more, whose answer was written
  pub run_more : Run ticks w s0 s1 a b k1 at_first at_line → IsOneLine line → length line ≤ LINE_LIMIT → Consumes s1 s2 (with_line_feed line) → k2 ≡ k1 + length line + 1
      → IsLineAnswered ticks w line b c answer → ((m : List ℕ) → at_line m → at_answer m) → HasText at_answer at_last (answer_line answer) → Run ticks w s0 s2 a c k2 at_first at_last
  unfolding going_more
  run_more run one short taken count last keep text =
      let g = run.0 in
      let t : AnsweredLine = record { line = line; outcome = last.outcome } in
      let said : List ℕ = line_answers w g.turns in
      let all = text_more at_first at_answer at_last said (answer_line answer) (text_kept at_first at_line at_answer said run.1 keep) text in
      let now : said ++ answer_line answer ≡ line_answers w (g.turns ++ t ∷ []) =
      ap (λ (x : LineAnswer). said ++ answer_line x) last.answer_is ∙ sym (flat_more (λ (u : AnsweredLine). answer_line (line_answer w u.outcome)) g.turns t) in
      (going_more ticks w s0 s1 s2 a b c k1 k2 line answer g one short taken count last, subst (HasText at_first at_last) now all)

  -- one line more, of whose answer a prefix was written
  pub run_breaks : Run ticks w s0 s1 a b k1 at_first at_line → IsOneLine line → length line ≤ LINE_LIMIT → Consumes s1 s2 (with_line_feed line) → k2 ≡ k1 + length line + 1
      → IsLineAnswered ticks w line b c answer → ((m : List ℕ) → at_line m → at_answer m) → HasPrefix at_answer at_last (answer_line answer)
      → (going : Going ticks w s0 s2 a c k2) × BreaksAtLine w going.turns at_first at_last
  unfolding going_more
  run_breaks run one short taken count last keep text =
      let g = run.0 in
      let t : AnsweredLine = record { line = line; outcome = last.outcome } in
      let said : List ℕ = line_answers w g.turns in
      let begun = text_begun at_first at_answer at_last said (answer_line answer) (text_kept at_first at_line at_answer said run.1 keep) text in
      (going_more ticks w s0 s1 s2 a b c k1 k2 line answer g one short taken count last, record { answered = g.turns; last = t; split = refl; begun = subst (HasBegun at_first at_last said) (ap answer_line last.answer_is) begun })

-- what was said in lines
abbrev pub talk_of : List AnsweredLine → Option (List ℕ) → ℕ → ConnEnd → Option (List ℕ) → List ℕ → SessionTalk
talk_of turns quit given end rest held = record { turns = turns; quit = quit; given = given; end = end; rest = rest; held = held }

-- the lines, and how they ended
pub served_by : {C : Type 0} (ticks : C → ℕ → C → Type 0) (w : Caller) (budget : ℕ) (wrote wrote' : List ℕ → Type 0) (old new : Sides) (a b : SessionDoorState C) (lines : Option ConnEnd) (end : ConnEnd) (quit : Option (List ℕ)) (s0 s1 s2 : Option (List ℕ)) (held : List ℕ) (k k2 : ℕ)
    → (going : Going ticks w s0 s1 a b k) → s0 ≡ old.left → Consumes s1 s2 (quit_bytes quit) → k2 ≡ k + length (quit_bytes quit) → k2 + length held ≤ budget → Keeps s2 (prepend_known held new.left)
    → EndsAs lines (talk_of going.turns quit k2 end s2 held) → HasWrittenToLines end w [] (talk_of going.turns quit k2 end s2 held) wrote wrote'
    → IsSessionEnd end budget (talk_of going.turns quit k2 end s2 held) old new → EndsByQuit end quit → KeepsCounts end old new
    → (talk : SessionTalk) × EndsAs lines talk × AreLinesServed ticks w talk a b k2 × ServesLines w budget [] talk wrote wrote' old new
served_by {C} ticks w budget wrote wrote' old new a b lines end quit s0 s1 s2 held k k2 going same last count within unread ended_as written ended quits counts = (
  talk_of going.turns quit k2 end s2 held,
  ended_as,
  record { calls = going.calls; told = going.told; tallied = going.tallied; taken_is = refl },
  record {
    lines = going.lines;
    bytes = record {
      lines = subst (λ (s : Option (List ℕ)). Consumes s s2 (line_bytes going.turns ++ quit_bytes quit)) same (consumes_more s0 s1 s2 (line_bytes going.turns) (quit_bytes quit) going.bytes last);
      given_is = omega (arith, count, going.taken_is, length-append (line_bytes going.turns) (quit_bytes quit));
      unread = unread;
      within = within;
    };
    answers = written;
    end = ended;
    quits = quits;
    counts = counts;
  },
)

-- what a reader keeps that gave no line
abbrev pub KeepsTaken : LineReaderView → LineReaderView → Type 0
KeepsTaken r r' = (r'.taken ≡ r.taken) × (r'.budget ≡ r.budget)

-- the lines, and how they ended where nothing more was written
pub stopped_by : {C : Type 0} (ticks : C → ℕ → C → Type 0) (w : Caller) (budget : ℕ) (at_first at_line at_last : List ℕ → Type 0) (old new : Sides) (a b : SessionDoorState C) (end : ConnEnd) (s0 s1 : Option (List ℕ)) (r r' : LineReaderView)
    → (run : Run ticks w s0 s1 a b r.taken at_first at_line) → s0 ≡ old.left → KeepsTaken r r' → r.budget ≡ budget → r'.taken + length r'.held ≤ r'.budget → Keeps s1 (prepend_known r'.held new.left) → ((m : List ℕ) → at_line m → at_last m)
    → (HasText at_first at_last (line_answers w run.0.turns) → HasWrittenToLines end w [] (talk_of run.0.turns None r'.taken end s1 r'.held) at_first at_last)
    → IsSessionEnd end r'.budget (talk_of run.0.turns None r'.taken end s1 r'.held) old new → EndsByQuit end None → KeepsCounts end old new
    → (talk : SessionTalk) × EndsAs (Some end) talk × AreLinesServed ticks w talk a b r'.taken × ServesLines w budget [] talk at_first at_last old new
stopped_by {C} ticks w budget at_first at_line at_last old new a b end s0 s1 r r' run same taken budget_is within unread keep plain ended quits counts =
    let limit : r'.budget ≡ budget = taken.1 ∙ budget_is in
    served_by ticks w budget at_first at_last old new a b (Some end) end None s0 s1 s1 r'.held r.taken r'.taken run.0 same (consumes_none s1) (omega (arith, taken.0)) (omega (arith, within, limit)) unread
    (refl, refl)
    (plain (text_kept at_first at_line at_last (line_answers w run.0.turns) run.1 keep))
    (subst (λ (n : ℕ). IsSessionEnd end n (talk_of run.0.turns None r'.taken end s1 r'.held) old new) limit ended) quits counts

-- the lines, and how `quit` ended them
pub quit_by : {C : Type 0} (ticks : C → ℕ → C → Type 0) (w : Caller) (budget : ℕ) (at_first at_line at_last : List ℕ → Type 0) (old new : Sides) (a b c : SessionDoorState C) (line : List ℕ) (s0 : Option (List ℕ)) (r r' : LineReaderView) (left : Option (List ℕ))
    → (run : Run ticks w s0 (line_stream r left) a b r.taken at_first at_line) → s0 ≡ old.left → GivesLine line r r' left new.left → r.budget ≡ budget → r'.taken + length r'.held ≤ r'.budget → ((m : List ℕ) → at_line m → at_last m)
    → SaysQuit line b c → (new.reads ≡ old.reads) × (new.writes ≡ old.writes)
    → (talk : SessionTalk) × EndsAs None talk × AreLinesServed ticks w talk a c r'.taken × ServesLines w budget [] talk at_first at_last old new
quit_by {C} ticks w budget at_first at_line at_last old new a b c line s0 r r' left run same given budget_is within keep says counts =
    let said : List ℕ = line_answers w run.0.turns in
    let feed : length (with_line_feed line) ≡ length line + 1 = length-append line (10 ∷ []) in
    let P : SessionDoorState C → Type 0 = λ x. (talk : SessionTalk) × EndsAs None talk × AreLinesServed ticks w talk a x r'.taken × ServesLines w budget [] talk at_first at_last old new in
    subst P (sym says.same) (
    served_by ticks w budget at_first at_last old new a b None (finish.Closed None) (Some line) s0 (line_stream r left) (line_stream r' new.left) r'.held r.taken r'.taken run.0 same given.bytes (omega (arith, given.taken, feed)) (omega (arith, within, given.budget, budget_is))
    (keeps_same (line_stream r' new.left)) refl
    (subst (HasText at_first at_last) (sym (append-nil said)) (text_kept at_first at_line at_last said run.1 keep))
    tt (record { one = given.one; short = given.short; quits = says.spells }) counts)
