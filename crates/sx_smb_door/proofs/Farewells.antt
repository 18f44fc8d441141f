-- How a session is closed behind its lines.
use Rattle.std.proofs.Common.{ℕ, ◌+◌, ◌<◌, ◌≤◌, ◌^◌, ◌≡◌, List, [], ◌++◌, length, Option, Some, None, refl, sym, ap, ◌∙◌, subst, arith}
use Rattle.std.proofs.lemmas.List.{append-nil}
use Rattle.std.specs.Io.KnownBytes.{Keeps, prepend_known}
use Rattle.sx_base.specs.Causes.{Rose}
use Rattle.sx_base.specs.Sides.{Sides}
use Rattle.sx_book.specs.declared.report.ConnEnd.{ConnEnd}
use Rattle.sx_book.specs.declared.report.ConnEnd.TheVariants as finish
use Rattle.sx_smb_door.specs.Asking.{SessionDoorState, EndsAs, IsFarewell, AreLinesServed}
use Rattle.sx_book.specs.Reports.{HasBegun, HasText, KeepsCounts, taken_at}
use Rattle.sx_smb_door.specs.Conversation.{Caller, SessionTalk, line_answers, BreaksSession, HasWrittenToLines, IsSessionEnd, EndsByQuit, TakesLines, ServesLines}
use Rattle.sx_book.proofs.Texts.{text_begun, text_more}

-- a talk of another end
abbrev pub ending : SessionTalk → ConnEnd → SessionTalk
ending t end = record { turns = t.turns; quit = t.quit; given = t.given; end = end; rest = t.rest; held = t.held }

-- what was written says nothing of the answer to `quit` where that did not end the lines
rewritten : (end : ConnEnd) (w : Caller) (t : SessionTalk) (x y : List ℕ) (wrote wrote' : List ℕ → Type 0) → EndsByQuit end None → t.quit ≡ None → HasWrittenToLines end w x t wrote wrote' → HasWrittenToLines end w y t wrote wrote'
rewritten finish.Ended w t x y wrote wrote' q none h = h
rewritten (finish.Closed None) w t x y wrote wrote' q none h = absurd q
rewritten (finish.Closed (Some at)) w t x y wrote wrote' q none h = h
rewritten (finish.Cut left) w t x y wrote wrote' q none h = h
rewritten finish.Spent w t x y wrote wrote' q none h = h
rewritten finish.ReadFault w t x y wrote wrote' q none h = h
rewritten finish.WriteFault w t x y wrote wrote' q none h =
    let P : Option (List ℕ) → Type 0 = λ (line : Option (List ℕ)). BreaksSession line w x t wrote wrote' in
    let Q : Option (List ℕ) → Type 0 = λ (line : Option (List ℕ)). BreaksSession line w y t wrote wrote' in
    let broken : BreaksSession None w y t wrote wrote' = subst P none h in
    subst Q (sym none) broken
rewritten (finish.Full full) w t x y wrote wrote' q none h = h
rewritten finish.NoMemory w t x y wrote wrote' q none h = h

-- lines that `quit` ended, of which the answer to it was written in part
breaks_there : (q : Option (List ℕ)) (w : Caller) (t : SessionTalk) (last : List ℕ) (wrote wrote' : List ℕ → Type 0) → EndsByQuit (finish.Closed None) q → HasBegun wrote wrote' (line_answers w t.turns) last → BreaksSession q w last t wrote wrote'
breaks_there None w t last wrote wrote' h begun = absurd h
breaks_there (Some line) w t last wrote wrote' h begun = begun

fault_there : (q : Option (List ℕ)) → EndsByQuit (finish.Closed None) q → EndsByQuit finish.WriteFault q
fault_there None h = absurd h
fault_there (Some line) h = h

-- an end that the link's sides tell of does not look at the talk's end
end_kept : (end x : ConnEnd) (budget : ℕ) (t : SessionTalk) (old new : Sides) → IsSessionEnd end budget t old new → IsSessionEnd end budget (ending t x) old new
end_kept finish.Ended x budget t old new h = h
end_kept (finish.Closed None) x budget t old new h = h
end_kept (finish.Closed (Some at)) x budget t old new h = h
end_kept (finish.Cut left) x budget t old new h = h
end_kept finish.Spent x budget t old new h = h
end_kept finish.ReadFault x budget t old new h = h
end_kept finish.WriteFault x budget t old new h = h
end_kept (finish.Full full) x budget t old new h = h
end_kept finish.NoMemory x budget t old new h = h

-- nor does what was written
written_kept : (end x : ConnEnd) (w : Caller) (last : List ℕ) (t : SessionTalk) (wrote wrote' : List ℕ → Type 0) → HasWrittenToLines end w last t wrote wrote' → HasWrittenToLines end w last (ending t x) wrote wrote'
written_kept finish.Ended x w last t wrote wrote' h = h
written_kept (finish.Closed None) x w last t wrote wrote' h = h
written_kept (finish.Closed (Some at)) x w last t wrote wrote' h = h
written_kept (finish.Cut left) x w last t wrote wrote' h = h
written_kept finish.Spent x w last t wrote wrote' h = h
written_kept finish.ReadFault x w last t wrote wrote' h = h
written_kept finish.WriteFault x w last t wrote wrote' h =
    elim t.quit as (λ q. BreaksSession q w last t wrote wrote' → BreaksSession q w last (ending t x) wrote wrote') [ None ↦ λ k. k | Some line ↦ λ k. k ] h
written_kept (finish.Full full) x w last t wrote wrote' h = h
written_kept finish.NoMemory x w last t wrote wrote' h = h

-- the lines take the same off the link, whatever the end
takes_kept : (budget : ℕ) (t : SessionTalk) (x : ConnEnd) (old mid new : Sides) → new.left ≡ mid.left → TakesLines budget t old mid → TakesLines budget (ending t x) old new
takes_kept budget t x old mid new same h = record {
  lines = h.lines;
  given_is = h.given_is;
  unread = subst (λ (left : Option (List ℕ)). Keeps t.rest (prepend_known t.held left)) (sym same) h.unread;
  within = h.within;
}

-- lines that were served are so, whatever is said behind them
pub served_again : {C : Type 0} (ticks : C → ℕ → C → Type 0) (w : Caller) (t : SessionTalk) (x : ConnEnd) (a b : SessionDoorState C) (taken : ℕ) → AreLinesServed ticks w t a b taken → AreLinesServed ticks w (ending t x) a b taken
served_again ticks w t x a b taken h = record { calls = h.calls; told = h.told; tallied = h.tallied; taken_is = h.taken_is }

-- the lines with what was said behind them
module _ {K : Type 0} (wrote : K → List ℕ → Type 0) (left : K → Option (List ℕ)) (reads writes : K → ℕ) (k1 k2 : K) (w : Caller) (budget : ℕ) (last : List ℕ) (at_first : List ℕ → Type 0) (old : Sides) (t : SessionTalk) where
  abbrev sides_at : K → Sides
  sides_at k = record { left = left k; reads = reads k; writes = writes k }

  -- nothing
  silent : (e : ConnEnd) → t.end ≡ e → t.quit ≡ None → ServesLines w budget [] t at_first (wrote k1) old (sides_at k1) → ServesLines w budget last (ending t t.end) at_first (wrote k1) old (sides_at k1)
  silent e is none s =
      let quits : EndsByQuit t.end None = subst (EndsByQuit t.end) none s.quits in
      record {
        lines = s.lines;
        bytes = takes_kept budget t t.end old (sides_at k1) (sides_at k1) refl s.bytes;
        answers = written_kept t.end t.end w last t at_first (wrote k1) (rewritten t.end w t [] last at_first (wrote k1) quits none s.answers);
        end = end_kept t.end t.end budget t old (sides_at k1) s.end;
        quits = s.quits;
        counts = s.counts;
      }

  pub parted : (lines : Option ConnEnd) (end : ConnEnd) → EndsAs lines t → ServesLines w budget [] t at_first (wrote k1) old (sides_at k1) → IsFarewell wrote writes k1 k2 last lines end → left k2 ≡ left k1 → reads k2 ≡ reads k1
      → ServesLines w budget last (ending t end) at_first (wrote k2) old (sides_at k2)
  parted (Some e) end ends s said l r =
      let same : t.end ≡ end = ends.0 ∙ sym said.0 in
      subst (λ (k : K). ServesLines w budget last (ending t end) at_first (wrote k) old (sides_at k)) (sym said.1)
      (subst (λ (x : ConnEnd). ServesLines w budget last (ending t x) at_first (wrote k1) old (sides_at k1)) same (silent e ends.0 ends.1 s))
  parted None (finish.Closed None) ends s said l r =
      let spoken : List ℕ = line_answers w t.turns in
      let text : HasText at_first (wrote k1) (spoken ++ []) = subst (λ (e : ConnEnd). HasWrittenToLines e w [] t at_first (wrote k1)) ends s.answers in
      let counts : (reads k1 ≡ old.reads) × (writes k1 ≡ old.writes) = subst (λ (e : ConnEnd). KeepsCounts e old (sides_at k1)) ends s.counts in
      record {
        lines = s.lines;
        bytes = takes_kept budget t (finish.Closed None) old (sides_at k1) (sides_at k2) l s.bytes;
        answers = text_more at_first (wrote k1) (wrote k2) spoken last (subst (HasText at_first (wrote k1)) (append-nil spoken) text) said.0;
        end = tt;
        quits = subst (λ (e : ConnEnd). EndsByQuit e t.quit) ends s.quits;
        counts = (r ∙ counts.0, said.1 ∙ counts.1);
      }
  parted None finish.WriteFault ends s said l r =
      let spoken : List ℕ = line_answers w t.turns in
      let text : HasText at_first (wrote k1) (spoken ++ []) = subst (λ (e : ConnEnd). HasWrittenToLines e w [] t at_first (wrote k1)) ends s.answers in
      let counts : (reads k1 ≡ old.reads) × (writes k1 ≡ old.writes) = subst (λ (e : ConnEnd). KeepsCounts e old (sides_at k1)) ends s.counts in
      let quits : EndsByQuit (finish.Closed None) t.quit = subst (λ (e : ConnEnd). EndsByQuit e t.quit) ends s.quits in
      record {
        lines = s.lines;
        bytes = takes_kept budget t finish.WriteFault old (sides_at k1) (sides_at k2) l s.bytes;
        answers = breaks_there t.quit w (ending t finish.WriteFault) last at_first (wrote k2) quits (text_begun at_first (wrote k1) (wrote k2) spoken last (subst (HasText at_first (wrote k1)) (append-nil spoken) text) said.0);
        end = subst (λ (n : ℕ). Rose n (writes k2)) counts.1 said.1;
        quits = fault_there t.quit quits;
        counts = r ∙ counts.0;
      }
  parted None finish.Ended ends s said l r = absurd said
  parted None (finish.Closed (Some at)) ends s said l r = absurd said
  parted None (finish.Cut n) ends s said l r = absurd said
  parted None finish.Spent ends s said l r = absurd said
  parted None finish.ReadFault ends s said l r = absurd said
  parted None (finish.Full full) ends s said l r = absurd said
  parted None finish.NoMemory ends s said l r = absurd said

-- the bytes that are reported fit their type, as the budget does
pub report_fits : (end : ConnEnd) (budget taken : ℕ) (t : SessionTalk) (old new : Sides) → IsSessionEnd end budget t old new → taken ≡ t.given → taken ≤ budget → budget < 2 ^ 64 → taken_at end taken budget < 2 ^ 64
report_fits finish.Ended budget taken t old new h is le fits = omega (arith, le, fits)
report_fits (finish.Closed at) budget taken t old new h is le fits = omega (arith, le, fits)
report_fits (finish.Cut left) budget taken t old new h is le fits = omega (arith, h.4, is, fits)
report_fits finish.Spent budget taken t old new h is le fits = fits
report_fits finish.ReadFault budget taken t old new h is le fits = omega (arith, le, fits)
report_fits finish.WriteFault budget taken t old new h is le fits = omega (arith, le, fits)
report_fits (finish.Full full) budget taken t old new h is le fits = absurd h
report_fits finish.NoMemory budget taken t old new h is le fits = omega (arith, le, fits)

-- so do those of a session that was closed behind its lines
pub closed_fits : {K : Type 0} (wrote : K → List ℕ → Type 0) (count : K → ℕ) (k1 k2 : K) (last : List ℕ) (t : SessionTalk) (budget taken : ℕ) (old new : Sides) (lines : Option ConnEnd) (end : ConnEnd) → EndsAs lines t → IsFarewell wrote count k1 k2 last lines end → IsSessionEnd t.end budget t old new → taken ≡ t.given → taken ≤ budget → budget < 2 ^ 64 → taken_at end taken budget < 2 ^ 64
closed_fits wrote count k1 k2 last t budget taken old new (Some e) end ends said h is le fits =
    let same : t.end ≡ end = ends.0 ∙ sym said.0 in
    subst (λ (x : ConnEnd). taken_at x taken budget < 2 ^ 64) same (report_fits t.end budget taken t old new h is le fits)
closed_fits wrote count k1 k2 last t budget taken old new None (finish.Closed None) ends said h is le fits = omega (arith, le, fits)
closed_fits wrote count k1 k2 last t budget taken old new None finish.WriteFault ends said h is le fits = omega (arith, le, fits)
closed_fits wrote count k1 k2 last t budget taken old new None finish.Ended ends said h is le fits = absurd said
closed_fits wrote count k1 k2 last t budget taken old new None (finish.Closed (Some at)) ends said h is le fits = absurd said
closed_fits wrote count k1 k2 last t budget taken old new None (finish.Cut n) ends said h is le fits = absurd said
closed_fits wrote count k1 k2 last t budget taken old new None finish.Spent ends said h is le fits = absurd said
closed_fits wrote count k1 k2 last t budget taken old new None finish.ReadFault ends said h is le fits = absurd said
closed_fits wrote count k1 k2 last t budget taken old new None (finish.Full full) ends said h is le fits = absurd said
closed_fits wrote count k1 k2 last t budget taken old new None finish.NoMemory ends said h is le fits = absurd said
