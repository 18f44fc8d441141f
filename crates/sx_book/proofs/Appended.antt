-- A call that was appended in the pass's turn, on the pass.
use Rattle.std.proofs.Common.{ℕ, ◌+◌, ◌<◌, ◌≤◌, ◌≡◌, true, List, [], ◌∷◌, ◌++◌, length, Some, refl, ap, sym, ◌∙◌, subst, arith, eq-eqb}
use Rattle.std.specs.Prelude.{Result, Ok, Err, IfOk, IfErr, OnOk, OnErr}
use mathlib.Core.List.{IsPrefix}
use Rattle.sx_call.specs.declared.calls.Call.{Call}
use Rattle.sx_call.specs.declared.entries.Noted.{Noted}
use Rattle.sx_call.specs.declared.refusals.Stop.{Stop}
use Rattle.sx_call.specs.declared.refusals.Stop.TheVariants.{HistoryFull}
use Rattle.sx_book.specs.History.{History}
use Rattle.sx_call.specs.Calls.{door_of}
use Rattle.sx_spec.specs.History.{IsHistory, stands_in, noted_at, wants}
use Rattle.sx_spec.specs.Step.{replay}
use Rattle.sx_spec.specs.Whole.{IsWhole}
use Rattle.sx_turn.specs.Seats.{SeatView, HasPlacesIn, IsExact, after_take, after_give}
use Rattle.sx_turn.specs.Places.{places, places_from}
use Rattle.sx_turn.proofs.Places.{grown_more, grown_same, places_append}
use Rattle.sx_book.specs.declared.pass.Receipt.{Receipt}
use Rattle.sx_book.specs.Passes.{PassView, pass_view, caller_of, GrowsByOthers, StandsIn, SawMore, Appends, AppendsNone, entry_behind, HasOwnPlaces, with_noted, after_entry, receipt_of}
use Rattle.sx_book.proofs.Lives.{stands_among}
use Rattle.sx_book.proofs.Others.{others_between}

-- what a turn found beyond what the pass had seen are entries of others
pub others_found : (s : SeatView Noted) (log : List Noted) → IsPrefix s.seen log → HasPlacesIn caller_of log s → IsExact caller_of s → GrowsByOthers s.number s.seen log
others_found s log begins found own = others_between s.number s.mine s.seen log begins found.0 own.0

-- the call stands in its session there
pub stands_found : (p : PassView) (s : SeatView Noted) (log found : List Noted) (limit who session : ℕ) (call : Call) → pass_view s ≡ p → GrowsByOthers s.number s.seen log → IsHistory limit log → found ≡ log → who ≡ s.number → StandsIn p session call
    → stands_in (replay found).store who session (door_of call) ≡ true
stands_found p s log found limit who session call view grows h same is stands =
    ap (λ (x : List Noted × ℕ). stands_in (replay x.0).store x.1 session (door_of call)) (λ j. (same j, is j)) ∙ stands_among (pass_view s) session limit (door_of call) log grows h (subst (λ (q : PassView). StandsIn q session call) (sym view) stands)

-- the place of an own entry
pub own_place : (who k : ℕ) (n : Noted) → n.entry.who ≡ who → places_from caller_of who k (n ∷ []) ≡ k ∷ []
own_place who k n is = rw (eq-eqb who n.entry.who (sym is)) refl

-- with an own entry behind a list its place joins the others
own_grown : (who : ℕ) (mine : List ℕ) (log : List Noted) (n : Noted) → mine ≡ places caller_of who log → n.entry.who ≡ who → mine ++ (length log + 1) ∷ [] ≡ places caller_of who (log ++ n ∷ [])
own_grown who mine log n exact is =
    let k : 1 + length log ≡ length log + 1 = omega arith in
    let last : places_from caller_of who (1 + length log) (n ∷ []) ≡ (length log + 1) ∷ [] = ap (λ (i : ℕ). places_from caller_of who i (n ∷ [])) k ∙ own_place who (length log + 1) n is in
    ap (λ (ps : List ℕ). ps ++ (length log + 1) ∷ []) exact ∙ (ap (λ (ps : List ℕ). places caller_of who log ++ ps) (sym last) ∙ sym (places_append caller_of who 1 log (n ∷ [])))

module _ (p : PassView) (s0 s1 s2 : SeatView Noted) (b b' : History) (who session now fresh : ℕ) (call : Call) where
  -- the call took a place
  pub appended_ok : (r : Result Receipt Stop) → pass_view s0 ≡ p → s1 ≡ after_take b.entries s0 → GrowsByOthers s0.number s0.seen b.entries → b.limit ≡ s0.lasting → IsHistory b.limit b.entries → IsWhole (replay b.entries) → who ≡ s0.number
      → OnOk r (b' ≡ record { entries = with_noted b.entries (entry_behind b.entries who session now fresh call); limit = b.limit })
      → IfOk r (λ r. r ≡ receipt_of b.entries (entry_behind b.entries who session now fresh call))
      → OnOk r (length b.entries + wants (replay b.entries) call ≤ b.limit)
      → s2 ≡ after_give b'.entries s1
      → HasPlacesIn caller_of b.entries s0 → IsHistory b'.limit b'.entries
      → IfOk r (λ r. Appends p session now fresh call r (pass_view s2))
  appended_ok (Ok r) view taken grows lasts legal whole is entries receipt room given found legal_after =
      let log : List Noted = b.entries in
      let e = entry_behind log s0.number session now fresh call in
      let wrote : b'.entries ≡ with_noted log e = ap (λ (h : History). h.entries) entries ∙ ap (λ (w : ℕ). with_noted log (entry_behind log w session now fresh call)) is in
      let seat : s2 ≡ after_give (with_noted log e) (after_take log s0) = given ∙ ap (λ (x : List Noted × SeatView Noted). after_give x.0 x.1) (λ j. (wrote j, taken j)) in
      let final : pass_view s2 ≡ after_entry log e (pass_view s0) = ap pass_view seat
      ∙ ap (λ (m : List ℕ). record (pass_view s0) { seen = with_noted log e; mine = m }) (grown_more (Some log) s0.mine log (noted_at (replay log) e) refl) in
      subst (λ (q : PassView). Appends q session now fresh call r (pass_view s2)) view record {
        log = log;
        others = grows;
        legal = subst (λ (n : ℕ). IsHistory n log) lasts legal;
        whole = whole;
        room = subst (λ (n : ℕ). length log + wants (replay log) call ≤ n) lasts room;
        pass = final;
        receipt = receipt ∙ ap (λ (w : ℕ). receipt_of log (entry_behind log w session now fresh call)) is;
        legal_after = subst (λ (l : List Noted). IsHistory s0.lasting l) (wrote ∙ sym (ap (λ (x : PassView). x.seen) final)) (subst (λ (n : ℕ). IsHistory n b'.entries) (ap (λ (h : History). h.limit) entries ∙ lasts) legal_after);
        exact = subst HasOwnPlaces (sym final) (own_grown s0.number s0.mine log (noted_at (replay log) e) found.0 refl);
      }
  appended_ok (Err stop) view taken grows lasts legal whole is entries receipt room given found legal_after = tt

  -- the call took no place
  pub appended_none : (r : Result Receipt Stop) → pass_view s0 ≡ p → s1 ≡ after_take b.entries s0 → GrowsByOthers s0.number s0.seen b.entries → b.limit ≡ s0.lasting → IsHistory b.limit b.entries
      → length b.entries + length (replay b.entries).store.sessions ≤ b.limit
      → ((entries sessions limit : ℕ) → r ≡ Err (HistoryFull entries sessions limit) → (b.limit < length b.entries + wants (replay b.entries) call) × (entries ≡ length b.entries) × (sessions ≡ length (replay b.entries).store.sessions) × (limit ≡ b.limit))
      → OnErr r (b' ≡ b)
      → s2 ≡ after_give b'.entries s1
      → HasPlacesIn caller_of b.entries s0
      → IfErr r (λ s. AppendsNone p call s (pass_view s2))
  appended_none (Ok r) view taken grows lasts legal within full same given found = tt
  appended_none (Err stop) view taken grows lasts legal within full same given found =
      let log : List Noted = b.entries in
      let seat : s2 ≡ after_give log (after_take log s0) = given ∙ ap (λ (x : List Noted × SeatView Noted). after_give x.0 x.1) (λ j. ((same j).entries, taken j)) in
      let final : pass_view s2 ≡ record (pass_view s0) { seen = log } = ap pass_view seat
      ∙ ap (λ (m : List ℕ). record (pass_view s0) { seen = log; mine = m }) (grown_same (Some log) s0.mine log refl) in
      subst (λ (x : PassView × PassView). AppendsNone x.0 call stop x.1) (λ j. (view j, sym final j)) record {
        others = (grows, refl);
        legal = subst (λ (n : ℕ). IsHistory n log) lasts legal;
        exact = found.0;
        cause = (λ entries sessions limit e. let f = full entries sessions limit (ap Err e) in record {
          full = subst (λ (n : ℕ). n < length log + wants (replay log) call) lasts f.0;
          within = omega (arith, within, f.1, f.2, f.3);
          entries_is = f.1;
          sessions_is = f.2;
          limit_is = f.3 ∙ lasts;
        });
      }

-- a turn that ended as it began
pub looked : (p : PassView) (s0 s1 s2 : SeatView Noted) (log : List Noted) → pass_view s0 ≡ p → s1 ≡ after_take log s0 → GrowsByOthers s0.number s0.seen log → s2 ≡ after_give log s1 → SawMore p (pass_view s2)
looked p s0 s1 s2 log view taken grows given =
    let seat : s2 ≡ after_give log (after_take log s0) = given ∙ ap (after_give log) taken in
    let final : pass_view s2 ≡ record (pass_view s0) { seen = log } = ap pass_view seat
    ∙ ap (λ (m : List ℕ). record (pass_view s0) { seen = log; mine = m }) (grown_same (Some log) s0.mine log refl) in
    subst (λ (x : PassView × PassView). SawMore x.0 x.1) (λ j. (view j, sym final j)) (grows, refl)
