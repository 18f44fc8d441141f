-- Views among views: what of them a set view, a new list, a merged view keep.
use Rattle.std.proofs.Common.{◌≡◌, ◌≢◌, ◌⊎◌, inl, inr, ⊎_elim, ℕ, suc, ◌+◌, ◌≤◌, ◌==◌, false, List, [], ◌∷◌, ◌++◌, length, set, refl, ap, sym, ◌∙◌, subst, length-append, if◌then◌else◌, arith, Option, Some, None}
use Rattle.std.specs.List.{AllByRecursion}
use mathlib.Core.Option.{some}
use mathlib.Core.Logic.{dite}
use native.Mathlib.Decide.{ℕ_discrete}
use lib.ListN.{get_elem?}
use Rattle.atomic_table.proofs.Lists.{at_set}
use Rattle.sx_turn.specs.declared.rule.View.{View}
use Rattle.sx_turn.specs.Places.{places, times, longer}
use Rattle.sx_turn.specs.Views.{owned_pairs, times_owned, pairs_with, after_turn, merged, owned_count}
use Rattle.sx_turn.specs.Rules.{Fits, FitsQueue, FitsCount, Apart}
use Rattle.sx_turn.proofs.Lists.{each_append, each_map, longer_left, longer_right, longer_within, prefix_more}
use Rattle.sx_turn.proofs.Places.{pairs_other, pairs_longer, places_own, times_append}

-- a ticket is the one that is asked for, or not
pub ticket_is : (o : Option ℕ) (n : ℕ) → (o ≡ Some n) ⊎ (o ≢ Some n)
ticket_is None n = inr (λ e. absurd (cc e))
ticket_is (Some k) n = dite (ℕ_discrete k n) (λ e. inl (ap (λ (z : ℕ). Some z) e)) (λ ne. inr (λ e. ne (cc e)))

module _ {E : Type 0} where
  -- a view with no ticket fits any queue
  pub idle_queue : (a b : ℕ) (log : List E) → FitsQueue a b log None None
  idle_queue a b log = record { ticket = (λ t e. absurd (cc e)); turn = (λ h e. absurd (cc e)) }

  -- a view that has not counted in its turn fits any count from its own on
  pub uncounted : {c n : ℕ} {log : List E} {began : Option (List E)} → n ≤ c → FitsCount c log n began false
  uncounted le = record { known = le; counted = (λ l. absurd (cc l)) }

  -- of the views after one is set, each is the new one or an old one
  pub each_set : (K : ℕ → View E → Type 0) (vs : List (View E)) (id : ℕ) (w : View E) → K id w → ((j : ℕ) (u : View E) → j ≢ id → get_elem? vs j ≡ some u → K j u) → (j : ℕ) (u : View E) → get_elem? (set vs id w) j ≡ some u → K j u
  each_set K vs id w mine others j u e = ⊎_elim (λ (t : (j ≡ id) × (w ≡ u)). subst (λ (x : ℕ × View E). K x.0 x.1) (λ i. (sym t.0 i, t.1 i)) mine)
      (λ (t : (j ≢ id) × (get_elem? vs j ≡ some u)). others j u t.0 t.1) (at_set vs id j w u e)

  -- tickets differ after one view is set, where its ticket is new
  pub apart_set : (vs : List (View E)) (id : ℕ) (w : View E) → Apart vs → ((t : ℕ) (j : ℕ) (u : View E) → w.ticket ≡ Some t → j ≢ id → get_elem? vs j ≡ some u → u.ticket ≢ Some t) → Apart (set vs id w)
  apart_set vs id w apart fresh i j x y t ei ej ti tj =
      ⊎_elim
      (λ (p : (i ≡ id) × (w ≡ x)). ⊎_elim
      (λ (q : (j ≡ id) × (w ≡ y)). p.0 ∙ sym q.0)
      (λ (q : (j ≢ id) × (get_elem? vs j ≡ some y)). absurd (fresh t j y (ap (λ (z : View E). z.ticket) p.1 ∙ ti) q.0 q.1 tj))
      (at_set vs id j w y ej))
      (λ (p : (i ≢ id) × (get_elem? vs i ≡ some x)). ⊎_elim
      (λ (q : (j ≡ id) × (w ≡ y)). absurd (fresh t i x (ap (λ (z : View E). z.ticket) q.1 ∙ tj) p.0 p.1 ti))
      (λ (q : (j ≢ id) × (get_elem? vs j ≡ some y)). apart i j x y t p.1 q.1 ti tj)
      (at_set vs id j w y ej))
      (at_set vs id i w x ei)

  -- a merged view owns a number as often as both
  pub times_merged : (n a : ℕ) (v w : View E) → v.number ≡ Some a → times_owned n (merged v w) ≡ times_owned n v + times_owned n w
  times_merged n a v w num =
      let x : ℕ = if n == a then 1 else 0 in
      let l : times_owned n (merged v w) ≡ x + times n (owned_pairs w ++ v.ended) = ap (λ (o : Option ℕ). times n (pairs_with o v.mine (owned_pairs w ++ v.ended))) num in
      let r : times_owned n v ≡ x + times n v.ended = ap (λ (o : Option ℕ). times n (pairs_with o v.mine v.ended)) num in
      let t = times_append n (owned_pairs w) v.ended in omega arith

  -- a merged view owns as many pairs as both
  pub count_merged : (a : ℕ) (v w : View E) → v.number ≡ Some a → owned_count (merged v w) ≡ owned_count v + owned_count w
  count_merged a v w num =
      let l : owned_count (merged v w) ≡ suc (length (owned_pairs w ++ v.ended)) = ap (λ (o : Option ℕ). length (pairs_with o v.mine (owned_pairs w ++ v.ended))) num in
      let r : owned_count v ≡ suc (length v.ended) = ap (λ (o : Option ℕ). length (pairs_with o v.mine v.ended)) num in
      let t = length-append (owned_pairs w) v.ended in omega arith

  -- a view with a number owns a pair
  pub count_numbered : (v : View E) (n : ℕ) → v.number ≡ Some n → 1 ≤ owned_count v
  count_numbered v n num = let l : owned_count v ≡ suc (length v.ended) = ap (λ (o : Option ℕ). length (pairs_with o v.mine v.ended)) num in omega arith

module _ {E : Type 0} (who : E → ℕ) where
  -- a view that waits fits when the turn of another ends with the list as it was
  pub others_stay : (a b c : ℕ) (log : List E) (u : View E) → u.turn ≡ None → u.ticket ≢ Some b → Fits who a b c log u → Fits who a (b + 1) c log u
  others_stay a b c log u idle apart f = record {
    history = f.history;
    queue = record {
      ticket = (λ t e. let q = f.queue.ticket t e in let other : b ≢ t = (λ is. apart (e ∙ ap (λ (z : ℕ). Some z) (sym is))) in (omega arith, q.1));
      turn = (λ x e. absurd (cc (e, idle)));
    };
    count = record {
      known = f.count.known;
      counted = (λ l. let q = f.count.counted l in absurd (cc (q.1, idle)));
    };
  }

  -- a view that waits fits when the turn of another ends with one entry more, whose number it does not own
  pub others_grown : (a b c : ℕ) (log : List E) (e : E) (u : View E) → u.turn ≡ None → u.ticket ≢ Some b → times_owned (who e) u ≡ 0 → Fits who a b c log u → Fits who a (b + 1) c (log ++ e ∷ []) u
  others_grown a b c log e u idle apart none_of f = record {
    history = record {
      seen = prefix_more u.seen log (e ∷ []) f.history.seen;
      olds = each_map _ _ (λ o p. prefix_more o log (e ∷ []) p) u.olds f.history.olds;
      exact = pairs_other who log u.seen e (owned_pairs u) none_of f.history.exact;
    };
    queue = record {
      ticket = (λ t q. let p = f.queue.ticket t q in let other : b ≢ t = (λ is. apart (q ∙ ap (λ (z : ℕ). Some z) (sym is))) in (omega arith, p.1));
      turn = (λ x q. absurd (cc (q, idle)));
    };
    count = record {
      known = f.count.known;
      counted = (λ l. let q = f.count.counted l in absurd (cc (q.1, idle)));
    };
  }

  -- the pairs of the view whose entry was added are exact in the new list
  pub pairs_own : (log : List E) (e : E) (v : View E) → v.number ≡ Some (who e) → times (who e) v.ended ≡ 0 → AllByRecursion (λ p. (p.1 ≡ places who p.0 log) × (p.1 ≡ places who p.0 v.seen)) (owned_pairs v)
      → AllByRecursion (λ p. (p.1 ≡ places who p.0 (log ++ e ∷ [])) × (p.1 ≡ places who p.0 (log ++ e ∷ []))) (owned_pairs (after_turn (log ++ e ∷ []) (v.mine ++ (length log + 1) ∷ []) v))
  pairs_own log e v num none_of f =
      let Q : List E → ℕ × List ℕ → Type 0 = λ seen p. (p.1 ≡ places who p.0 log) × (p.1 ≡ places who p.0 seen) in
      let R : ℕ × List ℕ → Type 0 = λ p. (p.1 ≡ places who p.0 (log ++ e ∷ [])) × (p.1 ≡ places who p.0 (log ++ e ∷ [])) in
      let new : List ℕ = v.mine ++ (length log + 1) ∷ [] in
      let g : AllByRecursion (Q v.seen) ((who e, v.mine) ∷ v.ended) = subst (λ (o : Option ℕ). AllByRecursion (Q v.seen) (pairs_with o v.mine v.ended)) num f in
      let now : new ≡ places who (who e) (log ++ e ∷ []) = ap (λ (l : List ℕ). l ++ (length log + 1) ∷ []) g.0.0 ∙ sym (places_own who (who e) log e refl) in
      subst (λ (o : Option ℕ). AllByRecursion R (pairs_with o new v.ended)) (sym num)
      ((now, now), each_map _ _ (λ p q. (q.0, q.0)) v.ended (pairs_other who log v.seen e v.ended none_of g.1))

  -- a merged view fits where both did
  pub merged_fits : (a b c n : ℕ) (log : List E) (v w : View E) → v.number ≡ Some n → v.ticket ≡ None → Fits who a b c log v → Fits who a b c log w → Fits who a b c log (merged v w)
  merged_fits a b c n log v w num free f g =
      let s : List E = longer v.seen w.seen in let top = longer_within v.seen w.seen log f.history.seen g.history.seen in
      let Q : ℕ × List ℕ → Type 0 = λ p. (p.1 ≡ places who p.0 log) × (p.1 ≡ places who p.0 s) in
      let mine : AllByRecursion Q (owned_pairs v) = pairs_longer who log v.seen s (longer_left v.seen w.seen log f.history.seen g.history.seen) top (owned_pairs v) f.history.exact in
      let theirs : AllByRecursion Q (owned_pairs w) = pairs_longer who log w.seen s (longer_right v.seen w.seen log f.history.seen g.history.seen) top (owned_pairs w) g.history.exact in
      let mine' : AllByRecursion Q ((n, v.mine) ∷ v.ended) = subst (λ (o : Option ℕ). AllByRecursion Q (pairs_with o v.mine v.ended)) num mine in record {
        history = record {
          seen = top;
          olds = (f.history.seen, (g.history.seen, tt));
          exact = subst (λ (o : Option ℕ). AllByRecursion Q (pairs_with o v.mine (owned_pairs w ++ v.ended))) (sym num) (mine'.0, each_append Q (owned_pairs w) v.ended theirs mine'.1);
        };
        queue = record {
          ticket = f.queue.ticket;
          turn = (λ x e. absurd (cc ((f.queue.turn x e).0, free)));
        };
        count = record {
          known = (let k = f.count.known in let l = g.count.known in omega arith);
          counted = (λ l. absurd (cc ((f.queue.turn log (f.count.counted l).1).0, free)));
        };
      }
