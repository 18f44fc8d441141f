-- The places of a caller's entries, and how often a number stands among pairs.
use Rattle.std.proofs.Common.{◌≡◌, ◌≢◌, ℕ, suc, ◌+◌, ◌<◌, ◌≤◌, ◌==◌, ltb, Bool, true, false, List, [], ◌∷◌, ◌++◌, length, refl, ap, sym, ◌∙◌, length-append, if◌then◌else◌, eq-eqb, ne_eqb, arith, Option, Some, append_assoc, append-nil}
use Rattle.std.specs.List.{AllByRecursion}
use mathlib.Core.Logic.{dite}
use native.Mathlib.Decide.{ℕ_discrete}
use mathlib.Core.List.{IsPrefix}
use Rattle.sx_turn.specs.Places.{places_from, places, times, once_below, places_grown}
use Rattle.std.proofs.lemmas.Bool.Decides.{nat_tests}
use Rattle.sx_turn.proofs.Lists.{each_map, none_left}

-- a number stands at most as often as there are pairs
pub times_most : (n : ℕ) (ps : List (ℕ × List ℕ)) → times n ps ≤ length ps
times_most n [] = omega arith
times_most n (p ∷ ps) = cases (n == p.0) (times_most n ps) where
  cases : (b : Bool) → times n ps ≤ length ps → (if b then 1 else 0) + times n ps ≤ suc (length ps)
  cases true h = omega arith
  cases false h = omega arith

-- how often a number stands in two lists of pairs
pub times_append : (n : ℕ) (ps qs : List (ℕ × List ℕ)) → times n (ps ++ qs) ≡ times n ps + times n qs
times_append n [] qs = omega arith
times_append n (p ∷ ps) qs = let h = times_append n ps qs in omega arith

-- a number that does not stand among the pairs is none of theirs
pub times_none : (n : ℕ) (m : ℕ) (l : List ℕ) (ps : List (ℕ × List ℕ)) → times n ((m, l) ∷ ps) ≡ 0 → (m ≢ n) × (times n ps ≡ 0)
times_none n m l ps z = dite (ℕ_discrete n m)
    (λ is. let one : times n ((m, l) ∷ ps) ≡ 1 + times n ps = ap (λ (b : Bool). (if b then 1 else 0) + times n ps) (eq-eqb n m is) in absurd (omega arith))
    (λ ne. let one : times n ((m, l) ∷ ps) ≡ 0 + times n ps = ap (λ (b : Bool). (if b then 1 else 0) + times n ps) (ne_eqb n m ne) in ((λ e. ne (sym e)), omega arith))

-- a number below a count stands there at most once
pub once_one : (n c : ℕ) → once_below n c ≤ 1
once_one n c = cases (ltb n c) where
  cases : (b : Bool) → (if b then 1 else 0) ≤ 1
  cases true = omega arith
  cases false = omega arith

-- a number that stands there is below the count
pub once_in : (n c : ℕ) → 1 ≤ once_below n c → n < c
once_in n c l = grind (arith, nat_tests)

-- a number below the count stands there once
pub once_here : (n c : ℕ) → n < c → once_below n c ≡ 1
once_here n c l = grind (arith, nat_tests)

-- the count grows by one number
pub once_more : (n c : ℕ) → once_below n (c + 1) ≡ once_below n c + (if n == c then 1 else 0)
once_more n c = grind (arith, nat_tests)

module _ {E : Type 0} where
  -- with the same list at the end of a turn the places stay
  pub grown_same : (o : Option (List E)) (mine : List ℕ) (log : List E) → o ≡ Some log → places_grown o mine log ≡ mine
  grown_same o mine log is = ap (λ (z : Option (List E)). places_grown z mine log) is ∙ ap (λ (t : Bool). if t then mine else mine ++ length log ∷ []) (eq-eqb (length log) (length log) refl)

  -- with one entry more at the end of a turn its place joins the others
  pub grown_more : (o : Option (List E)) (mine : List ℕ) (log : List E) (e : E) → o ≡ Some log → places_grown o mine (log ++ e ∷ []) ≡ mine ++ (length log + 1) ∷ []
  grown_more o mine log e is = let n : length (log ++ e ∷ []) ≡ length log + 1 = length-append log (e ∷ []) in
      ap (λ (z : Option (List E)). places_grown z mine (log ++ e ∷ [])) is ∙ (ap (λ (t : Bool). if t then mine else mine ++ length (log ++ e ∷ []) ∷ []) (ne_eqb (length (log ++ e ∷ [])) (length log) (λ q. omega arith)) ∙ ap (λ (k : ℕ). mine ++ k ∷ []) n)

module _ {E : Type 0} (who : E → ℕ) (n : ℕ) where
  -- the places in two lists, one behind the other
  pub places_append : (k : ℕ) (xs ys : List E) → places_from who n k (xs ++ ys) ≡ places_from who n k xs ++ places_from who n (k + length xs) ys
  places_append k [] ys = ap (λ (j : ℕ). places_from who n j ys) (omega arith)
  places_append k (x ∷ xs) ys =
      let A : List ℕ = if n == who x then k ∷ [] else [] in
      let P : List ℕ = places_from who n (k + 1) xs in
      let at : (k + 1) + length xs ≡ k + suc (length xs) = omega arith in
      let h = places_append (k + 1) xs ys ∙ ap (λ (j : ℕ). P ++ places_from who n j ys) at in
      ap (λ (l : List ℕ). A ++ l) h ∙ sym (append_assoc A P (places_from who n (k + suc (length xs)) ys))

  -- where all places of a list stand in a beginning of it, they are all in any beginning between
  pub places_between : (a b log : List E) → IsPrefix a b → IsPrefix b log → places who n a ≡ places who n log → places who n b ≡ places who n log
  places_between a b log p q same =
      let X : List ℕ = places_from who n (1 + length a) p.0 in let Y : List ℕ = places_from who n (1 + length b) q.0 in
      let ab : places who n b ≡ places who n a ++ X = ap (places who n) (sym p.1) ∙ places_append 1 a p.0 in
      let bl : places who n log ≡ places who n b ++ Y = ap (places who n) (sym q.1) ∙ places_append 1 b q.0 in
      let la : length (places who n b) ≡ length (places who n a) + length X = ap length ab ∙ length-append (places who n a) X in
      let lb : length (places who n log) ≡ length (places who n b) + length Y = ap length bl ∙ length-append (places who n b) Y in
      let ls : length (places who n a) ≡ length (places who n log) = ap length same in
      let none_y : Y ≡ [] = none_left (places who n b) Y (ap length (sym bl) ∙ omega arith) in
      sym (bl ∙ (ap (λ (l : List ℕ). places who n b ++ l) none_y ∙ append-nil (places who n b)))

  -- a number above all entries has no places
  pub places_none : (k : ℕ) (log : List E) → AllByRecursion (λ e. who e < n) log → places_from who n k log ≡ []
  places_none k [] e = refl
  places_none k (x ∷ xs) e = let l = e.0 in ap (λ (b : Bool). (if b then k ∷ [] else []) ++ places_from who n (k + 1) xs) (ne_eqb n (who x) (λ q. omega arith)) ∙ places_none (k + 1) xs e.1

  -- the places with one entry more
  pub places_snoc : (k : ℕ) (log : List E) (e : E) → places_from who n k (log ++ e ∷ []) ≡ places_from who n k log ++ places_from who n (k + length log) (e ∷ [])
  places_snoc k [] e = ap (λ (j : ℕ). places_from who n j (e ∷ [])) (omega arith)
  places_snoc k (x ∷ xs) e =
      let A : List ℕ = if n == who x then k ∷ [] else [] in
      let P : List ℕ = places_from who n (k + 1) xs in
      let at : (k + 1) + length xs ≡ k + suc (length xs) = omega arith in
      let h = places_snoc (k + 1) xs e ∙ ap (λ (j : ℕ). P ++ places_from who n j (e ∷ [])) at in
      ap (λ (l : List ℕ). A ++ l) h ∙ sym (append_assoc A P (places_from who n (k + suc (length xs)) (e ∷ [])))

  -- another number's entry adds no place
  pub places_other : (log : List E) (e : E) → n ≢ who e → places who n (log ++ e ∷ []) ≡ places who n log
  places_other log e ne = places_snoc 1 log e ∙ (ap (λ (b : Bool). places who n log ++ ((if b then (1 + length log) ∷ [] else []) ++ [])) (ne_eqb n (who e) ne) ∙ append-nil (places who n log))

  -- an own entry adds its place
  pub places_own : (log : List E) (e : E) → n ≡ who e → places who n (log ++ e ∷ []) ≡ places who n log ++ (length log + 1) ∷ []
  places_own log e is = let at : 1 + length log ≡ length log + 1 = omega arith in
      places_snoc 1 log e ∙ (ap (λ (b : Bool). places who n log ++ ((if b then (1 + length log) ∷ [] else []) ++ [])) (eq-eqb n (who e) is) ∙ ap (λ (j : ℕ). places who n log ++ j ∷ []) at)

module _ {E : Type 0} (who : E → ℕ) where
  -- the pairs stay exact where a number that is none of theirs gains an entry
  pub pairs_other : (log seen : List E) (e : E) (ps : List (ℕ × List ℕ)) → times (who e) ps ≡ 0
      → AllByRecursion (λ p. (p.1 ≡ places who p.0 log) × (p.1 ≡ places who p.0 seen)) ps → AllByRecursion (λ p. (p.1 ≡ places who p.0 (log ++ e ∷ [])) × (p.1 ≡ places who p.0 seen)) ps
  pairs_other log seen e [] z f = tt
  pairs_other log seen e (p ∷ ps) z f = let t = times_none (who e) p.0 p.1 ps z in
      ((f.0.0 ∙ sym (places_other who p.0 log e t.0), f.0.1), pairs_other log seen e ps t.1 f.1)

  -- pairs that are exact in the whole list and in a beginning are exact in any beginning between
  pub pairs_longer : (log seen more : List E) → IsPrefix seen more → IsPrefix more log → (ps : List (ℕ × List ℕ))
      → AllByRecursion (λ p. (p.1 ≡ places who p.0 log) × (p.1 ≡ places who p.0 seen)) ps → AllByRecursion (λ p. (p.1 ≡ places who p.0 log) × (p.1 ≡ places who p.0 more)) ps
  pairs_longer log seen more p q ps e = each_map _ _ (λ x f. (f.0, f.0 ∙ sym (places_between who x.0 seen more log p q (sym f.1 ∙ f.0)))) ps e
