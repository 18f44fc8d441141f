-- Texts in order: the one ordered permutation, and each text once.
use Rattle.std.proofs.Common.{◌≡◌, ℕ, suc, zero, ◌+◌, ◌<◌, ◌≤◌, Bool, true, false, List, [], ◌∷◌, length, map, get_or, refl, sym, ap, ◌∙◌, arith, if◌then◌else◌, subst}
use Rattle.std.specs.Ordering.{is_lt, is_gt, ordering_reverse}
use Rattle.std.specs.Prelude.{bytes_eq}
use Rattle.std.specs.List.{Contains, dedup}
use Rattle.std.specs.List.Sorted.{IsPermutation, IsSorted}
use Rattle.std.specs.declared.cmp.Ordering.{Ordering}
use Rattle.std.specs.declared.cmp.Ordering.TheVariants.{Less, Equal, Greater}
use Rattle.std.proofs.lemmas.Cmp.{nat_list_cmp_total, nat_list_eq_equiv}
use Rattle.std.specs.Cmp.Lexicographic.{texts_ties}
use Rattle.std.proofs.lemmas.Slice.Eq.{bytes_eq-Decides}
use Rattle.std.proofs.lemmas.List.Sorted.{IsPermutation-refl, IsPermutation-cons, IsPermutation-trans, IsPermutation-middle, IsPermutation-sym, Contains-permutation}
use Rattle.std.proofs.lemmas.List.Kept.{IsStrictlySortedBy-dedup, Contains-dedup, Contains-from_dedup}
use Rattle.sx_key.specs.Texts.{byte_order, insert_text, sorted_texts, distinct_texts}
use Rattle.sx_key.specs.Laws.{IsOrdering, IsDistinctOrdering, TextsAreSorted, TextsAreDistinct}
use Rattle.sx_key.proofs.Sorting.{Ascends, Below, Upto, sorted_ascends, sorted_is}

swapped : (t u : List ℕ) (ts : List (List ℕ)) → IsPermutation (t ∷ u ∷ ts) (u ∷ t ∷ ts)
swapped t u ts = IsPermutation-middle (t ∷ []) u ts

insert_same : (t : List ℕ) (us : List (List ℕ)) → IsPermutation (t ∷ us) (insert_text t us)
insert_same t [] = IsPermutation-refl (t ∷ [])
insert_same t (u ∷ us) =
    elim (is_gt (byte_order t u)) as (λ b. IsPermutation (t ∷ u ∷ us) (if b then u ∷ insert_text t us else t ∷ u ∷ us)) [
      | true ↦ IsPermutation-trans (t ∷ u ∷ us) (u ∷ t ∷ us) (u ∷ insert_text t us) (swapped t u us) (IsPermutation-cons u (t ∷ us) (insert_text t us) (insert_same t us))
      | false ↦ IsPermutation-refl (t ∷ u ∷ us)
    ]

sorted_same : (ts : List (List ℕ)) → IsPermutation ts (sorted_texts ts)
sorted_same [] = IsPermutation-refl []
sorted_same (t ∷ ts) = IsPermutation-trans (t ∷ ts) (t ∷ sorted_texts ts) (insert_text t (sorted_texts ts)) (IsPermutation-cons t ts (sorted_texts ts) (sorted_same ts)) (insert_same t (sorted_texts ts))

turned : (r : Ordering) → is_gt r ≡ false → is_lt (ordering_reverse r) ≡ false
turned Less e = refl
turned Equal e = refl
turned Greater e = absurd (let no : true ≡ false = e in differ no)
  where
    differ : true ≡ false → ⊥
    differ x = cc

-- ascending texts are sorted by index
sorted_from : (ts : List (List ℕ)) → Ascends ts → (k : ℕ) (d : List ℕ) → suc k < length ts → is_lt (byte_order (get_or ts (suc k) d) (get_or ts k d)) ≡ false
sorted_from [] a k d lt = absurd (let no : ⊥ = omega (arith, lt) in no)
sorted_from (t ∷ []) a k d lt = absurd (let no : ⊥ = omega (arith, lt) in no)
sorted_from (t ∷ u ∷ us) a zero d lt = ap is_lt (nat_list_cmp_total.antisymm u t) ∙ turned (byte_order t u) a.0.0
sorted_from (t ∷ u ∷ us) a (suc k) d lt = sorted_from (u ∷ us) a.1 k d (omega (arith, lt))

sorted_rises : (ts : List (List ℕ)) → Ascends ts → IsSorted byte_order ts
sorted_rises ts a k d le lt =
    let e : suc k ≡ k + 1 = omega arith in
    subst (λ (j : ℕ). is_lt (byte_order (get_or ts j d) (get_or ts k d)) ≡ false) e (sorted_from ts a k d (omega (arith, lt)))

map_same : (ts : List (List ℕ)) → map (λ (t : List ℕ). t) ts ≡ ts
map_same [] = refl
map_same (t ∷ ts) = ap (λ (us : List (List ℕ)). t ∷ us) (map_same ts)

pub texts_sorted : TextsAreSorted
texts_sorted texts = record {
  same = sorted_same texts;
  rises = sorted_rises (sorted_texts texts) (sorted_ascends texts);
  one = λ others p h. sym (map_same others) ∙ sorted_is (λ (t : List ℕ). t) texts others p h ∙ ap sorted_texts (map_same texts);
}

pub texts_distinct : TextsAreDistinct
texts_distinct texts = record {
  rises = IsStrictlySortedBy-dedup nat_list_cmp_total texts_ties (sorted_texts texts) (sorted_rises (sorted_texts texts) (sorted_ascends texts));
  all = λ t c. Contains-dedup nat_list_eq_equiv (λ x y e. (bytes_eq-Decides x y).0 e) (sorted_texts texts) t (Contains-permutation texts (sorted_texts texts) t (sorted_same texts) c);
  only = λ t c. Contains-permutation (sorted_texts texts) texts t (IsPermutation-sym texts (sorted_texts texts) (sorted_same texts)) (Contains-from_dedup bytes_eq (sorted_texts texts) t c);
}
