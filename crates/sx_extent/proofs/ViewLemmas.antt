-- What a copy of some granules shows.
use Rattle.std.proofs.Common.{◌≡◌, ℕ, ◌+◌, ◌-◌, ◌*◌, ◌/◌, ◌≤◌, ◌<◌, min, Bool, true, false, cond, ltb, List, length, take, drop, Option, None, refl, sym, ap, ◌∙◌, subst, inl, inr, arith}
use Rattle.std.specs.Option.{IfSome}
use Rattle.std.specs.Ordering.{nat_cmp, eq_by_cmp}
use Rattle.std.specs.List.{filter}
use Rattle.std.specs.List.Sorted.{IsStrictlySortedBy}
use Rattle.std.specs.Map.{keys_of}
use Rattle.std.specs.BTreeMap.{BTreeMap, is_at, IsFromIterResult}
use Rattle.std.specs.BTreeMap.Range.{entries_between, range_contains}
use Rattle.std.specs.Cmp.{nat_cmp_total, eq_by_cmp_equiv}
use Rattle.std.specs.declared.ops.Bound.TheVariants.{Included, Excluded}
use Rattle.std.proofs.lemmas.List.{get_or-take, get_or-drop, length-take, length-drop}
use Rattle.std.proofs.lemmas.Map.Keys.{IsDistinct-from_sorted}
use Rattle.std.proofs.lemmas.Map.Entries.{lookup-filter-keys}
use Rattle.std.proofs.lemmas.Map.Made.{update_all_none, IsDistinct-keys_filter}
use Rattle.std.proofs.lemmas.Bool.{cases_Bool, cond-true, cond-false, eqb-true, false_from_ne_true, lt-ltb, false≢true}
use Rattle.sx_extent.specs.View.{part}
use Rattle.sx_extent.specs.Granules.{Entries, granule_at, has_granule, byte_at, bytes_from, IsSized, IsKept, IsSame, is_between}
use Rattle.sx_extent.proofs.GranuleLemmas.{same_bytes, length-bytes_from, get_or-bytes_from, bytes_from-same, none_when, inside}
use Rattle.sx_extent.proofs.KeyLemmas.{range_test, at_is}

pub view_length : (from n : ℕ) (es : Entries) (v : List ℕ) → bytes_from es from n ≡ v → length v ≡ n
view_length from n es v is = ap length (sym is) ∙ length-bytes_from es from n

-- a part of a part
pub part_is : (es : Entries) (from n at m : ℕ) → at + m ≤ n → part (bytes_from es from n) at m ≡ bytes_from es (from + at) m
part_is es from n at m fits =
    let v : List ℕ = bytes_from es from n in
    let lv : length v ≡ n = length-bytes_from es from n in
    same_bytes (take m (drop at v)) es (from + at) m
    (length-take m (drop at v) ∙ ap (min m) (length-drop at v) ∙ omega arith)
    (λ k l. let e : from + (at + k) ≡ from + at + k = omega arith in
    get_or-take m (drop at v) k 0 l ∙ get_or-drop at v k 0 ∙ get_or-bytes_from es from n (at + k) (omega arith) ∙ ap (byte_at es) e)

-- ---- copies

-- each granule of a map that was collected from a part of another
pub copied_at : (es : Entries) (copy : BTreeMap ℕ (List ℕ)) (a b q : ℕ) → IsStrictlySortedBy nat_cmp (keys_of es) → IsFromIterResult nat_cmp (entries_between nat_cmp (Included a) (Excluded b) es) copy
    → granule_at copy.entries q ≡ cond (is_between a b q) (granule_at es q) None
copied_at es copy a b q sorted made =
    let p : ℕ → Bool = λ k. range_contains nat_cmp (Included a) (Excluded b) k in
    let part_of_es : Entries = filter (λ e. p e.0) es in
    let laws = eq_by_cmp_equiv nat_cmp_total in
    made.0 q
    ∙ update_all_none laws (eq_by_cmp nat_cmp) (λ x y. refl) part_of_es q (IsDistinct-keys_filter (eq_by_cmp nat_cmp) (λ e. p e.0) es (IsDistinct-from_sorted nat_cmp (keys_of es) sorted))
    ∙ lookup-filter-keys (is_at (nat_cmp q)) p (p q) (λ k e. ap p (eqb-true k q (sym (at_is q k) ∙ e))) es
    ∙ ap (λ c. cond c (granule_at es q) None) (range_test a b q)

-- a copy of a part has whole granules
pub sized_copy : (es fs : Entries) (a b : ℕ) → IsSized es → ((q : ℕ) → granule_at fs q ≡ cond (is_between a b q) (granule_at es q) None) → IsSized fs
unfolding IsSized
sized_copy es fs a b sized is q =
    let P : Option (List ℕ) → Type 0 = λ o. IfSome o (λ v. length v ≡ 512) in
    subst P (sym (is q)) (elim (is_between a b q) as (λ c. P (cond c (granule_at es q) None)) [ true ↦ sized q | false ↦ tt ])

-- a copy of a part shows the same bytes there
pub bytes_copy : (es fs : Entries) (from end past : ℕ) → from ≤ end → past ≡ cond (ltb from end) ((end + 511) / 512) (from / 512) → ((q : ℕ) → granule_at fs q ≡ cond (is_between (from / 512) past q) (granule_at es q) None)
    → bytes_from fs from (end - from) ≡ bytes_from es from (end - from)
unfolding byte_at
bytes_copy es fs from end past order last is =
    bytes_from-same fs es from (end - from) (λ k l.
    let o : from < end = omega arith in
    let e : past ≡ (end + 511) / 512 = last ∙ cond-true (ltb from end) _ _ (lt-ltb from end o) in
    let i = inside (from / 512) past ((from + k) / 512) (omega arith) (omega arith) in
    let g : granule_at fs ((from + k) / 512) ≡ granule_at es ((from + k) / 512) = is ((from + k) / 512) ∙ cond-true (is_between (from / 512) past ((from + k) / 512)) _ _ i in
    rw g refl)

-- a copy of every granule of a file
pub same_copy : (n : ℕ) (es fs : Entries) (past : ℕ) → IsKept n es → past ≡ cond (ltb 0 n) ((n + 511) / 512) (0 / 512) → ((q : ℕ) → granule_at fs q ≡ cond (is_between 0 past q) (granule_at es q) None) → IsSame es fs
same_copy n es fs past kept last is q = is q ∙ elim (cases_Bool (is_between 0 past q)) [
  | inl t ↦ cond-true (is_between 0 past q) (granule_at es q) None t
  | inr f ↦ cond-false (is_between 0 past q) (granule_at es q) None f ∙ sym (none_when es q (false_from_ne_true (has_granule es q) (λ h.
      let w : 512 * q < n = kept.within q h in
      let e : past ≡ (n + 511) / 512 = last ∙ cond-true (ltb 0 n) _ _ (lt-ltb 0 n (omega arith)) in
      false≢true (sym f ∙ inside 0 past q (omega arith) (omega arith)))))
]
