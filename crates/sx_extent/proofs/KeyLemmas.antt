-- The numbers of the granules that have entries, in order, and how many they are.
use Rattle.std.proofs.Common.{◌≡◌, ℕ, zero, suc, ◌+◌, ◌-◌, ◌*◌, ◌/◌, ◌≤◌, ◌<◌, min, max, Bool, true, false, not, ◌&&◌, ◌||◌, cond, eqb, ltb, leb, List, [], ◌∷◌, ◌++◌, length, map, refl, sym, ap, ◌∙◌, inl, inr, arith, zero-add}
use Rattle.std.specs.Option.{IsSome}
use Rattle.std.specs.Ordering.{nat_cmp}
use Rattle.std.specs.declared.cmp.Ordering.TheVariants.{Less}
use Rattle.std.specs.List.{range_with_len, list_any, All, filter, count_by}
use Rattle.std.specs.List.Sorted.{IsStrictlySortedBy}
use Rattle.std.specs.Map.{keys_of}
use Rattle.std.specs.BTreeMap.{is_at}
use Rattle.std.specs.BTreeMap.Range.{entries_between, range_contains}
use Rattle.std.specs.Cmp.{nat_cmp_total, eq_by_cmp_equiv}
use Rattle.std.specs.declared.ops.Bound.TheVariants.{Included, Excluded}
use Rattle.std.proofs.lemmas.List.Sums.{length-filter}
use Rattle.std.proofs.lemmas.List.{append-nil}
use Rattle.std.proofs.lemmas.List.Elements.{All-cons, All-head, All-tail, All-weaker, filter_agree, filter-append}
use Rattle.std.proofs.lemmas.Map.Keys.{sorted_tail}
use Rattle.std.proofs.lemmas.Map.Views.{All-after_first, All-keys_from_lookup}
use Rattle.std.proofs.lemmas.Map.Entries.{length-keys_of}
use Rattle.std.proofs.lemmas.Map.Made.{is_some-lookup}
use Rattle.std.proofs.lemmas.Bool.Decides.{nat_tests}
use Rattle.std.proofs.lemmas.Bool.{leb-true, ltb-true, eq-eqb, ne_eqb, false_from_ne_true, cases_Bool, cases_eq, cases_lt, cond-true, cond-false, false≢true, and_parts, lt-ltb, le-ltb}
use Rattle.sx_extent.specs.Ranges.{SparseFile, is_marked, granule_count, most_bytes, touches, marks_by, used, fresh}
use Rattle.sx_extent.specs.Granules.{Entries, granule_at, has_granule, file_of, IsKept}
use Rattle.sx_extent.proofs.GranuleLemmas.{inside}
use Rattle.sx_extent.proofs.GranuleSteps.{touches_is, touches_true, past_first}
use Rattle.sx_extent.proofs.FileLemmas.{mark_is, file_marks, kept_grown}

-- ---- lists of numbers in order

-- a number is in a list of keys
abbrev pub is_key : List ℕ → ℕ → Bool
is_key ks q = list_any (is_at (nat_cmp q)) ks

pub at_is : (q k : ℕ) → is_at (nat_cmp q) k ≡ eqb k q
at_is q k = grind (arith, nat_tests)

below_from_less : (a b : ℕ) → nat_cmp a b ≡ Less → a < b
below_from_less a b e = grind (arith, nat_tests)

-- tests that agree from a number on keep the same
filter_range_same : (p q : ℕ → Bool) (a n : ℕ) → ((g : ℕ) → a ≤ g → p g ≡ q g) → filter p (range_with_len a n) ≡ filter q (range_with_len a n)
filter_range_same p q a zero h = refl
filter_range_same p q a (suc n) h =
    ap (λ b. cond b (a ∷ filter p (range_with_len (a + 1) n)) (filter p (range_with_len (a + 1) n))) (h a (omega arith))
    ∙ ap (λ xs. cond (q a) (a ∷ xs) xs) (filter_range_same p q (a + 1) n (λ g l. h g (omega arith)))

pub filter_none : (xs : List ℕ) → filter (λ q. false) xs ≡ []
filter_none [] = refl
filter_none (x ∷ xs) = filter_none xs

-- no key is q where all are greater
no_key : (ks : List ℕ) (q : ℕ) → All (λ k. q < k) ks → is_key ks q ≡ false
no_key [] q above = refl
no_key (k ∷ ks) q above =
    let a : q < k = All-head (λ x. q < x) k ks above in
    let e : is_at (nat_cmp q) k ≡ false = at_is q k ∙ ne_eqb k q (λ e. omega arith) in
    rw e (no_key ks q (All-tail (λ x. q < x) k ks above))

-- keys in order are the numbers of a range that are keys
keys_listed : (m : ℕ) (ks : List ℕ) (a n : ℕ) → a + n ≡ m → IsStrictlySortedBy nat_cmp ks → All (λ k. a ≤ k) ks → All (λ k. k < m) ks → ks ≡ filter (is_key ks) (range_with_len a n)
keys_listed m [] a n e s low high = sym (filter_none (range_with_len a n))
keys_listed m (k ∷ ks) a zero e s low high =
    let l : a ≤ k = All-head (λ x. a ≤ x) k ks low in
    let h : k < m = All-head (λ x. x < m) k ks high in
    absurd (omega arith)
keys_listed m (k ∷ ks) a (suc n) e s low high =
    let l : a ≤ k = All-head (λ x. a ≤ x) k ks low in
    let above : All (λ x. k < x) ks = All-weaker (λ x. nat_cmp k x ≡ Less) (λ x. k < x) (λ x h. below_from_less k x h) ks (All-after_first nat_cmp k ks s) in
    let d : a + 1 + n ≡ m = omega arith in
    let r : List ℕ = range_with_len (a + 1) n in
    elim (cases_eq k a) [
      | inl i ↦
          let t : is_key (k ∷ ks) a ≡ true = ap (λ b. b || is_key ks a) (at_is a k ∙ eq-eqb k a i) in
          let rest : ks ≡ filter (is_key ks) r = keys_listed m ks (a + 1) n d (sorted_tail nat_cmp k ks s) (All-weaker (λ x. k < x) (λ x. a + 1 ≤ x) (λ x h. omega arith) ks above) (All-tail (λ x. x < m) k ks high) in
          let same : filter (is_key ks) r ≡ filter (is_key (k ∷ ks)) r = filter_range_same (is_key ks) (is_key (k ∷ ks)) (a + 1) n (λ g b. sym (ap (λ x. x || is_key ks g) (at_is g k ∙ ne_eqb k g (λ j. omega arith)))) in
          ap (λ x. x ∷ ks) i ∙ ap (λ xs. a ∷ xs) (rest ∙ same) ∙ sym (cond-true (is_key (k ∷ ks) a) (a ∷ filter (is_key (k ∷ ks)) r) (filter (is_key (k ∷ ks)) r) t)
      | inr i ↦
          let b : a < k = omega arith in
          let f : is_key (k ∷ ks) a ≡ false = no_key (k ∷ ks) a (All-cons (λ x. a < x) k ks b (All-weaker (λ x. k < x) (λ x. a < x) (λ x h. omega arith) ks above)) in
          keys_listed m (k ∷ ks) (a + 1) n d s (All-cons (λ x. a + 1 ≤ x) k ks (omega arith) (All-weaker (λ x. k < x) (λ x. a + 1 ≤ x) (λ x h. omega arith) ks above)) high
          ∙ sym (cond-false (is_key (k ∷ ks) a) (a ∷ filter (is_key (k ∷ ks)) r) (filter (is_key (k ∷ ks)) r) f)
    ]

-- ---- the keys of a map

has_key : (es : Entries) (g : ℕ) → has_granule es g ≡ is_key (keys_of es) g
unfolding has_granule
has_key es g = is_some-lookup (is_at (nat_cmp g)) es

some_has : (es : Entries) (g : ℕ) → IsSome (granule_at es g) → has_granule es g ≡ true
unfolding has_granule
some_has es g h = h

-- the keys in order are the numbers of the marked granules
pub keys_of_kept : (n : ℕ) (es : Entries) → IsKept n es → IsStrictlySortedBy nat_cmp (keys_of es) → keys_of es ≡ filter (has_granule es) (range_with_len 0 (granule_count n))
keys_of_kept n es kept sorted =
    let c : ℕ = granule_count n in
    let high : All (λ k. k < c) (keys_of es) = All-keys_from_lookup (eq_by_cmp_equiv nat_cmp_total) (λ k. k < c) es (λ q h. let w : 512 * q < n = kept.within q (some_has es q h) in omega arith) in
    let low : All (λ k. 0 ≤ k) (keys_of es) = All-weaker (λ k. k < c) (λ k. 0 ≤ k) (λ k h. omega arith) (keys_of es) high in
    keys_listed c (keys_of es) 0 c (zero-add c) sorted low high
    ∙ filter_agree (is_key (keys_of es)) (has_granule es) (λ g. sym (has_key es g)) (range_with_len 0 c)

-- an entry that is picked by its key
keys_pick : (b : Bool) (e : ℕ × List ℕ) (es : Entries) (ks : List ℕ) → keys_of es ≡ ks → keys_of (cond b (e ∷ es) es) ≡ cond b (e.0 ∷ ks) ks
keys_pick true e es ks h = ap (λ xs. e.0 ∷ xs) h
keys_pick false e es ks h = h

-- a part of the entries has that part of the keys
keys_filter : (p : ℕ → Bool) (es : Entries) → keys_of (filter (λ e. p e.0) es) ≡ filter p (keys_of es)
keys_filter p [] = refl
keys_filter p (e ∷ es) = keys_pick (p e.0) e (filter (λ x. p x.0) es) (filter p (keys_of es)) (keys_filter p es)

-- two tests after each other
twice_pick : (b : Bool) (p : ℕ → Bool) (x : ℕ) (ys zs : List ℕ) → filter p ys ≡ zs → filter p (cond b (x ∷ ys) ys) ≡ cond (b && p x) (x ∷ zs) zs
twice_pick true p x ys zs h = ap (λ v. cond (p x) (x ∷ v) v) h
twice_pick false p x ys zs h = h

filter_twice : (p q : ℕ → Bool) (xs : List ℕ) → filter p (filter q xs) ≡ filter (λ x. q x && p x) xs
filter_twice p q [] = refl
filter_twice p q (x ∷ xs) = twice_pick (q x) p x (filter q xs) (filter (λ y. q y && p y) xs) (filter_twice p q xs)

-- a place in a range of keys, as a test
pub range_test : (a b q : ℕ) → range_contains nat_cmp (Included a) (Excluded b) q ≡ (leb a q && ltb q b)
range_test a b q = grind (arith, nat_tests)

-- the granules of the interval that have entries are its marked ones
pub keys_between : (n : ℕ) (es : Entries) (from end past : ℕ) → IsKept n es → IsStrictlySortedBy nat_cmp (keys_of es) → past ≡ cond (ltb from end) ((end + 511) / 512) (from / 512)
    → keys_of (entries_between nat_cmp (Included (from / 512)) (Excluded past) es) ≡ filter (λ g. is_marked (file_of n es) g && touches from end g) (range_with_len 0 (granule_count n))
keys_between n es from end past kept sorted last =
    let first : ℕ = from / 512 in
    let p : ℕ → Bool = λ q. range_contains nat_cmp (Included first) (Excluded past) q in
    let c : List ℕ = range_with_len 0 (granule_count n) in
    let order : first ≤ past = past_first from end past last in
    let e : first + (past - first) ≡ past = omega arith in
    keys_filter p es
    ∙ ap (filter p) (keys_of_kept n es kept sorted)
    ∙ filter_twice p (has_granule es) c
    ∙ filter_agree (λ g. has_granule es g && p g) (λ g. is_marked (file_of n es) g && touches from end g) (λ g.
    ap (λ b. b && p g) (sym (mark_is n es g kept))
    ∙ ap (λ b. is_marked (file_of n es) g && b) (range_test first past g ∙ ap (λ j. leb first g && ltb g j) (sym e) ∙ sym (touches_is from end past g last))) c

-- ---- counts

length_pick : {X Y : Type 0} (b : Bool) (x : X) (y : Y) (xs : List X) (ys : List Y) → length xs ≡ length ys → length (cond b (x ∷ xs) xs) ≡ length (cond b (y ∷ ys) ys)
length_pick true x y xs ys h = ap suc h
length_pick false x y xs ys h = h

-- a test of what a list is mapped to
pub length_filter_map : (t : ℕ → Bool) (xs : List ℕ) → length (filter (λ m. m) (map t xs)) ≡ length (filter t xs)
length_filter_map t [] = refl
length_filter_map t (x ∷ xs) = length_pick (t x) (t x) x (filter (λ m. m) (map t xs)) (filter t xs) (length_filter_map t xs)

pub used_is : (n : ℕ) (es : Entries) → IsKept n es → IsStrictlySortedBy nat_cmp (keys_of es) → length es ≡ used (file_of n es)
unfolding used marks_by
used_is n es kept sorted =
    let c : List ℕ = range_with_len 0 (granule_count n) in
    sym (length-keys_of es) ∙ ap length (keys_of_kept n es kept sorted) ∙ sym (length_filter_map (has_granule es) c)
    ∙ length-filter (λ m. m) (map (has_granule es) c) ∙ ap (count_by (λ m. m)) (sym (file_marks n es))

-- what one test keeps, by another
both_pick : (p q : Bool) (x : ℕ) (a b c : List ℕ) → length a + length b ≡ length c → length (cond (p && not q) (x ∷ a) a) + length (cond (q && p) (x ∷ b) b) ≡ length (cond p (x ∷ c) c)
both_pick true true x a b c h = omega arith
both_pick true false x a b c h = omega arith
both_pick false true x a b c h = h
both_pick false false x a b c h = h

count_both : (p q : ℕ → Bool) (xs : List ℕ) → length (filter (λ x. p x && not (q x)) xs) + length (filter (λ x. q x && p x) xs) ≡ length (filter p xs)
count_both p q [] = refl
count_both p q (x ∷ xs) = both_pick (p x) (q x) x (filter (λ y. p y && not (q y)) xs) (filter (λ y. q y && p y) xs) (filter p xs) (count_both p q xs)

-- how many numbers of a range lie between two
count_range : (a b s n : ℕ) → length (filter (λ g. leb a g && ltb g b) (range_with_len s n)) ≡ min b (s + n) - max a s
count_range a b s zero = omega arith
count_range a b s (suc n) =
    let h : length (filter (λ g. leb a g && ltb g b) (range_with_len (s + 1) n)) ≡ min b (s + 1 + n) - max a (s + 1) = count_range a b (s + 1) n in
    elim (cases_Bool (leb a s && ltb s b)) [
      | inl t ↦
          let p = and_parts (leb a s) (ltb s b) t in
          let l : a ≤ s = leb-true a s p.0 in
          let m : s < b = ltb-true s b p.1 in
          ap length (cond-true (leb a s && ltb s b) _ _ t) ∙ omega arith
      | inr f ↦
          ap length (cond-false (leb a s && ltb s b) _ _ f) ∙ (elim (cases_lt s a) [
            | inl l ↦ omega arith
            | inr l ↦ elim (cases_lt s b) [ inl m ↦ absurd (false≢true (sym f ∙ inside a b s l m)) | inr m ↦ omega arith ]
          ])
    ]

-- the past granule of an interval in a file is none past the file's
past_within : (n from end past : ℕ) → from ≤ end → end ≤ n → past ≡ cond (ltb from end) ((end + 511) / 512) (from / 512) → past ≤ granule_count n
past_within n from end past order fits last = elim (cases_lt from end) [
  | inl l ↦ let i : past ≡ (end + 511) / 512 = last ∙ cond-true (ltb from end) _ _ (lt-ltb from end l) in omega arith
  | inr l ↦ let i : past ≡ from / 512 = last ∙ cond-false (ltb from end) _ _ (le-ltb from end l) in omega arith
]

-- a longer row of granules
pub range_split : (a n m : ℕ) → range_with_len a (n + m) ≡ range_with_len a n ++ range_with_len (a + n) m
range_split a zero m = let e : 0 + m ≡ m = zero-add m in let d : a + 0 ≡ a = omega arith in rw (e, d) refl
range_split a (suc n) m =
    let e : suc n + m ≡ suc (n + m) = omega arith in
    let d : a + suc n ≡ a + 1 + n = omega arith in
    rw (e, d) (ap (λ xs. a ∷ xs) (range_split (a + 1) n m))

-- a test that fails from a place on keeps nothing from there
filter_past : (p : ℕ → Bool) (a m : ℕ) → ((g : ℕ) → a ≤ g → p g ≡ false) → filter p (range_with_len a m) ≡ []
filter_past p a zero h = refl
filter_past p a (suc m) h = cond-false (p a) _ _ (h a (omega arith)) ∙ filter_past p (a + 1) m (λ g l. h g (omega arith))

-- and it keeps as much of a longer row
pub filter_longer : (p : ℕ → Bool) (c d : ℕ) → c ≤ d → ((g : ℕ) → c ≤ g → p g ≡ false) → filter p (range_with_len 0 d) ≡ filter p (range_with_len 0 c)
filter_longer p c d order h =
    let e : c + (d - c) ≡ d = omega arith in
    ap (λ j. filter p (range_with_len 0 j)) (sym e)
    ∙ ap (filter p) (range_split 0 c (d - c))
    ∙ filter-append p (range_with_len 0 c) (range_with_len (0 + c) (d - c))
    ∙ ap (λ xs. filter p (range_with_len 0 c) ++ xs) (filter_past p (0 + c) (d - c) (λ g l. h g (omega arith)))
    ∙ append-nil (filter p (range_with_len 0 c))

-- no granule past an interval is touched by it
pub untouched : (from end g : ℕ) → granule_count end ≤ g → touches from end g ≡ false
untouched from end g l = false_from_ne_true (touches from end g) (λ t. let a = touches_true from end g t in omega arith)

pub fresh_is : (n : ℕ) (es : Entries) (from end past : ℕ) → IsKept n es → IsStrictlySortedBy nat_cmp (keys_of es) → from ≤ end → end ≤ most_bytes → past ≡ cond (ltb from end) ((end + 511) / 512) (from / 512)
    → length (entries_between nat_cmp (Included (from / 512)) (Excluded past) es) + fresh (file_of n es) from end ≡ past - from / 512
unfolding fresh
fresh_is n es from end past kept_n sorted order limit last =
    let first : ℕ = from / 512 in
    let m : ℕ = max n end in
    let h : n ≤ most_bytes = kept_n.limit in
    let kept : IsKept m es = kept_grown n m es (omega arith) (omega arith) kept_n in
    let f : SparseFile = file_of m es in
    let c : List ℕ = range_with_len 0 (granule_count m) in
    let least : first ≤ past = past_first from end past last in
    let e : first + (past - first) ≡ past = omega arith in
    let marked : length (entries_between nat_cmp (Included first) (Excluded past) es) ≡ length (filter (λ g. is_marked f g && touches from end g) c) =
    sym (length-keys_of (entries_between nat_cmp (Included first) (Excluded past) es)) ∙ ap length (keys_between m es from end past kept sorted last) in
    let touched : length (filter (touches from end) c) ≡ min past (0 + granule_count m) - max first 0 =
    ap length (filter_agree (touches from end) (λ g. leb first g && ltb g past) (λ g. touches_is from end past g last ∙ ap (λ j. leb first g && ltb g j) e) c) ∙ count_range first past 0 (granule_count m) in
    let both = count_both (touches from end) (is_marked f) c in
    let last_in : past ≤ granule_count m = past_within m from end past order (omega arith) last in
    let fresh_ones : length (filter (λ g. touches from end g && not (is_marked f g)) c) ≡ count_by (λ g. touches from end g && not (is_marked (file_of n es) g)) (range_with_len 0 (granule_count end)) =
    ap length (filter_longer (λ g. touches from end g && not (is_marked f g)) (granule_count end) (granule_count m) (omega arith) (λ g l. ap (λ b. b && not (is_marked f g)) (untouched from end g l)))
    ∙ ap length (filter_agree (λ g. touches from end g && not (is_marked f g)) (λ g. touches from end g && not (is_marked (file_of n es) g)) (λ g. ap (λ b. touches from end g && not b) (mark_is m es g kept ∙ sym (mark_is n es g kept_n))) (range_with_len 0 (granule_count end)))
    ∙ length-filter (λ g. touches from end g && not (is_marked (file_of n es) g)) (range_with_len 0 (granule_count end)) in
    omega arith
