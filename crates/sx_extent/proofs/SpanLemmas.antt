-- Intervals that are joined one after another.
use Rattle.std.proofs.Common.{◌≡◌, ℕ, zero, suc, ◌+◌, ◌/◌, ◌≤◌, min, ◌&&◌, ltb, map, Result, Ok, Err, Bool, true, false, cond, eqb, List, [], ◌∷◌, ◌++◌, length, get_or, set, refl, sym, ap, ◌∙◌, arith}
use Rattle.std.proofs.lemmas.Bool.{cond-true, cond-false}
use Rattle.std.proofs.lemmas.List.{map_push}
use Rattle.std.specs.Result.{IfOk}
use Rattle.std.specs.List.{filter, range_with_len}
use Rattle.std.specs.List.Sorted.{IsStrictlySortedBy}
use Rattle.std.specs.Map.{keys_of}
use Rattle.std.specs.Ordering.{nat_cmp}
use Rattle.std.specs.BTreeMap.Range.{entries_between}
use Rattle.std.specs.declared.ops.Bound.TheVariants.{Included, Excluded}
use Rattle.sx_extent.specs.Ranges.{SparseFile, Interval, joined, joined_before, listed, part_of_granule, is_marked, touches, granule_count}
use Rattle.sx_extent.specs.Granules.{Entries, IsKept, file_of}
use Rattle.sx_extent.proofs.FileLemmas.{file_length, mark_count}
use Rattle.sx_extent.proofs.KeyLemmas.{keys_between}

-- an interval after others, made one with the last of them where the two meet
abbrev pub joined_after : List Interval → Interval → List Interval
joined_after [] s = s ∷ []
joined_after (t ∷ []) s = cond (eqb t.end s.from) (record { from = t.from; end = s.end } ∷ []) (t ∷ s ∷ [])
joined_after (t ∷ (u ∷ us)) s = t ∷ joined_after (u ∷ us) s

-- one of each around a single one
both_sides : (x t s : Interval) (a b : Bool) → eqb x.end t.from ≡ a → eqb t.end s.from ≡ b → joined_before x (joined_after (t ∷ []) s) ≡ joined_after (joined_before x (t ∷ [])) s
both_sides x t s true true p q = rw (q, p, q) refl
both_sides x t s true false p q = rw (q, p, q) refl
both_sides x t s false true p q = rw (q, p, q) refl
both_sides x t s false false p q = rw (q, p, q) refl

-- one before and one after can be joined in either order
before_after : (x : Interval) (ys : List Interval) (s : Interval) → joined_before x (joined_after ys s) ≡ joined_after (joined_before x ys) s
before_after x [] s = refl
before_after x (t ∷ []) s = both_sides x t s (eqb x.end t.from) (eqb t.end s.from) refl refl
before_after x (t ∷ (u ∷ us)) s =
    elim (eqb x.end t.from) as (λ b. cond b (record { from = x.from; end = t.end } ∷ joined_after (u ∷ us) s) (x ∷ t ∷ joined_after (u ∷ us) s) ≡ joined_after (cond b (record { from = x.from; end = t.end } ∷ u ∷ us) (x ∷ t ∷ u ∷ us)) s) [ true ↦ refl | false ↦ refl ]

-- joining one more at the end
pub joined-push : (ss : List Interval) (s : Interval) → joined (ss ++ s ∷ []) ≡ joined_after (joined ss) s
joined-push [] s = refl
joined-push (x ∷ ss) s = ap (joined_before x) (joined-push ss s) ∙ before_after x (joined ss) s

-- where the last one doesn't meet it, it stands apart
pub after_apart : (xs : List Interval) (n : ℕ) (s t : Interval) → n + 1 ≡ length xs → t ≡ get_or xs n t → eqb t.end s.from ≡ false → joined_after xs s ≡ xs ++ s ∷ []
after_apart [] n s t l e f = absurd (omega arith)
after_apart (x ∷ []) zero s t l e f = let g : eqb x.end s.from ≡ false = ap (λ (i : Interval). eqb i.end s.from) (sym e) ∙ f in cond-false (eqb x.end s.from) _ _ g
after_apart (x ∷ []) (suc n) s t l e f = absurd (omega arith)
after_apart (x ∷ (u ∷ us)) zero s t l e f = absurd (omega arith)
after_apart (x ∷ (u ∷ us)) (suc n) s t l e f = ap (λ v. x ∷ v) (after_apart (u ∷ us) n s t (omega arith) e f)

-- where it does, the last one is made longer
pub after_meeting : (xs : List Interval) (n : ℕ) (s t : Interval) → n + 1 ≡ length xs → t ≡ get_or xs n t → eqb t.end s.from ≡ true → joined_after xs s ≡ set xs n (record { from = t.from; end = s.end })
after_meeting [] n s t l e f = absurd (omega arith)
after_meeting (x ∷ []) zero s t l e f =
    let g : eqb x.end s.from ≡ true = ap (λ (i : Interval). eqb i.end s.from) (sym e) ∙ f in
    cond-true (eqb x.end s.from) _ _ g ∙ ap (λ (i : Interval). record { from = i.from; end = s.end } ∷ []) (sym e)
after_meeting (x ∷ []) (suc n) s t l e f = absurd (omega arith)
after_meeting (x ∷ (u ∷ us)) zero s t l e f = absurd (omega arith)
after_meeting (x ∷ (u ∷ us)) (suc n) s t l e f = ap (λ v. x ∷ v) (after_meeting (u ∷ us) n s t (omega arith) e f)

-- after none it stands alone
pub after_none : (xs : List Interval) (s : Interval) → length xs ≡ 0 → joined_after xs s ≡ xs ++ s ∷ []
after_none [] s l = refl
after_none (x ∷ xs) s l = absurd (omega arith)

-- ---- the runs of a map

-- what one more entry adds
pub parts-push : (f : ℕ → Interval) (told : Entries) (g : ℕ) (v : List ℕ) → map f (keys_of (told ++ (g, v) ∷ [])) ≡ map f (keys_of told) ++ f g ∷ []
parts-push f told g v = ap (map f) (map_push (λ (e : ℕ × List ℕ). e.0) told (g, v)) ∙ map_push f (keys_of told) g

-- the marked granules of an interval, joined, are what is listed
pub listed_is : (n : ℕ) (es : Entries) (from end past : ℕ) → IsKept n es → IsStrictlySortedBy nat_cmp (keys_of es) → end ≤ n → past ≡ cond (ltb from end) ((end + 511) / 512) (from / 512)
    → joined (map (part_of_granule from end) (keys_of (entries_between nat_cmp (Included (from / 512)) (Excluded past) es))) ≡ listed (file_of n es) from end
unfolding listed
listed_is n es from end past kept sorted fits last =
    let f : SparseFile = file_of n es in
    let last_byte : end ≡ min end (length f.bytes) = let l : length f.bytes ≡ n = file_length n es in omega arith in
    ap (λ ks. joined (map (part_of_granule from end) ks)) (keys_between n es from end past kept sorted last)
    ∙ ap (λ j. joined (map (part_of_granule from j) (filter (λ g. is_marked f g && touches from j g) (range_with_len 0 (granule_count n))))) last_byte
    ∙ ap (λ c. joined (map (part_of_granule from (min end (length f.bytes))) (filter (λ g. is_marked f g && touches from (min end (length f.bytes)) g) (range_with_len 0 c)))) (sym (mark_count n es))

pub if_ok : {X E : Type 0} {P Q : X → Type 0} (r : Result X E) → ((x : X) → P x → Q x) → IfOk r P → IfOk r Q
if_ok (Ok x) f p = f x p
if_ok (Err e) f p = tt
