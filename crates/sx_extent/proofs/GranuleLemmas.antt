-- What a map of granules shows, by granules and by bytes.
use Rattle.std.proofs.Common.{◌≡◌, ℕ, ◌+◌, ◌-◌, ◌/◌, ◌%◌, ◌≤◌, ◌<◌, true, false, ◌&&◌, cond, eqb, ltb, leb, List, [], ◌∷◌, ◌++◌, length, get_or, take, drop, replicate, Option, Some, None, refl, sym, ap, ◌∙◌, subst, inl, inr, arith, rules}
use Rattle.std.specs.Option.{is_some, IfSome, IfNone, IsSome, unwrap_or, option_map}
use Rattle.std.specs.Ordering.{nat_cmp, is_gt}
use Rattle.std.specs.BTreeMap.Range.{IsInRange}
use Rattle.std.specs.declared.ops.Bound.TheVariants.{Included, Excluded}
use Rattle.std.proofs.lemmas.Map.Keys.{le_from_not_gt}
use Rattle.std.proofs.lemmas.List.Elements.{All-head, All-tail, All-take}
use Rattle.std.specs.List.{list_any, All}
use Rattle.std.proofs.lemmas.List.{ext_get_or, places, length-replicate, get_or-replicate, length-append, length-take, length-drop}
use Rattle.std.proofs.lemmas.List.FromFn.{length-map-range_with_len, get_or-map-range_with_len}
use Rattle.std.proofs.lemmas.Bool.Decides.{nat_tests}
use Rattle.std.proofs.lemmas.Bool.{leb-true, ltb-true, eqb-true, eq-eqb, ne_eqb, le-leb, lt-ltb, cases_Bool, cases_eq, cond-true, cond-false, and_parts, and_from, false_from_ne_true, false≢true, or_cases}
use Rattle.sx_extent.specs.Granules.{Entries, granule_at, has_granule, byte_at, bytes_from, IsSized, IsPut, IsSame, IsWritten}

-- an answer that is there, and one that is not
pub some_when : {X : Type 0} (o : Option X) → is_some o ≡ true → (x : X) × (o ≡ Some x)
some_when None h = cc
some_when (Some x) h = (x, refl)

pub nothing_when : {X : Type 0} (o : Option X) → is_some o ≡ false → o ≡ None
nothing_when None h = refl
nothing_when (Some x) h = cc

-- ---- one granule put in or taken out

-- a byte is read from what was put, or is as it was
pub byte_at-put : {old new : Entries} {g : ℕ} {kept : Option (List ℕ)} → IsPut old new g kept → (k : ℕ) → byte_at new k ≡ cond (eqb (k / 512) g) (get_or (unwrap_or kept []) (k % 512) 0) (byte_at old k)
unfolding byte_at
byte_at-put {old} {new} {g} {kept} p k =
    rw (p.at (k / 512)) (elim (eqb (k / 512) g) as (λ b. get_or (unwrap_or (cond b kept (granule_at old (k / 512))) []) (k % 512) 0 ≡ cond b (get_or (unwrap_or kept []) (k % 512) 0) (get_or (unwrap_or (granule_at old (k / 512)) []) (k % 512) 0)) [ true ↦ refl | false ↦ refl ])

-- a granule is marked as what was put says, or as it was
pub has_granule-put : {old new : Entries} {g : ℕ} {kept : Option (List ℕ)} → IsPut old new g kept → (q : ℕ) → has_granule new q ≡ cond (eqb q g) (is_some kept) (has_granule old q)
unfolding has_granule
has_granule-put {old} {new} {g} {kept} p q =
    rw (p.at q) (elim (eqb q g) as (λ b. is_some (cond b kept (granule_at old q)) ≡ cond b (is_some kept) (is_some (granule_at old q))) [ true ↦ refl | false ↦ refl ])

-- whole granules stay whole
pub IsSized-put : {old new : Entries} {g : ℕ} {kept : Option (List ℕ)} → IsPut old new g kept → IsSized old → IfSome kept (λ v. length v ≡ 512) → IsSized new
unfolding IsSized
IsSized-put {old} {new} {g} {kept} p sized whole q =
    let P : Option (List ℕ) → Type 0 = λ o. IfSome o (λ v. length v ≡ 512) in
    subst P (sym (p.at q)) (elim (eqb q g) as (λ b. P (cond b kept (granule_at old q))) [ true ↦ whole | false ↦ sized q ])

-- ---- a part of the bytes

pub length-bytes_from : (es : Entries) (at n : ℕ) → length (bytes_from es at n) ≡ n
unfolding bytes_from
length-bytes_from es at n = length-map-range_with_len (byte_at es) at n

pub get_or-bytes_from : (es : Entries) (at n k : ℕ) → k < n → get_or (bytes_from es at n) k 0 ≡ byte_at es (at + k)
unfolding bytes_from
get_or-bytes_from es at n k l = get_or-map-range_with_len (byte_at es) at n k (at + k) 0 l refl

-- a list is those bytes if it has as many and each of them
pub same_bytes : (xs : List ℕ) (es : Entries) (at n : ℕ) → length xs ≡ n → ((k : ℕ) → k < n → get_or xs k 0 ≡ byte_at es (at + k)) → xs ≡ bytes_from es at n
same_bytes xs es at n l h =
    ext_get_or 0 xs (bytes_from es at n) (l ∙ sym (length-bytes_from es at n)) (λ k b. let c : k < n = rw (← l) b in h k c ∙ sym (get_or-bytes_from es at n k c))

-- two maps with the same bytes there
pub bytes_from-same : (es fs : Entries) (at n : ℕ) → ((k : ℕ) → k < n → byte_at es (at + k) ≡ byte_at fs (at + k)) → bytes_from es at n ≡ bytes_from fs at n
bytes_from-same es fs at n h = same_bytes (bytes_from es at n) fs at n (length-bytes_from es at n) (λ k l. get_or-bytes_from es at n k l ∙ h k l)

-- a byte by its granule and its place there
pub byte_at-granule : (es : Entries) (at j : ℕ) → at % 512 + j < 512 → byte_at es (at + j) ≡ get_or (unwrap_or (granule_at es (at / 512)) []) (at % 512 + j) 0
unfolding byte_at
byte_at-granule es at j l =
    let q : (at + j) / 512 ≡ at / 512 = omega arith in
    let r : (at + j) % 512 ≡ at % 512 + j = omega arith in
    rw (q, r)

-- ---- reading and writing in one granule

-- what a granule keeps, or nothing, by whether it is marked
pub kept_when : (es : Entries) (g : ℕ) → has_granule es g ≡ true → (v : List ℕ) × (granule_at es g ≡ Some v)
unfolding has_granule
kept_when es g h = some_when (granule_at es g) h

pub none_when : (es : Entries) (g : ℕ) → has_granule es g ≡ false → granule_at es g ≡ None
unfolding has_granule
none_when es g h = nothing_when (granule_at es g) h

-- a granule that a look-up finds is whole
pub whole_when : (es : Entries) (g : ℕ) (v : List ℕ) → IsSized es → granule_at es g ≡ Some v → length v ≡ 512
unfolding IsSized
whole_when es g v sized e =
    let P : Option (List ℕ) → Type 0 = λ o. IfSome o (λ w. length w ≡ 512) in
    subst P e (sized g)

-- a byte of a granule with no entry is zero
pub byte_at-none : (es : Entries) (k : ℕ) → has_granule es (k / 512) ≡ false → byte_at es k ≡ 0
unfolding byte_at
byte_at-none es k h = rw (none_when es (k / 512) h) refl

-- a byte of a granule, as its entry has it
pub byte_at-kept : (es : Entries) (k g : ℕ) (v : List ℕ) → k / 512 ≡ g → granule_at es g ≡ Some v → byte_at es k ≡ get_or v (k % 512) 0
unfolding byte_at
byte_at-kept es k g v e is = rw (e, is) refl

-- the bytes of one granule, as its entry has them
pub bytes_from-kept : (es : Entries) (at n o m : ℕ) (v into : List ℕ) → granule_at es (at / 512) ≡ Some v → length v ≡ 512 → o ≡ at % 512 → m ≡ n → at % 512 + n ≤ 512 → into ≡ take m (drop o v) → into ≡ bytes_from es at n
bytes_from-kept es at n o m v into e whole oe me fits is =
    rw (is, oe, me) (same_bytes (take n (drop (at % 512) v)) es at n (search (rules, places)) (λ k l.
    let b : byte_at es (at + k) ≡ get_or (unwrap_or (granule_at es (at / 512)) []) (at % 512 + k) 0 = byte_at-granule es at k (omega arith) in
    rw (b, e) (search (rules, places))))

-- the bytes of one granule with no entry
pub bytes_from-none : (es : Entries) (at n : ℕ) (into : List ℕ) → granule_at es (at / 512) ≡ None → at % 512 + n ≤ 512 → into ≡ replicate n 0 → into ≡ bytes_from es at n
bytes_from-none es at n into e fits is =
    rw is (same_bytes (replicate n 0) es at n (length-replicate n 0) (λ k l.
    let b : byte_at es (at + k) ≡ get_or (unwrap_or (granule_at es (at / 512)) []) (at % 512 + k) 0 = byte_at-granule es at k (omega arith) in
    rw (b, e) (get_or-replicate n k 0 0 l)))

-- a list with a part replaced
pub get_or-replaced : (v part : List ℕ) (o k : ℕ) → o + length part ≤ length v → get_or (take o v ++ part ++ drop (o + length part) v) k 0 ≡ cond (leb o k && ltb k (o + length part)) (get_or part (k - o) 0) (get_or v k 0)
get_or-replaced v part o k fits = grind (arith, places, nat_tests)

pub length-replaced : (v part : List ℕ) (o : ℕ) → o + length part ≤ length v → length (take o v ++ part ++ drop (o + length part) v) ≡ length v
length-replaced v part o fits = simp (length-append, length-take, length-drop) (omega arith)

-- two tests of order answer alike where their facts follow from each other
pub leb_same : (a b x y : ℕ) → (a ≤ b → x ≤ y) → (x ≤ y → a ≤ b) → leb a b ≡ leb x y
leb_same a b x y f g = grind (arith, nat_tests)

pub ltb_same : (a b x y : ℕ) → (a < b → x < y) → (x < y → a < b) → ltb a b ≡ ltb x y
ltb_same a b x y f g = grind (arith, nat_tests)

-- a place that does not lie in an interval
pub outside : (from end k : ℕ) → (from ≤ k → k < end → ⊥) → (leb from k && ltb k end) ≡ false
outside from end k h = false_from_ne_true (leb from k && ltb k end) (λ t. let p = and_parts (leb from k) (ltb k end) t in h (leb-true from k p.0) (ltb-true k end p.1))

-- a place that does
pub inside : (from end k : ℕ) → from ≤ k → k < end → (leb from k && ltb k end) ≡ true
inside from end k l m = and_from (leb from k) (ltb k end) (le-leb from k l) (lt-ltb k end m)

-- a mark that is set where it was set before
pub stays_marked : (es : Entries) (g q : ℕ) → has_granule es g ≡ true → cond (eqb q g) true (has_granule es q) ≡ has_granule es q
stays_marked es g q h = elim (cases_eq q g) [ inl e ↦ cond-true (eqb q g) true (has_granule es q) (eq-eqb q g e) ∙ sym (ap (has_granule es) e ∙ h) | inr n ↦ cond-false (eqb q g) true (has_granule es q) (ne_eqb q g n) ]

-- a byte after a part was written into one granule
written_byte : (v part : List ℕ) (at k old : ℕ) → length v ≡ 512 → at % 512 + length part ≤ 512 → (k / 512 ≡ at / 512 → old ≡ get_or v (k % 512) 0) → cond (eqb (k / 512) (at / 512)) (get_or (take (at % 512) v ++ part ++ drop (at % 512 + length part) v) (k % 512) 0) old ≡ cond (leb at k && ltb k (at + length part)) (get_or part (k - at) 0) old
written_byte v part at k old whole fits was = elim (cases_eq (k / 512) (at / 512)) [
  | inl e ↦
      let low : leb (at % 512) (k % 512) ≡ leb at k = leb_same (at % 512) (k % 512) at k (λ h. omega arith) (λ h. omega arith) in
      let high : ltb (k % 512) (at % 512 + length part) ≡ ltb k (at + length part) = ltb_same (k % 512) (at % 512 + length part) k (at + length part) (λ h. omega arith) (λ h. omega arith) in
      let gap : k % 512 - at % 512 ≡ k - at = omega arith in
      let w : old ≡ get_or v (k % 512) 0 = was e in
      cond-true (eqb (k / 512) (at / 512)) _ old (eq-eqb (k / 512) (at / 512) e)
      ∙ get_or-replaced v part (at % 512) (k % 512) (omega arith)
      ∙ rw (low, high, gap, ← w) refl
  | inr n ↦
      cond-false (eqb (k / 512) (at / 512)) _ old (ne_eqb (k / 512) (at / 512) n)
      ∙ sym (cond-false _ _ old (outside at (at + length part) k (λ l m. n (omega arith))))
]

-- a part written into a granule that has an entry
pub IsWritten-put : (old new : Entries) (at : ℕ) (part : List ℕ) → IsPut old new (at / 512) (option_map (λ v. take (at % 512) v ++ part ++ drop (at % 512 + length part) v) (granule_at old (at / 512))) → IsSized old → at % 512 + length part ≤ 512 → has_granule old (at / 512) ≡ true → IsWritten old new at part × IsSized new
IsWritten-put old new at part p sized fits marked =
    let w = kept_when old (at / 512) marked in
    let v : List ℕ = w.0 in
    let is : granule_at old (at / 512) ≡ Some v = w.1 in
    let whole : length v ≡ 512 = whole_when old (at / 512) v sized is in
    let o : ℕ = at % 512 in
    let q : IsPut old new (at / 512) (Some (take o v ++ part ++ drop (o + length part) v)) = rw is at p in (
      record {
        marks = λ g. has_granule-put q g ∙ stays_marked old (at / 512) g marked;
        bytes = λ k. byte_at-put q k ∙ written_byte v part at k (byte_at old k) whole fits (λ e. byte_at-kept old k (at / 512) v e is);
      },
      IsSized-put q sized (rw (length-replaced v part o (omega arith)) whole),
    )

-- ---- granules of zeros added and taken out again

-- a listed granule has no entry
absent : (es : Entries) (ns : List ℕ) (q : ℕ) → All (λ g. has_granule es g ≡ false) ns → list_any (λ g. eqb g q) ns ≡ true → has_granule es q ≡ false
absent es [] q none any = absurd (false≢true any)
absent es (n ∷ ns) q none any =
    let P : ℕ → Type 0 = λ g. has_granule es g ≡ false in
    elim (or_cases (eqb n q) (list_any (λ g. eqb g q) ns) any) [
      | inl e ↦ subst P (eqb-true n q e) (All-head P n ns none)
      | inr r ↦ absent es ns q (All-tail P n ns none) r
    ]

-- the granules that were added are taken out again
pub undone : (old mid new : Entries) (ns : List ℕ) (n : ℕ) → All (λ g. has_granule old g ≡ false) ns → ((q : ℕ) → granule_at mid q ≡ cond (list_any (λ g. eqb g q) (take n ns)) (Some (replicate 512 0)) (granule_at old q)) → ((q : ℕ) → granule_at new q ≡ cond (list_any (λ g. eqb g q) (take n ns)) None (granule_at mid q)) → IsSame old new
undone old mid new ns n none added removed q = elim (cases_Bool (list_any (λ g. eqb g q) (take n ns))) [
  | inl t ↦
      removed q ∙ cond-true (list_any (λ g. eqb g q) (take n ns)) None (granule_at mid q) t
      ∙ sym (none_when old q (absent old (take n ns) q (All-take (λ g. has_granule old g ≡ false) n ns none) t))
  | inr f ↦
      removed q ∙ cond-false (list_any (λ g. eqb g q) (take n ns)) None (granule_at mid q) f
      ∙ added q ∙ cond-false (list_any (λ g. eqb g q) (take n ns)) (Some (replicate 512 0)) (granule_at old q) f
]

-- ---- the granules between two

-- a place in a range of keys
pub in_range : (a b q : ℕ) → a ≤ q → q < b → IsInRange nat_cmp (Included a) (Excluded b) q
in_range a b q l m = (grind (arith, nat_tests), grind (arith, nat_tests))

-- what a range of keys says of its places
pub from_range : (a b q : ℕ) → IsInRange nat_cmp (Included a) (Excluded b) q → (a ≤ q) × (q < b)
from_range a b q h = (le_from_not_gt a q h.0, grind (arith, nat_tests, h.1))

pub has_none : (es : Entries) (g : ℕ) → granule_at es g ≡ None → has_granule es g ≡ false
unfolding has_granule
has_none es g e = rw e refl

pub has_some : (es : Entries) (g : ℕ) (v : List ℕ) → granule_at es g ≡ Some v → has_granule es g ≡ true
unfolding has_granule
has_some es g v e = rw e refl

-- no granule has an entry before the first that a range gives
pub none_before : (es : Entries) (a b g : ℕ) → g < b → ((q : ℕ) → IsInRange nat_cmp (Included a) (Excluded b) q → IsSome (granule_at es q) → is_gt (nat_cmp g q) ≡ false) → (q : ℕ) → a ≤ q → q < g → has_granule es q ≡ false
none_before es a b g below least q l m = false_from_ne_true (has_granule es q) (λ t.
    let w = kept_when es q t in
    let some : IsSome (granule_at es q) = rw w.1 refl in
    let le : g ≤ q = le_from_not_gt g q (least q (in_range a b q l (omega arith)) some) in
    omega arith)

pub if_none : {X : Type 0} {P : Type 0} (o : Option X) → P → IfNone o P
if_none None p = p
if_none (Some x) p = tt
