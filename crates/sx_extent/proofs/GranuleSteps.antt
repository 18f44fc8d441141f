-- The steps of what changes several granules.
use Rattle.std.proofs.Common.{◌≡◌, ℕ, zero, suc, ◌+◌, ◌-◌, ◌*◌, ◌/◌, ◌%◌, ◌≤◌, ◌<◌, min, max, Bool, true, false, not, ◌&&◌, ◌||◌, cond, eqb, ltb, leb, List, [], ◌++◌, length, get_or, take, drop, replicate, Option, Some, None, Result, Ok, Err, refl, sym, ap, ◌∙◌, subst, inl, inr, arith, rules}
use Rattle.std.specs.Option.{IfSome}
use Rattle.std.specs.List.{range_with_len, list_any, All, filter}
use Rattle.std.proofs.lemmas.List.{places, length-append, get_or_append_left, get_or-append_right, length-take-le, length-replicate, get_or-replicate, get_or_past}
use Rattle.std.proofs.lemmas.Slice.{take-put_mid}
use Rattle.std.proofs.lemmas.Map.Views.{any-filter_same}
use borrow.Rule.Slice.PartMut.{put_mid}
use Rattle.std.proofs.lemmas.Bool.Decides.{nat_tests}
use Rattle.std.proofs.lemmas.Bool.{leb-true, ltb-true, eqb-true, eq-eqb, lt-ltb, le-ltb, cases_Bool, cases_lt, cond-true, cond-false, and_parts, and_from, false_from_ne_true, false≢true, not-true}
use Rattle.std.proofs.lemmas.List.Elements.{All-weaker, filter_passes}
use Rattle.std.specs.Result.{OnOk, OnErr}
use Rattle.sx_extent.specs.Ranges.{covers, touches}
use Rattle.sx_extent.specs.Granules.{Entries, granule_at, has_granule, byte_at, bytes_from, IsSized, IsPut, IsSame, IsWritten, IsMarked, IsErased, is_between}
use Rattle.sx_extent.proofs.GranuleLemmas.{same_bytes, length-bytes_from, get_or-bytes_from, byte_at-put, has_granule-put, byte_at-none, outside, inside}

-- ---- reading

-- two parts that follow each other
pub bytes_from-append : (es : Entries) (at n m : ℕ) → bytes_from es at n ++ bytes_from es (at + n) m ≡ bytes_from es at (n + m)
bytes_from-append es at n m =
    let l : length (bytes_from es at n) ≡ n = length-bytes_from es at n in
    same_bytes (bytes_from es at n ++ bytes_from es (at + n) m) es at (n + m)
    (length-append (bytes_from es at n) (bytes_from es (at + n) m) ∙ rw (length-bytes_from es at n, length-bytes_from es (at + n) m) refl)
    (λ k b. elim (cases_lt k n) [
      | inl c ↦ get_or_append_left (bytes_from es at n) (bytes_from es (at + n) m) 0 k (rw l c) ∙ get_or-bytes_from es at n k c
      | inr c ↦
          let e : (at + n) + (k - n) ≡ at + k = omega arith in
          get_or-append_right (bytes_from es at n) (bytes_from es (at + n) m) n k 0 l c
          ∙ get_or-bytes_from es (at + n) m (k - n) (omega arith) ∙ ap (byte_at es) e
    ])

-- how many bytes a part of a slice has, and which
pub length-part : (n m : ℕ) (xs : List ℕ) → n + m ≤ length xs → length (take (n + m - n) (drop n xs)) ≡ m
length-part n m xs fits = search (rules, places)

pub part_is : (n m : ℕ) (xs : List ℕ) → take (n + m - n) (drop n xs) ≡ take m (drop n xs)
part_is n m xs = let e : n + m - n ≡ m = omega arith in rw e refl

-- no bytes
pub bytes_from-none : (es : Entries) (at : ℕ) → [] ≡ bytes_from es at 0
unfolding bytes_from
bytes_from-none es at = refl

-- a further part was read
pub read_more : (es : Entries) (at n k m j : ℕ) (into part : List ℕ) → n + m ≤ length into → take n into ≡ bytes_from es at n → part ≡ bytes_from es (at + n) j → j ≡ m → k ≡ m → (n + m ≤ length (put_mid n k into part)) × (take (n + m) (put_mid n k into part) ≡ bytes_from es at (n + m))
read_more es at n k m j into part fits was is jm km =
    let l : length part ≡ m = rw (is, jm) (length-bytes_from es (at + n) m) in
    let p : part ≡ bytes_from es (at + n) m = rw (← jm) is in (
      rw km (search (rules, places)),
      take-put_mid n k into part (n + m) (rw l refl) (omega arith) ∙ rw (was, p) (bytes_from-append es at n m),
    )

-- ---- writing

-- nothing was written yet
pub IsWritten-none : (es : Entries) (at : ℕ) → IsWritten es es at []
IsWritten-none es at = record {
  marks = λ g. refl;
  bytes = λ k. sym (cond-false _ _ (byte_at es k) (outside at (at + 0) k (λ l m. omega arith)));
}

-- a byte after a further part was written
more_byte : (at n m k x y : ℕ) (bytes : List ℕ) → n + m ≤ length bytes → y ≡ cond (leb at k && ltb k (at + n)) (get_or (take n bytes) (k - at) 0) x → cond (leb (at + n) k && ltb k (at + n + m)) (get_or (take m (drop n bytes)) (k - (at + n)) 0) y ≡ cond (leb at k && ltb k (at + (n + m))) (get_or (take (n + m) bytes) (k - at) 0) x
more_byte at n m k x y bytes fits was = grind (arith, nat_tests, places)

-- a further part was written
pub IsWritten-more : (a b c : Entries) (at n m : ℕ) (bytes part : List ℕ) → IsWritten a b at (take n bytes) → IsWritten b c (at + n) part → part ≡ take m (drop n bytes) → n + m ≤ length bytes → IsWritten a c at (take (n + m) bytes)
IsWritten-more a b c at n m bytes part f s is fits =
    let ln : length (take n bytes) ≡ n = length-take-le n bytes (omega arith) in
    let lnm : length (take (n + m) bytes) ≡ n + m = length-take-le (n + m) bytes fits in
    let lm : length (take m (drop n bytes)) ≡ m = search (rules, places) in
    let g : IsWritten b c (at + n) (take m (drop n bytes)) = rw is at s in
    record {
      marks = λ q. s.marks q ∙ f.marks q;
      bytes = λ k.
          let e : byte_at b k ≡ cond (leb at k && ltb k (at + n)) (get_or (take n bytes) (k - at) 0) (byte_at a k) = rw ln at (f.bytes k) in
          let d : byte_at c k ≡ cond (leb (at + n) k && ltb k (at + n + m)) (get_or (take m (drop n bytes)) (k - (at + n)) 0) (byte_at b k) = rw lm at (g.bytes k) in
          d ∙ more_byte at n m k (byte_at a k) (byte_at b k) bytes fits e ∙ rw lnm refl;
    }

-- the granule of a place in an interval is one that the interval touches
pub touches_at : (from end k : ℕ) → from ≤ k → k < end → touches from end (k / 512) ≡ true
unfolding touches
touches_at from end k l m = lt-ltb (max from (512 * (k / 512))) (min end (512 * (k / 512) + 512)) (omega arith)

-- a granule from the first to before the past one is one that the interval touches
pub touches_between : (from end g : ℕ) → from / 512 ≤ g → g < cond (ltb from end) ((end + 511) / 512) (from / 512) → touches from end g ≡ true
unfolding touches
touches_between from end g l m =
    let o : from < end = elim (cases_lt from end) [ inl o ↦ o | inr o ↦ absurd (let e : cond (ltb from end) ((end + 511) / 512) (from / 512) ≡ from / 512 = cond-false (ltb from end) _ _ (le-ltb from end o) in omega arith) ] in
    let e : cond (ltb from end) ((end + 511) / 512) (from / 512) ≡ (end + 511) / 512 = cond-true (ltb from end) _ _ (lt-ltb from end o) in
    lt-ltb (max from (512 * g)) (min end (512 * g + 512)) (omega arith)

-- what a touched granule has in common with the interval
pub touches_true : (from end g : ℕ) → touches from end g ≡ true → max from (512 * g) < min end (512 * g + 512)
unfolding touches
touches_true from end g t = ltb-true (max from (512 * g)) (min end (512 * g + 512)) t

-- ---- erasing in one granule

-- the places of a part of a granule
same_place : (from end g low n k : ℕ) → low ≡ max from (512 * g) → low + n ≡ min end (512 * g + 512) → (leb low k && ltb k (low + n)) ≡ (eqb (k / 512) g && (leb from k && ltb k end))
same_place from end g low n k at past = elim (cases_Bool (leb low k && ltb k (low + n))) [
  | inl t ↦
      let p = and_parts (leb low k) (ltb k (low + n)) t in
      let a : low ≤ k = leb-true low k p.0 in
      let b : k < low + n = ltb-true k (low + n) p.1 in
      t ∙ sym (and_from (eqb (k / 512) g) (leb from k && ltb k end) (eq-eqb (k / 512) g (omega arith)) (inside from end k (omega arith) (omega arith)))
  | inr f ↦
      f ∙ sym (false_from_ne_true (eqb (k / 512) g && (leb from k && ltb k end)) (λ t.
      let p = and_parts (eqb (k / 512) g) (leb from k && ltb k end) t in
      let e : k / 512 ≡ g = eqb-true (k / 512) g p.0 in
      let q = and_parts (leb from k) (ltb k end) p.1 in
      let a : from ≤ k = leb-true from k q.0 in
      let b : k < end = ltb-true k end q.1 in
      false≢true (sym f ∙ inside low (low + n) k (omega arith) (omega arith))))
]

-- what a covered granule has
pub covers_true : (from end size g : ℕ) → covers from end size g ≡ true → (from ≤ 512 * g) × (min size (512 * g + 512) ≤ end)
unfolding covers
covers_true from end size g t =
    let p = and_parts (leb from (512 * g)) (leb (min size (512 * g + 512)) end) t in
    (leb-true from (512 * g) p.0, leb-true (min size (512 * g + 512)) end p.1)

-- the mark of a granule that is taken out if it is covered
whole_mark : (h c e : Bool) → (e ≡ true → c ≡ true) → cond e false h ≡ (h && not (e && c))
whole_mark true true true f = refl
whole_mark true false true f = absurd (false≢true (f refl))
whole_mark false c true f = refl
whole_mark true c false f = refl
whole_mark false c false f = refl

-- a byte that is erased
whole_byte : (e b : Bool) (x : ℕ) → (e ≡ true → b ≡ false → x ≡ 0) → cond e 0 x ≡ cond (e && b) 0 x
whole_byte true true x f = refl
whole_byte true false x f = sym (f refl refl)
whole_byte false b x f = refl

-- a granule that the interval covers was taken out
pub erased_whole : (old new : Entries) (from end size g : ℕ) → IsPut old new g None → covers from end size g ≡ true → ((k : ℕ) → size ≤ k → byte_at old k ≡ 0)
    → ((q : ℕ) → has_granule new q ≡ (has_granule old q && not (eqb q g && covers from end size q)))
    × ((k : ℕ) → byte_at new k ≡ cond (eqb (k / 512) g && is_between from end k) 0 (byte_at old k))
erased_whole old new from end size g p c zeros = (
  (λ q. has_granule-put p q ∙ whole_mark (has_granule old q) (covers from end size q) (eqb q g) (λ e. ap (covers from end size) (eqb-true q g e) ∙ c)),
  (λ k. byte_at-put p k ∙ whole_byte (eqb (k / 512) g) (is_between from end k) (byte_at old k) (λ e b.
      let i : k / 512 ≡ g = eqb-true (k / 512) g e in
      let t = covers_true from end size g c in
      elim (cases_lt k end) [
        | inl l ↦ absurd (false≢true (sym b ∙ inside from end k (omega arith) l))
        | inr l ↦ zeros k (omega arith)
      ])),
)

-- zeros read as zeros
pub zero_read : (n j : ℕ) → get_or {A = ℕ} (replicate n 0) j 0 ≡ 0
zero_read n j = elim (cases_lt j n) [ inl l ↦ get_or-replicate n j 0 0 l | inr l ↦ get_or_past (replicate n 0) j 0 (rw (length-replicate {A = ℕ} n 0) l) ]

-- a part of a granule was overwritten by zeros
pub erased_part : (old new : Entries) (from end g low n : ℕ) (zeros : List ℕ) → IsWritten old new low zeros → zeros ≡ replicate n 0 → max from (512 * g) < min end (512 * g + 512) → low ≡ max from (512 * g) → low + n ≡ min end (512 * g + 512)
    → (k : ℕ) → byte_at new k ≡ cond (eqb (k / 512) g && is_between from end k) 0 (byte_at old k)
erased_part old new from end g low n zeros w is t at past k =
    let v : IsWritten old new low (replicate n 0) = rw is at w in
    let b : byte_at new k ≡ cond (leb low k && ltb k (low + n)) 0 (byte_at old k) = rw (length-replicate {A = ℕ} n 0, zero_read n (k - low)) at (v.bytes k) in
    let e : (leb low k && ltb k (low + n)) ≡ (eqb (k / 512) g && (leb from k && ltb k end)) = same_place from end g low n k at past in
    b ∙ rw e refl

-- ---- erasing granule by granule

-- erased in the granules below one
pub record IsErasedBelow (old new : Entries) (from end size next : ℕ) : Type 0 where
  pub marks : (q : ℕ) → has_granule new q ≡ (has_granule old q && not (ltb q next && covers from end size q))
  pub bytes : (k : ℕ) → byte_at new k ≡ cond (ltb (k / 512) next && is_between from end k) 0 (byte_at old k)

-- a mark that stays
kept_mark : (h b : Bool) → b ≡ false → h ≡ (h && not b)
kept_mark true b e = rw e refl
kept_mark false b e = refl

-- nothing is erased yet
pub IsErasedBelow-none : (es : Entries) (from end size : ℕ) → IsErasedBelow es es from end size (from / 512)
IsErasedBelow-none es from end size = record {
  marks = λ q. kept_mark (has_granule es q) (ltb q (from / 512) && covers from end size q) (false_from_ne_true _ (λ t.
      let p = and_parts (ltb q (from / 512)) (covers from end size q) t in
      let a : q < from / 512 = ltb-true q (from / 512) p.0 in
      let b = covers_true from end size q p.1 in
      omega arith));
  bytes = λ k. sym (cond-false (ltb (k / 512) (from / 512) && is_between from end k) 0 (byte_at es k) (false_from_ne_true _ (λ t.
      let p = and_parts (ltb (k / 512) (from / 512)) (is_between from end k) t in
      let a : k / 512 < from / 512 = ltb-true (k / 512) (from / 512) p.0 in
      let b : from ≤ k = leb-true from k (and_parts (leb from k) (ltb k end) p.1).0 in
      omega arith)));
}

-- a mark after the next granule
more_mark : (q g next : ℕ) (a b c : Bool) → b ≡ (a && not (ltb q next && c)) → (next ≤ q → q < g → b ≡ false) → next ≤ g → (b && not (eqb q g && c)) ≡ (a && not (ltb q (g + 1) && c))
more_mark q g next a b true e none l = grind (arith, nat_tests)
more_mark q g next a b false e none l = grind (arith, nat_tests)

-- a byte after the next granule
more_zero : (q g next x y : ℕ) (b : Bool) → y ≡ cond (ltb q next && b) 0 x → (next ≤ q → q < g → y ≡ 0) → next ≤ g → cond (eqb q g && b) 0 y ≡ cond (ltb q (g + 1) && b) 0 x
more_zero q g next x y true e none l = grind (arith, nat_tests)
more_zero q g next x y false e none l = grind (arith, nat_tests)

-- the next granule with an entry is erased too
pub IsErasedBelow-more : (a b c : Entries) (from end size next g : ℕ) → IsErasedBelow a b from end size next → ((q : ℕ) → next ≤ q → q < g → has_granule b q ≡ false) → next ≤ g
    → ((q : ℕ) → has_granule c q ≡ (has_granule b q && not (eqb q g && covers from end size q)))
    → ((k : ℕ) → byte_at c k ≡ cond (eqb (k / 512) g && is_between from end k) 0 (byte_at b k))
    → IsErasedBelow a c from end size (g + 1)
IsErasedBelow-more a b c from end size next g f none l marks bytes = record {
  marks = λ q. marks q ∙ more_mark q g next (has_granule a q) (has_granule b q) (covers from end size q) (f.marks q) (none q) l;
  bytes = λ k. bytes k ∙ more_zero (k / 512) g next (byte_at a k) (byte_at b k) (is_between from end k) (f.bytes k) (λ i j. byte_at-none b k (none (k / 512) i j)) l;
}

-- a mark where no granule is left
all_marks : (q next : ℕ) (a b c : Bool) → b ≡ (a && not (ltb q next && c)) → (next ≤ q → a ≡ true → c ≡ true → b ≡ false) → b ≡ (a && not c)
all_marks q next true b true e none = elim (cases_lt q next) [ inl l ↦ e ∙ rw (lt-ltb q next l) refl | inr l ↦ none l refl refl ]
all_marks q next true b false e none = e ∙ sym (kept_mark true (ltb q next && false) (grind (arith, nat_tests)))
all_marks q next false b c e none = e

-- a byte where no granule is left
all_zero : (q next x y : ℕ) (b : Bool) → y ≡ cond (ltb q next && b) 0 x → (b ≡ true → next ≤ q → y ≡ 0) → y ≡ cond b 0 x
all_zero q next x y true e none = elim (cases_lt q next) [ inl l ↦ e ∙ rw (lt-ltb q next l) refl | inr l ↦ none refl l ]
all_zero q next x y false e none = e ∙ (elim (ltb q next) as (λ v. cond (v && false) 0 x ≡ x) [ true ↦ refl | false ↦ refl ])

-- every granule of the interval is erased
pub IsErasedBelow-all : (a b : Entries) (from end size next past : ℕ) → IsErasedBelow a b from end size next → ((q : ℕ) → next ≤ q → q < past → has_granule b q ≡ false) → from ≤ end → past ≡ cond (ltb from end) ((end + 511) / 512) (from / 512) → ((q : ℕ) → has_granule a q ≡ true → 512 * q < size) → IsErased a b from end size
IsErasedBelow-all a b from end size next past f none order last within = record {
  marks = λ q. all_marks q next (has_granule a q) (has_granule b q) (covers from end size q) (f.marks q) (λ l h c.
      let t = covers_true from end size q c in
      let w : 512 * q < size = within q h in
      let o : from < end = omega arith in
      let e : past ≡ (end + 511) / 512 = last ∙ cond-true (ltb from end) _ _ (lt-ltb from end o) in
      none q l (omega arith));
  bytes = λ k. all_zero (k / 512) next (byte_at a k) (byte_at b k) (is_between from end k) (f.bytes k) (λ i l.
      let p = and_parts (leb from k) (ltb k end) i in
      let s : from ≤ k = leb-true from k p.0 in
      let t : k < end = ltb-true k end p.1 in
      let o : from < end = omega arith in
      let e : past ≡ (end + 511) / 512 = last ∙ cond-true (ltb from end) _ _ (lt-ltb from end o) in
      byte_at-none b k (none (k / 512) l (omega arith)));
}

-- the past granule isn't before the first
pub past_first : (from end past : ℕ) → past ≡ cond (ltb from end) ((end + 511) / 512) (from / 512) → from / 512 ≤ past
past_first from end past e = elim (cases_lt from end) [
  | inl l ↦ let i : past ≡ (end + 511) / 512 = e ∙ cond-true (ltb from end) _ _ (lt-ltb from end l) in omega arith
  | inr l ↦ let i : past ≡ from / 512 = e ∙ cond-false (ltb from end) _ _ (le-ltb from end l) in omega arith
]

-- ---- marking

-- a number that stands first, or later
pub one_more : (a n q : ℕ) → (eqb a q || (leb (a + 1) q && ltb q (a + 1 + n))) ≡ (leb a q && ltb q (a + suc n))
one_more a n q = grind (arith, nat_tests)

-- numbers in order from one on
any_in_range : (a n q : ℕ) → list_any (λ g. eqb g q) (range_with_len a n) ≡ (leb a q && ltb q (a + n))
any_in_range a zero q = sym (false_from_ne_true (leb a q && ltb q (a + 0)) (λ t. let p = and_parts (leb a q) (ltb q (a + 0)) t in let l : a ≤ q = leb-true a q p.0 in let m : q < a + 0 = ltb-true q (a + 0) p.1 in absurd (omega arith)))
any_in_range a (suc n) q = ap (λ b. eqb a q || b) (any_in_range (a + 1) n q) ∙ one_more a n q

-- the listed granules are those of the interval that had no entry
listed_missing : (p : ℕ → Bool) (q : ℕ) (ns : List ℕ) → list_any (λ g. eqb g q) (filter p ns) ≡ (p q && list_any (λ g. eqb g q) ns)
listed_missing p q ns = any-filter_same (λ g. eqb g q) p (p q) (λ k e. ap p (eqb-true k q e)) ns

-- a granule of zeros has zeros
zeros_whole : IfSome (Some (replicate {A = ℕ} 512 0)) (λ v. length v ≡ 512)
zeros_whole = length-replicate {A = ℕ} 512 0

-- the touched granules are those from the first to before the past one
pub touches_is : (from end past q : ℕ) → past ≡ cond (ltb from end) ((end + 511) / 512) (from / 512) → touches from end q ≡ (leb (from / 512) q && ltb q (from / 512 + (past - from / 512)))
touches_is from end past q last =
    let order : from / 512 ≤ past = past_first from end past last in
    elim (cases_Bool (touches from end q)) [
      | inl t ↦
          let a = touches_true from end q t in
          let o : from < end = omega arith in
          let e : past ≡ (end + 511) / 512 = last ∙ cond-true (ltb from end) _ _ (lt-ltb from end o) in
          t ∙ sym (inside (from / 512) (from / 512 + (past - from / 512)) q (omega arith) (omega arith))
      | inr f ↦
          f ∙ sym (false_from_ne_true _ (λ t.
          let P : ℕ → Type 0 = λ n. q < n in
          let p = and_parts (leb (from / 512) q) (ltb q (from / 512 + (past - from / 512))) t in
          let a : from / 512 ≤ q = leb-true (from / 512) q p.0 in
          let b : q < from / 512 + (past - from / 512) = ltb-true q (from / 512 + (past - from / 512)) p.1 in
          let c : q < past = omega arith in
          false≢true (sym f ∙ touches_between from end q a (subst P last c))))
    ]

-- a mark where a granule may have been added
all_marked : (h t : Bool) → cond (not h && t) true h ≡ (h || t)
all_marked true true = refl
all_marked true false = refl
all_marked false true = refl
all_marked false false = refl

has_added : (old new : Entries) (q : ℕ) (b : Bool) (v : List ℕ) → granule_at new q ≡ cond b (Some v) (granule_at old q) → has_granule new q ≡ cond b true (has_granule old q)
unfolding has_granule
has_added old new q true v e = rw e refl
has_added old new q false v e = rw e refl

byte_added : (old new : Entries) (k : ℕ) (b : Bool) (v : List ℕ) → granule_at new (k / 512) ≡ cond b (Some v) (granule_at old (k / 512)) → byte_at new k ≡ cond b (get_or v (k % 512) 0) (byte_at old k)
unfolding byte_at
byte_added old new k true v e = rw e refl
byte_added old new k false v e = rw e refl

-- granules of zeros were added where the interval had none
pub IsMarked-added : (old new : Entries) (from end past : ℕ) (ns : List ℕ) → past ≡ cond (ltb from end) ((end + 511) / 512) (from / 512) → ns ≡ filter (λ g. not (has_granule old g)) (range_with_len (from / 512) (past - from / 512))
    → ((q : ℕ) → granule_at new q ≡ cond (list_any (λ g. eqb g q) ns) (Some (replicate 512 0)) (granule_at old q)) → IsMarked old new from end
IsMarked-added old new from end past ns last is added =
    let any : (q : ℕ) → list_any (λ g. eqb g q) ns ≡ (not (has_granule old q) && touches from end q) =
    λ q. ap (list_any (λ g. eqb g q)) is
    ∙ listed_missing (λ g. not (has_granule old g)) q (range_with_len (from / 512) (past - from / 512))
    ∙ ap (λ b. not (has_granule old q) && b) (any_in_range (from / 512) (past - from / 512) q ∙ sym (touches_is from end past q last)) in
    record {
      marks = λ q. has_added old new q (list_any (λ g. eqb g q) ns) (replicate 512 0) (added q) ∙ ap (λ b. cond b true (has_granule old q)) (any q) ∙ all_marked (has_granule old q) (touches from end q);
      bytes = λ k.
          let b = list_any (λ g. eqb g (k / 512)) ns in
          byte_added old new k b (replicate 512 0) (added (k / 512)) ∙ elim (cases_Bool b) [
            | inl t ↦
                let h : has_granule old (k / 512) ≡ false = not-true (has_granule old (k / 512)) (and_parts (not (has_granule old (k / 512))) (touches from end (k / 512)) (sym (any (k / 512)) ∙ t)).0 in
                cond-true b _ (byte_at old k) t ∙ zero_read 512 (k % 512) ∙ sym (byte_at-none old k h)
            | inr f ↦ cond-false b _ (byte_at old k) f
          ];
    }

-- a granule that is missing has no entry
pub missing_absent : (old : Entries) (ns ms : List ℕ) → ns ≡ filter (λ g. not (has_granule old g)) ms → All (λ g. has_granule old g ≡ false) ns
missing_absent old ns ms is =
    let P : ℕ → Type 0 = λ g. not (has_granule old g) ≡ true in
    let Q : ℕ → Type 0 = λ g. has_granule old g ≡ false in
    rw is (All-weaker P Q (λ g t. not-true (has_granule old g) t) (filter (λ g. not (has_granule old g)) ms) (filter_passes (λ g. not (has_granule old g)) ms))

-- a fact of an Ok from another, and one that holds either way
pub on_ok : {X E A B : Type 0} (r : Result X E) → (A → B) → OnOk r A → OnOk r B
on_ok (Ok x) f a = f a
on_ok (Err e) f a = tt

pub on_err : {X E A B : Type 0} (r : Result X E) → (A → B) → OnErr r A → OnErr r B
on_err (Ok x) f a = tt
on_err (Err e) f a = f a

pub either_way : {X E A B C : Type 0} (r : Result X E) → OnOk r A → OnErr r B → (A → C) → (B → C) → C
either_way (Ok x) a b f g = f a
either_way (Err e) a b f g = g b

-- whole granules stay whole where granules of zeros are added
pub IsSized-added : (old new : Entries) (ns : List ℕ) → IsSized old → ((q : ℕ) → granule_at new q ≡ cond (list_any (λ g. eqb g q) ns) (Some (replicate 512 0)) (granule_at old q)) → IsSized new
unfolding IsSized
IsSized-added old new ns sized added q =
    let P : Option (List ℕ) → Type 0 = λ o. IfSome o (λ v. length v ≡ 512) in
    subst P (sym (added q)) (elim (list_any (λ g. eqb g q) ns) as (λ b. P (cond b (Some (replicate 512 0)) (granule_at old q))) [ true ↦ zeros_whole | false ↦ sized q ])

-- whole granules stay whole where nothing changes
pub IsSized-same : (old new : Entries) → IsSame old new → IsSized old → IsSized new
unfolding IsSized
IsSized-same old new same sized q =
    let P : Option (List ℕ) → Type 0 = λ o. IfSome o (λ v. length v ≡ 512) in
    subst P (sym (same q)) (sized q)
