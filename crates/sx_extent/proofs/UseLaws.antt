-- Laws of the definition: how many granules are marked.
use Rattle.std.proofs.Common.{◌≡◌, ℕ, ◌+◌, ◌-◌, ◌≤◌, ◌<◌, max, Bool, true, false, not, ◌&&◌, ◌||◌, cond, List, [], ◌∷◌, length, map, refl, sym, ap, ◌∙◌, inl, inr, arith}
use Rattle.std.specs.List.{range_with_len, filter, count_by}
use Rattle.std.proofs.lemmas.List.{ext_get_or, length-append, get_or_past}
use Rattle.std.proofs.lemmas.List.Sums.{length-filter, count_by-le-length}
use Rattle.std.proofs.lemmas.List.Elements.{filter-append, filter_agree}
use Rattle.std.proofs.lemmas.Bool.{cases_lt}
use Rattle.sx_extent.specs.Ranges.{SparseFile, IsWellFormed, is_marked, granule_count, most_bytes, covers, touches, marks_by, blank, update, write, extend, clear, resize, used, fresh}
use Rattle.sx_extent.proofs.FileLemmas.{length-marks_by, get_or-marks_by}
use Rattle.sx_extent.proofs.FileLaws.{length_resize, whole_resize, marked_by}
use Rattle.sx_extent.proofs.KeyLemmas.{length_filter_map, filter_none, filter_longer, range_split, untouched}

-- the marks of a file, as a test of its granules
own_marks : (f : SparseFile) → marks_by (is_marked f) (length f.marks) ≡ f.marks
unfolding is_marked
own_marks f = ext_get_or false (marks_by (is_marked f) (length f.marks)) f.marks (length-marks_by (is_marked f) (length f.marks)) (λ g b.
    let l : g < length f.marks = rw (← length-marks_by (is_marked f) (length f.marks)) b in
    get_or-marks_by (is_marked f) (length f.marks) g false l)

-- how many of the first granules pass a test
count_marks : (t : ℕ → Bool) (n : ℕ) → count_by (λ m. m) (marks_by t n) ≡ length (filter t (range_with_len 0 n))
unfolding marks_by
count_marks t n = sym (length-filter (λ m. m) (map t (range_with_len 0 n))) ∙ length_filter_map t (range_with_len 0 n)

used_count : (f : SparseFile) → used f ≡ length (filter (is_marked f) (range_with_len 0 (length f.marks)))
unfolding used
used_count f = ap (count_by (λ m. m)) (sym (own_marks f)) ∙ count_marks (is_marked f) (length f.marks)

-- what one test or another keeps
either_pick : (p q : Bool) (x : ℕ) (a b c : List ℕ) → length a ≡ length b + length c → length (cond (p || q) (x ∷ a) a) ≡ length (cond p (x ∷ b) b) + length (cond (q && not p) (x ∷ c) c)
either_pick true true x a b c h = omega arith
either_pick true false x a b c h = omega arith
either_pick false true x a b c h = omega arith
either_pick false false x a b c h = h

count_either : (p q : ℕ → Bool) (xs : List ℕ) → length (filter (λ x. p x || q x) xs) ≡ length (filter p xs) + length (filter (λ x. q x && not (p x)) xs)
count_either p q [] = refl
count_either p q (x ∷ xs) = either_pick (p x) (q x) x (filter (λ y. p y || q y) xs) (filter p xs) (filter (λ y. q y && not (p y)) xs) (count_either p q xs)

-- past the end of a file no granule is marked
unmarked_past : (f : SparseFile) (g : ℕ) → length f.marks ≤ g → is_marked f g ≡ false
unfolding is_marked
unmarked_past f g l = get_or_past f.marks g false l

pub used_blank : (n : ℕ) → used (blank n) ≡ 0
unfolding used blank
used_blank n = count_marks (λ g. false) (granule_count n) ∙ ap length (filter_none (range_with_len 0 (granule_count n)))

pub used_most : (f : SparseFile) → IsWellFormed f → used f ≤ granule_count (length f.bytes)
unfolding used
used_most f whole = rw (← whole.marks) (count_by-le-length (λ marked. marked) f.marks)

-- an update marks the fresh granules and no others
pub used_update : (f : SparseFile) (at : ℕ) (piece : List ℕ) → at + length piece ≤ length f.bytes → IsWellFormed f → used (update f at piece) ≡ used f + fresh f at (at + length piece)
unfolding used update fresh
used_update f at piece fits whole =
    let end : ℕ = at + length piece in
    let c : List ℕ = range_with_len 0 (length f.marks) in
    let t : ℕ → Bool = touches at end in
    let new : ℕ → Bool = λ g. t g && not (is_marked f g) in
    let n : length f.marks ≡ granule_count (length f.bytes) = whole.marks in
    count_marks (λ g. is_marked f g || t g) (length f.marks)
    ∙ count_either (is_marked f) t c
    ∙ ap (λ j. j + length (filter new c)) (sym (used_count f))
    ∙ ap (λ xs. used f + length xs) (filter_longer new (granule_count end) (length f.marks) (omega arith) (λ g l. ap (λ b. b && not (is_marked f g)) (untouched at end g l)))
    ∙ ap (λ j. used f + j) (length-filter new (range_with_len 0 (granule_count end)))

-- what passes two tests
fewer_pick : (p q : Bool) (x : ℕ) (a b : List ℕ) → length a ≤ length b → length (cond (p && q) (x ∷ a) a) ≤ length (cond p (x ∷ b) b)
fewer_pick true true x a b h = omega arith
fewer_pick true false x a b h = omega arith
fewer_pick false q x a b h = h

count_fewer : (p q : ℕ → Bool) (xs : List ℕ) → length (filter (λ x. p x && q x) xs) ≤ length (filter p xs)
count_fewer p q [] = omega arith
count_fewer p q (x ∷ xs) = fewer_pick (p x) (q x) x (filter (λ y. p y && q y) xs) (filter p xs) (count_fewer p q xs)

-- a clear marks nothing
pub used_clear : (f : SparseFile) (from end : ℕ) → used (clear f from end) ≤ used f
unfolding used clear
used_clear f from end =
    let c : List ℕ = range_with_len 0 (length f.marks) in
    let a = count_marks (λ g. is_marked f g && not (covers from end (length f.bytes) g)) (length f.marks) in
    let b = count_fewer (is_marked f) (λ g. not (covers from end (length f.bytes) g)) c in
    let d = used_count f in
    omega arith

-- a resize marks nothing
pub used_resize : (f : SparseFile) (n : ℕ) → used (resize f n) ≤ used f
unfolding used resize
used_resize f n =
    let p : ℕ → Bool = is_marked f in
    let c : ℕ = granule_count n in
    let k : ℕ = length f.marks in
    let a : count_by (λ m. m) (marks_by p c) ≡ length (filter p (range_with_len 0 c)) = count_marks p c in
    let b : used f ≡ length (filter p (range_with_len 0 k)) = used_count f in
    elim (cases_lt c k) [
      | inl l ↦
          let e : c + (k - c) ≡ k = omega arith in
          let s : length (filter p (range_with_len 0 k)) ≡ length (filter p (range_with_len 0 c)) + length (filter p (range_with_len (0 + c) (k - c))) =
          ap (λ j. length (filter p (range_with_len 0 j))) (sym e) ∙ ap (λ xs. length (filter p xs)) (range_split 0 c (k - c)) ∙ ap length (filter-append p (range_with_len 0 c) (range_with_len (0 + c) (k - c))) ∙ length-append (filter p (range_with_len 0 c)) (filter p (range_with_len (0 + c) (k - c))) in
          omega arith
      | inr l ↦
          let z : filter p (range_with_len 0 c) ≡ filter p (range_with_len 0 k) = filter_longer p k c (omega arith) (λ g h. unmarked_past f g h) in
          let s : length (filter p (range_with_len 0 c)) ≡ length (filter p (range_with_len 0 k)) = ap length z in
          omega arith
    ]

-- growth marks nothing and takes no mark
pub used_grown : (f : SparseFile) (n : ℕ) → IsWellFormed f → length f.bytes ≤ n → used (resize f n) ≡ used f
unfolding used resize
used_grown f n whole grows =
    let m : length f.marks ≡ granule_count (length f.bytes) = whole.marks in
    count_marks (is_marked f) (granule_count n)
    ∙ ap length (filter_longer (is_marked f) (length f.marks) (granule_count n) (omega arith) (λ g h. unmarked_past f g h))
    ∙ sym (used_count f)

-- each granule of a file that grows is marked where it was
grown_mark : (f : SparseFile) (n g : ℕ) → IsWellFormed f → length f.bytes ≤ n → is_marked (resize f n) g ≡ is_marked f g
unfolding resize
grown_mark f n g whole grows =
    let m : length f.marks ≡ granule_count (length f.bytes) = whole.marks in
    let r : length (marks_by (is_marked f) (granule_count n)) ≡ granule_count n = length-marks_by (is_marked f) (granule_count n) in
    elim (cases_lt g (granule_count n)) [
      | inl l ↦ marked_by (resize f n) (is_marked f) (granule_count n) g refl l
      | inr l ↦ unmarked_past (resize f n) g (omega arith) ∙ sym (unmarked_past f g (omega arith))
    ]

pub fresh_grown : (f : SparseFile) (n from end : ℕ) → IsWellFormed f → length f.bytes ≤ n → fresh (resize f n) from end ≡ fresh f from end
unfolding fresh
fresh_grown f n from end whole grows =
    let old : ℕ → Bool = λ g. touches from end g && not (is_marked f g) in
    let new : ℕ → Bool = λ g. touches from end g && not (is_marked (resize f n) g) in
    let c : List ℕ = range_with_len 0 (granule_count end) in
    sym (length-filter new c)
    ∙ ap length (filter_agree new old (λ g. ap (λ b. touches from end g && not b) (grown_mark f n g whole grows)) c)
    ∙ length-filter old c

pub used_write : (f : SparseFile) (at : ℕ) (piece : List ℕ) → at + length piece ≤ most_bytes → IsWellFormed f → used (write f at piece) ≡ used f + fresh f at (at + length piece)
unfolding write extend
used_write f at piece limit whole =
    let end : ℕ = at + length piece in
    let n : ℕ = max (length f.bytes) end in
    let h : length f.bytes ≤ most_bytes = whole.limit in
    let e : length (resize f n).bytes ≡ n = length_resize f n in
    used_update (resize f n) at piece (omega arith) (whole_resize f n (omega arith) whole)
    ∙ ap (λ j. j + fresh (resize f n) at end) (used_grown f n whole (omega arith))
    ∙ ap (λ j. used f + j) (fresh_grown f n at end whole (omega arith))
