-- Laws of the definition: lengths, and that files stay well formed.
use Rattle.std.proofs.Common.{◌≡◌, ℕ, ◌+◌, ◌-◌, ◌/◌, ◌≤◌, ◌<◌, min, max, Bool, true, false, not, ◌&&◌, ◌||◌, cond, ltb, leb, List, ◌++◌, length, get_or, take, drop, replicate, refl, sym, ap, ◌∙◌, inl, inr, arith}
use Rattle.std.proofs.lemmas.List.{length-append, get_or_append_left, get_or-append_right, get_or-take, length-take, length-drop, length-replicate}
use Rattle.std.proofs.lemmas.Bool.{cases_lt, cond-true, cond-false, false≢true, or_parts, and_cases, not-false}
use Rattle.sx_extent.specs.Ranges.{SparseFile, IsWellFormed, is_marked, granule_count, most_bytes, covers, touches, marks_by, blank, update, write, extend, clear, resize, cut}
use Rattle.sx_extent.proofs.GranuleLemmas.{get_or-replaced, length-replaced, outside, inside}
use Rattle.sx_extent.proofs.GranuleSteps.{touches_at, covers_true, zero_read}
use Rattle.sx_extent.proofs.FileLemmas.{length-marks_by, get_or-marks_by}

-- ---- lengths

pub length_blank : (n : ℕ) → length (blank n).bytes ≡ n
unfolding blank
length_blank n = length-replicate {A = ℕ} n 0

pub length_update : (f : SparseFile) (at : ℕ) (piece : List ℕ) → at + length piece ≤ length f.bytes → length (update f at piece).bytes ≡ length f.bytes
unfolding update
length_update f at piece fits = length-replaced f.bytes piece at fits

-- the bytes of a cleared file are those of one in which zeros replace a part
cleared_bytes : (f : SparseFile) (from end : ℕ) → from ≤ end → (clear f from end).bytes ≡ take from f.bytes ++ replicate (end - from) 0 ++ drop (from + length (replicate {A = ℕ} (end - from) 0)) f.bytes
unfolding clear
cleared_bytes f from end order =
    let l : length (replicate {A = ℕ} (end - from) 0) ≡ end - from = length-replicate {A = ℕ} (end - from) 0 in
    let e : end ≡ from + length (replicate {A = ℕ} (end - from) 0) = omega arith in
    ap (λ j. take from f.bytes ++ replicate (end - from) 0 ++ drop j f.bytes) e

pub length_clear : (f : SparseFile) (from end : ℕ) → from ≤ end → end ≤ length f.bytes → length (clear f from end).bytes ≡ length f.bytes
length_clear f from end order fits =
    let l : length (replicate {A = ℕ} (end - from) 0) ≡ end - from = length-replicate {A = ℕ} (end - from) 0 in
    ap length (cleared_bytes f from end order) ∙ length-replaced f.bytes (replicate (end - from) 0) from (omega arith)

length_resized : (f : SparseFile) (n : ℕ) → length (take n f.bytes ++ replicate (n - length f.bytes) 0) ≡ n
length_resized f n =
    let a : length (take n f.bytes) ≡ min n (length f.bytes) = length-take n f.bytes in
    let b : length (replicate {A = ℕ} (n - length f.bytes) 0) ≡ n - length f.bytes = length-replicate {A = ℕ} (n - length f.bytes) 0 in
    length-append (take n f.bytes) (replicate (n - length f.bytes) 0) ∙ omega arith

pub length_resize : (f : SparseFile) (n : ℕ) → length (resize f n).bytes ≡ n
unfolding resize
length_resize f n = length_resized f n

pub length_extend : (f : SparseFile) (n : ℕ) → length (extend f n).bytes ≡ max (length f.bytes) n
unfolding extend
length_extend f n = length_resize f (max (length f.bytes) n)

pub length_write : (f : SparseFile) (at : ℕ) (piece : List ℕ) → length (write f at piece).bytes ≡ max (length f.bytes) (at + length piece)
unfolding write
length_write f at piece =
    let e : length (extend f (at + length piece)).bytes ≡ max (length f.bytes) (at + length piece) = length_extend f (at + length piece) in
    length_update (extend f (at + length piece)) at piece (omega arith) ∙ e

pub length_cut : (f : SparseFile) (from end : ℕ) → from ≤ end → end ≤ length f.bytes → length (cut f from end) ≡ end - from
length_cut f from end order fits = length-take (end - from) (drop from f.bytes) ∙ ap (min (end - from)) (length-drop from f.bytes) ∙ omega arith

-- ---- files stay well formed

-- a mark of marks that a test gives
pub marked_by : (f : SparseFile) (t : ℕ → Bool) (n g : ℕ) → f.marks ≡ marks_by t n → g < n → is_marked f g ≡ t g
unfolding is_marked
marked_by f t n g is l = ap (λ ms. get_or ms g false) is ∙ get_or-marks_by t n g false l

pub whole_blank : (n : ℕ) → n ≤ most_bytes → IsWellFormed (blank n)
unfolding blank
whole_blank n l = record {
  limit = rw (length-replicate {A = ℕ} n 0) l;
  marks = length-marks_by (λ g. false) (granule_count n) ∙ ap granule_count (sym (length-replicate {A = ℕ} n 0));
  zeros = λ k b u. zero_read n k;
}

-- the granule of a byte is one of the file's
own_granule : (f : SparseFile) (k : ℕ) → IsWellFormed f → k < length f.bytes → k / 512 < length f.marks
own_granule f k whole l = let e : length f.marks ≡ granule_count (length f.bytes) = whole.marks in omega arith

pub whole_update : (f : SparseFile) (at : ℕ) (piece : List ℕ) → at + length piece ≤ length f.bytes → IsWellFormed f → IsWellFormed (update f at piece)
unfolding update
whole_update f at piece fits whole =
    let n : length (take at f.bytes ++ piece ++ drop (at + length piece) f.bytes) ≡ length f.bytes = length-replaced f.bytes piece at fits in
    let end : ℕ = at + length piece in
    record {
      limit = rw n whole.limit;
      marks = length-marks_by (λ g. is_marked f g || touches at end g) (length f.marks) ∙ whole.marks ∙ ap granule_count (sym n);
      zeros = λ k l u.
          let b : k < length f.bytes = rw n at l in
          let m = marked_by (update f at piece) (λ g. is_marked f g || touches at end g) (length f.marks) (k / 512) refl (own_granule f k whole b) in
          let p = or_parts (is_marked f (k / 512)) (touches at end (k / 512)) (sym m ∙ u) in
          get_or-replaced f.bytes piece at k fits
          ∙ cond-false _ _ (get_or f.bytes k 0) (outside at end k (λ i j. false≢true (sym p.1 ∙ touches_at at end k i j)))
          ∙ whole.zeros k b p.0;
    }

same_both : (b : Bool) → ◌≡◌ {A = ℕ} (cond b 0 0) 0
same_both true = refl
same_both false = refl

-- a byte after zeros replaced a part
cleared_byte : (f : SparseFile) (from end k : ℕ) → from ≤ end → end ≤ length f.bytes → get_or (clear f from end).bytes k 0 ≡ cond (leb from k && ltb k end) 0 (get_or f.bytes k 0)
cleared_byte f from end k order fits =
    let zeros : List ℕ = replicate (end - from) 0 in
    let l : length zeros ≡ end - from = length-replicate {A = ℕ} (end - from) 0 in
    let e : from + length zeros ≡ end = omega arith in
    ap (λ bs. get_or bs k 0) (cleared_bytes f from end order)
    ∙ get_or-replaced f.bytes zeros from k (omega arith)
    ∙ ap (λ j. cond (leb from k && ltb k j) (get_or zeros (k - from) 0) (get_or f.bytes k 0)) e
    ∙ ap (λ x. cond (leb from k && ltb k end) x (get_or f.bytes k 0)) (zero_read (end - from) (k - from))

clear_marks : (f : SparseFile) (from end : ℕ) → (clear f from end).marks ≡ marks_by (λ g. is_marked f g && not (covers from end (length f.bytes) g)) (length f.marks)
unfolding clear
clear_marks f from end = refl

pub whole_clear : (f : SparseFile) (from end : ℕ) → from ≤ end → end ≤ length f.bytes → IsWellFormed f → IsWellFormed (clear f from end)
whole_clear f from end order fits whole =
    let n : length (clear f from end).bytes ≡ length f.bytes = length_clear f from end order fits in
    let t : ℕ → Bool = λ g. is_marked f g && not (covers from end (length f.bytes) g) in
    record {
      limit = rw n whole.limit;
      marks = ap length (clear_marks f from end) ∙ length-marks_by t (length f.marks) ∙ whole.marks ∙ ap granule_count (sym n);
      zeros = λ k l u.
          let b : k < length f.bytes = rw n at l in
          let g : ℕ = k / 512 in
          let m = marked_by (clear f from end) t (length f.marks) g (clear_marks f from end) (own_granule f k whole b) in
          cleared_byte f from end k order fits ∙ elim (and_cases (is_marked f g) (not (covers from end (length f.bytes) g)) (sym m ∙ u)) [
            | inl h ↦ ap (λ x. cond (leb from k && ltb k end) 0 x) (whole.zeros k b h) ∙ same_both (leb from k && ltb k end)
            | inr h ↦
                let c = covers_true from end (length f.bytes) g (not-false (covers from end (length f.bytes) g) h) in
                cond-true (leb from k && ltb k end) 0 (get_or f.bytes k 0) (inside from end k (omega arith) (omega arith))
          ];
    }

pub whole_resize : (f : SparseFile) (n : ℕ) → n ≤ most_bytes → IsWellFormed f → IsWellFormed (resize f n)
unfolding resize
whole_resize f n limit whole =
    let lr : length (take n f.bytes ++ replicate (n - length f.bytes) 0) ≡ n = length_resized f n in
    record {
      limit = rw lr limit;
      marks = length-marks_by (is_marked f) (granule_count n) ∙ ap granule_count (sym lr);
      zeros = λ k l u.
          let b : k < n = rw lr at l in
          let g : k / 512 < granule_count n = omega arith in
          let m : is_marked f (k / 512) ≡ false = sym (marked_by (resize f n) (is_marked f) (granule_count n) (k / 512) refl g) ∙ u in
          let t : length (take n f.bytes) ≡ min n (length f.bytes) = length-take n f.bytes in
          elim (cases_lt k (length f.bytes)) [
            | inl h ↦ get_or_append_left (take n f.bytes) (replicate (n - length f.bytes) 0) 0 k (omega arith) ∙ get_or-take n f.bytes k 0 b ∙ whole.zeros k h m
            | inr h ↦ get_or-append_right (take n f.bytes) (replicate (n - length f.bytes) 0) (min n (length f.bytes)) k 0 t (omega arith) ∙ zero_read (n - length f.bytes) (k - min n (length f.bytes))
          ];
    }

pub whole_write : (f : SparseFile) (at : ℕ) (piece : List ℕ) → at + length piece ≤ most_bytes → IsWellFormed f → IsWellFormed (write f at piece)
unfolding write extend
whole_write f at piece limit whole =
    let l : length f.bytes ≤ most_bytes = whole.limit in
    let n : ℕ = max (length f.bytes) (at + length piece) in
    let e : length (resize f n).bytes ≡ n = length_resize f n in
    whole_update (resize f n) at piece (omega arith) (whole_resize f n (omega arith) whole)
