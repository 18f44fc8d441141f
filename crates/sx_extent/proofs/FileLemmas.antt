-- The file that a map keeps, and what a change of the map makes of it.
use Rattle.std.proofs.Common.{◌≡◌, ℕ, ◌+◌, ◌-◌, ◌*◌, ◌/◌, ◌%◌, ◌≤◌, ◌<◌, min, max, Bool, true, false, not, ◌&&◌, ◌||◌, cond, ltb, leb, List, [], ◌++◌, length, get_or, take, drop, replicate, Option, refl, sym, ap, ◌∙◌, subst, inl, inr, arith, zero-add}
use Rattle.std.specs.Option.{is_some, IfSome, unwrap_or}
use Rattle.std.proofs.lemmas.List.{ext_get_or, length-append, get_or_append_left, get_or-append_right, get_or-take, get_or-drop, length-take, length-drop, length-replicate, get_or-replicate, get_or_past}
use Rattle.std.proofs.lemmas.List.FromFn.{length-map-range_with_len, get_or-map-range_with_len}
use Rattle.std.proofs.lemmas.Bool.{cases_lt, cond-true, cond-false, false_from_ne_true, false≢true, or_cases, and_parts, and_from, le-leb, not-true}
use Rattle.sx_extent.specs.Ranges.{SparseFile, IsWellFormed, is_marked, granule_count, most_bytes, covers, touches, marks_by, blank, update, write, extend, clear, resize, cut}
use Rattle.sx_extent.specs.Granules.{Entries, has_granule, byte_at, bytes_from, file_of, IsSized, IsKept, IsSame, IsWritten, IsMarked, IsUpdated, IsErased, is_between}
use Rattle.sx_extent.proofs.GranuleLemmas.{same_bytes, length-bytes_from, get_or-bytes_from, byte_at-none, get_or-replaced, length-replaced, outside, inside}
use Rattle.sx_extent.proofs.GranuleSteps.{touches_true, covers_true, zero_read}

-- ---- the bytes and the marks

-- the bytes from the first on
pub get_or-whole : (es : Entries) (n k : ℕ) → k < n → get_or (bytes_from es 0 n) k 0 ≡ byte_at es k
get_or-whole es n k l = get_or-bytes_from es 0 n k l ∙ ap (byte_at es) (zero-add k)

pub same_whole : (xs : List ℕ) (es : Entries) (n : ℕ) → length xs ≡ n → ((k : ℕ) → k < n → get_or xs k 0 ≡ byte_at es k) → xs ≡ bytes_from es 0 n
same_whole xs es n l h = same_bytes xs es 0 n l (λ k b. h k b ∙ ap (byte_at es) (sym (zero-add k)))

pub length-marks_by : (test : ℕ → Bool) (n : ℕ) → length (marks_by test n) ≡ n
unfolding marks_by
length-marks_by test n = length-map-range_with_len test 0 n

pub get_or-marks_by : (test : ℕ → Bool) (n g : ℕ) (d : Bool) → g < n → get_or (marks_by test n) g d ≡ test g
unfolding marks_by
get_or-marks_by test n g d l = get_or-map-range_with_len test 0 n g g d l (zero-add g)

-- two tests that agree give the same marks
pub same_marks : (t u : ℕ → Bool) (n : ℕ) → ((g : ℕ) → g < n → t g ≡ u g) → marks_by t n ≡ marks_by u n
same_marks t u n h =
    ext_get_or false (marks_by t n) (marks_by u n) (length-marks_by t n ∙ sym (length-marks_by u n)) (λ g b.
    let l : g < n = rw (← length-marks_by t n) b in
    get_or-marks_by t n g false l ∙ h g l ∙ sym (get_or-marks_by u n g false l))

-- ---- a file

pub file_bytes : (n : ℕ) (es : Entries) → (file_of n es).bytes ≡ bytes_from es 0 n
unfolding file_of
file_bytes n es = refl

pub file_marks : (n : ℕ) (es : Entries) → (file_of n es).marks ≡ marks_by (has_granule es) (granule_count n)
unfolding file_of
file_marks n es = refl

pub file_is : (f : SparseFile) (n : ℕ) (es : Entries) → bytes_from es 0 n ≡ f.bytes → marks_by (has_granule es) (granule_count n) ≡ f.marks → file_of n es ≡ f
unfolding file_of
file_is f n es b m = λ i. record { bytes = b i; marks = m i }

pub file_length : (n : ℕ) (es : Entries) → length (file_of n es).bytes ≡ n
file_length n es = ap length (file_bytes n es) ∙ length-bytes_from es 0 n

pub mark_count : (n : ℕ) (es : Entries) → length (file_of n es).marks ≡ granule_count n
mark_count n es = ap length (file_marks n es) ∙ length-marks_by (has_granule es) (granule_count n)

-- a mark of the file, where it has that granule and past its end
pub mark_within : (n : ℕ) (es : Entries) (g : ℕ) → g < granule_count n → is_marked (file_of n es) g ≡ has_granule es g
unfolding is_marked
mark_within n es g l = ap (λ ms. get_or ms g false) (file_marks n es) ∙ get_or-marks_by (has_granule es) (granule_count n) g false l

pub mark_past : (n : ℕ) (es : Entries) (g : ℕ) → granule_count n ≤ g → is_marked (file_of n es) g ≡ false
unfolding is_marked
mark_past n es g l = get_or_past (file_of n es).marks g false (rw (mark_count n es) l)

-- a mark is one of the map's entries
pub mark_is : (n : ℕ) (es : Entries) (g : ℕ) → IsKept n es → is_marked (file_of n es) g ≡ has_granule es g
mark_is n es g kept = elim (cases_lt g (granule_count n)) [
  | inl l ↦ mark_within n es g l
  | inr l ↦ mark_past n es g l ∙ sym (false_from_ne_true (has_granule es g) (λ t. let w : 512 * g < n = kept.within g t in omega arith))
]

-- every file that a map keeps is well formed
pub file_whole : (n : ℕ) (es : Entries) → IsKept n es → IsWellFormed (file_of n es)
file_whole n es kept = record {
  limit = rw (file_length n es) kept.limit;
  marks = mark_count n es ∙ ap granule_count (sym (file_length n es));
  zeros = λ k l u.
      let b : k < n = rw (file_length n es) at l in
      ap (λ bs. get_or bs k 0) (file_bytes n es) ∙ get_or-whole es n k b ∙ byte_at-none es k (sym (mark_is n es (k / 512) kept) ∙ u);
}

-- two maps with the same granules keep the same file
pub file_same : (n : ℕ) (es fs : Entries) → IsSame es fs → file_of n fs ≡ file_of n es
unfolding has_granule byte_at
file_same n es fs same =
    file_is (file_of n es) n fs
    (sym (file_bytes n es ∙ same_whole (bytes_from es 0 n) fs n (length-bytes_from es 0 n) (λ k l. get_or-whole es n k l ∙ rw (same (k / 512)) refl)))
    (same_marks (has_granule fs) (has_granule es) (granule_count n) (λ g l. rw (same g) refl) ∙ sym (file_marks n es))

-- what is kept stays so
pub kept_same : (n : ℕ) (es fs : Entries) → IsSame es fs → IsKept n es → IsKept n fs
unfolding has_granule byte_at IsSized
kept_same n es fs same kept = record {
  limit = kept.limit;
  sized = λ g. let P : Option (List ℕ) → Type 0 = λ o. IfSome o (λ v. length v ≡ 512) in subst P (sym (same g)) (kept.sized g);
  within = λ g t. kept.within g (ap is_some (sym (same g)) ∙ t);
  zeros = λ k l. ap (λ o. get_or (unwrap_or o []) (k % 512) 0) (same (k / 512)) ∙ kept.zeros k l;
}

-- ---- a new file

pub file_blank : (n : ℕ) → file_of n [] ≡ blank n
unfolding blank has_granule byte_at
file_blank n =
    file_is (blank n) n [] (sym (same_whole (replicate n 0) [] n (length-replicate {A = ℕ} n 0) (λ k l. get_or-replicate n k 0 0 l))) (same_marks (has_granule []) (λ g. false) (granule_count n) (λ g l. refl))

pub kept_blank : (n : ℕ) → n ≤ most_bytes → IsKept n []
unfolding has_granule byte_at IsSized
kept_blank n l = record { limit = l; sized = λ g. tt; within = λ g t. absurd (false≢true t); zeros = λ k b. refl }

-- ---- an update

-- a mark and then a write
pub updated : (old mid new : Entries) (at : ℕ) (piece : List ℕ) → IsMarked old mid at (at + length piece) → IsWritten mid new at piece → IsUpdated old new at piece
updated old mid new at piece marked written = record {
  marks = λ g. written.marks g ∙ marked.marks g;
  bytes = λ k. written.bytes k ∙ ap (λ x. cond (leb at k && ltb k (at + length piece)) (get_or piece (k - at) 0) x) (marked.bytes k);
}

pub file_updated : (n : ℕ) (old new : Entries) (at : ℕ) (piece : List ℕ) → at + length piece ≤ n → IsKept n old → IsUpdated old new at piece → file_of n new ≡ update (file_of n old) at piece
unfolding update
file_updated n old new at piece fits kept updated =
    let v : List ℕ = bytes_from old 0 n in
    let lv : length v ≡ n = length-bytes_from old 0 n in
    file_is (update (file_of n old) at piece) n new
    (sym (ap (λ bs. take at bs ++ piece ++ drop (at + length piece) bs) (file_bytes n old)
    ∙ same_whole (take at v ++ piece ++ drop (at + length piece) v) new n (length-replaced v piece at (rw lv fits) ∙ lv) (λ k l.
    get_or-replaced v piece at k (rw lv fits)
    ∙ ap (λ x. cond (leb at k && ltb k (at + length piece)) (get_or piece (k - at) 0) x) (get_or-whole old n k l)
    ∙ sym (updated.bytes k))))
    (same_marks (has_granule new) (λ g. is_marked (file_of n old) g || touches at (at + length piece) g) (granule_count n) (λ g l.
    updated.marks g ∙ ap (λ b. b || touches at (at + length piece) g) (sym (mark_is n old g kept)))
    ∙ ap (marks_by (λ g. is_marked (file_of n old) g || touches at (at + length piece) g)) (sym (mark_count n old)))

-- the length of the file that a map keeps
pub self_length : (n : ℕ) (es : Entries) (f : SparseFile) → file_of n es ≡ f → length f.bytes ≡ n
self_length n es f e = ap (λ g. length g.bytes) (sym e) ∙ file_length n es

pub kept_updated : (n : ℕ) (old new : Entries) (at : ℕ) (piece : List ℕ) → at + length piece ≤ n → IsKept n old → IsUpdated old new at piece → IsSized new → IsKept n new
kept_updated n old new at piece fits kept updated sized = record {
  limit = kept.limit;
  sized = sized;
  within = λ g t. elim (or_cases (has_granule old g) (touches at (at + length piece) g) (sym (updated.marks g) ∙ t)) [
    | inl h ↦ kept.within g h
    | inr h ↦ let a = touches_true at (at + length piece) g h in omega arith
  ];
  zeros = λ k l. updated.bytes k ∙ cond-false _ _ (byte_at old k) (outside at (at + length piece) k (λ a b. omega arith)) ∙ kept.zeros k l;
}

-- ---- a clear

pub file_cleared : (n : ℕ) (old new : Entries) (from end : ℕ) → from ≤ end → end ≤ n → IsKept n old → IsErased old new from end n → file_of n new ≡ clear (file_of n old) from end
unfolding clear
file_cleared n old new from end order fits kept erased =
    let v : List ℕ = bytes_from old 0 n in
    let zeros : List ℕ = replicate (end - from) 0 in
    let lv : length v ≡ n = length-bytes_from old 0 n in
    let lz : length zeros ≡ end - from = length-replicate {A = ℕ} (end - from) 0 in
    let e : from + length zeros ≡ end = omega arith in
    let b : take from v ++ zeros ++ drop end v ≡ bytes_from new 0 n =
    same_whole (take from v ++ zeros ++ drop end v) new n
    (ap (λ j. length (take from v ++ zeros ++ drop j v)) (sym e) ∙ length-replaced v zeros from (omega arith) ∙ lv)
    (λ k l. ap (λ j. get_or (take from v ++ zeros ++ drop j v) k 0) (sym e)
    ∙ get_or-replaced v zeros from k (omega arith)
    ∙ ap (λ j. cond (leb from k && ltb k j) (get_or zeros (k - from) 0) (get_or v k 0)) e
    ∙ ap (λ x. cond (leb from k && ltb k end) x (get_or v k 0)) (zero_read (end - from) (k - from))
    ∙ ap (λ x. cond (leb from k && ltb k end) 0 x) (get_or-whole old n k l)
    ∙ sym (erased.bytes k)) in
    file_is (clear (file_of n old) from end) n new
    (sym (ap (λ bs. take from bs ++ zeros ++ drop end bs) (file_bytes n old) ∙ b))
    (same_marks (has_granule new) (λ g. is_marked (file_of n old) g && not (covers from end (length (file_of n old).bytes) g)) (granule_count n) (λ g l.
    erased.marks g ∙ ap (λ m. m && not (covers from end n g)) (sym (mark_is n old g kept)) ∙ ap (λ j. is_marked (file_of n old) g && not (covers from end j g)) (sym (file_length n old)))
    ∙ ap (marks_by (λ g. is_marked (file_of n old) g && not (covers from end (length (file_of n old).bytes) g))) (sym (mark_count n old)))

pub kept_cleared : (n : ℕ) (old new : Entries) (from end : ℕ) → end ≤ n → IsKept n old → IsErased old new from end n → IsSized new → IsKept n new
kept_cleared n old new from end fits kept erased sized = record {
  limit = kept.limit;
  sized = sized;
  within = λ g t. kept.within g (and_parts (has_granule old g) (not (covers from end n g)) (sym (erased.marks g) ∙ t)).0;
  zeros = λ k l. erased.bytes k ∙ cond-false _ 0 (byte_at old k) (outside from end k (λ a b. omega arith)) ∙ kept.zeros k l;
}

-- ---- a change of the length

-- a granule that begins below what is kept isn't covered by the rest
not_covered : (keep n g : ℕ) → 512 * g < keep → covers keep n n g ≡ false
not_covered keep n g l = false_from_ne_true (covers keep n n g) (λ t. let a = covers_true keep n n g t in omega arith)

-- a granule that isn't covered by the rest begins below what is kept
begins_below : (keep n g : ℕ) → covers keep n n g ≡ false → 512 * g < keep
unfolding covers
begins_below keep n g f = elim (cases_lt (512 * g) keep) [
  | inl l ↦ l
  | inr l ↦ absurd (false≢true (sym f ∙ and_from (leb keep (512 * g)) (leb (min n (512 * g + 512)) n) (le-leb keep (512 * g) l) (le-leb (min n (512 * g + 512)) n (omega arith))))
]

-- a mark of a granule that begins below both lengths
resized_mark : (h c : Bool) → (h ≡ true → c ≡ false) → (h && not c) ≡ h
resized_mark true c f = rw (f refl) refl
resized_mark false c f = refl

pub file_resized : (n m keep : ℕ) (old new : Entries) → keep ≡ min m n → IsKept n old → IsErased old new keep n n → file_of m new ≡ resize (file_of n old) m
unfolding resize
file_resized n m keep old new low kept erased =
    let v : List ℕ = bytes_from old 0 n in
    let zeros : List ℕ = replicate (m - length (file_of n old).bytes) 0 in
    let lv : length v ≡ n = length-bytes_from old 0 n in
    let ln : length (file_of n old).bytes ≡ n = file_length n old in
    let lz : length zeros ≡ m - n = length-replicate {A = ℕ} (m - length (file_of n old).bytes) 0 ∙ ap (λ j. m - j) ln in
    let lt : length (take m v) ≡ min m n = length-take m v ∙ ap (min m) lv in
    file_is (resize (file_of n old) m) m new
    (sym (ap (λ bs. take m bs ++ zeros) (file_bytes n old) ∙ same_whole (take m v ++ zeros) new m (length-append (take m v) zeros ∙ omega arith) (λ k l.
    elim (cases_lt k n) [
      | inl b ↦
          get_or_append_left (take m v) zeros 0 k (omega arith) ∙ get_or-take m v k 0 l ∙ get_or-whole old n k b
          ∙ sym (erased.bytes k ∙ cond-false _ 0 (byte_at old k) (outside keep n k (λ a c. omega arith)))
      | inr b ↦
          get_or-append_right (take m v) zeros (min m n) k 0 lt (omega arith) ∙ zero_read (m - length (file_of n old).bytes) (k - min m n)
          ∙ sym (erased.bytes k ∙ cond-false _ 0 (byte_at old k) (outside keep n k (λ a c. omega arith)) ∙ kept.zeros k b)
    ])))
    (same_marks (has_granule new) (is_marked (file_of n old)) (granule_count m) (λ g l.
    erased.marks g ∙ resized_mark (has_granule old g) (covers keep n n g) (λ h. let w : 512 * g < n = kept.within g h in not_covered keep n g (omega arith)) ∙ sym (mark_is n old g kept)))

pub kept_resized : (n m keep : ℕ) (old new : Entries) → keep ≡ min m n → m ≤ most_bytes → IsKept n old → IsErased old new keep n n → IsSized new → IsKept m new
kept_resized n m keep old new low limit kept erased sized = record {
  limit = limit;
  sized = sized;
  within = λ g t.
      let p = and_parts (has_granule old g) (not (covers keep n n g)) (sym (erased.marks g) ∙ t) in
      let b : 512 * g < keep = begins_below keep n g (not-true (covers keep n n g) p.1) in
      omega arith;
  zeros = λ k l. erased.bytes k ∙ elim (cases_lt k n) [
    | inl b ↦ cond-true (is_between keep n k) 0 (byte_at old k) (inside keep n k (omega arith) b)
    | inr b ↦ cond-false (is_between keep n k) 0 (byte_at old k) (outside keep n k (λ a c. omega arith)) ∙ kept.zeros k b
  ];
}

-- a file that is made longer has the same map
erased_none : (n : ℕ) (es : Entries) → IsKept n es → IsErased es es n n n
erased_none n es kept = record {
  marks = λ g. sym (resized_mark (has_granule es g) (covers n n n g) (λ h. not_covered n n g (kept.within g h)));
  bytes = λ k. sym (cond-false (is_between n n k) 0 (byte_at es k) (outside n n k (λ a b. omega arith)));
}

pub file_grown : (n m : ℕ) (es : Entries) → n ≤ m → IsKept n es → file_of m es ≡ resize (file_of n es) m
file_grown n m es order kept = file_resized n m n es es (omega arith) kept (erased_none n es kept)

pub kept_grown : (n m : ℕ) (es : Entries) → n ≤ m → m ≤ most_bytes → IsKept n es → IsKept m es
kept_grown n m es order limit kept = record {
  limit = limit;
  sized = kept.sized;
  within = λ g t. let w : 512 * g < n = kept.within g t in omega arith;
  zeros = λ k l. kept.zeros k (omega arith);
}

pub file_extended : (n m end : ℕ) (es : Entries) → m ≡ max n end → IsKept n es → file_of m es ≡ extend (file_of n es) end
unfolding extend
file_extended n m end es is kept =
    file_grown n m es (omega arith) kept ∙ ap (resize (file_of n es)) (is ∙ ap (λ j. max j end) (sym (file_length n es)))

pub file_written : (n m : ℕ) (old new : Entries) (at : ℕ) (piece : List ℕ) → m ≡ max n (at + length piece) → m ≤ most_bytes → IsKept n old → IsUpdated old new at piece → file_of m new ≡ write (file_of n old) at piece
unfolding write
file_written n m old new at piece is limit kept updated =
    file_updated m old new at piece (omega arith) (kept_grown n m old (omega arith) limit kept) updated
    ∙ ap (λ f. update f at piece) (file_extended n m (at + length piece) old is kept)

pub kept_written : (n m : ℕ) (old new : Entries) (at : ℕ) (piece : List ℕ) → m ≡ max n (at + length piece) → m ≤ most_bytes → IsKept n old → IsUpdated old new at piece → IsSized new → IsKept m new
kept_written n m old new at piece is limit kept updated sized =
    kept_updated m old new at piece (omega arith) (kept_grown n m old (omega arith) limit kept) updated sized

-- ---- reading

pub cut_is : (n : ℕ) (es : Entries) (from end : ℕ) → from ≤ end → end ≤ n → cut (file_of n es) from end ≡ bytes_from es from (end - from)
cut_is n es from end order fits =
    let v : List ℕ = bytes_from es 0 n in
    let lv : length v ≡ n = length-bytes_from es 0 n in
    ap (λ bs. take (end - from) (drop from bs)) (file_bytes n es)
    ∙ same_bytes (take (end - from) (drop from v)) es from (end - from)
    (length-take (end - from) (drop from v) ∙ ap (min (end - from)) (length-drop from v) ∙ omega arith)
    (λ k l. get_or-take (end - from) (drop from v) k 0 l ∙ get_or-drop from v k 0 ∙ get_or-whole es n (from + k) (omega arith))
