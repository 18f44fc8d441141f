-- The first line of the bytes.
use Rattle.std.proofs.Common.{ℕ, suc, ◌+◌, ◌-◌, ◌<◌, ◌≤◌, ◌≡◌, Bool, true, false, cond, List, ◌∷◌, ◌++◌, length, get_or, take, drop, refl, sym, ap, ◌∙◌, Some, None, position, arith, nat_lt, append_assoc, add-one, length-take, inl, inr}
use Rattle.std.specs.List.{position_or_len}
use Rattle.std.proofs.Math.Seq.{drop-cons}
use Rattle.std.proofs.lemmas.Bool.{ltb-false, eqb-true, lt-ltb, cases_lt}
use Rattle.std.proofs.lemmas.List.{take-append-drop, get_or-take, get_or-drop, length-drop}
use Rattle.std.proofs.lemmas.List.Quantifiers.{position-Some}
use Rattle.std.proofs.lemmas.List.Sums.{fails_before_first, position_or_len_is}
use Rattle.std.proofs.lemmas.Grind.{common_steps}
use Rattle.sx_smb_door.specs.Lines.{is_line_end, IsOneLine, BeginsUnended, with_line_feed}

none_cond : (b : Bool) (i : ℕ) → cond b (Some i) None ≡ None → b ≡ false
none_cond true i e = cc
none_cond false i e = refl

-- bytes without a line's end hold one line
pub one_line : (bytes : List ℕ) → position is_line_end bytes ≡ None → IsOneLine bytes
one_line bytes e k d lt =
    let no = none_cond (nat_lt (position_or_len is_line_end bytes) (length bytes)) (position_or_len is_line_end bytes) e in
    fails_before_first is_line_end bytes k d (omega (arith, ltb-false (position_or_len is_line_end bytes) (length bytes) no))

-- the bytes before the first line's end are one line
pub one_front : (bytes : List ℕ) (i n : ℕ) → position is_line_end bytes ≡ Some i → n ≤ i → BeginsUnended n bytes
one_front bytes i n e le =
    let at = position-Some is_line_end bytes i 0 e in (
      omega (arith, at.0),
      λ k d lt.
          let less : k < n = omega (arith, length-take n bytes) in
          let early : k < i = omega (arith, less, le) in
          let same : get_or (take n bytes) k d ≡ get_or bytes k d = get_or-take n bytes k d less in
          rw same ((position-Some is_line_end bytes i d e).2 k early),
    )

-- the bytes are their first line with its end, and the rest
pub first_line : (bytes : List ℕ) (i : ℕ) → position is_line_end bytes ≡ Some i → bytes ≡ with_line_feed (take i bytes) ++ drop (i + 1) bytes
first_line bytes i e =
    let at = position-Some is_line_end bytes i 0 e in
    let here : get_or bytes i 0 ≡ 10 = eqb-true (get_or bytes i 0) 10 at.1 in
    let rest : drop i bytes ≡ 10 ∷ drop (suc i) bytes = drop-cons bytes i 0 at.0 ∙ ap (λ (b : ℕ). b ∷ drop (suc i) bytes) here in
    rw (append_assoc, add-one) (sym (take-append-drop i bytes) ∙ ap (λ (xs : List ℕ). take i bytes ++ xs) rest)

-- the place of the first line's end, by the places before it
pub position_is : (bytes : List ℕ) (i : ℕ) → i < length bytes → ((k : ℕ) → k < i → is_line_end (get_or bytes k 0) ≡ false) → is_line_end (get_or bytes i 0) ≡ true → position is_line_end bytes ≡ Some i
position_is bytes i lt before here =
    let at : position_or_len is_line_end bytes ≡ i = position_or_len_is is_line_end bytes i 0 (omega (arith, lt)) before (λ _. here) in
    rw (at, lt-ltb i (length bytes) lt) refl

-- no byte is a line's end
pub position_none : (bytes : List ℕ) → ((k : ℕ) → k < length bytes → is_line_end (get_or bytes k 0) ≡ false) → position is_line_end bytes ≡ None
position_none bytes none =
    let at : position_or_len is_line_end bytes ≡ length bytes = position_or_len_is is_line_end bytes (length bytes) 0 (omega arith) none (λ lt. absurd (let no : ⊥ = omega (arith, lt) in no)) in
    grind (arith, common_steps)

-- a byte of the front that is known to hold no line's end
front_fails : (bytes : List ℕ) (n k : ℕ) → BeginsUnended n bytes → k < n → is_line_end (get_or bytes k 0) ≡ false
front_fails bytes n k h lt =
    let same : get_or (take n bytes) k 0 ≡ get_or bytes k 0 = get_or-take n bytes k 0 lt in
    let inside : k < length (take n bytes) = omega (arith, length-take n bytes, h.0, lt) in
    rw (sym same) (h.1 k 0 inside)

-- a byte behind the front
behind : (bytes : List ℕ) (n k : ℕ) → n ≤ k → get_or bytes k 0 ≡ get_or (drop n bytes) (k - n) 0
behind bytes n k le =
    let sum : n + (k - n) ≡ k = omega (arith, le) in
    sym (get_or-drop n bytes (k - n) 0 ∙ ap (λ (i : ℕ). get_or bytes i 0) sum)

-- searching behind a front that holds no line's end
pub searched_some : (bytes : List ℕ) (n i : ℕ) → BeginsUnended n bytes → position is_line_end (drop n bytes) ≡ Some i → position is_line_end bytes ≡ Some (n + i)
searched_some bytes n i h e =
    let at = position-Some is_line_end (drop n bytes) i 0 e in
    let here : is_line_end (get_or bytes (n + i) 0) ≡ true = rw (sym (get_or-drop n bytes i 0)) at.1 in
    position_is bytes (n + i) (omega (arith, at.0, length-drop n bytes, h.0))
    (λ k lt. elim (cases_lt k n) [
      | inl low ↦ front_fails bytes n k h low
      | inr high ↦ rw (behind bytes n k high) (at.2 (k - n) (omega (arith, lt, high)))
    ])
    here

pub searched_none : (bytes : List ℕ) (n : ℕ) → BeginsUnended n bytes → position is_line_end (drop n bytes) ≡ None → position is_line_end bytes ≡ None
searched_none bytes n h e =
    let one = one_line (drop n bytes) e in
    position_none bytes
    (λ k lt. elim (cases_lt k n) [
      | inl low ↦ front_fails bytes n k h low
      | inr high ↦ rw (behind bytes n k high) (one (k - n) 0 (omega (arith, lt, high, length-drop n bytes)))
    ])
