-- Words of visible characters, with a space before each, are read word by word.
use Rattle.std.proofs.Common.{◌≡◌, ◌≢◌, ℕ, zero, suc, ◌+◌, ◌-◌, ◌≤◌, ◌<◌, Bool, true, false, cond, not, ◌&&◌, ◌==◌, nat_le, List, [], ◌∷◌, ◌++◌, length, take, drop, get_or, slice_index}
use Rattle.std.proofs.Common.{refl, sym, ap, subst, ◌∙◌, arith, IsAscii}
use Rattle.std.specs.List.{position_or_len, list_all}
use Rattle.std.specs.Str.{is_utf8}
use Rattle.std.proofs.lemmas.Bool.{ne_eqb, le-leb, leb-true, and_parts, and_from}
use Rattle.std.proofs.lemmas.List.Sums.{AllPass-from_list_all}
use Rattle.std.proofs.lemmas.List.Folds.{list_all-append}
use Rattle.std.proofs.lemmas.Str.{IsUtf8-from_ascii, is_utf8-from_IsUtf8}
use Rattle.std.proofs.Math.Seq.{take-append_seam, drop-append_seam}
use Rattle.sx_lines.specs.Words.{is_space, first_word, behind_first, next_word, behind_next, without_return}

-- a visible character of ASCII, and a space as well
abbrev pub is_visible : ℕ → Bool
is_visible b = nat_le 33 b && nat_le b 126

abbrev pub is_printed : ℕ → Bool
is_printed b = nat_le 32 b && nat_le b 126

-- a word of visible characters
abbrev pub IsWord : List ℕ → Type 0
IsWord w = list_all is_visible w ≡ true

-- nothing, or a space and what follows it
abbrev pub IsBehind : List ℕ → Type 0
IsBehind [] = Unit {0}
IsBehind (b ∷ bs) = b ≡ 32

pub both_pass : (p : ℕ → Bool) (xs ys : List ℕ) → list_all p xs ≡ true → list_all p ys ≡ true → list_all p (xs ++ ys) ≡ true
both_pass p xs ys h k = list_all-append p xs ys ∙ and_from _ _ h k

pub all_weaker : (p q : ℕ → Bool) → ((b : ℕ) → p b ≡ true → q b ≡ true) → (w : List ℕ) → list_all p w ≡ true → list_all q w ≡ true
all_weaker p q h [] e = refl
all_weaker p q h (b ∷ w) e = let parts = and_parts (p b) (list_all p w) e in and_from (q b) (list_all q w) (h b parts.0) (all_weaker p q h w parts.1)

visible_is : (b : ℕ) → is_visible b ≡ true → (33 ≤ b) × (b ≤ 126)
visible_is b e = let parts = and_parts (nat_le 33 b) (nat_le b 126) e in (leb-true 33 b parts.0, leb-true b 126 parts.1)

printed_is : (b : ℕ) → is_printed b ≡ true → (32 ≤ b) × (b ≤ 126)
printed_is b e = let parts = and_parts (nat_le 32 b) (nat_le b 126) e in (leb-true 32 b parts.0, leb-true b 126 parts.1)

pub word_printed : (w : List ℕ) → IsWord w → list_all is_printed w ≡ true
word_printed = all_weaker is_visible is_printed (λ b e. let v = visible_is b e in and_from (nat_le 32 b) (nat_le b 126) (le-leb 32 b (omega (arith, v.0))) (le-leb b 126 v.1))

space_at : (w rest : List ℕ) → IsWord w → IsBehind rest → position_or_len is_space (w ++ rest) ≡ length w
space_at [] [] h e = refl
space_at [] (b ∷ rest) h e = subst (λ (c : ℕ). position_or_len is_space (c ∷ rest) ≡ 0) (sym e) refl
space_at (b ∷ w) rest h e =
    let parts = and_parts (is_visible b) (list_all is_visible w) h in
    let v = visible_is b parts.0 in
    let other : (b == 32) ≡ false = ne_eqb b 32 (λ q. omega (arith, q, v.0)) in
    let ih = space_at w rest parts.1 e in
    rw other (omega (arith, ih))

pub first_is : (w rest : List ℕ) → IsWord w → IsBehind rest → first_word (w ++ rest) ≡ w
first_is w rest h e = rw (space_at w rest h e) (take-append_seam w rest)

pub behind_is : (w rest : List ℕ) → IsWord w → IsBehind rest → behind_first (w ++ rest) ≡ rest
behind_is w rest h e = rw (space_at w rest h e) (drop-append_seam w rest)

pub next_is : (w rest : List ℕ) → IsWord w → IsBehind rest → next_word (32 ∷ (w ++ rest)) ≡ w
unfolding next_word
next_is w rest h e = first_is w rest h e

pub rest_is : (w rest : List ℕ) → IsWord w → IsBehind rest → behind_next (32 ∷ (w ++ rest)) ≡ rest
unfolding behind_next
rest_is w rest h e = behind_is w rest h e

-- a text of printed characters has no carriage return at its end, and is UTF-8

printed_at : (line : List ℕ) → list_all is_printed line ≡ true → (k : ℕ) → k < length line → (32 ≤ get_or line k 0) × (get_or line k 0 ≤ 126)
printed_at line h k l = printed_is (get_or line k 0) (AllPass-from_list_all is_printed line h k 0 l)

last_is : (line : List ℕ) → list_all is_printed line ≡ true → (get_or line (length line - 1) 0 == 13) ≡ false
last_is [] h = refl
last_is (b ∷ line) h = let at = printed_at (b ∷ line) h (length (b ∷ line) - 1) (omega arith) in ne_eqb _ 13 (λ q. omega (arith, q, at.0))

pub without_return_same : (line : List ℕ) → list_all is_printed line ≡ true → without_return line ≡ line
without_return_same line h = rw (last_is line h) refl

ascii : (line : List ℕ) → list_all is_printed line ≡ true → IsAscii line
ascii [] h i = omega arith
ascii (b ∷ line) h zero = let p = printed_is b (and_parts (is_printed b) (list_all is_printed line) h).0 in omega (arith, p.1)
ascii (b ∷ line) h (suc i) = ascii line (and_parts (is_printed b) (list_all is_printed line) h).1 i

pub printed_utf8 : (line : List ℕ) → list_all is_printed line ≡ true → is_utf8 line ≡ true
printed_utf8 line h = is_utf8-from_IsUtf8 line (IsUtf8-from_ascii line (ascii line h))
