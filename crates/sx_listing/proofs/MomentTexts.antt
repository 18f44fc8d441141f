-- The text of a moment is ASCII.
use Rattle.std.proofs.Common.{codes, ◌≡◌, ℕ, zero, suc, ◌/◌, ◌%◌, ◌+◌, ◌<◌, true, List, [], ◌∷◌, ◌++◌, arith, inl}
use Rattle.std.specs.Str.{is_utf8}
use Rattle.sx_text.specs.Digits.{digits_text}
use Rattle.sx_text.specs.Escapes.{Chars, IsWhole}
use Rattle.sx_text.proofs.Utf8.{whole_utf8}
use Rattle.sx_base.specs.Moment.{Day, TimeOfDay, Fields, day_text, time_text, fields_text, fields_at_moment, moment_text}

abbrev pub IsAscii : List ℕ → Type 0
IsAscii [] = Unit {0}
IsAscii (b ∷ bs) = (b < 128) × IsAscii bs

pub ascii_whole : (bytes : List ℕ) → IsAscii bytes → IsWhole bytes
unfolding Chars
ascii_whole [] h = tt
ascii_whole (b ∷ bs) h = inl (h.0, ascii_whole bs h.1)

pub both : (xs ys : List ℕ) → IsAscii xs → IsAscii ys → IsAscii (xs ++ ys)
both [] ys p q = q
both (x ∷ xs) ys p q = (p.0, both xs ys p.1 q)

pub ascii_digits : (count n : ℕ) → IsAscii (digits_text count n)
ascii_digits zero n = tt
ascii_digits (suc count) n = both (digits_text count (n / 10)) ((48 + n % 10) ∷ []) (ascii_digits count (n / 10)) (omega arith, tt)

pub behind : (b count n : ℕ) → b < 128 → IsAscii (b ∷ digits_text count n)
behind b count n lt = (lt, ascii_digits count n)

ascii_day : (d : Day) → IsAscii (day_text d)
ascii_day d =
    both (digits_text 4 d.0) ((45 ∷ digits_text 2 d.1.0) ++ 45 ∷ digits_text 2 d.1.1) (ascii_digits 4 d.0)
    (both (45 ∷ digits_text 2 d.1.0) (45 ∷ digits_text 2 d.1.1) (behind 45 2 d.1.0 (omega arith)) (behind 45 2 d.1.1 (omega arith)))

pub ascii_clock : (b : ℕ) (t : TimeOfDay) → b < 128 → IsAscii (time_text (b ∷ []) t)
ascii_clock b t lt =
    both (b ∷ digits_text 2 t.0) ((58 ∷ digits_text 2 t.1.0) ++ 58 ∷ digits_text 2 t.1.1) (behind b 2 t.0 lt)
    (both (58 ∷ digits_text 2 t.1.0) (58 ∷ digits_text 2 t.1.1) (behind 58 2 t.1.0 (omega arith)) (behind 58 2 t.1.1 (omega arith)))

ascii_fields : (m : Fields) → IsAscii (fields_text m)
unfolding fields_text
ascii_fields m =
    both (day_text m.0) (time_text (codes "T") m.1.0 ++ ((46 ∷ digits_text 7 m.1.1) ++ 90 ∷ [])) (ascii_day m.0)
    (both (time_text (codes "T") m.1.0) ((46 ∷ digits_text 7 m.1.1) ++ 90 ∷ []) (ascii_clock 84 m.1.0 (omega arith))
    (both (46 ∷ digits_text 7 m.1.1) (90 ∷ []) (behind 46 7 m.1.1 (omega arith)) (omega arith, tt)))

pub moment_utf8 : (at : ℕ) → is_utf8 (moment_text at) ≡ true
unfolding moment_text
moment_utf8 at = whole_utf8 (fields_text (fields_at_moment at)) (ascii_whole (fields_text (fields_at_moment at)) (ascii_fields (fields_at_moment at)))
