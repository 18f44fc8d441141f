-- A text in percent-encoding is ASCII.
use Rattle.std.proofs.Common.{◌≡◌, ℕ, suc, ◌/◌, ◌%◌, ◌<◌, Bool, true, false, cond, List, [], ◌∷◌, ◌++◌, refl, arith, inl, inr}
use Rattle.std.specs.Prelude.{slice_index}
use Rattle.std.proofs.lemmas.Bool.{cases_lt, lt-ltb, le-ltb}
use Rattle.std.proofs.lemmas.Bool.Decides.{nat_tests}
use Rattle.sx_text.specs.Escapes.{Chars, IsWhole}
use Rattle.sx_listing.specs.Percent.{is_unreserved, upper_digit, percent_byte, percent_text}

pub digit_low : (n : ℕ) → n < 16 → upper_digit n < 128
digit_low n lt = elim (cases_lt n 10) [
  | inl low ↦ rw (lt-ltb n 10 low) (omega (arith, low))
  | inr high ↦ rw (le-ltb n 10 high) (omega (arith, lt))
]

unreserved_low : (b : ℕ) → is_unreserved b ≡ true → b < 128
unreserved_low b e = grind (arith, nat_tests)

by_test : (b : ℕ) (u : Bool) (rest : List ℕ) → b < 256 → is_unreserved b ≡ u → IsWhole rest
    → IsWhole (cond u (b ∷ []) (37 ∷ upper_digit (b / 16) ∷ upper_digit (b % 16) ∷ []) ++ rest)
unfolding Chars
by_test b true rest lt e h = inl (unreserved_low b e, h)
by_test b false rest lt e h =
    inl (omega arith, inl (digit_low (b / 16) (omega (arith, lt)), inl (digit_low (b % 16) (omega arith), h)))

pub percent_whole : (bytes : List ℕ) → ((i : ℕ) → slice_index bytes i < 256) → IsWhole (percent_text bytes)
unfolding percent_byte Chars
percent_whole [] small = tt
percent_whole (b ∷ bs) small = by_test b (is_unreserved b) (percent_text bs) (small 0) refl (percent_whole bs (λ i. small (suc i)))
