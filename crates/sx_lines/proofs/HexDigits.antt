-- Hexadecimal digits of bytes, piece by piece.
use Rattle.std.proofs.Common.{◌≡◌, ◌+◌, ◌++◌, ℕ, List, [], ◌∷◌, drop, refl, sym, ap, ◌∙◌}
use Rattle.hex.specs.Hex.{encode_lower, encode_with, lower_digits}
use Rattle.sx_extent.specs.View.{part}
use Rattle.sx_reply.proofs.Pieces.{part_front}

encode_append : (t xs ys : List ℕ) → encode_with t (xs ++ ys) ≡ encode_with t xs ++ encode_with t ys
unfolding encode_with
encode_append t [] ys = refl
encode_append t (x ∷ xs) ys = rw (encode_append t xs ys) refl

-- the digits of a part, and of what is left behind it
pub digits_front : (bytes : List ℕ) (at n : ℕ)
    → encode_lower (drop at bytes) ≡ encode_lower (part bytes at n) ++ encode_lower (drop (at + n) bytes)
digits_front bytes at n =
    ap (λ (t : List ℕ). encode_lower t) (sym (part_front bytes at n)) ∙ encode_append lower_digits (part bytes at n) (drop (at + n) bytes)
