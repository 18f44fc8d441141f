-- A block of a key and of what stands behind it, filled byte by byte.
use Rattle.std.proofs.Common.{◌≡◌, ap, refl, ℕ, zero, suc, ◌<◌, arith, List, [], ◌∷◌, ◌++◌, length, map, take, replicate, slice_index_or, slice_set}

-- the next byte of a key comes to stand behind those that stand there
pub next_filled : (f : ℕ → ℕ) (pad : ℕ) (key : List ℕ) (i rest : ℕ) → i < length key
    → slice_set (map f (take i key) ++ replicate (suc rest) pad) i (f (slice_index_or key i 0)) ≡ map f (take (suc i) key) ++ replicate rest pad
next_filled f pad [] i rest l = absurd (omega (arith, l))
next_filled f pad (k ∷ ks) zero rest l = refl
next_filled f pad (k ∷ ks) (suc i) rest l = ap (λ xs. f k ∷ xs) (next_filled f pad ks i rest (omega (arith, l)))
