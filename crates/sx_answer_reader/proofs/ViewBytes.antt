-- A list that was gone through byte by byte.
use Rattle.std.proofs.Common.{◌≡◌, ℕ, ◌+◌, ◌≤◌, ◌<◌, List, length, get_or, subst, inl, inr, arith}
use Rattle.std.proofs.lemmas.Bool.{cases_lt}
use Rattle.std.proofs.lemmas.List.{get_or_past}
use Rattle.hex.specs.Hex.{IsBytes}

pub bytes_more : (bytes : List ℕ) (at : ℕ) → ((k : ℕ) → k < at → get_or bytes k 0 < 256) → get_or bytes at 0 < 256
    → (k : ℕ) → k < at + 1 → get_or bytes k 0 < 256
bytes_more bytes at front here k l =
    elim (cases_lt k at) [
      | inl low ↦ front k low
      | inr high ↦
          let is : at ≡ k = omega (arith, l, high) in
          subst (λ (j : ℕ). get_or bytes j 0 < 256) is here
    ]

pub all_bytes : (bytes : List ℕ) (n : ℕ) → length bytes ≤ n → ((k : ℕ) → k < n → get_or bytes k 0 < 256) → IsBytes bytes
all_bytes bytes n l h i =
    elim (cases_lt i n) [
      | inl low ↦ h i low
      | inr high ↦
          let past : get_or bytes i 0 ≡ 0 = get_or_past bytes i 0 (omega (arith, l, high)) in
          omega (arith, past)
    ]
