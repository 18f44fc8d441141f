-- The bytes among which a head has to be whole.
use Rattle.std.proofs.Common.{ℕ, ◌+◌, ◌-◌, ◌<◌, ◌≤◌, ◌≡◌, inl, inr, List, [], ◌++◌, length, take, drop, sym, ap, ◌∙◌, subst, arith, min, append_assoc}
use Rattle.std.proofs.Math.Seq.{take-add, take-append_seam, drop-append_seam, take-length}
use Rattle.std.proofs.lemmas.Bool.{cases_lt}
use Rattle.std.proofs.lemmas.List.{append-nil, length-drop, take_all, take-append-le}
use Rattle.httparse.specs.Grammar.{HasNoRequest, NeverHasRequest}
use Rattle.sx_http.specs.declared.limits.TheConstants.{HEAD_LIMIT}
use Rattle.sx_http.specs.Heads.{head_window}

-- the front of at most n items
pub front_of : (n : ℕ) (xs : List ℕ) → take (min (length xs) n) xs ≡ take n xs
front_of n xs =
    elim (cases_lt n (length xs)) [
      | inl lt ↦ ap (λ (k : ℕ). take k xs) (omega (arith, lt))
      | inr le ↦
          let all : min (length xs) n ≡ length xs = omega (arith, le) in
          ap (λ (k : ℕ). take k xs) all ∙ take-length xs ∙ sym (take_all n xs (omega (arith, le)))
    ]

-- bytes that are no more than a head_window
pub window_short : (bytes : List ℕ) → length bytes < HEAD_LIMIT → head_window bytes ≡ bytes
window_short bytes lt = take_all HEAD_LIMIT bytes (omega (arith, lt))

-- the head_window of longer bytes
window_more : (bytes more : List ℕ) → (tail : List ℕ) × (head_window (bytes ++ more) ≡ head_window bytes ++ tail)
window_more bytes more =
    elim (cases_lt (length bytes) HEAD_LIMIT) [
      | inl lt ↦
          let m : ℕ = HEAD_LIMIT - length bytes in
          let sum : HEAD_LIMIT ≡ length bytes + m = omega (arith, lt) in
          let front : take (length bytes) (bytes ++ more) ≡ head_window bytes = take-append_seam bytes more ∙ sym (window_short bytes lt) in
          let rest : take m (drop (length bytes) (bytes ++ more)) ≡ take m more = ap (λ (zs : List ℕ). take m zs) (drop-append_seam bytes more) in (
            take m more,
            ap (λ (k : ℕ). take k (bytes ++ more)) sum ∙ take-add (length bytes) m (bytes ++ more) ∙ (λ i. front i ++ rest i),
          )
      | inr le ↦ ([], take-append-le HEAD_LIMIT bytes more (omega (arith, le)) ∙ sym (append-nil (head_window bytes)))
    ]

never_more : (bytes more : List ℕ) → NeverHasRequest bytes → NeverHasRequest (bytes ++ more)
never_more bytes more h rest = subst HasNoRequest (sym (append_assoc bytes more rest)) (h (more ++ rest))

-- no head may come of longer bytes either
pub never_window : (bytes more : List ℕ) → NeverHasRequest (head_window bytes) → NeverHasRequest (head_window (bytes ++ more))
never_window bytes more h =
    let w = window_more bytes more in
    subst NeverHasRequest (sym w.1) (never_more (head_window bytes) w.0 h)
