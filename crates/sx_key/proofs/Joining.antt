-- Texts in a row with a byte between each two.
use Rattle.std.proofs.Common.{◌≡◌, ◌≤◌, ℕ, List, [], ◌∷◌, ◌++◌, ◌-◌, map, length, take, drop, get_or, Bor, sym, ap, ◌∙◌, arith, append-nil, append_assoc}
use Rattle.std.proofs.lemmas.List.{take_rest}
use Rattle.std.specs.List.{flat_map, join_with_byte}

-- the first text, and a byte before each of the others
pub joined-cons : (c : ℕ) (t : List ℕ) (ts : List (List ℕ)) → join_with_byte c (t ∷ ts) ≡ t ++ flat_map (λ u. c ∷ u) ts
joined-cons c t [] = sym (append-nil t)
joined-cons c t (u ∷ us) = ap (λ x. t ++ (c ∷ x)) (joined-cons c u us)

joined_from : (c : ℕ) (out : List ℕ) (ts : List (Bor (List ℕ))) → 1 ≤ length ts
    → (out ++ (get_or ts 0 (record { ref_ptr = (0, 0); now = [] })).now) ++ flat_map (λ u. c ∷ u) (map (λ t. t.now) (drop 1 ts)) ≡ out ++ join_with_byte c (map (λ t. t.now) ts)
joined_from c out [] some = absurd (omega (arith, some))
joined_from c out (t ∷ ts) some =
    append_assoc out t.now (flat_map (λ u. c ∷ u) (map (λ t. t.now) ts))
    ∙ ap (λ x. out ++ x) (sym (joined-cons c t.now (map (λ t. t.now) ts)))

pub joined_first : (c : ℕ) (out : List ℕ) (ts : List (Bor (List ℕ))) → 1 ≤ length ts
    → (out ++ (get_or ts 0 (record { ref_ptr = (0, 0); now = [] })).now) ++ flat_map (λ u. c ∷ u) (map (λ t. t.now) (take (length ts - 1) (drop 1 ts))) ≡ out ++ join_with_byte c (map (λ t. t.now) ts)
joined_first c out ts some = rw (take_rest ts 1) (joined_from c out ts some)
