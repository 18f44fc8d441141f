-- The bytes between two places of a vector, where more came behind them and where they were moved.
use Rattle.std.proofs.Common.{ℕ, ◌+◌, ◌-◌, ◌≤◌, ◌≡◌, List, ◌++◌, length, take, drop, refl, sym, ap, subst, ◌∙◌, arith}
use Rattle.std.proofs.Math.Seq.{take-add}
use Rattle.std.proofs.lemmas.List.{drop-take, take-take, length-take-le, drop-append-le}

-- the first of them is the one that stands at the first place
pub part_is : (xs : List ℕ) (start end : ℕ) → start ≤ end → drop start (take end xs) ≡ take (end - start) (drop start xs)
part_is xs start end le = subst (λ (n : ℕ). drop start (take n xs) ≡ take (end - start) (drop start xs)) (omega (arith, le)) (drop-take start (end - start) xs)

-- bytes came behind those in front of the second place
pub held_more : (old new : List ℕ) (start end past count : ℕ) → start ≤ end → end ≤ length new → end + count ≤ past → take end new ≡ take end old
    → drop start (take (end + count) new) ≡ drop start (take end old) ++ take count (take (past - end) (drop end new))
held_more old new start end past count le within few front =
    ap (drop start) (take-add end count new)
    ∙ drop-append-le start (take end new) (take count (drop end new)) (omega (arith, le, length-take-le end new within))
    ∙ ap (λ (xs : List ℕ). drop start xs ++ take count (drop end new)) front
    ∙ ap (λ (xs : List ℕ). drop start (take end old) ++ xs) (sym (take-take count (past - end) (drop end new) (omega (arith, few))))
