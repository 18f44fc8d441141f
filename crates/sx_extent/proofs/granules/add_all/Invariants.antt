use Rattle.std.proofs.Common.{◌≡◌, ℕ, Some, cond, eqb, take, replicate}
use Rattle.std.specs.List.{list_any}
use Rattle.sx_extent.specs.Granules.{granule_at}
use Rattle.sx_extent.proofs.granules.add_all.Given as goal

abbrev pub invariant-loop-i : goal.invariant-loop-i
invariant-loop-i l =
    (q : ℕ) → granule_at l.granules.entries q ≡ cond (list_any (λ g. eqb g q) (take l.i l.numbers)) (Some (replicate 512 0)) (granule_at l.initial.granules.entries q)
