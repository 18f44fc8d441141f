use Rattle.std.proofs.Common.{◌≡◌, ℕ, None, cond, eqb, take}
use Rattle.std.specs.List.{list_any}
use Rattle.sx_extent.specs.Granules.{granule_at}
use Rattle.sx_extent.proofs.granules.remove_all.Given as goal

abbrev pub invariant-loop-g : goal.invariant-loop-g
invariant-loop-g l =
    (q : ℕ) → granule_at l.granules.entries q ≡ cond (list_any (λ g. eqb g q) (take l.g-index l.numbers)) None (granule_at l.initial.granules.entries q)
