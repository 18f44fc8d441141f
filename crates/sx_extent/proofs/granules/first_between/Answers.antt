use Rattle.std.proofs.Common.{◌≡◌, ℕ}
use Rattle.std.specs.Ordering.{nat_cmp}
use Rattle.std.specs.BTreeMap.Range.{IsInRange}
use Rattle.std.specs.declared.ops.Bound.TheVariants.{Included, Excluded}
use Rattle.sx_extent.specs.Granules.{granule_at}
use Rattle.sx_extent.proofs.GranuleLemmas.{in_range, from_range, has_none, has_some, none_before, if_none}
use Rattle.sx_extent.proofs.granules.first_between.Goals as goal

pub returns-in_err-g-clause-none : goal.returns-in_err-g-clause-none
returns-in_err-g-clause-none c =
    if_none c.from_residual.result (λ q l m. has_none c.args.granules.now.entries q ((c.range.ensures.in_range tt).5 c.in_err-g.ensures.steps.0 q (in_range c.args.first c.args.past q l m)))

pub returns-clause-found : goal.returns-clause-found
returns-clause-found c =
    let es = c.args.granules.now.entries in
    let g : ℕ = c.in_ok-g.g.now in
    let h : IsInRange nat_cmp (Included c.args.first) (Excluded c.args.past) g × (granule_at es g ≡ _) = rw c.in_ok-g.ensures.steps at ((c.range.ensures.in_range tt).1) in
    let f = from_range c.args.first c.args.past g h.0 in
    (f.0, f.1, has_some es g _ h.1)

pub returns-clause-least : goal.returns-clause-least
returns-clause-least c =
    let es = c.args.granules.now.entries in
    let g : ℕ = c.in_ok-g.g.now in
    let h : IsInRange nat_cmp (Included c.args.first) (Excluded c.args.past) g × (granule_at es g ≡ _) = rw c.in_ok-g.ensures.steps at ((c.range.ensures.in_range tt).1) in
    none_before es c.args.first c.args.past g (from_range c.args.first c.args.past g h.0).1 (λ q i s. rw c.in_ok-g.ensures.steps at ((c.range.ensures.in_range tt).2 q i s))
