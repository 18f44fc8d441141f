use Rattle.std.proofs.Common.{◌≡◌, ◌≤◌, ◌+◌, ◌-◌, ◌/◌, ap, arith}
use Rattle.sx_extent.specs.Ranges.{fresh}
use Rattle.sx_extent.specs.Granules.{file_of}
use Rattle.sx_extent.proofs.GranuleSteps.{past_first}
use Rattle.sx_extent.proofs.KeyLemmas.{fresh_is}
use Rattle.sx_extent.proofs.ranges.Ranges.fresh.Goals as goal

-- the marked granules and the fresh ones are those that the interval touches
counted : (c : goal.After-count_between) → c.count_between.result + fresh c.args.self.now c.args.from c.args.end ≡ c.past_of-past.result - c.args.from / 512
counted c =
    let h = fresh_is c.self.inside.length c.self.inside.granules.entries c.args.from c.args.end c.past_of-past.result c.self.invariant c.count_between.ensures.ordered c.requires.order c.requires.limit c.past_of-past.ensures in
    let v : fresh (file_of c.self.inside.length c.self.inside.granules.entries) c.args.from c.args.end ≡ fresh c.args.self.now c.args.from c.args.end = ap (λ f. fresh f c.args.from c.args.end) c.self.view_is in
    omega arith

pub count_between-requires : goal.count_between-requires
count_between-requires c = past_first c.args.from c.args.end _ c.past_of-past.ensures

pub overflow_sub-result : goal.overflow_sub-result
overflow_sub-result c = past_first c.args.from c.args.end _ c.past_of-past.ensures

pub overflow_sub-result-2 : goal.overflow_sub-result-2
overflow_sub-result-2 c =
    let h = counted c in
    let o : c.args.from / 512 ≤ c.past_of-past.result = past_first c.args.from c.args.end _ c.past_of-past.ensures in
    omega arith

pub returns : goal.returns
returns c =
    let h = counted c in
    omega arith
