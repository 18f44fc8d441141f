use Rattle.std.proofs.Common.{◌≤◌, ◌<◌, arith, subst, ℕ}
use Rattle.sx_extent.proofs.GranuleSteps.{past_first, touches_between, IsErasedBelow-none, IsErasedBelow-more, IsErasedBelow-all}
use Rattle.sx_extent.proofs.granules.erase.Goals as goal

pub loop-g-init : goal.loop-g-init
loop-g-init c =
    (omega arith, past_first c.args.from c.args.end _ c.past_of-past.ensures, IsErasedBelow-none c.args.granules.now.entries c.args.from c.args.end c.args.length, c.requires.kept.sized)

pub erase_in-requires-clause-touched : goal.erase_in-requires-clause-touched
erase_in-requires-clause-touched c =
    let P : ℕ → Type 0 = λ n. c.in-Some.g < n in
    let least : c.loop-g.next ≤ c.in-Some.g = c.in-Some.ensures.found.0 in
    touches_between c.args.from c.args.end c.in-Some.g (omega arith) (subst P c.past_of-past.ensures c.in-Some.ensures.found.1)

pub loop-g-preserved : goal.loop-g-preserved
loop-g-preserved c =
    let least : c.loop-g.next ≤ c.in-Some.g = c.in-Some.ensures.found.0 in
    let last : c.in-Some.g < c.past_of-past.result = c.in-Some.ensures.found.1 in (
      omega arith,
      omega arith,
      IsErasedBelow-more c.args.granules.now.entries c.loop-g.granules.entries c.erase_in.new.granules.entries c.args.from c.args.end c.args.length c.loop-g.next c.in-Some.g
          c.loop-g.invariant.2 c.in-Some.ensures.least least c.erase_in.ensures.marks c.erase_in.ensures.bytes,
      c.erase_in.ensures.sized,
    )

pub returns-clause-erased : goal.returns-clause-erased
returns-clause-erased c =
    IsErasedBelow-all c.args.granules.now.entries c.loop-g.granules.entries c.args.from c.args.end c.args.length c.loop-g.next _ c.loop-g.invariant.2 c.in_default.ensures.none c.requires.order c.past_of-past.ensures c.requires.kept.within
