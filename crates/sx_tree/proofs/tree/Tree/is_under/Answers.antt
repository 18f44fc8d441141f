use Rattle.std.proofs.Common.{◌≡◌, arith, sym, ap, ◌∙◌, suc, ◌-◌, ◌+◌, Some, None}
use Rattle.sx_tree.specs.Tree.{Nodes, Slot, slot_at}
use Rattle.sx_tree.specs.Climbs.{climbs}
use Rattle.sx_tree.proofs.Climbing.{climbs_here, climbs_up, climbs_out}
use Rattle.sx_tree.proofs.tree.Tree.is_under.Goals as goal

pub returns-then-at-dir : goal.returns-then-at-dir
returns-then-at-dir c =
    let k = c.count-count.result - (c.loop.counter + 1) in
    let e : suc k + c.loop.counter ≡ c.count-count.result = omega (arith, c.loop-test.true) in
    sym (rw (← c.count-count.ensures) (c.loop.invariant (suc k) e ∙ climbs_here c.args.self.now k c.args.dir c.loop.at c.if-at-dir.true))

pub returns-in-None : goal.returns-in-None
returns-in-None c =
    let k = c.count-count.result - (c.loop.counter + 1) in
    let e : suc k + c.loop.counter ≡ c.count-count.result = omega (arith, c.loop-test.true) in
    let out : slot_at c.args.self.now c.loop.at ≡ None = ap (λ (t : Nodes). slot_at t c.loop.at) (sym c.self.view_is) ∙ sym c.in-None.ensures.value in
    sym (rw (← c.count-count.ensures) (c.loop.invariant (suc k) e ∙ climbs_out c.args.self.now (suc k) c.args.dir c.loop.at c.if-at-dir.false out))

pub loop-preserved : goal.loop-preserved
loop-preserved c = λ n e.
    let s : suc n + c.loop.counter ≡ c.count-count.result = omega (arith, e) in
    let found : slot_at c.args.self.now c.loop.at ≡ Some c.in-Some.slot.now = ap (λ (t : Nodes). slot_at t c.loop.at) (sym c.self.view_is) ∙ sym c.in-Some.ensures.value in
    let up : c.in-Some.slot.now.node.parent ≡ c.slot.inside.node.parent = ap (λ (s : Slot). s.node.parent) (sym c.slot.view_is) in
    c.loop.invariant (suc n) s ∙ climbs_up c.args.self.now n c.args.dir c.loop.at c.in-Some.slot.now c.if-at-dir.false found ∙ ap (climbs c.args.self.now n c.args.dir) up

pub returns : goal.returns
returns c =
    let e : 0 + c.loop.counter ≡ c.count-count.result = omega (arith, c.loop-test.false, c.loop.auto.counter-end) in
    sym (rw (← c.count-count.ensures) (c.loop.invariant 0 e))
