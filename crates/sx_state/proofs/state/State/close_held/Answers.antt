use Rattle.std.proofs.Common.{◌≡◌, ◌∙◌, ◌<◌, ◌+◌, ap, sym, subst, arith, length}
use Rattle.std.specs.Prelude.{filter}
use Rattle.sx_spec.specs.Account.{Store, is_held_by}
use Rattle.sx_state.proofs.HeldLaws.{IsClosing, closing_goes_on, closing_ends}
use Rattle.sx_state.proofs.state.State.close_held.Goals as goal

pub loop-preserved : goal.loop-preserved
loop-preserved c =
    let n = c.args.session in
    let counted : c.count_of-count.result ≡ length (filter (is_held_by n) c.args.self.now.opens) =
    c.count_of-count.ensures.count ∙ ap (λ (s : Store). length (filter (is_held_by n) s.opens)) c.self.view_is in
    let more : c.loop.counter < length (filter (is_held_by n) c.args.self.now.opens) = omega (arith, c.loop-test.true, counted) in
    subst (λ s. IsClosing n c.args.self.now s (c.loop.counter + 1)) (sym c.close_first.ensures) (closing_goes_on n c.args.self.now c.loop.self c.loop.counter c.loop.invariant more)

pub returns-clause-closed : goal.returns-clause-closed
returns-clause-closed c =
    let n = c.args.session in
    let counted : c.count_of-count.result ≡ length (filter (is_held_by n) c.args.self.now.opens) =
    c.count_of-count.ensures.count ∙ ap (λ (s : Store). length (filter (is_held_by n) s.opens)) c.self.view_is in
    let e : c.loop.counter ≡ length (filter (is_held_by n) c.args.self.now.opens) = omega (arith, c.loop-test.false, c.loop.auto.counter-end, counted) in
    closing_ends n c.args.self.now c.loop.self (subst (λ k. IsClosing n c.args.self.now c.loop.self k) e c.loop.invariant)
