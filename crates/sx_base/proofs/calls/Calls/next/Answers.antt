use Rattle.std.proofs.Common.{◌≡◌, ◌+◌, true, false, subst, refl, sym, ap, ◌∙◌}
use Rattle.std.specs.Prelude.{List, ℕ}
use Rattle.std.proofs.Math.Nat.{add-zero}
use Rattle.sx_base.specs.Calls.{CallCounts, FailsAsListed, as_listed_none, lists}
use Rattle.sx_base.proofs.Calling.{one_call}
use Rattle.sx_base.proofs.calls.Calls.next.Goals as goal

pub returns-then-call-clause-step : goal.returns-then-call-clause-step
returns-then-call-clause-step c = as_listed_none c.args.self.now

pub returns-then-contains-clause-step : goal.returns-then-contains-clause-step
returns-then-contains-clause-step c =
    let i = c.self.inside in
    let e : lists i.failing i.made ≡ true = ap (λ (xs : List ℕ). lists xs i.made) (sym c.as_slice.ensures) ∙ sym c.contains.ensures.value ∙ c.if-contains.true in
    subst (λ (a : CallCounts). FailsAsListed a (record { failing = i.failing; made = i.made + 1; faults = i.faults + 1 })) c.self.view_is (one_call i.failing i.made i.faults (i.faults + 1) true e refl)

pub returns-clause-step : goal.returns-clause-step
returns-clause-step c =
    let i = c.self.inside in
    let e : lists i.failing i.made ≡ false = ap (λ (xs : List ℕ). lists xs i.made) (sym c.as_slice.ensures) ∙ sym c.contains.ensures.value ∙ c.if-contains.false in
    subst (λ (a : CallCounts). FailsAsListed a (record { failing = i.failing; made = i.made + 1; faults = i.faults })) c.self.view_is (one_call i.failing i.made i.faults i.faults false e (sym (add-zero i.faults)))
