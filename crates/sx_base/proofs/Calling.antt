-- The next call of an object in memory.
use Rattle.std.proofs.Common.{ℕ, ◌≡◌, ◌+◌, List, Bool, cond, refl, ap, arith}
use Rattle.std.proofs.Math.Nat.{add-zero}
use Rattle.sx_base.specs.Calls.{lists, listed, FailsAsListed}

listed_one : (failing : List ℕ) (made : ℕ) → listed failing made 1 ≡ cond (lists failing made) 1 0
unfolding listed
listed_one failing made = omega (arith, ap {B = ℕ} (λ k. cond (lists failing k) 1 0) (add-zero made))

-- it failed, if it is listed
pub one_call : (failing : List ℕ) (made faults later : ℕ) (fails : Bool) → lists failing made ≡ fails → later ≡ faults + cond fails 1 0
    → FailsAsListed (record { failing = failing; made = made; faults = faults }) (record { failing = failing; made = made + 1; faults = later })
one_call failing made faults later fails e h = record {
  calls = 1;
  failing = refl;
  made = refl;
  faults = omega (arith, h, listed_one failing made, ap {B = ℕ} (λ b. cond b 1 0) e);
}
