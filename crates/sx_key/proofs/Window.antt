-- When a date is timely.
use Rattle.std.proofs.Common.{◌≡◌, ℕ, ◌-◌, ◌≤◌, Bool, true, false, Ok, Err, refl, arith}
use Rattle.std.specs.Prelude.{nat_lt, if◌then◌else◌}
use Rattle.std.proofs.lemmas.Bool.Decides.{nat_tests}
use Rattle.sx_key.specs.declared.fault.AuthFault.{AuthFault}
use Rattle.sx_key.specs.declared.fault.AuthFault.TheVariants.{TooOld, TooNew}
use Rattle.sx_key.specs.Answers.{Checked}
use Rattle.sx_key.specs.declared.checking.TheConstants.{DATE_WINDOW}
use Rattle.sx_key.specs.Laws.{TimelyWithin}

neither : (a b : Bool) (e f : AuthFault) → ◌≡◌ {A = Checked (Unit {0})} (if a then Err e else if b then Err f else Ok tt) (Ok tt) → (a ≡ false) × (b ≡ false)
neither true b e f h = cc
neither false true e f h = cc
neither false false e f h = (refl, refl)

not_below : (x y : ℕ) → nat_lt x y ≡ false → y ≤ x
not_below x y e = grind (arith, nat_tests)

is_not_below : (x y : ℕ) → y ≤ x → nat_lt x y ≡ false
is_not_below x y h = grind (arith, nat_tests)

pub timely_within : TimelyWithin
timely_within date now = (
  λ e.
      let parts = neither (nat_lt DATE_WINDOW (now - date)) (nat_lt DATE_WINDOW (date - now)) (TooOld date now) (TooNew date now) e in
      let old = not_below DATE_WINDOW (now - date) parts.0 in
      let new = not_below DATE_WINDOW (date - now) parts.1 in
      (omega (arith, old), omega (arith, new)),
  λ h.
      let old = is_not_below DATE_WINDOW (now - date) (omega (arith, h.0)) in
      let new = is_not_below DATE_WINDOW (date - now) (omega (arith, h.1)) in
      rw (old, new) refl,
)
