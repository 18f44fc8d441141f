-- A civil time from the epoch on has a year from 1970 on.
use Rattle.std.proofs.Common.{◌≡◌, ℕ, ◌*◌, inl, inr, refl, arith, pos, ◌≤ℤ◌}
use Rattle.std.specs.Prelude.{ℤ, negsuc}
use Rattle.std.proofs.lemmas.Int.{by_lt_z}
use Rattle.std.specs.Int.{FitsUnsignedBits}
use Rattle.jiff.specs.Types.{Date, DateTime}
use Rattle.jiff.specs.Words.{epoch_day, civil_nanos}
use Rattle.jiff.proofs.SpanFacts.{signed_arith}
use Rattle.jiff.proofs.Family.{epoch_day-lt, epoch_day_same, civil_nanos-parts, time_nanos_bound}
use Rattle.jiff_core.proofs.DateLemmas.{cases_date}
use Rattle.jiff_core.proofs.StandardFacts.{known_days}

epoch : Date
epoch = record { year = pos 1970; month = 1; day = 1; year_in = (omega (arith, signed_arith), omega (arith, signed_arith)); month_in = (omega arith, omega arith); day_in = (omega arith, omega arith) }

epoch_is : epoch_day epoch ≡ pos 0
unfolding epoch
epoch_is = known_days.0

year_is : epoch.year ≡ pos 1970
unfolding epoch
year_is = refl

first_day : (epoch.month ≡ 1) × (epoch.day ≡ 1)
unfolding epoch
first_day = (refl, refl)

pub year_from : (d : Date) → pos 0 ≤ℤ epoch_day d → pos 1970 ≤ℤ d.year
year_from d h =
    by_lt_z d.year (pos 1970)
    (λ lt. let e = epoch_day-lt d epoch (inl (rw year_is lt)) in absurd (omega (arith, signed_arith, e, epoch_is, h)))
    (λ ge. ge)

pub civil_from : (dt : DateTime) (at : ℕ) → civil_nanos dt ≡ pos (100 * at) → pos 1970 ≤ℤ dt.date.year
civil_from dt at e = year_from dt.date (omega (arith, signed_arith, civil_nanos-parts dt, time_nanos_bound dt.time, e))

pub year_fits : (z : ℤ) → pos 1970 ≤ℤ z → z ≤ℤ pos 9999 → FitsUnsignedBits 16 z
year_fits (pos n) h k = omega (arith, signed_arith)
year_fits (negsuc n) h k = absurd (omega (arith, signed_arith, h))

pub day_from : (d : Date) → pos 1970 ≤ℤ d.year → pos 0 ≤ℤ epoch_day d
day_from d h = elim (cases_date d epoch) [
  | inl (inl lt) ↦ absurd (omega (arith, signed_arith, lt, h, year_is))
  | inl (inr (y, inl lt)) ↦ absurd (omega (arith, lt, first_day.0, d.month_in))
  | inl (inr (y, inr (m, lt))) ↦ absurd (omega (arith, lt, first_day.1, d.day_in))
  | inr (inl gt) ↦ omega (arith, signed_arith, epoch_day-lt epoch d gt, epoch_is)
  | inr (inr same) ↦ omega (arith, signed_arith, epoch_day_same d epoch same.0 same.1 same.2, epoch_is)
]
