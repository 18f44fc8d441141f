-- The fields of a moment in plain arithmetic are those of its civil time in jiff's calendar.
use Rattle.std.proofs.Common.{◌≡◌, ℕ, ◌*◌, ◌/◌, ◌%◌, ◌<◌, List, refl, sym, ap, subst, ◌∙◌, arith, pos, unsigned_abs}
use Rattle.std.proofs.lemmas.Bool.{cases_eq}
use Rattle.jiff.specs.Types.{DateTime}
use Rattle.jiff.proofs.SpanFacts.{signed_arith}
use Rattle.jiff.proofs.Family.{epoch_day_injective, time_nanos_injective, civil_nanos-parts, civil_nanos_injective, civil_nanos_range}
use Rattle.sx_text.proofs.Laws.{Reads, made-reading}
use Rattle.sx_base.specs.Moment.{Fields, Day, civil_day, days_before, time_of_day, fields_text, fields_of, fields_at_moment, moment_of, moment_text, IsWritten, IsCivilTime, IsMomentText}
use Rattle.sx_base.specs.MomentReader.{IsFields, fields_at, moment_at}
use Rattle.sx_base.proofs.Calendars.{IsDayOf, same_number, day_of_number}
use Rattle.sx_base.proofs.CivilFields.{moment_fields, fields_moment}
use Rattle.sx_base.proofs.MomentReading.{fields-reading}

-- the moment lies before the year 10000
abbrev pub IsInCalendar : ℕ → Type 0
IsInCalendar at = days_before at < 2932897

time_with : (days : ℕ) (d : Day) → IsDayOf days d → ℕ → DateTime
time_with days d h at = record {
  date = record { year = pos d.0; month = d.1.0; day = d.1.1; year_in = (omega (arith, signed_arith, h.0.0), omega (arith, signed_arith, h.0.0)); month_in = h.0.1; day_in = h.0.2 };
  time = record { hour = at / 10000000 / 3600 % 24; minute = at / 10000000 / 60 % 60; second = at / 10000000 % 60; subsec_nanosecond = 100 * (at % 10000000); hour_in = omega arith; minute_in = omega arith; second_in = omega arith; subsec_in = omega arith };
}

nanos_with : (days : ℕ) (d : Day) (h : IsDayOf days d) (at : ℕ) → days ≡ days_before at → IsCivilTime (time_with days d h at) at
unfolding time_with
nanos_with days d h at e = omega (arith, signed_arith, civil_nanos-parts (time_with days d h at), same_number d.0 d.1.0 d.1.1 h.0.0.0 h.0.2.0, h.1, e)

fields_with : (days : ℕ) (d : Day) (h : IsDayOf days d) (at : ℕ) → fields_of (time_with days d h at) ≡ (d, (time_of_day at, at % 10000000))
unfolding time_with
fields_with days d h at = let e : 100 * (at % 10000000) / 100 ≡ at % 10000000 = omega arith in rw e refl

-- the civil time of a moment
pub civil_time_at : (at : ℕ) → IsInCalendar at → (dt : DateTime) × IsCivilTime dt at × (fields_of dt ≡ fields_at_moment at)
civil_time_at at lt =
    let days = days_before at in
    let h = day_of_number days lt in
    (time_with days (civil_day days) h at, nanos_with days (civil_day days) h at refl, fields_with days (civil_day days) h at)

pub in_calendar : (dt : DateTime) (at : ℕ) → IsCivilTime dt at → IsInCalendar at
in_calendar dt at e = omega (arith, signed_arith, e, civil_nanos_range dt)

pub written_in_calendar : (at : ℕ) → IsWritten at → IsInCalendar at
written_in_calendar at le = omega (arith, le)

same_fields : (a b : DateTime) → (a.date.year ≡ b.date.year) × (a.date.month ≡ b.date.month) × (a.date.day ≡ b.date.day)
    → (a.time.hour ≡ b.time.hour) × (a.time.minute ≡ b.time.minute) × (a.time.second ≡ b.time.second) × (a.time.subsec_nanosecond ≡ b.time.subsec_nanosecond) → fields_of a ≡ fields_of b
same_fields a b d t = λ i. ((unsigned_abs (d.0 i), (d.1 i, d.2 i)), ((t.0 i, (t.1 i, t.2 i)), t.3 i / 100))

-- the fields of a civil time of the moment are the moment's
pub fields_are : (dt : DateTime) (at : ℕ) → IsCivilTime dt at → fields_of dt ≡ fields_at_moment at
fields_are dt at e =
    let other = civil_time_at at (in_calendar dt at e) in
    let same = civil_nanos_injective dt other.0 (e ∙ sym other.1) in
    same_fields dt other.0 (epoch_day_injective dt.date other.0.date same.0) (time_nanos_injective dt.time other.0.time same.1) ∙ other.2

-- the moment of its own fields is the moment
pub moment_back : (at : ℕ) → IsInCalendar at → moment_of (fields_at_moment at) ≡ at
moment_back at lt = omega (arith, (day_of_number (days_before at) lt).1)

-- ---- texts

pub one_text_only : (text : List ℕ) (at : ℕ) → IsMomentText text at → text ≡ moment_text at
unfolding moment_text
one_text_only text at h = h.2 ∙ ap fields_text (fields_are h.0 at h.1)

pub one_text_at : (at : ℕ) → IsWritten at → IsMomentText (moment_text at) at
unfolding moment_text
one_text_at at le = let c = civil_time_at at (written_in_calendar at le) in (c.0, c.1, ap fields_text (sym c.2))

-- fields within the limits are those of their moment, which has a text
pub fields_of_it : (m : Fields) → IsFields m → IsWritten (moment_of m) × (fields_at_moment (moment_of m) ≡ m)
fields_of_it m x =
    let t = fields_moment m x in
    let at = t.1.0 in
    let f : fields_at_moment at ≡ m = sym (fields_are t.0 at t.1.2) ∙ t.2 in
    let n : at ≡ moment_of m = sym (moment_back at (in_calendar t.0 at t.1.2)) ∙ ap moment_of f in
    (subst IsWritten n t.1.1, ap fields_at_moment (sym n) ∙ f)

pub fields_within : (at : ℕ) → IsWritten at → IsFields (fields_at_moment at)
fields_within at le = let c = civil_time_at at (written_in_calendar at le) in subst IsFields c.2 (moment_fields c.0 (at, le, c.1))

pub moment-reading : Reads cases_eq moment_text IsWritten moment_at
unfolding moment_at moment_text
moment-reading k =
    made-reading cases_eq k fields_text IsFields fields_at moment_of fields_at_moment moment_text IsWritten
    (λ m x. let f = fields_of_it m x in (f.0, ap fields_text f.1))
    (λ at le. (fields_within at le, moment_back at (written_in_calendar at le)))
    (fields-reading k)
