-- The fields of a moment's text are those of the civil times of the moments up to the greatest one that has a text.
use Rattle.std.proofs.Common.{◌≡◌, ℕ, ◌+◌, ◌*◌, ◌/◌, ◌≤◌, Bool, true, false, cond, eqb, ◌&&◌, refl, sym, ap, subst, ◌∙◌, arith, inl, inr, pos, ◌≤ℤ◌, unsigned_abs}
use Rattle.std.specs.Prelude.{ℤ, negsuc}
use Rattle.std.proofs.lemmas.Bool.{false≢true, cases_lt, eq-eqb, eqb-true, and_from, and_parts}
use Rattle.jiff.specs.Types.{Date, DateTime}
use Rattle.jiff.specs.Words.{epoch_day, days_in_month}
use Rattle.jiff.proofs.SpanFacts.{signed_arith}
use Rattle.jiff.proofs.Family.{epoch_day-lt, epoch_day_same, epoch_day_injective, civil_nanos-parts}
use Rattle.jiff_core.specs.Calendar.{days_from_civil, day_count, days_of_years, days_of_months}
use Rattle.jiff_core.proofs.DateLemmas.{cases_date}
use Rattle.sx_text.specs.Numbers.{IsFrom}
use Rattle.sx_base.specs.Moment.{Fields, fields_of, IsCivilTime, IsMoment}
use Rattle.sx_base.specs.MomentReader.{is_last_day, month_most, day_most, hour_most, minute_most, second_most, ticks_most, IsFields, IsCivil, Shows}
use Rattle.sx_base.proofs.MomentReading.{days_in_is}
use Rattle.sx_base.proofs.Years.{civil_from, day_from}

under : (b : Bool) (x y n : ℕ) → n ≤ cond b x y → b ≡ true → n ≤ x
under true x y n h e = h
under false x y n h e = absurd (false≢true e)

pub under_both : (b : Bool) (x y n : ℕ) → x ≤ y → n ≤ cond b x y → n ≤ y
under_both true x y n le h = omega (arith, le, h)
under_both false x y n le h = h

over : (b : Bool) (x y n : ℕ) → (b ≡ true → n ≤ x) → n ≤ y → n ≤ cond b x y
over true x y n t f = t refl
over false x y n t f = f

abbrev day_ticks : ℕ → ℕ → ℕ → ℕ → ℕ
day_ticks h mi s f = (h * 3600 + mi * 60 + s) * 10000000 + f

-- they are no later than those of the greatest moment
pub record IsInTime (y mo d h mi s f : ℕ) : Type 0 where
  pub month : y ≡ 9892 → mo ≤ 3
  pub day : y ≡ 9892 → mo ≡ 3 → d ≤ 8
  pub clock : is_last_day (y, (mo, d)) ≡ true → day_ticks h mi s f ≤ 452294967295

pub civil_fields : (y mo d h mi s f : ℕ) → IsFields ((y, (mo, d)), ((h, (mi, s)), f)) → IsCivil y mo d h mi s f
unfolding month_most day_most hour_most minute_most second_most ticks_most
civil_fields y mo d h mi s f x =
    let last = is_last_day (y, (mo, d)) in
    record {
      year = x.0.0;
      month = (x.0.1.0.0, under_both (eqb y 9892) 3 12 mo (omega arith) x.0.1.0.1);
      day = (x.0.1.1.0, under_both (eqb y 9892 && eqb mo 3) 8 (days_in_month (pos y) mo) d (omega (arith, (days_in_is y mo).0)) x.0.1.1.1);
      hour = under_both last 12 23 h (omega arith) x.1.0.0.1;
      minute = under_both (last && eqb h 12) 33 59 mi (omega arith) x.1.0.1.0.1;
      second = under_both (last && (eqb h 12 && eqb mi 33)) 49 59 s (omega arith) x.1.0.1.1.1;
      ticks = under_both (last && (eqb h 12 && (eqb mi 33 && eqb s 49))) 4967295 9999999 f (omega arith) x.1.1.1;
    }

pub fields_in_time : (y mo d h mi s f : ℕ) → IsFields ((y, (mo, d)), ((h, (mi, s)), f)) → IsInTime y mo d h mi s f
unfolding month_most day_most hour_most minute_most second_most ticks_most
fields_in_time y mo d h mi s f x =
    let c = civil_fields y mo d h mi s f x in
    record {
      month = λ e. under (eqb y 9892) 3 12 mo x.0.1.0.1 (eq-eqb y 9892 e);
      day = λ e k. under (eqb y 9892 && eqb mo 3) 8 (days_in_month (pos y) mo) d x.0.1.1.1 (and_from (eqb y 9892) (eqb mo 3) (eq-eqb y 9892 e) (eq-eqb mo 3 k));
      clock = λ last. clock c last;
    }
  where
    clock : IsCivil y mo d h mi s f → is_last_day (y, (mo, d)) ≡ true → day_ticks h mi s f ≤ 452294967295
    clock c last =
        let b = is_last_day (y, (mo, d)) in
        let ho = under b 12 23 h x.1.0.0.1 last in
        elim (cases_lt h 12) [
          | inl lt ↦ omega (arith, lt, c.minute, c.second, c.ticks)
          | inr ge ↦
              let h_is : eqb h 12 ≡ true = eq-eqb h 12 (omega (arith, ho, ge)) in
              let mi_le = under (b && eqb h 12) 33 59 mi x.1.0.1.0.1 (and_from b (eqb h 12) last h_is) in
              elim (cases_lt mi 33) [
                | inl lt ↦ omega (arith, ho, lt, c.second, c.ticks)
                | inr ge₂ ↦
                    let mi_is : eqb mi 33 ≡ true = eq-eqb mi 33 (omega (arith, mi_le, ge₂)) in
                    let so = under (b && (eqb h 12 && eqb mi 33)) 49 59 s x.1.0.1.1.1 (and_from b (eqb h 12 && eqb mi 33) last (and_from (eqb h 12) (eqb mi 33) h_is mi_is)) in
                    elim (cases_lt s 49) [
                      | inl lt ↦ omega (arith, ho, mi_le, lt, c.ticks)
                      | inr ge₃ ↦
                          let s_is : eqb s 49 ≡ true = eq-eqb s 49 (omega (arith, so, ge₃)) in
                          let fo = under (b && (eqb h 12 && (eqb mi 33 && eqb s 49))) 4967295 9999999 f x.1.1.1
                          (and_from b (eqb h 12 && (eqb mi 33 && eqb s 49)) last (and_from (eqb h 12) (eqb mi 33 && eqb s 49) h_is (and_from (eqb mi 33) (eqb s 49) mi_is s_is))) in
                          omega (arith, ho, mi_le, so, fo)
                    ]
              ]
        ]

pub fields_by : (y mo d h mi s f : ℕ) → IsCivil y mo d h mi s f → IsInTime y mo d h mi s f → IsFields ((y, (mo, d)), ((h, (mi, s)), f))
unfolding month_most day_most hour_most minute_most second_most ticks_most
fields_by y mo d h mi s f c t =
    let b = is_last_day (y, (mo, d)) in (
      (
        c.year,
        (
          (c.month.0, over (eqb y 9892) 3 12 mo (λ e. t.month (eqb-true y 9892 e)) c.month.1),
          (c.day.0, over (eqb y 9892 && eqb mo 3) 8 (days_in_month (pos y) mo) d (λ e. let p = and_parts (eqb y 9892) (eqb mo 3) e in t.day (eqb-true y 9892 p.0) (eqb-true mo 3 p.1)) c.day.1),
        ),
      ),
      (
        (
          (omega arith, over b 12 23 h (λ e. omega (arith, t.clock e)) c.hour),
          (
            (omega arith, over (b && eqb h 12) 33 59 mi (λ e. let p = and_parts b (eqb h 12) e in omega (arith, t.clock p.0, eqb-true h 12 p.1)) c.minute),
            (omega arith, over (b && (eqb h 12 && eqb mi 33)) 49 59 s (λ e. let p = and_parts b (eqb h 12 && eqb mi 33) e in let q = and_parts (eqb h 12) (eqb mi 33) p.1 in omega (arith, t.clock p.0, eqb-true h 12 q.0, eqb-true mi 33 q.1)) c.second),
          ),
        ),
        (
          omega arith,
          over (b && (eqb h 12 && (eqb mi 33 && eqb s 49))) 4967295 9999999 f (λ e.
              let p = and_parts b (eqb h 12 && (eqb mi 33 && eqb s 49)) e in
              let q = and_parts (eqb h 12) (eqb mi 33 && eqb s 49) p.1 in
              let r = and_parts (eqb mi 33) (eqb s 49) q.1 in
              omega (arith, t.clock p.0, eqb-true h 12 q.0, eqb-true mi 33 r.0, eqb-true s 49 r.1)) c.ticks,
        ),
      ),
    )

-- the day of the greatest moment
last : Date
last = record { year = pos 9892; month = 3; day = 8; year_in = (omega (arith, signed_arith), omega (arith, signed_arith)); month_in = (omega arith, omega arith); day_in = (omega arith, omega arith) }

last_number : epoch_day last ≡ pos 2893518
unfolding last days_from_civil day_count days_of_years days_of_months
last_number = refl

last_parts : (last.year ≡ pos 9892) × (last.month ≡ 3) × (last.day ≡ 8)
unfolding last
last_parts = (refl, refl, refl)

pos_of : (z : ℤ) → pos 1970 ≤ℤ z → pos (unsigned_abs z) ≡ z
pos_of (pos n) h = refl
pos_of (negsuc n) h = absurd (omega (arith, signed_arith, h))

-- ---- each moment's civil time has such fields

is_day : (y mo d : ℕ) → is_last_day (y, (mo, d)) ≡ true → (y ≡ 9892) × (mo ≡ 3) × (d ≡ 8)
is_day y mo d e =
    let p = and_parts (eqb y 9892) (eqb mo 3 && eqb d 8) e in
    let q = and_parts (eqb mo 3) (eqb d 8) p.1 in
    (eqb-true y 9892 p.0, eqb-true mo 3 q.0, eqb-true d 8 q.1)

day_is : (y mo d : ℕ) → y ≡ 9892 → mo ≡ 3 → d ≡ 8 → is_last_day (y, (mo, d)) ≡ true
day_is y mo d a b c = and_from (eqb y 9892) (eqb mo 3 && eqb d 8) (eq-eqb y 9892 a) (and_from (eqb mo 3) (eqb d 8) (eq-eqb mo 3 b) (eq-eqb d 8 c))

-- a day up to the last
record IsUpToLast (d : Date) : Type 0 where
  number : epoch_day d ≤ℤ pos 2893518
  year : d.year ≤ℤ pos 9892
  month : d.year ≡ pos 9892 → d.month ≤ 3
  day : d.year ≡ pos 9892 → d.month ≡ 3 → d.day ≤ 8
  here : d.year ≡ pos 9892 → d.month ≡ 3 → d.day ≡ 8 → epoch_day d ≡ pos 2893518

up_to_last : (d : Date) → epoch_day d ≤ℤ pos 2893518 → IsUpToLast d
up_to_last d le = elim (cases_date d last) [
  | inl (inl lt) ↦ record {
    number = le;
    year = omega (arith, signed_arith, lt, last_parts.0);
    month = λ e. absurd (omega (arith, signed_arith, lt, last_parts.0, e));
    day = λ e k. absurd (omega (arith, signed_arith, lt, last_parts.0, e));
    here = λ e k l. absurd (omega (arith, signed_arith, lt, last_parts.0, e));
  }
  | inl (inr (y, inl lt)) ↦ record {
    number = le;
    year = omega (arith, signed_arith, y, last_parts.0);
    month = λ e. omega (arith, lt, last_parts.1);
    day = λ e k. absurd (omega (arith, lt, k, last_parts.1));
    here = λ e k l. absurd (omega (arith, lt, k, last_parts.1));
  }
  | inl (inr (y, inr (m, lt))) ↦ record {
    number = le;
    year = omega (arith, signed_arith, y, last_parts.0);
    month = λ e. omega (arith, m, last_parts.1);
    day = λ e k. omega (arith, lt, last_parts.2);
    here = λ e k l. absurd (omega (arith, lt, l, last_parts.2));
  }
  | inr (inl gt) ↦ absurd (omega (arith, signed_arith, epoch_day-lt last d gt, last_number, le))
  | inr (inr same) ↦ record {
    number = le;
    year = omega (arith, signed_arith, same.0, last_parts.0);
    month = λ e. omega (arith, same.1, last_parts.1);
    day = λ e k. omega (arith, same.2, last_parts.2);
    here = λ e k l. epoch_day_same d last same.0 same.1 same.2 ∙ last_number;
  }
]

pub moment_fields : (dt : DateTime) → IsMoment dt → IsFields (fields_of dt)
moment_fields dt x =
    let from = civil_from dt x.0 x.2 in
    let parts = civil_nanos-parts dt in
    let up = up_to_last dt.date (omega (arith, signed_arith, x.1, x.2, parts)) in
    let y = unsigned_abs dt.date.year in
    let is = pos_of dt.date.year from in
    fields_by y dt.date.month dt.date.day dt.time.hour dt.time.minute dt.time.second (dt.time.subsec_nanosecond / 100)
    (record {
      year = (omega (arith, signed_arith, is, from), omega (arith, signed_arith, is, up.year));
      month = dt.date.month_in;
      day = subst (λ (z : ℤ). IsFrom 1 (days_in_month z dt.date.month) dt.date.day) (sym is) dt.date.day_in;
      hour = omega (arith, dt.time.hour_in);
      minute = omega (arith, dt.time.minute_in);
      second = omega (arith, dt.time.second_in);
      ticks = omega (arith, dt.time.subsec_in);
    })
    (record {
      month = λ e. up.month (sym is ∙ ap pos e);
      day = λ e k. up.day (sym is ∙ ap pos e) k;
      clock = λ l.
          let d = is_day y dt.date.month dt.date.day l in
          let n = up.here (sym is ∙ ap pos d.0) d.1 d.2 in
          omega (arith, signed_arith, n, x.1, x.2, parts);
    })

-- ---- and such fields are those of a moment's civil time

number_up : (d : Date) → d.year ≤ℤ pos 9892 → (d.year ≡ pos 9892 → d.month ≤ 3) → (d.year ≡ pos 9892 → d.month ≡ 3 → d.day ≤ 8) → epoch_day d ≤ℤ pos 2893518
number_up d year month day = elim (cases_date d last) [
  | inl lt ↦ omega (arith, signed_arith, epoch_day-lt d last lt, last_number)
  | inr (inl (inl lt)) ↦ absurd (omega (arith, signed_arith, lt, year, last_parts.0))
  | inr (inl (inr (y, inl lt))) ↦ absurd (omega (arith, lt, last_parts.1, month (sym y ∙ last_parts.0)))
  | inr (inl (inr (y, inr (m, lt)))) ↦ absurd (omega (arith, lt, last_parts.2, day (sym y ∙ last_parts.0) (sym m ∙ last_parts.1)))
  | inr (inr same) ↦ omega (arith, signed_arith, epoch_day_same d last same.0 same.1 same.2, last_number)
]

pos_from_zero : (z : ℤ) → pos 0 ≤ℤ z → pos (unsigned_abs z) ≡ z
pos_from_zero (pos n) h = refl
pos_from_zero (negsuc n) h = absurd (omega (arith, signed_arith, h))

pos_is : (a b : ℕ) → pos a ≡ pos b → a ≡ b
pos_is a b e = cc

-- a civil time with such fields is a moment's, that of these ticks
pub shown_moment : (dt : DateTime) (y mo d h mi s f : ℕ) → Shows dt y mo d h mi s f → IsCivil y mo d h mi s f → IsInTime y mo d h mi s f → IsMoment dt
shown_moment dt y mo d h mi s f x c t =
    let up = number_up dt.date (omega (arith, signed_arith, x.0, c.year.1)) (λ e. omega (arith, x.1, t.month (pos_is y 9892 (sym x.0 ∙ e)))) (λ e k. omega (arith, x.2, t.day (pos_is y 9892 (sym x.0 ∙ e)) (sym x.1 ∙ k))) in
    let from = day_from dt.date (omega (arith, signed_arith, x.0, c.year.0)) in
    let n = unsigned_abs (epoch_day dt.date) in
    let is : pos n ≡ epoch_day dt.date = pos_from_zero (epoch_day dt.date) from in
    let parts = civil_nanos-parts dt in
    let at = n * 864000000000 + day_ticks h mi s f in (
      at,
      elim (cases_lt n 2893518) [
        | inl lt ↦ omega (arith, lt, c.hour, c.minute, c.second, c.ticks)
        | inr ge ↦
            let n_is : n ≡ 2893518 = omega (arith, signed_arith, ge, is, up) in
            let same = epoch_day_injective dt.date last (sym is ∙ ap pos n_is ∙ sym last_number) in
            let l = day_is y mo d (pos_is y 9892 (sym x.0 ∙ same.0 ∙ last_parts.0)) (sym x.1 ∙ same.1 ∙ last_parts.1) (sym x.2 ∙ same.2 ∙ last_parts.2) in
            omega (arith, n_is, t.clock l)
      ],
      omega (arith, signed_arith, parts, is, x.3, x.4, x.5, x.6),
    )

made : (y mo d h mi s f : ℕ) → IsCivil y mo d h mi s f → DateTime
made y mo d h mi s f c = record {
  date = record { year = pos y; month = mo; day = d; year_in = (omega (arith, signed_arith, c.year.0), omega (arith, signed_arith, c.year.1)); month_in = c.month; day_in = c.day };
  time = record { hour = h; minute = mi; second = s; subsec_nanosecond = 100 * f; hour_in = omega (arith, c.hour); minute_in = omega (arith, c.minute); second_in = omega (arith, c.second); subsec_in = omega (arith, c.ticks) };
}

made_shows : (y mo d h mi s f : ℕ) (c : IsCivil y mo d h mi s f) → Shows (made y mo d h mi s f c) y mo d h mi s f
unfolding made
made_shows y mo d h mi s f c = (refl, refl, refl, refl, refl, refl, refl)

pub shown_fields : (dt : DateTime) (y mo d h mi s f : ℕ) → Shows dt y mo d h mi s f → fields_of dt ≡ ((y, (mo, d)), ((h, (mi, s)), f))
shown_fields dt y mo d h mi s f x =
    let e : dt.time.subsec_nanosecond / 100 ≡ f = omega (arith, x.6) in
    rw (x.0, x.1, x.2, x.3, x.4, x.5, e) refl

pub fields_moment : (m : Fields) → IsFields m → (dt : DateTime) × IsMoment dt × (fields_of dt ≡ m)
fields_moment ((y, (mo, d)), ((h, (mi, s)), f)) x =
    let c = civil_fields y mo d h mi s f x in
    let dt = made y mo d h mi s f c in
    let shows = made_shows y mo d h mi s f c in
    (dt, shown_moment dt y mo d h mi s f shows c (fields_in_time y mo d h mi s f x), shown_fields dt y mo d h mi s f shows)

-- civil times of moments that show the same fields are those of one moment
pub same_moment : (a b : DateTime) (m n : ℕ) → IsCivilTime a m → IsCivilTime b n → fields_of a ≡ fields_of b → m ≡ n
same_moment a b m n ea eb e =
    let ya = pos_of a.date.year (civil_from a m ea) in
    let yb = pos_of b.date.year (civil_from b n eb) in
    let year : a.date.year ≡ b.date.year = sym ya ∙ ap (λ (x : Fields). pos x.0.0) e ∙ yb in
    let days = epoch_day_same a.date b.date year (ap (λ (x : Fields). x.0.1.0) e) (ap (λ (x : Fields). x.0.1.1) e) in
    omega (
      arith,
      signed_arith,
      ea,
      eb,
      civil_nanos-parts a,
      civil_nanos-parts b,
      days,
      ap (λ (x : Fields). x.1.0.0) e,
      ap (λ (x : Fields). x.1.0.1.0) e,
      ap (λ (x : Fields). x.1.0.1.1) e,
      ap (λ (x : Fields). x.1.1) e,
    )
