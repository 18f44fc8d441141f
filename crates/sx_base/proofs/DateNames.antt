-- No name of a weekday, of a month or of a year stands where another one does.
use Rattle.std.proofs.Common.{◌≡◌, ℕ, zero, suc, ◌+◌, ◌-◌, ◌*◌, ◌<◌, Bool, true, false, not, ◌||◌, eqb, List, ◌++◌, get_or, refl, sym, ap, ◌∙◌, arith}
use Rattle.std.proofs.lemmas.Bool.{cases_eq, eq-eqb, eqb-true, agree_below, agree_below_at}
use Rattle.sx_text.specs.Numbers.{IsFrom}
use Rattle.sx_text.specs.Digits.{digits_text, digits_at}
use Rattle.sx_text.specs.Named.{AreApart}
use Rattle.sx_text.proofs.Laws.{one_text}
use Rattle.sx_text.proofs.FixedDigits.{digits-reading}
use Rattle.sx_base.specs.Date.{weekday_name, month_name}

-- the first three bytes, as one number
abbrev letters : List ℕ → ℕ
letters xs = (get_or xs 0 0 * 256 + get_or xs 1 0) * 256 + get_or xs 2 0

abbrev yes : ℕ → Bool
yes n = true

abbrev tells : (ℕ → ℕ) → ℕ → ℕ → Bool
tells f i j = not (eqb (f i) (f j)) || eqb i j

abbrev tells_all : (ℕ → ℕ) → ℕ → ℕ → Bool
tells_all f n i = agree_below (tells f i) yes n

told : (b c : Bool) → b ≡ true → (not b || c) ≡ true → c ≡ true
told true c e f = f
told false c e f = absurd cc

apart_by : (name : ℕ → List ℕ) (low n : ℕ) → ((i : ℕ) (x : List ℕ) → i < n → letters (name (i + low) ++ x) ≡ letters (name (i + low)))
    → agree_below (tells_all (λ i. letters (name (i + low))) n) yes n ≡ true → AreApart name low (low + n)
apart_by name low n front all i j x y li hi lj hj e =
    let f : ℕ → ℕ = λ k. letters (name (k + low)) in
    let a : i - low + low ≡ i = omega (arith, li) in
    let b : j - low + low ≡ j = omega (arith, lj) in
    let ix : letters (name i ++ x) ≡ f (i - low) = sym (ap (λ (k : ℕ). letters (name k ++ x)) a) ∙ front (i - low) x (omega (arith, hi, li)) in
    let jy : letters (name j ++ y) ≡ f (j - low) = sym (ap (λ (k : ℕ). letters (name k ++ y)) b) ∙ front (j - low) y (omega (arith, hj, lj)) in
    let same : f (i - low) ≡ f (j - low) = sym ix ∙ ap letters e ∙ jy in
    let row = agree_below_at (tells_all f n) yes n (i - low) all (omega (arith, hi, li)) in
    let cell = agree_below_at (tells f (i - low)) yes n (j - low) row (omega (arith, hj, lj)) in
    let is = eqb-true (i - low) (j - low) (told (eqb (f (i - low)) (f (j - low))) (eqb (i - low) (j - low)) (eq-eqb (f (i - low)) (f (j - low)) same) cell) in
    omega (arith, is, li, lj)

weekday_front : (i : ℕ) (x : List ℕ) → i < 7 → letters (weekday_name (i + 0) ++ x) ≡ letters (weekday_name (i + 0))
unfolding weekday_name
weekday_front zero x lt = refl
weekday_front (suc zero) x lt = refl
weekday_front (suc (suc zero)) x lt = refl
weekday_front (suc (suc (suc zero))) x lt = refl
weekday_front (suc (suc (suc (suc zero)))) x lt = refl
weekday_front (suc (suc (suc (suc (suc zero))))) x lt = refl
weekday_front (suc (suc (suc (suc (suc (suc zero)))))) x lt = refl
weekday_front (suc (suc (suc (suc (suc (suc (suc n))))))) x lt = absurd (omega (arith, lt))

pub weekdays_apart : AreApart weekday_name 0 (0 + 7)
unfolding weekday_name
weekdays_apart = apart_by weekday_name 0 7 weekday_front refl

month_front : (i : ℕ) (x : List ℕ) → i < 12 → letters (month_name (i + 1) ++ x) ≡ letters (month_name (i + 1))
unfolding month_name
month_front zero x lt = refl
month_front (suc zero) x lt = refl
month_front (suc (suc zero)) x lt = refl
month_front (suc (suc (suc zero))) x lt = refl
month_front (suc (suc (suc (suc zero)))) x lt = refl
month_front (suc (suc (suc (suc (suc zero))))) x lt = refl
month_front (suc (suc (suc (suc (suc (suc zero)))))) x lt = refl
month_front (suc (suc (suc (suc (suc (suc (suc zero))))))) x lt = refl
month_front (suc (suc (suc (suc (suc (suc (suc (suc zero)))))))) x lt = refl
month_front (suc (suc (suc (suc (suc (suc (suc (suc (suc zero))))))))) x lt = refl
month_front (suc (suc (suc (suc (suc (suc (suc (suc (suc (suc zero)))))))))) x lt = refl
month_front (suc (suc (suc (suc (suc (suc (suc (suc (suc (suc (suc zero))))))))))) x lt = refl
month_front (suc (suc (suc (suc (suc (suc (suc (suc (suc (suc (suc (suc n)))))))))))) x lt = absurd (omega (arith, lt))

pub months_apart : AreApart month_name 1 (1 + 12)
unfolding month_name
months_apart = apart_by month_name 1 12 month_front refl

pub years_apart : AreApart (digits_text 4) 1970 (1970 + 7923)
years_apart i j x y li hi lj hj e =
    (one_text cases_eq (digits_text 4) (IsFrom 0 9999) (digits_at 3 0 9999) (digits-reading 3 0 9999 (omega arith) (omega arith)) i j x y
    (omega arith, omega (arith, hi)) (omega arith, omega (arith, hj)) e).0
