-- How many items two lists share at their front. In proofs this number stands in place of prefixes.
use Rattle.std.proofs.Common.{◌≡◌, ℕ, zero, suc, ◌+◌, ◌≤◌, ◌<◌, List, [], ◌∷◌, ◌++◌, length, take, ◌⊎◌, refl, sym, arith, inl, inr}

-- two items are the same or not
abbrev pub Decides : Type 0 → Type 0
Decides E = (a b : E) → (a ≡ b) ⊎ (a ≡ b → ⊥)

abbrev pub if_same : {P Q : Type 0} → P ⊎ Q → ℕ → ℕ
if_same (inl p) n = n
if_same (inr q) n = 0

if_same-yes : {P : Type 0} (d : P ⊎ (P → ⊥)) (n : ℕ) → P → if_same d n ≡ n
if_same-yes (inl p) n h = refl
if_same-yes (inr q) n h = absurd (q h)

if_same-no : {P : Type 0} (d : P ⊎ (P → ⊥)) (n : ℕ) → (P → ⊥) → if_same d n ≡ 0
if_same-no (inl p) n h = absurd (h p)
if_same-no (inr q) n h = refl

module _ {E : Type 0} (decide : Decides E) where
  abbrev pub shared : List E → List E → ℕ
  shared [] ys = 0
  shared (a ∷ xs) [] = 0
  shared (a ∷ xs) (b ∷ ys) = if_same (decide a b) (suc (shared xs ys))

  pub shared-same : (a b : E) (xs ys : List E) → a ≡ b → shared (a ∷ xs) (b ∷ ys) ≡ suc (shared xs ys)
  shared-same a b xs ys e = if_same-yes (decide a b) (suc (shared xs ys)) e

  pub shared-other : (a b : E) (xs ys : List E) → (a ≡ b → ⊥) → shared (a ∷ xs) (b ∷ ys) ≡ 0
  shared-other a b xs ys e = if_same-no (decide a b) (suc (shared xs ys)) e

  cons-same : (a b : E) (x y : List E) → a ≡ b → x ≡ y → a ∷ x ≡ b ∷ y
  cons-same a b x y e f = cc

  pub shared-left : (xs ys : List E) → shared xs ys ≤ length xs
  shared-left [] ys = omega arith
  shared-left (a ∷ xs) [] = omega arith
  shared-left (a ∷ xs) (b ∷ ys) =
      elim (decide a b) [
        | inl e ↦ omega (arith, shared-same a b xs ys e, shared-left xs ys)
        | inr e ↦ omega (arith, shared-other a b xs ys e)
      ]

  pub shared-right : (xs ys : List E) → shared xs ys ≤ length ys
  shared-right [] ys = omega arith
  shared-right (a ∷ xs) [] = omega arith
  shared-right (a ∷ xs) (b ∷ ys) =
      elim (decide a b) [
        | inl e ↦ omega (arith, shared-same a b xs ys e, shared-right xs ys)
        | inr e ↦ omega (arith, shared-other a b xs ys e)
      ]

  pub shared-append : (xs x y : List E) → shared (xs ++ x) (xs ++ y) ≡ length xs + shared x y
  shared-append [] x y = omega arith
  shared-append (a ∷ xs) x y = omega (arith, shared-same a a (xs ++ x) (xs ++ y) refl, shared-append xs x y)

  pub shared-more : (xs x ys : List E) → shared xs ys ≤ shared (xs ++ x) ys
  shared-more [] x ys = omega arith
  shared-more (a ∷ xs) x [] = omega arith
  shared-more (a ∷ xs) x (b ∷ ys) =
      elim (decide a b) [
        | inl e ↦ omega (arith, shared-same a b xs ys e, shared-same a b (xs ++ x) ys e, shared-more xs x ys)
        | inr e ↦ omega (arith, shared-other a b xs ys e)
      ]

  -- the bytes begin with the text, or differ from it before its end
  pub shared-cases : (xs x ys : List E) → ((rest : List E) × (ys ≡ xs ++ rest)) ⊎ ((shared (xs ++ x) ys ≡ shared xs ys) × (shared xs ys < length xs))
  shared-cases [] x ys = inl (ys, refl)
  shared-cases (a ∷ xs) x [] = inr (refl, omega arith)
  shared-cases (a ∷ xs) x (b ∷ ys) =
      elim (decide a b) [
        | inl e ↦ elim (shared-cases xs x ys) [
          | inl found ↦ inl (found.0, cons-same b a ys (xs ++ found.0) (sym e) found.1)
          | inr other ↦ inr (omega (arith, shared-same a b xs ys e, shared-same a b (xs ++ x) ys e, other.0), omega (arith, shared-same a b xs ys e, other.1))
        ]
        | inr e ↦ inr (omega (arith, shared-other a b xs ys e, shared-other a b (xs ++ x) ys e), omega (arith, shared-other a b xs ys e))
      ]

  -- a text that shares so much begins with it
  pub shared-front : (xs t r : List E) → length xs ≤ shared t (xs ++ r) → (z : List E) × (t ≡ xs ++ z)
  shared-front [] t r h = (t, refl)
  shared-front (a ∷ xs) [] r h = absurd (omega (arith, h))
  shared-front (a ∷ xs) (b ∷ t) r h =
      elim (decide b a) [
        | inl e ↦ let f = shared-front xs t r (omega (arith, h, shared-same b a t (xs ++ r) e)) in (f.0, cons-same b a t (xs ++ f.0) e f.1)
        | inr e ↦ absurd (omega (arith, h, shared-other b a t (xs ++ r) e))
      ]

  pub shared-self : (xs rest : List E) → shared xs (xs ++ rest) ≡ length xs
  shared-self [] rest = refl
  shared-self (a ∷ xs) rest = omega (arith, shared-same a a xs (xs ++ rest) refl, shared-self xs rest)

  -- sharing n bytes is to begin with the first n
  pub shared-begins : (n : ℕ) (t ys : List E) → n ≤ shared t ys → (more : List E) × (t ≡ take n ys ++ more)
  shared-begins zero t ys h = (t, refl)
  shared-begins (suc n) [] ys h = absurd (omega (arith, h))
  shared-begins (suc n) (a ∷ t) [] h = absurd (omega (arith, h))
  shared-begins (suc n) (a ∷ t) (b ∷ ys) h =
      elim (decide a b) [
        | inl e ↦ let f = shared-begins n t ys (omega (arith, h, shared-same a b t ys e)) in (f.0, cons-same a b t (take n ys ++ f.0) e f.1)
        | inr e ↦ absurd (omega (arith, h, shared-other a b t ys e))
      ]

  pub begins-shared : (n : ℕ) (t ys more : List E) → n ≤ length ys → t ≡ take n ys ++ more → n ≤ shared t ys
  begins-shared zero t ys more le e = omega arith
  begins-shared (suc n) t [] more le e = absurd (omega (arith, le))
  begins-shared (suc n) t (b ∷ ys) more le e =
      let below = begins-shared n (take n ys ++ more) ys more (omega (arith, le)) refl in
      rw e (omega (arith, below, shared-same b b (take n ys ++ more) ys refl))
