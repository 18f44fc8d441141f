-- One of two forms, by the byte at the front.
use Rattle.std.proofs.Common.{◌≡◌, ℕ, ◌+◌, ◌≤◌, List, [], ◌∷◌, ◌++◌, length, ◌⊎◌, Ok, Err, refl, sym, ap, subst, ◌∙◌, arith, inl, inr}
use Rattle.std.proofs.lemmas.Bool.{cases_eq, eq-eqb, ne_eqb}
use Rattle.sx_text.specs.Texts.{Reader}
use Rattle.sx_text.specs.Readers.{either_at, IsStart, IsNoStart}
use Rattle.sx_text.proofs.Shared.{shared, shared-other, shared-right}
use Rattle.sx_text.proofs.Laws.{Stops, Reading}

at_start : {A : Type 0} (start : ℕ) (first second : Reader ℕ A) (b : ℕ) (bs : List ℕ) → b ≡ start → either_at start first second (b ∷ bs) ≡ first (b ∷ bs)
unfolding either_at
at_start start first second b bs same = rw (eq-eqb b start same) refl

elsewhere : {A : Type 0} (start : ℕ) (first second : Reader ℕ A) (b : ℕ) (bs : List ℕ) → (b ≡ start → ⊥) → either_at start first second (b ∷ bs) ≡ second (b ∷ bs)
unfolding either_at
elsewhere start first second b bs other = rw (ne_eqb b start other) refl

-- a text that begins with another byte shares nothing
apart : (t : List ℕ) (c : ℕ) (more : List ℕ) (b : ℕ) (bs : List ℕ) → t ≡ c ∷ more → (c ≡ b → ⊥) → shared cases_eq t (b ∷ bs) ≡ 0
apart t c more b bs e other = ap (λ (x : List ℕ). shared cases_eq x (b ∷ bs)) e ∙ shared-other cases_eq c b more bs other

-- the law of `either_at`, where the first form has a text
pub either-reading : {A : Type 0} (k start : ℕ) (text : A → List ℕ) (First Second : A → Type 0) (first second : Reader ℕ A)
    → (a : A) × First a → IsStart text First start → IsNoStart text Second start
    → Reading cases_eq k text First first → Reading cases_eq k text Second second
    → Reading cases_eq k text (λ a. First a ⊎ Second a) (either_at start first second)
unfolding either_at
either-reading {A = A} k start text First Second first second some starts apart_from ok₁ ok₂ = record { takes = takes; again = again; fault = fault }
  where
    takes : (bytes : List ℕ) (a : A) (rest : List ℕ) → length bytes ≤ k → either_at start first second bytes ≡ Ok (a, rest) → (First a ⊎ Second a) × (bytes ≡ text a ++ rest)
    takes [] a rest le e = absurd cc
    takes (b ∷ bs) a rest le e =
        elim (cases_eq b start) [
          | inl same ↦ let t = ok₁.takes (b ∷ bs) a rest le (sym (at_start start first second b bs same) ∙ e) in (inl t.0, t.1)
          | inr other ↦ let t = ok₂.takes (b ∷ bs) a rest le (sym (elsewhere start first second b bs other) ∙ e) in (inr t.0, t.1)
        ]

    by_front : (bytes : List ℕ) (b : ℕ) (bs : List ℕ) → bytes ≡ b ∷ bs → (b ≡ start) → either_at start first second bytes ≡ first bytes
    by_front bytes b bs e same = subst (λ (x : List ℕ). either_at start first second x ≡ first x) (sym e) (at_start start first second b bs same)

    by_other : (bytes : List ℕ) (b : ℕ) (bs : List ℕ) → bytes ≡ b ∷ bs → (b ≡ start → ⊥) → either_at start first second bytes ≡ second bytes
    by_other bytes b bs e other = subst (λ (x : List ℕ). either_at start first second x ≡ second x) (sym e) (elsewhere start first second b bs other)

    again : (a : A) (rest : List ℕ) → length (text a ++ rest) ≤ k → First a ⊎ Second a → either_at start first second (text a ++ rest) ≡ Ok (a, rest)
    again a rest le (inl fits) =
        let s = starts a fits in
        by_front (text a ++ rest) start (s.0 ++ rest) (ap (λ (x : List ℕ). x ++ rest) s.1) refl ∙ ok₁.again a rest le fits
    again a rest le (inr fits) =
        let s = apart_from a fits in
        by_other (text a ++ rest) s.0 (s.1 ++ rest) (ap (λ (x : List ℕ). x ++ rest) s.2) s.3 ∙ ok₂.again a rest le fits

    first_stops : (b : ℕ) (bs : List ℕ) (left : ℕ) → b ≡ start → Stops cases_eq text First (b ∷ bs) left → Stops cases_eq text (λ a. First a ⊎ Second a) (b ∷ bs) left
    first_stops b bs left same f = record { best = (f.best.0, inl f.best.1, f.best.2); most = most }
      where
        most : (a : A) → First a ⊎ Second a → shared cases_eq (text a) (b ∷ bs) + left ≤ length (b ∷ bs)
        most a (inl fits) = f.most a fits
        most a (inr fits) =
            let s = apart_from a fits in
            omega (arith, apart (text a) s.0 s.1 b bs s.2 (λ q. s.3 (q ∙ same)), f.most f.best.0 f.best.1)

    second_stops : (b : ℕ) (bs : List ℕ) (left : ℕ) → (b ≡ start → ⊥) → Stops cases_eq text Second (b ∷ bs) left → Stops cases_eq text (λ a. First a ⊎ Second a) (b ∷ bs) left
    second_stops b bs left other f = record { best = (f.best.0, inr f.best.1, f.best.2); most = most }
      where
        most : (a : A) → First a ⊎ Second a → shared cases_eq (text a) (b ∷ bs) + left ≤ length (b ∷ bs)
        most a (inl fits) =
            let s = starts a fits in
            omega (arith, apart (text a) start s.0 b bs s.1 (λ q. other (sym q)), f.most f.best.0 f.best.1)
        most a (inr fits) = f.most a fits

    fault : (bytes : List ℕ) (left : ℕ) → length bytes ≤ k → either_at start first second bytes ≡ Err left → Stops cases_eq text (λ a. First a ⊎ Second a) bytes left
    fault [] left le e = let z : left ≡ 0 = cc in record { best = (some.0, inl some.1, omega arith); most = λ a fits. omega (arith, z, shared-right cases_eq (text a) []) }
    fault (b ∷ bs) left le e =
        elim (cases_eq b start) [
          | inl same ↦ first_stops b bs left same (ok₁.fault (b ∷ bs) left le (sym (at_start start first second b bs same) ∙ e))
          | inr other ↦ second_stops b bs left other (ok₂.fault (b ∷ bs) left le (sym (elsewhere start first second b bs other) ∙ e))
        ]
