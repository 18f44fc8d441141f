-- Values up to a byte that begins none of them.
use Rattle.std.proofs.Common.{◌≡◌, ℕ, zero, suc, ◌+◌, ◌≤◌, ◌<◌, List, [], ◌∷◌, ◌++◌, length, Result, Ok, Err, refl, sym, ap, subst, ◌∙◌, arith, inl, inr}
use Rattle.std.proofs.lemmas.Bool.{cases_eq, eq-eqb, ne_eqb}
use Rattle.std.specs.List.{AllByRecursion}
use Rattle.sx_text.specs.Texts.{Reader}
use Rattle.sx_text.specs.Readers.{◌>>=◌, pair_at, made_at, values_at, all_values_at, values_text, IsNoStart}
use Rattle.sx_text.proofs.Shared.{shared, shared-other, shared-right}
use Rattle.sx_text.proofs.Laws.{Stops, Reading, Reads, bind_ok, bind_err, ok_is, pair-reading}

-- the items behind one that was read, as a pair
abbrev more_at : {A : Type 0} → ℕ → ℕ → (Reader ℕ A) → List ℕ → Result ((A × List A) × List ℕ) ℕ
more_at n stop read bytes = pair_at read (λ a. values_at n stop read) bytes

unpaired : {A : Type 0} (n stop : ℕ) (read : Reader ℕ A) (b : ℕ) (bs : List ℕ) → (b ≡ stop → ⊥)
    → values_at (suc n) stop read (b ∷ bs) ≡ made_at (λ (x : A × List A). x.0 ∷ x.1) (more_at n stop read) (b ∷ bs)
unfolding values_at
unpaired n stop read b bs other = rw (ne_eqb b stop other) (go n stop read (read (b ∷ bs)))
  where
    consed : {A : Type 0} → (A × List A) × List ℕ → Result (List A × List ℕ) ℕ
    consed x = Ok (x.0.0 ∷ x.0.1, x.1)

    paired : {A : Type 0} → A → List A × List ℕ → Result ((A × List A) × List ℕ) ℕ
    paired a y = Ok ((a, y.0), y.1)

    joined : {A : Type 0} → A → List A × List ℕ → Result (List A × List ℕ) ℕ
    joined a y = Ok (a ∷ y.0, y.1)

    last_step : {A : Type 0} (a : A) (r : Result (List A × List ℕ) ℕ) → (r >>= joined a) ≡ ((r >>= paired a) >>= consed)
    last_step a (Ok y) = refl
    last_step a (Err d) = refl

    go : {A : Type 0} (n stop : ℕ) (read : Reader ℕ A) (r : Result (A × List ℕ) ℕ)
        → (r >>= λ x. (values_at n stop read x.1 >>= joined x.0)) ≡ ((r >>= λ x. (values_at n stop read x.1 >>= paired x.0)) >>= consed)
    go n stop read (Ok x) = last_step x.0 (values_at n stop read x.1)
    go n stop read (Err d) = refl

unpaired_at : {A : Type 0} (n stop : ℕ) (read : Reader ℕ A) (bytes : List ℕ) (b : ℕ) (bs : List ℕ) → bytes ≡ b ∷ bs → (b ≡ stop → ⊥)
    → values_at (suc n) stop read bytes ≡ made_at (λ (x : A × List A). x.0 ∷ x.1) (more_at n stop read) bytes
unpaired_at {A = A} n stop read bytes b bs e other =
    subst (λ (y : List ℕ). values_at (suc n) stop read y ≡ made_at (λ (x : A × List A). x.0 ∷ x.1) (more_at n stop read) y) (sym e) (unpaired n stop read b bs other)

at_stop : {A : Type 0} (n stop : ℕ) (read : Reader ℕ A) (b : ℕ) (bs : List ℕ) → b ≡ stop → values_at (suc n) stop read (b ∷ bs) ≡ Ok ([], bs)
unfolding values_at
at_stop n stop read b bs same = rw (eq-eqb b stop same) refl

abbrev pair_text : {A : Type 0} → (A → List ℕ) → ℕ → A × List A → List ℕ
pair_text text stop x = text x.0 ++ values_text text stop x.1

abbrev PairFits : {A : Type 0} → (A → Type 0) → A × List A → Type 0
PairFits Fits x = Fits x.0 × AllByRecursion Fits x.1

values-step : {A : Type 0} (k n stop : ℕ) (text : A → List ℕ) (Fits : A → Type 0) (read : Reader ℕ A) → IsNoStart text Fits stop
    → Reading cases_eq k (pair_text text stop) (PairFits Fits) (more_at n stop read)
    → Reading cases_eq k (values_text text stop) (AllByRecursion Fits) (values_at (suc n) stop read)
unfolding values_at
values-step {A = A} k n stop text Fits read starts ok = record { takes = takes; again = again; fault = fault }
  where
    takes : (bytes : List ℕ) (xs : List A) (rest : List ℕ) → length bytes ≤ k → values_at (suc n) stop read bytes ≡ Ok (xs, rest) → AllByRecursion Fits xs × (bytes ≡ values_text text stop xs ++ rest)
    takes [] xs rest le e = absurd cc
    takes (b ∷ bs) xs rest le e =
        elim (cases_eq b stop) [
          | inl same ↦
              subst (λ (y : List A × List ℕ). AllByRecursion Fits y.0 × (b ∷ bs ≡ values_text text stop y.0 ++ y.1))
              (ok_is ([], bs) (xs, rest) (sym (at_stop n stop read b bs same) ∙ e)) (tt, ap (λ (c : ℕ). c ∷ bs) same)
          | inr other ↦
              let s = bind_ok (more_at n stop read (b ∷ bs)) (λ x. Ok (x.0.0 ∷ x.0.1, x.1)) (xs, rest) (sym (unpaired n stop read b bs other) ∙ e) in
              let t = ok.takes (b ∷ bs) s.0.0 s.0.1 le s.1 in
              subst (λ (y : List A × List ℕ). AllByRecursion Fits y.0 × (b ∷ bs ≡ values_text text stop y.0 ++ y.1))
              (ok_is (s.0.0.0 ∷ s.0.0.1, s.0.1) (xs, rest) s.2) (t.0, t.1)
        ]

    again : (xs : List A) (rest : List ℕ) → length (values_text text stop xs ++ rest) ≤ k → AllByRecursion Fits xs → values_at (suc n) stop read (values_text text stop xs ++ rest) ≡ Ok (xs, rest)
    again [] rest le fits = at_stop n stop read stop rest refl
    again (x ∷ xs) rest le fits =
        let st = starts x fits.0 in
        let e : (text x ++ values_text text stop xs) ++ rest ≡ st.0 ∷ ((st.1 ++ values_text text stop xs) ++ rest) = ap (λ (y : List ℕ). (y ++ values_text text stop xs) ++ rest) st.2 in
        unpaired_at n stop read ((text x ++ values_text text stop xs) ++ rest) st.0 ((st.1 ++ values_text text stop xs) ++ rest) e st.3
        ∙ rw (ok.again (x, xs) rest le fits) refl

    fault : (bytes : List ℕ) (left : ℕ) → length bytes ≤ k → values_at (suc n) stop read bytes ≡ Err left → Stops cases_eq (values_text text stop) (AllByRecursion Fits) bytes left
    fault [] left le e = let z : left ≡ 0 = cc in record { best = ([], tt, omega arith); most = λ xs fits. omega (arith, z, shared-right cases_eq (values_text text stop xs) []) }
    fault (b ∷ bs) left le e =
        elim (cases_eq b stop) [
          | inl same ↦ absurd (let f = sym (at_stop n stop read b bs same) ∙ e in cc)
          | inr other ↦ elim (bind_err (more_at n stop read (b ∷ bs)) (λ x. Ok (x.0.0 ∷ x.0.1, x.1)) left (sym (unpaired n stop read b bs other) ∙ e)) [
            | inl stuck ↦ stops b bs left other (ok.fault (b ∷ bs) left le stuck)
            | inr s ↦ absurd (let f = s.2 in cc)
          ]
        ]
      where
        most : (b : ℕ) (bs : List ℕ) (left : ℕ) → (b ≡ stop → ⊥) → Stops cases_eq (pair_text text stop) (PairFits Fits) (b ∷ bs) left
            → (xs : List A) → AllByRecursion Fits xs → shared cases_eq (values_text text stop xs) (b ∷ bs) + left ≤ length (b ∷ bs)
        most b bs left other f [] fits = omega (arith, shared-other cases_eq stop b [] bs (λ q. other (sym q)), f.most f.best.0 f.best.1)
        most b bs left other f (x ∷ xs) fits = f.most (x, xs) fits

        stops : (b : ℕ) (bs : List ℕ) (left : ℕ) → (b ≡ stop → ⊥) → Stops cases_eq (pair_text text stop) (PairFits Fits) (b ∷ bs) left → Stops cases_eq (values_text text stop) (AllByRecursion Fits) (b ∷ bs) left
        stops b bs left other f = record { best = (f.best.0.0 ∷ f.best.0.1, f.best.1, f.best.2); most = most b bs left other f }

pub values-up_to : {A : Type 0} (k n stop : ℕ) (text : A → List ℕ) (Fits : A → Type 0) (read : Reader ℕ A) → IsNoStart text Fits stop → Reads cases_eq text Fits read
    → k < n → Reading cases_eq k (values_text text stop) (AllByRecursion Fits) (values_at n stop read)
unfolding values_at
values-up_to k zero stop text Fits read starts ok lt = absurd (omega (arith, lt))
values-up_to {A = A} k (suc n) stop text Fits read starts ok lt =
    values-step k n stop text Fits read starts
    (pair-reading cases_eq k text Fits read (λ a. values_text text stop) (λ a. AllByRecursion Fits) (λ a. values_at n stop read) ok (λ a fits. ([], tt))
    (λ a j fits le. let st = starts a fits in
    values-up_to j n stop text Fits read starts ok (omega (arith, le, lt, ap length st.2))))

-- the law of `all_values_at`
pub values-reading : {A : Type 0} (stop : ℕ) (text : A → List ℕ) (Fits : A → Type 0) (read : Reader ℕ A) → IsNoStart text Fits stop → Reads cases_eq text Fits read
    → Reads cases_eq (values_text text stop) (AllByRecursion Fits) (all_values_at stop read)
values-reading stop text Fits read starts ok k = record {
  takes = λ bytes xs rest le e. (values-up_to (length bytes) (length bytes + 1) stop text Fits read starts ok (omega arith)).takes bytes xs rest (omega arith) e;
  again = λ xs rest le fits. (values-up_to (length (values_text text stop xs ++ rest)) (length (values_text text stop xs ++ rest) + 1) stop text Fits read starts ok (omega arith)).again xs rest (omega arith) fits;
  fault = λ bytes left le e. (values-up_to (length bytes) (length bytes + 1) stop text Fits read starts ok (omega arith)).fault bytes left (omega arith) e;
}
