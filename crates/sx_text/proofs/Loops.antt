-- Reading values one after the other, as a loop does.
use Rattle.std.proofs.Common.{◌≡◌, ℕ, suc, ◌+◌, ◌-◌, ◌≤◌, ◌<◌, List, [], ◌∷◌, ◌++◌, length, drop, get_or, Result, Ok, Err, refl, sym, ap, ◌∙◌, arith, append_assoc}
use Rattle.std.proofs.lemmas.Bool.{eq-eqb, ne_eqb}
use Rattle.std.proofs.lemmas.List.{append-nil}
use Rattle.sx_text.specs.Texts.{Reader}
use Rattle.sx_text.specs.Readers.{◌>>=◌, values_at}
use Rattle.sx_text.specs.Given.{FailsAs}
use Rattle.sx_text.specs.declared.fault.Fault.{Fault}
use Rattle.sx_text.specs.declared.fault.Fault.TheVariants as faults

-- what was read before, and what is still read
abbrev pub with_front : {A : Type 0} → List A → Result (List A × List ℕ) ℕ → Result (List A × List ℕ) ℕ
with_front front read = read >>= λ x. Ok (front ++ x.0, x.1)

regroup : {A : Type 0} (front : List A) (x : A) (read : Result (List A × List ℕ) ℕ) → with_front front (read >>= λ y. Ok (x ∷ y.0, y.1)) ≡ with_front (front ++ x ∷ []) read
regroup {A = A} front x (Ok y) = ap (λ (xs : List A). Ok (xs, y.1)) (simp append_assoc)
regroup front x (Err e) = refl

-- one step of the values
value_first : {A : Type 0} (n stop : ℕ) (read : Reader ℕ A) (bytes : List ℕ) (x : A) (after : List ℕ) → 0 < length bytes → (get_or bytes 0 0 ≡ stop → ⊥) → read bytes ≡ Ok (x, after)
    → values_at (suc n) stop read bytes ≡ (values_at n stop read after >>= λ y. Ok (x ∷ y.0, y.1))
unfolding values_at
value_first n stop read [] x after pos other e = absurd (omega (arith, pos))
value_first n stop read (b ∷ bs) x after pos other e = rw (ne_eqb b stop other, e) refl

value_fails : {A : Type 0} (n stop : ℕ) (read : Reader ℕ A) (bytes : List ℕ) (left : ℕ) → 0 < length bytes → (get_or bytes 0 0 ≡ stop → ⊥) → read bytes ≡ Err left
    → values_at (suc n) stop read bytes ≡ Err left
unfolding values_at
value_fails n stop read [] left pos other e = absurd (omega (arith, pos))
value_fails n stop read (b ∷ bs) left pos other e = rw (ne_eqb b stop other, e) refl

value_stops : {A : Type 0} (n stop : ℕ) (read : Reader ℕ A) (bytes : List ℕ) → 0 < length bytes → get_or bytes 0 0 ≡ stop → values_at (suc n) stop read bytes ≡ Ok ([], drop 1 bytes)
unfolding values_at
value_stops n stop read [] pos same = absurd (omega (arith, pos))
value_stops n stop read (b ∷ bs) pos same = rw (eq-eqb b stop same) refl

value_empty : {A : Type 0} (n stop : ℕ) (read : Reader ℕ A) (bytes : List ℕ) → length bytes ≡ 0 → values_at (suc n) stop read bytes ≡ Err 0
unfolding values_at
value_empty n stop read [] none = refl
value_empty n stop read (b ∷ bs) none = absurd (omega (arith, none))

one_less : (count i : ℕ) → i < count → count - i ≡ suc (count - (i + 1))
one_less count i lt = omega arith

pub loop_goes_on : {A : Type 0} (stop : ℕ) (read : Reader ℕ A) (front : List A) (count i : ℕ) (bytes : List ℕ) (x : A) (after : List ℕ) (total : Result (List A × List ℕ) ℕ)
    → i < count → 0 < length bytes → (get_or bytes 0 0 ≡ stop → ⊥) → read bytes ≡ Ok (x, after)
    → with_front front (values_at (count - i) stop read bytes) ≡ total → with_front (front ++ x ∷ []) (values_at (count - (i + 1)) stop read after) ≡ total
loop_goes_on stop read front count i bytes x after total lt pos other e so_far =
    sym (rw (one_less count i lt, value_first (count - (i + 1)) stop read bytes x after pos other e) (regroup front x (values_at (count - (i + 1)) stop read after))) ∙ so_far

pub loop_fails : {A : Type 0} (stop : ℕ) (read : Reader ℕ A) (front : List A) (count i : ℕ) (bytes : List ℕ) (e : Fault) (total : Result (List A × List ℕ) ℕ)
    → i < count → 0 < length bytes → (get_or bytes 0 0 ≡ stop → ⊥) → FailsAs e (read bytes)
    → with_front front (values_at (count - i) stop read bytes) ≡ total → FailsAs e total
loop_fails stop read front count i bytes faults.NoMemory total lt pos other f so_far = tt
loop_fails stop read front count i bytes (faults.Unread left) total lt pos other f so_far =
    sym so_far ∙ rw (one_less count i lt, value_fails (count - (i + 1)) stop read bytes left pos other f) refl

pub loop_stops : {A : Type 0} (stop : ℕ) (read : Reader ℕ A) (front : List A) (count i : ℕ) (bytes : List ℕ) (total : Result (List A × List ℕ) ℕ)
    → i < count → 0 < length bytes → get_or bytes 0 0 ≡ stop
    → with_front front (values_at (count - i) stop read bytes) ≡ total → total ≡ Ok (front, drop 1 bytes)
loop_stops {A = A} stop read front count i bytes total lt pos same so_far =
    sym so_far ∙ rw (one_less count i lt, value_stops (count - (i + 1)) stop read bytes pos same) (ap (λ (xs : List A). Ok (xs, drop 1 bytes)) (append-nil front))

pub loop_empty : {A : Type 0} (stop : ℕ) (read : Reader ℕ A) (front : List A) (count i : ℕ) (bytes : List ℕ) (total : Result (List A × List ℕ) ℕ)
    → i < count → length bytes ≡ 0 → with_front front (values_at (count - i) stop read bytes) ≡ total → total ≡ Err 0
loop_empty stop read front count i bytes total lt none so_far =
    sym so_far ∙ rw (one_less count i lt, value_empty (count - (i + 1)) stop read bytes none) refl

pub loop_spent : {A : Type 0} (stop : ℕ) (read : Reader ℕ A) (front : List A) (count i : ℕ) (bytes : List ℕ) (total : Result (List A × List ℕ) ℕ)
    → count ≤ i → with_front front (values_at (count - i) stop read bytes) ≡ total → total ≡ Err (length bytes)
unfolding values_at
loop_spent stop read front count i bytes total le so_far =
    let e : count - i ≡ 0 = omega arith in
    sym so_far ∙ rw e refl
