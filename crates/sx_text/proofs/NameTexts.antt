-- Names of numbers, no two of which stand at one place: they are read exactly.
use Rattle.std.proofs.Common.{◌≡◌, ℕ, zero, suc, ◌+◌, ◌-◌, ◌≤◌, ◌<◌, Bool, true, false, min, List, ◌++◌, length, ◌⊎◌, Result, Ok, Err, refl, sym, ap, subst, ◌∙◌, arith, inl, inr}
use Rattle.std.proofs.lemmas.Bool.{cases_eq, false≢true}
use Rattle.sx_text.specs.Readers.{literal_at}
use Rattle.sx_text.specs.Named.{IsNamed, AreApart, tried_at, by_name, named_from, named_at, named_after}
use Rattle.sx_text.proofs.Shared.{shared}
use Rattle.sx_text.proofs.Laws.{Reads, ok_is}
use Rattle.sx_text.proofs.Literals.{literal-append, literal-takes, literal-fault, after-reading}

module _ (name : ℕ → List ℕ) (is_allowed : ℕ → Bool) where
  abbrev Value : Type 0
  Value = Result (ℕ × List ℕ) ℕ

  -- what is read of the rest
  abbrev later : ℕ → ℕ → ℕ → List ℕ → Value
  later left count first bytes = named_from name is_allowed left count (suc first) bytes

  wider : (count first n : ℕ) → IsNamed is_allowed count (suc first) n → IsNamed is_allowed (suc count) first n
  wider count first n h = (omega (arith, h.0), omega (arith, h.1), h.2)

  narrower : (count first n : ℕ) → IsNamed is_allowed (suc count) first n → (first ≡ n → ⊥) → IsNamed is_allowed count (suc first) n
  narrower count first n h other = let lt : first < n = grind (arith, h.0, other) in (omega (arith, lt), omega (arith, h.1), h.2)

  takes : (left count first : ℕ) (bytes : List ℕ) (n : ℕ) (rest : List ℕ) → named_from name is_allowed left count first bytes ≡ Ok (n, rest) → IsNamed is_allowed count first n × (bytes ≡ name n ++ rest)
  unfolding named_from
  takes left zero first bytes n rest e = absurd cc
  takes left (suc count) first bytes n rest e =
      by_try (λ l f. let t = takes l count (suc first) bytes n rest f in (wider count first n t.0, t.1)) (is_allowed first) refl (literal_at (name first) bytes) refl e
    where
      by_try : ((l : ℕ) → later l count first bytes ≡ Ok (n, rest) → IsNamed is_allowed (suc count) first n × (bytes ≡ name n ++ rest))
          → (b : Bool) → is_allowed first ≡ b → (r : Result (List ℕ) ℕ) → literal_at (name first) bytes ≡ r
          → by_name (tried_at b r left) (λ rest. Ok (first, rest)) (λ less. later less count first bytes) ≡ Ok (n, rest)
          → IsNamed is_allowed (suc count) first n × (bytes ≡ name n ++ rest)
      by_try behind true allowed (Ok more) is f =
          subst (λ (x : ℕ × List ℕ). IsNamed is_allowed (suc count) first x.0 × (bytes ≡ name x.0 ++ x.1)) (ok_is (first, more) (n, rest) f)
          ((omega arith, omega arith, allowed), literal-takes (name first) bytes more is)
      by_try behind true allowed (Err less) is f = behind (min left less) f
      by_try behind false allowed r is f = behind left f

  again : (low high left count first n : ℕ) (rest : List ℕ) → AreApart name low high → low ≤ first → first + count ≤ high → IsNamed is_allowed count first n → named_from name is_allowed left count first (name n ++ rest) ≡ Ok (n, rest)
  unfolding named_from
  again low high left zero first n rest apart from le h = absurd (omega (arith, h.0, h.1))
  again low high left (suc count) first n rest apart from le h = elim (cases_eq first n) [
    | inl same ↦ here same
    | inr other ↦ by_try (λ l. again low high l count (suc first) n rest apart (omega (arith, from)) (omega (arith, le)) (narrower count first n h other)) other
        (is_allowed first) (literal_at (name first) (name n ++ rest)) refl
  ]
    where
      given : ℕ × List ℕ → Value
      given x = Ok x

      here : first ≡ n → named_from name is_allowed left (suc count) first (name n ++ rest) ≡ Ok (n, rest)
      here same =
          let allowed : is_allowed first ≡ true = ap is_allowed same ∙ h.2 in
          let found : literal_at (name first) (name n ++ rest) ≡ Ok rest = ap (λ (i : ℕ). literal_at (name i) (name n ++ rest)) same ∙ literal-append (name n) rest in
          rw (allowed, found) (ap (λ (i : ℕ). given (i, rest)) same)

      by_try : ((l : ℕ) → later l count first (name n ++ rest) ≡ Ok (n, rest)) → (first ≡ n → ⊥) → (b : Bool) → (r : Result (List ℕ) ℕ) → literal_at (name first) (name n ++ rest) ≡ r
          → by_name (tried_at b r left) (λ rest. Ok (first, rest)) (λ less. later less count first (name n ++ rest)) ≡ Ok (n, rest)
      by_try behind other true (Ok more) is =
          absurd (other (apart first n more rest from (omega (arith, le)) (omega (arith, from, h.0)) (omega (arith, le, h.1)) (sym (literal-takes (name first) (name n ++ rest) more is))))
      by_try behind other true (Err less) is = behind (min left less)
      by_try behind other false r is = behind left

  -- how much is left behind what begins a name, where others leave so many
  record Leaves (count first : ℕ) (bytes : List ℕ) (others left : ℕ) : Type 0 where
    best : (left ≡ others) ⊎ ((n : ℕ) × IsNamed is_allowed count first n × (length bytes ≤ shared cases_eq (name n) bytes + left))
    less : left ≤ others
    most : (n : ℕ) → IsNamed is_allowed count first n → shared cases_eq (name n) bytes + left ≤ length bytes

  fault : (others count first : ℕ) (bytes : List ℕ) (left : ℕ) → named_from name is_allowed others count first bytes ≡ Err left → Leaves count first bytes others left
  unfolding named_from
  fault others zero first bytes left e =
      let same : left ≡ others = cc in
      record { best = inl same; less = omega (arith, same); most = λ n h. absurd (omega (arith, h.0, h.1)) }
  fault others (suc count) first bytes left e =
      by_try (λ l f. fault l count (suc first) bytes left f) (is_allowed first) refl (literal_at (name first) bytes) refl e
    where
      skipped : is_allowed first ≡ false → Leaves count (suc first) bytes others left → Leaves (suc count) first bytes others left
      skipped is f = record {
        best = elim f.best [ inl same ↦ inl same | inr found ↦ inr (found.0, wider count first found.0 found.1, found.2) ];
        less = f.less;
        most = λ n h. f.most n (narrower count first n h (λ same. false≢true (sym is ∙ ap is_allowed same ∙ h.2)));
      }

      tried : (l : ℕ) → is_allowed first ≡ true → shared cases_eq (name first) bytes + l ≡ length bytes → Leaves count (suc first) bytes (min others l) left → Leaves (suc count) first bytes others left
      tried l is so f = record {
        best = elim f.best [
          | inl same ↦ elim (least others l) [
            | inl m ↦ inl (same ∙ m)
            | inr m ↦ inr (first, (omega arith, omega arith, is), omega (arith, so, same, m))
          ]
          | inr found ↦ inr (found.0, wider count first found.0 found.1, found.2)
        ];
        less = omega (arith, f.less);
        most = λ n h. elim (cases_eq first n) [
          | inl same ↦ subst (λ (i : ℕ). shared cases_eq (name i) bytes + left ≤ length bytes) same (omega (arith, so, f.less))
          | inr other ↦ f.most n (narrower count first n h other)
        ];
      }
        where
          least : (a b : ℕ) → (min a b ≡ a) ⊎ (min a b ≡ b)
          least a b = grind arith

      by_try : ((l : ℕ) → later l count first bytes ≡ Err left → Leaves count (suc first) bytes l left)
          → (b : Bool) → is_allowed first ≡ b → (r : Result (List ℕ) ℕ) → literal_at (name first) bytes ≡ r
          → by_name (tried_at b r others) (λ rest. Ok (first, rest)) (λ less. later less count first bytes) ≡ Err left
          → Leaves (suc count) first bytes others left
      by_try behind true allowed (Ok more) is f = absurd cc
      by_try behind true allowed (Err l) is f = tried l allowed (literal-fault (name first) bytes l is).0 (behind (min others l) f)
      by_try behind false allowed r is f = skipped allowed (behind others f)

  -- the law of `named_at`, where some number is allowed
  pub named-reading : (count first : ℕ) → AreApart name first (first + count) → (n : ℕ) × IsNamed is_allowed count first n → Reads cases_eq name (IsNamed is_allowed count first) (named_at name is_allowed count first)
  unfolding named_at
  named-reading count first apart some k = record {
    takes = λ bytes n rest within e. takes (length bytes) count first bytes n rest e;
    again = λ n rest within h. again first (first + count) (length (name n ++ rest)) count first n rest apart (omega arith) (omega arith) h;
    fault = λ bytes left within e.
        let f = fault (length bytes) count first bytes left e in
        record {
          best = elim f.best [ inl same ↦ (some.0, some.1, omega (arith, same)) | inr found ↦ found ];
          most = f.most;
        };
  }

  pub named_after-reading : (literal : List ℕ) (count first : ℕ) → AreApart name first (first + count) → (n : ℕ) × IsNamed is_allowed count first n
      → Reads cases_eq (λ n. literal ++ name n) (IsNamed is_allowed count first) (named_after literal name is_allowed count first)
  unfolding named_after
  named_after-reading literal count first apart some k =
      after-reading k literal name (IsNamed is_allowed count first) (named_at name is_allowed count first) some (named-reading count first apart some k)

-- ---- what a loop over numbers uses

-- it begins with what all bytes are
pub named_begin : (name : ℕ → List ℕ) (is_allowed : ℕ → Bool) (count first : ℕ) (bytes : List ℕ) → named_from name is_allowed (length bytes) count first bytes ≡ named_at name is_allowed count first bytes
unfolding named_at
named_begin name is_allowed count first bytes = refl

-- the name of the number at hand was read
pub named_found : (name : ℕ → List ℕ) (is_allowed : ℕ → Bool) (left high i : ℕ) (bytes rest : List ℕ) → i < high → tried_at (is_allowed i) (literal_at (name i) bytes) left ≡ Ok rest
    → named_from name is_allowed left (high - i) i bytes ≡ Ok (i, rest)
unfolding named_from
named_found name is_allowed left high i bytes rest lt e = let count : high - i ≡ suc (high - i - 1) = omega (arith, lt) in rw (count, e) refl

-- it was not
pub named_passed : (name : ℕ → List ℕ) (is_allowed : ℕ → Bool) (left high i : ℕ) (bytes : List ℕ) (less : ℕ) → i < high → tried_at (is_allowed i) (literal_at (name i) bytes) left ≡ Err less
    → named_from name is_allowed left (high - i) i bytes ≡ named_from name is_allowed less (high - (i + 1)) (i + 1) bytes
unfolding named_from
named_passed name is_allowed left high i bytes less lt e =
    let count : high - i ≡ suc (high - (i + 1)) = omega (arith, lt) in
    let next : i + 1 ≡ suc i = omega arith in
    rw (count, e, next) refl

-- no number is left
pub named_none : (name : ℕ → List ℕ) (is_allowed : ℕ → Bool) (left high i : ℕ) (bytes : List ℕ) → high ≤ i → named_from name is_allowed left (high - i) i bytes ≡ Err left
unfolding named_from
named_none name is_allowed left high i bytes le = let count : high - i ≡ 0 = omega (arith, le) in rw count refl
