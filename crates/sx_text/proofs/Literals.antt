-- Literals: a literal and then a value, a value and then a literal, and what the code's loop over a literal uses.
use Rattle.std.proofs.Common.{drop, get_or, drop-cons, ◌≡◌, ℕ, suc, ◌+◌, ◌≤◌, ◌<◌, List, [], ◌∷◌, ◌++◌, length, Ok, Err, refl, sym, ap, subst, ◌∙◌, arith, inl, inr, length-append, append_assoc}
use Rattle.std.proofs.lemmas.Bool.{cases_eq, eq-eqb, ne_eqb}
use Rattle.std.proofs.lemmas.List.{append-nil}
use Rattle.std.proofs.Math.ListN.{drop_of_length-le}
use Rattle.sx_text.specs.Texts.{Reader}
use Rattle.sx_text.specs.Readers.{literal_at, after, closed_at}
use Rattle.sx_text.proofs.Shared.{shared, shared-same, shared-other, shared-append, shared-more, shared-cases, shared-self}
use Rattle.sx_text.proofs.Laws.{Stops, Reading, Reads, bind_ok, bind_err, field-reading, end-reading, refits}

pub literal-append : (literal rest : List ℕ) → literal_at literal (literal ++ rest) ≡ Ok rest
unfolding literal_at
literal-append [] rest = refl
literal-append (c ∷ cs) rest = rw (eq-eqb c c refl) (literal-append cs rest)

pub literal-takes : (literal bytes rest : List ℕ) → literal_at literal bytes ≡ Ok rest → bytes ≡ literal ++ rest
unfolding literal_at
literal-takes [] bytes rest e = cc
literal-takes (c ∷ cs) [] rest e = absurd cc
literal-takes (c ∷ cs) (b ∷ bs) rest e =
    elim (cases_eq b c) [
      | inl same ↦ let h = literal-takes cs bs rest (rw (eq-eqb b c same) at e) in cc
      | inr other ↦ absurd (let f = rw (ne_eqb b c other) at e in cc)
    ]

-- how far a literal goes
pub literal-fault : (literal bytes : List ℕ) (left : ℕ) → literal_at literal bytes ≡ Err left → (shared cases_eq literal bytes + left ≡ length bytes) × (shared cases_eq literal bytes < length literal)
unfolding literal_at
literal-fault [] bytes left e = absurd cc
literal-fault (c ∷ cs) [] left e = let z : left ≡ 0 = cc in (omega (arith, z), omega arith)
literal-fault (c ∷ cs) (b ∷ bs) left e =
    elim (cases_eq b c) [
      | inl same ↦ let h = literal-fault cs bs left (rw (eq-eqb b c same) at e) in
          (omega (arith, h.0, shared-same cases_eq c b cs bs (sym same)), omega (arith, h.1, shared-same cases_eq c b cs bs (sym same)))
      | inr other ↦ let f = rw (ne_eqb b c other) at e in let z : left ≡ suc (length bs) = cc in
          (omega (arith, z, shared-other cases_eq c b cs bs (λ q. other (sym q))), omega (arith, shared-other cases_eq c b cs bs (λ q. other (sym q))))
    ]

-- the law of `after`, of which the rest has a text
pub after-reading : {A : Type 0} (k : ℕ) (literal : List ℕ) (text : A → List ℕ) (Fits : A → Type 0) (next : Reader ℕ A)
    → (a : A) × Fits a → Reading cases_eq k text Fits next → Reading cases_eq k (λ a. literal ++ text a) Fits (after literal next)
after-reading k literal text Fits next some ok = record {
  takes = λ bytes a rest le e.
      let s = bind_ok (literal_at literal bytes) next (a, rest) e in
      let front = literal-takes literal bytes s.0 s.1 in
      let t = ok.takes s.0 a rest (omega (arith, le, ap length front, length-append literal s.0)) s.2 in
      (t.0, front ∙ ap (λ (x : List ℕ). literal ++ x) t.1 ∙ sym (append_assoc literal (text a) rest));
  again = λ a rest le fits.
      let split = append_assoc literal (text a) rest in
      let h = ok.again a rest (omega (arith, le, ap length split, length-append literal (text a ++ rest))) fits in
      ap (after literal next) split ∙ rw (literal-append literal (text a ++ rest)) h;
  fault = λ bytes left le e. elim (bind_err (literal_at literal bytes) next left e) [
    | inl stuck ↦ literal-stops literal text Fits bytes left some (literal-fault literal bytes left stuck)
    | inr s ↦
        let front = literal-takes literal bytes s.0 s.1 in
        let long = ap length front ∙ length-append literal s.0 in
        let f = ok.fault s.0 left (omega (arith, le, long)) s.2 in
        record {
          best = (f.best.0, f.best.1, omega (arith, f.best.2, long, ap (shared cases_eq (literal ++ text f.best.0)) front ∙ shared-append cases_eq literal (text f.best.0) s.0));
          most = λ a fits. omega (arith, f.most a fits, long, ap (shared cases_eq (literal ++ text a)) front ∙ shared-append cases_eq literal (text a) s.0);
        }
  ];
}
  where
    literal-stops : {A : Type 0} (literal : List ℕ) (text : A → List ℕ) (Fits : A → Type 0) (bytes : List ℕ) (left : ℕ) → (a : A) × Fits a
        → (shared cases_eq literal bytes + left ≡ length bytes) × (shared cases_eq literal bytes < length literal) → Stops cases_eq (λ a. literal ++ text a) Fits bytes left
    literal-stops literal text Fits bytes left some h = record {
      best = (some.0, some.1, omega (arith, h.0, shared-more cases_eq literal (text some.0) bytes));
      most = λ a fits. elim (shared-cases cases_eq literal (text a) bytes) [
        | inl found ↦ absurd (omega (arith, h.1, ap (shared cases_eq literal) found.1 ∙ shared-self cases_eq literal found.0))
        | inr other ↦ omega (arith, h.0, other.0)
      ];
    }

pub closed-reading : {A : Type 0} (text : A → List ℕ) (Fits : A → Type 0) (read : Reader ℕ A) (literal : List ℕ) → Reads cases_eq text Fits read → Reads cases_eq (λ a. text a ++ literal) Fits (closed_at read literal)
closed-reading {A = A} text Fits read literal ok k =
    subst (λ (t : A → List ℕ). Reading cases_eq k t Fits (closed_at read literal)) (λ i a. text a ++ append-nil literal i)
    (refits cases_eq k (λ a. text a ++ (literal ++ [])) (λ a. Fits a × Unit {0}) Fits (closed_at read literal) (λ a h. h.0) (λ a h. (h, tt))
    (field-reading cases_eq k (λ (a : A). a) text Fits read (λ a. literal ++ []) (λ a. Unit {0}) (λ a. after literal (λ rest. Ok (a, rest))) ok
    (λ a h. (a, tt, refl))
    (λ a j h le. after-reading j literal (λ x. []) (λ x. Unit {0} × (x ≡ a)) (λ rest. Ok (a, rest)) (a, (tt, refl))
    (end-reading cases_eq j a (λ x. Unit {0} × (x ≡ a)) (tt, refl) (λ x e. e.1)))))

-- what the code uses

pub literal_empty : (text : List ℕ) (i : ℕ) (bytes : List ℕ) → i < length text → length bytes < 1 → literal_at (drop i text) bytes ≡ Err 0
unfolding literal_at
literal_empty text i [] lt none = rw (drop-cons text i 0 lt) refl
literal_empty text i (b ∷ bs) lt none = absurd (omega (arith, none))

pub literal_wrong : (text : List ℕ) (i b : ℕ) (bs : List ℕ) → i < length text → (b ≡ get_or text i 0 → ⊥) → literal_at (drop i text) (b ∷ bs) ≡ Err (suc (length bs))
unfolding literal_at
literal_wrong text i b bs lt other = rw (drop-cons text i 0 lt, ne_eqb b (get_or text i 0) other) refl

pub literal_step : (text : List ℕ) (i b : ℕ) (bs : List ℕ) → i < length text → b ≡ get_or text i 0 → literal_at (drop i text) (b ∷ bs) ≡ literal_at (drop (i + 1) text) bs
unfolding literal_at
literal_step text i b bs lt same = let e : i + 1 ≡ suc i = omega arith in rw (drop-cons text i 0 lt, eq-eqb b (get_or text i 0) same, e) refl

pub literal_end : (text : List ℕ) (i : ℕ) (bytes : List ℕ) → length text ≤ i → literal_at (drop i text) bytes ≡ Ok bytes
unfolding literal_at
literal_end text i bytes le = rw (drop_of_length-le text {i = i} le) refl
