-- Readers that agree with a form of text, and how they compose, over items that can be told apart.
use Rattle.std.proofs.Common.{◌≡◌, ℕ, zero, suc, ◌+◌, ◌≤◌, ◌<◌, false, cond, eqb, List, [], ◌++◌, length, ◌⊎◌, Result, Ok, Err, ◌-◌, refl, sym, ap, subst, ◌∙◌, arith, inl, inr, length-append, append_assoc}
use Rattle.std.proofs.lemmas.Bool.{cases_lt, ne_eqb}
use Rattle.std.proofs.lemmas.List.{append-nil, nil_from_length}
use Rattle.sx_text.specs.Texts.{IsLongest, IsNoText, Reader, IsReading, IsWholeReading}
use Rattle.sx_text.specs.Readers.{◌>>=◌, pair_at, made_at, whole_of}
use Rattle.sx_text.proofs.Shared.{Decides, shared, shared-left, shared-right, shared-append, shared-more, shared-cases, shared-front, shared-self, shared-begins, begins-shared}

-- Some text shares all but the last `left` items, and none shares more.
pub record Stops {A E : Type 0} (decide : Decides E) (text : A → List E) (Fits : A → Type 0) (items : List E) (left : ℕ) : Type 0 where
  pub best : (a : A) × Fits a × (length items ≤ shared decide (text a) items + left)
  pub most : (a : A) → Fits a → shared decide (text a) items + left ≤ length items

-- The reader of a form, on inputs of at most k items.
pub record Reading {A E : Type 0} (decide : Decides E) (k : ℕ) (text : A → List E) (Fits : A → Type 0) (read : Reader E A) : Type 0 where
  pub takes : (items : List E) (a : A) (rest : List E) → length items ≤ k → read items ≡ Ok (a, rest) → Fits a × (items ≡ text a ++ rest)
  pub again : (a : A) (rest : List E) → length (text a ++ rest) ≤ k → Fits a → read (text a ++ rest) ≡ Ok (a, rest)
  pub fault : (items : List E) (left : ℕ) → length items ≤ k → read items ≡ Err left → Stops decide text Fits items left

abbrev pub Reads : {A E : Type 0} → Decides E → (A → List E) → (A → Type 0) → Reader E A → Type 0
Reads decide text Fits read = (k : ℕ) → Reading decide k text Fits read

abbrev pub fine : {A : Type 0} → A → Result A ℕ
fine x = Ok x

abbrev pub failed : (A : Type 0) → ℕ → Result A ℕ
failed A n = Err n

pub fail_is_fine : {A : Type 0} (n : ℕ) (x : A) → failed A n ≡ fine x → ⊥
fail_is_fine n x e = cc

pub failed_is : {A : Type 0} (m n : ℕ) → failed A m ≡ failed A n → m ≡ n
failed_is m n e = cc

pub ok_is : {A : Type 0} (x y : A) → fine x ≡ fine y → x ≡ y
ok_is x y e = cc

pub bind_ok : {A B : Type 0} (r : Result A ℕ) (f : A → Result B ℕ) (y : B) → (r >>= f) ≡ Ok y → (x : A) × (r ≡ Ok x) × (f x ≡ Ok y)
bind_ok (Ok x) f y e = (x, refl, e)
bind_ok (Err d) f y e = absurd cc

pub bind_err : {A B : Type 0} (r : Result A ℕ) (f : A → Result B ℕ) (left : ℕ) → (r >>= f) ≡ Err left → (r ≡ Err left) ⊎ ((x : A) × (r ≡ Ok x) × (f x ≡ Err left))
bind_err (Ok x) f left e = inr (x, refl, e)
bind_err (Err d) f left e = inl cc

module _ {E : Type 0} (decide : Decides E) where
  -- one text at one place: a text that begins another is that one
  pub one_text : {A : Type 0} (text : A → List E) (Fits : A → Type 0) (read : Reader E A) → Reads decide text Fits read
      → (a b : A) (x y : List E) → Fits a → Fits b → text a ++ x ≡ text b ++ y → (a ≡ b) × (x ≡ y)
  one_text text Fits read ok a b x y fa fb e =
      let ra = (ok (length (text a ++ x))).again a x (omega arith) fa in
      let rb = (ok (length (text b ++ y))).again b y (omega arith) fb in
      let both = ok_is (a, x) (b, y) (sym ra ∙ ap read e ∙ rb) in
      (ap (λ p. p.0) both, ap (λ p. p.1) both)

  -- what is said with prefixes, and with what is shared

  pub longest : {A : Type 0} (text : A → List E) (Fits : A → Type 0) (bytes : List E) (left : ℕ) → Stops decide text Fits bytes left → (left ≤ length bytes) × IsLongest text Fits bytes (length bytes - left)
  longest text Fits bytes left f = (
    omega (arith, f.most f.best.0 f.best.1),
    record {
      within = omega arith;
      begins = let b = shared-begins decide (length bytes - left) (text f.best.0) bytes (omega (arith, f.best.2)) in (f.best.0, b.0, f.best.1, b.1);
      last = λ m le b. let h = begins-shared decide m (text b.0) bytes b.1 le b.3 in omega (arith, h, f.most b.0 b.2, f.most f.best.0 f.best.1);
    },
  )

  stops_by : {A : Type 0} (text : A → List E) (Fits : A → Type 0) (bytes : List E) (left : ℕ) → left ≤ length bytes → IsLongest text Fits bytes (length bytes - left) → Stops decide text Fits bytes left
  stops_by text Fits bytes left le f =
      let b = f.begins in
      record {
        best = (b.0, b.2, omega (arith, begins-shared decide (length bytes - left) (text b.0) bytes b.1 f.within b.3));
        most = λ a fits.
            let right = shared-right decide (text a) bytes in
            let s = shared-begins decide (shared decide (text a) bytes) (text a) bytes (omega arith) in
            omega (arith, le, right, f.last (shared decide (text a) bytes) right (a, s.0, fits, s.1));
      }

  pub is_reading : {A : Type 0} (text : A → List E) (Fits : A → Type 0) (read : Reader E A) → Reads decide text Fits read → IsReading text Fits read
  is_reading text Fits read ok = record {
    takes = λ bytes a rest e. (ok (length bytes)).takes bytes a rest (omega arith) e;
    again = λ a rest fits. (ok (length (text a ++ rest))).again a rest (omega arith) fits;
    fault = λ bytes left e. longest text Fits bytes left ((ok (length bytes)).fault bytes left (omega arith) e);
  }

  pub reads_by : {A : Type 0} (text : A → List E) (Fits : A → Type 0) (read : Reader E A) → IsReading text Fits read → Reads decide text Fits read
  reads_by text Fits read ok k = record {
    takes = λ bytes a rest le e. ok.takes bytes a rest e;
    again = λ a rest le fits. ok.again a rest fits;
    fault = λ bytes left le e. let f = ok.fault bytes left e in stops_by text Fits bytes left f.0 f.1;
  }

  -- a value, and then another

  pair_fault : {A B : Type 0} (text : A → List E) (Fits : A → Type 0) (first : Reader E A)
      (more : A → B → List E) (Holds : A → B → Type 0) (bytes : List E) (left : ℕ)
      → Reads decide text Fits first → ((a : A) → Fits a → (b : B) × Holds a b) → first bytes ≡ Err left
      → Stops decide (λ (x : A × B). text x.0 ++ more x.0 x.1) (λ x. Fits x.0 × Holds x.0 x.1) bytes left
  pair_fault text Fits first more Holds bytes left ok some e =
      let f = (ok (length bytes)).fault bytes left (omega arith) e in
      let a = f.best.0 in
      let b = some a f.best.1 in
      record {
        best = ((a, b.0), (f.best.1, b.1), omega (arith, f.best.2, shared-more decide (text a) (more a b.0) bytes));
        most = λ x fits. elim (shared-cases decide (text x.0) (more x.0 x.1) bytes) [
          | inl found ↦
              let found_again = (ok (length (text x.0 ++ found.0))).again x.0 found.0 (omega arith) fits.0 in
              absurd (never first bytes x.0 found.0 left e (ap first found.1 ∙ found_again))
          | inr other ↦ omega (arith, other.0, f.most x.0 fits.0)
        ];
      }
    where
      never : {A : Type 0} (first : Reader E A) (bytes : List E) (a : A) (rest : List E) (left : ℕ) → first bytes ≡ Err left → first bytes ≡ Ok (a, rest) → ⊥
      never first bytes a rest left e f = absurd cc

  -- the field is read, and the rest stops
  pair_stops : {A B : Type 0} (text : A → List E) (Fits : A → Type 0) (first : Reader E A)
      (more : A → B → List E) (Holds : A → B → Type 0) (bytes : List E) (a : A) (rest : List E) (left : ℕ)
      → Reads decide text Fits first → Fits a → bytes ≡ text a ++ rest → Stops decide (more a) (Holds a) rest left
      → Stops decide (λ (x : A × B). text x.0 ++ more x.0 x.1) (λ x. Fits x.0 × Holds x.0 x.1) bytes left
  pair_stops text Fits first more Holds bytes a rest left ok fa front f =
      let long = ap length front ∙ length-append (text a) rest in
      record {
        best = ((a, f.best.0), (fa, f.best.1), omega (arith, f.best.2, long, ap (shared decide (text a ++ more a f.best.0)) front ∙ shared-append decide (text a) (more a f.best.0) rest));
        most = λ x fits. at_most text Fits first more Holds bytes a rest left ok fa front f x.0 x.1 fits.0 fits.1;
      }
    where
      -- another field there begins with this one, and is it
      same : {A B : Type 0} (text : A → List E) (Fits : A → Type 0) (first : Reader E A)
          (more : A → B → List E) (Holds : A → B → Type 0) (a : A) (rest : List E) (left : ℕ)
          → Fits a → Stops decide (more a) (Holds a) rest left
          → (c : A) (b : B) → Holds c b → a ≡ c → shared decide (text c ++ more c b) (text a ++ rest) + left ≤ length (text a ++ rest)
      same {A = A} {B = B} text Fits first more Holds a rest left fa f c b holds e =
          let at_a : (b : B) → Holds a b → shared decide (text a ++ more a b) (text a ++ rest) + left ≤ length (text a ++ rest) =
          λ b holds. omega (arith, f.most b holds, shared-append decide (text a) (more a b) rest, length-append (text a) rest) in
          subst (λ (c : A). (b : B) → Holds c b → shared decide (text c ++ more c b) (text a ++ rest) + left ≤ length (text a ++ rest)) e at_a b holds

      at_most : {A B : Type 0} (text : A → List E) (Fits : A → Type 0) (first : Reader E A)
          (more : A → B → List E) (Holds : A → B → Type 0) (bytes : List E) (a : A) (rest : List E) (left : ℕ)
          → Reads decide text Fits first → Fits a → bytes ≡ text a ++ rest → Stops decide (more a) (Holds a) rest left
          → (c : A) (b : B) → Fits c → Holds c b → shared decide (text c ++ more c b) bytes + left ≤ length bytes
      at_most text Fits first more Holds bytes a rest left ok fa front f c b fc holds =
          subst (λ (x : List E). shared decide (text c ++ more c b) x + left ≤ length x) (sym front)
          (elim (cases_lt (shared decide (text c) (text a ++ rest)) (length (text a))) [
            | inl short ↦ elim (shared-cases decide (text c) (more c b) (text a ++ rest)) [
              | inl found ↦
                  let one = one_text text Fits first ok a c rest found.0 fa fc found.1 in
                  same text Fits first more Holds a rest left fa f c b holds one.0
              | inr other ↦ omega (arith, other.0, short, f.best.2, shared-right decide (more a f.best.0) rest, f.most f.best.0 f.best.1, length-append (text a) rest)
            ]
            | inr long ↦
                let z = shared-front decide (text a) (text c) rest long in
                let one = one_text text Fits first ok a c z.0 [] fa fc (sym z.1 ∙ sym (append-nil (text c))) in
                same text Fits first more Holds a rest left fa f c b holds one.0
          ])

  -- the law of `pair_at`: the first field is read on all inputs, the second on those behind it
  pub pair-reading : {A B : Type 0} (k : ℕ) (text : A → List E) (Fits : A → Type 0) (first : Reader E A)
      (more : A → B → List E) (Holds : A → B → Type 0) (next : A → Reader E B)
      → Reads decide text Fits first → ((a : A) → Fits a → (b : B) × Holds a b)
      → ((a : A) (j : ℕ) → Fits a → length (text a) + j ≤ k → Reading decide j (more a) (Holds a) (next a))
      → Reading decide k (λ (x : A × B). text x.0 ++ more x.0 x.1) (λ x. Fits x.0 × Holds x.0 x.1) (pair_at first next)
  pair-reading {A = A} {B = B} k text Fits first more Holds next ok some then = record {
    takes = λ bytes x rest le e.
        let s = bind_ok (first bytes) (λ y. next y.0 y.1 >>= λ z. Ok ((y.0, z.0), z.1)) (x, rest) e in
        let r = bind_ok (next s.0.0 s.0.1) (λ z. Ok ((s.0.0, z.0), z.1)) (x, rest) s.2 in
        let t = (ok k).takes bytes s.0.0 s.0.1 le s.1 in
        let u = (then s.0.0 (length s.0.1) t.0 (omega (arith, le, ap length t.1, length-append (text s.0.0) s.0.1))).takes s.0.1 r.0.0 r.0.1 (omega arith) r.1 in
        let made : (A × B) × List E = ((s.0.0, r.0.0), r.0.1) in
        subst (λ (y : (A × B) × List E). (Fits y.0.0 × Holds y.0.0 y.0.1) × (bytes ≡ (text y.0.0 ++ more y.0.0 y.0.1) ++ y.1)) (ok_is made (x, rest) r.2)
        ((t.0, u.0), t.1 ∙ ap (λ (y : List E). text s.0.0 ++ y) u.1 ∙ sym (append_assoc (text s.0.0) (more s.0.0 r.0.0) r.0.1));
    again = λ x rest le fits.
        let split = append_assoc (text x.0) (more x.0 x.1) rest in
        let a = (ok (length (text x.0 ++ (more x.0 x.1 ++ rest)))).again x.0 (more x.0 x.1 ++ rest) (omega arith) fits.0 in
        let b = (then x.0 (length (more x.0 x.1 ++ rest)) fits.0 (omega (arith, le, ap length split, length-append (text x.0) (more x.0 x.1 ++ rest)))).again x.1 rest (omega arith) fits.1 in
        ap (pair_at first next) split ∙ rw (a, b) refl;
    fault = λ bytes left le e. elim (bind_err (first bytes) (λ y. next y.0 y.1 >>= λ z. Ok ((y.0, z.0), z.1)) left e) [
      | inl stuck ↦ pair_fault text Fits first more Holds bytes left ok some stuck
      | inr s ↦
          let t = (ok k).takes bytes s.0.0 s.0.1 le s.1 in
          elim (bind_err (next s.0.0 s.0.1) (λ z. Ok ((s.0.0, z.0), z.1)) left s.2) [
            | inl stuck ↦ pair_stops text Fits first more Holds bytes s.0.0 s.0.1 left ok t.0 t.1
                ((then s.0.0 (length s.0.1) t.0 (omega (arith, le, ap length t.1, length-append (text s.0.0) s.0.1))).fault s.0.1 left (omega arith) stuck)
            | inr r ↦ absurd (let e = r.2 in cc)
          ]
    ];
  }

  -- a value made of the one that was read

  pub made-reading : {A B : Type 0} (k : ℕ) (text : A → List E) (Fits : A → Type 0) (read : Reader E A)
      (make : A → B) (part : B → A) (text' : B → List E) (Fits' : B → Type 0)
      → ((a : A) → Fits a → Fits' (make a) × (text' (make a) ≡ text a))
      → ((b : B) → Fits' b → Fits (part b) × (make (part b) ≡ b))
      → Reading decide k text Fits read → Reading decide k text' Fits' (made_at make read)
  made-reading {A = A} {B = B} k text Fits read make part text' Fits' to from ok =
      let same_text : (b : B) → Fits' b → text' b ≡ text (part b) = λ b fits. ap text' (sym (from b fits).1) ∙ (to (part b) (from b fits).0).1 in
      record {
        takes = λ bytes b rest le e.
            let s = bind_ok (read bytes) (λ x. Ok (make x.0, x.1)) (b, rest) e in
            let t = ok.takes bytes s.0.0 s.0.1 le s.1 in
            let u = to s.0.0 t.0 in
            let made : B × List E = (make s.0.0, s.0.1) in
            subst (λ (y : B × List E). Fits' y.0 × (bytes ≡ text' y.0 ++ y.1)) (ok_is made (b, rest) s.2) (u.0, rw u.1 t.1);
        again = λ b rest le fits.
            let e = same_text b fits in
            let a = ok.again (part b) rest (rw (← e) le) (from b fits).0 in
            ap (made_at make read) (ap (λ (x : List E). x ++ rest) e) ∙ rw (a, (from b fits).1) refl;
        fault = λ bytes left le e. elim (bind_err (read bytes) (λ x. Ok (make x.0, x.1)) left e) [
          | inl stuck ↦
              let f = ok.fault bytes left le stuck in
              record {
                best = (make f.best.0, (to f.best.0 f.best.1).0, rw (to f.best.0 f.best.1).1 f.best.2);
                most = λ b fits. rw (same_text b fits) (f.most (part b) (from b fits).0);
              }
          | inr s ↦ absurd (let e = s.2 in cc)
        ];
      }

  -- a value, and then the rest, which reads the values of which this is a part

  same-reading : {A : Type 0} (k : ℕ) (text : A → List E) (Fits : A → Type 0) (read read' : Reader E A) → ((bytes : List E) → read bytes ≡ read' bytes) → Reading decide k text Fits read → Reading decide k text Fits read'
  same-reading k text Fits read read' same ok = record {
    takes = λ bytes a rest le e. ok.takes bytes a rest le (same bytes ∙ e);
    again = λ a rest le fits. sym (same (text a ++ rest)) ∙ ok.again a rest le fits;
    fault = λ bytes left le e. ok.fault bytes left le (same bytes ∙ e);
  }

  abbrev pub field_at : {A B : Type 0} → (Reader E A) → (A → Reader E B) → Reader E B
  field_at first next bytes = first bytes >>= λ x. next x.0 x.1

  abbrev second_of : {A B : Type 0} → A × B → B
  second_of x = x.1

  flat : {A B : Type 0} (first : Reader E A) (next : A → Reader E B) (bytes : List E)
      → made_at second_of (pair_at first next) bytes ≡ field_at first next bytes
  flat {A = A} {B = B} first next bytes = go (first bytes)
    where
      paired : A → B × List E → Result ((A × B) × List E) ℕ
      paired a y = Ok ((a, y.0), y.1)

      seconds : (A × B) × List E → Result (B × List E) ℕ
      seconds z = Ok (z.0.1, z.1)

      inner : (a : A) (r : Result (B × List E) ℕ) → ((r >>= paired a) >>= seconds) ≡ r
      inner a (Ok y) = refl
      inner a (Err e) = refl

      go : (r : Result (A × List E) ℕ) → ((r >>= λ x. (next x.0 x.1 >>= paired x.0)) >>= seconds) ≡ (r >>= λ x. next x.0 x.1)
      go (Ok x) = inner x.0 (next x.0 x.1)
      go (Err e) = refl

  -- `part` is the field of the value; the rest reads the values of which the field is this
  pub field-reading : {A B : Type 0} (k : ℕ) (part : B → A) (text : A → List E) (Fits : A → Type 0) (first : Reader E A)
      (more : B → List E) (Holds : B → Type 0) (next : A → Reader E B)
      → Reads decide text Fits first → ((a : A) → Fits a → (b : B) × Holds b × (part b ≡ a))
      → ((a : A) (j : ℕ) → Fits a → length (text a) + j ≤ k → Reading decide j more (λ b. Holds b × (part b ≡ a)) (next a))
      → Reading decide k (λ b. text (part b) ++ more b) (λ b. Fits (part b) × Holds b) (field_at first next)
  field-reading {A = A} {B = B} k part text Fits first more Holds next ok some then =
      same-reading k (λ b. text (part b) ++ more b) (λ b. Fits (part b) × Holds b) (made_at second_of (pair_at first next)) (field_at first next) (flat first next)
      (made-reading k (λ (x : A × B). text x.0 ++ more x.1) (λ x. Fits x.0 × (Holds x.1 × (part x.1 ≡ x.0))) (pair_at first next)
      second_of (λ b. (part b, b)) (λ b. text (part b) ++ more b) (λ b. Fits (part b) × Holds b)
      (λ x h. ((subst Fits (sym h.1.1) h.0, h.1.0), ap (λ (a : A). text a ++ more x.1) h.1.1))
      (λ b h. ((h.0, (h.1, refl)), refl))
      (pair-reading k text Fits first (λ a b. more b) (λ a b. Holds b × (part b ≡ a)) next ok (λ a fits. let h = some a fits in (h.0, (h.1, h.2))) then))

  -- the end of a `do`: the value is made
  pub end-reading : {B : Type 0} (k : ℕ) (b : B) (Is : B → Type 0) → Is b → ((c : B) → Is c → c ≡ b) → Reading decide k (λ (c : B). []) Is (λ bytes. Ok (b, bytes))
  end-reading {B = B} k b Is at_b only = record {
    takes = λ bytes c rest le e. let q = ok_is (b, bytes) (c, rest) e in subst (λ (y : B × List E). Is y.0 × (bytes ≡ y.1)) q (at_b, refl);
    again = λ c rest le is. ap (λ (y : B). fine (y, rest)) (sym (only c is));
    fault = λ bytes left le e. absurd (fail_is_fine left (b, bytes) (sym e));
  }

  -- what fits, said otherwise
  pub refits : {A : Type 0} (k : ℕ) (text : A → List E) (Fits Fits' : A → Type 0) (read : Reader E A)
      → ((a : A) → Fits a → Fits' a) → ((a : A) → Fits' a → Fits a) → Reading decide k text Fits read → Reading decide k text Fits' read
  refits k text Fits Fits' read to from ok = record {
    takes = λ bytes a rest le e. let t = ok.takes bytes a rest le e in (to a t.0, t.1);
    again = λ a rest le fits. ok.again a rest le (from a fits);
    fault = λ bytes left le e.
        let f = ok.fault bytes left le e in
        record { best = (f.best.0, to f.best.0 f.best.1, f.best.2); most = λ a fits. f.most a (from a fits) };
  }

  -- all of the items

  pub whole-reading : {A : Type 0} (text : A → List E) (Fits : A → Type 0) (read : Reader E A) → Reads decide text Fits read → IsWholeReading text Fits (whole_of read)
  whole-reading {A = A} text Fits read ok = record {
    takes = λ bytes a e.
        let s = bind_ok (read bytes) (λ x. cond (eqb (length x.1) 0) (Ok x.0) (Err (length x.1))) a e in
        let t = (ok (length bytes)).takes bytes s.0.0 s.0.1 (omega arith) s.1 in
        let g = ended (length s.0.1) s.0.0 a s.2 in
        let empty : s.0.1 ≡ [] = nil_from_length s.0.1 g.0 in
        subst (λ (y : A). Fits y × (bytes ≡ text y)) g.1 (t.0, t.1 ∙ ap (λ (y : List E). text s.0.0 ++ y) empty ∙ append-nil (text s.0.0));
    again = λ a fits. again a fits;
    fault = λ bytes left e. let l = longest text Fits bytes left (stops bytes left e) in (l.0, record { longest = l.1; none = never bytes left e });
  }
    where
      some_left : (n : ℕ) → eqb (suc n) 0 ≡ false
      some_left n = ne_eqb (suc n) 0 (λ q. omega (arith, q))

      ended : (n : ℕ) (x y : A) → cond (eqb n 0) (fine x) (Err n) ≡ Ok y → (n ≡ 0) × (x ≡ y)
      ended zero x y e = (refl, ok_is x y e)
      ended (suc n) x y e = absurd (fail_is_fine (suc n) y (rw (some_left n) at e))

      unended : (n : ℕ) (x : A) (left : ℕ) → cond (eqb n 0) (fine x) (Err n) ≡ Err left → (n ≡ left) × (0 < n)
      unended zero x left e = absurd (fail_is_fine left x (sym e))
      unended (suc n) x left e = (failed_is (suc n) left (rw (some_left n) at e), omega arith)

      again : (a : A) → Fits a → whole_of read (text a) ≡ Ok a
      again a fits =
          let r = (ok (length (text a ++ []))).again a [] (omega arith) fits in
          let q : read (text a) ≡ Ok (a, []) = ap read (sym (append-nil (text a))) ∙ r in
          rw q refl

      never : (bytes : List E) (left : ℕ) → whole_of read bytes ≡ Err left → (a : A) → Fits a → bytes ≡ text a → ⊥
      never bytes left e a fits is = let f = sym (ap (whole_of read) is ∙ again a fits) ∙ e in cc

      stops : (bytes : List E) (left : ℕ) → whole_of read bytes ≡ Err left → Stops decide text Fits bytes left
      stops bytes left e = elim (bind_err (read bytes) (λ x. cond (eqb (length x.1) 0) (Ok x.0) (Err (length x.1))) left e) [
        | inl stuck ↦ (ok (length bytes)).fault bytes left (omega arith) stuck
        | inr s ↦
            let t = (ok (length bytes)).takes bytes s.0.0 s.0.1 (omega arith) s.1 in
            let u = unended (length s.0.1) s.0.0 left s.2 in
            record {
              best = (s.0.0, t.0, omega (arith, u.0, ap length t.1 ∙ length-append (text s.0.0) s.0.1, ap (shared decide (text s.0.0)) t.1 ∙ shared-self decide (text s.0.0) s.0.1));
              most = λ c fits. omega (arith, u.0, at_most bytes s.0.0 s.0.1 t.0 t.1 u.1 u.0 c fits);
            }
      ]
        where
          at_most : (bytes : List E) (a : A) (rest : List E) → Fits a → bytes ≡ text a ++ rest → 0 < length rest → length rest ≡ left → (c : A) → Fits c → shared decide (text c) bytes + length rest ≤ length bytes
          at_most bytes a rest fa front pos is c fc =
              elim (cases_lt (length (text a)) (shared decide (text c) bytes)) [
                | inl more ↦
                    let z = shared-front decide (text a) (text c) rest (omega (arith, more, ap (shared decide (text c)) front)) in
                    let one = one_text text Fits read ok a c z.0 [] fa fc (sym z.1 ∙ sym (append-nil (text c))) in
                    absurd (omega (arith, more, shared-left decide (text c) bytes, ap (λ y. length (text y)) one.0))
                | inr less ↦ omega (arith, less, ap length front ∙ length-append (text a) rest)
              ]

  pub rest_within : {A : Type 0} (text : A → List E) (Fits : A → Type 0) (read : Reader E A) (bytes : List E) (a : A) (rest : List E) → Reads decide text Fits read → read bytes ≡ Ok (a, rest) → length rest ≤ length bytes
  rest_within text Fits read bytes a rest ok e = let t = (ok (length bytes)).takes bytes a rest (omega arith) e in omega (arith, ap length t.1 ∙ length-append (text a) rest)

  pub left_within : {A : Type 0} (text : A → List E) (Fits : A → Type 0) (read : Reader E A) (bytes : List E) (left : ℕ) → Reads decide text Fits read → read bytes ≡ Err left → left ≤ length bytes
  left_within text Fits read bytes left ok e = let f = (ok (length bytes)).fault bytes left (omega arith) e in omega (arith, f.most f.best.0 f.best.1)

  pub is_whole : {A : Type 0} (text : A → List E) (Fits : A → Type 0) (read : Reader E A) (bytes : List E) (a : A) (rest : List E) → Reads decide text Fits read → read bytes ≡ Ok (a, rest) → length rest < 1 → Fits a × (bytes ≡ text a)
  is_whole text Fits read bytes a rest ok e none =
      let t = (ok (length bytes)).takes bytes a rest (omega arith) e in
      (t.0, t.1 ∙ ap (λ (y : List E). text a ++ y) (nil_from_length rest (omega (arith, none))) ∙ append-nil (text a))

  pub has_more : {A : Type 0} (text : A → List E) (Fits : A → Type 0) (read : Reader E A) (bytes : List E) (a : A) (rest : List E) → Reads decide text Fits read → read bytes ≡ Ok (a, rest) → 1 ≤ length rest
      → IsNoText text Fits bytes (length bytes - length rest)
  has_more text Fits read bytes a rest ok e some =
      let w = whole-reading text Fits read ok in
      (w.fault bytes (length rest) (rw e (rw (ne_eqb (length rest) 0 (λ q. omega (arith, q, some))) refl))).1

  pub is_left : {A : Type 0} (text : A → List E) (Fits : A → Type 0) (read : Reader E A) (bytes : List E) (left : ℕ) → Reads decide text Fits read → read bytes ≡ Err left
      → IsNoText text Fits bytes (length bytes - left)
  is_left text Fits read bytes left ok e =
      let w = whole-reading text Fits read ok in
      (w.fault bytes left (rw e refl)).1
