-- One writing after another.
use Rattle.std.proofs.Common.{ℕ, ◌≡◌, List, [], ◌∷◌, ◌++◌, length, take, drop, Result, Ok, Err, refl, sym, ap, ◌∙◌, subst, append_assoc, arith}
use Rattle.std.specs.declared.option.Option.{Option}
use Rattle.std.specs.declared.option.Option.TheVariants.{None, Some}
use Rattle.std.specs.Io.KnownBytes.{Keeps, Appends}
use Rattle.std.proofs.lemmas.List.{append-nil, take-append-drop}
use Rattle.std.proofs.lemmas.Option.{same_Some, none-some}
use Rattle.sx_base.specs.Output.{holds}
use Rattle.sx_base.specs.Causes.{HasCause}
use Rattle.sx_base.specs.Sink.{Writes, WritesPrefix, Prints}

-- the second text behind the first
pub writes_more : {K : Type 0} (wrote : K → List ℕ → Type 0) (a b c : K) (x y : List ℕ)
    → Writes wrote a b x → Writes wrote b c y → Writes wrote a c (x ++ y)
writes_more wrote a b c x y h k = record { behind = λ m w. subst (wrote c) (append_assoc m x y) (k.behind (m ++ x) (h.behind m w)) }

-- a prefix of the second text behind the first
pub prefix_more : {K : Type 0} (wrote : K → List ℕ → Type 0) (a b c : K) (x y : List ℕ)
    → Writes wrote a b x → WritesPrefix wrote b c y → WritesPrefix wrote a c (x ++ y)
prefix_more wrote a b c x y h k = record {
  behind = λ m w.
      let p = k.behind (m ++ x) (h.behind m w) in
      (x ++ p.0, (p.1.0, append_assoc x p.0 p.1.0 ∙ ap (λ (t : List ℕ). x ++ t) p.1.1), subst (wrote c) (append_assoc m x p.0) p.2);
}

-- a prefix of a text is one of each longer text
pub prefix_longer : {K : Type 0} (wrote : K → List ℕ → Type 0) (a b : K) (x y : List ℕ)
    → WritesPrefix wrote a b x → WritesPrefix wrote a b (x ++ y)
prefix_longer wrote a b x y h = record {
  behind = λ m w.
      let p = h.behind m w in
      (p.0, (p.1.0 ++ y, sym (append_assoc p.0 p.1.0 y) ∙ ap (λ (t : List ℕ). t ++ y) p.1.1), p.2);
}

-- bytes were appended to those that a writer is known to hold
appends_some : (x y : Option (List ℕ)) (before bytes : List ℕ) → Appends x y bytes → x ≡ Some before → y ≡ Some (before ++ bytes)
appends_some None y before bytes h e = absurd (none-some before e)
appends_some (Some xs) None before bytes h e = absurd h
appends_some (Some xs) (Some ys) before bytes h e = ap Some (h ∙ ap (λ (t : List ℕ). t ++ bytes) (same_Some xs before e))

pub writes_appended : {W : Type 0} (contents : W → Option (List ℕ)) (a b : W) (bytes : List ℕ)
    → Appends (contents a) (contents b) bytes → Writes (holds contents) a b bytes
writes_appended contents a b bytes h = record { behind = λ before e. appends_some (contents a) (contents b) before bytes h e }

length_nil : (xs : List ℕ) → length xs ≡ 0 → xs ≡ []
length_nil [] e = refl
length_nil (x ∷ xs) e = absurd (omega (arith, e))

-- a front of a text is written, and the rest is left
pub record WritesFront {K : Type 0} (wrote : K → List ℕ → Type 0) (old new : K) (text rest : List ℕ) : Type 0 where
  pub front : List ℕ
  pub writes : Writes wrote old new front
  pub whole : text ≡ front ++ rest

-- nothing is written yet
pub starts_front : {K : Type 0} (wrote : K → List ℕ → Type 0) (a : K) (text : List ℕ) → WritesFront wrote a a text text
starts_front wrote a text = record { front = []; writes = record { behind = λ m w. subst (wrote a) (sym (append-nil m)) w }; whole = refl }

-- so many bytes more
pub writes_some : {K : Type 0} (wrote : K → List ℕ → Type 0) (a b c : K) (text rest : List ℕ) (n : ℕ)
    → WritesFront wrote a b text rest → Writes wrote b c (take n rest) → WritesFront wrote a c text (drop n rest)
writes_some wrote a b c text rest n p h = record {
  front = p.front ++ take n rest;
  writes = writes_more wrote a b c p.front (take n rest) p.writes h;
  whole = p.whole ∙ ap (λ (t : List ℕ). p.front ++ t) (sym (take-append-drop n rest)) ∙ sym (append_assoc p.front (take n rest) (drop n rest));
}

-- it stops here
pub writes_stopped : {K : Type 0} (wrote : K → List ℕ → Type 0) (a b : K) (text rest : List ℕ) → WritesFront wrote a b text rest → WritesPrefix wrote a b text
writes_stopped wrote a b text rest p = record { behind = λ m w. (p.front, (rest, sym p.whole), p.writes.behind m w) }

-- nothing more was written, and it stops here
pub writes_ended : {K : Type 0} (wrote : K → List ℕ → Type 0) (a b c : K) (text rest : List ℕ)
    → WritesFront wrote a b text rest → Writes wrote b c [] → WritesPrefix wrote a c text
writes_ended wrote a b c text rest p h = record {
  behind = λ m w. (p.front, (rest, sym p.whole), subst (wrote c) (append-nil (m ++ p.front)) (h.behind (m ++ p.front) (p.writes.behind m w)));
}

-- no byte is left
pub writes_whole : {K : Type 0} (wrote : K → List ℕ → Type 0) (a b : K) (text rest : List ℕ) → length rest ≡ 0 → WritesFront wrote a b text rest → Writes wrote a b text
writes_whole wrote a b text rest e p =
    subst (Writes wrote a b) (sym (p.whole ∙ ap (λ (r : List ℕ). p.front ++ r) (length_nil rest e) ∙ append-nil p.front)) p.writes

-- the cause of a second answer counts from before the first one, which was no failure
pub cause_more : {T U E : Type 0} (a b c : ℕ) (first : T) (result : Result U E)
    → HasCause {E = E} a b (Ok first) → HasCause b c result → HasCause a c result
cause_more a b c first result h k = subst (λ (n : ℕ). HasCause n c result) h.kept k

-- nothing is printed
pub prints_none : {K T E : Type 0} (wrote : K → List ℕ → Type 0) (count : K → ℕ) (puts : K → K → Type 0)
    (none : (a : K) → puts a a) (a : K) (done : T) → Prints {E = E} wrote count puts a a [] (Ok done)
prints_none wrote count puts none a done = record {
  ok = record { behind = λ m w. subst (wrote a) (sym (append-nil m)) w };
  err = tt;
  cause = record { later = omega arith; failed = tt; kept = refl };
  step = none a;
}

-- the second text is printed behind the first, or a prefix of it
pub prints_more : {K T U E : Type 0} (wrote : K → List ℕ → Type 0) (count : K → ℕ) (puts : K → K → Type 0)
    (more : (a b c : K) → puts a b → puts b c → puts a c) (a b c : K) (x y : List ℕ) (first : T) (result : Result U E)
    → Prints {E = E} wrote count puts a b x (Ok first) → Prints wrote count puts b c y result → Prints wrote count puts a c (x ++ y) result
prints_more {E = E} wrote count puts more a b c x y first (Ok done) h k = record {
  ok = writes_more wrote a b c x y h.ok k.ok;
  err = tt;
  cause = cause_more (count a) (count b) (count c) first (Ok done) h.cause k.cause;
  step = more a b c h.step k.step;
}
prints_more {E = E} wrote count puts more a b c x y first (Err fault) h k = record {
  ok = tt;
  err = prefix_more wrote a b c x y h.ok k.err;
  cause = cause_more (count a) (count b) (count c) first (Err fault) h.cause k.cause;
  step = more a b c h.step k.step;
}

-- the printing of a longer text failed where the printing of its front did
pub prints_front : {K T U E : Type 0} (wrote : K → List ℕ → Type 0) (count : K → ℕ) (puts : K → K → Type 0) (a b : K)
    (x y : List ℕ) (fault : E) → Prints {T = T} wrote count puts a b x (Err fault) → Prints {T = U} wrote count puts a b (x ++ y) (Err fault)
prints_front wrote count puts a b x y fault h = record {
  ok = tt;
  err = prefix_longer wrote a b x y h.err;
  cause = record { later = h.cause.later; failed = h.cause.failed; kept = tt };
  step = h.step;
}
