-- A text that is printed piece by piece.
use Rattle.std.proofs.Common.{ℕ, suc, ◌+◌, ◌<◌, ◌≤◌, ◌≡◌, List, [], ◌∷◌, ◌++◌, length, get_or, drop, Result, Ok, Err, refl, sym, ap, ◌∙◌, append_assoc, add-one, subst}
use Rattle.std.proofs.lemmas.List.{append-nil, drop_all}
use Rattle.std.specs.List.{flat_map}
use Rattle.std.proofs.Math.Seq.{drop-cons}
use Rattle.hex.specs.Hex.{encode_with, encode_lower, lower_digits}
use Rattle.sx_base.specs.Sink.{Prints}
use Rattle.sx_base.specs.Printer.{PrintsFront, Gathers}
use Rattle.sx_base.proofs.Writing.{prints_none, prints_more, prints_front}

-- nothing is printed yet
pub front_none : {K : Type 0} (E : Type 0) (wrote : K → List ℕ → Type 0) (count : K → ℕ) (puts : K → K → Type 0)
    (none : (a : K) → puts a a) (a : K) (text : List ℕ) → PrintsFront E wrote count puts a a text text
front_none E wrote count puts none a text = record {
  front = [];
  prints = prints_none {E = E} wrote count puts none a tt;
  whole = refl;
}

-- one piece more is printed
pub front_more : {K : Type 0} (E : Type 0) (wrote : K → List ℕ → Type 0) (count : K → ℕ) (puts : K → K → Type 0)
    (more : (a b c : K) → puts a b → puts b c → puts a c) (a b c : K) (text next rest : List ℕ)
    → PrintsFront E wrote count puts a b text (next ++ rest) → Prints {T = Unit {0}} {E = E} wrote count puts b c next (Ok tt)
    → PrintsFront E wrote count puts a c text rest
front_more E wrote count puts more a b c text next rest p h = record {
  front = p.front ++ next;
  prints = prints_more wrote count puts more a b c p.front next tt (Ok tt) p.prints h;
  whole = p.whole ∙ sym (append_assoc p.front next rest);
}

-- the printing failed in the next piece
pub front_stops : {K : Type 0} (E : Type 0) (wrote : K → List ℕ → Type 0) (count : K → ℕ) (puts : K → K → Type 0)
    (more : (a b c : K) → puts a b → puts b c → puts a c) (a b c : K) (text next rest : List ℕ) (fault : E)
    → PrintsFront E wrote count puts a b text (next ++ rest) → Prints {T = Unit {0}} wrote count puts b c next (Err fault)
    → Prints {T = Unit {0}} wrote count puts a c text (Err fault)
front_stops E wrote count puts more a b c text next rest fault p h =
    subst (λ (t : List ℕ). Prints {T = Unit {0}} wrote count puts a c t (Err fault)) (append_assoc p.front next rest ∙ sym p.whole)
    (prints_front wrote count puts a c (p.front ++ next) rest fault (prints_more wrote count puts more a b c p.front next tt (Err fault) p.prints h))

-- the last piece is printed, or its printing failed
pub front_last : {K : Type 0} (E : Type 0) (wrote : K → List ℕ → Type 0) (count : K → ℕ) (puts : K → K → Type 0)
    (more : (a b c : K) → puts a b → puts b c → puts a c) (a b c : K) (text next : List ℕ) (result : Result (Unit {0}) E)
    → PrintsFront E wrote count puts a b text next → Prints wrote count puts b c next result → Prints wrote count puts a c text result
front_last E wrote count puts more a b c text next result p h =
    subst (λ (t : List ℕ). Prints wrote count puts a c t result) (sym p.whole)
    (prints_more wrote count puts more a b c p.front next tt result p.prints h)

-- all of it is printed
pub front_all : {K : Type 0} (E : Type 0) (wrote : K → List ℕ → Type 0) (count : K → ℕ) (puts : K → K → Type 0) (a b : K) (text rest : List ℕ)
    → rest ≡ [] → PrintsFront E wrote count puts a b text rest → Prints {T = Unit {0}} {E = E} wrote count puts a b text (Ok tt)
front_all E wrote count puts a b text rest e p =
    subst (λ (t : List ℕ). Prints {T = Unit {0}} {E = E} wrote count puts a b t (Ok tt))
    (sym (p.whole ∙ ap (λ (r : List ℕ). p.front ++ r) e ∙ append-nil p.front)) p.prints

-- the next piece is gathered, of which a front may be printed
pub front_gathered : {K : Type 0} (E : Type 0) (wrote : K → List ℕ → Type 0) (count : K → ℕ) (puts : K → K → Type 0)
    (more : (a b c : K) → puts a b → puts b c → puts a c) (a b c : K) (whole held held' text rest : List ℕ)
    → PrintsFront E wrote count puts a b whole (held ++ (text ++ rest)) → PrintsFront E wrote count puts b c (held ++ text) held'
    → PrintsFront E wrote count puts a c whole (held' ++ rest)
front_gathered E wrote count puts more a b c whole held held' text rest p q = record {
  front = p.front ++ q.front;
  prints = prints_more wrote count puts more a b c p.front q.front tt (Ok tt) p.prints q.prints;
  whole = p.whole
      ∙ ap (λ (t : List ℕ). p.front ++ t) (sym (append_assoc held text rest) ∙ ap (λ (t : List ℕ). t ++ rest) q.whole ∙ append_assoc q.front held' rest)
      ∙ sym (append_assoc p.front q.front (held' ++ rest));
}

-- the printing failed where the next piece was gathered
pub gathered_stops : {K : Type 0} (E : Type 0) (wrote : K → List ℕ → Type 0) (count : K → ℕ) (puts : K → K → Type 0)
    (more : (a b c : K) → puts a b → puts b c → puts a c) (a b c : K) (whole held text rest : List ℕ) (fault : E)
    → PrintsFront E wrote count puts a b whole (held ++ (text ++ rest)) → Prints {T = Unit {0}} wrote count puts b c (held ++ text) (Err fault)
    → Prints {T = Unit {0}} wrote count puts a c whole (Err fault)
gathered_stops E wrote count puts more a b c whole held text rest fault p h =
    front_stops E wrote count puts more a b c whole (held ++ text) rest fault
    (subst (λ (t : List ℕ). PrintsFront E wrote count puts a b whole t) (sym (append_assoc held text rest)) p) h

-- what was held is printed, and then the next piece is gathered alone
pub gathered_next : {K : Type 0} (E : Type 0) (wrote : K → List ℕ → Type 0) (count : K → ℕ) (puts : K → K → Type 0)
    (more : (a b c : K) → puts a b → puts b c → puts a c) (a b c : K) (held held' text : List ℕ) (result : Result (Unit {0}) E)
    → Prints {T = Unit {0}} {E = E} wrote count puts a b held (Ok tt) → Gathers wrote count puts b c [] held' text result
    → Gathers wrote count puts a c held held' text result
gathered_next E wrote count puts more a b c held held' text (Ok done) p q = record {
  front = held ++ q.front;
  prints = prints_more wrote count puts more a b c held q.front tt (Ok tt) p q.prints;
  whole = ap (λ (t : List ℕ). held ++ t) q.whole ∙ sym (append_assoc held q.front held');
}
gathered_next E wrote count puts more a b c held held' text (Err fault) p q = prints_more wrote count puts more a b c held text tt (Err fault) p q

-- the first of the texts that are left
pub flat_map_rest : {X : Type 0} (f : X → List ℕ) (xs : List X) (i : ℕ) (d : X)
    → i < length xs → flat_map f (drop i xs) ≡ f (get_or xs i d) ++ flat_map f (drop (i + 1) xs)
flat_map_rest f xs i d h = rw add-one (ap (flat_map f) (drop-cons xs i d h))

encode_cons : (t : List ℕ) (b : ℕ) (rest : List ℕ) → encode_with t (b ∷ rest) ≡ encode_with t (b ∷ []) ++ encode_with t rest
unfolding encode_with
encode_cons t b rest = refl

-- the digits of the first byte that is left
pub encode_rest : (xs : List ℕ) (i : ℕ) (d : ℕ)
    → i < length xs → encode_lower (drop i xs) ≡ encode_lower (get_or xs i d ∷ []) ++ encode_lower (drop (i + 1) xs)
encode_rest xs i d h = rw add-one (ap (λ (ys : List ℕ). encode_lower ys) (drop-cons xs i d h) ∙ encode_cons lower_digits (get_or xs i d) (drop (suc i) xs))

-- no digits are left
pub encode_past : (xs : List ℕ) (i : ℕ) → length xs ≤ i → encode_lower (drop i xs) ≡ []
unfolding encode_with
encode_past xs i h = ap (λ (ys : List ℕ). encode_lower ys) (drop_all i xs h)
