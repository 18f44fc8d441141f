-- Texts that are gathered one behind another.
use Rattle.std.proofs.Common.{ℕ, suc, ◌+◌, ◌<◌, ◌≤◌, ◌≡◌, List, [], ◌∷◌, ◌++◌, length, get_or, drop, Result, Ok, Err, refl, sym, ap, ◌∙◌, append_assoc, subst}
use Rattle.std.proofs.lemmas.List.{append-nil, drop_all}
use Rattle.std.specs.List.{flat_map}
use Rattle.sx_base.specs.Sink.{Prints}
use Rattle.sx_base.specs.Printer.{PrintsFront, Gathers}
use Rattle.sx_base.proofs.Writing.{prints_none, prints_more, prints_front}
use Rattle.sx_base.proofs.Printing.{front_none, front_gathered, front_last, gathered_stops, flat_map_rest}

-- what was held is printed, then the text itself, and nothing is held
pub gathered_put : {K E : Type 0} (wrote : K → List ℕ → Type 0) (count : K → ℕ) (puts : K → K → Type 0)
    (more : (a b c : K) → puts a b → puts b c → puts a c) (a b c : K) (held held' text : List ℕ) (result : Result (Unit {0}) E)
    → Prints {T = Unit {0}} {E = E} wrote count puts a b held (Ok tt) → Prints wrote count puts b c text result → held' ≡ []
    → Gathers wrote count puts a c held held' text result
gathered_put wrote count puts more a b c held held' text (Ok done) p q e = record {
  front = held ++ text;
  prints = prints_more wrote count puts more a b c held text tt (Ok tt) p q;
  whole = sym (append-nil (held ++ text)) ∙ ap (λ (t : List ℕ). (held ++ text) ++ t) (sym e);
}
gathered_put wrote count puts more a b c held held' text (Err fault) p q e =
    prints_more wrote count puts more a b c held text tt (Err fault) p q

-- nothing is gathered
pub gathers_none : {K : Type 0} (E : Type 0) (wrote : K → List ℕ → Type 0) (count : K → ℕ) (puts : K → K → Type 0)
    (none : (a : K) → puts a a) (a : K) (held : List ℕ)
    → Gathers {E = E} wrote count puts a a held held [] (Ok tt)
gathers_none E wrote count puts none a held = record {
  front = [];
  prints = prints_none {E = E} wrote count puts none a tt;
  whole = append-nil held;
}

-- one text is gathered behind another
pub gathers_more : {K E : Type 0} (wrote : K → List ℕ → Type 0) (count : K → ℕ) (puts : K → K → Type 0)
    (more : (a b c : K) → puts a b → puts b c → puts a c) (a b c : K) (held held' held'' x y : List ℕ) (result : Result (Unit {0}) E)
    → Gathers {E = E} wrote count puts a b held held' x (Ok tt) → Gathers wrote count puts b c held' held'' y result
    → Gathers wrote count puts a c held held'' (x ++ y) result
gathers_more {E = E} wrote count puts more a b c held held' held'' x y (Ok done) p q = record {
  front = p.front ++ q.front;
  prints = prints_more wrote count puts more a b c p.front q.front tt (Ok tt) p.prints q.prints;
  whole = sym (append_assoc held x y) ∙ ap (λ (t : List ℕ). t ++ y) p.whole ∙ append_assoc p.front held' y
      ∙ ap (λ (t : List ℕ). p.front ++ t) q.whole ∙ sym (append_assoc p.front q.front held'');
}
gathers_more {E = E} wrote count puts more a b c held held' held'' x y (Err fault) p q =
    subst (λ (t : List ℕ). Prints {T = Unit {0}} wrote count puts a c t (Err fault))
    (sym (append_assoc p.front held' y) ∙ ap (λ (t : List ℕ). t ++ y) (sym p.whole) ∙ append_assoc held x y)
    (prints_more wrote count puts more a b c p.front (held' ++ y) tt (Err fault) p.prints q)

-- the gathering failed in the first of two texts
pub gathers_stop : {K E : Type 0} (wrote : K → List ℕ → Type 0) (count : K → ℕ) (puts : K → K → Type 0)
    (a b : K) (held held' held'' x y : List ℕ) (fault : E)
    → Gathers wrote count puts a b held held' x (Err fault) → Gathers wrote count puts a b held held'' (x ++ y) (Err fault)
gathers_stop wrote count puts a b held held' held'' x y fault p =
    subst (λ (t : List ℕ). Prints {T = Unit {0}} wrote count puts a b t (Err fault)) (append_assoc held x y)
    (prints_front wrote count puts a b (held ++ x) y fault p)

-- what was gathered is put at last
pub gathered_last : {K E : Type 0} (wrote : K → List ℕ → Type 0) (count : K → ℕ) (puts : K → K → Type 0)
    (more : (a b c : K) → puts a b → puts b c → puts a c) (a b c : K) (held text : List ℕ) (result : Result (Unit {0}) E)
    → Gathers {E = E} wrote count puts a b [] held text (Ok tt) → Prints wrote count puts b c held result
    → Prints wrote count puts a c text result
gathered_last {E = E} wrote count puts more a b c held text result p q =
    front_last E wrote count puts more a b c text held result p q

module _ {K X : Type 0} (E : Type 0) (wrote : K → List ℕ → Type 0) (count : K → ℕ) (puts : K → K → Type 0)
    (more : (a b c : K) → puts a b → puts b c → puts a c) (f : X → List ℕ) where
  -- so many items are gathered, and the rest is left
  abbrev pub HasGathered : K → K → List ℕ → List ℕ → List X → ℕ → Type 0
  HasGathered a b held held' xs i =
      PrintsFront E wrote count puts a b (held ++ flat_map f xs) (held' ++ flat_map f (drop i xs))

  -- the gathering failed at the next item
  pub item_stops : (a b c : K) (held held' held'' : List ℕ) (xs : List X) (i : ℕ) (d : X) (fault : E)
      → i < length xs → HasGathered a b held held' xs i
      → Gathers wrote count puts b c held' held'' (f (get_or xs i d)) (Err fault)
      → Prints {T = Unit {0}} wrote count puts a c (held ++ flat_map f xs) (Err fault)
  item_stops a b c held held' held'' xs i d fault lt p h =
      gathered_stops E wrote count puts more a b c (held ++ flat_map f xs) held' (f (get_or xs i d)) (flat_map f (drop (i + 1) xs)) fault
      (subst (λ (t : List ℕ). PrintsFront E wrote count puts a b (held ++ flat_map f xs) (held' ++ t)) (flat_map_rest f xs i d lt) p) h

  -- one item more is gathered
  pub item_more : (a b c : K) (held held' held'' : List ℕ) (xs : List X) (i : ℕ) (d : X)
      → i < length xs → HasGathered a b held held' xs i
      → Gathers {E = E} wrote count puts b c held' held'' (f (get_or xs i d)) (Ok tt)
      → HasGathered a c held held'' xs (i + 1)
  item_more a b c held held' held'' xs i d lt p h =
      front_gathered E wrote count puts more a b c (held ++ flat_map f xs) held' held'' (f (get_or xs i d)) (flat_map f (drop (i + 1) xs))
      (subst (λ (t : List ℕ). PrintsFront E wrote count puts a b (held ++ flat_map f xs) (held' ++ t)) (flat_map_rest f xs i d lt) p) h

  -- all items are gathered
  pub items_done : (a b : K) (held held' : List ℕ) (xs : List X) (i : ℕ) → length xs ≤ i → HasGathered a b held held' xs i
      → PrintsFront E wrote count puts a b (held ++ flat_map f xs) held'
  items_done a b held held' xs i le p =
      subst (λ (t : List ℕ). PrintsFront E wrote count puts a b (held ++ flat_map f xs) t)
      (ap (λ (r : List ℕ). held' ++ r) (ap (flat_map f) (drop_all i xs le)) ∙ append-nil held') p

  -- the same of an item that is known by its place
  pub struct_stops : (a b c : K) (held held' held'' : List ℕ) (xs : List X) (i : ℕ) (x : X) (fault : E)
      → i < length xs → x ≡ get_or xs i x → HasGathered a b held held' xs i
      → Gathers wrote count puts b c held' held'' (f x) (Err fault)
      → Prints {T = Unit {0}} wrote count puts a c (held ++ flat_map f xs) (Err fault)
  struct_stops a b c held held' held'' xs i x fault lt is p h =
      item_stops a b c held held' held'' xs i x fault lt p
      (subst (λ (y : X). Gathers {E = E} wrote count puts b c held' held'' (f y) (Err fault)) is h)

  pub struct_more : (a b c : K) (held held' held'' : List ℕ) (xs : List X) (i : ℕ) (x : X)
      → i < length xs → x ≡ get_or xs i x → HasGathered a b held held' xs i
      → Gathers {E = E} wrote count puts b c held' held'' (f x) (Ok tt)
      → HasGathered a c held held'' xs (i + 1)
  struct_more a b c held held' held'' xs i x lt is p h =
      item_more a b c held held' held'' xs i x lt p
      (subst (λ (y : X). Gathers {E = E} wrote count puts b c held' held'' (f y) (Ok tt)) is h)
