-- The rule that is kept is the rule in plain words.
use Rattle.std.proofs.Common.{◌≡◌, ⊎_elim, ℕ, ◌≤◌, Bool, true, false, List, [], ◌∷◌, ap, sym, ◌∙◌, arith, Option, Some}
use mathlib.Core.Option.{some, none, some-injective}
use mathlib.Core.Option as maybe
use lib.ListN.{get_elem?}
use Rattle.std.proofs.lemmas.Bool.Decides.{nat_tests}
use Rattle.atomic_table.specs.Table.{State}
use Rattle.sx_turn.specs.declared.rule.View.{View}
use Rattle.sx_turn.specs.Places.{once_below}
use Rattle.sx_turn.specs.Views.{owned_pairs}
use Rattle.sx_turn.specs.Rules.{Kept, Holds, IsInSlot, IsOut, slot_content}
use Rattle.sx_turn.specs.PlainRule.{IsOneHistory, HasView, OneSeatIsInItsTurn, ValueIsInOnePlace}
use Rattle.sx_turn.proofs.Lists.{each_map}
use Rattle.sx_turn.proofs.Places.{once_here}

-- a number from the count on does not stand below it
none_there : (n c : ℕ) → c ≤ n → once_below n c ≡ 0
none_there n c l = grind (arith, nat_tests)

module _ {B E : Type 0} (stands : B → List E) (lasts : B → ℕ) (fixed : ℕ) (who : E → ℕ) where
  abbrev V : Type 0
  V = View E

  abbrev Slots : Type 0
  Slots = List (maybe.Option (Option B))

  -- at most one seat is in its turn
  one_turn : (a b c : ℕ) (log : List E) (homes : Slots) (vs : List V) → Holds stands lasts fixed who a b c log homes vs → OneSeatIsInItsTurn b c vs
  one_turn a b c log homes vs h = (
    (λ j v g at e. ((h.each j v at).queue.turn g e).0),
    (λ i j v w g k at there e d. h.apart i j v w b at there ((h.each i v at).queue.turn g e).0 ((h.each j w there).queue.turn k d).0),
    (λ j v at e. ((h.each j v at).count.counted e).0),
    (λ j v at. (h.each j v at).count.known),
  )

  -- the value is in one place
  one_value : (a b c : ℕ) (log : List E) (homes : Slots) (vs : List V) → Holds stands lasts fixed who a b c log homes vs → ValueIsInOnePlace stands lasts fixed log homes vs
  one_value a b c log homes vs h = (
    (λ none_in. ⊎_elim (λ (home : IsInSlot stands lasts fixed who log homes vs). (home.0, home.1, home.2, home.4)) (λ (out : IsOut stands lasts fixed who log homes vs). absurd (cc (none_in out.0 out.1 out.2, out.3))) h.value),
    (λ j v g at e. let f = (h.each j v at).queue.turn g e in (f.1, (λ still. slot j v g at e ∙ content v.closed false still), λ gone. slot j v g at e ∙ content v.closed true gone)),
  ) where
    content : (x y : Bool) → x ≡ y → slot_content {B = B} x ∷ [] ≡ slot_content y ∷ []
    content x y e = ap (λ (z : Bool). let l : Slots = slot_content z ∷ [] in l) e

    slot : (j : ℕ) (v : V) (g : List E) → HasView vs j v → v.turn ≡ Some g → homes ≡ slot_content v.closed ∷ []
    slot j v g at e = ⊎_elim
        (λ (home : IsInSlot stands lasts fixed who log homes vs). absurd (cc (home.3 j v at, e)))
        (λ (out : IsOut stands lasts fixed who log homes vs).
        let here : out.0 ≡ j = h.apart out.0 j out.1 v b out.2 at ((h.each out.0 out.1 out.2).queue.turn log out.3).0 ((h.each j v at).queue.turn g e).0 in
        let same : out.1 ≡ v = some-injective out.1 v (sym out.2 ∙ (ap (get_elem? vs) here ∙ at)) in
        out.4 ∙ content out.1.closed v.closed (ap (λ (z : V). z.closed) same))
        h.value

  -- the rule that is kept is the rule in plain words
  pub in_words : (s : State (Option B) V) → Kept stands lasts fixed who s → IsOneHistory stands lasts fixed who s
  in_words s k = let h = k.5 in record {
    tickets = k.0;
    serving = k.1;
    callers = k.2;
    log = k.3;
    words = k.4;
    tickets_differ = (h.waiting, (λ j v t at e. (h.each j v at).queue.ticket t e), h.apart);
    one_turn = one_turn k.0 k.1 k.2 k.3 s.homes s.views h;
    numbers_once = ((λ n l. h.numbers n ∙ once_here n k.2 l), (λ n l. h.numbers n ∙ none_there n k.2 l), h.bound.0, h.bound.1);
    one_value = one_value k.0 k.1 k.2 k.3 s.homes s.views h;
    one_number = h.lasting;
    beginnings = ((λ j v at. let f = (h.each j v at).history in (f.seen, f.olds)), h.whole);
    exact_places = ((λ j v at. each_map _ _ (λ p q. q.0) (owned_pairs v) (h.each j v at).history.exact), h.entries);
  }
