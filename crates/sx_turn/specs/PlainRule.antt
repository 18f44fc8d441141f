-- The rule of the turn in plain words. It speaks of the table: three words, one slot, and the view of each seat that
-- was ever made. The view of a seat that joined another is left with nothing. The list of entries for which the value
-- stands is called the log.
use Rattle.std.specs.Prelude.{◌≡◌, ℕ, ◌+◌, ◌<◌, ◌≤◌, true, false, List, [], ◌∷◌, Option, Some, None}
use Rattle.std.specs.List.{AllByRecursion, sum_by}
use mathlib.Core.Option.{some, none}
use mathlib.Core.Option as maybe
use mathlib.Core.List.{IsPrefix}
use lib.ListN.{get_elem?}
use Rattle.atomic_table.specs.Table.{State}
use Rattle.sx_turn.specs.declared.seat.TheConstants.{MAX_SEATS}
use Rattle.sx_turn.specs.declared.rule.View.{View}
use Rattle.sx_turn.specs.Views.{times_owned, ticket_count, OwnsPlacesIn}

module _ {E : Type 0} where
  -- seat j has the view v
  abbrev pub HasView : List (View E) → ℕ → View E → Type 0
  HasView views j v = get_elem? views j ≡ some v

  -- The tickets that were drawn are those that were served and one for each seat that waits.
  -- Those lie from the one that is served to before the next one, and no two seats have the same.
  abbrev pub TicketsDiffer : ℕ → ℕ → List (View E) → Type 0
  TicketsDiffer tickets serving views = (tickets ≡ serving + sum_by ticket_count views)
      × ((j : ℕ) (v : View E) (t : ℕ) → HasView views j v → v.ticket ≡ Some t → (serving ≤ t) × (t < tickets))
      × ((i j : ℕ) (v w : View E) (t : ℕ) → HasView views i v → HasView views j w → v.ticket ≡ Some t
      → w.ticket ≡ Some t → i ≡ j)

  -- A seat in its turn has the ticket that is served, so one seat at most is in its turn.
  -- The count of callers that it took in its turn is the count now, and no seat knows of more callers than there are.
  abbrev pub OneSeatIsInItsTurn : ℕ → ℕ → List (View E) → Type 0
  OneSeatIsInItsTurn serving callers views
      = ((j : ℕ) (v : View E) (h : List E) → HasView views j v → v.turn ≡ Some h → v.ticket ≡ Some serving)
      × ((i j : ℕ) (v w : View E) (g h : List E) → HasView views i v → HasView views j w → v.turn ≡ Some g
      → w.turn ≡ Some h → i ≡ j)
      × ((j : ℕ) (v : View E) → HasView views j v → v.counted ≡ true → v.known ≡ callers)
      × ((j : ℕ) (v : View E) → HasView views j v → v.known ≤ callers)

  -- Each number below the count of callers is owned by one seat, once. No other number is owned. There are 1 to 64
  -- numbers.
  abbrev pub NumbersAreOwnedOnce : ℕ → List (View E) → Type 0
  NumbersAreOwnedOnce callers views = ((n : ℕ) → n < callers → sum_by (times_owned n) views ≡ 1)
      × ((n : ℕ) → callers ≤ n → sum_by (times_owned n) views ≡ 0) × (1 ≤ callers) × (callers ≤ MAX_SEATS)

  -- While nobody is in its turn the value lies in the slot, stands for the log, and has the lasting number. A seat in
  -- its turn knows the log, and the slot is out with it; once it has taken the value out for good, the slot is back
  -- and empty.
  abbrev pub ValueIsInOnePlace : {B : Type 0} → (B → List E) → (B → ℕ) → ℕ → List E → List (maybe.Option (Option B))
      → List (View E) → Type 0
  ValueIsInOnePlace {B} stands lasts fixed log homes views = (((j : ℕ) (v : View E) → HasView views j v → v.turn ≡ None)
      → (y : B) × (homes ≡ some (Some y) ∷ []) × (stands y ≡ log) × (lasts y ≡ fixed))
      × ((j : ℕ) (v : View E) (h : List E) → HasView views j v → v.turn ≡ Some h
      → (h ≡ log) × (v.closed ≡ false → homes ≡ none ∷ []) × (v.closed ≡ true → homes ≡ some None ∷ []))

  -- A seat that knows the value's lasting number knows the right one.
  abbrev pub LastingNumberIsKnown : ℕ → List (View E) → Type 0
  LastingNumberIsKnown fixed views = (j : ℕ) (v : View E) (n : ℕ) → HasView views j v → v.lasting ≡ Some n → n ≡ fixed

  -- What any seat has seen is a beginning of the log, and so is what both seats had seen at its last join.
  -- Some seat with a number has seen all of the log.
  abbrev pub AllSeeBeginnings : List E → List (View E) → Type 0
  AllSeeBeginnings log views
      = ((j : ℕ) (v : View E) → HasView views j v → IsPrefix v.seen log
      × AllByRecursion (λ old. IsPrefix old log) v.olds)
      × ((j : ℕ) × (v : View E) × (n : ℕ) × HasView views j v × (v.number ≡ Some n) × (v.seen ≡ log))

  -- With each owned number stand the places of its entries in the log, all and no others.
  -- Each entry of the log has a number that was given out.
  abbrev pub PlacesAreExact : (E → ℕ) → ℕ → List E → List (View E) → Type 0
  PlacesAreExact who callers log views = ((j : ℕ) (v : View E) → HasView views j v → OwnsPlacesIn who log v)
      × AllByRecursion (λ e. who e < callers) log

-- The whole rule: the words count the tickets, tell the one that is served and count the callers, and there is one
-- log, of which all seven parts hold.
pub record IsOneHistory {B E : Type 0} (stands : B → List E) (lasts : B → ℕ) (fixed : ℕ) (who : E → ℕ)
    (s : State (Option B) (View E)) : Type 0 where
  pub tickets : ℕ
  pub serving : ℕ
  pub callers : ℕ
  pub log : List E
  pub words : s.words ≡ tickets ∷ serving ∷ callers ∷ []
  pub tickets_differ : TicketsDiffer tickets serving s.views
  pub one_turn : OneSeatIsInItsTurn serving callers s.views
  pub numbers_once : NumbersAreOwnedOnce callers s.views
  pub one_value : ValueIsInOnePlace stands lasts fixed log s.homes s.views
  pub one_number : LastingNumberIsKnown fixed s.views
  pub beginnings : AllSeeBeginnings log s.views
  pub exact_places : PlacesAreExact who callers log s.views
