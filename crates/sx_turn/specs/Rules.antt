-- The rule of the turn: what is kept, at every moment, of the table's words, its slot and all views. Word 0 counts
-- the tickets that were drawn, word 1 is the ticket that is served, and word 2 counts the numbers that were given
-- out. The slot holds the value. The value has a number that no turn changes, `fixed`. The law `rule_in_words` reads
-- the rule out in plain words, which stand in PlainRule.
use Rattle.std.specs.Prelude.{◌≡◌, ◌⊎◌, ℕ, ◌+◌, ◌^◌, ◌<◌, ◌≤◌, Bool, true, false, List, [], ◌∷◌, Option, Some, None}
use Rattle.std.specs.List.{AllByRecursion, sum_by}
use mathlib.Core.Option.{some, none}
use mathlib.Core.Option as maybe
use mathlib.Core.List.{IsPrefix}
use lib.ListN.{get_elem?}
use Rattle.atomic_table.specs.Table.{State}
use Rattle.sx_turn.specs.declared.seat.TheConstants.{MAX_SEATS}
use Rattle.sx_turn.specs.declared.rule.View.{View}
use Rattle.sx_turn.specs.Places.{places, once_below}
use Rattle.sx_turn.specs.Views.{owned_pairs, owned_count, times_owned, ticket_count}

-- what a view knows of the one list: it has seen beginnings of it, and each number that it owns has its places in it,
-- all of which it has seen
pub record FitsHistory {E : Type 0} (who : E → ℕ) (log sees : List E) (older : List (List E))
    (pairs : List (ℕ × List ℕ)) : Type 0 where
  pub seen : IsPrefix sees log
  pub olds : AllByRecursion (λ old. IsPrefix old log) older
  pub exact : AllByRecursion (λ p. (p.1 ≡ places who p.0 log) × (p.1 ≡ places who p.0 sees)) pairs

-- a ticket lies from the one that is served to before the next one; in its turn a view has the one that is served,
-- and knows the one list
pub record FitsQueue {E : Type 0} (tickets serving : ℕ) (log : List E) (drawn : Option ℕ)
    (began : Option (List E)) : Type 0 where
  pub ticket : (t : ℕ) → drawn ≡ Some t → (serving ≤ t) × (t < tickets)
  pub turn : (h : List E) → began ≡ Some h → (drawn ≡ Some serving) × (h ≡ log)

-- a view knows of no more callers than there are, and of all of them where it counted them in its turn
pub record FitsCount {E : Type 0} (callers : ℕ) (log : List E) (knows : ℕ) (began : Option (List E))
    (has_counted : Bool) : Type 0 where
  pub known : knows ≤ callers
  pub counted : has_counted ≡ true → (knows ≡ callers) × (began ≡ Some log)

-- the slot while a seat is in its turn: with the seat, or returned empty once the value was taken out for good
abbrev pub slot_content : {B : Type 0} → Bool → maybe.Option (Option B)
slot_content true = some None
slot_content false = none

module _ {E : Type 0} where
  -- what holds of each view, where the words and the list are these
  pub record Fits (who : E → ℕ) (tickets serving callers : ℕ) (log : List E) (v : View E) : Type 0 where
    pub history : FitsHistory who log v.seen v.olds (owned_pairs v)
    pub queue : FitsQueue tickets serving log v.ticket v.turn
    pub count : FitsCount callers log v.known v.turn v.counted

  -- no two views have one ticket
  abbrev pub Apart : List (View E) → Type 0
  Apart views = (i j : ℕ) (v w : View E) (t : ℕ)
      → get_elem? views i ≡ some v → get_elem? views j ≡ some w → v.ticket ≡ Some t → w.ticket ≡ Some t → i ≡ j

module _ {B E : Type 0} (stands : B → List E) (lasts : B → ℕ) (fixed : ℕ) (who : E → ℕ) where
  -- the value lies in the slot, and nobody is in its turn
  abbrev pub IsInSlot : List E → List (maybe.Option (Option B)) → List (View E) → Type 0
  IsInSlot log homes views = (y : B) × (homes ≡ some (Some y) ∷ []) × (stands y ≡ log)
      × ((j : ℕ) (v : View E) → get_elem? views j ≡ some v → v.turn ≡ None) × (lasts y ≡ fixed)

  -- the value is with a seat in its turn, or was taken out by it for good
  abbrev pub IsOut : List E → List (maybe.Option (Option B)) → List (View E) → Type 0
  IsOut log homes views = (k : ℕ) × (v : View E) × (get_elem? views k ≡ some v) × (v.turn ≡ Some log)
      × (homes ≡ slot_content v.closed ∷ [])

  -- what holds across views, where the words, the list and the slot's content are these
  pub record Holds (tickets serving callers : ℕ) (log : List E) (homes : List (maybe.Option (Option B)))
      (views : List (View E)) : Type 0 where
    -- each view fits the words and the list
    pub each : (j : ℕ) (v : View E) → get_elem? views j ≡ some v → Fits who tickets serving callers log v
    -- tickets differ
    pub apart : Apart views
    -- a view waits for each ticket that is not yet served to its end
    pub waiting : tickets ≡ serving + sum_by ticket_count views
    -- the ticket word has not come round
    pub small : tickets < 2 ^ 64
    -- each number that was given out is owned once, and no other number is owned
    pub numbers : (n : ℕ) → sum_by (times_owned n) views ≡ once_below n callers
    -- so many pairs are owned as numbers were given out
    pub shared : sum_by owned_count views ≡ callers
    -- there are 1 to 64 numbers
    pub bound : (1 ≤ callers) × (callers ≤ MAX_SEATS)
    -- some view with a number has seen the whole list
    pub whole : (k : ℕ) × (v : View E) × (n : ℕ) × (get_elem? views k ≡ some v) × (v.number ≡ Some n) × (v.seen ≡ log)
    -- each entry has a number that was given out
    pub entries : AllByRecursion (λ e. who e < callers) log
    -- what a view knows as the value's lasting number is that
    pub lasting : (j : ℕ) (v : View E) (n : ℕ) → get_elem? views j ≡ some v → v.lasting ≡ Some n → n ≡ fixed
    -- where the value is
    pub value : IsInSlot log homes views ⊎ IsOut log homes views

  -- the rule: there are three words and one list for which all of that holds
  abbrev pub Kept : State (Option B) (View E) → Type 0
  Kept s = (tickets serving callers : ℕ) × (log : List E) × (s.words ≡ tickets ∷ serving ∷ callers ∷ [])
      × Holds tickets serving callers log s.homes s.views
