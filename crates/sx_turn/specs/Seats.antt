-- What contracts see of a seat.
use Rattle.std.specs.Prelude.{◌≡◌, ◌⊎◌, ℕ, ◌+◌, ◌<◌, ◌≤◌, false, List, [], ◌∷◌, ◌++◌, length, max, Option, Some, None}
use Rattle.std.specs.List.{AllByRecursion}
use Rattle.atomic_table.specs.Table.{Me}
pub use Rattle.atomic_table.specs.Seated.{TableId}
use Rattle.sx_turn.specs.declared.seat.TheConstants.{MAX_SEATS}
use Rattle.sx_turn.specs.declared.rule.View.{View}
use Rattle.sx_turn.specs.Places.{places, times, once_below, places_grown, longer}
use Rattle.sx_turn.specs.Views.{owned_pairs, owned_count}

-- a seat: which turn it belongs to, its number, the list that it has seen, the places of its own entries there, the
-- numbers and places of the seats that joined it, how many numbers it knows to have been given out, the value's
-- number that no turn changes, and, while it has the value, the list for which that stood when it was taken
pub record SeatView (E : Type 0) : Type 0 where
  pub turn : TableId
  pub number : ℕ
  pub seen : List E
  pub mine : List ℕ
  pub ended : List (ℕ × List ℕ)
  pub known : ℕ
  pub lasting : ℕ
  pub taken : Option (List E)

module _ {E : Type 0} where
  -- each number that the seat owns with the places kept for it: its own number, and those of the seats that joined it
  abbrev pub pairs_of : SeatView E → List (ℕ × List ℕ)
  pairs_of s = (s.number, s.mine) ∷ s.ended

  -- each of the seat's numbers has exactly the places in the list that are kept for it
  abbrev pub HasPlacesIn : (E → ℕ) → List E → SeatView E → Type 0
  HasPlacesIn who log s = AllByRecursion (λ p. p.1 ≡ places who p.0 log) (pairs_of s)

  -- the places kept are exact in what the seat has seen
  abbrev pub IsExact : (E → ℕ) → SeatView E → Type 0
  IsExact who s = HasPlacesIn who s.seen s

  -- each of the seat's numbers is below n
  abbrev pub HasNumbersBelow : ℕ → SeatView E → Type 0
  HasNumbersBelow n s = AllByRecursion (λ p. p.0 < n) (pairs_of s)

  -- no number stands twice among the seat's
  abbrev pub HasDistinctNumbers : SeatView E → Type 0
  HasDistinctNumbers s = (n : ℕ) → times n (pairs_of s) ≤ 1

  -- the seat's numbers are 0, 1, 2 and so on, each once
  abbrev pub HasAllNumbers : SeatView E → Type 0
  HasAllNumbers s = (n : ℕ) → times n (pairs_of s) ≡ once_below n (length (pairs_of s))

  -- each entry that was seen has one of the seat's numbers, which stands there once
  abbrev pub OwnsEachEntry : (E → ℕ) → SeatView E → Type 0
  OwnsEachEntry who s = AllByRecursion (λ e. times (who e) (pairs_of s) ≡ 1) s.seen

  -- each entry has a number below n
  abbrev pub HasEntriesBelow : (E → ℕ) → ℕ → List E → Type 0
  HasEntriesBelow who n log = AllByRecursion (λ e. who e < n) log

  -- the seat of number 0 at the beginning of a turn: it has seen all, and all is its own
  abbrev pub first_seat : (E → ℕ) → TableId → ℕ → List E → SeatView E
  first_seat who turn lasting log =
      record {
        turn = turn;
        number = 0;
        seen = log;
        mine = places who 0 log;
        ended = [];
        known = 1;
        lasting
            = lasting;
        taken = None;
      }

  -- a seat with a new number and no entries
  abbrev pub new_seat : TableId → ℕ → ℕ → List E → SeatView E
  new_seat turn lasting n log
      = record {
        turn = turn;
        number = n;
        seen = log;
        mine = [];
        ended = [];
        known = n + 1;
        lasting = lasting;
        taken
            = None;
      }

  -- the seat has taken the value, which stood for this list
  abbrev pub after_take : List E → SeatView E → SeatView E
  after_take log s = record s { taken = Some log }

  -- a taken value may go back: its lasting number is the same, and it stands for the list for which it stood at the
  -- take, or for that and one entry of the seat's number behind it
  abbrev pub MayGive : (E → ℕ) → SeatView E → ℕ → List E → Type 0
  MayGive who s lasting log = (lasting ≡ s.lasting) × (h : List E) × (s.taken ≡ Some h)
      × ((log ≡ h) ⊎ ((e : E) × (log ≡ h ++ e ∷ []) × (s.number ≡ who e)))

  -- the value was given back and stands for this list: it is seen, and where it has grown its last place is the seat's
  abbrev pub after_give : List E → SeatView E → SeatView E
  after_give log s = record s { taken = None; seen = log; mine = places_grown s.taken s.mine log }

  -- the seat has seen this list, and knows of so many numbers
  abbrev pub after_look : List E → ℕ → SeatView E → SeatView E
  after_look log n s = record s { seen = log; known = n }

  -- one seat has taken in another: the longer of the lists seen, and the other's numbers with their places
  abbrev pub after_join : SeatView E → SeatView E → SeatView E
  after_join s t = record s { seen = longer s.seen t.seen; known = max s.known t.known; ended = pairs_of t ++ s.ended }

-- the number that is known, 0 where none is
abbrev pub known_or_0 : Option ℕ → ℕ
known_or_0 None = 0
known_or_0 (Some n) = n

-- what contracts see of a seat of this table, with this number and this view
abbrev pub seat_view : {E : Type 0} → TableId → ℕ → View E → SeatView E
seat_view table number v = record {
  turn = table;
  number = number;
  seen = v.seen;
  mine = v.mine;
  ended = v.ended;
  known = v.known;
  lasting = known_or_0 v.lasting;
  taken = v.turn;
}

-- a seat that waits for nothing and has nothing in its hands, or whose caller has the value: then the slot is out
-- with it and has this content
abbrev pub IsIdleOrTaken : {S E : Type 0} → S → Me S (View E) → Type 0
IsIdleOrTaken {S} {E} empty m = (m.0.counted ≡ false) × (m.0.closed ≡ false)
    × (((m.0.turn ≡ None) × (m.0.ticket ≡ None) × (m.1 ≡ []))
    ⊎ ((h : List E) × (m.0.turn ≡ Some h) × (m.1 ≡ (0, empty) ∷ [])))

-- a seat with this number that owns so many pairs: each number that it owns is below the count of numbers that it knows
abbrev pub IsSeat : {S E : Type 0} → S → ℕ → ℕ → Me S (View E) → Type 0
IsSeat empty number owns m = (m.0.number ≡ Some number) × IsIdleOrTaken empty m × (owns ≡ owned_count m.0)
    × (owns ≤ MAX_SEATS)
    × AllByRecursion (λ p. p.0 < m.0.known) (owned_pairs m.0) × (m.0.lasting ≡ Some (known_or_0 m.0.lasting))
