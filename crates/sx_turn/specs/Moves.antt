-- What each move on the table tells the seat that makes it, and what the moves of one call tell together.
-- A seat has its view and the slots in its hands: `m.0` and `m.1`.
use Rattle.std.specs.Prelude.{◌≡◌, ◌≢◌, ◌⊎◌, ℕ, ◌<◌, ◌≤◌, true, false, List, [], ◌∷◌, ◌++◌, Option, Some, None}
use Rattle.std.specs.List.{AllByRecursion}
use mathlib.Core.List.{IsPrefix}
use Rattle.atomic_table.specs.Table.{Me, Step}
use Rattle.atomic_table.specs.Seated.{TableId}
use Rattle.sx_turn.specs.declared.seat.TheConstants.{MAX_SEATS}
use Rattle.sx_turn.specs.declared.rule.View.{View}
use Rattle.sx_turn.specs.Views.{owned_count, times_owned, with_ticket, in_turn, with_count, with_number, after_turn}
use Rattle.sx_turn.specs.Views.{after_next, with_closed, newcomer, enrolled_view, Extends, SeesAll, IsSound}

-- a table of three words and one slot
abbrev pub IsBoard : TableId → Type 0
IsBoard table = (table.words ≡ 3) × (table.slots ≡ 1)

-- a seat's view, and the slots in its hands
abbrev SeatMe : Type 0 → Type 0 → Type 0
SeatMe B E = Me (Option B) (View E)

-- a step on the table
abbrev BoardStep : Type 0 → Type 0
BoardStep B = Step (Option B)

module _ {B E : Type 0} where
  -- a seat that is in no turn, waits for none, and knows the value's lasting number
  abbrev pub IsIdle : SeatMe B E → Type 0
  IsIdle m = (m.0.ticket ≡ None) × (m.0.turn ≡ None) × (m.1 ≡ []) × ((l : ℕ) × (m.0.lasting ≡ Some l))

  -- draw: where the word was the one expected, it is the seat's ticket
  abbrev pub DrawTells : BoardStep B → SeatMe B E → ℕ → SeatMe B E → Type 0
  DrawTells st m n m' = (n ≡ st.first → m' ≡ (with_ticket n m.0, m.1)) × (n ≢ st.first → m' ≡ m)

  -- look: where the seat's ticket is served, the value comes to it and its turn begins
  abbrev pub LookTells : (B → List E) → (B → ℕ) → (E → ℕ) → BoardStep B → SeatMe B E → ℕ → SeatMe B E → Type 0
  LookTells stands lasts who st m n m'
      = (m.0.ticket ≡ Some n → (y : B) × (m' ≡ (in_turn (stands y) m.0, (0, Some y) ∷ m.1))
      × Extends who m.0 (stands y) × ((l : ℕ) → m.0.lasting ≡ Some l → lasts y ≡ l))
      × (m.0.ticket ≢ Some n → m' ≡ m)

  -- the turn has begun
  abbrev pub TurnBegins : (B → List E) → (B → ℕ) → (E → ℕ) → SeatMe B E → SeatMe B E → Type 0
  TurnBegins stands lasts who m m' = (y : B) × (m' ≡ (in_turn (stands y) m.0, (0, Some y) ∷ []))
      × Extends who m.0 (stands y)
      × ((l : ℕ) → m.0.lasting ≡ Some l → lasts y ≡ l)

  -- the value y may end a turn that began with this list: its lasting number is the same, and it stands for the list,
  -- or for it and one entry of the seat's number behind it
  abbrev pub MayEndWith : (B → List E) → (B → ℕ) → (E → ℕ) → List E → View E → B → Type 0
  MayEndWith stands lasts who log v y = (v.lasting ≡ Some (lasts y))
      × ((stands y ≡ log) ⊎ ((e : E) × (stands y ≡ log ++ e ∷ []) × (v.number ≡ Some (who e))))

  -- the seat is in its turn, and has a value in its hands with which the turn may end
  abbrev pub MayEnd : (B → List E) → (B → ℕ) → (E → ℕ) → SeatMe B E → Type 0
  MayEnd stands lasts who m = (y : B) × (h : List E) × (m.1 ≡ (0, Some y) ∷ []) × (m.0.turn ≡ Some h)
      × (m.0.closed ≡ false)
      × MayEndWith stands lasts who h m.0 y

  -- the seat is in its turn with the slot empty, and y may go back into it
  abbrev pub MayPutBack : (B → List E) → (B → ℕ) → (E → ℕ) → SeatMe B E → B → Type 0
  MayPutBack stands lasts who m y = (h : List E) × (m.1 ≡ (0, None) ∷ []) × (m.0.turn ≡ Some h) × (m.0.closed ≡ false)
      × MayEndWith stands lasts who h m.0 y

  -- the value is back in its slot, and the turn ends
  abbrev pub TurnEnds : (B → List E) → SeatMe B E → SeatMe B E → Type 0
  TurnEnds stands m m' = (y : B) → m.1 ≡ (0, Some y) ∷ [] → m' ≡ (after_next (stands y) m.0, [])

  -- next: the turn ends
  abbrev pub NextTells : (B → List E) → BoardStep B → SeatMe B E → ℕ → SeatMe B E → Type 0
  NextTells stands st m n m' = TurnEnds stands m m'

  -- in its turn the seat learns how many numbers were given out
  abbrev pub CallersCounted : (E → ℕ) → SeatMe B E → ℕ → SeatMe B E → Type 0
  CallersCounted who m n m' = (h : List E) → m.0.turn ≡ Some h
      → (m' ≡ (with_count n m.0, m.1)) × (m.0.known ≤ n) × (1 ≤ n) × (n ≤ MAX_SEATS) × (owned_count m.0 ≤ n)
      × AllByRecursion (λ e. who e < n) h
      × (n ≤ owned_count m.0 → SeesAll who n m.0 h) × ((k : ℕ) → times_owned k m.0 ≤ 1)

  -- count: the callers are counted
  abbrev pub CountTells : (E → ℕ) → BoardStep B → SeatMe B E → ℕ → SeatMe B E → Type 0
  CountTells who st m n m' = CallersCounted who m n m'

  -- the turn has begun, and the callers are counted in it
  abbrev pub CountedInTurn : (B → List E) → (B → ℕ) → (E → ℕ) → SeatMe B E → ℕ → SeatMe B E → Type 0
  CountedInTurn stands lasts who m n m' = (y : B) × (t : ℕ)
      × (m' ≡ (with_count n (in_turn (stands y) (with_ticket t m.0)), (0, Some y) ∷ []))
      × Extends who m.0 (stands y) × (m.0.known ≤ n) × (1 ≤ n) × (n ≤ MAX_SEATS) × (owned_count m.0 ≤ n)
      × AllByRecursion (λ e. who e < n) (stands y)
      × (n ≤ owned_count m.0 → SeesAll who n m.0 (stands y)) × ((k : ℕ) → times_owned k m.0 ≤ 1)
      × (m.0.lasting ≡ Some (lasts y))

  -- enrol: the seat has the number that was next
  abbrev pub EnrolTells : BoardStep B → SeatMe B E → ℕ → SeatMe B E → Type 0
  EnrolTells st m n m' = (n ≡ m.0.known) × (m' ≡ (with_number n m.0, m.1))

  -- what a new view is after its first turn: it has the number n, or there was none left
  abbrev pub NumberDrawn : (E → ℕ) → View E → ℕ → SeatMe B E → Type 0
  NumberDrawn who v n m' = (h : List E) × IsPrefix v.seen h × (n ≤ MAX_SEATS) × (1 ≤ n)
      × AllByRecursion (λ e. who e < n) h
      × (n < MAX_SEATS → m' ≡ (enrolled_view v.lasting n h, [])) × (MAX_SEATS ≤ n → m' ≡ (newcomer v.lasting h n, []))
      × (v.known ≤ n)

  -- recall: nothing changes, and the seat learns what its view tells
  abbrev pub RecallTells : (E → ℕ) → BoardStep B → SeatMe B E → ℕ → SeatMe B E → Type 0
  RecallTells who st m n m' = (m' ≡ m) × IsSound who m.0

  -- close: the slot is returned empty
  abbrev pub CloseTells : BoardStep B → SeatMe B E → ℕ → SeatMe B E → Type 0
  CloseTells st m n m' = m' ≡ (with_closed m.0, [])

  -- the seat took the value out for good
  abbrev pub IsClosed : SeatMe B E → Type 0
  IsClosed m = (m.0.closed ≡ true) × ((h : List E) × (m.0.turn ≡ Some h)) × (m.1 ≡ [])

  -- the value that was taken out stands for the list that was seen, and the seat owns all numbers, of which it knew
  -- no others
  abbrev pub TakenOut : (B → List E) → (B → ℕ) → (E → ℕ) → View E → B → Type 0
  TakenOut stands lasts who v y = (stands y ≡ v.seen) × SeesAll who (owned_count v) v v.seen
      × (v.known ≤ owned_count v) × (v.lasting ≡ Some (lasts y))

  -- more numbers were given out than the seat owns, each of which it owns once, and the seat has seen the list so far
  abbrev pub StillOut : (E → ℕ) → ℕ → SeatMe B E → ℕ → SeatMe B E → Type 0
  StillOut who owns m n m' = (owns < n) × (n ≤ MAX_SEATS) × (m.0.known ≤ n) × ((k : ℕ) → times_owned k m.0 ≤ 1)
      × ((h : List E) × (m' ≡ (record (after_turn h m.0.mine m.0) { known = n; closed = false }, []))
      × Extends who m.0 h)
