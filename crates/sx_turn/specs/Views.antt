-- What a view owns, what becomes of it in each move, and what it may know. A view is what one seat knows; it exists
-- in proofs alone.
use Rattle.std.specs.Prelude.{◌≡◌, ℕ, ◌+◌, ◌≤◌, true, false, List, [], ◌∷◌, ◌++◌, length, max, Option, Some, None}
use Rattle.std.specs.List.{AllByRecursion}
use mathlib.Core.List.{IsPrefix}
use Rattle.sx_turn.specs.declared.seat.TheConstants.{MAX_SEATS}
use Rattle.sx_turn.specs.declared.rule.View.{View}
use Rattle.sx_turn.specs.Places.{places, times, once_below, places_grown, longer}

-- 1 where there is one, else 0
abbrev pub one_if : {A : Type 0} → Option A → ℕ
one_if None = 0
one_if (Some x) = 1

-- the pair of a number and its places, where there is a number, before the ended pairs
abbrev pub pairs_with : Option ℕ → List ℕ → List (ℕ × List ℕ) → List (ℕ × List ℕ)
pairs_with None mine ended = ended
pairs_with (Some n) mine ended = (n, mine) ∷ ended

module _ {E : Type 0} where
  -- the pairs that a view owns: its own number with its places, and those of the seats that joined it
  abbrev pub owned_pairs : View E → List (ℕ × List ℕ)
  owned_pairs v = pairs_with v.number v.mine v.ended

  -- how many pairs a view owns
  abbrev pub owned_count : View E → ℕ
  owned_count v = length (owned_pairs v)

  -- how often a view owns the number n
  abbrev pub times_owned : ℕ → View E → ℕ
  times_owned n v = times n (owned_pairs v)

  -- how many tickets a view has: 1 or 0
  abbrev pub ticket_count : View E → ℕ
  ticket_count v = one_if v.ticket

  -- a new view without a number of its own, which knows the value's lasting number, has seen this list and knows of
  -- so many callers
  abbrev pub newcomer : Option ℕ → List E → ℕ → View E
  newcomer lasting seen known
      = record {
        lasting = lasting;
        number = None;
        seen = seen;
        mine = [];
        ended = [];
        olds = [];
        ticket = None;
        known
            = known;
        turn = None;
        counted = false;
        closed = false;
      }

  -- the view of the first seat: it has number 0, and all entries so far are its own
  abbrev pub first_view : (E → ℕ) → ℕ → List E → View E
  first_view who lasting log = record (newcomer (Some lasting) log 1) { number = Some 0; mine = places who 0 log }

  -- a view with its number n, after the turn in which that was drawn
  abbrev pub enrolled_view : Option ℕ → ℕ → List E → View E
  enrolled_view lasting n log = record (newcomer lasting log (n + 1)) { number = Some n }

  -- a ticket is drawn
  abbrev pub with_ticket : ℕ → View E → View E
  with_ticket t v = record v { ticket = Some t }

  -- the turn begins, with the value standing for this list
  abbrev pub in_turn : List E → View E → View E
  in_turn log v = record v { turn = Some log; closed = false }

  -- the callers are counted in the turn
  abbrev pub with_count : ℕ → View E → View E
  with_count n v = record v { known = n; counted = true }

  -- the number n is drawn
  abbrev pub with_number : ℕ → View E → View E
  with_number n v = record v { number = Some n; mine = []; known = n + 1 }

  -- the turn ends with this list, and these are the own places in it
  abbrev pub after_turn : List E → List ℕ → View E → View E
  after_turn log mine v = record v { ticket = None; turn = None; counted = false; seen = log; mine = mine }

  -- the turn ends with this list, the last entry of which is an own one where the list has grown
  abbrev pub after_next : List E → View E → View E
  after_next log v = after_turn log (places_grown v.turn v.mine log) v

  -- the value is taken out for good
  abbrev pub with_closed : View E → View E
  with_closed v = record v { closed = true }

  -- one view takes in another
  abbrev pub merged : View E → View E → View E
  merged v w = record v {
    seen = longer v.seen w.seen;
    known = max v.known w.known;
    olds = v.seen ∷ w.seen ∷ [];
    ended
        = owned_pairs w ++ v.ended;
  }

  -- each number that the view owns has exactly the places in the list that are kept for it
  abbrev pub OwnsPlacesIn : (E → ℕ) → List E → View E → Type 0
  OwnsPlacesIn who log v = AllByRecursion (λ p. p.1 ≡ places who p.0 log) (owned_pairs v)

  -- the list begins with what the view has seen, and each number that the view owns has the places that it kept, in
  -- the list and in what was seen
  abbrev pub Extends : (E → ℕ) → View E → List E → Type 0
  Extends who v log = IsPrefix v.seen log × OwnsPlacesIn who log v × OwnsPlacesIn who v.seen v

  -- the view owns all of the n numbers: then it has seen the whole list, and each entry has one of its numbers
  abbrev pub SeesAll : (E → ℕ) → ℕ → View E → List E → Type 0
  SeesAll who n v h = (v.seen ≡ h) × AllByRecursion (λ e. times_owned (who e) v ≡ 1) h × OwnsPlacesIn who v.seen v
      × ((k : ℕ) → times_owned k v ≡ once_below k n)

  -- what a view can tell of itself: old lists no longer than what it has seen begin it, its places are exact in it,
  -- and no number stands twice among its pairs
  abbrev pub IsSound : (E → ℕ) → View E → Type 0
  IsSound who v = AllByRecursion (λ o. length o ≤ length v.seen → IsPrefix o v.seen) v.olds
      × OwnsPlacesIn who v.seen v × (owned_count v ≤ MAX_SEATS)
      × ((n : ℕ) → times_owned n v ≤ 1)
