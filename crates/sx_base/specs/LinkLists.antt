-- What a listener or dialer tells of its links.
use Rattle.std.specs.Prelude.{ℕ, ◌≡◌, ◌+◌, ◌-◌, List, [], ◌∷◌, ◌++◌, drop, Option, Some, None, Result, IfSome}
use Rattle.std.specs.Option.{option_map}

-- the links left, the links finished, and how many were given and not finished
pub record Links (L : Type 0) : Type 0 where
  pub left : List L
  pub finished : List L
  pub given : ℕ

-- no links
abbrev pub no_links : {L : Type 0} → Links L
no_links = record { left = []; finished = []; given = 0 }

-- after the first of those left was given
abbrev pub after_given : {L : Type 0} → Links L → Links L
after_given links = record { left = drop 1 links.left; finished = links.finished; given = links.given + 1 }

-- after one that was given stands behind the finished ones
abbrev pub after_finished : {L : Type 0} → L → Links L → Links L
after_finished link links
    = record { left = links.left; finished = links.finished ++ link ∷ []; given = links.given - 1 }

-- this link was given, the first of those left, as it stood there
pub record GivesLink {L : Type 0} (old : Option (Links L)) (link : L) (new : Option (Links L)) : Type 0 where
  pub first : IfSome old (λ links. links.left ≡ link ∷ drop 1 links.left)
  pub after : new ≡ option_map after_given old

-- the links are told, and none is left
abbrev pub IsNoneLeft : {L : Type 0} → Option (Links L) → Type 0
IsNoneLeft None = ⊥
IsNoneLeft (Some links) = links.left ≡ []

-- what an accept may answer, and what it leaves
abbrev pub Accepts : {L E : Type 0} → Option (Links L) → Result (Option L) E → Option (Links L) → Type 0
Accepts old (Result.Ok None) new = IsNoneLeft old × (new ≡ old)
Accepts old (Result.Ok (Some link)) new = GivesLink old link new
Accepts old (Result.Err fault) new = new ≡ old

-- what a dial may answer, and what it leaves
abbrev pub Dials : {L E : Type 0} → Option (Links L) → Result L E → Option (Links L) → Type 0
Dials old (Result.Ok link) new = GivesLink old link new
Dials old (Result.Err fault) new = new ≡ old
