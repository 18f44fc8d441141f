-- What was taken of an input, and the head that it is.
use Rattle.std.specs.Prelude.{ℕ, ◌≡◌, ◌<◌, ◌≤◌, ◌+◌, ◌⊎◌, List, length, Option}
use Rattle.std.specs.Io.KnownBytes.{Consumes, IsAtEnd}
use Rattle.sx_base.specs.Causes.{Rose}
use Rattle.sx_http.specs.Heads.{IsHead}
use Rattle.sx_http.specs.declared.limits.TheConstants.{HEAD_LIMIT}
use Rattle.sx_http.specs.declared.heads.Head.{Head}
use Rattle.sx_tool.specs.declared.gathered.TheConstants.{PIECE_LIMIT}
use Rattle.sx_tool.specs.declared.gathered.Gathered.{Gathered}
use Rattle.sx_tool.specs.declared.gathered.Gathered.TheVariants as gathered
use Rattle.sx_tool.specs.declared.found.Found.{Found}
use Rattle.sx_tool.specs.declared.found.Found.TheVariants as found

-- these bytes were taken of an input: at most those of a head and one piece
pub record Takes (left left' : Option (List ℕ)) (bytes : List ℕ) : Type 0 where
  pub taken : Consumes left left' bytes
  pub few : length bytes ≤ HEAD_LIMIT + PIECE_LIMIT

-- all bytes of the input were taken
pub record TakesAll (left left' : Option (List ℕ)) (bytes : List ℕ) : Type 0 where
  pub taken : Takes left left' bytes
  pub ended : IsAtEnd left'

-- more bytes were taken than a head has
pub record TakesTooMany (left left' : Option (List ℕ)) : Type 0 where
  pub bytes : List ℕ
  pub taken : Takes left left' bytes
  pub long : HEAD_LIMIT < length bytes

-- some bytes were taken
abbrev pub TakesSome : Option (List ℕ) → Option (List ℕ) → Type 0
TakesSome left left' = (bytes : List ℕ) × Takes left left' bytes

-- what was gathered of an input, by what is left of it and its count of failed reads, before and after
abbrev pub Gathers : Gathered → Option (List ℕ) → Option (List ℕ) → ℕ → ℕ → Type 0
Gathers (gathered.Whole bytes) left left' before now = TakesAll left left' bytes × (now ≡ before)
Gathers gathered.TooLong left left' before now = TakesTooMany left left' × (now ≡ before)
Gathers gathered.ReadFault left left' before now = TakesSome left left' × Rose before now
Gathers gathered.NoMemory left left' before now = TakesSome left left' × (now ≡ before)

-- the whole input is this head
pub record IsOneHead (left left' : Option (List ℕ)) (head : Head) : Type 0 where
  pub bytes : List ℕ
  pub taken : TakesAll left left' bytes
  pub is : IsHead bytes head

-- the whole input is no head
pub record IsNotHead (left left' : Option (List ℕ)) : Type 0 where
  pub bytes : List ℕ
  pub taken : TakesAll left left' bytes
  pub is_none : (head : Head) → ¬ (IsHead bytes head)

-- the input isn't one head: all of it is none, or it is longer than one
abbrev pub IsNoHead : Option (List ℕ) → Option (List ℕ) → Type 0
IsNoHead left left' = IsNotHead left left' ⊎ TakesTooMany left left'

-- what was found in an input
abbrev pub FindsHead : Found → Option (List ℕ) → Option (List ℕ) → ℕ → ℕ → Type 0
FindsHead (found.Head head) left left' before now = IsOneHead left left' head × (now ≡ before)
FindsHead found.NoHead left left' before now = IsNoHead left left' × (now ≡ before)
FindsHead found.ReadFault left left' before now = TakesSome left left' × Rose before now
FindsHead found.NoMemory left left' before now = TakesSome left left' × (now ≡ before)
