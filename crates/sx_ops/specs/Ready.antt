-- What every whole account leaves for one entry more.
use Rattle.std.specs.Prelude.{ℕ, ◌<◌, ◌≤◌, List, IfOk, IfSome}
use Rattle.sx_base.specs.Moment.{greatest_written}
use Rattle.sx_call.specs.declared.doors.Door.{Door}
use Rattle.sx_call.specs.declared.doors.Door.TheVariants.{Rest, Starts, Ends, InSession}
use Rattle.sx_spec.specs.Account.{Store}
use Rattle.sx_spec.specs.Places.{share_at}

-- the tick after the moment last given in a share has a text
abbrev pub CanGive : Store → Type 0
CanGive s = (name : List ℕ) → IfOk (share_at s name) (λ place. IfSome place.1.given (λ last. last < greatest_written))

-- a call in a session has the number of one
abbrev pub NamesSession : Door → ℕ → Type 0
NamesSession Rest session = Unit {0}
NamesSession Starts session = Unit {0}
NamesSession Ends session = 1 ≤ session
NamesSession InSession session = 1 ≤ session
