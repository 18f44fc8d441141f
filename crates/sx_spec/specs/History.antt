-- Which histories there are.
use Rattle.std.specs.Prelude.{ℕ, ◌+◌, ◌≤◌, ◌==◌, ◌≡◌, Bool, true, false, List, [], ◌∷◌, length, Option, Some, None}
use Rattle.sx_base.specs.Clock.{greatest_moment}
use Rattle.sx_call.specs.declared.calls.Call.{Call}
use Rattle.sx_call.specs.declared.entries.Entry.{Entry}
use Rattle.sx_call.specs.declared.entries.Noted.{Noted}
use Rattle.sx_call.specs.declared.opens.Live.{Live}
use Rattle.sx_call.specs.declared.replies.Reply.{Reply}
use Rattle.sx_call.specs.declared.replies.Reply.TheVariants.{Refused}
use Rattle.sx_call.specs.Calls.{door_of}
use Rattle.sx_call.specs.declared.doors.Door.{Door}
use Rattle.sx_call.specs.declared.doors.Door.TheVariants.{Rest, Starts, Ends, InSession}
use Rattle.sx_spec.specs.Account.{Store, Account, empty, session_of}
use Rattle.sx_spec.specs.Step.{step}

-- whether a session is live and was started by this caller
abbrev pub is_of_caller : ℕ → Option Live → Bool
is_of_caller who None = false
is_of_caller who (Some l) = l.who == who

-- a REST call and a start stand in no session, each other call in a live one of the same caller
abbrev pub stands_in : Store → ℕ → ℕ → Door → Bool
stands_in s who session Rest = session == 0
stands_in s who session Starts = session == 0
stands_in s who session Ends = is_of_caller who (session_of s session)
stands_in s who session InSession = is_of_caller who (session_of s session)

-- only a REST call draws a random number
abbrev pub draws : Door → Bool
draws Rest = true
draws Starts = false
draws Ends = false
draws InSession = false

-- The entry may come next, behind one of this moment: its moment isn't before that nor past a clock's greatest, it
-- stands in its
-- session, and has a random number only where one is drawn.
pub record MayCome (a : Account) (last : ℕ) (e : Entry) : Type 0 where
  pub moment : last ≤ e.at
  pub clock : e.at ≤ greatest_moment
  pub session : stands_in a.store e.who e.session (door_of e.call) ≡ true
  pub fresh : draws (door_of e.call) ≡ false → e.fresh ≡ 0

-- how many places a call wants for itself and for the ends of the sessions that are live behind it
abbrev pub places_wanted : ℕ → Door → ℕ
places_wanted live Rest = live + 1
places_wanted live Starts = live + 2
places_wanted live Ends = live
places_wanted live InSession = live + 1

-- how many places a call wants in an account
abbrev pub wants : Account → Call → ℕ
wants a call = places_wanted (length a.store.sessions) (door_of call)

-- whether a reply is a refusal
abbrev pub is_refused : Reply → Bool
is_refused (Refused r) = true
is_refused reply = false

-- the entry as the history keeps it
abbrev pub noted_at : Account → Entry → Noted
noted_at a e = record { entry = e; refused = is_refused (step a e).1 }

-- each entry came where it might, is marked as it was answered, and left a place for the end of each live session
abbrev pub IsHistoryFrom : Account → ℕ → ℕ → List Noted → Type 0
IsHistoryFrom a last limit [] = Unit {0}
IsHistoryFrom a last limit (n ∷ ns) =
    MayCome a last n.entry × (n.refused ≡ is_refused (step a n.entry).1)
    × ((step a n.entry).0.came + length (step a n.entry).0.store.sessions ≤ limit)
    × IsHistoryFrom (step a n.entry).0 n.entry.at limit ns

-- A LEGAL HISTORY for a limit of so many entries
abbrev pub IsHistory : ℕ → List Noted → Type 0
IsHistory limit ns = IsHistoryFrom empty 0 limit ns

-- the moment of the last of these entries, or the one before where there is none
abbrev pub moment_after : ℕ → List Noted → ℕ
moment_after last [] = last
moment_after last (n ∷ ns) = moment_after n.entry.at ns

-- the moment of a history's last entry, 0 before any
abbrev pub last_moment : List Noted → ℕ
last_moment ns = moment_after 0 ns
