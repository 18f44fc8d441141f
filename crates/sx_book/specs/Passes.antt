-- What contracts see of a pass, and what the office's calls tell of it.
use Rattle.std.specs.Prelude.{ℕ, ◌+◌, ◌-◌, ◌<◌, ◌≤◌, ◌≡◌, ◌≢◌, if◌then◌else◌, true, List, [], ◌∷◌, ◌++◌, length, max}
use Rattle.std.specs.Prelude.{take, drop, Option, Some, None}
use Rattle.std.specs.List.{AllByRecursion}
use Rattle.sx_call.specs.declared.calls.Call.{Call}
use Rattle.sx_call.specs.Calls.{door_of}
use Rattle.sx_call.specs.declared.calls.Call.TheVariants.{Start, End}
use Rattle.sx_call.specs.declared.doors.Door.{Door}
use Rattle.sx_call.specs.declared.doors.Door.TheVariants.{Rest, Starts, Ends, InSession}
use Rattle.sx_call.specs.declared.entries.Entry.{Entry}
use Rattle.sx_call.specs.declared.entries.Noted.{Noted}
use Rattle.sx_call.specs.declared.refusals.Stop.{Stop}
use Rattle.sx_call.specs.declared.refusals.Stop.TheVariants.{HistoryFull}
use Rattle.sx_spec.specs.Account.{session_of}
use Rattle.sx_spec.specs.History.{IsHistory, is_of_caller, draws, noted_at, wants, last_moment}
use Rattle.sx_spec.specs.Step.{step, replay}
use Rattle.sx_spec.specs.Whole.{IsWhole}
use Rattle.sx_turn.specs.Places.{places, times, once_below, longer}
use Rattle.sx_turn.specs.Seats.{TableId, SeatView}
use Rattle.sx_book.specs.declared.pass.Receipt.{Receipt}

-- a pass: its office and that office's limit, its number, the entries that it has seen, the places of its own entries
-- there, the numbers and places of the passes that met into it, and how many numbers it knows to have been given out
pub record PassView : Type 0 where
  pub office : TableId
  pub limit : ℕ
  pub number : ℕ
  pub seen : List Noted
  pub mine : List ℕ
  pub ended : List (ℕ × List ℕ)
  pub known : ℕ

-- the caller of an entry
abbrev pub caller_of : Noted → ℕ
caller_of n = n.entry.who

-- what contracts see of a pass with this seat
abbrev pub pass_view : SeatView Noted → PassView
pass_view s = record {
  office = s.turn;
  limit = s.lasting;
  number = s.number;
  seen = s.seen;
  mine = s.mine;
  ended = s.ended;
  known = s.known;
}

-- the list is what was seen, then entries of others than this caller
abbrev pub GrowsByOthers : ℕ → List Noted → List Noted → Type 0
GrowsByOthers number seen log =
    (more : List Noted) × (log ≡ seen ++ more) × AllByRecursion (λ n. n.entry.who ≢ number) more

-- the pass has seen more entries of others, and is else as before
abbrev pub SawMore : PassView → PassView → Type 0
SawMore p q = GrowsByOthers p.number p.seen q.seen × (q ≡ record p { seen = q.seen })

-- the start of a session of a peer
abbrev pub start_of : ℕ → Call
start_of peer = Start (record { peer = peer })

-- an entry's moment: the caller's, or that of the entry before it where that is later
abbrev pub later : List Noted → ℕ → ℕ
later log now = max (last_moment log) now

-- the random number stands in the entry of a REST call, 0 in that of each other
abbrev pub fresh_for : Call → ℕ → ℕ
fresh_for call fresh = if draws (door_of call) then fresh else 0

-- the entry of a call behind this list
abbrev pub entry_behind : List Noted → ℕ → ℕ → ℕ → ℕ → Call → Entry
entry_behind log who session now fresh call =
    record { who = who; session = session; at = later log now; fresh = fresh_for call fresh; call = call }

-- the list with one entry more
abbrev pub with_noted : List Noted → Entry → List Noted
with_noted log e = log ++ noted_at (replay log) e ∷ []

-- the pass has seen this list, and behind it an entry of its own
abbrev pub after_entry : List Noted → Entry → PassView → PassView
after_entry log e p = record p { seen = with_noted log e; mine = p.mine ++ (length log + 1) ∷ [] }

-- the receipt of an entry behind this list: its place, its moment and the reply of the step on what the list leaves
abbrev pub receipt_of : List Noted → Entry → Receipt
receipt_of log e = record { place = length log + 1; at = e.at; reply = (step (replay log) e).1 }

-- the places that the pass has of its own are exactly those of its number in what it has seen
abbrev pub HasOwnPlaces : PassView → Type 0
HasOwnPlaces p = p.mine ≡ places caller_of p.number p.seen

-- the call was appended: the pass has seen what it had seen, then entries of others, then the own entry, behind a
-- legal history in which the limit left a place; that is legal with it, and the pass has exactly its places
pub record Appends (p : PassView) (session now fresh : ℕ) (call : Call) (r : Receipt) (q : PassView) : Type 0 where
  pub log : List Noted
  pub others : GrowsByOthers p.number p.seen log
  pub legal : IsHistory p.limit log
  pub whole : IsWhole (replay log)
  pub room : length log + wants (replay log) call ≤ p.limit
  pub pass : q ≡ after_entry log (entry_behind log p.number session now fresh call) p
  pub receipt : r ≡ receipt_of log (entry_behind log p.number session now fresh call)
  pub legal_after : IsHistory p.limit q.seen
  pub exact : HasOwnPlaces q

-- the history was full for the call: its numbers are those of what the pass has seen now
pub record IsFull (p : PassView) (call : Call) (entries sessions limit : ℕ) : Type 0 where
  pub full : p.limit < length p.seen + wants (replay p.seen) call
  pub within : entries + sessions ≤ limit
  pub entries_is : entries ≡ length p.seen
  pub sessions_is : sessions ≡ length (replay p.seen).store.sessions
  pub limit_is : limit ≡ p.limit

-- the call was not appended: the pass has seen more entries of others of a legal history, and has exactly its places;
-- where the history was full its numbers are told
pub record AppendsNone (p : PassView) (call : Call) (s : Stop) (q : PassView) : Type 0 where
  pub others : SawMore p q
  pub legal : IsHistory p.limit q.seen
  pub exact : HasOwnPlaces q
  pub cause : (entries sessions limit : ℕ) → s ≡ HistoryFull entries sessions limit
      → IsFull q call entries sessions limit

-- the entry is no End of the session by this caller
abbrev pub IsNoEndOf : ℕ → ℕ → Entry → Type 0
IsNoEndOf who session e = e.call ≡ End → e.who ≡ who → e.session ≢ session

-- a caller that has seen these entries holds the session: after a beginning of them it was live and the caller's, and
-- the caller has made no End of it since
pub record HoldsIn (who : ℕ) (seen : List Noted) (session : ℕ) : Type 0 where
  pub begun : List Noted
  pub since : List Noted
  pub seen_is : seen ≡ begun ++ since
  pub live : is_of_caller who (session_of (replay begun).store session) ≡ true
  pub kept : AllByRecursion (λ n. IsNoEndOf who session n.entry) since

-- the pass holds the session
abbrev pub HoldsSession : PassView → ℕ → Type 0
HoldsSession p session = HoldsIn p.number p.seen session

-- the pass holds the session that is handed in
abbrev pub HoldsGiven : PassView → Option ℕ → Type 0
HoldsGiven p None = ⊥
HoldsGiven p (Some session) = HoldsSession p session

-- a call of this door stands in no session, or in one that the pass holds
abbrev pub StandsBy : PassView → ℕ → Door → Type 0
StandsBy p session Rest = session ≡ 0
StandsBy p session Starts = session ≡ 0
StandsBy p session Ends = HoldsSession p session
StandsBy p session InSession = HoldsSession p session

-- the call stands in no session, or in one that the pass holds
abbrev pub StandsIn : PassView → ℕ → Call → Type 0
StandsIn p session call = StandsBy p session (door_of call)

-- a call of this door may be asked with this session, or without one
abbrev pub MayAskBy : PassView → Option ℕ → Door → Type 0
MayAskBy p session Rest = session ≡ None
MayAskBy p session Starts = ⊥
MayAskBy p session Ends = ⊥
MayAskBy p session InSession = HoldsGiven p session

-- what may be asked: a REST call without a session, a session's call in one that the pass holds, and neither Start
-- nor End
abbrev pub MayAsk : PassView → Option ℕ → Call → Type 0
MayAsk p session call = MayAskBy p session (door_of call)

-- the session's number, 0 where there is none
abbrev pub session_or_0 : Option ℕ → ℕ
session_or_0 None = 0
session_or_0 (Some session) = session

-- it is the same pass: of the same office, with the same limit and number
abbrev pub IsSamePass : PassView → PassView → Type 0
IsSamePass p q = (q.office ≡ p.office) × (q.limit ≡ p.limit) × (q.number ≡ p.number)

-- the sessions that the pass held it still holds
abbrev pub KeepsSessions : PassView → PassView → Type 0
KeepsSessions p q = (session : ℕ) → HoldsSession p session → HoldsSession q session

-- all sessions but one that the pass held it still holds
abbrev pub KeepsOtherSessions : ℕ → PassView → PassView → Type 0
KeepsOtherSessions ended p q = (session : ℕ) → session ≢ ended → HoldsSession p session → HoldsSession q session

-- the first pass of an office: number 0, of a history without entries
abbrev pub first_pass : TableId → ℕ → PassView
first_pass office limit =
    record { office = office; limit = limit; number = 0; seen = []; mine = []; ended = []; known = 1 }

-- a pass with a new number and no entries, which has seen this list
abbrev pub new_pass : PassView → ℕ → List Noted → PassView
new_pass p number seen = record {
  office = p.office;
  limit = p.limit;
  number = number;
  seen = seen;
  mine = [];
  ended = [];
  known = number + 1;
}

-- the pass has seen this list, and knows of so many numbers
abbrev pub pass_after_look : List Noted → ℕ → PassView → PassView
pass_after_look seen known p = record p { seen = seen; known = known }

-- each number of a pass with the places kept for it: its own, and those of the passes that met into it
abbrev pub pass_pairs : PassView → List (ℕ × List ℕ)
pass_pairs p = (p.number, p.mine) ∷ p.ended

-- each of the pass's numbers has exactly the places in what the pass has seen that are kept for it
abbrev pub HasExactPlaces : PassView → Type 0
HasExactPlaces p = AllByRecursion (λ pair. pair.1 ≡ places caller_of pair.0 p.seen) (pass_pairs p)

-- each of the pass's numbers is below n
abbrev pub NumbersBelow : ℕ → PassView → Type 0
NumbersBelow n p = AllByRecursion (λ pair. pair.0 < n) (pass_pairs p)

-- no number stands twice among the pass's
abbrev pub NumbersDiffer : PassView → Type 0
NumbersDiffer p = (n : ℕ) → times n (pass_pairs p) ≤ 1

-- the pass's numbers are 0, 1, 2 and so on, each once
abbrev pub OwnsAllNumbers : PassView → Type 0
OwnsAllNumbers p = (n : ℕ) → times n (pass_pairs p) ≡ once_below n (length (pass_pairs p))

-- each entry that the pass has seen has one of its numbers
abbrev pub OwnsEachSeen : PassView → Type 0
OwnsEachSeen p = AllByRecursion (λ n. times (caller_of n) (pass_pairs p) ≡ 1) p.seen

-- one pass has met another: it knows the longer of what both have seen, and has the other's numbers with their places
abbrev pub after_meet : PassView → PassView → PassView
after_meet p q = record p { seen = longer p.seen q.seen; known = max p.known q.known; ended = pass_pairs q ++ p.ended }

-- the number of the session that is started behind this list
abbrev pub next_number : List Noted → ℕ
next_number log = (replay log).store.started + 1

-- the entries from a place on, counted from 1, at most so many; place 0 counts as 1
abbrev pub entries_from : ℕ → ℕ → List Noted → List Noted
entries_from from most log = take most (drop (from - 1) log)
