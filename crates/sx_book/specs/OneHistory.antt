-- What a caller's calls came to, told by places and lengths in one history.
use Rattle.std.specs.Prelude.{ℕ, ◌+◌, ◌-◌, ◌<◌, ◌≤◌, ◌≡◌, List, [], ◌∷◌, ◌++◌, length, take, drop, slice_get, Some}
use Rattle.std.specs.List.{AllByRecursion, flat_map}
use mathlib.Core.List.{IsPrefix}
use Rattle.sx_call.specs.declared.calls.Call.{Call}
use Rattle.sx_call.specs.declared.entries.Entry.{Entry}
use Rattle.sx_call.specs.declared.entries.Noted.{Noted}
use Rattle.sx_call.specs.declared.replies.Reply.{Reply}
use Rattle.sx_spec.specs.Account.{Account}
use Rattle.sx_spec.specs.History.{noted_at, wants}
use Rattle.sx_spec.specs.Step.{step, replay}
use Rattle.sx_turn.specs.Places.{places_from}
use Rattle.sx_book.specs.History.{History}
use Rattle.sx_book.specs.Passes.{PassView, entry_behind, caller_of}

-- the account that the first so many entries leave
abbrev pub account_at : History → ℕ → Account
account_at h count = replay (take count h.entries)

-- a call that was handed to the office: by which caller, in which session, at which moment, with which random number
pub record Asked : Type 0 where
  pub who : ℕ
  pub session : ℕ
  pub call : Call
  pub now : ℕ
  pub fresh : ℕ

-- what a call came to: an entry at a place, with its reply; a history that was full with so many entries and live
-- sessions; or no memory
pub data Came : Type 0 where
  appended : ℕ → Reply → Came
  history_full : ℕ → ℕ → Came
  no_memory : Came

-- a call, and what it came to
pub record Outcome : Type 0 where
  pub asked : Asked
  pub came : Came

-- the call's entry behind these entries
abbrev pub entry_of : Asked → List Noted → Entry
entry_of asked before = entry_behind before asked.who asked.session asked.now asked.fresh asked.call

-- the call's entry stands at this place of the history, behind the first so many entries, and the reply is that of the
-- step on the account which the entries before that place leave
pub record IsAppended (h : History) (from : ℕ) (asked : Asked) (place : ℕ) (reply : Reply) : Type 0 where
  pub behind : from < place
  pub within : place ≤ length h.entries
  pub entry : slice_get h.entries (place - 1)
      ≡ Some (noted_at (account_at h (place - 1)) (entry_of asked (take (place - 1) h.entries)))
  pub reply_is : reply ≡ (step (account_at h (place - 1)) (entry_of asked (take (place - 1) h.entries))).1

-- the first so many entries, with the ends of the sessions that are live then, keep the limit, and leave no place for
-- the call
pub record IsFullAt (h : History) (from : ℕ) (call : Call) (entries sessions : ℕ) : Type 0 where
  pub behind : from ≤ entries
  pub within : entries ≤ length h.entries
  pub sessions_is : sessions ≡ length (account_at h entries).store.sessions
  pub kept : entries + sessions ≤ h.limit
  pub full : h.limit < entries + wants (account_at h entries) call

-- the call came to this in the history, behind the first so many entries
abbrev pub CameTo : History → ℕ → Asked → Came → Type 0
CameTo h from asked (appended place reply) = IsAppended h from asked place reply
CameTo h from asked (history_full entries sessions) = IsFullAt h from asked.call entries sessions
CameTo h from asked no_memory = Unit {0}

-- how many entries had been seen then
abbrev pub seen_by : ℕ → Came → ℕ
seen_by from (appended place reply) = place
seen_by from (history_full entries sessions) = entries
seen_by from no_memory = from

-- the calls came to these in the history, one behind another
abbrev pub CameAll : History → ℕ → List Outcome → Type 0
CameAll h from [] = Unit {0}
CameAll h from (o ∷ os) = CameTo h from o.asked o.came × CameAll h (seen_by from o.came) os

-- the place that a call took, if it was appended
abbrev pub place_of : Came → List ℕ
place_of (appended place reply) = place ∷ []
place_of (history_full entries sessions) = []
place_of no_memory = []

-- the places that calls took
abbrev pub places_of : List Outcome → List ℕ
places_of outcomes = flat_map (λ o. place_of o.came) outcomes

-- the calls of one caller, behind the first so many entries of the history: they came to these, and the caller's
-- entries there are those that they appended, and no others
pub record AreCallsIn (h : History) (who from : ℕ) (outcomes : List Outcome) : Type 0 where
  pub callers : AllByRecursion (λ o. o.asked.who ≡ who) outcomes
  pub came : CameAll h from outcomes
  pub only : places_from caller_of who (from + 1) (drop from h.entries) ≡ places_of outcomes

-- the history that a pass has seen
abbrev pub history_of : PassView → History
history_of p = record { entries = p.seen; limit = p.limit }

-- these calls were asked through a pass: they are its caller's calls in the history that it has seen since, behind
-- what it had seen, and it has their places more
pub record Asks (p q : PassView) (outcomes : List Outcome) : Type 0 where
  pub grown : IsPrefix p.seen q.seen
  pub calls : AreCallsIn (history_of q) p.number (length p.seen) outcomes
  pub pass : q ≡ record p { seen = q.seen; mine = p.mine ++ places_of outcomes }

-- the moments at which calls were handed to the office
abbrev pub moments_of : List Outcome → List ℕ
moments_of outcomes = flat_map (λ o. o.asked.now ∷ []) outcomes
