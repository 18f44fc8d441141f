-- The links that a worker serves, one after another, in the one history.
use Rattle.std.specs.Prelude.{ℕ, ◌+◌, ◌^◌, ◌-◌, ◌≤◌, ◌<◌, ◌≡◌, ◌≢◌, ◌||◌, Bool, true, false, List, [], ◌∷◌, ◌++◌}
use Rattle.std.specs.Prelude.{length, map, take, drop}
use Rattle.std.specs.Prelude.{Option, IfSome, is_some, min}
use Rattle.std.specs.List.{AllByRecursion, list_any}
use Rattle.std.specs.Option.{option_map}
use Rattle.sx_base.specs.Causes.{Rose}
use Rattle.sx_base.specs.LinkLists.{Links, IsNoneLeft}
use Rattle.sx_call.specs.declared.entries.Noted.{Noted}
use Rattle.sx_book.specs.History.{History}
use Rattle.sx_book.specs.Passes.{caller_of}
use Rattle.sx_book.specs.declared.report.ConnEnd.{ConnEnd}
use Rattle.sx_book.specs.declared.report.ConnEnd.TheVariants as finish
use Rattle.sx_book.specs.declared.report.ConnReport.{ConnReport}
use Rattle.sx_run.specs.declared.report.WorkEnd.{WorkEnd}
use Rattle.sx_run.specs.declared.report.WorkEnd.TheVariants.{Enough, Drained, ListenFault}
use Rattle.sx_run.specs.declared.report.WorkReport.{WorkReport}

-- a caller's part of a history: it had seen the first so many entries
pub record Stretch : Type 0 where
  pub who : ℕ
  pub history : History
  pub from : ℕ

-- a link, and what its door has of its own (a clock, random words), before or after the link is served
pub record Side (K D : Type 0) : Type 0 where
  pub link : K
  pub door : D

-- what a door says over a link, from before to after: its conversation, and the report of it
abbrev pub Talks : Type 0 → Type 0 → Type 1
Talks K D = Stretch → Side K D → Side K D → ConnReport → Type 0

-- a link that was served: as it was given, as it was left, how many entries the history had then, and the report
pub record Visit (K D : Type 0) : Type 0 where
  pub link : K
  pub left : Side K D
  pub upto : ℕ
  pub report : ConnReport

-- the history as it stood with so many entries
abbrev pub history_to : History → ℕ → History
history_to h count = record { entries = take count h.entries; limit = h.limit }

-- the caller has none of these entries
abbrev pub HasNone : ℕ → List Noted → Type 0
HasNone who entries = AllByRecursion (λ n. caller_of n ≢ who) entries

-- the link was served by its door: its conversation is that of the history as it stood when the link was left
pub record IsVisit {K D : Type 0} (talks : Talks K D) (s : Stretch) (door : D) (v : Visit K D) : Type 0 where
  pub behind : s.from ≤ v.upto
  pub within : v.upto ≤ length s.history.entries
  pub talk : talks (record { who = s.who; history = history_to s.history v.upto; from = s.from })
      (record { link = v.link; door = door }) v.left v.report

-- the links were served one after another, each behind what had been seen when the one before it was left, and the
-- caller has no other entry in its part of the history
abbrev pub AreVisits : {K D : Type 0} → Talks K D → Stretch → D → List (Visit K D) → D → Type 0
AreVisits talks s door [] door' = (door ≡ door') × HasNone s.who (drop s.from s.history.entries)
AreVisits talks s door (v ∷ vs) door' =
    IsVisit talks s door v
    × AreVisits talks (record { who = s.who; history = s.history; from = v.upto }) v.left.door vs door'

-- the links of visits, as they were given
abbrev pub links_given : {K D : Type 0} → List (Visit K D) → List K
links_given vs = map (λ v. v.link) vs

-- the links of visits, as they were left
abbrev pub links_left : {K D : Type 0} → List (Visit K D) → List K
links_left vs = map (λ v. v.left.link) vs

-- a listener's links after visits: the first of those left are behind the finished ones, as they were left
abbrev pub after_visits : {K D : Type 0} → List (Visit K D) → Links K → Links K
after_visits vs links = record {
  left = drop (length vs) links.left;
  finished = links.finished ++ links_left vs;
  given = links.given;
}

-- the links of visits are the first of those that the listener had left, and are behind the finished ones, where the
-- listener tells its links
pub record TakesLinks {K D : Type 0} (vs : List (Visit K D)) (old new : Option (Links K)) : Type 0 where
  pub first : IfSome old (λ links. links.left ≡ links_given vs ++ drop (length vs) links.left)
  pub after : new ≡ option_map (after_visits vs) old

-- whether the session could not be started since the history was full
abbrev pub ends_full : ConnEnd → Bool
ends_full (finish.Full full) = true
ends_full finish.Ended = false
ends_full (finish.Closed at) = false
ends_full (finish.Cut left) = false
ends_full finish.Spent = false
ends_full finish.ReadFault = false
ends_full finish.WriteFault = false
ends_full finish.NoMemory = false

-- whether the link was given up for want of memory
abbrev pub ends_starved : ConnEnd → Bool
ends_starved finish.NoMemory = true
ends_starved (finish.Full full) = false
ends_starved finish.Ended = false
ends_starved (finish.Closed at) = false
ends_starved (finish.Cut left) = false
ends_starved finish.Spent = false
ends_starved finish.ReadFault = false
ends_starved finish.WriteFault = false

-- whether a link was told that the history is full
abbrev pub was_full : ConnReport → Bool
was_full r = is_some r.full || ends_full r.end

-- whether a link was told that memory ran out, or given up for want of it
abbrev pub was_starved : ConnReport → Bool
was_starved r = r.starved || ends_starved r.end

-- a worker's report with one more link; the count stops at the greatest number of its type
abbrev pub with_link : WorkReport → ConnReport → WorkReport
with_link work r = record {
  served = min (work.served + 1) (2 ^ 64 - 1);
  full = work.full || was_full r;
  starved = work.starved || was_starved r;
  end = work.end;
}

-- fewer links than a worker may serve; 0 is for no end
abbrev pub IsBelow : ℕ → ℕ → Type 0
IsBelow served conns = 1 ≤ conns → served < conns

-- why a worker served no more links: it had served as many as it may; its listener tells its links and has none left;
-- or a call of the listener failed
abbrev pub IsWorkEnd : {K : Type 0} → ℕ → WorkEnd → ℕ → Option (Links K) → Type 0
IsWorkEnd conns Enough served links = (1 ≤ conns) × (served ≡ conns)
IsWorkEnd conns Drained served links = IsBelow served conns × IsNoneLeft links
IsWorkEnd conns ListenFault served links = IsBelow served conns

-- a worker's listener and its door, before or after its work
pub record Post (K D : Type 0) : Type 0 where
  pub links : Option (Links K)
  pub faults : ℕ
  pub door : D

-- what a worker does in its part of the history: the links that it served, and its report of them
pub record Works {K D : Type 0} (talks : Talks K D) (s : Stretch) (conns : ℕ) (old new : Post K D)
    (report : WorkReport) : Type 0 where
  pub visits : List (Visit K D)
  pub served : AreVisits talks s old.door visits new.door
  pub links : TakesLinks visits old.links new.links
  pub count : report.served ≡ min (length visits) (2 ^ 64 - 1)
  pub full : report.full ≡ list_any (λ v. was_full v.report) visits
  pub starved : report.starved ≡ list_any (λ v. was_starved v.report) visits
  pub end : IsWorkEnd conns report.end (length visits) new.links
  pub later : old.faults ≤ new.faults
  pub cause : report.end ≡ ListenFault → Rose old.faults new.faults
