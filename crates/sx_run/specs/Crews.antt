-- The workers of a door: how they are hired, work and are dismissed.
use Rattle.std.specs.Prelude.{ℕ, ◌≡◌, ◌≤◌, Bool, true, false, List, [], ◌∷◌, ◌++◌, length, map, min, Option}
use Rattle.std.specs.List.{AllByRecursion, flat_map, list_any}
use Rattle.std.specs.Option.{option_map}
use mathlib.Core.List.{IsPrefix}
use Rattle.sx_base.specs.Causes.{Rose, TakesOver}
use Rattle.sx_base.specs.LinkLists.{Links, no_links}
use Rattle.sx_turn.specs.Seats.{TableId}
use Rattle.sx_book.specs.OneHistory.{history_of}
use Rattle.sx_book.specs.Passes.{PassView, HasOwnPlaces, pass_pairs}
use Rattle.sx_run.specs.declared.crew.Door.{Door}
use Rattle.sx_run.specs.declared.crew.Door.TheVariants.{Rest, Smb}
use Rattle.sx_run.specs.declared.crew.Worker.{Worker}
use Rattle.sx_run.specs.declared.crew.CrewReport.{CrewReport}
use Rattle.sx_run.specs.declared.report.WorkEnd.{WorkEnd}
use Rattle.sx_run.specs.declared.report.WorkEnd.TheVariants.{Enough, Drained, ListenFault}
use Rattle.sx_run.specs.declared.report.WorkReport.{WorkReport}
use Rattle.sx_run.specs.Visits.{HasNone, Post, Talks, Works}

-- the report of no work
abbrev pub no_work : WorkReport
no_work = record { served = 0; full = false; starved = false; end = Drained }

-- what a listener tells: its links, and how many of its calls have failed
pub record Told (K : Type 0) : Type 0 where
  pub links : Option (Links K)
  pub faults : ℕ

-- the links of a fork: none, where the listener tells its own
abbrev pub forked : {K : Type 0} → Option (Links K) → Option (Links K)
forked links = option_map (λ _. no_links) links

-- a pass that was just given out: no entry that it has seen has its number
pub record IsNewPass (office : TableId) (limit : ℕ) (p : PassView) : Type 0 where
  pub office_is : p.office ≡ office
  pub limit_is : p.limit ≡ limit
  pub none : p.mine ≡ []
  pub alone : p.ended ≡ []
  pub unknown : HasNone p.number p.seen

-- what the listeners of workers tell, and that which stands in their place: the first is the one that was handed in,
-- as it was but for its faults, and the others and that in its place are forks
abbrev pub Lent : {K : Type 0} → Told K → List (Told K) → Told K → Type 0
Lent given [] now = (now.links ≡ given.links) × (given.faults ≤ now.faults)
Lent given (t ∷ ts) now =
    (t.links ≡ given.links) × (given.faults ≤ t.faults)
    × AllByRecursion (λ u. u.links ≡ forked given.links) ts × (now.links ≡ forked given.links)

-- workers of a door were hired behind those before: they have new passes, and their listeners were lent to them
pub record AreHired {L C W K : Type 0} (tell : L → Told K) (office : TableId) (limit : ℕ) (door : Door)
    (given now : Told K) (before all : List (Worker L C W))
    : Type 0 where
  pub hired : List (Worker L C W)
  pub all_are : all ≡ before ++ hired
  pub new : AllByRecursion (λ w. IsNewPass office limit w.pass × (w.door ≡ door)) hired
  pub lent : Lent given (map (λ w. tell w.listener) hired) now

-- a call of the listener that stands in the workers' place failed since they were hired
abbrev pub Failed : {K : Type 0} → Told K → List (Told K) → Told K → Type 0
Failed given [] now = Rose given.faults now.faults
Failed given (t ∷ ts) now = 1 ≤ now.faults

-- workers were hired behind those before, and a call of the listener in their place failed since
pub record FailedSince {L C W K : Type 0} (tell : L → Told K) (given now : Told K) (before all : List (Worker L C W))
    : Type 0 where
  pub hired : List (Worker L C W)
  pub all_are : all ≡ before ++ hired
  pub failed : Failed given (map (λ w. tell w.listener) hired) now

-- each listener took back the one behind it, the last that which stood in their place, and the first is what is left
abbrev pub TakenBack : {K : Type 0} → List (Told K) → Told K → Told K → Type 0
TakenBack [] now left = left ≡ now
TakenBack {K} (t ∷ ts) now left =
    (next : Told K) × TakenBack ts now next × TakesOver next.faults t.faults left.faults × (left.links ≡ t.links)

-- the numbers of workers and of the passes that met into theirs, with their places
abbrev pub worker_pairs : {L C W : Type 0} → List (Worker L C W) → List (ℕ × List ℕ)
worker_pairs ws = flat_map (λ w. pass_pairs w.pass) ws

-- whether a call of the worker's listener failed
abbrev pub is_faulted : WorkEnd → Bool
is_faulted Enough = false
is_faulted Drained = false
is_faulted ListenFault = true

-- what became of workers: whether one wanted memory, one's listener failed, one was told that the history is full
abbrev pub crew_report : List WorkReport → CrewReport
crew_report rs = record {
  starved = list_any (λ r. r.starved) rs;
  faulted = list_any (λ r. is_faulted r.end) rs;
  full = list_any (λ r. r.full) rs;
}

-- the workers behind those that are left were dismissed: the first pass has met theirs and the listener took back
-- theirs, and their reports were put together
pub record AreDismissed {L C W K : Type 0} (tell : L → Told K) (main main' : PassView) (now left_over : Told K)
    (all left : List (Worker L C W)) (report : CrewReport)
    : Type 0 where
  pub gone : List (Worker L C W)
  pub all_are : all ≡ left ++ gone
  pub met : main' ≡ record main { seen = main'.seen; known = main'.known; ended = worker_pairs gone ++ main.ended }
  pub grown : IsPrefix main.seen main'.seen
  pub seen : AllByRecursion (λ w. IsPrefix w.pass.seen main'.seen) gone
  pub back : TakenBack (map (λ w. tell w.listener) gone) now left_over
  pub report_is : report ≡ crew_report (map (λ w. w.report) gone)

-- a worker did its work through its own pass, with its own listener and door
pub record HasRun {L C W K D : Type 0} (talks : Talks K D) (conns : ℕ) (post : Worker L C W → Post K D)
    (old new : Worker L C W)
    : Type 0 where
  pub pass : new.pass ≡ record old.pass { seen = new.pass.seen; mine = new.pass.mine }
  pub grown : IsPrefix old.pass.seen new.pass.seen
  pub places : HasOwnPlaces new.pass
  pub works : Works talks (record { who = old.pass.number; history = history_of new.pass; from = length old.pass.seen })
      conns (post old) (post new) new.report

-- each item of a list, and that at its place in another as long
abbrev pub AllTwo : {A : Type 0} → (A → A → Type 0) → List A → List A → Type 0
AllTwo P [] [] = Unit {0}
AllTwo P [] (y ∷ ys) = ⊥
AllTwo P (x ∷ xs) [] = ⊥
AllTwo P (x ∷ xs) (y ∷ ys) = P x y × AllTwo P xs ys

-- a worker does its work by its door
pub record RunsAt {L C W K D E : Type 0} (rest_talks : Talks K D) (smb_talks : Talks K E) (conns : ℕ)
    (rest_post : Worker L C W → Post K D) (smb_post : Worker L C W → Post K E) (old new : Worker L C W)
    : Type 0 where
  pub rest : old.door ≡ Rest → HasRun rest_talks conns rest_post old new
  pub smb : old.door ≡ Smb → HasRun smb_talks conns smb_post old new

-- workers of both doors were hired, those of the REST door first, and no more of the session door than that has its own
pub record AreEngaged {L C W K : Type 0} (tell : L → Told K) (office : TableId) (limit rest_workers : ℕ)
    (given now smb_given smb_now : Told K) (all : List (Worker L C W))
    : Type 0 where
  pub rest : List (Worker L C W)
  pub smb : AreHired tell office limit Smb smb_given smb_now rest all
  pub new : AllByRecursion (λ w. IsNewPass office limit w.pass × (w.door ≡ Rest)) rest
  pub lent : Lent given (map (λ w. tell w.listener) rest) now
  pub cut : min (length all) rest_workers ≡ length rest

-- workers of both doors were dismissed
pub record AreAllDismissed {L C W K : Type 0} (tell : L → Told K) (main main' : PassView) (rest_workers : ℕ)
    (now left_over smb_now smb_left : Told K) (all : List (Worker L C W)) (rest_report smb_report : CrewReport)
    : Type 0 where
  pub rest : List (Worker L C W)
  pub smb : List (Worker L C W)
  pub all_are : all ≡ rest ++ smb
  pub cut : min (length all) rest_workers ≡ length rest
  pub met : main' ≡ record main {
    seen = main'.seen;
    known = main'.known;
    ended = worker_pairs rest ++ (worker_pairs smb ++ main.ended);
  }
  pub seen : AllByRecursion (λ w. IsPrefix w.pass.seen main'.seen) (rest ++ smb)
  pub back : TakenBack (map (λ w. tell w.listener) rest) now left_over
  pub smb_back : TakenBack (map (λ w. tell w.listener) smb) smb_now smb_left
  pub report_is : rest_report ≡ crew_report (map (λ w. w.report) rest)
  pub smb_is : smb_report ≡ crew_report (map (λ w. w.report) smb)
