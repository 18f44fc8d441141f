-- The whole service: two listeners, one office that is opened and closed, and workers of both doors at once.
use Rattle.std.specs.Prelude.{ℕ, ◌+◌, ◌≡◌, ◌≤◌, ◌==◌, ◌⊎◌, ◌||◌, if◌then◌else◌, true, List, [], ◌∷◌, ◌++◌}
use Rattle.std.specs.Prelude.{length, map, min, take, codes, decimal, Option}
use Rattle.std.specs.List.{AllByRecursion}
use Rattle.sx_base.specs.Causes.{Rose}
use Rattle.sx_base.specs.LinkLists.{Links}
use Rattle.sx_call.specs.declared.entries.Noted.{Noted}
use Rattle.sx_spec.specs.History.{IsHistory}
use Rattle.sx_book.specs.History.{History}
use Rattle.sx_book.specs.Passes.{PassView, caller_of, HasExactPlaces, OwnsAllNumbers, OwnsEachSeen}
use Rattle.sx_book.specs.Reports.{HasPrefix, HasText}
use Rattle.sx_run.specs.declared.crew.CrewReport.{CrewReport}
use Rattle.sx_run.specs.declared.report.WorkReport.{WorkReport}
use Rattle.sx_run.specs.declared.service.Unserved.{Unserved}
use Rattle.sx_run.specs.declared.service.Unserved.TheVariants.{WriteFault, NoMemory, ListenFault}
use Rattle.sx_run.specs.declared.words.ServeWords.{ServeWords}
use Rattle.sx_run.specs.Visits.{HasNone, Post, Talks, Works}
use Rattle.sx_run.specs.declared.crew.Worker.{Worker}
use Rattle.sx_run.specs.Crews.{Failed, Told, crew_report, forked}

-- a worker: its number, by which its entries are known, and its report
pub record Shift : Type 0 where
  pub who : ℕ
  pub report : WorkReport

-- a worker's part in the history, over a listener whose links were given and left so: all of its caller's entries are
-- those of the links that it served
pub record HasWorked {K D : Type 0} (talks : Talks K D) (h : History) (conns : ℕ) (given left : Option (Links K))
    (s : Shift)
    : Type 0 where
  pub from : ℕ
  pub unknown : HasNone s.who (take from h.entries)
  pub old : Post K D
  pub new : Post K D
  pub given_is : old.links ≡ given
  pub left_is : new.links ≡ left
  pub works : Works talks (record { who = s.who; history = h; from = from }) conns old new s.report

-- the workers of a door: the first served the links of the listener that was handed in, the others those of its forks
abbrev pub IsCrew : {K D : Type 0} → Talks K D → History → ℕ → Told K → Told K → List Shift → Type 0
IsCrew talks h conns old new [] = ⊥
IsCrew {K} talks h conns old new (s ∷ ss) =
    HasWorked talks h conns old.links new.links s
    × AllByRecursion (λ t. (left : Option (Links K)) × HasWorked talks h conns (forked old.links) left t) ss

-- the reports of workers
abbrev pub reports_of : List Shift → List WorkReport
reports_of ss = map (λ s. s.report) ss

-- how many of these workers have the number
abbrev pub workers_of : ℕ → List Shift → ℕ
workers_of n [] = 0
workers_of n (s ∷ ss) = (if n == s.who then 1 else 0) + workers_of n ss

-- a call of the listener failed where one of the workers says so
abbrev pub HasFaults : {K : Type 0} → Told K → Told K → List Shift → Type 0
HasFaults old new ss = (crew_report (reports_of ss)).faulted ≡ true → Rose old.faults new.faults

-- the status by the reports of both doors' workers: out of memory comes first, then a listener's fault, then a full
-- history
abbrev pub crews_status : CrewReport → CrewReport → ℕ
crews_status rest smb =
    if rest.starved || smb.starved then 5
    else if rest.faulted || smb.faulted then 6
    else if rest.full || smb.full then 7
    else 0

-- the lines that tell the ports
abbrev pub port_lines : ℕ → ℕ → List ℕ
port_lines rest smb = codes "rest " ++ decimal rest ++ codes "\nsmb " ++ decimal smb ++ codes "\n"

-- both listeners, and the count of failed writes of the output, before or after
pub record Ports (K : Type 0) : Type 0 where
  pub rest : Told K
  pub smb : Told K
  pub writes : ℕ

-- both doors had their workers, and each entry of the history is of exactly one of them
pub record AllWorked {K D E : Type 0} (rest_talks : Talks K D) (smb_talks : Talks K E) (serve : ServeWords)
    (entries : List Noted) (old new : Ports K) (rest_report smb_report : CrewReport)
    : Type 0 where
  pub rest : List Shift
  pub smb : List Shift
  pub rest_many : length rest ≡ serve.rest_workers
  pub smb_many : length smb ≡ serve.smb_workers
  pub rest_crew : IsCrew rest_talks (record { entries = entries; limit = serve.limit }) serve.conns old.rest new.rest
      rest
  pub smb_crew : IsCrew smb_talks (record { entries = entries; limit = serve.limit }) serve.conns old.smb new.smb smb
  pub callers : AllByRecursion (λ n. workers_of (caller_of n) (rest ++ smb) ≡ 1) entries
  pub differ : (n : ℕ) → workers_of n (rest ++ smb) ≤ 1
  pub rest_faults : HasFaults old.rest new.rest rest
  pub smb_faults : HasFaults old.smb new.smb smb
  pub rest_is : rest_report ≡ crew_report (reports_of rest)
  pub smb_is : smb_report ≡ crew_report (reports_of smb)

-- the links were served: the ports were told, both doors had their workers, and the office was closed with a legal
-- history
pub record HasServed {K D E : Type 0} (rest_talks : Talks K D) (smb_talks : Talks K E) (serve : ServeWords)
    (wrote wrote' : List ℕ → Type 0) (old new : Ports K) (status : ℕ)
    : Type 0 where
  pub rest_port : ℕ
  pub smb_port : ℕ
  pub lines : HasText wrote wrote' (port_lines rest_port smb_port)
  pub kept : new.writes ≡ old.writes
  pub entries : List Noted
  pub legal : IsHistory serve.limit entries
  pub rest_report : CrewReport
  pub smb_report : CrewReport
  pub worked : AllWorked rest_talks smb_talks serve entries old new rest_report smb_report
  pub status_is : status ≡ crews_status rest_report smb_report

-- the links were served, but the office could not be closed: the ports were told
pub record IsUnclosed {K : Type 0} (wrote wrote' : List ℕ → Type 0) (old new : Ports K) (status : ℕ) : Type 0 where
  pub rest_port : ℕ
  pub smb_port : ℕ
  pub lines : HasText wrote wrote' (port_lines rest_port smb_port)
  pub kept : new.writes ≡ old.writes
  pub status_is : status ≡ 5

-- the status where no link was served
abbrev pub status_unserved : Unserved → ℕ
status_unserved WriteFault = 4
status_unserved NoMemory = 5
status_unserved ListenFault = 6

-- why no link was served: the ports could not be told; no memory was left, or the office gave no pass; or a call of a
-- listener failed
abbrev pub IsUnservedBy : {K : Type 0} → Unserved → (List ℕ → Type 0) → (List ℕ → Type 0) → Ports K → Ports K
    → Type 0
IsUnservedBy WriteFault wrote wrote' old new =
    Rose old.writes new.writes
    × ((rest_port : ℕ) × (smb_port : ℕ) × HasPrefix wrote wrote' (port_lines rest_port smb_port))
IsUnservedBy NoMemory wrote wrote' old new = HasText wrote wrote' []
IsUnservedBy ListenFault wrote wrote' old new =
    (Rose old.rest.faults new.rest.faults ⊎ Rose old.smb.faults new.smb.faults) × HasText wrote wrote' []

-- no link was given by a listener, and the history has no entry
pub record IsUnserved {K : Type 0} (wrote wrote' : List ℕ → Type 0) (old new : Ports K) (status : ℕ) : Type 0 where
  pub rest_same : new.rest.links ≡ old.rest.links
  pub smb_same : new.smb.links ≡ old.smb.links
  pub unserved : Unserved
  pub cause : IsUnservedBy unserved wrote wrote' old new
  pub status_is : status ≡ status_unserved unserved

-- what the service does
abbrev pub Serves : {K D E : Type 0} → Talks K D → Talks K E → ServeWords → (List ℕ → Type 0) → (List ℕ → Type 0)
    → Ports K → Ports K → ℕ → Type 0
Serves rest_talks smb_talks serve wrote wrote' old new status =
    HasServed rest_talks smb_talks serve wrote wrote' old new status ⊎ IsUnclosed wrote wrote' old new status
    ⊎ IsUnserved wrote wrote' old new status

-- ---- how the service is begun and ended, for its parts

-- what an office's close tells of the pass that closed it
abbrev pub IsAllMet : PassView → Type 0
IsAllMet p = OwnsAllNumbers p × OwnsEachSeen p × HasExactPlaces p

-- workers of both doors were hired, those of the REST door first, and a call of a listener failed since
pub record HasFailed {L C W K : Type 0} (tell : L → Told K) (rest_workers : ℕ) (given now smb_given smb_now : Told K)
    (all : List (Worker L C W))
    : Type 0 where
  pub rest : List (Worker L C W)
  pub smb : List (Worker L C W)
  pub all_are : all ≡ rest ++ smb
  pub cut : min (length all) rest_workers ≡ length rest
  pub failed : Failed given (map (λ w. tell w.listener) rest) now
      ⊎ Failed smb_given (map (λ w. tell w.listener) smb) smb_now

-- why the service could not begin, before its workers are dismissed
abbrev pub IsUnreadyBy : {L C W K S : Type 0} → (L → Told K) → (S → List ℕ → Type 0) → (S → ℕ) → S → S → ℕ → Told K
    → Told K → Told K → Told K → List (Worker L C W) → Unserved → Type 0
IsUnreadyBy tell wrote count out out' n given now smb_given smb_now all WriteFault =
    Rose (count out) (count out')
    × ((rest_port : ℕ) × (smb_port : ℕ) × HasPrefix (wrote out) (wrote out') (port_lines rest_port smb_port))
IsUnreadyBy tell wrote count out out' n given now smb_given smb_now all NoMemory = out' ≡ out
IsUnreadyBy tell wrote count out out' n given now smb_given smb_now all ListenFault =
    (out' ≡ out) × HasFailed tell n given now smb_given smb_now all
