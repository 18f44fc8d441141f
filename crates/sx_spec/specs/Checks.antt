-- What refuses a call at its place, and in which order.
use Rattle.std.specs.Prelude.{ℕ, ◌+◌, ◌*◌, ◌==◌, ◌&&◌, ◌||◌, Bool, true, false, not, if◌then◌else◌, nat_lt, List, []}
use Rattle.std.specs.Prelude.{◌∷◌, Option, Some, None, option_map, find}
use Rattle.std.specs.List.{list_any}
use Rattle.sx_guard.specs.declared.access.Access.{Access}
use Rattle.sx_guard.specs.Handle.{Handle}
use Rattle.sx_guard.specs.Locks.{RangeLock}
use Rattle.sx_guard.specs.Locks as locks
use Rattle.sx_guard.specs.Sharing.{conflict}
use Rattle.sx_lease.specs.Lease.{check_lease}
use Rattle.sx_lease.specs.declared.lease.LeaseCheck.{LeaseCheck}
use Rattle.sx_lease.specs.declared.lease.LeaseCheck.TheVariants as outcome
use Rattle.sx_lease.specs.declared.lease.LeaseSay.{LeaseSay}
use Rattle.sx_lease.specs.declared.lease.LeaseSay.TheVariants as answer
use Rattle.sx_lease.specs.declared.lease.LeaseState.{LeaseState}
use Rattle.sx_lease.specs.declared.lease.LeaseState.TheVariants.{Available, Leased, Broken}
use Rattle.sx_call.specs.declared.calls.Call.{Call}
use Rattle.sx_call.specs.declared.opens.Lock.{Lock}
use Rattle.sx_call.specs.declared.opens.Open.{Open}
use Rattle.sx_call.specs.declared.refusals.Refusal.{Refusal}
use Rattle.sx_call.specs.declared.refusals.Refusal.TheVariants as refusal
use Rattle.sx_tree.specs.declared.node.Node.{Node}
use Rattle.sx_tree.specs.declared.node.FileBody.{FileBody}
use Rattle.sx_tree.specs.Node.{is_directory}
use Rattle.sx_spec.specs.Facts.{length_of}
use Rattle.sx_tree.specs.Tree.{tree_use}
use Rattle.sx_spec.specs.declared.checks.LeaseAsk.{LeaseAsk}
use Rattle.sx_spec.specs.declared.checks.OpenAsk.{OpenAsk}
use Rattle.sx_spec.specs.declared.checks.LockAsk.{LockAsk}
use Rattle.sx_spec.specs.declared.checks.Asks.{Asks}
use Rattle.sx_spec.specs.declared.checks.Limit.{Limit}
use Rattle.sx_spec.specs.declared.checks.Overuse.{Overuse}
use Rattle.sx_spec.specs.declared.checks.Checks.{Checks}
use Rattle.sx_spec.specs.declared.checks.LeaseAsk.TheVariants.{AnyLease, Passes, Acts, Unleased}
use Rattle.sx_spec.specs.declared.checks.OpenAsk.TheVariants.{AnyOpens, Beside, NoneIn, NoneChanging}
use Rattle.sx_spec.specs.declared.checks.LockAsk.TheVariants.{AnyLocks, Touching, NewLock, OldLock}
use Rattle.sx_spec.specs.declared.checks.Limit.TheVariants.{TooManySnapshots, StandingSnapshots, TooManyOpens}
use Rattle.sx_spec.specs.declared.checks.Touch.{Touch}
use Rattle.sx_spec.specs.declared.checks.Touch.TheVariants.{Untouched, Reads, Writes}
use Rattle.sx_spec.specs.Account.{Store, is_on, is_in_share}
use Rattle.sx_spec.specs.Needs.{access_needed, all_shared, touched, writes_under_lease, lease_given, heeds_read_only}
use Rattle.sx_spec.specs.Needs.{is_out_of_file, new_marks}
use Rattle.sx_spec.specs.Places.{Volume, FilePlace, HeldFile}

-- a refusal where something applies
abbrev pub refuse_if : {R : Type 0} → Bool → R → Option R
refuse_if applies r = if applies then Some r else None

-- Leases.

-- the refusal for what the check of a share's or a file's lease came to
abbrev pub refusal_of_check : Bool → LeaseCheck → Option Refusal
refusal_of_check share outcome.Pass = None
refusal_of_check share outcome.Held = Some refusal.LeaseHeld
refusal_of_check share outcome.Other = Some (refusal.LeaseOther share)
refusal_of_check share outcome.NoLease = Some (refusal.NoLease share)

-- the refusal for the answer to an action on a lease
abbrev pub refusal_of_answer : LeaseSay → Option Refusal
refusal_of_answer answer.Granted = None
refusal_of_answer answer.Taken = Some refusal.LeaseTaken
refusal_of_answer answer.IdWrong = Some refusal.LeaseIdWrong
refusal_of_answer answer.NotThere = Some refusal.LeaseNotThere

-- whether a lease is held
abbrev pub is_leased : LeaseState → Bool
is_leased Available = false
is_leased (Leased id) = true
is_leased Broken = false

-- whether an access may change a node
abbrev pub may_change : Access → Bool
may_change access = access.write || access.delete

-- how a lease refuses what is asked of it
abbrev pub lease_refusal : LeaseAsk → Option Refusal
lease_refusal AnyLease = None
lease_refusal (Passes share state given writes) = refusal_of_check share (check_lease state given writes)
lease_refusal (Acts done) = refusal_of_answer done.1
lease_refusal (Unleased state access) = refuse_if (is_leased state && may_change access) refusal.LeaseHeld

-- Sharing.

-- whether an open forbids what is asked of the opens
abbrev pub open_forbids : OpenAsk → Open → Bool
open_forbids AnyOpens o = false
open_forbids (Beside id access mode) o = is_on id o && conflict access mode o.access o.mode
open_forbids (NoneIn number) o = is_in_share number o
open_forbids (NoneChanging id) o = is_on id o && may_change o.access

-- the open that is named is the first in order of handle that forbids
abbrev pub open_refusal : Store → OpenAsk → Option Refusal
open_refusal s AnyOpens = None
open_refusal s ask = option_map (λ o. refusal.Shared o.handle) (find (open_forbids ask) s.opens)

-- Locks.

-- whether a lock forbids a handle, or a REST call, to touch an interval
abbrev pub forbids_touch : Option Handle → Touch → RangeLock → Bool
forbids_touch by Untouched held = false
forbids_touch by (Reads from end) held = locks.forbids_read by from end held
forbids_touch by (Writes from end) held = locks.forbids_write by from end held

-- whether a lock forbids what is asked of the locks
abbrev pub lock_forbids : LockAsk → Lock → Bool
lock_forbids AnyLocks l = false
lock_forbids (Touching id by touch) l = l.node == id && forbids_touch by touch l.held
lock_forbids (NewLock id from end exclusive) l = l.node == id && locks.forbids_lock exclusive from end l.held
lock_forbids (OldLock old) l = false

-- whether two locks are the same: node, handle, interval and kind
abbrev pub same_lock : Lock → Lock → Bool
same_lock a b = a.node == b.node && locks.is_lock a.held.handle a.held.from a.held.end a.held.exclusive b.held

-- the refusal where a lock that is to be held isn't
abbrev pub missing_lock : Store → LockAsk → Option Refusal
missing_lock s (OldLock old) = refuse_if (not (list_any (same_lock old) s.locks)) refusal.NotLocked
missing_lock s ask = None

-- a lock that forbids comes before one that is missing
abbrev pub refusal_of_lock : Option Lock → Option Refusal → Option Refusal
refusal_of_lock (Some l) missing = Some (refusal.Locked l.held)
refusal_of_lock None missing = missing

-- the lock that is named is the first in order of handle, start and end that forbids
abbrev pub lock_refusal : Store → LockAsk → Option Refusal
lock_refusal s AnyLocks = None
lock_refusal s ask = refusal_of_lock (find (lock_forbids ask) s.locks) (missing_lock s ask)

-- Limits.

-- the refusal for a limit that is met
abbrev pub limit_refusal : Limit → Refusal
limit_refusal (TooManySnapshots n) = refusal.SnapshotsFull n
limit_refusal (StandingSnapshots n) = refusal.SnapshotsStand n
limit_refusal (TooManyOpens n) = refusal.OpensFull n

-- The order.

-- what asks nothing of others
abbrev pub asks_nothing : Asks
asks_nothing = record { lease = AnyLease; opens = AnyOpens; locks = AnyLocks }

-- what is checked for nothing
abbrev pub unchecked : Checks
unchecked = record { empty = None; read_only = None; asks = asks_nothing; range = None; quota = None; limits = None }

-- the first refusal in a list of checks
abbrev pub first_of : List (Option Refusal) → Option Refusal
first_of [] = None
first_of (None ∷ rest) = first_of rest
first_of (Some r ∷ rest) = Some r

-- how others refuse what is asked of them: lease, sharing, lock
abbrev pub asks_refusal : Store → Asks → Option Refusal
asks_refusal s asks = first_of (lease_refusal asks.lease ∷ open_refusal s asks.opens ∷ lock_refusal s asks.locks ∷ [])

-- THE ORDER OF REFUSALS behind share, snapshot, parent, node, kind and pending: not empty; read-only; lease, sharing,
-- lock; range;
-- quota; limits. The first that applies is the answer.
unfoldable pub first_check : Store → Checks → Option Refusal
first_check s c = first_of (
    option_map refusal.NotEmpty c.empty
    ∷ option_map refusal.ReadOnly c.read_only
    ∷ asks_refusal s c.asks
    ∷ option_map refusal.OutOfFile c.range
    ∷ option_map (λ q. refusal.QuotaMet q.used q.more q.limit) c.quota
    ∷ option_map limit_refusal c.limits
    ∷ [])

-- The checks of a call, by the tables.

-- the file has the ReadOnly attribute, and the call heeds it
abbrev pub read_only_check : Call → Node → Option ℕ
read_only_check call n =
    refuse_if (heeds_read_only call && not (is_directory n.kind) && n.facts.attributes.read_only) n.id

-- the call's range doesn't lie in the file
abbrev pub range_check : Call → FileBody → Option ℕ
range_check call body = refuse_if (is_out_of_file (length_of body) call) (length_of body)

-- granules of 512 bytes in a quota of so many GiB
abbrev pub granules_of : ℕ → ℕ
granules_of quota = quota * 2097152

-- the call marks a granule that has no mark, and the share's use after it passes the quota
abbrev pub quota_check : Call → Volume → FileBody → Option Overuse
quota_check call volume body =
    let more = new_marks body call in
    refuse_if (nat_lt 0 more && nat_lt (granules_of volume.quota) (tree_use volume.tree + more))
    (record { used = tree_use volume.tree; more = more; limit = granules_of volume.quota })

-- who reads a snapshot asks nothing of lease, opens and locks
abbrev pub unless_snapshot : Option ℕ → Asks → Asks
unless_snapshot None asks = asks
unless_snapshot (Some moment) asks = asks_nothing

-- what a REST call asks at a file: it acts as an open that has its access and shares all, by a handle that no open has
abbrev pub rest_asks : Call → FilePlace → Asks
rest_asks call p = record {
  lease = Passes false p.node.facts.lease (lease_given call) (writes_under_lease call);
  opens = Beside p.node.id (access_needed call) all_shared;
  locks = Touching p.node.id None (touched (length_of p.body) call);
}

-- all checks of a REST call at a file
unfoldable pub file_checks : Call → FilePlace → Checks
file_checks call p = record {
  empty = None;
  read_only = read_only_check call p.node;
  asks = unless_snapshot p.volume.snap (rest_asks call p);
  range = range_check call p.body;
  quota = quota_check call p.volume p.body;
  limits = None;
}

-- all checks of a call on a handle of a file
unfoldable pub held_checks : Call → HeldFile → Checks
held_checks call p = record unchecked {
  asks = record asks_nothing { locks = Touching p.node.id (Some p.held.handle) (touched (length_of p.body) call) };
  quota = quota_check call p.volume p.body;
}

-- what a call on a share asks of the share's lease
abbrev pub share_asks : Call → Volume → Asks
share_asks call volume = unless_snapshot volume.snap
    (record asks_nothing { lease = Passes true volume.lease (lease_given call) (writes_under_lease call) })
