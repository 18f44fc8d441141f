-- The law of conflicts: a call is refused for a conflict exactly where the sharing table, a lock or a lease forbids it
-- and no
-- earlier check refuses.
use Rattle.std.specs.Prelude.{◌≡◌, ◌↔◌, Bool, true, false, List, Option, Some, None, Ok}
use Rattle.sx_guard.specs.Ordered.{IsLeast}
use Rattle.sx_guard.specs.Handle.{Handle}
use Rattle.sx_guard.specs.Locks.{RangeLock}
use Rattle.sx_lease.specs.Lease.{same_lease_id}
use Rattle.sx_lease.specs.declared.lease.LeaseId.{LeaseId}
use Rattle.sx_lease.specs.declared.lease.LeaseSay.TheVariants as answer
use Rattle.sx_lease.specs.declared.lease.LeaseState.{LeaseState}
use Rattle.sx_lease.specs.declared.lease.LeaseState.TheVariants.{Leased}
use Rattle.sx_call.specs.declared.entries.Entry.{Entry}
use Rattle.sx_call.specs.declared.opens.Lock.{Lock}
use Rattle.sx_call.specs.declared.opens.Open.{Open}
use Rattle.sx_call.specs.declared.refusals.Refusal.{Refusal}
use Rattle.sx_call.specs.declared.refusals.Refusal.TheVariants.{Shared, Locked, LeaseHeld, LeaseOther, LeaseTaken}
use Rattle.sx_call.specs.declared.replies.Reply.TheVariants.{Refused}
use Rattle.sx_spec.specs.declared.checks.Asks.{Asks}
use Rattle.sx_spec.specs.declared.checks.LeaseAsk.{LeaseAsk}
use Rattle.sx_spec.specs.declared.checks.OpenAsk.{OpenAsk}
use Rattle.sx_spec.specs.declared.checks.LockAsk.{LockAsk}
use Rattle.sx_spec.specs.declared.checks.LeaseAsk.TheVariants.{Passes, Acts, Unleased}
use Rattle.sx_spec.specs.Account.{Store, Account}
use Rattle.sx_spec.specs.Checks.{may_change, open_forbids, lock_forbids, lease_refusal, open_refusal}
use Rattle.sx_spec.specs.Changes.{Act, open_before, comes_before}
use Rattle.sx_spec.specs.Step.{step, act_in}
use Rattle.sx_spec.specs.Whole.{IsWhole}

-- whether a refusal is for a conflict: with an open, a lock or a lease
abbrev pub is_conflict : Refusal → Bool
is_conflict (Shared handle) = true
is_conflict (Locked held) = true
is_conflict LeaseHeld = true
is_conflict (LeaseOther share) = true
is_conflict LeaseTaken = true
is_conflict r = false

-- A lease forbids.

-- it is held, and the call writes and gives no id
pub record IsHeldAgainst (state : LeaseState) (given : Option LeaseId) (writes : Bool) : Type 0 where
  pub id : LeaseId
  pub leased : state ≡ Leased id
  pub none : given ≡ None
  pub write : writes ≡ true

-- it is held under another id than the call gives
pub record IsAnothers (state : LeaseState) (given : Option LeaseId) : Type 0 where
  pub id : LeaseId
  pub leased : state ≡ Leased id
  pub mine : LeaseId
  pub gave : given ≡ Some mine
  pub other : same_lease_id mine id ≡ false

-- it is held on a file that a session would open with write or delete
pub record IsHeldAgainstOpen (state : LeaseState) (changes : Bool) : Type 0 where
  pub id : LeaseId
  pub leased : state ≡ Leased id
  pub change : changes ≡ true

-- how a lease forbids what is asked of it, by the refusal that says so
abbrev pub LeaseForbids : LeaseAsk → Refusal → Type 0
LeaseForbids (Passes share state given writes) LeaseHeld = IsHeldAgainst state given writes
LeaseForbids (Passes share state given writes) (LeaseOther shares) = (shares ≡ share) × IsAnothers state given
LeaseForbids (Acts done) LeaseTaken = done.1 ≡ answer.Taken
LeaseForbids (Unleased state access) LeaseHeld = IsHeldAgainstOpen state (may_change access)
LeaseForbids ask r = ⊥

-- An open or a lock forbids.

-- the handle is that of the least open that forbids
abbrev pub IsLeastOpen : OpenAsk → List Open → Handle → Type 0
IsLeastOpen ask opens handle = (o : Open) × (o.handle ≡ handle) × IsLeast open_before (open_forbids ask) opens o

-- it is the least lock that forbids
abbrev pub IsLeastLock : LockAsk → List Lock → RangeLock → Type 0
IsLeastLock ask locks held = (l : Lock) × (l.held ≡ held) × IsLeast comes_before (lock_forbids ask) locks l

-- what a refusal names forbids what is asked; an open does where the lease doesn't, and a lock where neither does
abbrev pub Forbids : Store → Asks → Refusal → Type 0
Forbids s asks (Shared handle) = (lease_refusal asks.lease ≡ None) × IsLeastOpen asks.opens s.opens handle
Forbids s asks (Locked held) =
    (lease_refusal asks.lease ≡ None) × (open_refusal s asks.opens ≡ None) × IsLeastLock asks.locks s.locks held
Forbids s asks r = LeaseForbids asks.lease r

-- the entry's place is found, it is refused neither as not empty nor as read-only, and what the refusal names forbids
-- it
pub record IsForbidden (a : Account) (e : Entry) (r : Refusal) : Type 0 where
  pub act : Act
  pub placed : act_in a e ≡ Ok act
  pub empty : act.checks.empty ≡ None
  pub read_only : act.checks.read_only ≡ None
  pub forbids : Forbids a.store act.checks.asks r

-- THE LAW OF CONFLICTS
abbrev pub ConflictLaw : Type 0
ConflictLaw = (a : Account) (e : Entry) (r : Refusal) → IsWhole a → is_conflict r ≡ true
    → (((step a e).1 ≡ Refused r) ↔ IsForbidden a e r)
