-- The law of conflicts.
use Rattle.std.specs.Prelude.{◌≡◌, ℕ, true, [], ◌∷◌, Option, Some, None, Result, Ok, Err}
use Rattle.std.proofs.Common.{refl, ◌∙◌, subst}
use Rattle.sx_guard.specs.Handle.{Handle}
use Rattle.sx_guard.specs.Locks.{RangeLock}
use Rattle.sx_call.specs.declared.entries.Entry.{Entry}
use Rattle.sx_call.specs.declared.refusals.Refusal.{Refusal}
use Rattle.sx_call.specs.declared.refusals.Refusal.TheVariants as refusal
use Rattle.sx_spec.specs.declared.checks.Asks.{Asks}
use Rattle.sx_spec.specs.declared.checks.LeaseAsk.{LeaseAsk}
use Rattle.sx_spec.specs.declared.checks.LeaseAsk.TheVariants.{AnyLease, Passes, Acts, Unleased}
use Rattle.sx_spec.specs.Account.{Store, Account}
use Rattle.sx_spec.specs.Checks.{first_of, lease_refusal, open_refusal, lock_refusal, asks_refusal}
use Rattle.sx_spec.specs.Changes.{Act}
use Rattle.sx_spec.specs.Conflicts.{is_conflict, LeaseForbids, IsLeastOpen, IsLeastLock, Forbids, IsForbidden}
use Rattle.sx_spec.specs.Conflicts.{ConflictLaw}
use Rattle.sx_spec.specs.Step.{act_in, first_in, first_refusal}
use Rattle.sx_spec.specs.Whole.{IsWhole, AreOpens, AreLocks}
use Rattle.sx_spec.proofs.Checked.{not_this, asks_first, first_asks}
use Rattle.sx_spec.proofs.Leases.{lease_forbids, lease_refuses}
use Rattle.sx_spec.proofs.Opens.{opens_forbid, opens_refuse, locks_forbid, locks_refuse}
use Rattle.sx_spec.proofs.Refusals.{Fair, fair, refused_is}

-- What is asked of others refuses for a conflict, so what the refusal names forbids.

no_open : (ask : LeaseAsk) (handle : Handle) → LeaseForbids ask (refusal.Shared handle) → ⊥
no_open AnyLease handle f = f
no_open (Passes share state given writes) handle f = f
no_open (Acts done) handle f = f
no_open (Unleased state access) handle f = f

no_lock : (ask : LeaseAsk) (held : RangeLock) → LeaseForbids ask (refusal.Locked held) → ⊥
no_lock AnyLease held f = f
no_lock (Passes share state given writes) held f = f
no_lock (Acts done) held f = f
no_lock (Unleased state access) held f = f

by_lease : (s : Store) (asks : Asks) (r : Refusal) → LeaseForbids asks.lease r → Forbids s asks r
by_lease s asks (refusal.Shared handle) f = absurd (no_open asks.lease handle f)
by_lease s asks (refusal.Locked held) f = absurd (no_lock asks.lease held f)
by_lease s asks r f = f

by_opens : (s : Store) (came : ℕ) (asks : Asks) (r : Refusal) → AreOpens came s.sessions s.shares s.opens
    → lease_refusal asks.lease ≡ None → open_refusal s asks.opens ≡ Some r → Forbids s asks r
by_opens s came asks r are lease is =
    let found : (handle : Handle) × (refusal.Shared handle ≡ r) × IsLeastOpen asks.opens s.opens handle =
    opens_forbid s asks.opens r are.order is in
    subst (λ q. Forbids s asks q) found.1 (lease, found.2)

by_locks : (s : Store) (asks : Asks) (r : Refusal) → AreLocks s.opens s.locks → is_conflict r ≡ true
    → lease_refusal asks.lease ≡ None → open_refusal s asks.opens ≡ None
    → lock_refusal s asks.locks ≡ Some r → Forbids s asks r
by_locks s asks r are conflict lease opens is =
    let found : (held : RangeLock) × (refusal.Locked held ≡ r) × IsLeastLock asks.locks s.locks held =
    locks_forbid s asks.locks r are conflict is in
    subst (λ q. Forbids s asks q) found.1 (lease, opens, found.2)

asks_by : (s : Store) (came : ℕ) (asks : Asks) (r : Refusal) (lease opens : Option Refusal)
    → AreOpens came s.sessions s.shares s.opens → AreLocks s.opens s.locks → is_conflict r ≡ true
    → lease_refusal asks.lease ≡ lease → open_refusal s asks.opens ≡ opens
    → first_of (lease ∷ opens ∷ lock_refusal s asks.locks ∷ []) ≡ Some r → Forbids s asks r
asks_by s came asks r (Some q) opens ao al conflict l o is =
    by_lease s asks r (lease_forbids asks.lease r conflict (l ∙ is))
asks_by s came asks r None (Some q) ao al conflict l o is = by_opens s came asks r ao l (o ∙ is)
asks_by s came asks r None None ao al conflict l o is =
    by_locks s asks r al conflict l o (last_of (lock_refusal s asks.locks) r is)
  where
    last_of : (o : Option Refusal) (r : Refusal) → first_of (o ∷ []) ≡ Some r → o ≡ Some r
    last_of None r is = is
    last_of (Some q) r is = is

asks_forbid : (s : Store) (came : ℕ) (asks : Asks) (r : Refusal) → AreOpens came s.sessions s.shares s.opens
    → AreLocks s.opens s.locks → is_conflict r ≡ true → asks_refusal s asks ≡ Some r → Forbids s asks r
asks_forbid s came asks r ao al conflict is =
    asks_by s came asks r (lease_refusal asks.lease) (open_refusal s asks.opens) ao al conflict refl refl is

-- What the refusal names forbids, so what is asked of others refuses for it.

lease_asks : (s : Store) (asks : Asks) (r : Refusal) → lease_refusal asks.lease ≡ Some r → asks_refusal s asks ≡ Some r
lease_asks s asks r is = rw is refl

opens_ask : (s : Store) (asks : Asks) (r : Refusal) → lease_refusal asks.lease ≡ None
    → open_refusal s asks.opens ≡ Some r → asks_refusal s asks ≡ Some r
opens_ask s asks r lease is = rw (lease, is) refl

locks_ask : (s : Store) (asks : Asks) (r : Refusal) → lease_refusal asks.lease ≡ None
    → open_refusal s asks.opens ≡ None → lock_refusal s asks.locks ≡ Some r → asks_refusal s asks ≡ Some r
locks_ask s asks r lease opens is = rw (lease, opens, is) refl

forbids_asks : (s : Store) (came : ℕ) (asks : Asks) (r : Refusal) → AreOpens came s.sessions s.shares s.opens
    → AreLocks s.opens s.locks → Forbids s asks r → asks_refusal s asks ≡ Some r
forbids_asks s came asks (refusal.Shared handle) ao al (lease, least) =
    opens_ask s asks (refusal.Shared handle) lease (opens_refuse s asks.opens handle ao.order least)
forbids_asks s came asks (refusal.Locked held) ao al (lease, opens, least) =
    locks_ask s asks (refusal.Locked held) lease opens (locks_refuse s asks.locks held al least)
forbids_asks s came asks r ao al f = lease_asks s asks r (lease_refuses asks.lease r f)

-- The law.

forbidden_by : (a : Account) (e : Entry) (r : Refusal) (x : Result Act Refusal) → IsWhole a → is_conflict r ≡ true
    → act_in a e ≡ x → Fair x → first_in a.store x ≡ Some r → IsForbidden a e r
forbidden_by a e r (Err q) whole conflict at fine is = not_this (Some q) r fine conflict is
forbidden_by a e r (Ok act) whole conflict at fine is =
    let c = asks_first a.store act.checks r conflict is in
    record {
      act = act;
      placed = at;
      empty = c.0;
      read_only = c.1;
      forbids = asks_forbid a.store a.came act.checks.asks r whole.opens whole.locks conflict c.2;
    }

refused_by : (a : Account) (e : Entry) (r : Refusal) → IsWhole a → IsForbidden a e r → first_refusal a e ≡ Some r
refused_by a e r whole f =
    rw f.placed (first_asks a.store f.act.checks r f.empty f.read_only (forbids_asks a.store a.came f.act.checks.asks r whole.opens whole.locks f.forbids))

pub conflicts_exact : ConflictLaw
conflicts_exact a e r whole conflict = (
  λ is. forbidden_by a e r (act_in a e) whole conflict refl (fair a e) ((refused_is a e r).0 is),
  λ f. (refused_is a e r).1 (refused_by a e r whole f),
)
