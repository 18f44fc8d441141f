-- A lease refuses for a conflict exactly where it forbids.
use Rattle.std.specs.Prelude.{◌≡◌, ◌&&◌, Bool, true, false, cond, Option, Some, None}
use Rattle.std.proofs.Common.{refl, sym, ap, ◌∙◌, subst}
use Rattle.sx_guard.specs.declared.access.Access.{Access}
use Rattle.sx_lease.specs.Lease.{check_lease, same_lease_id}
use Rattle.sx_lease.specs.declared.lease.LeaseCheck.TheVariants as outcome
use Rattle.sx_lease.specs.declared.lease.LeaseId.{LeaseId}
use Rattle.sx_lease.specs.declared.lease.LeaseSay.{LeaseSay}
use Rattle.sx_lease.specs.declared.lease.LeaseSay.TheVariants as answer
use Rattle.sx_lease.specs.declared.lease.LeaseState.{LeaseState}
use Rattle.sx_lease.specs.declared.lease.LeaseState.TheVariants.{Available, Leased, Broken}
use Rattle.sx_call.specs.declared.refusals.Refusal.{Refusal}
use Rattle.sx_call.specs.declared.refusals.Refusal.TheVariants.{LeaseHeld, LeaseOther, LeaseTaken, LeaseIdWrong}
use Rattle.sx_call.specs.declared.refusals.Refusal.TheVariants.{LeaseNotThere, NoLease}
use Rattle.sx_spec.specs.declared.checks.LeaseAsk.{LeaseAsk}
use Rattle.sx_spec.specs.declared.checks.LeaseAsk.TheVariants.{AnyLease, Passes, Acts, Unleased}
use Rattle.sx_spec.specs.Checks.{refuse_if, refusal_of_check, refusal_of_answer, is_leased, may_change, lease_refusal}
use Rattle.sx_spec.specs.Conflicts.{is_conflict, IsHeldAgainst, IsAnothers, IsHeldAgainstOpen, LeaseForbids}
use Rattle.sx_spec.proofs.Lists.{some_of}
use Rattle.sx_spec.proofs.Checked.{not_this}

-- Refused for a conflict, it forbids.

given_forbids : (share : Bool) (held id : LeaseId) (writes same : Bool) (r : Refusal) → is_conflict r ≡ true
    → same_lease_id id held ≡ same
    → refusal_of_check share (cond same outcome.Pass outcome.Other) ≡ Some r
    → LeaseForbids (Passes share (Leased held) (Some id) writes) r
given_forbids share held id writes true r conflict same is = not_this None r refl conflict is
given_forbids share held id writes false r conflict same is =
    subst (λ q. LeaseForbids (Passes share (Leased held) (Some id) writes) q) (some_of (LeaseOther share) r is)
    (refl, record { id = held; leased = refl; mine = id; gave = refl; other = same })

check_forbids : (share : Bool) (state : LeaseState) (given : Option LeaseId) (writes : Bool) (r : Refusal)
    → is_conflict r ≡ true
    → refusal_of_check share (check_lease state given writes) ≡ Some r
    → LeaseForbids (Passes share state given writes) r
check_forbids share Available None writes r conflict is = not_this None r refl conflict is
check_forbids share Available (Some id) writes r conflict is = not_this (Some (NoLease share)) r refl conflict is
check_forbids share (Leased held) None true r conflict is =
    subst (λ q. LeaseForbids (Passes share (Leased held) None true) q) (some_of LeaseHeld r is)
    (record { id = held; leased = refl; none = refl; write = refl })
check_forbids share (Leased held) None false r conflict is = not_this None r refl conflict is
check_forbids share (Leased held) (Some id) writes r conflict is =
    given_forbids share held id writes (same_lease_id id held) r conflict refl is
check_forbids share Broken None writes r conflict is = not_this None r refl conflict is
check_forbids share Broken (Some id) writes r conflict is = not_this (Some (NoLease share)) r refl conflict is

answer_forbids : (state : LeaseState) (done : LeaseSay) (r : Refusal) → is_conflict r ≡ true
    → refusal_of_answer done ≡ Some r → LeaseForbids (Acts (state, done)) r
answer_forbids state answer.Granted r conflict is = not_this None r refl conflict is
answer_forbids state answer.Taken r conflict is =
    subst (λ q. LeaseForbids (Acts (state, answer.Taken)) q) (some_of LeaseTaken r is) refl
answer_forbids state answer.IdWrong r conflict is = not_this (Some LeaseIdWrong) r refl conflict is
answer_forbids state answer.NotThere r conflict is = not_this (Some LeaseNotThere) r refl conflict is

opening_forbids : (held : LeaseId) (access : Access) (changes : Bool) (r : Refusal) → is_conflict r ≡ true
    → may_change access ≡ changes
    → refuse_if (true && changes) LeaseHeld ≡ Some r → LeaseForbids (Unleased (Leased held) access) r
opening_forbids held access true r conflict change is =
    subst (λ q. LeaseForbids (Unleased (Leased held) access) q) (some_of LeaseHeld r is) (record {
      id =
          held;
      leased = refl;
      change = change;
    })
opening_forbids held access false r conflict change is = not_this None r refl conflict is

-- a lease that refuses for a conflict forbids
pub lease_forbids : (ask : LeaseAsk) (r : Refusal) → is_conflict r ≡ true → lease_refusal ask ≡ Some r
    → LeaseForbids ask r
lease_forbids AnyLease r conflict is = not_this None r refl conflict is
lease_forbids (Passes share state given writes) r conflict is = check_forbids share state given writes r conflict is
lease_forbids (Acts (state, done)) r conflict is = answer_forbids state done r conflict is
lease_forbids (Unleased Available access) r conflict is = not_this None r refl conflict is
lease_forbids (Unleased (Leased held) access) r conflict is =
    opening_forbids held access (may_change access) r conflict refl is
lease_forbids (Unleased Broken access) r conflict is = not_this None r refl conflict is

-- It forbids, so it refuses.

held_refuses : (share : Bool) (state : LeaseState) (given : Option LeaseId) (writes : Bool)
    → IsHeldAgainst state given writes
    → refusal_of_check share (check_lease state given writes) ≡ Some LeaseHeld
held_refuses share state given writes f = rw (f.leased, f.none, f.write) refl

anothers_refuses : (share : Bool) (state : LeaseState) (given : Option LeaseId) (writes : Bool) → IsAnothers state given
    → refusal_of_check share (check_lease state given writes) ≡ Some (LeaseOther share)
anothers_refuses share state given writes f = rw (f.leased, f.gave, f.other) refl

taken_refuses : (done : LeaseSay) → done ≡ answer.Taken → refusal_of_answer done ≡ Some LeaseTaken
taken_refuses done is = rw is refl

open_refuses : (state : LeaseState) (access : Access) → IsHeldAgainstOpen state (may_change access)
    → refuse_if (is_leased state && may_change access) LeaseHeld ≡ Some LeaseHeld
open_refuses state access f = rw (f.leased, f.change) refl

-- a lease that forbids refuses so
pub lease_refuses : (ask : LeaseAsk) (r : Refusal) → LeaseForbids ask r → lease_refusal ask ≡ Some r
lease_refuses (Passes share state given writes) LeaseHeld f = held_refuses share state given writes f
lease_refuses (Passes share state given writes) (LeaseOther shares) (same, f) =
    anothers_refuses share state given writes f ∙ ap (λ b. Some (LeaseOther b)) (sym same)
lease_refuses (Acts (state, done)) LeaseTaken f = taken_refuses done f
lease_refuses (Unleased state access) LeaseHeld f = open_refuses state access f
lease_refuses ask r f = absurd f
