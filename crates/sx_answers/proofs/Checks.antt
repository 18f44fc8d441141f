-- A check that applies refuses by a refusal that is printed: read-only, sharing, locks and quota do at both doors, and
-- an act owes the others.
use Rattle.std.specs.Prelude.{◌≡◌, Bool, true, false, List, ◌∷◌, Option, Some, None, option_map, find}
use Rattle.sx_call.specs.declared.opens.Lock.{Lock}
use Rattle.sx_call.specs.declared.refusals.Refusal.{Refusal}
use Rattle.sx_call.specs.declared.refusals.Refusal.TheVariants as refusal
use Rattle.sx_call.specs.declared.replies.Reply.{Reply}
use Rattle.sx_call.specs.declared.replies.Reply.TheVariants.{Refused}
use Rattle.sx_spec.specs.declared.checks.Asks.{Asks}
use Rattle.sx_spec.specs.declared.checks.Checks.{Checks}
use Rattle.sx_spec.specs.declared.checks.Limit.{Limit}
use Rattle.sx_spec.specs.declared.checks.LockAsk.{LockAsk}
use Rattle.sx_spec.specs.declared.checks.LockAsk.TheVariants.{AnyLocks, Touching, NewLock, OldLock}
use Rattle.sx_spec.specs.declared.checks.OpenAsk.{OpenAsk}
use Rattle.sx_spec.specs.declared.checks.OpenAsk.TheVariants.{AnyOpens, Beside, NoneIn, NoneChanging}
use Rattle.sx_spec.specs.Account.{Store}
use Rattle.sx_spec.specs.Checks.{refuse_if, lease_refusal, open_forbids, open_refusal, lock_forbids, missing_lock}
use Rattle.sx_spec.specs.Checks.{refusal_of_lock, lock_refusal, limit_refusal, unchecked, first_of, asks_refusal}
use Rattle.sx_spec.specs.Checks.{first_check}
use Rattle.sx_answers.proofs.Places.{PrintsCommon}

-- a check doesn't apply, or its refusal is printed
abbrev pub IsTold : (Reply → Bool) → Option Refusal → Type 0
IsTold prints None = Unit {0}
IsTold prints (Some r) = prints (Refused r) ≡ true

module _ (prints : Reply → Bool) where
  pub told_by : {A : Type 0} (f : A → Refusal) (o : Option A) → ((x : A) → prints (Refused (f x)) ≡ true)
      → IsTold prints (option_map f o)
  told_by f None printed = tt
  told_by f (Some x) printed = printed x

  pub told_if : (b : Bool) (r : Refusal) → prints (Refused r) ≡ true → IsTold prints (refuse_if b r)
  told_if true r printed = printed
  told_if false r printed = tt

  pub limit_told : (b : Bool) (limit : Limit) → prints (Refused (limit_refusal limit)) ≡ true
      → IsTold prints (option_map limit_refusal (refuse_if b limit))
  limit_told true limit printed = printed
  limit_told false limit printed = tt

  first_told : (o : Option Refusal) (rest : List (Option Refusal)) → IsTold prints o → IsTold prints (first_of rest)
      → IsTold prints (first_of (o ∷ rest))
  first_told None rest this more = more
  first_told (Some r) rest this more = this

  -- what is checked for nothing is refused nowhere
  pub unchecked_told : (s : Store) → IsTold prints (first_check s unchecked)
  unfolding first_check
  unchecked_told s = tt

module _ {prints : Reply → Bool} (k : PrintsCommon prints) where
  opens_told : (s : Store) (ask : OpenAsk) → IsTold prints (open_refusal s ask)
  opens_told s AnyOpens = tt
  opens_told s (Beside id access mode) =
      told_by prints (λ o. refusal.Shared o.handle) (find (open_forbids (Beside id access mode)) s.opens)
      (λ o. k.shared o.handle)
  opens_told s (NoneIn number) =
      told_by prints (λ o. refusal.Shared o.handle) (find (open_forbids (NoneIn number)) s.opens)
      (λ o. k.shared o.handle)
  opens_told s (NoneChanging id) =
      told_by prints (λ o. refusal.Shared o.handle) (find (open_forbids (NoneChanging id)) s.opens)
      (λ o. k.shared o.handle)

  lock_told : (o : Option Lock) (missing : Option Refusal) → IsTold prints missing
      → IsTold prints (refusal_of_lock o missing)
  lock_told (Some l) missing told = k.locked l.held
  lock_told None missing told = told

  locks_told : (s : Store) (ask : LockAsk) → IsTold prints (missing_lock s ask) → IsTold prints (lock_refusal s ask)
  locks_told s AnyLocks missing = tt
  locks_told s (Touching id by touch) missing =
      lock_told (find (lock_forbids (Touching id by touch)) s.locks) None missing
  locks_told s (NewLock id from end exclusive) missing =
      lock_told (find (lock_forbids (NewLock id from end exclusive)) s.locks) None missing
  locks_told s (OldLock old) missing =
      lock_told (find (lock_forbids (OldLock old)) s.locks) (missing_lock s (OldLock old)) missing

  asks_told : (s : Store) (asks : Asks) → IsTold prints (lease_refusal asks.lease)
      → IsTold prints (missing_lock s asks.locks) → IsTold prints (asks_refusal s asks)
  asks_told s asks lease missing =
      first_told prints (lease_refusal asks.lease) _ lease (
      first_told prints (open_refusal s asks.opens) _ (opens_told s asks.opens) (
      first_told prints (lock_refusal s asks.locks) _ (locks_told s asks.locks missing) tt))

  -- the first check is told where these are: not empty, the lease, a lock that is missing, the range and the limits
  pub checks_told : (s : Store) (c : Checks) → IsTold prints (option_map refusal.NotEmpty c.empty)
      → IsTold prints (lease_refusal c.asks.lease) → IsTold prints (missing_lock s c.asks.locks)
      → IsTold prints (option_map refusal.OutOfFile c.range) → IsTold prints (option_map limit_refusal c.limits)
      → IsTold prints (first_check s c)
  unfolding first_check
  checks_told s c empty lease missing range limits =
      first_told prints (option_map refusal.NotEmpty c.empty) _ empty (
      first_told prints (option_map refusal.ReadOnly c.read_only) _ (told_by prints refusal.ReadOnly c.read_only k.read_only) (
      first_told prints (asks_refusal s c.asks) _ (asks_told s c.asks lease missing) (
      first_told prints (option_map refusal.OutOfFile c.range) _ range (
      first_told prints (option_map (λ q. refusal.QuotaMet q.used q.more q.limit) c.quota) _ (told_by prints (λ q. refusal.QuotaMet q.used q.more q.limit) c.quota (λ q. k.quota q.used q.more q.limit)) (
      first_told prints (option_map limit_refusal c.limits) _ limits tt)))))
