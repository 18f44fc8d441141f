-- Opens and locks refuse for a conflict exactly where the least that forbids is the one that is named.
use Rattle.std.specs.Prelude.{◌≡◌, ◌<◌, ◌||◌, ◌&&◌, Bool, true, false, not, List, Option, Some, None, option_map, find}
use Rattle.std.specs.Prelude.{All, AllPairs, Contains, ◌⊎◌, get_or, nat_lt, max, min}
use Rattle.std.specs.List.{list_any}
use Rattle.std.proofs.Common.{refl, sym, ap, ◌∙◌, subst, arith, true≢false, inl, inr}
use Rattle.std.proofs.lemmas.Bool.{cases_order}
use Rattle.std.proofs.lemmas.Bool.Decides.{nat_tests}
use Rattle.std.proofs.lemmas.List.{get_or_default}
use Rattle.sx_guard.proofs.Orders.{handle_same, handle_one_way}
use Rattle.sx_guard.proofs.Pairs.{AllPairs-weaker, IsLeast-find}
use Rattle.sx_guard.proofs.Places.{All-find}
use Rattle.sx_guard.specs.Handle.{handle_before}
use Rattle.sx_guard.specs.Locks.{forbids_lock}
use Rattle.sx_guard.specs.Ordered.{IsLeast}
use Rattle.sx_guard.specs.Handle.{Handle}
use Rattle.sx_guard.specs.Locks.{RangeLock}
use Rattle.sx_call.specs.declared.opens.Lock.{Lock}
use Rattle.sx_call.specs.declared.opens.Open.{Open}
use Rattle.sx_call.specs.declared.refusals.Refusal.{Refusal}
use Rattle.sx_call.specs.declared.refusals.Refusal.TheVariants.{Shared, Locked, NotLocked}
use Rattle.sx_spec.specs.declared.checks.LockAsk.{LockAsk}
use Rattle.sx_spec.specs.declared.checks.LockAsk.TheVariants.{AnyLocks, Touching, NewLock, OldLock}
use Rattle.sx_spec.specs.declared.checks.OpenAsk.{OpenAsk}
use Rattle.sx_spec.specs.declared.checks.OpenAsk.TheVariants.{AnyOpens, Beside, NoneIn, NoneChanging}
use Rattle.sx_spec.specs.Account.{Store}
use Rattle.sx_spec.specs.Checks.{refuse_if, open_forbids, open_refusal, lock_forbids, same_lock, missing_lock}
use Rattle.sx_spec.specs.Checks.{refusal_of_lock, lock_refusal}
use Rattle.sx_spec.specs.Changes.{open_before, comes_before}
use Rattle.sx_spec.specs.Conflicts.{is_conflict, IsLeastOpen, IsLeastLock}
use Rattle.sx_spec.specs.Whole.{AreLocks, IsLock}
use Rattle.sx_spec.proofs.Lists.{some_of}
use Rattle.sx_spec.proofs.Checked.{not_this, refuses_for_conflict}

-- what holds of all items holds of one that is listed
at_listed : {X : Type 0} (P : X → Type 0) (xs : List X) (x : X) → All P xs → Contains xs x → P x
at_listed P xs x all (k, within, is) = subst P is (all k x within)

-- where nothing is found, nothing that is listed passes
not_listed : {X : Type 0} (test : X → Bool) (xs : List X) (x : X) → find test xs ≡ None → Contains xs x
    → test x ≡ true → ⊥
not_listed test xs x none listed passes =
    true≢false (sym passes ∙ at_listed (λ y. test y ≡ false) xs x (All-find test xs none) listed)

-- Opens.

open_same : (o : Open) → open_before o o ≡ false
open_same o = handle_same o.handle

opens_behind : (opens : List Open) → AllPairs (λ o q. handle_before o.handle q.handle ≡ true) opens
    → AllPairs (λ a b. open_before b a ≡ false) opens
opens_behind opens order =
    AllPairs-weaker (λ o q. handle_before o.handle q.handle ≡ true) (λ a b. open_before b a ≡ false) (λ a b. handle_one_way a.handle b.handle) opens order

handles_meet : (a b : Handle) → handle_before a b ≡ false → handle_before b a ≡ false
    → (a.session ≡ b.session) × (a.index ≡ b.index)
handles_meet a b ab ba = (grind (arith, nat_tests), grind (arith, nat_tests))

handles_are : (a b : Handle) → handle_before a b ≡ false → handle_before b a ≡ false → a ≡ b
handles_are a b ab ba = let m = handles_meet a b ab ba in λ i. record { session = m.0 i; index = m.1 i }

-- two least opens have one handle
least_handles : (ask : OpenAsk) (opens : List Open) (a b : Open) → IsLeast open_before (open_forbids ask) opens a
    → IsLeast open_before (open_forbids ask) opens b → a.handle ≡ b.handle
least_handles ask opens a b p q = handles_are a.handle b.handle
    (at_listed (λ y. open_forbids ask y ≡ true → open_before y b ≡ false) opens a q.least p.listed p.passes)
    (at_listed (λ y. open_forbids ask y ≡ true → open_before y a ≡ false) opens b p.least q.listed q.passes)

open_named : (ask : OpenAsk) (opens : List Open) (r : Refusal) (found : Option Open)
    → AllPairs (λ a b. open_before b a ≡ false) opens → find (open_forbids ask) opens ≡ found
    → option_map (λ o. Shared o.handle) found ≡ Some r
    → (handle : Handle) × (Shared handle ≡ r) × IsLeastOpen ask opens handle
open_named ask opens r None order at is = cc
open_named ask opens r (Some o) order at is =
    (o.handle, some_of (Shared o.handle) r is, (o, refl, IsLeast-find open_before (open_forbids ask) opens o open_same order at))

-- opens that refuse name the least that forbids
pub opens_forbid : (s : Store) (ask : OpenAsk) (r : Refusal)
    → AllPairs (λ o q. handle_before o.handle q.handle ≡ true) s.opens → open_refusal s ask ≡ Some r
    → (handle : Handle) × (Shared handle ≡ r) × IsLeastOpen ask s.opens handle
opens_forbid s AnyOpens r order is = cc
opens_forbid s (Beside id access mode) r order is =
    open_named (Beside id access mode) s.opens r (find (open_forbids (Beside id access mode)) s.opens) (opens_behind s.opens order) refl is
opens_forbid s (NoneIn number) r order is =
    open_named (NoneIn number) s.opens r (find (open_forbids (NoneIn number)) s.opens) (opens_behind s.opens order) refl is
opens_forbid s (NoneChanging id) r order is =
    open_named (NoneChanging id) s.opens r (find (open_forbids (NoneChanging id)) s.opens) (opens_behind s.opens order) refl is

open_found : (ask : OpenAsk) (opens : List Open) (handle : Handle) (found : Option Open)
    → AllPairs (λ a b. open_before b a ≡ false) opens → find (open_forbids ask) opens ≡ found
    → IsLeastOpen ask opens handle → option_map (λ o. Shared o.handle) found ≡ Some (Shared handle)
open_found ask opens handle None order at (o, is, least) =
    absurd (not_listed (open_forbids ask) opens o at least.listed least.passes)
open_found ask opens handle (Some q) order at (o, is, least) =
    ap (λ h. Some (Shared h)) (least_handles ask opens q o (IsLeast-find open_before (open_forbids ask) opens q open_same order at) least ∙ is)

-- the least open that forbids is named
pub opens_refuse : (s : Store) (ask : OpenAsk) (handle : Handle)
    → AllPairs (λ o q. handle_before o.handle q.handle ≡ true) s.opens → IsLeastOpen ask s.opens handle
    → open_refusal s ask ≡ Some (Shared handle)
opens_refuse s AnyOpens handle order (o, is, least) = absurd (true≢false (sym least.passes))
opens_refuse s (Beside id access mode) handle order least =
    open_found (Beside id access mode) s.opens handle (find (open_forbids (Beside id access mode)) s.opens) (opens_behind s.opens order) refl least
opens_refuse s (NoneIn number) handle order least =
    open_found (NoneIn number) s.opens handle (find (open_forbids (NoneIn number)) s.opens) (opens_behind s.opens order) refl least
opens_refuse s (NoneChanging id) handle order least =
    open_found (NoneChanging id) s.opens handle (find (open_forbids (NoneChanging id)) s.opens) (opens_behind s.opens order) refl least

-- Locks.

lock_same : (l : Lock) → comes_before l l ≡ false
lock_same l = grind (arith, nat_tests)

record Meet (a b : Lock) : Type 0 where
  pub node : a.node ≡ b.node
  pub session : a.held.handle.session ≡ b.held.handle.session
  pub index : a.held.handle.index ≡ b.held.handle.index
  pub from : a.held.from ≡ b.held.from
  pub end : a.held.end ≡ b.held.end

locks_meet : (a b : Lock) → comes_before a b ≡ false → comes_before b a ≡ false → Meet a b
locks_meet a b ab ba = record {
  node = grind (arith, nat_tests);
  session = grind (arith, nat_tests);
  index = grind (arith, nat_tests);
  from = grind (arith, nat_tests);
  end = grind (arith, nat_tests);
}

both_shared : (p q : Bool) (m : Bool) → m ≡ true → (m && (p || q)) ≡ false → (p ≡ false) × (q ≡ false)
both_shared true q m meets apart = absurd (true≢false (sym (ap (λ b. b && true) meets) ∙ apart))
both_shared false true m meets apart = absurd (true≢false (sym (ap (λ b. b && true) meets) ∙ apart))
both_shared false false m meets apart = (refl, refl)

meeting : (a b : Lock) → Meet a b → a.held.from < a.held.end
    → nat_lt (max b.held.from a.held.from) (min b.held.end a.held.end) ≡ true
meeting a b m filled = grind (arith, nat_tests, m.from, m.end)

same_kind : (a b : Lock) → Meet a b → a.held.from < a.held.end
    → (a.node ≡ b.node → forbids_lock b.held.exclusive b.held.from b.held.end a.held ≡ false)
    → a.held.exclusive ≡ b.held.exclusive
same_kind a b m filled apart =
    let shared =
    both_shared b.held.exclusive a.held.exclusive (nat_lt (max b.held.from a.held.from) (min b.held.end a.held.end)) (meeting a b m filled) (apart m.node) in
    shared.1 ∙ sym shared.0

held_is : (a b : Lock) → Meet a b → a.held.exclusive ≡ b.held.exclusive → a.held ≡ b.held
held_is a b m kind =
    λ i. record { handle = record { session = m.session i; index = m.index i }; from = m.from i; end = m.end i; exclusive = kind i }

meet_back : (a b : Lock) → Meet a b → Meet b a
meet_back a b m =
    record { node = sym m.node; session = sym m.session; index = sym m.index; from = sym m.from; end = sym m.end }

abbrev Apart : Lock → Lock → Type 0
Apart a b = a.node ≡ b.node → forbids_lock b.held.exclusive b.held.from b.held.end a.held ≡ false

one_lock : (locks : List Lock) (a b : Lock) → AllPairs Apart locks → Meet a b → a.held.from < a.held.end
    → b.held.from < b.held.end → Contains locks a → Contains locks b → a.held ≡ b.held
one_lock locks a b apart m fa fb (i, wi, ai) (j, wj, bj) = by (cases_order i j)
  where
    by : (i ≡ j) ⊎ ((i < j) ⊎ (j < i)) → a.held ≡ b.held
    by (inl same) =
        ap (λ (l : Lock). l.held) (sym ai ∙ (ap (λ k. get_or locks k a) same ∙ (get_or_default locks j a b wj ∙ bj)))
    by (inr (inl lt)) =
        held_is a b m (same_kind a b m fa (subst (λ y. Apart a y) (get_or_default locks j a b wj ∙ bj) (subst (λ x. Apart x (get_or locks j a)) ai (apart i j a lt wj))))
    by (inr (inr lt)) =
        sym (held_is b a (meet_back a b m) (same_kind b a (meet_back a b m) fb (subst (λ y. Apart b y) (get_or_default locks i b a wi ∙ ai) (subst (λ x. Apart x (get_or locks i b)) bj (apart j i b lt wi)))))

filled_at : (s : Store) (l : Lock) → AreLocks s.opens s.locks → Contains s.locks l → l.held.from < l.held.end
filled_at s l are listed = (at_listed (IsLock s.opens) s.locks l are.each listed).filled

-- two least locks are one
least_locks : (s : Store) (ask : LockAsk) (a b : Lock) → AreLocks s.opens s.locks
    → IsLeast comes_before (lock_forbids ask) s.locks a → IsLeast comes_before (lock_forbids ask) s.locks b
    → a.held ≡ b.held
least_locks s ask a b are p q = one_lock s.locks a b are.apart
    (locks_meet a b
    (at_listed (λ y. lock_forbids ask y ≡ true → comes_before y b ≡ false) s.locks a q.least p.listed p.passes)
    (at_listed (λ y. lock_forbids ask y ≡ true → comes_before y a ≡ false) s.locks b p.least q.listed q.passes))
    (filled_at s a are p.listed) (filled_at s b are q.listed) p.listed q.listed

missing_if : (b : Bool) → refuses_for_conflict (refuse_if b NotLocked) ≡ false
missing_if true = refl
missing_if false = refl

missing_apart : (s : Store) (ask : LockAsk) → refuses_for_conflict (missing_lock s ask) ≡ false
missing_apart s AnyLocks = refl
missing_apart s (Touching id by touch) = refl
missing_apart s (NewLock id from end exclusive) = refl
missing_apart s (OldLock old) = missing_if (not (list_any (same_lock old) s.locks))

lock_named : (s : Store) (ask : LockAsk) (r : Refusal) (found : Option Lock) → AreLocks s.opens s.locks
    → is_conflict r ≡ true → find (lock_forbids ask) s.locks ≡ found
    → refusal_of_lock found (missing_lock s ask) ≡ Some r
    → (held : RangeLock) × (Locked held ≡ r) × IsLeastLock ask s.locks held
lock_named s ask r None are conflict at is = not_this (missing_lock s ask) r (missing_apart s ask) conflict is
lock_named s ask r (Some l) are conflict at is =
    (l.held, some_of (Locked l.held) r is, (l, refl, IsLeast-find comes_before (lock_forbids ask) s.locks l lock_same are.order at))

-- locks that refuse for a conflict name the least that forbids
pub locks_forbid : (s : Store) (ask : LockAsk) (r : Refusal) → AreLocks s.opens s.locks → is_conflict r ≡ true
    → lock_refusal s ask ≡ Some r
    → (held : RangeLock) × (Locked held ≡ r) × IsLeastLock ask s.locks held
locks_forbid s AnyLocks r are conflict is = cc
locks_forbid s (Touching id by touch) r are conflict is =
    lock_named s (Touching id by touch) r (find (lock_forbids (Touching id by touch)) s.locks) are conflict refl is
locks_forbid s (NewLock id from end exclusive) r are conflict is =
    lock_named s (NewLock id from end exclusive) r (find (lock_forbids (NewLock id from end exclusive)) s.locks) are conflict refl is
locks_forbid s (OldLock old) r are conflict is =
    lock_named s (OldLock old) r (find (lock_forbids (OldLock old)) s.locks) are conflict refl is

lock_found : (s : Store) (ask : LockAsk) (held : RangeLock) (found : Option Lock) → AreLocks s.opens s.locks
    → find (lock_forbids ask) s.locks ≡ found
    → IsLeastLock ask s.locks held → refusal_of_lock found (missing_lock s ask) ≡ Some (Locked held)
lock_found s ask held None are at (l, is, least) =
    absurd (not_listed (lock_forbids ask) s.locks l at least.listed least.passes)
lock_found s ask held (Some q) are at (l, is, least) =
    ap (λ h. Some (Locked h)) (least_locks s ask q l are (IsLeast-find comes_before (lock_forbids ask) s.locks q lock_same are.order at) least ∙ is)

-- the least lock that forbids is named
pub locks_refuse : (s : Store) (ask : LockAsk) (held : RangeLock) → AreLocks s.opens s.locks
    → IsLeastLock ask s.locks held → lock_refusal s ask ≡ Some (Locked held)
locks_refuse s AnyLocks held are (l, is, least) = absurd (true≢false (sym least.passes))
locks_refuse s (Touching id by touch) held are least =
    lock_found s (Touching id by touch) held (find (lock_forbids (Touching id by touch)) s.locks) are refl least
locks_refuse s (NewLock id from end exclusive) held are least =
    lock_found s (NewLock id from end exclusive) held (find (lock_forbids (NewLock id from end exclusive)) s.locks) are refl least
locks_refuse s (OldLock old) held are least =
    lock_found s (OldLock old) held (find (lock_forbids (OldLock old)) s.locks) are refl least
