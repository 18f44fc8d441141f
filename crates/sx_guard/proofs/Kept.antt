-- What each call keeps of the lists of opens and of locks.
use Rattle.std.proofs.Common.{◌≡◌, ◌<◌, Bool, true, false, not, List, Option, Some, None, IfSome, All, filter, find, option_map, refl, sym, subst}
use Rattle.std.specs.Prelude.{Result, Ok, Err, OnOk, OnErr}
use Rattle.std.specs.List.{list_any}
use Rattle.std.proofs.lemmas.List.Elements.{All-filter, All-weaker}
use Rattle.std.proofs.lemmas.List.Kept.{AllPairs-filter}
use Rattle.sx_guard.specs.Handle.{Handle}
use Rattle.sx_guard.specs.declared.sharing.Opened.{Opened}
use Rattle.sx_guard.specs.Locks.{RangeLock}
use Rattle.sx_guard.specs.Ordered.{insert_by, remove_first, IsLeast}
use Rattle.sx_guard.specs.Sharing.{AreOpens, IsLeastHandle, first_handle, is_open_of, open_before}
use Rattle.sx_guard.specs.Locks.{AreLocks, forbids_lock, lock_before}
use Rattle.sx_guard.proofs.Orders.{handle_same, handle_one_way, handle_chain, handle_total, handle_differs, lock_same, lock_one_way, lock_behind, forbids_back}
use Rattle.sx_guard.proofs.Pairs.{AllPairs-weaker, AllPairs-insert_by, AllPairs-insert_any, All-insert_by, AllPairs-remove_first, All-remove_first, IsLeast-find}
use Rattle.sx_guard.proofs.Places.{All-list_any, All-find, remove_first-filter}

-- what holds of a list after a call that may fail, where it holds of the list as it was and of the list as the call is to make it
pub kept_by : {X R E : Type 0} (P : List X → Type 0) (r : Result R E) (new added old : List X) → OnOk r (new ≡ added) → OnErr r (new ≡ old) → P added → P old → P new
kept_by P (Ok x) new added old e f made kept = subst P (sym e) made
kept_by P (Err x) new added old e f made kept = subst P (sym f) kept

-- one more open
pub AreOpens-insert : (o : Opened) (opens : List Opened) → list_any (is_open_of o.handle) opens ≡ false → AreOpens opens → AreOpens (insert_by open_before o opens)
AreOpens-insert o opens new kept =
    AllPairs-insert_by (λ p q. open_before p q ≡ true) open_before o opens
    (λ p e. e)
    (λ p q e r. handle_chain o.handle p.handle q.handle e r)
    (All-weaker (λ p. is_open_of o.handle p ≡ false) (λ p. open_before o p ≡ false → open_before p o ≡ true) (λ p n e. handle_total o.handle p.handle n e) opens
    (All-list_any (is_open_of o.handle) opens new))
    kept

-- one open less
pub AreOpens-remove_first : (handle : Handle) (opens : List Opened) → AreOpens opens → AreOpens (remove_first (is_open_of handle) opens)
AreOpens-remove_first handle opens kept = AllPairs-remove_first (λ p q. open_before p q ≡ true) (is_open_of handle) opens kept

-- a handle has one open at most
pub remove_first-opens : (handle : Handle) (opens : List Opened) → AreOpens opens → remove_first (is_open_of handle) opens ≡ filter (λ o. not (is_open_of handle o)) opens
remove_first-opens handle opens kept =
    remove_first-filter (is_open_of handle) opens
    (AllPairs-weaker (λ p q. open_before p q ≡ true) (λ p q. is_open_of handle p ≡ true → is_open_of handle q ≡ false)
    (λ p q e s. handle_differs handle p.handle q.handle e s) opens kept)

-- the first handle is the least
pub IsLeastHandle-first : (test : Opened → Bool) (opens : List Opened) (handle : Option Handle) → handle ≡ first_handle test opens → AreOpens opens → IfSome handle (IsLeastHandle test opens)
IsLeastHandle-first test opens handle e kept = rw e (found (find test opens) refl)
  where
    found : (o : Option Opened) → find test opens ≡ o → IfSome (option_map (λ p. p.handle) o) (IsLeastHandle test opens)
    found None f = tt
    found (Some o) f =
        let l : IsLeast open_before test opens o = IsLeast-find open_before test opens o (λ p. handle_same p.handle)
        (AllPairs-weaker (λ p q. open_before p q ≡ true) (λ p q. open_before q p ≡ false) (λ p q. handle_one_way p.handle q.handle) opens kept) f in
        record { listed = (l.listed.0, o, l.listed.1, l.listed.2, (refl, l.passes)); least = l.least }

-- one more lock
pub AreLocks-insert : (lock : RangeLock) (locks : List RangeLock) → lock.from < lock.end → find (forbids_lock lock.exclusive lock.from lock.end) locks ≡ None → AreLocks locks → AreLocks (insert_by lock_before lock locks)
AreLocks-insert lock locks filled free kept =
    let apart : All (λ l. forbids_lock lock.exclusive lock.from lock.end l ≡ false) locks = All-find (forbids_lock lock.exclusive lock.from lock.end) locks free in
    record {
      ordered = AllPairs-insert_by (λ a b. lock_before b a ≡ false) lock_before lock locks (λ a e. lock_one_way lock a e) (λ a b e r. lock_behind lock a b e r) (λ k d l e. e) kept.ordered;
      filled = All-insert_by (λ a. a.from < a.end) lock_before lock locks filled kept.filled;
      apart = AllPairs-insert_any (λ a b. forbids_lock b.exclusive b.from b.end a ≡ false) lock_before lock locks
          (All-weaker (λ l. forbids_lock lock.exclusive lock.from lock.end l ≡ false) (λ l. forbids_lock l.exclusive l.from l.end lock ≡ false) (λ l f. forbids_back l lock f) locks apart)
          apart kept.apart;
    }

-- one lock less
pub AreLocks-remove_first : (test : RangeLock → Bool) (locks : List RangeLock) → AreLocks locks → AreLocks (remove_first test locks)
AreLocks-remove_first test locks kept = record {
  ordered = AllPairs-remove_first (λ a b. lock_before b a ≡ false) test locks kept.ordered;
  filled = All-remove_first (λ a. a.from < a.end) test locks kept.filled;
  apart = AllPairs-remove_first (λ a b. forbids_lock b.exclusive b.from b.end a ≡ false) test locks kept.apart;
}

-- some locks less
pub AreLocks-filter : (test : RangeLock → Bool) (locks : List RangeLock) → AreLocks locks → AreLocks (filter test locks)
AreLocks-filter test locks kept = record {
  ordered = AllPairs-filter (λ a b. lock_before b a ≡ false) test locks kept.ordered;
  filled = All-filter test (λ a. a.from < a.end) locks kept.filled;
  apart = AllPairs-filter (λ a b. forbids_lock b.exclusive b.from b.end a ≡ false) test locks kept.apart;
}

-- the lock that is found is the least
pub IsLeast-locks : (test : RangeLock → Bool) (locks : List RangeLock) (lock : Option RangeLock) → lock ≡ find test locks → AreLocks locks → IfSome lock (IsLeast lock_before test locks)
IsLeast-locks test locks lock e kept = rw e (found (find test locks) refl)
  where
    found : (l : Option RangeLock) → find test locks ≡ l → IfSome l (IsLeast lock_before test locks)
    found None f = tt
    found (Some l) f = IsLeast-find lock_before test locks l lock_same kept.ordered f
