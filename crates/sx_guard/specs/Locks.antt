-- What byte-range locks forbid.
use Rattle.std.specs.Prelude.{◌≡◌, ℕ, ◌<◌, ◌≤◌, min, max, Bool, false, not, ◌==◌, ◌&&◌, ◌||◌, nat_lt, Option, Some}
use Rattle.std.specs.Prelude.{None, List, All, AllPairs}
use Rattle.std.specs.Bool.{beq}
use Rattle.sx_guard.specs.Handle.{Handle, same_handle, handle_before}

-- a lock: the handle that holds it, its bytes from a place up to below an end, and its kind, exclusive or shared
pub record RangeLock : Type 0 where
  pub handle : Handle
  pub from : ℕ
  pub end : ℕ
  pub exclusive : Bool

-- whether a lock shares a byte with an interval; an empty interval has none to share
abbrev pub overlaps : ℕ → ℕ → RangeLock → Bool
overlaps from end lock = nat_lt (max from lock.from) (min end lock.end)

-- some byte is of an interval and of a lock
abbrev pub SharesByte : ℕ → ℕ → RangeLock → Type 0
SharesByte from end lock = (byte : ℕ) × (from ≤ byte) × (byte < end) × (lock.from ≤ byte) × (byte < lock.end)

-- whether a lock is held by a handle; a call that comes by no handle holds none
abbrev pub is_held_by : Option Handle → RangeLock → Bool
is_held_by None lock = false
is_held_by (Some handle) lock = same_handle handle lock.handle

-- whether a lock forbids a read: it is exclusive, and another's
abbrev pub forbids_read : Option Handle → ℕ → ℕ → RangeLock → Bool
forbids_read by from end lock = overlaps from end lock && lock.exclusive && not (is_held_by by lock)

-- whether a lock forbids a write: it is shared, or another's
abbrev pub forbids_write : Option Handle → ℕ → ℕ → RangeLock → Bool
forbids_write by from end lock = overlaps from end lock && (not lock.exclusive || not (is_held_by by lock))

-- whether a lock forbids a new lock, whoever holds it: one of the two is exclusive
abbrev pub forbids_lock : Bool → ℕ → ℕ → RangeLock → Bool
forbids_lock exclusive from end lock = overlaps from end lock && (exclusive || lock.exclusive)

-- whether a lock is a handle's on exactly this interval and of this kind
abbrev pub is_lock : Handle → ℕ → ℕ → Bool → RangeLock → Bool
is_lock by from end exclusive lock =
    same_handle by lock.handle && from == lock.from && end == lock.end && beq exclusive lock.exclusive

-- whether a lock comes before another: by handle, then by start, then by end
abbrev pub lock_before : RangeLock → RangeLock → Bool
lock_before a b = handle_before a.handle b.handle
    || (same_handle a.handle b.handle && (nat_lt a.from b.from || (a.from == b.from && nat_lt a.end b.end)))

-- the locks stand in their order, each has a byte, and no exclusive one shares a byte with another
pub record AreLocks (locks : List RangeLock) : Type 0 where
  pub ordered : AllPairs (λ a b. lock_before b a ≡ false) locks
  pub filled : All (λ a. a.from < a.end) locks
  pub apart : AllPairs (λ a b. forbids_lock b.exclusive b.from b.end a ≡ false) locks
