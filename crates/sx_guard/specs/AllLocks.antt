-- The byte-range locks of all files in one list, each with the node of its file.
use Rattle.std.specs.Prelude.{ℕ, ◌==◌, ◌&&◌, ◌||◌, nat_lt, Bool, List, [], ◌∷◌, ◌++◌, map, unwrap_or}
use Rattle.std.specs.BTreeMap.{is_at}
use Rattle.std.specs.Map.{lookup}
use Rattle.std.specs.Ordering.{nat_cmp}
use Rattle.sx_guard.specs.Locks.{RangeLock, lock_before}
use Rattle.sx_guard.specs.Parts.{part_of}

-- a lock, and the node on which it is held
pub record NodeLock : Type 0 where
  pub node : ℕ
  pub lock : RangeLock

-- a lock on a node
abbrev pub lock_on : ℕ → RangeLock → NodeLock
lock_on node lock = record { node = node; lock = lock }

-- whether a lock is held on a node
abbrev pub is_on : ℕ → NodeLock → Bool
is_on node l = node == l.node

-- whether a lock is held on a node and passes a test
abbrev pub is_on_and : ℕ → (RangeLock → Bool) → NodeLock → Bool
is_on_and node test l = is_on node l && test l.lock

-- whether a lock comes before another: by node, then as the locks of one file do
abbrev pub node_lock_before : NodeLock → NodeLock → Bool
node_lock_before a b = nat_lt a.node b.node || (a.node == b.node && lock_before a.lock b.lock)

-- the locks of a node among all
abbrev pub locks_on : ℕ → List NodeLock → List RangeLock
locks_on node all = part_of (is_on node) (λ l. l.lock) all

-- the locks of a node in a map from nodes to their locks
abbrev pub locks_at : ℕ → List (ℕ × List RangeLock) → List RangeLock
locks_at node entries = unwrap_or (lookup (is_at (nat_cmp node)) entries) []

-- all locks of such a map, node by node
abbrev pub all_locks : List (ℕ × List RangeLock) → List NodeLock
all_locks [] = []
all_locks (e ∷ es) = map (lock_on e.0) e.1 ++ all_locks es
