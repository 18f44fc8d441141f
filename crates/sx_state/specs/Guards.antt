-- The orders in which the account's opens and locks stand, and the node whose locks a call asks about.
use Rattle.std.specs.Prelude.{◌≡◌, ℕ, ◌==◌, ◌&&◌, ◌||◌, nat_lt, Bool, true, false, List, AllPairs}
use Rattle.sx_guard.specs.Handle.{Handle, same_handle, handle_before}
use Rattle.sx_guard.specs.declared.sharing.Opened.{Opened}
use Rattle.sx_guard.specs.Parts.{part_of}
use Rattle.sx_call.specs.declared.opens.Lock.{Lock}
use Rattle.sx_call.specs.declared.opens.Open.{Open}
use Rattle.sx_spec.specs.declared.checks.LockAsk.{LockAsk}
use Rattle.sx_spec.specs.declared.checks.LockAsk.TheVariants.{AnyLocks, Touching, NewLock, OldLock}
use Rattle.sx_spec.specs.Account.{is_on}
use Rattle.sx_spec.specs.Changes.{comes_before, open_before}
use Rattle.sx_state.specs.declared.by_node.OnNode.{OnNode}

-- Locks.

-- the locks stand in order of node, handle, start and end
abbrev pub AreLocks : List Lock → Type 0
AreLocks locks = AllPairs (λ a b. comes_before b a ≡ false) locks

-- whether a lock is on the node of an id
abbrev pub is_lock_on : ℕ → Lock → Bool
is_lock_on id l = l.node == id

-- the id of the node whose locks a call asks about, 0 where it asks about none
abbrev pub asked_node : LockAsk → ℕ
asked_node AnyLocks = 0
asked_node (Touching id by touch) = id
asked_node (NewLock id from end exclusive) = id
asked_node (OldLock old) = old.node

-- Opens.

-- the opens stand in order of handle, each handle once
abbrev pub AreOpens : List Open → Type 0
AreOpens opens = AllPairs (λ o q. open_before o q ≡ true) opens

-- an open as the share modes of its node see it
abbrev pub opened_of : Open → Opened
opened_of o = record { handle = o.handle; access = o.access; mode = o.mode }

-- an open as it stands among those of its node
abbrev pub on_node : Open → OnNode
on_node o = record { node = o.node; opened = opened_of o }

-- whether an open is on the node of an id
abbrev pub is_at : ℕ → OnNode → Bool
is_at id e = e.node == id

-- whether an open is on the node of an id, and that of a handle
abbrev pub is_at_of : ℕ → Handle → OnNode → Bool
is_at_of id handle e = e.node == id && same_handle handle e.opened.handle

-- whether an open comes before the one of a handle on a node: by node, then handle
abbrev pub is_before : ℕ → Handle → OnNode → Bool
is_before id handle e = nat_lt e.node id || (e.node == id && handle_before e.opened.handle handle)

-- whether an open comes before another, by node, then handle
abbrev pub node_before : OnNode → OnNode → Bool
node_before a b = is_before b.node b.opened.handle a

-- the opens stand in order of node and handle, each once
abbrev pub AreByNode : List OnNode → Type 0
AreByNode nodes = AllPairs (λ a b. node_before a b ≡ true) nodes

-- the opens in order of handle, and the same by node: those of each node are the same in both
pub record AreGuards (opens : List Open) (nodes : List OnNode) : Type 0 where
  pub ordered : AreOpens opens
  pub by_node : AreByNode nodes
  pub same : (id : ℕ) → part_of (is_at id) (λ e. e.opened) nodes ≡ part_of (is_on id) opened_of opens
