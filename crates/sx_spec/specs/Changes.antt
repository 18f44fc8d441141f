-- The changes of a store of which all calls are made.
use Rattle.std.specs.Prelude.{ℕ, ◌+◌, ◌==◌, ◌&&◌, ◌||◌, Bool, true, false, not, List, [], ◌∷◌, ◌++◌, length, filter}
use Rattle.std.specs.Prelude.{Option, Some, None, nat_lt}
use Rattle.std.specs.Ordering.{nat_cmp}
use Rattle.std.specs.BTreeMap.{is_at, insert_entry}
use Rattle.std.specs.Map.{remove_entry}
use Rattle.sx_base.specs.Entries.{change, change_at}
use Rattle.sx_guard.specs.Handle.{same_handle, handle_before}
use Rattle.sx_guard.specs.Locks.{lock_before}
use Rattle.sx_guard.specs.Ordered.{insert_by, remove_first}
use Rattle.sx_guard.specs.Handle.{Handle}
use Rattle.sx_call.specs.declared.opens.Live.{Live}
use Rattle.sx_call.specs.declared.opens.Lock.{Lock}
use Rattle.sx_call.specs.declared.opens.Open.{Open}
use Rattle.sx_call.specs.declared.replies.Fate.{Fate}
use Rattle.sx_call.specs.declared.replies.Reply.{Reply}
use Rattle.sx_tree.specs.declared.node.Node.{Node}
use Rattle.sx_tree.specs.declared.node.Facts.{Facts}
use Rattle.sx_tree.specs.declared.node.FileBody.{FileBody}
use Rattle.sx_tree.specs.Node.{is_directory}
use Rattle.sx_tree.specs.Tree.{Nodes, Slot, with_node}
use Rattle.sx_spec.specs.Trees.{with_facts, with_file, change_node, settle, fate_of}
use Rattle.sx_tree.specs.declared.share.Share.{Share}
use Rattle.sx_spec.specs.declared.checks.Checks.{Checks}
use Rattle.sx_spec.specs.Account.{Store, is_session, is_opened, slot_of_open}
use Rattle.sx_spec.specs.Checks.{same_lock}

-- What a call is at its place: what it is checked for, the store that it leaves where no check refuses, and its reply
-- there.
pub record Act : Type 0 where
  pub checks : Checks
  pub store : Store
  pub reply : Reply

-- Shares and their trees.

-- the share of a number changed
abbrev pub change_share : ℕ → (Share → Share) → Store → Store
change_share number f s = record s { shares = change_at number f s.shares }

-- the tree of the share of a number changed
abbrev pub change_tree : ℕ → (Nodes → Nodes) → Store → Store
change_tree number f = change_share number (λ x. record x { tree = f x.tree })

-- one more share, of the next number; its root takes the next file id
unfoldable pub add_share : Share → Store → Store
add_share x s = record s {
  next_id = s.next_id + 1;
  made = s.made + 1;
  shares = insert_entry nat_cmp s.shares (s.made + 1) x;
}

-- without the share of a number
unfoldable pub drop_share : ℕ → Store → Store
drop_share number s = record s { shares = remove_entry (is_at (nat_cmp number)) s.shares }

-- one more node, under a name, of the next file id
unfoldable pub make_node : ℕ → List ℕ → Node → Store → Store
make_node number name node s =
    record (change_tree number (λ t. with_node t node.parent name node) s) { next_id = s.next_id + 1 }

-- the facts of a node changed
unfoldable pub put_facts : ℕ → ℕ → (Facts → Facts) → Store → Store
put_facts number id f = change_tree number (change_node id (with_facts f))

-- the body and the facts of a file changed
unfoldable pub put_file : ℕ → ℕ → (FileBody → FileBody) → (Facts → Facts) → Store → Store
put_file number id g f = change_tree number (change_node id (with_file g f))

-- a node deleted: it goes where nothing is open on it, and else is pending
unfoldable pub delete_at : ℕ → ℕ → Store → Store
delete_at number id s = change_tree number (settle (fate_of true (is_opened s id)) id) s

-- Opens and locks.

-- a session with one more open granted
abbrev pub grant : Live → Live
grant l = record l { granted = l.granted + 1 }

-- whether an open comes before another, by their handles
abbrev pub open_before : Open → Open → Bool
open_before a b = handle_before a.handle b.handle

-- one more open at its place in the order; its session is granted it
unfoldable pub put_open : Open → Store → Store
put_open o s = record s {
  sessions = change (is_session o.handle.session) grant s.sessions;
  opens = insert_by open_before o s.opens;
}

-- without the open of a handle and its locks
unfoldable pub take_open : Handle → Store → Store
take_open handle s = record s {
  opens = filter (λ o. not (same_handle handle o.handle)) s.opens;
  locks = filter (λ l. not (same_handle handle l.held.handle)) s.locks;
}

-- whether a lock comes before another: by node, then handle, start and end
abbrev pub comes_before : Lock → Lock → Bool
comes_before a b = nat_lt a.node b.node || (a.node == b.node && lock_before a.held b.held)

-- one more lock at its place in the order
unfoldable pub put_lock : Lock → Store → Store
put_lock l s = record s { locks = insert_by comes_before l s.locks }

-- without one lock
unfoldable pub take_lock : Lock → Store → Store
take_lock l s = record s { locks = remove_first (same_lock l) s.locks }

-- the open of a handle changed
unfoldable pub change_open : Handle → (Open → Open) → Store → Store
change_open handle f s = record s { opens = change (λ o. same_handle handle o.handle) f s.opens }

-- Closing.

-- whether the node of an open is to go with its last open: it is pending, or the open is marked for delete on close and
-- the node
-- is a file or an empty directory
abbrev pub goes_at_close : Bool → Option Slot → Bool
goes_at_close on_close None = false
goes_at_close on_close (Some x) =
    x.node.facts.pending || (on_close && (not (is_directory x.node.kind) || length x.below == 0))

-- what becomes of an open's node when it is closed: it goes with its last open, and until then is pending
unfoldable pub close_fate : Open → Store → Fate
close_fate o s = fate_of (goes_at_close o.on_close (slot_of_open s o)) (is_opened (take_open o.handle s) o.node)

-- an open closed
unfoldable pub close : Open → Store → Store
close o s = change_tree o.share (settle (close_fate o s) o.node) (take_open o.handle s)

-- opens closed one after another
unfoldable pub close_all : List Open → Store → Store
close_all [] s = s
close_all (o ∷ os) s = close_all os (close o s)

-- Sessions.

-- one more session, of the next number, started by a caller from an address
unfoldable pub put_session : ℕ → ℕ → Store → Store
put_session who peer s = record s {
  started = s.started + 1;
  sessions = s.sessions ++ record { session = s.started + 1; who = who; peer = peer; granted = 0 } ∷ [];
}

-- without a session
unfoldable pub take_session : ℕ → Store → Store
take_session session s = record s { sessions = filter (λ l. not (is_session session l)) s.sessions }
