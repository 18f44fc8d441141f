-- What an account is: its sessions, its shares with their trees, its open handles and its locks.
use Rattle.std.specs.Prelude.{ℕ, ◌==◌, bytes_eq, Bool, List, [], Option, option_map, option_and_then, unwrap_or, find}
use Rattle.std.specs.Prelude.{filter}
use Rattle.std.specs.List.{list_any}
use Rattle.sx_base.specs.Entries.{value_at}
use Rattle.sx_guard.specs.Handle.{same_handle}
use Rattle.sx_guard.specs.Handle.{Handle}
use Rattle.sx_call.specs.declared.opens.Live.{Live}
use Rattle.sx_call.specs.declared.opens.Lock.{Lock}
use Rattle.sx_call.specs.declared.opens.Open.{Open}
use Rattle.sx_tree.specs.Tree.{Slot, slot_at}
use Rattle.sx_tree.specs.declared.share.Share.{Share}

-- All that a call can change: how many sessions were started and which are live; the next file id; how many shares were
-- made,
-- and those that stand by the numbers under which they were made; the opens in order of handle; the locks in order of
-- node,
-- then handle, start and end.
pub record Store : Type 0 where
  pub started : ℕ
  pub sessions : List Live
  pub next_id : ℕ
  pub made : ℕ
  pub shares : List (ℕ × Share)
  pub opens : List Open
  pub locks : List Lock

-- An account: how many entries came, refused ones too, and the store that they left.
pub record Account : Type 0 where
  pub came : ℕ
  pub store : Store

-- the account before any entry
abbrev pub empty : Account
empty = record {
  came = 0;
  store = record { started = 0; sessions = []; next_id = 1; made = 0; shares = []; opens = []; locks = [] };
}

-- Sessions.

-- whether a session is the one of a number
abbrev pub is_session : ℕ → Live → Bool
is_session session l = l.session == session

-- the live session of a number
abbrev pub session_of : Store → ℕ → Option Live
session_of s session = find (is_session session) s.sessions

-- how many opens a session was granted so far, none where it isn't live
abbrev pub granted_to : Store → ℕ → ℕ
granted_to s session = unwrap_or (option_map (λ l. l.granted) (session_of s session)) 0

-- the address of a session's peer, 0 where it isn't live
abbrev pub peer_of : Store → ℕ → ℕ
peer_of s session = unwrap_or (option_map (λ l. l.peer) (session_of s session)) 0

-- Open handles.

-- whether an open is that of a handle
abbrev pub has_handle : Handle → Open → Bool
has_handle handle o = same_handle handle o.handle

-- whether a session holds an open
abbrev pub is_held_by : ℕ → Open → Bool
is_held_by session o = o.handle.session == session

-- whether an open is on the node of an id
abbrev pub is_on : ℕ → Open → Bool
is_on id o = o.node == id

-- whether an open is in the share of a number
abbrev pub is_in_share : ℕ → Open → Bool
is_in_share number o = o.share == number

-- the open of a handle
abbrev pub open_of : Store → Handle → Option Open
open_of s handle = find (has_handle handle) s.opens

-- the opens of a node, in order of handle
abbrev pub opens_on : Store → ℕ → List Open
opens_on s id = filter (is_on id) s.opens

-- whether a node has an open
abbrev pub is_opened : Store → ℕ → Bool
is_opened s id = list_any (is_on id) s.opens

-- Shares.

-- whether a share has a name
abbrev pub has_name : List ℕ → ℕ × Share → Bool
has_name name x = bytes_eq x.1.name name

-- the share of a name, with its number
abbrev pub share_named : Store → List ℕ → Option (ℕ × Share)
share_named s name = find (has_name name) s.shares

-- the slot of the node on which an open stands
abbrev pub slot_of_open : Store → Open → Option Slot
slot_of_open s o = option_and_then (λ x. slot_at x.tree o.node) (value_at s.shares o.share)
