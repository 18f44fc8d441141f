-- The calls of sessions, each at its place: what it is checked for, the store that it leaves and its reply.
use Rattle.std.specs.Prelude.{ℕ, ◌+◌, ◌==◌, Bool, true, false, if◌then◌else◌, nat_le, List, [], length, filter}
use Rattle.std.specs.Prelude.{None, Result, Ok}
use Rattle.sx_extent.specs.Ranges.{cut}
use Rattle.sx_guard.specs.declared.access.Access.{Access}
use Rattle.sx_guard.specs.declared.access.Mode.{Mode}
use Rattle.sx_lease.specs.declared.lease.LeaseState.{LeaseState}
use Rattle.sx_lease.specs.declared.lease.LeaseState.TheVariants.{Available}
use Rattle.sx_names.specs.declared.attributes.Attributes.{Attributes}
use Rattle.sx_names.specs.declared.content.Content.{Content}
use Rattle.sx_call.specs.declared.calls.Call.{Call}
use Rattle.sx_call.specs.declared.opens.How.{How}
use Rattle.sx_call.specs.declared.opens.How.TheVariants.{Existing, Create, Either}
use Rattle.sx_call.specs.declared.opens.Lock.{Lock}
use Rattle.sx_call.specs.declared.opens.Open.{Open}
use Rattle.sx_call.specs.declared.refusals.Refusal.{Refusal}
use Rattle.sx_call.specs.declared.replies.Reply.{Reply}
use Rattle.sx_call.specs.declared.replies.Reply.TheVariants.{Smb}
use Rattle.sx_call.specs.declared.replies.SmbReply.TheVariants.{Started, Ended, Opened, Closed, Bytes, Wrote, Resized}
use Rattle.sx_call.specs.declared.replies.SmbReply.TheVariants.{Locked, Unlocked, Stats, Names, Disposed}
use Rattle.sx_call.specs.declared.shown.Stamp.{Stamp}
use Rattle.sx_tree.specs.declared.node.Node.{Node}
use Rattle.sx_tree.specs.declared.node.Kind.TheVariants.{Directory, File}
use Rattle.sx_tree.specs.Node.{is_directory, directory_attributes}
use Rattle.sx_spec.specs.Facts.{with_stamp, with_write, new_facts}
use Rattle.sx_tree.specs.Tree.{Nodes}
use Rattle.sx_spec.specs.Facts.{length_of, new_file}
use Rattle.sx_tree.specs.Node.{kind_length}
use Rattle.sx_tree.specs.Body.{with_ranges, write_within, resize_within}
use Rattle.sx_tree.specs.Pages.{names_page}
use Rattle.sx_spec.specs.declared.checks.Checks.{Checks}
use Rattle.sx_spec.specs.declared.checks.Limit.TheVariants.{TooManyOpens}
use Rattle.sx_spec.specs.declared.checks.OpenAsk.TheVariants.{Beside}
use Rattle.sx_spec.specs.declared.checks.LockAsk.TheVariants.{NewLock, OldLock}
use Rattle.sx_spec.specs.declared.checks.LeaseAsk.TheVariants.{Unleased}
use Rattle.sx_spec.specs.Account.{Store, granted_to, is_held_by, opens_on}
use Rattle.sx_spec.specs.Places.{◌>>=◌, Volume, HandlePlace, HeldFile, Spot, Taken, Free, volume_at, spot_at, may_make}
use Rattle.sx_spec.specs.Places.{node_in, free_in, of_kind, not_pending}
use Rattle.sx_spec.specs.Checks.{asks_nothing, unchecked, refuse_if, read_only_check, held_checks}
use Rattle.sx_spec.specs.Changes.{Act, make_node, put_file, put_open, change_open, put_lock, take_lock, put_session}
use Rattle.sx_spec.specs.Changes.{take_session, close, close_all, close_fate}
use Rattle.sx_spec.specs.ShareCalls.{reading}
use Rattle.sx_spec.specs.FileCalls.{new_node}

-- Starting and ending.

-- Start
abbrev pub start : Store → ℕ → ℕ → Act
start s who peer = record { checks = unchecked; store = put_session who peer s; reply = Smb (Started (s.started + 1)) }

-- End: the session's handles are closed in order of handle
abbrev pub end_session : Store → ℕ → Act
end_session s session =
    let opens = filter (is_held_by session) s.opens in
    record { checks = unchecked; store = take_session session (close_all opens s); reply = Smb (Ended (length opens)) }

-- Opening.

-- the spot that an open wants: a node that is there, a name that is free and may be made, or either
abbrev pub spot_for : How → Nodes → Spot → Result Spot Refusal
spot_for Existing t spot = do
  node ← node_in spot
  Ok (Taken node)
spot_for Create t spot = do
  makes ← may_make t spot
  free ← free_in makes
  Ok (Free free.0 free.1)
spot_for Either t spot = may_make t spot

-- the attributes of a file that a session makes: Archive
abbrev pub file_attributes : Attributes
file_attributes = record directory_attributes { archive = true; directory = false }

-- no content header
abbrev pub no_content : Content
no_content =
    record { kind = None; encoding = None; language = None; cache_control = None; disposition = None; md5 = None }

-- the directory or empty file that an open makes
abbrev pub empty_node : Store → Stamp → Bool → ℕ → Node
empty_node s now dir parent =
    if dir then new_node s parent (new_facts now directory_attributes None None []) Directory
    else new_node s parent (new_facts now file_attributes None None []) (File (new_file 0 no_content))

-- the open that a session is granted next, on a node of a share
abbrev pub new_open : Store → Stamp → ℕ → ℕ → ℕ → Access → Mode → Bool → Open
new_open s now session number node access mode on_close = record {
  handle = record { session = session; index = granted_to s session + 1 };
  share = number;
  node = node;
  access = access;
  mode = mode;
  on_close = on_close;
  at = now.changed;
}

-- the reply to an open, and whether it made the node
abbrev pub open_reply : Open → Bool → Node → Reply
open_reply o made node = Smb (Opened o.handle.index made node.id (kind_length node.kind))

-- the lease of a file; a directory has none that is held
abbrev pub lease_of : Node → LeaseState
lease_of node = if is_directory node.kind then Available else node.facts.lease

-- the most opens of a node
abbrev pub most_opens : ℕ
most_opens = 2000

-- what an open of a node that is there is checked for
abbrev pub open_checks : Store → Call → Node → Access → Mode → Checks
open_checks s call node access mode = record unchecked {
  read_only = read_only_check call node;
  asks = record asks_nothing { lease = Unleased (lease_of node) access; opens = Beside node.id access mode };
  limits = refuse_if (nat_le most_opens (length (opens_on s node.id))) (TooManyOpens (length (opens_on s node.id)));
}

-- an open of a node that is there
abbrev pub open_node : Store → Call → Node → Open → Act
open_node s call node o = record {
  checks = open_checks s call node o.access o.mode;
  store = put_open o s;
  reply = open_reply o false node;
}

-- an open that makes its node
abbrev pub open_made : Store → Volume → List ℕ → Node → Open → Act
open_made s volume name node o = record {
  checks = unchecked;
  store = put_open o (make_node volume.number name node s);
  reply = open_reply o true node;
}

-- an open in a spot: of a node of the kind that is asked for, which isn't pending, or of one that it makes
abbrev pub open_spot : Store → Stamp → ℕ → Call → Access → Mode → Bool → Bool → Volume → Spot → Result Act Refusal
open_spot s now session call access mode dir on_close volume (Taken node) = do
  kind ← of_kind dir node
  standing ← not_pending None node
  Ok (open_node s call node (new_open s now session volume.number node.id access mode on_close))
open_spot s now session call access mode dir on_close volume (Free parent name) =
    Ok (open_made s volume name (empty_node s now dir parent)
    (new_open s now session volume.number s.next_id access mode on_close))

-- Open
abbrev pub smb_open : Store → Stamp → ℕ → Call → List ℕ → List (List ℕ) → Access → Mode → How → Bool → Bool
    → Result Act Refusal
smb_open s now session call share path access mode how dir on_close = do
  volume ← volume_at s share None
  spot ← spot_at volume.tree path
  wanted ← spot_for how volume.tree spot
  open_spot s now session call access mode dir on_close volume wanted

-- Close
abbrev pub smb_close : Store → HandlePlace → Act
smb_close s p = record { checks = unchecked; store = close p.held s; reply = Smb (Closed (close_fate p.held s)) }

-- Bytes.

-- Read: nothing at or past the end
abbrev pub smb_read : Store → Call → ℕ → ℕ → HeldFile → Act
smb_read s call at count p = reading s (held_checks call p) (Smb (Bytes (cut p.body.ranges at (at + count))))

-- Write: past the end it lengthens the file first
abbrev pub smb_write : Store → Stamp → Call → ℕ → List ℕ → HeldFile → Act
smb_write s now call at piece p = record {
  checks = held_checks call p;
  store = put_file p.volume.number p.node.id (with_ranges (write_within at piece)) (with_write now) s;
  reply = Smb (Wrote (length piece) (length_of (with_ranges (write_within at piece) p.body)));
}

-- Resize: it sets the stamp, and the last write time where the length changes
abbrev pub smb_resize : Store → Stamp → Call → ℕ → HeldFile → Act
smb_resize s now call bytes p = record {
  checks = held_checks call p;
  store = put_file p.volume.number p.node.id (with_ranges (resize_within bytes))
      (if bytes == length_of p.body then with_stamp now else with_write now) s;
  reply = Smb (Resized bytes);
}

-- Locks.

-- a lock of a handle on its file
abbrev pub lock_of : HeldFile → ℕ → ℕ → Bool → Lock
lock_of p from end exclusive = record {
  node = p.node.id;
  held = record { handle = p.held.handle; from = from; end = end; exclusive = exclusive };
}

-- Lock: no lock meets it, one of its own handle neither
abbrev pub smb_lock : Store → ℕ → ℕ → Bool → HeldFile → Act
smb_lock s from end exclusive p = record {
  checks = record unchecked { asks = record asks_nothing { locks = NewLock p.node.id from end exclusive } };
  store = put_lock (lock_of p from end exclusive) s;
  reply = Smb Locked;
}

-- Unlock: this very lock is held
abbrev pub smb_unlock : Store → ℕ → ℕ → Bool → HeldFile → Act
smb_unlock s from end exclusive p = record {
  checks = record unchecked { asks = record asks_nothing { locks = OldLock (lock_of p from end exclusive) } };
  store = take_lock (lock_of p from end exclusive) s;
  reply = Smb Unlocked;
}

-- The rest.

-- Stat
abbrev pub smb_stat : Store → HandlePlace → Act
smb_stat s p = reading s unchecked
    (Smb (Stats p.node.id (is_directory p.node.kind) (kind_length p.node.kind) p.node.facts.attributes
    p.node.facts.created p.node.facts.written p.node.facts.changed))

-- List: the page of a directory
abbrev pub smb_list : Store → List ℕ → ℕ → HandlePlace → Act
smb_list s marker max p = reading s unchecked (Smb (Names (names_page p.volume.tree p.node.id [] marker max)))

-- an open with its mark for delete on close set or taken off
abbrev pub with_mark : Bool → Open → Open
with_mark on o = record o { on_close = on }

-- Dispose: the open's mark for delete on close
abbrev pub smb_dispose : Store → Call → Bool → HandlePlace → Act
smb_dispose s call on p = record {
  checks = record unchecked { read_only = read_only_check call p.node };
  store = change_open p.held.handle (with_mark on) s;
  reply = Smb Disposed;
}
