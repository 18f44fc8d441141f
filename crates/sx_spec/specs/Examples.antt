-- Entries and replies in short words, for worked examples: one caller, one share, one moment.
use Rattle.std.specs.Prelude.{ℕ, Bool, true, false, List, [], ◌∷◌, codes, Option, Some, None}
use Rattle.sx_guard.specs.declared.access.Access.{Access}
use Rattle.sx_guard.specs.declared.access.Mode.{Mode}
use Rattle.sx_guard.specs.Handle.{Handle}
use Rattle.sx_lease.specs.declared.lease.LeaseId.{LeaseId}
use Rattle.sx_call.specs.declared.calls.Call.{Call}
use Rattle.sx_call.specs.declared.calls.Call.TheVariants as call
use Rattle.sx_call.specs.declared.entries.Entry.{Entry}
use Rattle.sx_call.specs.declared.leases.LeaseAction.{LeaseAction}
use Rattle.sx_call.specs.declared.leases.LeaseShown.TheVariants.{Available}
use Rattle.sx_call.specs.declared.opens.How.{How}
use Rattle.sx_call.specs.declared.refusals.Refusal.TheVariants as refusal
use Rattle.sx_call.specs.declared.replies.Reply.{Reply}
use Rattle.sx_call.specs.declared.replies.Reply.TheVariants as reply
use Rattle.sx_call.specs.declared.replies.SmbReply.TheVariants as answer
use Rattle.sx_call.specs.declared.shown.Shown.{Shown}
use Rattle.sx_call.specs.declared.shown.Stamp.{Stamp}
use Rattle.sx_call.specs.declared.targets.Target.{Target}
use Rattle.sx_call.specs.declared.times.Time.TheVariants.{Keep}
use Rattle.sx_call.specs.Ranges.{BytesFrom}
use Rattle.sx_tree.specs.Node.{directory_attributes}
use Rattle.sx_spec.specs.Account.{Account}
use Rattle.sx_spec.specs.SessionCalls.{file_attributes, no_content}
use Rattle.sx_spec.specs.Step.{step}

-- the reply that a step gave, and those that come behind it
abbrev pub reply_and_more : (Account → List Reply) → Account × Reply → List Reply
reply_and_more more done = done.1 ∷ more done.0

-- what entries are answered, one after another, from an account on
abbrev pub replies_from : Account → List Entry → List Reply
replies_from a [] = []
replies_from a (e ∷ es) = reply_and_more (λ after. replies_from after es) (step a e)

-- Names.

-- the share of the examples
abbrev pub share_name : List ℕ
share_name = codes "data"

-- what a path leads to in that share
abbrev pub in_share : List (List ℕ) → Target
in_share path = record { share = share_name; path = path }

-- a file in the root; the names are capitals, which stand at the front of the table of foldings
abbrev pub file_a : List (List ℕ)
file_a = codes "A" ∷ []

-- another file in the root
abbrev pub file_b : List (List ℕ)
file_b = codes "B" ∷ []

-- a directory in the root
abbrev pub directory_d : List (List ℕ)
directory_d = codes "D" ∷ []

-- a file in that directory
abbrev pub file_in_d : List (List ℕ)
file_in_d = codes "D" ∷ codes "A" ∷ []

-- a name of one letter, a sharp s in UTF-8
abbrev pub sharp_s : List (List ℕ)
sharp_s = (0xc3 ∷ 0x9f ∷ []) ∷ []

-- the name that is a sharp s in capitals
abbrev pub double_s : List (List ℕ)
double_s = codes "SS" ∷ []

-- Rights.

-- the rights to read and to write
abbrev pub to_read_and_write : Access
to_read_and_write = record { read = true; write = true; delete = false }

-- the rights to read and to delete
abbrev pub to_read_and_delete : Access
to_read_and_delete = record { read = true; write = false; delete = true }

-- a mode that leaves others the right to read alone
abbrev pub reading_shared : Mode
reading_shared = record { read = true; write = false; delete = false }

-- a mode that leaves others the right to write alone
abbrev pub writing_shared : Mode
writing_shared = record { read = false; write = true; delete = false }

-- Entries.

-- 2022-01-01T00:00:00.0000000Z, the moment of each entry
abbrev pub new_year : ℕ
new_year = 16409952000000000

-- a call in the session of a number, 0 for none
abbrev pub in_session : ℕ → Call → Entry
in_session session call = record { who = 0; session = session; at = new_year; fresh = 0; call = call }

-- Create Share, with a quota of so many GiB
abbrev pub make_share : ℕ → Entry
make_share quota = in_session 0 (call.CreateShare (record { share = share_name; quota = quota; meta = [] }))

-- Set Share Properties
abbrev pub set_quota : ℕ → Entry
set_quota quota = in_session 0 (call.SetShareProperties (record { share = share_name; quota = quota; lease = None }))

-- Snapshot Share
abbrev pub make_snapshot : Entry
make_snapshot = in_session 0 (call.SnapshotShare (record { share = share_name; meta = [] }))

-- Delete Share, without its snapshots or with them
abbrev pub remove_share : Bool → Entry
remove_share include =
    in_session 0 (call.DeleteShare (record { share = share_name; include = include; lease = None }))

-- Create Directory
abbrev pub make_directory : List (List ℕ) → Entry
make_directory path = in_session 0 (call.CreateDirectory (record {
  at = in_share path;
  attributes = directory_attributes;
  created = None;
  written = None;
  meta = [];
}))

-- Delete Directory
abbrev pub remove_directory : List (List ℕ) → Entry
remove_directory path = in_session 0 (call.DeleteDirectory (record { at = in_share path }))

-- Create File of so many bytes
abbrev pub make_file : List (List ℕ) → ℕ → Entry
make_file path bytes = in_session 0 (call.CreateFile (record {
  at = in_share path;
  length = bytes;
  content = no_content;
  attributes = file_attributes;
  created = None;
  written = None;
  meta = [];
  lease = None;
}))

-- Set File Properties with a length
abbrev pub set_length : List (List ℕ) → ℕ → Entry
set_length path bytes = in_session 0 (call.SetFileProperties (record {
  at = in_share path;
  length = Some bytes;
  content = no_content;
  attributes = None;
  created = Keep;
  written = Keep;
  lease = None;
}))

-- Get File as it stands, the whole or some bytes
abbrev pub read_file : List (List ℕ) → Option BytesFrom → Entry
read_file path span = in_session 0 (call.GetFile (record {
  at = in_share path;
  span = span;
  scope = record { snap = None; lease = None };
}))

-- Get File as a snapshot keeps it
abbrev pub read_kept_file : List (List ℕ) → ℕ → Entry
read_kept_file path moment = in_session 0 (call.GetFile (record {
  at = in_share path;
  span = None;
  scope = record { snap = Some moment; lease = None };
}))

-- Get File Properties
abbrev pub read_properties : List (List ℕ) → Entry
read_properties path =
    in_session 0 (call.GetFileProperties (record { at = in_share path; scope = record { snap = None; lease = None } }))

-- Put Range with `update`, under a lease id or none
abbrev pub update_file : List (List ℕ) → ℕ → List ℕ → Option LeaseId → Entry
update_file path from piece lease = in_session 0 (call.UpdateRange (record {
  at = in_share path;
  update = record { from = from; piece = piece };
  lease = lease;
}))

-- Delete File
abbrev pub remove_file : List (List ℕ) → Entry
remove_file path = in_session 0 (call.DeleteFile (record { at = in_share path; lease = None }))

-- Lease File
abbrev pub lease_on : List (List ℕ) → LeaseAction → Entry
lease_on path action = in_session 0 (call.LeaseFile (record { at = in_share path; action = action }))

-- Force Close Handles: all, or one handle; of a file or directory, or of all that is below it too
abbrev pub force_close : List (List ℕ) → Option Handle → Bool → Entry
force_close path handle recursive =
    in_session 0 (call.ForceCloseHandles (record { at = in_share path; handle = handle; recursive = recursive }))

-- Start of a session by 127.0.0.1
abbrev pub start_session : Entry
start_session = in_session 0 (call.Start (record { peer = 2130706433 }))

-- Open of a file by a session
abbrev pub open_file : ℕ → List (List ℕ) → Access → Mode → How → Entry
open_file session path access mode how = in_session session (call.SmbOpen (record {
  share = share_name;
  path = path;
  access = record { access = access; on_close = false };
  mode = mode;
  how = how;
  dir = false;
}))

-- the same, marked for delete on close
abbrev pub open_to_remove : ℕ → List (List ℕ) → Access → Mode → How → Entry
open_to_remove session path access mode how = in_session session (call.SmbOpen (record {
  share = share_name;
  path = path;
  access = record { access = access; on_close = true };
  mode = mode;
  how = how;
  dir = false;
}))

-- Open of a directory by a session
abbrev pub open_directory : ℕ → List (List ℕ) → Access → Mode → How → Entry
open_directory session path access mode how = in_session session (call.SmbOpen (record {
  share = share_name;
  path = path;
  access = record { access = access; on_close = false };
  mode = mode;
  how = how;
  dir = true;
}))

-- Read of so many bytes
abbrev pub read_handle : ℕ → ℕ → ℕ → ℕ → Entry
read_handle session index at count =
    in_session session (call.SmbRead (record { index = index; range = record { at = at; count = count } }))

-- Write
abbrev pub write_handle : ℕ → ℕ → ℕ → List ℕ → Entry
write_handle session index at piece =
    in_session session (call.SmbWrite (record { index = index; write = record { at = at; piece = piece } }))

-- Lock of the bytes from a place up to below an end, exclusive or shared
abbrev pub lock_handle : ℕ → ℕ → ℕ → ℕ → Bool → Entry
lock_handle session index from end exclusive = in_session session (call.SmbLock (record {
  index = index;
  range = record { from = from; end = end };
  exclusive = exclusive;
}))

-- Unlock
abbrev pub unlock_handle : ℕ → ℕ → ℕ → ℕ → Bool → Entry
unlock_handle session index from end exclusive = in_session session (call.SmbUnlock (record {
  index = index;
  range = record { from = from; end = end };
  exclusive = exclusive;
}))

-- Close
abbrev pub close_handle : ℕ → ℕ → Entry
close_handle session index = in_session session (call.SmbClose (record { index = index }))

-- End
abbrev pub finish_session : ℕ → Entry
finish_session session = in_session session call.End

-- Replies.

-- the handle of a session and an index
abbrev pub handle_at : ℕ → ℕ → Handle
handle_at session index = record { session = session; index = index }

-- the stamp of what the entry at a place changed
abbrev pub stamp_at : ℕ → Stamp
stamp_at place = record { changed = new_year; etag = place }

-- done, and changed by the entry at a place
abbrev pub stamped : ℕ → ℕ → Reply
stamped status place = reply.Stamped status (stamp_at place)

-- what is shown of a file of an id in a directory
abbrev pub shown_file : ℕ → ℕ → Shown
shown_file id parent = record {
  attributes = file_attributes;
  created = new_year;
  written = new_year;
  changed = new_year;
  id = id;
  parent = parent;
}

-- what is shown of a directory of an id in a directory
abbrev pub shown_directory : ℕ → ℕ → Shown
shown_directory id parent = record (shown_file id parent) { attributes = directory_attributes }

-- a file was made, or made anew, by the entry at a place
abbrev pub file_made : ℕ → ℕ → ℕ → Reply
file_made place id parent = reply.Made 201 (stamp_at place) (shown_file id parent)

-- a directory was made by the entry at a place
abbrev pub directory_made : ℕ → ℕ → ℕ → Reply
directory_made place id parent = reply.Made 201 (stamp_at place) (shown_directory id parent)

-- the properties of a file in the root that were set by the entry at a place
abbrev pub properties_set : ℕ → ℕ → Reply
properties_set place id = reply.Made 200 (stamp_at place) (shown_file id 1)

-- the properties of a file in the root of so many bytes that the entry at a place changed last
abbrev pub properties : ℕ → ℕ → ℕ → Reply
properties place id bytes =
    reply.FileFacts (stamp_at place) bytes no_content (shown_file id 1) Available []

-- all bytes of a file in the root that the entry at a place changed last
abbrev pub whole_file : ℕ → ℕ → List ℕ → ℕ → Reply
whole_file place id view bytes = reply.FileBytes (stamp_at place)
    (record { from = 0; length = bytes; whole = true; view = view }) no_content (shown_file id 1) Available []

-- some bytes of a file in the root of so many bytes that the entry at a place changed last
abbrev pub part_of_file : ℕ → ℕ → ℕ → List ℕ → ℕ → Reply
part_of_file place id from view bytes = reply.FileBytes (stamp_at place)
    (record { from = from; length = bytes; whole = false; view = view }) no_content (shown_file id 1) Available []

-- a session was started
abbrev pub started : ℕ → Reply
started session = reply.Smb (answer.Started session)

-- a handle was opened, on a node that was made for it or not, of an id and so many bytes
abbrev pub opened : ℕ → Bool → ℕ → ℕ → Reply
opened index made id bytes = reply.Smb (answer.Opened index made id bytes)

-- an open forbids it
abbrev pub shared_by : ℕ → ℕ → Reply
shared_by session index = reply.Refused (refusal.Shared (handle_at session index))

-- a lock of a handle forbids it
abbrev pub locked_by : ℕ → ℕ → ℕ → ℕ → Bool → Reply
locked_by session index from end exclusive = reply.Refused (refusal.Locked (record {
  handle = handle_at session index;
  from = from;
  end = end;
  exclusive = exclusive;
}))

-- there is no such handle
abbrev pub no_handle : ℕ → ℕ → Reply
no_handle session index = reply.Refused (refusal.NoHandle (handle_at session index))
