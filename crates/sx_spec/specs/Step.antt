-- What an entry does to an account, and what it is answered.
use Rattle.std.specs.Prelude.{ℕ, ◌+◌, ◌-◌, List, [], ◌∷◌, take, slice_get, Option, Some, None, option_map, Result}
use Rattle.std.specs.Prelude.{Ok, Err}
use Rattle.sx_guard.specs.Handle.{Handle}
use Rattle.sx_call.specs.declared.calls.Call.{Call}
use Rattle.sx_call.specs.declared.calls.Call.TheVariants.{ListShares, CreateShare, GetShareProperties}
use Rattle.sx_call.specs.declared.calls.Call.TheVariants.{SetShareProperties, GetShareMetadata, SetShareMetadata}
use Rattle.sx_call.specs.declared.calls.Call.TheVariants.{DeleteShare, DeleteSnapshot, SnapshotShare, LeaseShare}
use Rattle.sx_call.specs.declared.calls.Call.TheVariants.{CreateDirectory, GetDirectoryProperties, GetDirectoryMetadata}
use Rattle.sx_call.specs.declared.calls.Call.TheVariants.{SetDirectoryMetadata, DeleteDirectory, ListDirectory}
use Rattle.sx_call.specs.declared.calls.Call.TheVariants.{CreateFile, GetFile, GetFileProperties, SetFileProperties}
use Rattle.sx_call.specs.declared.calls.Call.TheVariants.{GetFileMetadata, SetFileMetadata, UpdateRange, ClearRange}
use Rattle.sx_call.specs.declared.calls.Call.TheVariants.{ListRanges, DeleteFile, LeaseFile, ListHandles}
use Rattle.sx_call.specs.declared.calls.Call.TheVariants.{ForceCloseHandles, Start, End, SmbOpen, SmbClose, SmbRead}
use Rattle.sx_call.specs.declared.calls.Call.TheVariants.{SmbWrite, SmbResize, SmbLock, SmbUnlock, SmbStat, SmbList}
use Rattle.sx_call.specs.declared.calls.Call.TheVariants.{SmbDispose}
use Rattle.sx_call.specs.declared.entries.Entry.{Entry}
use Rattle.sx_call.specs.declared.entries.Noted.{Noted}
use Rattle.sx_call.specs.declared.refusals.Refusal.{Refusal}
use Rattle.sx_call.specs.declared.replies.Reply.{Reply}
use Rattle.sx_call.specs.declared.replies.Reply.TheVariants.{Refused}
use Rattle.sx_call.specs.declared.shown.Stamp.{Stamp}
use Rattle.sx_spec.specs.Facts.{new_file}
use Rattle.sx_spec.specs.Account.{Store, Account, empty}
use Rattle.sx_spec.specs.Needs.{access_needed}
use Rattle.sx_spec.specs.Places.{share_at, vacancy, volume_at, node_place, directory_place, file_place, handle_place}
use Rattle.sx_spec.specs.Places.{held_file, held_directory}
use Rattle.sx_spec.specs.Checks.{first_check}
use Rattle.sx_spec.specs.Changes.{Act}
use Rattle.sx_spec.specs.ShareCalls.{list_shares, create_share, get_share_properties, get_share_metadata}
use Rattle.sx_spec.specs.ShareCalls.{set_share_properties, set_share_metadata, delete_share, delete_snapshot}
use Rattle.sx_spec.specs.ShareCalls.{snapshot_share, lease_share}
use Rattle.sx_spec.specs.FileCalls.{create_directory, get_directory_properties, get_directory_metadata}
use Rattle.sx_spec.specs.FileCalls.{set_directory_metadata, delete_directory, list_directory, create_file, get_file}
use Rattle.sx_spec.specs.FileCalls.{get_file_properties, get_file_metadata, set_file_properties, set_file_metadata}
use Rattle.sx_spec.specs.FileCalls.{update_range, clear_range, list_ranges, delete_file, lease_file, list_handles}
use Rattle.sx_spec.specs.FileCalls.{force_close_handles}
use Rattle.sx_spec.specs.SessionCalls.{start, end_session, smb_open, smb_close, smb_read, smb_write, smb_resize}
use Rattle.sx_spec.specs.SessionCalls.{smb_lock, smb_unlock, smb_stat, smb_list, smb_dispose}

-- what a call is at the place that was found for it; where none was found that is its refusal
abbrev pub at_place : {P : Type 0} → Result P Refusal → (P → Act) → Result Act Refusal
at_place (Ok p) act = Ok (act p)
at_place (Err r) act = Err r

-- the handle of an index in the entry's session
abbrev pub handle_in : Entry → ℕ → Handle
handle_in e index = record { session = e.session; index = index }

-- THE CALLS: where each of them acts, and what it is there. `now` is the stamp that the entry gives: its moment and its
-- place.
abbrev pub act_of : Store → Stamp → Entry → Call → Result Act Refusal
act_of s now e (ListShares c) = Ok (list_shares s c.prefix c.marker c.max c.snapshots)
act_of s now e (CreateShare c) = at_place (vacancy s c.share) (λ number. create_share s now c.share c.quota c.meta)
act_of s now e (GetShareProperties c) = at_place (volume_at s c.share c.scope.snap) (get_share_properties s e.call)
act_of s now e (SetShareProperties c) = at_place (volume_at s c.share None) (set_share_properties s now e.call c.quota)
act_of s now e (GetShareMetadata c) = at_place (volume_at s c.share c.scope.snap) (get_share_metadata s e.call)
act_of s now e (SetShareMetadata c) = at_place (volume_at s c.share None) (set_share_metadata s now e.call c.meta)
act_of s now e (DeleteShare c) = at_place (share_at s c.share) (delete_share s e.call c.include)
act_of s now e (DeleteSnapshot c) = at_place (volume_at s c.share (Some c.moment)) (delete_snapshot s c.moment)
act_of s now e (SnapshotShare c) = at_place (share_at s c.share) (snapshot_share s now c.meta)
act_of s now e (LeaseShare c) = at_place (volume_at s c.share None) (lease_share s c.action e.fresh)
act_of s now e (CreateDirectory c) = create_directory s now c.at c.attributes c.created c.written c.meta
act_of s now e (GetDirectoryProperties c) = at_place (directory_place s c.at c.snap) (get_directory_properties s)
act_of s now e (GetDirectoryMetadata c) = at_place (directory_place s c.at c.snap) (get_directory_metadata s)
act_of s now e (SetDirectoryMetadata c) = at_place (directory_place s c.at None) (set_directory_metadata s now c.meta)
act_of s now e (DeleteDirectory c) = at_place (directory_place s c.at None) (delete_directory s e.call)
act_of s now e (ListDirectory c) = at_place (directory_place s c.at c.snap) (list_directory s c.prefix c.marker c.max)
act_of s now e (CreateFile c) =
    create_file s now e.call c.at (new_file c.length c.content) c.attributes c.created c.written c.meta
act_of s now e (GetFile c) = at_place (file_place s c.at c.scope.snap) (get_file s e.call c.span)
act_of s now e (GetFileProperties c) = at_place (file_place s c.at c.scope.snap) (get_file_properties s e.call)
act_of s now e (SetFileProperties c) =
    at_place (file_place s c.at None)
    (set_file_properties s now e.call c.length c.content c.attributes c.created c.written)
act_of s now e (GetFileMetadata c) = at_place (file_place s c.at c.scope.snap) (get_file_metadata s e.call)
act_of s now e (SetFileMetadata c) = at_place (file_place s c.at None) (set_file_metadata s now e.call c.meta)
act_of s now e (UpdateRange c) =
    at_place (file_place s c.at None) (update_range s now e.call c.update.from c.update.piece)
act_of s now e (ClearRange c) = at_place (file_place s c.at None) (clear_range s now e.call c.range.from c.range.end)
act_of s now e (ListRanges c) = at_place (file_place s c.at c.scope.snap) (list_ranges s e.call c.span)
act_of s now e (DeleteFile c) = at_place (file_place s c.at None) (delete_file s e.call)
act_of s now e (LeaseFile c) = at_place (file_place s c.at None) (lease_file s c.action e.fresh)
act_of s now e (ListHandles c) = at_place (node_place s c.at None) (list_handles s c.marker c.max c.recursive)
act_of s now e (ForceCloseHandles c) = at_place (node_place s c.at None) (force_close_handles s c.handle c.recursive)
act_of s now e (Start c) = Ok (start s e.who c.peer)
act_of s now e End = Ok (end_session s e.session)
act_of s now e (SmbOpen c) =
    smb_open s now e.session e.call c.share c.path c.access.access c.mode c.how c.dir c.access.on_close
act_of s now e (SmbClose c) = at_place (handle_place s (handle_in e c.index) (access_needed e.call)) (smb_close s)
act_of s now e (SmbRead c) =
    at_place (held_file s (handle_in e c.index) (access_needed e.call)) (smb_read s e.call c.range.at c.range.count)
act_of s now e (SmbWrite c) =
    at_place (held_file s (handle_in e c.index) (access_needed e.call))
    (smb_write s now e.call c.write.at c.write.piece)
act_of s now e (SmbResize c) =
    at_place (held_file s (handle_in e c.index) (access_needed e.call)) (smb_resize s now e.call c.length)
act_of s now e (SmbLock c) =
    at_place (held_file s (handle_in e c.index) (access_needed e.call))
    (smb_lock s c.range.from c.range.end c.exclusive)
act_of s now e (SmbUnlock c) =
    at_place (held_file s (handle_in e c.index) (access_needed e.call))
    (smb_unlock s c.range.from c.range.end c.exclusive)
act_of s now e (SmbStat c) = at_place (handle_place s (handle_in e c.index) (access_needed e.call)) (smb_stat s)
act_of s now e (SmbList c) =
    at_place (held_directory s (handle_in e c.index) (access_needed e.call)) (smb_list s c.marker c.max)
act_of s now e (SmbDispose c) =
    at_place (handle_place s (handle_in e c.index) (access_needed e.call)) (smb_dispose s e.call c.on)

-- the stamp that an entry gives: its moment, and its place, which is one more than the entries before it
abbrev pub stamp_in : Account → Entry → Stamp
stamp_in a e = record { changed = e.at; etag = a.came + 1 }

-- what an entry is in an account
abbrev pub act_in : Account → Entry → Result Act Refusal
act_in a e = act_of a.store (stamp_in a e) e e.call

-- the first check that applies: that of the place, or the first at the place
abbrev pub first_in : Store → Result Act Refusal → Option Refusal
first_in s (Err r) = Some r
first_in s (Ok act) = first_check s act.checks

-- THE FIRST REFUSAL of an entry in an account, if any check applies
abbrev pub first_refusal : Account → Entry → Option Refusal
first_refusal a e = first_in a.store (act_in a e)

-- what an act comes to: a refusal changes nothing
abbrev pub unless_refused : Store → Act → Option Refusal → Store × Reply
unless_refused s act None = (act.store, act.reply)
unless_refused s act (Some r) = (s, Refused r)

-- the store that is left, and the reply
abbrev pub outcome : Store → Result Act Refusal → Store × Reply
outcome s (Err r) = (s, Refused r)
outcome s (Ok act) = unless_refused s act (first_check s act.checks)

-- one more entry came, and left this
abbrev pub with_entry : Account → Store × Reply → Account × Reply
with_entry a out = (record { came = a.came + 1; store = out.0 }, out.1)

-- THE STEP: the account after an entry, and its reply
abbrev pub step : Account → Entry → Account × Reply
step a e = with_entry a (outcome a.store (act_in a e))

-- the account after more entries
abbrev pub after : Account → List Noted → Account
after a [] = a
after a (n ∷ ns) = after (step a n.entry).0 ns

-- THE REPLAY: the account that a history leaves
abbrev pub replay : List Noted → Account
replay ns = after empty ns

-- the reply to the entry at a place of a history, counted from 1
abbrev pub reply_at : List Noted → ℕ → Option Reply
reply_at ns place = option_map (λ n. (step (replay (take (place - 1) ns)) n.entry).1) (slice_get ns (place - 1))
