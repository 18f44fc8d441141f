-- The rows of all calls: each is answered by what its door prints.
use Rattle.std.specs.Prelude.{◌≡◌, Bool, true, Some, None}
use Rattle.std.proofs.Common.{refl, sym, subst, true≢false}
use Rattle.sx_call.specs.Calls.{door_of}
use Rattle.sx_call.specs.declared.calls.Call.{Call}
use Rattle.sx_call.specs.declared.calls.Call.TheVariants.{ListShares, CreateShare, GetShareProperties}
use Rattle.sx_call.specs.declared.calls.Call.TheVariants.{SetShareProperties, GetShareMetadata, SetShareMetadata}
use Rattle.sx_call.specs.declared.calls.Call.TheVariants.{DeleteShare, DeleteSnapshot, SnapshotShare, LeaseShare}
use Rattle.sx_call.specs.declared.calls.Call.TheVariants.{CreateDirectory, GetDirectoryProperties, GetDirectoryMetadata}
use Rattle.sx_call.specs.declared.calls.Call.TheVariants.{SetDirectoryMetadata, DeleteDirectory, ListDirectory}
use Rattle.sx_call.specs.declared.calls.Call.TheVariants.{CreateFile, GetFile, GetFileProperties, SetFileProperties}
use Rattle.sx_call.specs.declared.calls.Call.TheVariants.{GetFileMetadata, SetFileMetadata, UpdateRange, ClearRange}
use Rattle.sx_call.specs.declared.calls.Call.TheVariants.{ListRanges, DeleteFile, LeaseFile, ListHandles}
use Rattle.sx_call.specs.declared.calls.Call.TheVariants.{ForceCloseHandles, Start, End, SmbOpen, SmbClose, SmbRead}
use Rattle.sx_call.specs.declared.calls.Call.TheVariants.{SmbWrite, SmbResize, SmbLock, SmbUnlock, SmbStat, SmbList}
use Rattle.sx_call.specs.declared.calls.Call.TheVariants.{SmbDispose}
use Rattle.sx_call.specs.declared.doors.Door.{Door}
use Rattle.sx_call.specs.declared.doors.Door.TheVariants as door
use Rattle.sx_call.specs.declared.entries.Entry.{Entry}
use Rattle.sx_call.specs.declared.replies.Reply.{Reply}
use Rattle.sx_call.specs.declared.shown.Stamp.{Stamp}
use Rattle.sx_reply.specs.PrintedReply.{is_reply_printed}
use Rattle.sx_spec.specs.Account.{Store, Account}
use Rattle.sx_spec.specs.Facts.{new_file}
use Rattle.sx_spec.specs.Needs.{access_needed}
use Rattle.sx_spec.specs.Places.{share_at, vacancy, volume_at, node_place, directory_place, file_place}
use Rattle.sx_spec.specs.Places.{handle_place, held_file, held_directory}
use Rattle.sx_spec.specs.ShareCalls.{create_share, get_share_properties, get_share_metadata, set_share_properties}
use Rattle.sx_spec.specs.ShareCalls.{set_share_metadata, delete_share, delete_snapshot, snapshot_share, lease_share}
use Rattle.sx_spec.specs.FileCalls.{get_directory_properties, get_directory_metadata, set_directory_metadata}
use Rattle.sx_spec.specs.FileCalls.{delete_directory, list_directory, get_file, get_file_properties, get_file_metadata}
use Rattle.sx_spec.specs.FileCalls.{set_file_properties, set_file_metadata, update_range, clear_range, list_ranges}
use Rattle.sx_spec.specs.FileCalls.{delete_file, lease_file, list_handles, force_close_handles}
use Rattle.sx_spec.specs.SessionCalls.{smb_close, smb_read, smb_write, smb_resize, smb_lock, smb_unlock, smb_stat}
use Rattle.sx_spec.specs.SessionCalls.{smb_list, smb_dispose}
use Rattle.sx_spec.specs.Step.{handle_in, act_of, stamp_in, act_in, step}
use Rattle.sx_answers.specs.SessionReply.{is_session_door, is_session_reply}
use Rattle.sx_answers.proofs.Acts.{Answers, answers_at, outcome_printed}
use Rattle.sx_answers.proofs.Rest.{vacancy_told, share_told, volume_told, node_told, directory_told, file_told}
use Rattle.sx_answers.proofs.Rest.{share_checks_told, file_checks_told, rest_unchecked, share_deleted, snapshot_made}
use Rattle.sx_answers.proofs.Rest.{share_leased, file_leased, directory_deleted, directory_made, file_made}
use Rattle.sx_answers.proofs.Session.{handle_told, held_file_told, held_directory_told, session_unchecked}
use Rattle.sx_answers.proofs.Session.{held_checks_told, lock_answered, unlock_answered, dispose_answered, open_answered}

-- what a door's answers print
abbrev prints_at : Door → Reply → Bool
prints_at door.Rest = is_reply_printed
prints_at door.Starts = is_session_reply
prints_at door.Ends = is_session_reply
prints_at door.InSession = is_session_reply

row : (s : Store) (now : Stamp) (e : Entry) (call : Call) → Answers (prints_at (door_of call)) s (act_of s now e call)
row s now e (ListShares c) = (rest_unchecked s, refl)
row s now e (CreateShare c) =
    answers_at is_reply_printed s (vacancy s c.share) (λ number. create_share s now c.share c.quota c.meta) (vacancy_told s c.share) (λ p. (rest_unchecked s, refl))
row s now e (GetShareProperties c) =
    answers_at is_reply_printed s (volume_at s c.share c.scope.snap) (get_share_properties s e.call) (volume_told s c.share c.scope.snap) (λ p. (share_checks_told s e.call p, refl))
row s now e (SetShareProperties c) =
    answers_at is_reply_printed s (volume_at s c.share None) (set_share_properties s now e.call c.quota) (volume_told s c.share None) (λ p. (share_checks_told s e.call p, refl))
row s now e (GetShareMetadata c) =
    answers_at is_reply_printed s (volume_at s c.share c.scope.snap) (get_share_metadata s e.call) (volume_told s c.share c.scope.snap) (λ p. (share_checks_told s e.call p, refl))
row s now e (SetShareMetadata c) =
    answers_at is_reply_printed s (volume_at s c.share None) (set_share_metadata s now e.call c.meta) (volume_told s c.share None) (λ p. (share_checks_told s e.call p, refl))
row s now e (DeleteShare c) =
    answers_at is_reply_printed s (share_at s c.share) (delete_share s e.call c.include) (share_told s c.share) (λ p. share_deleted s e.call c.include p)
row s now e (DeleteSnapshot c) =
    answers_at is_reply_printed s (volume_at s c.share (Some c.moment)) (delete_snapshot s c.moment) (volume_told s c.share (Some c.moment)) (λ p. (rest_unchecked s, refl))
row s now e (SnapshotShare c) =
    answers_at is_reply_printed s (share_at s c.share) (snapshot_share s now c.meta) (share_told s c.share) (λ p. snapshot_made s now c.meta p)
row s now e (LeaseShare c) =
    answers_at is_reply_printed s (volume_at s c.share None) (lease_share s c.action e.fresh) (volume_told s c.share None) (λ p. share_leased s c.action e.fresh p)
row s now e (CreateDirectory c) = directory_made s now c.at c.attributes c.created c.written c.meta
row s now e (GetDirectoryProperties c) =
    answers_at is_reply_printed s (directory_place s c.at c.snap) (get_directory_properties s) (directory_told s c.at c.snap) (λ p. (rest_unchecked s, refl))
row s now e (GetDirectoryMetadata c) =
    answers_at is_reply_printed s (directory_place s c.at c.snap) (get_directory_metadata s) (directory_told s c.at c.snap) (λ p. (rest_unchecked s, refl))
row s now e (SetDirectoryMetadata c) =
    answers_at is_reply_printed s (directory_place s c.at None) (set_directory_metadata s now c.meta) (directory_told s c.at None) (λ p. (rest_unchecked s, refl))
row s now e (DeleteDirectory c) =
    answers_at is_reply_printed s (directory_place s c.at None) (delete_directory s e.call) (directory_told s c.at None) (λ p. directory_deleted s e.call p)
row s now e (ListDirectory c) =
    answers_at is_reply_printed s (directory_place s c.at c.snap) (list_directory s c.prefix c.marker c.max) (directory_told s c.at c.snap) (λ p. (rest_unchecked s, refl))
row s now e (CreateFile c) =
    file_made s now e.call c.at (new_file c.length c.content) c.attributes c.created c.written c.meta
row s now e (GetFile c) =
    answers_at is_reply_printed s (file_place s c.at c.scope.snap) (get_file s e.call c.span) (file_told s c.at c.scope.snap) (λ p. (file_checks_told s e.call p, refl))
row s now e (GetFileProperties c) =
    answers_at is_reply_printed s (file_place s c.at c.scope.snap) (get_file_properties s e.call) (file_told s c.at c.scope.snap) (λ p. (file_checks_told s e.call p, refl))
row s now e (SetFileProperties c) =
    answers_at is_reply_printed s (file_place s c.at None) (set_file_properties s now e.call c.length c.content c.attributes c.created c.written) (file_told s c.at None) (λ p. (file_checks_told s e.call p, refl))
row s now e (GetFileMetadata c) =
    answers_at is_reply_printed s (file_place s c.at c.scope.snap) (get_file_metadata s e.call) (file_told s c.at c.scope.snap) (λ p. (file_checks_told s e.call p, refl))
row s now e (SetFileMetadata c) =
    answers_at is_reply_printed s (file_place s c.at None) (set_file_metadata s now e.call c.meta) (file_told s c.at None) (λ p. (file_checks_told s e.call p, refl))
row s now e (UpdateRange c) =
    answers_at is_reply_printed s (file_place s c.at None) (update_range s now e.call c.update.from c.update.piece) (file_told s c.at None) (λ p. (file_checks_told s e.call p, refl))
row s now e (ClearRange c) =
    answers_at is_reply_printed s (file_place s c.at None) (clear_range s now e.call c.range.from c.range.end) (file_told s c.at None) (λ p. (file_checks_told s e.call p, refl))
row s now e (ListRanges c) =
    answers_at is_reply_printed s (file_place s c.at c.scope.snap) (list_ranges s e.call c.span) (file_told s c.at c.scope.snap) (λ p. (file_checks_told s e.call p, refl))
row s now e (DeleteFile c) =
    answers_at is_reply_printed s (file_place s c.at None) (delete_file s e.call) (file_told s c.at None) (λ p. (file_checks_told s e.call p, refl))
row s now e (LeaseFile c) =
    answers_at is_reply_printed s (file_place s c.at None) (lease_file s c.action e.fresh) (file_told s c.at None) (λ p. file_leased s c.action e.fresh p)
row s now e (ListHandles c) =
    answers_at is_reply_printed s (node_place s c.at None) (list_handles s c.marker c.max c.recursive) (node_told s c.at None) (λ p. (rest_unchecked s, refl))
row s now e (ForceCloseHandles c) =
    answers_at is_reply_printed s (node_place s c.at None) (force_close_handles s c.handle c.recursive) (node_told s c.at None) (λ p. (rest_unchecked s, refl))
row s now e (Start c) = (session_unchecked s, refl)
row s now e End = (session_unchecked s, refl)
row s now e (SmbOpen c) =
    open_answered s now e.session e.call c.share c.path c.access.access c.mode c.how c.dir c.access.on_close
row s now e (SmbClose c) =
    answers_at is_session_reply s (handle_place s (handle_in e c.index) (access_needed e.call)) (smb_close s) (handle_told s (handle_in e c.index) (access_needed e.call)) (λ p. (session_unchecked s, refl))
row s now e (SmbRead c) =
    answers_at is_session_reply s (held_file s (handle_in e c.index) (access_needed e.call)) (smb_read s e.call c.range.at c.range.count) (held_file_told s (handle_in e c.index) (access_needed e.call)) (λ p. (held_checks_told s e.call p, refl))
row s now e (SmbWrite c) =
    answers_at is_session_reply s (held_file s (handle_in e c.index) (access_needed e.call)) (smb_write s now e.call c.write.at c.write.piece) (held_file_told s (handle_in e c.index) (access_needed e.call)) (λ p. (held_checks_told s e.call p, refl))
row s now e (SmbResize c) =
    answers_at is_session_reply s (held_file s (handle_in e c.index) (access_needed e.call)) (smb_resize s now e.call c.length) (held_file_told s (handle_in e c.index) (access_needed e.call)) (λ p. (held_checks_told s e.call p, refl))
row s now e (SmbLock c) =
    answers_at is_session_reply s (held_file s (handle_in e c.index) (access_needed e.call)) (smb_lock s c.range.from c.range.end c.exclusive) (held_file_told s (handle_in e c.index) (access_needed e.call)) (λ p. lock_answered s c.range.from c.range.end c.exclusive p)
row s now e (SmbUnlock c) =
    answers_at is_session_reply s (held_file s (handle_in e c.index) (access_needed e.call)) (smb_unlock s c.range.from c.range.end c.exclusive) (held_file_told s (handle_in e c.index) (access_needed e.call)) (λ p. unlock_answered s c.range.from c.range.end c.exclusive p)
row s now e (SmbStat c) =
    answers_at is_session_reply s (handle_place s (handle_in e c.index) (access_needed e.call)) (smb_stat s) (handle_told s (handle_in e c.index) (access_needed e.call)) (λ p. (session_unchecked s, refl))
row s now e (SmbList c) =
    answers_at is_session_reply s (held_directory s (handle_in e c.index) (access_needed e.call)) (smb_list s c.marker c.max) (held_directory_told s (handle_in e c.index) (access_needed e.call)) (λ p. (session_unchecked s, refl))
row s now e (SmbDispose c) =
    answers_at is_session_reply s (handle_place s (handle_in e c.index) (access_needed e.call)) (smb_dispose s e.call c.on) (handle_told s (handle_in e c.index) (access_needed e.call)) (λ p. dispose_answered s e.call c.on p)

-- a reply is printed at the door of its call
printed_at : (a : Account) (e : Entry) → prints_at (door_of e.call) (step a e).1 ≡ true
printed_at a e =
    outcome_printed (prints_at (door_of e.call)) a.store (act_in a e) (row a.store (stamp_in a e) e e.call)

session_by : (d : Door) (reply : Reply) → is_session_door d ≡ true → prints_at d reply ≡ true
    → is_session_reply reply ≡ true
session_by door.Rest reply is printed = absurd (true≢false (sym is))
session_by door.Starts reply is printed = printed
session_by door.Ends reply is printed = printed
session_by door.InSession reply is printed = printed

-- EACH REPLY TO A REST CALL IS PRINTED
pub rest_printed : (a : Account) (e : Entry) → door_of e.call ≡ door.Rest → is_reply_printed (step a e).1 ≡ true
rest_printed a e is = subst (λ (d : Door). prints_at d (step a e).1 ≡ true) is (printed_at a e)

-- EACH REPLY TO A SESSION'S CALL IS PRINTED
pub session_printed : (a : Account) (e : Entry) → is_session_door (door_of e.call) ≡ true
    → is_session_reply (step a e).1 ≡ true
session_printed a e is = session_by (door_of e.call) (step a e).1 is (printed_at a e)
