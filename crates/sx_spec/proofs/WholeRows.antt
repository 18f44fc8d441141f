-- Each step keeps an account whole: one row a call.
use Rattle.std.proofs.Common.{◌≡◌, ℕ, ◌≤◌, ◌<◌, true, false, Bool, List, None, refl, sym, ap, ◌∙◌}
use Rattle.std.specs.Prelude.{nat_le, nat_lt, ◌&&◌}
use Rattle.sx_base.specs.Clock.{greatest_moment}
use Rattle.sx_extent.specs.Ranges.{most_bytes}
use Rattle.sx_guard.specs.declared.access.Access.{Access}
use Rattle.sx_guard.specs.declared.access.Mode.{Mode}
use Rattle.sx_call.specs.declared.calls.Call.{Call}
use Rattle.sx_call.specs.declared.calls.Call.TheVariants.{ListShares, CreateShare, GetShareProperties}
use Rattle.sx_call.specs.declared.calls.Call.TheVariants.{SetShareProperties, GetShareMetadata, SetShareMetadata}
use Rattle.sx_call.specs.declared.calls.Call.TheVariants.{DeleteShare, DeleteSnapshot, SnapshotShare, LeaseShare}
use Rattle.sx_call.specs.declared.calls.Call.TheVariants.{CreateDirectory, GetDirectoryProperties, GetDirectoryMetadata}
use Rattle.sx_call.specs.declared.calls.Call.TheVariants.{SetDirectoryMetadata, DeleteDirectory, ListDirectory}
use Rattle.sx_call.specs.declared.calls.Call.TheVariants.{CreateFile, GetFile, GetFileProperties, SetFileProperties}
use Rattle.sx_call.specs.declared.calls.Call.TheVariants.{GetFileMetadata, SetFileMetadata, UpdateRange, ClearRange}
use Rattle.sx_call.specs.declared.calls.Call.TheVariants.{ListRanges, DeleteFile, LeaseFile, ListHandles}
use Rattle.sx_call.specs.declared.calls.Call.TheVariants.{ForceCloseHandles, Start, End, SmbOpen, SmbClose, SmbRead}
use Rattle.sx_call.specs.declared.calls.Call.TheVariants.{SmbWrite, SmbResize, SmbLock, SmbUnlock, SmbStat, SmbList}
use Rattle.sx_call.specs.declared.calls.Call.TheVariants.{SmbDispose}
use Rattle.sx_call.specs.declared.entries.Entry.{Entry}
use Rattle.sx_call.specs.declared.opens.How.{How}
use Rattle.sx_call.specs.declared.shown.Stamp.{Stamp}
use Rattle.sx_spec.specs.Account.{Account, session_of}
use Rattle.sx_spec.specs.FileCalls.{get_directory_properties, get_directory_metadata, list_directory, get_file}
use Rattle.sx_spec.specs.FileCalls.{get_file_properties, get_file_metadata, list_ranges, list_handles}
use Rattle.sx_spec.specs.History.{MayCome, stands_in}
use Rattle.sx_call.specs.CallLimits.{IsWithinLimits}
use Rattle.sx_call.specs.Lengths.{is_file_length}
use Rattle.sx_call.specs.Ranges.{is_byte_range}
use Rattle.sx_call.specs.declared.ranges.TheConstants.{OFFSET_LIMIT}
use Rattle.sx_extent.specs.Ranges.{Interval}
use Rattle.sx_spec.specs.Needs.{access_needed, new_marks}
use Rattle.sx_spec.specs.Places.{volume_at, directory_place, file_place, node_place, held_directory, handle_place}
use Rattle.sx_spec.specs.Places.{held_file}
use Rattle.sx_spec.specs.SessionCalls.{smb_read, smb_stat, smb_list, smb_open}
use Rattle.sx_spec.specs.ShareCalls.{list_shares, get_share_properties, get_share_metadata}
use Rattle.sx_spec.specs.Step.{handle_in, act_of, stamp_in, outcome, step}
use Rattle.sx_spec.specs.Whole.{IsWhole}
use Rattle.sx_spec.proofs.Lists.{nat_less, nat_at_most, true_false}
use Rattle.sx_spec.proofs.Parts.{next, came_whole}
use Rattle.sx_spec.proofs.WholeSteps.{IsNamed, path_is, target_is, whole_act, whole_at}
use Rattle.sx_spec.proofs.RestRows.{create_share_row, set_share_properties_row, set_share_metadata_row}
use Rattle.sx_spec.proofs.RestRows.{delete_share_row, delete_snapshot_row, snapshot_share_row, lease_share_row}
use Rattle.sx_spec.proofs.RestRows.{create_directory_row, set_directory_metadata_row, delete_directory_row}
use Rattle.sx_spec.proofs.RestRows.{create_file_row, set_file_properties_row, set_file_metadata_row, update_range_row}
use Rattle.sx_spec.proofs.RestRows.{clear_range_row, delete_file_row, lease_file_row, force_close_row}
use Rattle.sx_spec.proofs.SessionRows.{caller_live, start_row, end_row, open_row, close_row, write_row, resize_row}
use Rattle.sx_spec.proofs.SessionRows.{lock_row, unlock_row, dispose_row}
use Rattle.sx_call.specs.Calls.{door_of}
use Rattle.sx_call.specs.declared.doors.Door.{Door}
use Rattle.sx_call.specs.declared.doors.Door.TheVariants.{InSession}

module _ (a : Account) (last : ℕ) (e : Entry) (w : IsWhole a) (c : MayCome a last e) where
  abbrev now : Stamp
  now = stamp_in a e

  early : now.changed ≤ greatest_moment
  early = c.clock

  length_is : (bytes : ℕ) → is_file_length bytes ≡ true → bytes ≤ most_bytes
  length_is bytes e = nat_at_most bytes most_bytes e

  range_is : (r : Interval) → is_byte_range r ≡ true → r.from < r.end
  range_is r e = by (nat_lt r.from r.end) (nat_le r.end OFFSET_LIMIT) refl e
    where
      by : (b c : Bool) → nat_lt r.from r.end ≡ b → (b && c) ≡ true → r.from < r.end
      by true c is e = nat_less r.from r.end is
      by false c is e = absurd (true_false (sym e))

  open_by : (share : List ℕ) (path : List (List ℕ)) (access : Access) (mode : Mode) (how : How) (dir on_close : Bool)
      → door_of e.call ≡ InSession → IsNamed path
      → IsWhole (next a (outcome a.store (smb_open a.store now e.session e.call share path access mode how dir on_close)).0)
  open_by share path access mode how dir on_close is named =
      let (live, at) =
      caller_live e.who (session_of a.store e.session) (ap (λ (d : Door). stands_in a.store e.who e.session d) (sym is) ∙ c.session) in
      open_row a now w early e.session live at e.call share path access mode how dir on_close named

  row : (call : Call) → e.call ≡ call → IsWithinLimits call
      → IsWhole (next a (outcome a.store (act_of a.store now e call)).0)
  row (ListShares x) is k =
      whole_act a (list_shares a.store x.prefix x.marker x.max x.snapshots) w (λ none. came_whole a w)
  row (CreateShare x) is k = create_share_row a now w early x.share x.quota x.meta k.0 k.1
  row (GetShareProperties x) is k =
      whole_at a (volume_at a.store x.share x.scope.snap) (get_share_properties a.store e.call) w (λ p f none. came_whole a w)
  row (SetShareProperties x) is k = set_share_properties_row a now w early x.share e.call x.quota k.1
  row (GetShareMetadata x) is k =
      whole_at a (volume_at a.store x.share x.scope.snap) (get_share_metadata a.store e.call) w (λ p f none. came_whole a w)
  row (SetShareMetadata x) is k = set_share_metadata_row a now w early x.share e.call x.meta
  row (DeleteShare x) is k = delete_share_row a now w early x.share e.call x.include
  row (DeleteSnapshot x) is k = delete_snapshot_row a now w early x.share x.moment
  row (SnapshotShare x) is k = snapshot_share_row a now w early x.share x.meta
  row (LeaseShare x) is k = lease_share_row a now w early x.share x.action e.fresh
  row (CreateDirectory x) is k =
      create_directory_row a now w early x.at x.attributes x.created x.written x.meta (target_is x.at k.0) k.2 k.3
  row (GetDirectoryProperties x) is k =
      whole_at a (directory_place a.store x.at x.snap) (get_directory_properties a.store) w (λ p f none. came_whole a w)
  row (GetDirectoryMetadata x) is k =
      whole_at a (directory_place a.store x.at x.snap) (get_directory_metadata a.store) w (λ p f none. came_whole a w)
  row (SetDirectoryMetadata x) is k = set_directory_metadata_row a now w early x.at x.meta
  row (DeleteDirectory x) is k = delete_directory_row a now w early x.at e.call (target_is x.at k)
  row (ListDirectory x) is k =
      whole_at a (directory_place a.store x.at x.snap) (list_directory a.store x.prefix x.marker x.max) w (λ p f none. came_whole a w)
  row (CreateFile x) is k =
      create_file_row a now w early x.at e.call x.length x.content x.attributes x.created x.written x.meta (target_is x.at k.0) k.4 k.5 (length_is x.length k.1)
  row (GetFile x) is k =
      whole_at a (file_place a.store x.at x.scope.snap) (get_file a.store e.call x.span) w (λ p f none. came_whole a w)
  row (GetFileProperties x) is k =
      whole_at a (file_place a.store x.at x.scope.snap) (get_file_properties a.store e.call) w (λ p f none. came_whole a w)
  row (SetFileProperties x) is k =
      set_file_properties_row a now w early x.at e.call x.length x.content x.attributes x.created x.written k.4 k.5
  row (GetFileMetadata x) is k =
      whole_at a (file_place a.store x.at x.scope.snap) (get_file_metadata a.store e.call) w (λ p f none. came_whole a w)
  row (SetFileMetadata x) is k = set_file_metadata_row a now w early x.at e.call x.meta
  row (UpdateRange x) is k =
      update_range_row a now w early x.at e.call x.update.from x.update.piece (λ body. ap (new_marks body) is)
  row (ClearRange x) is k = clear_range_row a now w early x.at e.call x.range.from x.range.end
  row (ListRanges x) is k =
      whole_at a (file_place a.store x.at x.scope.snap) (list_ranges a.store e.call x.span) w (λ p f none. came_whole a w)
  row (DeleteFile x) is k = delete_file_row a now w early x.at e.call
  row (LeaseFile x) is k = lease_file_row a now w early x.at x.action e.fresh
  row (ListHandles x) is k =
      whole_at a (node_place a.store x.at None) (list_handles a.store x.marker x.max x.recursive) w (λ p f none. came_whole a w)
  row (ForceCloseHandles x) is k = force_close_row a now w early x.at x.handle x.recursive
  row (Start x) is k = start_row a now w early e.who x.peer
  row End is k = end_row a now w early e.session
  row (SmbOpen x) is k =
      open_by x.share x.path x.access.access x.mode x.how x.dir x.access.on_close (ap door_of is) (path_is x.path k.1)
  row (SmbClose x) is k = close_row a now w early (handle_in e x.index) (access_needed e.call)
  row (SmbRead x) is k =
      whole_at a (held_file a.store (handle_in e x.index) (access_needed e.call)) (smb_read a.store e.call x.range.at x.range.count) w (λ p f none. came_whole a w)
  row (SmbWrite x) is k =
      write_row a now w early (handle_in e x.index) (access_needed e.call) e.call x.write.at x.write.piece (λ body. ap (new_marks body) is)
  row (SmbResize x) is k = resize_row a now w early (handle_in e x.index) (access_needed e.call) e.call x.length
  row (SmbLock x) is k =
      lock_row a now w early (handle_in e x.index) (access_needed e.call) x.range.from x.range.end x.exclusive (range_is x.range k.1)
  row (SmbUnlock x) is k =
      unlock_row a now w early (handle_in e x.index) (access_needed e.call) x.range.from x.range.end x.exclusive
  row (SmbStat x) is k =
      whole_at a (handle_place a.store (handle_in e x.index) (access_needed e.call)) (smb_stat a.store) w (λ p f none. came_whole a w)
  row (SmbList x) is k =
      whole_at a (held_directory a.store (handle_in e x.index) (access_needed e.call)) (smb_list a.store x.marker x.max) w (λ p f none. came_whole a w)
  row (SmbDispose x) is k = dispose_row a now w early (handle_in e x.index) (access_needed e.call) e.call x.on

  -- A STEP KEEPS WHOLENESS
  pub step_whole : IsWithinLimits e.call → IsWhole (step a e).0
  step_whole k = row e.call refl k
