-- A snapshot of a share stands after each step that deletes neither it nor its share: one row a call.
use Rattle.std.proofs.Common.{◌≡◌, ℕ, true, false, Bool, List, Option, Some, None, refl, sym, ap, ◌∙◌, subst}
use Rattle.std.specs.Prelude.{◌==◌, ◌&&◌, Result, Ok, Err, bytes_eq, find, ok_or, option_map}
use Rattle.sx_guard.specs.declared.access.Access.{Access}
use Rattle.sx_guard.specs.declared.access.Mode.{Mode}
use Rattle.sx_names.specs.declared.attributes.Attributes.{Attributes}
use Rattle.sx_names.specs.declared.meta_pair.MetaPair.{MetaPair}
use Rattle.sx_call.specs.declared.calls.Call.{Call}
use Rattle.sx_call.specs.declared.calls.Call.TheVariants.{ListShares, CreateShare, GetShareProperties}
use Rattle.sx_call.specs.declared.calls.Call.TheVariants.{SetShareProperties, GetShareMetadata, SetShareMetadata}
use Rattle.sx_call.specs.declared.calls.Call.TheVariants.{DeleteShare, DeleteSnapshot, SnapshotShare, LeaseShare}
use Rattle.sx_call.specs.declared.calls.Call.TheVariants.{CreateDirectory, GetDirectoryProperties, GetDirectoryMetadata}
use Rattle.sx_call.specs.declared.calls.Call.TheVariants.{SetDirectoryMetadata, DeleteDirectory, ListDirectory}
use Rattle.sx_call.specs.declared.calls.Call.TheVariants.{CreateFile, GetFile, GetFileProperties, SetFileProperties}
use Rattle.sx_call.specs.declared.calls.Call.TheVariants.{GetFileMetadata, SetFileMetadata, UpdateRange, ClearRange}
use Rattle.sx_call.specs.declared.calls.Call.TheVariants.{ListRanges, DeleteFile, LeaseFile, ListHandles}
use Rattle.sx_call.specs.declared.calls.Call.TheVariants.{ForceCloseHandles, Start, End, SmbOpen, SmbClose, SmbRead}
use Rattle.sx_call.specs.declared.calls.Call.TheVariants.{SmbWrite, SmbResize, SmbLock, SmbUnlock, SmbStat, SmbList}
use Rattle.sx_call.specs.declared.calls.Call.TheVariants.{SmbDispose}
use Rattle.sx_call.specs.declared.entries.Entry.{Entry}
use Rattle.sx_call.specs.declared.opens.How.{How}
use Rattle.sx_call.specs.declared.refusals.Refusal.{Refusal}
use Rattle.sx_call.specs.declared.refusals.Refusal.TheVariants as refusal
use Rattle.sx_call.specs.declared.shown.Stamp.{Stamp}
use Rattle.sx_call.specs.declared.targets.Target.{Target}
use Rattle.sx_tree.specs.declared.node.FileBody.{FileBody}
use Rattle.sx_tree.specs.declared.share.Share.{Share}
use Rattle.sx_tree.specs.declared.share.Snapshot.{Snapshot}
use Rattle.sx_spec.specs.Account.{Store, Account, has_name, share_named}
use Rattle.sx_spec.specs.Changes.{Act, change_share, add_share, drop_share, make_node, close_all}
use Rattle.sx_spec.specs.Checks.{first_check}
use Rattle.sx_spec.specs.Facts.{new_file}
use Rattle.sx_spec.specs.FileCalls.{create_directory, create_file, create_file_in, get_directory_properties}
use Rattle.sx_spec.specs.FileCalls.{get_directory_metadata, set_directory_metadata, delete_directory, list_directory}
use Rattle.sx_spec.specs.FileCalls.{get_file, get_file_properties, get_file_metadata, set_file_properties}
use Rattle.sx_spec.specs.FileCalls.{set_file_metadata, update_range, clear_range, list_ranges, delete_file, lease_file}
use Rattle.sx_spec.specs.FileCalls.{list_handles, force_close_handles}
use Rattle.sx_spec.specs.History.{is_refused}
use Rattle.sx_spec.specs.Needs.{access_needed}
use Rattle.sx_spec.specs.Places.{◌>>=◌, Volume, Spot, Taken, Free, share_at, vacancy, volume_in, volume_at, node_place}
use Rattle.sx_spec.specs.Places.{directory_place, file_place, handle_place, held_file, held_directory, making_place}
use Rattle.sx_spec.specs.Places.{free_in, file_at, of_kind, not_pending, spot_at, kept_volume}
use Rattle.sx_spec.specs.SessionCalls.{smb_open, open_spot, spot_for, smb_close, smb_read}
use Rattle.sx_spec.specs.SessionCalls.{smb_write, smb_resize, smb_lock, smb_unlock, smb_stat, smb_list, smb_dispose}
use Rattle.sx_spec.specs.ShareCalls.{create_share, get_share_properties, get_share_metadata, set_share_properties}
use Rattle.sx_spec.specs.ShareCalls.{set_share_metadata, delete_share, delete_snapshot, snapshot_share, lease_share}
use Rattle.sx_spec.specs.Shares.{is_of_moment, without_snapshot}
use Rattle.sx_spec.specs.SnapshotLaw.{deletes_snapshot}
use Rattle.sx_spec.specs.Step.{at_place, handle_in, act_of, act_in, stamp_in, outcome, unless_refused, step}
use Rattle.sx_spec.specs.Whole.{IsWhole}
use Rattle.sx_spec.proofs.Lists.{found_passes}
use Rattle.sx_spec.proofs.Placed.{bind_ok, ok_there, ok_of, share_live}
use Rattle.sx_spec.proofs.Refusals.{Fair, fair}
use Rattle.sx_spec.proofs.SnapshotKept.{Stands, kept_changed, kept_more, kept_added, kept_dropped}
use Rattle.sx_spec.proofs.SnapshotKept.{other_number, kept_without, node_made, facts_put, file_put, node_deleted}
use Rattle.sx_spec.proofs.SnapshotKept.{open_put, open_changed, lock_put, lock_taken, session_put, session_taken}
use Rattle.sx_spec.proofs.SnapshotKept.{one_closed, all_closed}

module _ (name : List ℕ) (moment number : ℕ) (kept : Snapshot) (a : Account) (w : IsWhole a) (k : Stands name moment number kept a.store) where
  abbrev s : Store
  s = a.store

  -- an act leaves the snapshot
  abbrev Leaves : Result Act Refusal → Type 0
  Leaves (Ok act) = Stands name moment number kept act.store
  Leaves (Err r) = Unit {0}

  leaves_at : {P : Type 0} (r : Result P Refusal) (f : P → Act)
      → ((p : P) → r ≡ Ok p → Stands name moment number kept (f p).store) → Leaves (at_place r f)
  leaves_at (Ok p) f each = each p refl
  leaves_at (Err q) f each = tt

  leaves_then : {P : Type 0} (r : Result P Refusal) (f : P → Result Act Refusal) → ((p : P) → Leaves (f p))
      → Leaves (r >>= f)
  leaves_then (Ok p) f each = each p
  leaves_then (Err q) f each = tt

  -- Shares.

  -- a share whose name and snapshots stay
  fields : (m : ℕ) (f : Share → Share) → ((x : Share) → (f x).name ≡ x.name)
      → ((x : Share) → (f x).snapshots ≡ x.snapshots) → Stands name moment number kept (change_share m f s)
  fields m f named same = kept_changed name moment number kept m f s.shares k (λ x at h. record {
    named = ap (λ (n : List ℕ). bytes_eq n name) (named x) ∙ h.named;
    found = ap (find (is_of_moment moment)) (same x) ∙ h.found;
  })

  added : (x : Share) → Stands name moment number kept (add_share x s)
  unfolding add_share
  added x = kept_added name moment number kept a.came s.next_id s.made x s.shares w.shares k

  named_at : (other : List ℕ) (x : ℕ × Share) → share_at s other ≡ Ok x → bytes_eq x.1.name other ≡ true
  named_at other x e =
      found_passes (has_name other) s.shares x (ok_there (share_named s other) refusal.ShareAbsent x e)

  dropped : (other : List ℕ) (x : ℕ × Share) → share_at s other ≡ Ok x → bytes_eq other name ≡ false
      → Stands name moment number kept (drop_share x.0 s)
  unfolding drop_share
  dropped other x e off =
      kept_dropped name moment number kept x.0 s.shares w.shares.sorted (other_number name moment number kept s.shares x.0 x.1 other k (share_live a other x w e) (named_at other x e) off) k

  number_is : (x : ℕ × Share) (gone : ℕ) (v : Volume) → volume_in x (Some gone) ≡ Ok v → v.number ≡ x.0
  number_is x gone v e = by (find (is_of_moment gone) x.1.snapshots) e
    where
      by : (o : Option Snapshot) → ok_or (option_map (kept_volume x.0) o) (refusal.SnapshotAbsent gone) ≡ Ok v
          → v.number ≡ x.0
      by None e = cc
      by (Some z) e = ap (λ (u : Volume). u.number) (sym (ok_of (kept_volume x.0 z) v e))

  undone : (other : List ℕ) (gone : ℕ) (v : Volume) → volume_at s other (Some gone) ≡ Ok v
      → (bytes_eq other name && gone == moment) ≡ false
      → Stands name moment number kept (change_share v.number (without_snapshot gone) s)
  undone other gone v e off =
      let (x, at, is) = bind_ok (share_at s other) (λ x. volume_in x (Some gone)) v e in
      subst (λ (m : ℕ). Stands name moment number kept (change_share m (without_snapshot gone) s)) (sym (number_is x gone v is))
      (kept_without name moment number kept gone x.0 x.1 other s.shares k (share_live a other x w at) (named_at other x at) off)

  -- Calls of several forms.

  directory_leaves : (now : Stamp) (at : Target) (attributes : Attributes) (created written : Option ℕ) (meta : List MetaPair) → Leaves (create_directory s now at attributes created written meta)
  directory_leaves now at attributes created written meta = leaves_then (making_place s at) _ (λ place.
      leaves_then (free_in place.1) _ (λ free. node_made name moment number kept s _ _ _ k))

  file_in_leaves : (now : Stamp) (call : Call) (body : FileBody) (attributes : Attributes) (created written : Option ℕ) (meta : List MetaPair) (place : Volume × Spot) → Leaves (create_file_in s now call body attributes created written meta place)
  file_in_leaves now call body attributes created written meta (volume, Free parent called) =
      node_made name moment number kept s _ _ _ k
  file_in_leaves now call body attributes created written meta (volume, Taken node) =
      leaves_then (file_at None (record { volume = volume; node = node })) _ (λ p. file_put name moment number kept s _ _ _ _ k)

  file_leaves : (now : Stamp) (call : Call) (at : Target) (body : FileBody) (attributes : Attributes) (created written : Option ℕ) (meta : List MetaPair) → Leaves (create_file s now call at body attributes created written meta)
  file_leaves now call at body attributes created written meta = leaves_then (making_place s at) _ (λ place.
      file_in_leaves now call body attributes created written meta place)

  spot_leaves : (now : Stamp) (session : ℕ) (call : Call) (access : Access) (mode : Mode) (dir on_close : Bool) (volume : Volume) (spot : Spot) → Leaves (open_spot s now session call access mode dir on_close volume spot)
  spot_leaves now session call access mode dir on_close volume (Taken node) = leaves_then (of_kind dir node) _ (λ kind.
      leaves_then (not_pending None node) _ (λ standing. open_put name moment number kept s _ k))
  spot_leaves now session call access mode dir on_close volume (Free parent called) =
      open_put name moment number kept (make_node volume.number called _ s) _ (node_made name moment number kept s _ _ _ k)

  open_leaves : (now : Stamp) (session : ℕ) (call : Call) (share : List ℕ) (path : List (List ℕ)) (access : Access) (mode : Mode) (how : How) (dir on_close : Bool) → Leaves (smb_open s now session call share path access mode how dir on_close)
  open_leaves now session call share path access mode how dir on_close =
      leaves_then (volume_at s share None) _ (λ volume.
      leaves_then (spot_at volume.tree path) _ (λ spot.
      leaves_then (spot_for how volume.tree spot) _ (λ wanted.
      spot_leaves now session call access mode dir on_close volume wanted)))

  -- The rows.

  leaves : (now : Stamp) (e : Entry) (call : Call) → deletes_snapshot name moment call ≡ false
      → Leaves (act_of s now e call)
  leaves now e (ListShares c) off = k
  leaves now e (CreateShare c) off =
      leaves_at (vacancy s c.share) (λ number. create_share s now c.share c.quota c.meta) (λ p f. added _)
  leaves now e (GetShareProperties c) off =
      leaves_at (volume_at s c.share c.scope.snap) (get_share_properties s e.call) (λ p f. k)
  leaves now e (SetShareProperties c) off =
      leaves_at (volume_at s c.share None) (set_share_properties s now e.call c.quota) (λ p f. fields p.number _ (λ x. refl) (λ x. refl))
  leaves now e (GetShareMetadata c) off =
      leaves_at (volume_at s c.share c.scope.snap) (get_share_metadata s e.call) (λ p f. k)
  leaves now e (SetShareMetadata c) off =
      leaves_at (volume_at s c.share None) (set_share_metadata s now e.call c.meta) (λ p f. fields p.number _ (λ x. refl) (λ x. refl))
  leaves now e (DeleteShare c) off =
      leaves_at (share_at s c.share) (delete_share s e.call c.include) (λ p f. dropped c.share p f off)
  leaves now e (DeleteSnapshot c) off =
      leaves_at (volume_at s c.share (Some c.moment)) (delete_snapshot s c.moment) (λ p f. undone c.share c.moment p f off)
  leaves now e (SnapshotShare c) off =
      leaves_at (share_at s c.share) (snapshot_share s now c.meta) (λ p f. kept_more name moment number kept p.0 _ c.meta s.shares k)
  leaves now e (LeaseShare c) off =
      leaves_at (volume_at s c.share None) (lease_share s c.action e.fresh) (λ p f. fields p.number _ (λ x. refl) (λ x. refl))
  leaves now e (CreateDirectory c) off = directory_leaves now c.at c.attributes c.created c.written c.meta
  leaves now e (GetDirectoryProperties c) off =
      leaves_at (directory_place s c.at c.snap) (get_directory_properties s) (λ p f. k)
  leaves now e (GetDirectoryMetadata c) off =
      leaves_at (directory_place s c.at c.snap) (get_directory_metadata s) (λ p f. k)
  leaves now e (SetDirectoryMetadata c) off =
      leaves_at (directory_place s c.at None) (set_directory_metadata s now c.meta) (λ p f. facts_put name moment number kept s _ _ _ k)
  leaves now e (DeleteDirectory c) off =
      leaves_at (directory_place s c.at None) (delete_directory s e.call) (λ p f. node_deleted name moment number kept s _ _ k)
  leaves now e (ListDirectory c) off =
      leaves_at (directory_place s c.at c.snap) (list_directory s c.prefix c.marker c.max) (λ p f. k)
  leaves now e (CreateFile c) off =
      file_leaves now e.call c.at (new_file c.length c.content) c.attributes c.created c.written c.meta
  leaves now e (GetFile c) off =
      leaves_at (file_place s c.at c.scope.snap) (get_file s e.call c.span) (λ p f. k)
  leaves now e (GetFileProperties c) off =
      leaves_at (file_place s c.at c.scope.snap) (get_file_properties s e.call) (λ p f. k)
  leaves now e (SetFileProperties c) off =
      leaves_at (file_place s c.at None) (set_file_properties s now e.call c.length c.content c.attributes c.created c.written) (λ p f. file_put name moment number kept s _ _ _ _ k)
  leaves now e (GetFileMetadata c) off =
      leaves_at (file_place s c.at c.scope.snap) (get_file_metadata s e.call) (λ p f. k)
  leaves now e (SetFileMetadata c) off =
      leaves_at (file_place s c.at None) (set_file_metadata s now e.call c.meta) (λ p f. facts_put name moment number kept s _ _ _ k)
  leaves now e (UpdateRange c) off =
      leaves_at (file_place s c.at None) (update_range s now e.call c.update.from c.update.piece) (λ p f. file_put name moment number kept s _ _ _ _ k)
  leaves now e (ClearRange c) off =
      leaves_at (file_place s c.at None) (clear_range s now e.call c.range.from c.range.end) (λ p f. file_put name moment number kept s _ _ _ _ k)
  leaves now e (ListRanges c) off =
      leaves_at (file_place s c.at c.scope.snap) (list_ranges s e.call c.span) (λ p f. k)
  leaves now e (DeleteFile c) off =
      leaves_at (file_place s c.at None) (delete_file s e.call) (λ p f. node_deleted name moment number kept s _ _ k)
  leaves now e (LeaseFile c) off =
      leaves_at (file_place s c.at None) (lease_file s c.action e.fresh) (λ p f. facts_put name moment number kept s _ _ _ k)
  leaves now e (ListHandles c) off =
      leaves_at (node_place s c.at None) (list_handles s c.marker c.max c.recursive) (λ p f. k)
  leaves now e (ForceCloseHandles c) off =
      leaves_at (node_place s c.at None) (force_close_handles s c.handle c.recursive) (λ p f. all_closed name moment number kept _ s k)
  leaves now e (Start c) off = session_put name moment number kept s _ _ k
  leaves now e End off =
      session_taken name moment number kept (close_all _ s) e.session (all_closed name moment number kept _ s k)
  leaves now e (SmbOpen c) off =
      open_leaves now e.session e.call c.share c.path c.access.access c.mode c.how c.dir c.access.on_close
  leaves now e (SmbClose c) off =
      leaves_at (handle_place s (handle_in e c.index) (access_needed e.call)) (smb_close s) (λ p f. one_closed name moment number kept p.held s k)
  leaves now e (SmbRead c) off =
      leaves_at (held_file s (handle_in e c.index) (access_needed e.call)) (smb_read s e.call c.range.at c.range.count) (λ p f. k)
  leaves now e (SmbWrite c) off =
      leaves_at (held_file s (handle_in e c.index) (access_needed e.call)) (smb_write s now e.call c.write.at c.write.piece) (λ p f. file_put name moment number kept s _ _ _ _ k)
  leaves now e (SmbResize c) off =
      leaves_at (held_file s (handle_in e c.index) (access_needed e.call)) (smb_resize s now e.call c.length) (λ p f. file_put name moment number kept s _ _ _ _ k)
  leaves now e (SmbLock c) off =
      leaves_at (held_file s (handle_in e c.index) (access_needed e.call)) (smb_lock s c.range.from c.range.end c.exclusive) (λ p f. lock_put name moment number kept s _ k)
  leaves now e (SmbUnlock c) off =
      leaves_at (held_file s (handle_in e c.index) (access_needed e.call)) (smb_unlock s c.range.from c.range.end c.exclusive) (λ p f. lock_taken name moment number kept s _ k)
  leaves now e (SmbStat c) off =
      leaves_at (handle_place s (handle_in e c.index) (access_needed e.call)) (smb_stat s) (λ p f. k)
  leaves now e (SmbList c) off =
      leaves_at (held_directory s (handle_in e c.index) (access_needed e.call)) (smb_list s c.marker c.max) (λ p f. k)
  leaves now e (SmbDispose c) off =
      leaves_at (handle_place s (handle_in e c.index) (access_needed e.call)) (smb_dispose s e.call c.on) (λ p f. open_changed name moment number kept s _ _ k)

  -- The step.

  left_by : (act : Act) (o : Option Refusal) → is_refused act.reply ≡ false
      → (is_refused (unless_refused s act o).1 ≡ false → Stands name moment number kept act.store)
      → Stands name moment number kept (unless_refused s act o).0
  left_by act None fine by = by fine
  left_by act (Some r) fine by = k

  left_in : (x : Result Act Refusal) → Fair x → (is_refused (outcome s x).1 ≡ false → Leaves x)
      → Stands name moment number kept (outcome s x).0
  left_in (Ok act) fine by = left_by act (first_check s act.checks) fine by
  left_in (Err r) fine by = k

  -- a step leaves the snapshot, unless it is one that deletes it and isn't refused
  pub step_leaves : (e : Entry) → (is_refused (step a e).1 ≡ false → deletes_snapshot name moment e.call ≡ false)
      → Stands name moment number kept (step a e).0.store
  step_leaves e by = left_in (act_in a e) (fair a e) (λ fine. leaves (stamp_in a e) e e.call (by fine))
