-- What is seen of the sessions, and not of their grants, is as before after each call that neither starts nor ends one.
use Rattle.std.specs.Prelude.{◌≡◌, ◌≤◌, ℕ, ◌+◌, Bool, true, false, cond, not, List, [], ◌∷◌, length, filter, find}
use Rattle.std.specs.Prelude.{Option, Some, None, Result, Ok, Err}
use Rattle.std.proofs.Common.{refl, sym, ap, ◌∙◌, arith, length-append, true≢false}
use Rattle.std.proofs.lemmas.List.Sums.{length-filter, count_by-le-length}
use Rattle.sx_base.specs.Entries.{change}
use Rattle.sx_guard.specs.declared.access.Access.{Access}
use Rattle.sx_guard.specs.Handle.{Handle}
use Rattle.sx_guard.specs.declared.access.Mode.{Mode}
use Rattle.sx_names.specs.declared.attributes.Attributes.{Attributes}
use Rattle.sx_names.specs.declared.meta_pair.MetaPair.{MetaPair}
use Rattle.sx_call.specs.Calls.{door_of}
use Rattle.sx_call.specs.declared.doors.Door.{Door}
use Rattle.sx_call.specs.declared.doors.Door.TheVariants.{Rest, Starts, Ends, InSession}
use Rattle.sx_call.specs.declared.calls.Call.{Call}
use Rattle.sx_call.specs.declared.calls.Call.TheVariants.{ListShares, CreateShare, GetShareProperties}
use Rattle.sx_call.specs.declared.calls.Call.TheVariants.{SetShareProperties, GetShareMetadata, SetShareMetadata}
use Rattle.sx_call.specs.declared.calls.Call.TheVariants.{DeleteShare, DeleteSnapshot, SnapshotShare, LeaseShare}
use Rattle.sx_call.specs.declared.calls.Call.TheVariants.{CreateDirectory, GetDirectoryProperties, GetDirectoryMetadata}
use Rattle.sx_call.specs.declared.calls.Call.TheVariants.{SetDirectoryMetadata, DeleteDirectory, ListDirectory}
use Rattle.sx_call.specs.declared.calls.Call.TheVariants.{CreateFile, GetFile, GetFileProperties, SetFileProperties}
use Rattle.sx_call.specs.declared.calls.Call.TheVariants.{GetFileMetadata, SetFileMetadata, UpdateRange, ClearRange}
use Rattle.sx_call.specs.declared.calls.Call.TheVariants.{ListRanges, DeleteFile, LeaseFile, ListHandles}
use Rattle.sx_call.specs.declared.calls.Call.TheVariants.{ForceCloseHandles, Start, End, SmbOpen, SmbClose, SmbRead}
use Rattle.sx_call.specs.declared.calls.Call.TheVariants.{SmbWrite, SmbResize, SmbLock, SmbUnlock, SmbStat, SmbList}
use Rattle.sx_call.specs.declared.calls.Call.TheVariants.{SmbDispose}
use Rattle.sx_call.specs.declared.entries.Entry.{Entry}
use Rattle.sx_call.specs.declared.opens.How.{How}
use Rattle.sx_call.specs.declared.targets.Target.{Target}
use Rattle.sx_call.specs.declared.opens.Live.{Live}
use Rattle.sx_call.specs.declared.opens.Lock.{Lock}
use Rattle.sx_call.specs.declared.opens.Open.{Open}
use Rattle.sx_call.specs.declared.refusals.Refusal.{Refusal}
use Rattle.sx_call.specs.declared.shown.Stamp.{Stamp}
use Rattle.sx_tree.specs.declared.node.Facts.{Facts}
use Rattle.sx_tree.specs.declared.node.FileBody.{FileBody}
use Rattle.sx_tree.specs.declared.node.Node.{Node}
use Rattle.sx_tree.specs.declared.share.Share.{Share}
use Rattle.sx_spec.specs.Facts.{new_file}
use Rattle.sx_spec.specs.Account.{Store, Account, is_session, session_of, is_held_by}
use Rattle.sx_spec.specs.Needs.{access_needed}
use Rattle.sx_spec.specs.Places.{◌>>=◌, Volume, Spot, Taken, Free, share_at, vacancy, volume_at, node_place}
use Rattle.sx_spec.specs.Places.{directory_place, file_place, handle_place, held_file, held_directory, making_place}
use Rattle.sx_spec.specs.Places.{free_in, file_at, of_kind, not_pending, spot_at}
use Rattle.sx_spec.specs.Checks.{unchecked, first_check}
use Rattle.sx_spec.specs.Changes.{Act, grant, add_share, drop_share, make_node, put_facts, put_file, delete_at}
use Rattle.sx_spec.specs.Changes.{put_open, put_lock, take_lock, change_open, take_open, close, close_all, put_session}
use Rattle.sx_spec.specs.Changes.{take_session}
use Rattle.sx_spec.specs.History.{MayCome, is_of_caller, places_wanted, wants, stands_in}
use Rattle.sx_spec.specs.ShareCalls.{create_share, get_share_properties, get_share_metadata, set_share_properties}
use Rattle.sx_spec.specs.ShareCalls.{set_share_metadata, delete_share, delete_snapshot, snapshot_share, lease_share}
use Rattle.sx_spec.specs.FileCalls.{create_directory, create_file, create_file_in, get_directory_properties}
use Rattle.sx_spec.specs.FileCalls.{get_directory_metadata, set_directory_metadata, delete_directory, list_directory}
use Rattle.sx_spec.specs.FileCalls.{get_file, get_file_properties, get_file_metadata, set_file_properties}
use Rattle.sx_spec.specs.FileCalls.{set_file_metadata, update_range, clear_range, list_ranges, delete_file, lease_file}
use Rattle.sx_spec.specs.FileCalls.{list_handles, force_close_handles}
use Rattle.sx_spec.specs.SessionCalls.{start, end_session, smb_open, open_spot, spot_for, smb_close, smb_read}
use Rattle.sx_spec.specs.SessionCalls.{smb_write, smb_resize, smb_lock, smb_unlock, smb_stat, smb_list, smb_dispose}
use Rattle.sx_spec.specs.Step.{at_place, handle_in, act_of, stamp_in, outcome, unless_refused, step}

close_sessions : (o : Open) (s : Store) → (close o s).sessions ≡ s.sessions
unfolding close take_open
close_sessions o s = refl

-- closing opens leaves the sessions
pub all_sessions : (os : List Open) (s : Store) → (close_all os s).sessions ≡ s.sessions
unfolding close_all
all_sessions [] s = refl
all_sessions (o ∷ os) s = all_sessions os (close o s) ∙ close_sessions o s

-- a call that neither starts nor ends a session
abbrev is_other : Door → Bool
is_other Rest = true
is_other Starts = false
is_other Ends = false
is_other InSession = true

starts_else : is_other Starts ≡ true → ⊥
starts_else e = true≢false (sym e)

ends_else : is_other Ends ≡ true → ⊥
ends_else e = true≢false (sym e)

module _ {V : Type 0} (view : List Live → V)
    (granted : (p : Live → Bool) (ls : List Live) → view (change p grant ls) ≡ view ls) where
  abbrev seen : Store → V
  seen s = view s.sessions

  -- Changes.

  share_added : (s : Store) (x : Share) → seen (add_share x s) ≡ seen s
  unfolding add_share
  share_added s x = refl

  share_dropped : (s : Store) (number : ℕ) → seen (drop_share number s) ≡ seen s
  unfolding drop_share
  share_dropped s number = refl

  node_made : (s : Store) (number : ℕ) (name : List ℕ) (node : Node) → seen (make_node number name node s) ≡ seen s
  unfolding make_node
  node_made s number name node = refl

  facts_put : (s : Store) (number id : ℕ) (f : Facts → Facts) → seen (put_facts number id f s) ≡ seen s
  unfolding put_facts
  facts_put s number id f = refl

  file_put : (s : Store) (number id : ℕ) (g : FileBody → FileBody) (f : Facts → Facts)
      → seen (put_file number id g f s) ≡ seen s
  unfolding put_file
  file_put s number id g f = refl

  node_deleted : (s : Store) (number id : ℕ) → seen (delete_at number id s) ≡ seen s
  unfolding delete_at
  node_deleted s number id = refl

  lock_put : (s : Store) (l : Lock) → seen (put_lock l s) ≡ seen s
  unfolding put_lock
  lock_put s l = refl

  lock_taken : (s : Store) (l : Lock) → seen (take_lock l s) ≡ seen s
  unfolding take_lock
  lock_taken s l = refl

  open_changed : (s : Store) (handle : Handle) (f : Open → Open) → seen (change_open handle f s) ≡ seen s
  unfolding change_open
  open_changed s handle f = refl

  open_put : (s : Store) (o : Open) → seen (put_open o s) ≡ seen s
  unfolding put_open
  open_put s o = granted (is_session o.handle.session) s.sessions

  one_closed : (o : Open) (s : Store) → seen (close o s) ≡ seen s
  one_closed o s = ap view (close_sessions o s)

  all_closed : (os : List Open) (s : Store) → seen (close_all os s) ≡ seen s
  all_closed os s = ap view (all_sessions os s)

  -- Acts.

  -- what is seen after an act is what was seen
  abbrev Stays : Store → Result Act Refusal → Type 0
  Stays s (Ok act) = seen act.store ≡ seen s
  Stays s (Err r) = Unit {0}

  stays_at : {P : Type 0} (s : Store) (r : Result P Refusal) (f : P → Act) → ((p : P) → seen (f p).store ≡ seen s)
      → Stays s (at_place r f)
  stays_at s (Ok p) f each = each p
  stays_at s (Err q) f each = tt

  stays_then : {P : Type 0} (s : Store) (r : Result P Refusal) (f : P → Result Act Refusal) → ((p : P) → Stays s (f p))
      → Stays s (r >>= f)
  stays_then s (Ok p) f each = each p
  stays_then s (Err q) f each = tt

  make_stays_directory : (s : Store) (now : Stamp) (at : Target) (attributes : Attributes) (created written : Option ℕ) (meta : List MetaPair) → Stays s (create_directory s now at attributes created written meta)
  make_stays_directory s now at attributes created written meta = stays_then s (making_place s at) _ (λ place.
      stays_then s (free_in place.1) _ (λ free. node_made s _ _ _))

  file_in_stays : (s : Store) (now : Stamp) (call : Call) (body : FileBody) (attributes : Attributes) (created written : Option ℕ) (meta : List MetaPair) (place : Volume × Spot) → Stays s (create_file_in s now call body attributes created written meta place)
  file_in_stays s now call body attributes created written meta (volume, Free parent name) = node_made s _ _ _
  file_in_stays s now call body attributes created written meta (volume, Taken node) =
      stays_then s (file_at None (record { volume = volume; node = node })) _ (λ p. file_put s _ _ _ _)

  file_stays : (s : Store) (now : Stamp) (call : Call) (at : Target) (body : FileBody) (attributes : Attributes) (created written : Option ℕ) (meta : List MetaPair) → Stays s (create_file s now call at body attributes created written meta)
  file_stays s now call at body attributes created written meta = stays_then s (making_place s at) _ (λ place.
      file_in_stays s now call body attributes created written meta place)

  spot_stays : (s : Store) (now : Stamp) (session : ℕ) (call : Call) (access : Access) (mode : Mode) (dir on_close : Bool) (volume : Volume) (spot : Spot) → Stays s (open_spot s now session call access mode dir on_close volume spot)
  spot_stays s now session call access mode dir on_close volume (Taken node) = stays_then s (of_kind dir node) _ (λ kind.
      stays_then s (not_pending None node) _ (λ standing. open_put s _))
  spot_stays s now session call access mode dir on_close volume (Free parent name) =
      open_put (make_node volume.number name _ s) _ ∙ node_made s _ _ _

  open_stays : (s : Store) (now : Stamp) (session : ℕ) (call : Call) (share : List ℕ) (path : List (List ℕ)) (access : Access) (mode : Mode) (how : How) (dir on_close : Bool) → Stays s (smb_open s now session call share path access mode how dir on_close)
  open_stays s now session call share path access mode how dir on_close =
      stays_then s (volume_at s share None) _ (λ volume.
      stays_then s (spot_at volume.tree path) _ (λ spot.
      stays_then s (spot_for how volume.tree spot) _ (λ wanted.
      spot_stays s now session call access mode dir on_close volume wanted)))

  pub stays : (s : Store) (now : Stamp) (e : Entry) (call : Call) → is_other (door_of call) ≡ true
      → Stays s (act_of s now e call)
  stays s now e (ListShares c) rest = refl
  stays s now e (CreateShare c) rest =
      stays_at s (vacancy s c.share) (λ number. create_share s now c.share c.quota c.meta) (λ p. share_added s _)
  stays s now e (GetShareProperties c) rest =
      stays_at s (volume_at s c.share c.scope.snap) (get_share_properties s e.call) (λ p. refl)
  stays s now e (SetShareProperties c) rest =
      stays_at s (volume_at s c.share None) (set_share_properties s now e.call c.quota) (λ p. refl)
  stays s now e (GetShareMetadata c) rest =
      stays_at s (volume_at s c.share c.scope.snap) (get_share_metadata s e.call) (λ p. refl)
  stays s now e (SetShareMetadata c) rest =
      stays_at s (volume_at s c.share None) (set_share_metadata s now e.call c.meta) (λ p. refl)
  stays s now e (DeleteShare c) rest =
      stays_at s (share_at s c.share) (delete_share s e.call c.include) (λ p. share_dropped s _)
  stays s now e (DeleteSnapshot c) rest =
      stays_at s (volume_at s c.share (Some c.moment)) (delete_snapshot s c.moment) (λ p. refl)
  stays s now e (SnapshotShare c) rest =
      stays_at s (share_at s c.share) (snapshot_share s now c.meta) (λ p. refl)
  stays s now e (LeaseShare c) rest =
      stays_at s (volume_at s c.share None) (lease_share s c.action e.fresh) (λ p. refl)
  stays s now e (CreateDirectory c) rest = make_stays_directory s now c.at c.attributes c.created c.written c.meta
  stays s now e (GetDirectoryProperties c) rest =
      stays_at s (directory_place s c.at c.snap) (get_directory_properties s) (λ p. refl)
  stays s now e (GetDirectoryMetadata c) rest =
      stays_at s (directory_place s c.at c.snap) (get_directory_metadata s) (λ p. refl)
  stays s now e (SetDirectoryMetadata c) rest =
      stays_at s (directory_place s c.at None) (set_directory_metadata s now c.meta) (λ p. facts_put s _ _ _)
  stays s now e (DeleteDirectory c) rest =
      stays_at s (directory_place s c.at None) (delete_directory s e.call) (λ p. node_deleted s _ _)
  stays s now e (ListDirectory c) rest =
      stays_at s (directory_place s c.at c.snap) (list_directory s c.prefix c.marker c.max) (λ p. refl)
  stays s now e (CreateFile c) rest =
      file_stays s now e.call c.at (new_file c.length c.content) c.attributes c.created c.written c.meta
  stays s now e (GetFile c) rest =
      stays_at s (file_place s c.at c.scope.snap) (get_file s e.call c.span) (λ p. refl)
  stays s now e (GetFileProperties c) rest =
      stays_at s (file_place s c.at c.scope.snap) (get_file_properties s e.call) (λ p. refl)
  stays s now e (SetFileProperties c) rest =
      stays_at s (file_place s c.at None) (set_file_properties s now e.call c.length c.content c.attributes c.created c.written) (λ p. file_put s _ _ _ _)
  stays s now e (GetFileMetadata c) rest =
      stays_at s (file_place s c.at c.scope.snap) (get_file_metadata s e.call) (λ p. refl)
  stays s now e (SetFileMetadata c) rest =
      stays_at s (file_place s c.at None) (set_file_metadata s now e.call c.meta) (λ p. facts_put s _ _ _)
  stays s now e (UpdateRange c) rest =
      stays_at s (file_place s c.at None) (update_range s now e.call c.update.from c.update.piece) (λ p. file_put s _ _ _ _)
  stays s now e (ClearRange c) rest =
      stays_at s (file_place s c.at None) (clear_range s now e.call c.range.from c.range.end) (λ p. file_put s _ _ _ _)
  stays s now e (ListRanges c) rest =
      stays_at s (file_place s c.at c.scope.snap) (list_ranges s e.call c.span) (λ p. refl)
  stays s now e (DeleteFile c) rest =
      stays_at s (file_place s c.at None) (delete_file s e.call) (λ p. node_deleted s _ _)
  stays s now e (LeaseFile c) rest =
      stays_at s (file_place s c.at None) (lease_file s c.action e.fresh) (λ p. facts_put s _ _ _)
  stays s now e (ListHandles c) rest =
      stays_at s (node_place s c.at None) (list_handles s c.marker c.max c.recursive) (λ p. refl)
  stays s now e (ForceCloseHandles c) rest =
      stays_at s (node_place s c.at None) (force_close_handles s c.handle c.recursive) (λ p. all_closed _ s)
  stays s now e (Start c) rest = absurd (starts_else rest)
  stays s now e End rest = absurd (ends_else rest)
  stays s now e (SmbOpen c) rest =
      open_stays s now e.session e.call c.share c.path c.access.access c.mode c.how c.dir c.access.on_close
  stays s now e (SmbClose c) rest =
      stays_at s (handle_place s (handle_in e c.index) (access_needed e.call)) (smb_close s) (λ p. one_closed p.held s)
  stays s now e (SmbRead c) rest =
      stays_at s (held_file s (handle_in e c.index) (access_needed e.call)) (smb_read s e.call c.range.at c.range.count) (λ p. refl)
  stays s now e (SmbWrite c) rest =
      stays_at s (held_file s (handle_in e c.index) (access_needed e.call)) (smb_write s now e.call c.write.at c.write.piece) (λ p. file_put s _ _ _ _)
  stays s now e (SmbResize c) rest =
      stays_at s (held_file s (handle_in e c.index) (access_needed e.call)) (smb_resize s now e.call c.length) (λ p. file_put s _ _ _ _)
  stays s now e (SmbLock c) rest =
      stays_at s (held_file s (handle_in e c.index) (access_needed e.call)) (smb_lock s c.range.from c.range.end c.exclusive) (λ p. lock_put s _)
  stays s now e (SmbUnlock c) rest =
      stays_at s (held_file s (handle_in e c.index) (access_needed e.call)) (smb_unlock s c.range.from c.range.end c.exclusive) (λ p. lock_taken s _)
  stays s now e (SmbStat c) rest =
      stays_at s (handle_place s (handle_in e c.index) (access_needed e.call)) (smb_stat s) (λ p. refl)
  stays s now e (SmbList c) rest =
      stays_at s (held_directory s (handle_in e c.index) (access_needed e.call)) (smb_list s c.marker c.max) (λ p. refl)
  stays s now e (SmbDispose c) rest =
      stays_at s (handle_place s (handle_in e c.index) (access_needed e.call)) (smb_dispose s e.call c.on) (λ p. open_changed s _ _)

  -- The step.

  pub stays_by : (s : Store) (act : Act) (o : Option Refusal) → seen act.store ≡ seen s
      → seen (unless_refused s act o).0 ≡ seen s
  stays_by s act None same = same
  stays_by s act (Some r) same = refl

  pub stays_in : (s : Store) (x : Result Act Refusal) → Stays s x → seen (outcome s x).0 ≡ seen s
  stays_in s (Ok act) same = stays_by s act (first_check s act.checks) same
  stays_in s (Err r) same = refl
