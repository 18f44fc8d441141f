-- No place refuses for a conflict and no act's own reply is a refusal, so a reply is a refusal exactly where a check
-- applies, and it
-- says what the first one says.
use Rattle.std.specs.Prelude.{◌≡◌, ◌↔◌, ℕ, ◌+◌, Bool, true, false, cond, List, Option, Some, None, option_map, find}
use Rattle.std.specs.Prelude.{ok_or, Result, Ok, Err}
use Rattle.std.proofs.Common.{refl, sym, ap, ◌∙◌, true≢false}
use Rattle.std.specs.List.{list_any}
use Rattle.sx_base.specs.Entries.{value_at}
use Rattle.sx_spec.specs.Shares.{is_of_moment}
use Rattle.sx_guard.specs.declared.access.Access.{Access}
use Rattle.sx_guard.specs.Handle.{Handle}
use Rattle.sx_guard.specs.declared.access.Mode.{Mode}
use Rattle.sx_lease.specs.declared.lease.LeaseState.{LeaseState}
use Rattle.sx_names.specs.declared.attributes.Attributes.{Attributes}
use Rattle.sx_names.specs.declared.meta_pair.MetaPair.{MetaPair}
use Rattle.sx_call.specs.declared.opens.How.{How}
use Rattle.sx_call.specs.declared.opens.How.TheVariants.{Existing, Create, Either}
use Rattle.sx_call.specs.declared.leases.LeaseAction.{LeaseAction}
use Rattle.sx_call.specs.declared.leases.LeaseAction.TheVariants.{Acquire, Change, Release, Break}
use Rattle.sx_call.specs.declared.targets.Target.{Target}
use Rattle.sx_call.specs.declared.opens.Open.{Open}
use Rattle.sx_tree.specs.declared.node.FileBody.{FileBody}
use Rattle.sx_tree.specs.declared.node.Found.{Found}
use Rattle.sx_tree.specs.declared.node.Found.TheVariants as found
use Rattle.sx_tree.specs.declared.node.Kind.{Kind}
use Rattle.sx_tree.specs.declared.node.Kind.TheVariants.{Directory, File}
use Rattle.sx_tree.specs.declared.node.Node.{Node}
use Rattle.sx_tree.specs.declared.share.Share.{Share}
use Rattle.sx_tree.specs.Tree.{Nodes, node_at}
use Rattle.sx_tree.specs.Find.{found_in}
use Rattle.sx_spec.specs.Places.{Volume, NodePlace, Spot, Taken, Free, kept_volume, volume_in, last_part, spot_of}
use Rattle.sx_spec.specs.Places.{spot_at, may_make, is_pending, node_in, free_in, body_of, as_directory, as_file}
use Rattle.sx_spec.specs.Places.{file_body, not_pending, file_at, making_place, has_rights, with_access}
use Rattle.sx_spec.specs.Conflicts.{is_conflict}
use Rattle.sx_spec.specs.History.{is_refused}
use Rattle.sx_spec.specs.ShareCalls.{lease_reply}
use Rattle.sx_spec.specs.FileCalls.{create_directory, create_file_in, create_file}
use Rattle.sx_spec.specs.SessionCalls.{spot_for, open_spot, smb_open}
use Rattle.sx_spec.specs.Step.{at_place, handle_in, act_of, stamp_in, act_in, first_in, first_refusal, unless_refused}
use Rattle.sx_spec.specs.Step.{outcome, step}
use Rattle.sx_call.specs.declared.calls.Call.{Call}
use Rattle.sx_call.specs.declared.calls.Call.TheVariants.{ListShares, CreateShare, GetShareProperties}
use Rattle.sx_call.specs.declared.calls.Call.TheVariants.{SetShareProperties, GetShareMetadata, SetShareMetadata}
use Rattle.sx_call.specs.declared.calls.Call.TheVariants.{DeleteShare, DeleteSnapshot, SnapshotShare, LeaseShare}
use Rattle.sx_call.specs.declared.calls.Call.TheVariants.{CreateDirectory, GetDirectoryProperties, GetDirectoryMetadata}
use Rattle.sx_call.specs.declared.calls.Call.TheVariants.{SetDirectoryMetadata, DeleteDirectory, ListDirectory}
use Rattle.sx_call.specs.declared.calls.Call.TheVariants.{CreateFile, GetFile, GetFileProperties, SetFileProperties}
use Rattle.sx_call.specs.declared.calls.Call.TheVariants.{GetFileMetadata, SetFileMetadata, UpdateRange, ClearRange}
use Rattle.sx_call.specs.declared.calls.Call.TheVariants.{ListRanges, DeleteFile, LeaseFile, ListHandles}
use Rattle.sx_call.specs.declared.calls.Call.TheVariants.{ForceCloseHandles, Start, End, SmbOpen, SmbClose, SmbRead}
use Rattle.sx_call.specs.declared.calls.Call.TheVariants.{SmbWrite, SmbResize, SmbLock, SmbUnlock, SmbStat, SmbList}
use Rattle.sx_call.specs.declared.calls.Call.TheVariants.{SmbDispose}
use Rattle.sx_call.specs.declared.entries.Entry.{Entry}
use Rattle.sx_call.specs.declared.refusals.Refusal.{Refusal}
use Rattle.sx_call.specs.declared.refusals.Refusal.TheVariants as refusal
use Rattle.sx_call.specs.declared.replies.Reply.{Reply}
use Rattle.sx_call.specs.declared.replies.Reply.TheVariants.{Refused}
use Rattle.sx_call.specs.declared.shown.Stamp.{Stamp}
use Rattle.sx_spec.specs.Facts.{new_file}
use Rattle.sx_spec.specs.Account.{Store, Account, has_name, share_named, open_of}
use Rattle.sx_spec.specs.Needs.{access_needed}
use Rattle.sx_spec.specs.Places.{◌>>=◌, share_at, vacancy, volume_at, node_place, directory_place, file_place}
use Rattle.sx_spec.specs.Places.{handle_place, held_file, held_directory, of_kind}
use Rattle.sx_spec.specs.Checks.{first_check}
use Rattle.sx_spec.specs.Changes.{Act}
use Rattle.sx_spec.specs.ShareCalls.{create_share, get_share_properties, get_share_metadata, set_share_properties}
use Rattle.sx_spec.specs.ShareCalls.{set_share_metadata, delete_share, delete_snapshot, snapshot_share, lease_share}
use Rattle.sx_spec.specs.FileCalls.{get_directory_properties, get_directory_metadata, set_directory_metadata}
use Rattle.sx_spec.specs.FileCalls.{delete_directory, list_directory, get_file, get_file_properties, get_file_metadata}
use Rattle.sx_spec.specs.FileCalls.{set_file_properties, set_file_metadata, update_range, clear_range, list_ranges}
use Rattle.sx_spec.specs.FileCalls.{delete_file, lease_file, list_handles, force_close_handles}
use Rattle.sx_spec.specs.SessionCalls.{smb_close, smb_read, smb_write, smb_resize, smb_lock, smb_unlock, smb_stat}
use Rattle.sx_spec.specs.SessionCalls.{smb_list, smb_dispose}

-- Places.

-- a place that isn't found is refused for no conflict
abbrev Apart : {A : Type 0} → Result A Refusal → Type 0
Apart (Ok x) = Unit {0}
Apart (Err r) = is_conflict r ≡ false

apart_then : {A B : Type 0} (r : Result A Refusal) (f : A → Result B Refusal) → Apart r → ((x : A) → Apart (f x))
    → Apart (r >>= f)
apart_then (Ok x) f first rest = rest x
apart_then (Err q) f first rest = first

apart_or : {A : Type 0} (o : Option A) (r : Refusal) → is_conflict r ≡ false → Apart (ok_or o r)
apart_or None r apart = apart
apart_or (Some x) r apart = tt

share_apart : (s : Store) (name : List ℕ) → Apart (share_at s name)
share_apart s name = apart_or (share_named s name) refusal.ShareAbsent refl

apart_if : {A : Type 0} (b : Bool) (r : Refusal) (x : A) → is_conflict r ≡ false
    → Apart (cond {A = Result A Refusal} b (Err r) (Ok x))
apart_if true r x apart = apart
apart_if false r x apart = tt

vacancy_apart : (s : Store) (name : List ℕ) → Apart (vacancy s name)
vacancy_apart s name = apart_if (list_any (has_name name) s.shares) refusal.ShareThere (s.made + 1) refl

volume_in_apart : (x : ℕ × Share) (snap : Option ℕ) → Apart (volume_in x snap)
volume_in_apart x None = tt
volume_in_apart x (Some moment) =
    apart_or (option_map (kept_volume x.0) (find (is_of_moment moment) x.1.snapshots)) (refusal.SnapshotAbsent moment) refl

volume_apart : (s : Store) (name : List ℕ) (snap : Option ℕ) → Apart (volume_at s name snap)
volume_apart s name snap =
    apart_then (share_at s name) (λ x. volume_in x snap) (share_apart s name) (λ x. volume_in_apart x snap)

spot_of_apart : (t : Nodes) (path : List (List ℕ)) (found : Found) → Apart (spot_of t path found)
spot_of_apart t path (found.Node id) = apart_or (option_map Taken (node_at t id)) refusal.NameAbsent refl
spot_of_apart t path (found.Missing parent) =
    apart_or (option_map (Free parent) (last_part path)) refusal.NameAbsent refl
spot_of_apart t path (found.NoParent parts) = refl

spot_apart : (t : Nodes) (path : List (List ℕ)) → Apart (spot_at t path)
spot_apart t path = spot_of_apart t path (found_in t path)

make_apart : (t : Nodes) (spot : Spot) → Apart (may_make t spot)
make_apart t (Taken n) = tt
make_apart t (Free parent name) = apart_if (is_pending t parent) (refusal.Pending parent) (Free parent name) refl

node_in_apart : (spot : Spot) → Apart (node_in spot)
node_in_apart (Taken n) = tt
node_in_apart (Free parent name) = refl

free_apart : (spot : Spot) → Apart (free_in spot)
free_apart (Taken n) = refl
free_apart (Free parent name) = tt

body_apart : (id : ℕ) (kind : Kind) → Apart (body_of id kind)
body_apart id Directory = refl
body_apart id (File body) = tt

directory_kind_apart : (n : Node) (kind : Kind) → Apart (as_directory n kind)
directory_kind_apart n Directory = tt
directory_kind_apart n (File body) = refl

file_kind_apart : (n : Node) (kind : Kind) → Apart (as_file n kind)
file_kind_apart n Directory = refl
file_kind_apart n (File body) = tt

kind_apart : (dir : Bool) (n : Node) → Apart (of_kind dir n)
kind_apart true n = directory_kind_apart n n.kind
kind_apart false n = file_kind_apart n n.kind

pending_apart : (snap : Option ℕ) (n : Node) → Apart (not_pending snap n)
pending_apart None n = apart_if n.facts.pending (refusal.Pending n.id) n refl
pending_apart (Some moment) n = tt

node_apart : (s : Store) (at : Target) (snap : Option ℕ) → Apart (node_place s at snap)
unfolding node_place
node_apart s at snap = apart_then (volume_at s at.share snap) _ (volume_apart s at.share snap) (λ volume.
    apart_then (spot_at volume.tree at.path) _ (spot_apart volume.tree at.path) (λ spot.
    apart_then (node_in spot) _ (node_in_apart spot) (λ node. tt)))

directory_apart : (s : Store) (at : Target) (snap : Option ℕ) → Apart (directory_place s at snap)
unfolding directory_place
directory_apart s at snap = apart_then (node_place s at snap) _ (node_apart s at snap) (λ p.
    apart_then (of_kind true p.node) _ (kind_apart true p.node) (λ directory.
    apart_then (not_pending snap directory) _ (pending_apart snap directory) (λ standing. tt)))

file_at_apart : (snap : Option ℕ) (p : NodePlace) → Apart (file_at snap p)
file_at_apart snap p = apart_then (file_body p.node) _ (body_apart p.node.id p.node.kind) (λ body.
    apart_then (not_pending snap p.node) _ (pending_apart snap p.node) (λ standing. tt))

file_apart : (s : Store) (at : Target) (snap : Option ℕ) → Apart (file_place s at snap)
unfolding file_place
file_apart s at snap = apart_then (node_place s at snap) _ (node_apart s at snap) (λ p. file_at_apart snap p)

making_apart : (s : Store) (at : Target) → Apart (making_place s at)
unfolding making_place
making_apart s at = apart_then (volume_at s at.share None) _ (volume_apart s at.share None) (λ volume.
    apart_then (spot_at volume.tree at.path) _ (spot_apart volume.tree at.path) (λ spot.
    apart_then (may_make volume.tree spot) _ (make_apart volume.tree spot) (λ makes. tt)))

apart_unless : {A : Type 0} (b : Bool) (r : Refusal) (x : A) → is_conflict r ≡ false
    → Apart (cond {A = Result A Refusal} b (Ok x) (Err r))
apart_unless true r x apart = tt
apart_unless false r x apart = apart

access_apart : (needed : Access) (o : Open) → Apart (with_access needed o)
access_apart needed o = apart_unless (has_rights needed o.access) (refusal.LacksAccess o.handle) o refl

handle_apart : (s : Store) (handle : Handle) (needed : Access) → Apart (handle_place s handle needed)
unfolding handle_place
handle_apart s handle needed =
    apart_then (ok_or (open_of s handle) (refusal.NoHandle handle)) _ (apart_or (open_of s handle) (refusal.NoHandle handle) refl) (λ o.
    apart_then (ok_or (value_at s.shares o.share) (refusal.NoHandle handle)) _ (apart_or (value_at s.shares o.share) (refusal.NoHandle handle) refl) (λ share.
    apart_then (ok_or (node_at share.tree o.node) (refusal.NoHandle handle)) _ (apart_or (node_at share.tree o.node) (refusal.NoHandle handle) refl) (λ node.
    apart_then (with_access needed o) _ (access_apart needed o) (λ held. tt))))

held_file_apart : (s : Store) (handle : Handle) (needed : Access) → Apart (held_file s handle needed)
unfolding held_file
held_file_apart s handle needed = apart_then (handle_place s handle needed) _ (handle_apart s handle needed) (λ p.
    apart_then (file_body p.node) _ (body_apart p.node.id p.node.kind) (λ body. tt))

held_directory_apart : (s : Store) (handle : Handle) (needed : Access) → Apart (held_directory s handle needed)
unfolding held_directory
held_directory_apart s handle needed = apart_then (handle_place s handle needed) _ (handle_apart s handle needed) (λ p.
    apart_then (of_kind true p.node) _ (kind_apart true p.node) (λ directory. tt))

spot_for_apart : (how : How) (t : Nodes) (spot : Spot) → Apart (spot_for how t spot)
spot_for_apart Existing t spot = apart_then (node_in spot) _ (node_in_apart spot) (λ node. tt)
spot_for_apart Create t spot = apart_then (may_make t spot) _ (make_apart t spot) (λ makes.
    apart_then (free_in makes) _ (free_apart makes) (λ free. tt))
spot_for_apart Either t spot = make_apart t spot

-- Acts.

-- a place that isn't found is refused for no conflict, and an act's own reply is no refusal
abbrev pub Fair : Result Act Refusal → Type 0
Fair (Ok act) = is_refused act.reply ≡ false
Fair (Err r) = is_conflict r ≡ false

fair_at : {P : Type 0} (r : Result P Refusal) (f : P → Act) → Apart r → ((p : P) → is_refused (f p).reply ≡ false)
    → Fair (at_place r f)
fair_at (Ok p) f apart fine = fine p
fair_at (Err q) f apart fine = apart

fair_then : {P : Type 0} (r : Result P Refusal) (f : P → Result Act Refusal) → Apart r → ((p : P) → Fair (f p))
    → Fair (r >>= f)
fair_then (Ok p) f apart rest = rest p
fair_then (Err q) f apart rest = apart

fair_lease : (action : LeaseAction) (stamp : Stamp) (state : LeaseState)
    → is_refused (lease_reply action stamp state) ≡ false
fair_lease (Acquire proposed) stamp state = refl
fair_lease (Change id to) stamp state = refl
fair_lease (Release id) stamp state = refl
fair_lease Break stamp state = refl

directory_fair : (s : Store) (now : Stamp) (at : Target) (attributes : Attributes) (created written : Option ℕ) (meta : List MetaPair) → Fair (create_directory s now at attributes created written meta)
directory_fair s now at attributes created written meta = fair_then (making_place s at) _ (making_apart s at) (λ place.
    fair_then (free_in place.1) _ (free_apart place.1) (λ free. refl))

file_in_fair : (s : Store) (now : Stamp) (call : Call) (body : FileBody) (attributes : Attributes) (created written : Option ℕ) (meta : List MetaPair) (place : Volume × Spot) → Fair (create_file_in s now call body attributes created written meta place)
file_in_fair s now call body attributes created written meta (volume, Free parent name) = refl
file_in_fair s now call body attributes created written meta (volume, Taken node) =
    fair_then (file_at None (record {
      volume =
          volume;
      node = node;
    })) _ (file_at_apart None (record { volume = volume; node = node })) (λ p. refl)

file_fair : (s : Store) (now : Stamp) (call : Call) (at : Target) (body : FileBody) (attributes : Attributes) (created written : Option ℕ) (meta : List MetaPair) → Fair (create_file s now call at body attributes created written meta)
file_fair s now call at body attributes created written meta =
    fair_then (making_place s at) _ (making_apart s at) (λ place.
    file_in_fair s now call body attributes created written meta place)

spot_fair : (s : Store) (now : Stamp) (session : ℕ) (call : Call) (access : Access) (mode : Mode) (dir on_close : Bool) (volume : Volume) (spot : Spot) → Fair (open_spot s now session call access mode dir on_close volume spot)
spot_fair s now session call access mode dir on_close volume (Taken node) =
    fair_then (of_kind dir node) _ (kind_apart dir node) (λ kind.
    fair_then (not_pending None node) _ (pending_apart None node) (λ standing. refl))
spot_fair s now session call access mode dir on_close volume (Free parent name) = refl

open_fair : (s : Store) (now : Stamp) (session : ℕ) (call : Call) (share : List ℕ) (path : List (List ℕ)) (access : Access) (mode : Mode) (how : How) (dir on_close : Bool) → Fair (smb_open s now session call share path access mode how dir on_close)
open_fair s now session call share path access mode how dir on_close =
    fair_then (volume_at s share None) _ (volume_apart s share None) (λ volume.
    fair_then (spot_at volume.tree path) _ (spot_apart volume.tree path) (λ spot.
    fair_then (spot_for how volume.tree spot) _ (spot_for_apart how volume.tree spot) (λ wanted.
    spot_fair s now session call access mode dir on_close volume wanted)))

fair_call : (s : Store) (now : Stamp) (e : Entry) (call : Call) → Fair (act_of s now e call)
fair_call s now e (ListShares c) = refl
fair_call s now e (CreateShare c) =
    fair_at (vacancy s c.share) (λ number. create_share s now c.share c.quota c.meta) (vacancy_apart s c.share) (λ p. refl)
fair_call s now e (GetShareProperties c) =
    fair_at (volume_at s c.share c.scope.snap) (get_share_properties s e.call) (volume_apart s c.share c.scope.snap) (λ p. refl)
fair_call s now e (SetShareProperties c) =
    fair_at (volume_at s c.share None) (set_share_properties s now e.call c.quota) (volume_apart s c.share None) (λ p. refl)
fair_call s now e (GetShareMetadata c) =
    fair_at (volume_at s c.share c.scope.snap) (get_share_metadata s e.call) (volume_apart s c.share c.scope.snap) (λ p. refl)
fair_call s now e (SetShareMetadata c) =
    fair_at (volume_at s c.share None) (set_share_metadata s now e.call c.meta) (volume_apart s c.share None) (λ p. refl)
fair_call s now e (DeleteShare c) =
    fair_at (share_at s c.share) (delete_share s e.call c.include) (share_apart s c.share) (λ p. refl)
fair_call s now e (DeleteSnapshot c) =
    fair_at (volume_at s c.share (Some c.moment)) (delete_snapshot s c.moment) (volume_apart s c.share (Some c.moment)) (λ p. refl)
fair_call s now e (SnapshotShare c) =
    fair_at (share_at s c.share) (snapshot_share s now c.meta) (share_apart s c.share) (λ p. refl)
fair_call s now e (LeaseShare c) =
    fair_at (volume_at s c.share None) (lease_share s c.action e.fresh) (volume_apart s c.share None) (λ p. fair_lease c.action _ _)
fair_call s now e (CreateDirectory c) = directory_fair s now c.at c.attributes c.created c.written c.meta
fair_call s now e (GetDirectoryProperties c) =
    fair_at (directory_place s c.at c.snap) (get_directory_properties s) (directory_apart s c.at c.snap) (λ p. refl)
fair_call s now e (GetDirectoryMetadata c) =
    fair_at (directory_place s c.at c.snap) (get_directory_metadata s) (directory_apart s c.at c.snap) (λ p. refl)
fair_call s now e (SetDirectoryMetadata c) =
    fair_at (directory_place s c.at None) (set_directory_metadata s now c.meta) (directory_apart s c.at None) (λ p. refl)
fair_call s now e (DeleteDirectory c) =
    fair_at (directory_place s c.at None) (delete_directory s e.call) (directory_apart s c.at None) (λ p. refl)
fair_call s now e (ListDirectory c) =
    fair_at (directory_place s c.at c.snap) (list_directory s c.prefix c.marker c.max) (directory_apart s c.at c.snap) (λ p. refl)
fair_call s now e (CreateFile c) =
    file_fair s now e.call c.at (new_file c.length c.content) c.attributes c.created c.written c.meta
fair_call s now e (GetFile c) =
    fair_at (file_place s c.at c.scope.snap) (get_file s e.call c.span) (file_apart s c.at c.scope.snap) (λ p. refl)
fair_call s now e (GetFileProperties c) =
    fair_at (file_place s c.at c.scope.snap) (get_file_properties s e.call) (file_apart s c.at c.scope.snap) (λ p. refl)
fair_call s now e (SetFileProperties c) =
    fair_at (file_place s c.at None) (set_file_properties s now e.call c.length c.content c.attributes c.created c.written) (file_apart s c.at None) (λ p. refl)
fair_call s now e (GetFileMetadata c) =
    fair_at (file_place s c.at c.scope.snap) (get_file_metadata s e.call) (file_apart s c.at c.scope.snap) (λ p. refl)
fair_call s now e (SetFileMetadata c) =
    fair_at (file_place s c.at None) (set_file_metadata s now e.call c.meta) (file_apart s c.at None) (λ p. refl)
fair_call s now e (UpdateRange c) =
    fair_at (file_place s c.at None) (update_range s now e.call c.update.from c.update.piece) (file_apart s c.at None) (λ p. refl)
fair_call s now e (ClearRange c) =
    fair_at (file_place s c.at None) (clear_range s now e.call c.range.from c.range.end) (file_apart s c.at None) (λ p. refl)
fair_call s now e (ListRanges c) =
    fair_at (file_place s c.at c.scope.snap) (list_ranges s e.call c.span) (file_apart s c.at c.scope.snap) (λ p. refl)
fair_call s now e (DeleteFile c) =
    fair_at (file_place s c.at None) (delete_file s e.call) (file_apart s c.at None) (λ p. refl)
fair_call s now e (LeaseFile c) =
    fair_at (file_place s c.at None) (lease_file s c.action e.fresh) (file_apart s c.at None) (λ p. fair_lease c.action _ _)
fair_call s now e (ListHandles c) =
    fair_at (node_place s c.at None) (list_handles s c.marker c.max c.recursive) (node_apart s c.at None) (λ p. refl)
fair_call s now e (ForceCloseHandles c) =
    fair_at (node_place s c.at None) (force_close_handles s c.handle c.recursive) (node_apart s c.at None) (λ p. refl)
fair_call s now e (Start c) = refl
fair_call s now e End = refl
fair_call s now e (SmbOpen c) =
    open_fair s now e.session e.call c.share c.path c.access.access c.mode c.how c.dir c.access.on_close
fair_call s now e (SmbClose c) =
    fair_at (handle_place s (handle_in e c.index) (access_needed e.call)) (smb_close s) (handle_apart s (handle_in e c.index) (access_needed e.call)) (λ p. refl)
fair_call s now e (SmbRead c) =
    fair_at (held_file s (handle_in e c.index) (access_needed e.call)) (smb_read s e.call c.range.at c.range.count) (held_file_apart s (handle_in e c.index) (access_needed e.call)) (λ p. refl)
fair_call s now e (SmbWrite c) =
    fair_at (held_file s (handle_in e c.index) (access_needed e.call)) (smb_write s now e.call c.write.at c.write.piece) (held_file_apart s (handle_in e c.index) (access_needed e.call)) (λ p. refl)
fair_call s now e (SmbResize c) =
    fair_at (held_file s (handle_in e c.index) (access_needed e.call)) (smb_resize s now e.call c.length) (held_file_apart s (handle_in e c.index) (access_needed e.call)) (λ p. refl)
fair_call s now e (SmbLock c) =
    fair_at (held_file s (handle_in e c.index) (access_needed e.call)) (smb_lock s c.range.from c.range.end c.exclusive) (held_file_apart s (handle_in e c.index) (access_needed e.call)) (λ p. refl)
fair_call s now e (SmbUnlock c) =
    fair_at (held_file s (handle_in e c.index) (access_needed e.call)) (smb_unlock s c.range.from c.range.end c.exclusive) (held_file_apart s (handle_in e c.index) (access_needed e.call)) (λ p. refl)
fair_call s now e (SmbStat c) =
    fair_at (handle_place s (handle_in e c.index) (access_needed e.call)) (smb_stat s) (handle_apart s (handle_in e c.index) (access_needed e.call)) (λ p. refl)
fair_call s now e (SmbList c) =
    fair_at (held_directory s (handle_in e c.index) (access_needed e.call)) (smb_list s c.marker c.max) (held_directory_apart s (handle_in e c.index) (access_needed e.call)) (λ p. refl)
fair_call s now e (SmbDispose c) =
    fair_at (handle_place s (handle_in e c.index) (access_needed e.call)) (smb_dispose s e.call c.on) (handle_apart s (handle_in e c.index) (access_needed e.call)) (λ p. refl)

pub fair : (a : Account) (e : Entry) → Fair (act_in a e)
fair a e = fair_call a.store (stamp_in a e) e e.call

-- The law.

-- a reply that is no refusal is none by any name
not_refused : (reply : Reply) (r : Refusal) → is_refused reply ≡ false → reply ≡ Refused r → ⊥
not_refused reply r fine is = true≢false (sym (ap is_refused is) ∙ fine)

refused_by : (s : Store) (act : Act) (o : Option Refusal) (r : Refusal) → is_refused act.reply ≡ false
    → ((unless_refused s act o).1 ≡ Refused r) ↔ (o ≡ Some r)
refused_by s act None r fine = (λ is. absurd (not_refused act.reply r fine is), λ is. cc)
refused_by s act (Some q) r fine = (λ is. cc, λ is. cc)

refused_in : (s : Store) (x : Result Act Refusal) (r : Refusal) → Fair x
    → ((outcome s x).1 ≡ Refused r) ↔ (first_in s x ≡ Some r)
refused_in s (Ok act) r fine = refused_by s act (first_check s act.checks) r fine
refused_in s (Err q) r fine = (λ is. cc, λ is. cc)

-- the reply is a refusal exactly where it is the first that applies
pub refused_is : (a : Account) (e : Entry) (r : Refusal) → ((step a e).1 ≡ Refused r) ↔ (first_refusal a e ≡ Some r)
refused_is a e r = refused_in a.store (act_in a e) r (fair a e)

kept_by : (s : Store) (act : Act) (o : Option Refusal) (r : Refusal) → o ≡ Some r → (unless_refused s act o).0 ≡ s
kept_by s act None r is = cc
kept_by s act (Some q) r is = refl

kept_in : (s : Store) (x : Result Act Refusal) (r : Refusal) → first_in s x ≡ Some r → (outcome s x).0 ≡ s
kept_in s (Ok act) r is = kept_by s act (first_check s act.checks) r is
kept_in s (Err q) r is = refl

-- a refused call leaves the store
pub refused_keeps : (a : Account) (e : Entry) (r : Refusal) → first_refusal a e ≡ Some r → (step a e).0.store ≡ a.store
refused_keeps a e r is = kept_in a.store (act_in a e) r is
