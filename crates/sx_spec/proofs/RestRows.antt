-- Each step keeps an account whole: the calls of the REST door.
use Rattle.std.proofs.Common.{◌≡◌, ℕ, ◌+◌, ◌≤◌, true, false, Bool, not, List, length, Option, Some, None, refl, sym, ap}
use Rattle.std.proofs.Common.{◌∙◌, arith}
use Rattle.std.specs.Prelude.{IfSome, Ok, filter, find}
use Rattle.sx_base.specs.Clock.{greatest_moment}
use Rattle.sx_extent.proofs.FileLaws.{whole_blank}
use Rattle.sx_extent.proofs.UseLaws.{used_blank}
use Rattle.sx_extent.specs.Ranges.{SparseFile, IsWellFormed, most_bytes, used}
use Rattle.sx_guard.specs.Handle.{Handle}
use Rattle.sx_names.specs.Limits.{IsQuota}
use Rattle.sx_names.specs.Names.{is_share_name}
use Rattle.sx_names.specs.declared.attributes.Attributes.{Attributes}
use Rattle.sx_names.specs.declared.content.Content.{Content}
use Rattle.sx_names.specs.declared.meta_pair.MetaPair.{MetaPair}
use Rattle.sx_call.specs.declared.calls.Call.{Call}
use Rattle.sx_call.specs.declared.leases.LeaseAction.{LeaseAction}
use Rattle.sx_call.specs.declared.targets.Target.{Target}
use Rattle.sx_call.specs.declared.times.Time.{Time}
use Rattle.sx_call.specs.declared.refusals.Refusal.TheVariants as refusal
use Rattle.sx_call.specs.declared.shown.Stamp.{Stamp}
use Rattle.sx_tree.specs.Body.{with_ranges, update_within, clear_within, resized_by}
use Rattle.sx_tree.specs.declared.node.Facts.{Facts}
use Rattle.sx_tree.specs.declared.node.FileBody.{FileBody}
use Rattle.sx_tree.specs.declared.node.Kind.{Kind}
use Rattle.sx_tree.specs.declared.node.Kind.TheVariants.{Directory, File}
use Rattle.sx_tree.specs.declared.node.Node.{Node}
use Rattle.sx_tree.specs.Node.{is_directory, kind_use}
use Rattle.sx_tree.specs.Tree.{slot_at, tree_use, is_empty}
use Rattle.sx_spec.specs.Account.{Store, Account, has_name, is_in_share}
use Rattle.sx_spec.specs.Changes.{Act, close_all, delete_at, make_node}
use Rattle.sx_spec.specs.Checks.{first_check, file_checks}
use Rattle.sx_spec.specs.Facts.{with_write, with_metadata, with_lease, new_facts, facts_over, new_file, length_of}
use Rattle.sx_spec.specs.FileCalls.{new_node, make, create_directory, create_file, create_file_in, create_file_over}
use Rattle.sx_spec.specs.FileCalls.{set_directory_metadata, delete_directory, set_file_properties, set_file_metadata}
use Rattle.sx_spec.specs.FileCalls.{with_properties, changes_length, update_range, clear_range, delete_file}
use Rattle.sx_spec.specs.FileCalls.{lease_file, force_close_handles, is_matched}
use Rattle.sx_moment.specs.Moments.{IsShownMoment}
use Rattle.sx_call.specs.FieldLimits.{IsTime}
use Rattle.sx_spec.specs.Needs.{fresh_within, new_marks}
use Rattle.sx_spec.specs.Pages.{is_in_scope, scope}
use Rattle.sx_spec.specs.Places.{◌>>=◌, Volume, NodePlace, FilePlace, Spot, Taken, Free, share_at, vacancy, volume_at}
use Rattle.sx_spec.specs.Places.{directory_place, file_place, file_at, making_place, node_place, free_in}
use Rattle.sx_spec.specs.ShareCalls.{create_share, set_share_properties, set_share_metadata, delete_share}
use Rattle.sx_spec.specs.ShareCalls.{delete_snapshot, snapshot_share, lease_share, lease_after}
use Rattle.sx_spec.specs.Shares.{share_with_stamp}
use Rattle.sx_spec.specs.Step.{at_place, outcome}
use Rattle.sx_spec.specs.Whole.{IsWhole, AreMoments, IsFormed}
use Rattle.sx_spec.proofs.Closes.{close_all_whole, chosen_to_close, delete_whole}
use Rattle.sx_spec.proofs.Parts.{next, came_whole}
use Rattle.sx_spec.proofs.Placed.{ok_of, IsPlaced, share_live, volume_tree, directory_placed, file_in, file_placed}
use Rattle.sx_spec.proofs.Placed.{making_is, made_free, made_taken}
use Rattle.sx_spec.proofs.Walks.{path_named}
use Rattle.sx_spec.proofs.WholeNodes.{facts_whole, less_marks, resize_formed, resize_used, clear_formed, clear_used}
use Rattle.sx_spec.proofs.WholeNodes.{update_formed, update_used, quota_passed, new_moments, file_formed, file_unused}
use Rattle.sx_spec.proofs.WholeNodes.{make_whole, file_named, empty_below}
use Rattle.sx_spec.proofs.WholeShares.{add_whole, fields_whole, snapshot_whole, without_whole, drop_whole}
use Rattle.sx_spec.proofs.WholeSteps.{IsNamed, whole_act, whole_at, whole_then, passed, asks_pass, find_none}
use Rattle.sx_spec.proofs.WholeSteps.{refused_by, not_false, vacant, early_written, write_keeps, metadata_keeps}
use Rattle.sx_spec.proofs.WholeSteps.{over_keeps, properties_keep, put_placed, put_at}

-- Lookups.

-- the name that is free in a spot
pub free_is : (spot : Spot) (free : ℕ × List ℕ) → free_in spot ≡ Ok free → spot ≡ Free free.0 free.1
free_is (Taken n) free e = cc
free_is (Free parent name) free e = ap (λ (f : ℕ × List ℕ). Free f.0 f.1) (ok_of (parent, name) free e)

module _ (a : Account) (now : Stamp) (w : IsWhole a) (early : now.changed ≤ greatest_moment) where
  -- Shares.

  pub create_share_row : (name : List ℕ) (quota : ℕ) (meta : List MetaPair) → is_share_name name ≡ true → IsQuota quota
      → IsWhole (next a (outcome a.store (at_place (vacancy a.store name) (λ number. create_share a.store now name quota meta))).0)
  create_share_row name quota meta named within =
      whole_at a (vacancy a.store name) (λ number. create_share a.store now name quota meta) w
      (λ n e none. add_whole a now name quota meta w named within early (vacant a.store name n e))

  pub set_share_properties_row : (name : List ℕ) (call : Call) (quota : ℕ) → IsQuota quota
      → IsWhole (next a (outcome a.store (at_place (volume_at a.store name None) (set_share_properties a.store now call quota))).0)
  set_share_properties_row name call quota within =
      whole_at a (volume_at a.store name None) (set_share_properties a.store now call quota) w
      (λ v e none. fields_whole a v.number (λ x. record (share_with_stamp now x) { quota = quota }) w
      (λ x. record { name = refl; tree = refl; snapshots = refl; given = refl; quota = λ q. within; changed = λ c. early_written now.changed early }))

  pub set_share_metadata_row : (name : List ℕ) (call : Call) (meta : List MetaPair)
      → IsWhole (next a (outcome a.store (at_place (volume_at a.store name None) (set_share_metadata a.store now call meta))).0)
  set_share_metadata_row name call meta =
      whole_at a (volume_at a.store name None) (set_share_metadata a.store now call meta) w
      (λ v e none. fields_whole a v.number (λ x. record (share_with_stamp now x) { meta = meta }) w
      (λ x. record { name = refl; tree = refl; snapshots = refl; given = refl; quota = λ q. q; changed = λ c. early_written now.changed early }))

  pub delete_share_row : (name : List ℕ) (call : Call) (include : Bool)
      → IsWhole (next a (outcome a.store (at_place (share_at a.store name) (delete_share a.store call include))).0)
  delete_share_row name call include = whole_at a (share_at a.store name) (delete_share a.store call include) w
      (λ x e none. drop_whole a x.0 w (find_none (λ o. refusal.Shared o.handle) (find (is_in_share x.0) a.store.opens)
      (asks_pass a.store (delete_share a.store call include x).checks.asks (passed a.store (delete_share a.store call include x).checks none).asks).0))

  pub delete_snapshot_row : (name : List ℕ) (moment : ℕ)
      → IsWhole (next a (outcome a.store (at_place (volume_at a.store name (Some moment)) (delete_snapshot a.store moment))).0)
  delete_snapshot_row name moment =
      whole_at a (volume_at a.store name (Some moment)) (delete_snapshot a.store moment) w (λ v e none. without_whole a v.number moment w)

  pub snapshot_share_row : (name : List ℕ) (meta : List MetaPair)
      → IsWhole (next a (outcome a.store (at_place (share_at a.store name) (snapshot_share a.store now meta))).0)
  snapshot_share_row name meta = whole_at a (share_at a.store name) (snapshot_share a.store now meta) w
      (λ x e none. snapshot_whole a x.0 now.changed meta x.1 w early (share_live a name x w e))

  pub lease_share_row : (name : List ℕ) (action : LeaseAction) (fresh : ℕ)
      → IsWhole (next a (outcome a.store (at_place (volume_at a.store name None) (lease_share a.store action fresh))).0)
  lease_share_row name action fresh = whole_at a (volume_at a.store name None) (lease_share a.store action fresh) w
      (λ v e none. fields_whole a v.number (λ x. record x { lease = (lease_after action fresh v.lease).0 }) w
      (λ x. record { name = refl; tree = refl; snapshots = refl; given = refl; quota = λ q. q; changed = λ c. c }))

  -- Making.

  made_row : (at : Target) (v : Volume) (parent : ℕ) (name : List ℕ) (facts : Facts) (kind : Kind) → IsNamed at.path
      → making_place a.store at ≡ Ok (v, Free parent name)
      → facts.pending ≡ false → AreMoments facts → IsFormed kind → kind_use kind ≡ 0
      → IsWhole (next a (make_node v.number name (new_node a.store parent facts kind) a.store))
  made_row at v parent name facts kind named e pending moments formed unused =
      let (live, spot, spotted, makes) = making_is a at v (Free parent name) w e in
      make_whole a v at.path parent name (new_node a.store parent facts kind) w live (made_free a v at.path spot parent name w live named.parts spotted makes) refl refl pending moments formed unused

  pub create_directory_row : (at : Target) (attributes : Attributes) (created written : Option ℕ) (meta : List MetaPair) → IsNamed at.path → IfSome created IsShownMoment → IfSome written IsShownMoment
      → IsWhole (next a (outcome a.store (create_directory a.store now at attributes created written meta)).0)
  create_directory_row at attributes created written meta named c r =
      let facts : Facts = new_facts now attributes created written meta in
      whole_then a (making_place a.store at) (λ place. free_in place.1 >>= (λ free. Ok (make a.store place.0 free.1 (new_node a.store free.0 facts Directory)))) w
      (λ place e. whole_then a (free_in place.1) (λ free. Ok (make a.store place.0 free.1 (new_node a.store free.0 facts Directory))) w
      (λ free e1. whole_act a (make a.store place.0 free.1 (new_node a.store free.0 facts Directory)) w
      (λ none. made_row at place.0 free.0 free.1 facts Directory named (e ∙ ap (λ (s : Spot). Ok (place.0, s)) (free_is place.1 free e1)) refl
      (new_moments now attributes created written meta early c r) tt refl)))

  file_over_row : (at : Target) (call : Call) (bytes : ℕ) (content : Content) (attributes : Attributes) (created written : Option ℕ) (meta : List MetaPair) → IfSome created IsShownMoment → IfSome written IsShownMoment → bytes ≤ most_bytes
      → (v : Volume) (node : Node) → making_place a.store at ≡ Ok (v, Taken node)
      → IsWhole (next a (outcome a.store (create_file_in a.store now call (new_file bytes content) attributes created written meta (v, Taken node))).0)
  file_over_row at call bytes content attributes created written meta c r most v node e =
      let (live, spot, spotted, makes) = making_is a at v (Taken node) w e in
      let placed : IsPlaced a.store (record {
        volume =
            v;
        node = node;
      }) = record { live = live; node = (made_taken a v at.path spot node w live spotted makes).0 } in
      let over : FilePlace → Act =
      create_file_over a.store now call (facts_over now attributes created written meta) (new_file bytes content) in
      whole_then a (file_at None (record { volume = v; node = node })) (λ p. Ok (over p)) w
      (λ p e1. whole_act a (over p) w
      (λ none. put_placed a now w early p (λ old. new_file bytes content) (facts_over now attributes created written meta) (file_in a.store (record { volume = v; node = node }) p placed e1)
      (λ t q. less_marks (tree_use p.volume.tree) p.body (λ old. new_file bytes content) (λ f. whole_blank bytes most) (λ f. omega (arith, used_blank bytes)))
      (over_keeps now attributes created written meta early c r)))

  pub create_file_row : (at : Target) (call : Call) (bytes : ℕ) (content : Content) (attributes : Attributes) (created written : Option ℕ) (meta : List MetaPair) → IsNamed at.path → IfSome created IsShownMoment → IfSome written IsShownMoment → bytes ≤ most_bytes
      → IsWhole (next a (outcome a.store (create_file a.store now call at (new_file bytes content) attributes created written meta)).0)
  create_file_row at call bytes content attributes created written meta named c r most =
      whole_then a (making_place a.store at) (create_file_in a.store now call (new_file bytes content) attributes created written meta) w
      (λ place e. by place.0 place.1 e)
    where
      facts : Facts
      facts = new_facts now attributes created written meta

      by : (v : Volume) (spot : Spot) → making_place a.store at ≡ Ok (v, spot)
          → IsWhole (next a (outcome a.store (create_file_in a.store now call (new_file bytes content) attributes created written meta (v, spot))).0)
      by v (Taken node) e = file_over_row at call bytes content attributes created written meta c r most v node e
      by v (Free parent name) e =
          whole_act a (make a.store v name (new_node a.store parent facts (File (new_file bytes content)))) w
          (λ none. made_row at v parent name facts (File (new_file bytes content)) named e refl (new_moments now attributes created written meta early c r) (file_formed bytes content most) (file_unused bytes content))

  -- Directories.

  pub set_directory_metadata_row : (at : Target) (meta : List MetaPair)
      → IsWhole (next a (outcome a.store (at_place (directory_place a.store at None) (set_directory_metadata a.store now meta))).0)
  set_directory_metadata_row at meta =
      whole_at a (directory_place a.store at None) (set_directory_metadata a.store now meta) w
      (λ p e none. facts_whole a p.volume.number p.node.id (with_metadata now meta) w (metadata_keeps now meta early))

  pub delete_directory_row : (at : Target) (call : Call) → IsNamed at.path
      → IsWhole (next a (outcome a.store (at_place (directory_place a.store at None) (delete_directory a.store call))).0)
  delete_directory_row at call named = whole_at a (directory_place a.store at None) (delete_directory a.store call) w by
    where
      by : (p : NodePlace) → directory_place a.store at None ≡ Ok p
          → first_check a.store (delete_directory a.store call p).checks ≡ None
          → IsWhole (next a (delete_at p.volume.number p.node.id a.store))
      by p e none =
          let (placed, led, kind, stands) = directory_placed a at p w e in
          let live = placed.live in
          let tree_is : p.volume.tree ≡ live.share.tree = ap (λ (v : Volume). v.tree) live.is in
          let (y, there, has_name) =
          path_named a.store.next_id p.volume.tree (volume_tree a p.volume w live) at.path p.node.id named.some led in
          let empty =
          not_false (is_empty p.volume.tree p.node.id) (refused_by (not (is_empty p.volume.tree p.node.id)) p.node.id (passed a.store (delete_directory a.store call p).checks none).empty) in
          delete_whole a p.volume.number p.node.id live.share y w live.there (ap (λ t. slot_at t p.node.id) (sym tree_is) ∙ there) has_name (empty_below p.volume.tree p.node.id y there empty)

  -- Files.

  given_formed : (bytes : Option ℕ) (f : SparseFile) → IsWellFormed f → IsWellFormed (resized_by bytes f)
  given_formed None f h = h
  given_formed (Some bytes) f h = resize_formed bytes f h

  given_used : (bytes : Option ℕ) (f : SparseFile) → used (resized_by bytes f) ≤ used f
  given_used None f = omega arith
  given_used (Some bytes) f = resize_used bytes f

  pub set_file_properties_row : (at : Target) (call : Call) (bytes : Option ℕ) (content : Content) (attributes : Option Attributes) (created written : Time) → IsTime created → IsTime written
      → IsWhole (next a (outcome a.store (at_place (file_place a.store at None) (set_file_properties a.store now call bytes content attributes created written))).0)
  set_file_properties_row at call bytes content attributes created written c r =
      whole_at a (file_place a.store at None) (set_file_properties a.store now call bytes content attributes created written) w
      (λ p e none. put_at a now w early at p (λ old. record { ranges = resized_by bytes old.ranges; content = content }) (with_properties now (changes_length (length_of p.body) bytes) attributes created written) e
      (λ t q. less_marks (tree_use p.volume.tree) p.body (λ old. record { ranges = resized_by bytes old.ranges; content = content }) (λ f. given_formed bytes p.body.ranges f) (λ f. given_used bytes p.body.ranges))
      (properties_keep now (changes_length (length_of p.body) bytes) attributes created written early c r))

  pub set_file_metadata_row : (at : Target) (call : Call) (meta : List MetaPair)
      → IsWhole (next a (outcome a.store (at_place (file_place a.store at None) (set_file_metadata a.store now call meta))).0)
  set_file_metadata_row at call meta =
      whole_at a (file_place a.store at None) (set_file_metadata a.store now call meta) w
      (λ p e none. facts_whole a p.volume.number p.node.id (with_metadata now meta) w (metadata_keeps now meta early))

  pub update_range_row : (at : Target) (call : Call) (from : ℕ) (piece : List ℕ)
      → ((body : FileBody) → new_marks body call ≡ fresh_within from (from + length piece) body.ranges)
      → IsWhole (next a (outcome a.store (at_place (file_place a.store at None) (update_range a.store now call from piece))).0)
  unfolding file_checks
  update_range_row at call from piece marks =
      whole_at a (file_place a.store at None) (update_range a.store now call from piece) w
      (λ p e none. put_at a now w early at p (with_ranges (update_within from piece)) (with_write now) e
      (λ t q. record {
        formed = update_formed from piece p.body.ranges;
        bound =
            λ f h. omega (arith, update_used from piece p.body.ranges f, marks p.body, quota_passed call p.volume p.body q t.used (passed a.store (update_range a.store now call from piece p).checks none).quota);
      })
      (write_keeps now early))

  pub clear_range_row : (at : Target) (call : Call) (from end : ℕ)
      → IsWhole (next a (outcome a.store (at_place (file_place a.store at None) (clear_range a.store now call from end))).0)
  clear_range_row at call from end = whole_at a (file_place a.store at None) (clear_range a.store now call from end) w
      (λ p e none. put_at a now w early at p (with_ranges (clear_within from end)) (with_write now) e
      (λ t q. less_marks (tree_use p.volume.tree) p.body (with_ranges (clear_within from end)) (clear_formed from end p.body.ranges) (λ f. clear_used from end p.body.ranges))
      (write_keeps now early))

  pub delete_file_row : (at : Target) (call : Call)
      → IsWhole (next a (outcome a.store (at_place (file_place a.store at None) (delete_file a.store call))).0)
  delete_file_row at call = whole_at a (file_place a.store at None) (delete_file a.store call) w
      (λ p e none.
      let h = file_placed a at p w e in
      let live = h.live in
      let tree_is : p.volume.tree ≡ live.share.tree = ap (λ (v : Volume). v.tree) live.is in
      let there : slot_at live.share.tree p.node.id ≡ Some h.node.slot =
      ap (λ t. slot_at t p.node.id) (sym tree_is) ∙ h.node.there in
      let named =
      file_named a.store.next_id live.share.tree p.node.id h.node.slot (w.shares.each p.volume.number live.share live.there).tree there
      (ap (λ (n : Node). is_directory n.kind) h.node.is ∙ ap is_directory h.body) in
      delete_whole a p.volume.number p.node.id live.share h.node.slot w live.there there named.0 named.1)

  pub lease_file_row : (at : Target) (action : LeaseAction) (fresh : ℕ)
      → IsWhole (next a (outcome a.store (at_place (file_place a.store at None) (lease_file a.store action fresh))).0)
  lease_file_row at action fresh = whole_at a (file_place a.store at None) (lease_file a.store action fresh) w
      (λ p e none. facts_whole a p.volume.number p.node.id (with_lease (lease_after action fresh p.node.facts.lease).0) w
      (record { moments = λ x m. record { created = m.created; written = m.written; changed = m.changed }; pending = λ x. refl }))

  -- Handles.

  pub force_close_row : (at : Target) (handle : Option Handle) (recursive : Bool)
      → IsWhole (next a (outcome a.store (at_place (node_place a.store at None) (force_close_handles a.store handle recursive))).0)
  force_close_row at handle recursive =
      whole_at a (node_place a.store at None) (force_close_handles a.store handle recursive) w
      (λ p e none.
      let opens = filter (is_matched handle) (scope a.store p.volume.tree p.node.id recursive) in
      let s : Store = close_all opens a.store in
      came_whole (record { came = a.came; store = s })
      (close_all_whole a.came opens a.store w (chosen_to_close (is_matched handle) (is_in_scope p.volume.tree p.node.id recursive) a.store.opens w.opens.order)))
