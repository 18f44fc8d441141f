-- A call that reads a snapshot is answered as the same call of the share at rest: one row a call.
use Rattle.std.proofs.Common.{◌≡◌, ℕ, true, false, Bool, cond, List, [], ◌∷◌, Option, Some, None, refl, sym, ap, ◌∙◌}
use Rattle.std.proofs.Common.{subst, option_map, rules, tests}
use Rattle.std.specs.Prelude.{◌==◌, bytes_eq, Result, Ok, Err}
use Rattle.std.proofs.lemmas.Option.{same_Some}
use Rattle.std.proofs.lemmas.Slice.Eq.{bytes_eq-Decides}
use Rattle.sx_call.specs.declared.calls.Call.{Call}
use Rattle.sx_call.specs.declared.calls.Call.TheVariants.{GetShareProperties, GetShareMetadata, GetDirectoryProperties}
use Rattle.sx_call.specs.declared.calls.Call.TheVariants.{GetDirectoryMetadata, ListDirectory, GetFile}
use Rattle.sx_call.specs.declared.calls.Call.TheVariants.{GetFileProperties, GetFileMetadata, ListRanges}
use Rattle.sx_call.specs.declared.entries.Entry.{Entry}
use Rattle.sx_call.specs.declared.refusals.Refusal.{Refusal}
use Rattle.sx_call.specs.declared.refusals.Refusal.TheVariants as refusal
use Rattle.sx_call.specs.declared.shown.Stamp.{Stamp}
use Rattle.sx_call.specs.declared.targets.Target.{Target}
use Rattle.sx_tree.specs.declared.node.FileBody.{FileBody}
use Rattle.sx_tree.specs.declared.node.Kind.{Kind}
use Rattle.sx_tree.specs.declared.node.Kind.TheVariants.{Directory, File}
use Rattle.sx_tree.specs.declared.node.Node.{Node}
use Rattle.sx_tree.specs.declared.share.Snapshot.{Snapshot}
use Rattle.sx_tree.specs.Find.{found_in}
use Rattle.sx_tree.specs.Tree.{Nodes, Slot, slot_at}
use Rattle.sx_spec.specs.Account.{Store}
use Rattle.sx_spec.specs.Changes.{Act}
use Rattle.sx_spec.specs.Checks.{first_of, first_check, unchecked, file_checks, range_check}
use Rattle.sx_spec.specs.FileCalls.{get_directory_properties, get_directory_metadata, list_directory, get_file}
use Rattle.sx_spec.specs.FileCalls.{get_file_properties, get_file_metadata, list_ranges}
use Rattle.sx_spec.specs.Places.{◌>>=◌, Volume, NodePlace, FilePlace, Spot, Taken, Free, volume_at, kept_volume, spot_at}
use Rattle.sx_spec.specs.Places.{node_in, of_kind, as_directory, not_pending, body_of, file_at, node_place}
use Rattle.sx_spec.specs.Places.{directory_place, file_place}
use Rattle.sx_spec.specs.ShareCalls.{get_share_properties, get_share_metadata}
use Rattle.sx_spec.specs.SnapshotLaw.{is_moment, is_snapshot_of, reads_snapshot, without_snapshot, only_range}
use Rattle.sx_spec.specs.Step.{at_place, act_of, outcome, unless_refused}
use Rattle.sx_spec.specs.Whole.{IsAtRest}
use Rattle.sx_spec.proofs.Lists.{none_some, true_false, both_left, both_right}
use Rattle.sx_spec.proofs.Placed.{taken_in}
use Rattle.sx_spec.proofs.SnapshotPlain.{unmarked}

-- Checks.

-- of checks the one of the range alone
alone : (o : Option ℕ)
    → first_of (None ∷ None ∷ None ∷ option_map refusal.OutOfFile o ∷ None ∷ None ∷ []) ≡ option_map refusal.OutOfFile o
alone None = refl
alone (Some size) = refl

range_alone : (t : Store) (o : Option ℕ)
    → first_check t (record unchecked { range = o }) ≡ option_map refusal.OutOfFile o
unfolding first_check
range_alone t o = alone o

-- Places.

-- a node in a volume at the spot to which a path leads
abbrev nodes : Volume → Result Spot Refusal → Result NodePlace Refusal
nodes u spot = spot >>= (λ q. node_in q >>= (λ node. Ok (record { volume = u; node = node })))

-- a directory there
abbrev directories : Volume → Option ℕ → Result Spot Refusal → Result NodePlace Refusal
directories u snap spot =
    nodes u spot >>= (λ p. of_kind true p.node >>= (λ directory. not_pending snap directory >>= (λ standing. Ok p)))

-- a file there
abbrev files : Volume → Option ℕ → Result Spot Refusal → Result FilePlace Refusal
files u snap spot = nodes u spot >>= file_at snap

directory_is : (t : Store) (at : Target) (snap : Option ℕ) (u : Volume) → volume_at t at.share snap ≡ Ok u
    → directory_place t at snap ≡ directories u snap (spot_at u.tree at.path)
unfolding directory_place node_place
directory_is t at snap u e = rw e refl

file_is : (t : Store) (at : Target) (snap : Option ℕ) (u : Volume) → volume_at t at.share snap ≡ Ok u
    → file_place t at snap ≡ files u snap (spot_at u.tree at.path)
unfolding file_place node_place
file_is t at snap u e = rw e refl

-- who reads a snapshot isn't asked whether the node is pending
unasked : (moment : ℕ) (snap : Option ℕ) → is_moment moment snap ≡ true → (node : Node)
    → not_pending snap node ≡ Ok node
unasked moment None is node = absurd (true_false (sym is))
unasked moment (Some m) is node = refl

standing : (node : Node) → node.facts.pending ≡ false → not_pending None node ≡ Ok node
standing node is = ap (λ (b : Bool). cond {A = Result Node Refusal} b (Err (refusal.Pending node.id)) (Ok node)) is

node_rested : (o : Option Slot) (node : Node) → ((x : Slot) → o ≡ Some x → x.node.facts.pending ≡ false)
    → option_map (λ (x : Slot). x.node) o ≡ Some node → node.facts.pending ≡ false
node_rested None node rest e = absurd (none_some node e)
node_rested (Some x) node rest e = subst (λ (m : Node). m.facts.pending ≡ false) (same_Some _ _ e) (rest x refl)

-- the node of a path in a tree at rest isn't pending
path_rested : (t : Nodes) (path : List (List ℕ)) (node : Node) → IsAtRest t → spot_at t path ≡ Ok (Taken node)
    → node.facts.pending ≡ false
path_rested t path node rest e =
    let (id, led, there) = taken_in t path (found_in t path) node e in
    node_rested (slot_at t id) node (λ x at. (rest id x at).1) there

module _ (s r : Store) (number : ℕ) (kept : Snapshot) (rest : IsAtRest kept.tree) where
  -- what the snapshot keeps
  abbrev v : Volume
  v = kept_volume number kept

  -- a call's reply is that of a plain reading
  abbrev Same : Result Act Refusal → Result Act Refusal → Type 0
  Same x y = (outcome s x).1 ≡ (outcome r (only_range y)).1

  same_act : (act plain : Act) → first_check s act.checks ≡ option_map refusal.OutOfFile act.checks.range
      → act.reply ≡ plain.reply → act.checks.range ≡ plain.checks.range → Same (Ok act) (Ok plain)
  same_act act plain checked same ranged =
      rw (checked, ranged, range_alone r plain.checks.range) (by (option_map refusal.OutOfFile plain.checks.range))
    where
      by : (o : Option Refusal) → (unless_refused s act o).1
          ≡ (unless_refused r (record plain { checks = record unchecked { range = plain.checks.range } }) o).1
      by None = same
      by (Some q) = refl

  same_directory : (f g : NodePlace → Act) (snap : Option ℕ) (spot : Result Spot Refusal)
      → ((node : Node) → not_pending snap node ≡ Ok node)
      → ((node : Node) → spot ≡ Ok (Taken node) → node.facts.pending ≡ false)
      → ((node : Node) → Same (Ok (f (record { volume = v; node = node }))) (Ok (g (record { volume = unmarked v; node = node }))))
      → Same (at_place (directories v snap spot) f) (at_place (directories (unmarked v) None spot) g)
  same_directory f g snap (Err q) asked stands each = refl
  same_directory f g snap (Ok (Free parent name)) asked stands each = refl
  same_directory f g snap (Ok (Taken node)) asked stands each = by node.kind
    where
      by : (k : Kind)
          → Same (at_place (as_directory node k >>= (λ d. not_pending snap d >>= (λ standing. Ok (record { volume = v; node = node })))) f)
          (at_place (as_directory node k >>= (λ d. not_pending None d >>= (λ standing. Ok (record { volume = unmarked v; node = node })))) g)
      by Directory = rw (asked node, standing node (stands node refl)) (each node)
      by (File body) = refl

  same_file : (f g : FilePlace → Act) (snap : Option ℕ) (spot : Result Spot Refusal)
      → ((node : Node) → not_pending snap node ≡ Ok node)
      → ((node : Node) → spot ≡ Ok (Taken node) → node.facts.pending ≡ false)
      → ((node : Node) (body : FileBody) → Same (Ok (f (record { volume = v; node = node; body = body }))) (Ok (g (record { volume = unmarked v; node = node; body = body }))))
      → Same (at_place (files v snap spot) f) (at_place (files (unmarked v) None spot) g)
  same_file f g snap (Err q) asked stands each = refl
  same_file f g snap (Ok (Free parent name)) asked stands each = refl
  same_file f g snap (Ok (Taken node)) asked stands each = by node.kind
    where
      by : (k : Kind)
          → Same (at_place (body_of node.id k >>= (λ body. not_pending snap node >>= (λ standing. Ok (record { volume = v; node = node; body = body })))) f)
          (at_place (body_of node.id k >>= (λ body. not_pending None node >>= (λ standing. Ok (record { volume = unmarked v; node = node; body = body })))) g)
      by Directory = refl
      by (File body) = rw (asked node, standing node (stands node refl)) (each node body)

  -- Where a name and a moment lead to the snapshot, and the name to the share at rest.
  module _ (name : List ℕ) (moment : ℕ) (there : volume_at s name (Some moment) ≡ Ok v) (plain : volume_at r name None ≡ Ok (unmarked v)) where
    name_is : (share : List ℕ) (snap : Option ℕ) → is_snapshot_of name moment share snap ≡ true → share ≡ name
    name_is share snap is =
        (bytes_eq-Decides share name).0 (both_left (bytes_eq share name) (is_moment moment snap) is)

    moment_is : (snap : Option ℕ) → is_moment moment snap ≡ true → snap ≡ Some moment
    moment_is None is = absurd (true_false (sym is))
    moment_is (Some m) is = by_number m is
      where
        by_number : (m : ℕ) → (m == moment) ≡ true → ◌≡◌ {A = Option ℕ} (Some m) (Some moment)
        by_number m is = search (rules, tests)

    snap_is : (share : List ℕ) (snap : Option ℕ) → is_snapshot_of name moment share snap ≡ true
        → is_moment moment snap ≡ true
    snap_is share snap is = both_right (bytes_eq share name) (is_moment moment snap) is

    kept_at : (share : List ℕ) (snap : Option ℕ) → is_snapshot_of name moment share snap ≡ true
        → volume_at s share snap ≡ Ok v
    kept_at share snap is =
        ap (λ (n : List ℕ). volume_at s n snap) (name_is share snap is) ∙ ap (λ (m : Option ℕ). volume_at s name m) (moment_is snap (snap_is share snap is)) ∙ there

    plain_at : (share : List ℕ) (snap : Option ℕ) → is_snapshot_of name moment share snap ≡ true
        → volume_at r share None ≡ Ok (unmarked v)
    plain_at share snap is = ap (λ (n : List ℕ). volume_at r n None) (name_is share snap is) ∙ plain

    share_row : (share : List ℕ) (snap : Option ℕ) (f g : Volume → Act) → is_snapshot_of name moment share snap ≡ true
        → Same (Ok (f v)) (Ok (g (unmarked v)))
        → Same (at_place (volume_at s share snap) f) (at_place (volume_at r share None) g)
    share_row share snap f g is same = rw (kept_at share snap is, plain_at share snap is) same

    directory_row : (at : Target) (snap : Option ℕ) (f g : NodePlace → Act)
        → is_snapshot_of name moment at.share snap ≡ true
        → ((node : Node) → Same (Ok (f (record { volume = v; node = node }))) (Ok (g (record { volume = unmarked v; node = node }))))
        → Same (at_place (directory_place s at snap) f) (at_place (directory_place r at None) g)
    directory_row at snap f g is each =
        rw (directory_is s at snap v (kept_at at.share snap is), directory_is r at None (unmarked v) (plain_at at.share snap is))
        (same_directory f g snap (spot_at kept.tree at.path) (unasked moment snap (snap_is at.share snap is)) (λ node e. path_rested kept.tree at.path node rest e) each)

    file_row : (at : Target) (snap : Option ℕ) (f g : FilePlace → Act) → is_snapshot_of name moment at.share snap ≡ true
        → ((node : Node) (body : FileBody) → Same (Ok (f (record { volume = v; node = node; body = body }))) (Ok (g (record { volume = unmarked v; node = node; body = body }))))
        → Same (at_place (file_place s at snap) f) (at_place (file_place r at None) g)
    file_row at snap f g is each =
        rw (file_is s at snap v (kept_at at.share snap is), file_is r at None (unmarked v) (plain_at at.share snap is))
        (same_file f g snap (spot_at kept.tree at.path) (unasked moment snap (snap_is at.share snap is)) (λ node e. path_rested kept.tree at.path node rest e) each)

    -- the reply to a call that reads the snapshot is that of a plain reading
    pub same_reply : (now later : Stamp) (e : Entry) (call : Call) → reads_snapshot name moment call ≡ true
        → Same (act_of s now (record e { call = call }) call)
        (act_of r later (record e { call = without_snapshot call }) (without_snapshot call))
    unfolding first_check file_checks
    same_reply now later e (GetShareProperties c) is =
        share_row c.share c.scope.snap (get_share_properties s (GetShareProperties c)) (get_share_properties r (without_snapshot (GetShareProperties c))) is
        (same_act (get_share_properties s (GetShareProperties c) v) (get_share_properties r (without_snapshot (GetShareProperties c)) (unmarked v)) refl refl refl)
    same_reply now later e (GetShareMetadata c) is =
        share_row c.share c.scope.snap (get_share_metadata s (GetShareMetadata c)) (get_share_metadata r (without_snapshot (GetShareMetadata c))) is
        (same_act (get_share_metadata s (GetShareMetadata c) v) (get_share_metadata r (without_snapshot (GetShareMetadata c)) (unmarked v)) refl refl refl)
    same_reply now later e (GetDirectoryProperties c) is =
        directory_row c.at c.snap (get_directory_properties s) (get_directory_properties r) is (λ node. same_act (get_directory_properties s (record { volume = v; node = node })) (get_directory_properties r (record { volume = unmarked v; node = node })) refl refl refl)
    same_reply now later e (GetDirectoryMetadata c) is =
        directory_row c.at c.snap (get_directory_metadata s) (get_directory_metadata r) is (λ node. same_act (get_directory_metadata s (record { volume = v; node = node })) (get_directory_metadata r (record { volume = unmarked v; node = node })) refl refl refl)
    same_reply now later e (ListDirectory c) is =
        directory_row c.at c.snap (list_directory s c.prefix c.marker c.max) (list_directory r c.prefix c.marker c.max) is (λ node. same_act (list_directory s c.prefix c.marker c.max (record { volume = v; node = node })) (list_directory r c.prefix c.marker c.max (record { volume = unmarked v; node = node })) refl refl refl)
    same_reply now later e (GetFile c) is =
        file_row c.at c.scope.snap (get_file s (GetFile c) c.span) (get_file r (without_snapshot (GetFile c)) c.span) is (λ node body. same_act (get_file s (GetFile c) c.span (record { volume = v; node = node; body = body })) (get_file r (without_snapshot (GetFile c)) c.span (record { volume = unmarked v; node = node; body = body })) (alone (range_check (GetFile c) body)) refl refl)
    same_reply now later e (GetFileProperties c) is =
        file_row c.at c.scope.snap (get_file_properties s (GetFileProperties c)) (get_file_properties r (without_snapshot (GetFileProperties c))) is (λ node body. same_act (get_file_properties s (GetFileProperties c) (record { volume = v; node = node; body = body })) (get_file_properties r (without_snapshot (GetFileProperties c)) (record { volume = unmarked v; node = node; body = body })) refl refl refl)
    same_reply now later e (GetFileMetadata c) is =
        file_row c.at c.scope.snap (get_file_metadata s (GetFileMetadata c)) (get_file_metadata r (without_snapshot (GetFileMetadata c))) is (λ node body. same_act (get_file_metadata s (GetFileMetadata c) (record { volume = v; node = node; body = body })) (get_file_metadata r (without_snapshot (GetFileMetadata c)) (record { volume = unmarked v; node = node; body = body })) refl refl refl)
    same_reply now later e (ListRanges c) is =
        file_row c.at c.scope.snap (list_ranges s (ListRanges c) c.span) (list_ranges r (without_snapshot (ListRanges c)) c.span) is (λ node body. same_act (list_ranges s (ListRanges c) c.span (record { volume = v; node = node; body = body })) (list_ranges r (without_snapshot (ListRanges c)) c.span (record { volume = unmarked v; node = node; body = body })) (alone (range_check (ListRanges c) body)) refl refl)
    same_reply now later e call is = absurd (true_false (sym is))
