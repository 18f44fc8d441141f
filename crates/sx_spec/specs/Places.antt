-- Where a call acts: what its names and handles lead to. The checks of share, snapshot, parent, node, kind and pending,
-- and of
-- handle and access, stand here, each once.
use Rattle.std.specs.Prelude.{ℕ, ◌+◌, ◌-◌, length, slice_get, ◌&&◌, ◌||◌, Bool, true, false, not, if◌then◌else◌, List}
use Rattle.std.specs.Prelude.{Option, Some, None, option_map, unwrap_or, find, ok_or, Result, Ok, Err}
use Rattle.std.specs.List.{list_any}
use Rattle.sx_base.specs.Entries.{value_at}
use Rattle.sx_guard.specs.declared.access.Access.{Access}
use Rattle.sx_guard.specs.Handle.{Handle}
use Rattle.sx_lease.specs.declared.lease.LeaseState.{LeaseState}
use Rattle.sx_lease.specs.declared.lease.LeaseState.TheVariants.{Available}
use Rattle.sx_names.specs.declared.meta_pair.MetaPair.{MetaPair}
use Rattle.sx_call.specs.declared.targets.Target.{Target}
use Rattle.sx_call.specs.declared.opens.Open.{Open}
use Rattle.sx_call.specs.declared.refusals.Refusal.{Refusal}
use Rattle.sx_call.specs.declared.refusals.Refusal.TheVariants.{ShareAbsent, ShareThere, SnapshotAbsent, ParentAbsent}
use Rattle.sx_call.specs.declared.refusals.Refusal.TheVariants.{NameAbsent, NameThere, IsDirectory, IsFile, Pending}
use Rattle.sx_call.specs.declared.refusals.Refusal.TheVariants.{NoHandle, LacksAccess}
use Rattle.sx_call.specs.declared.shown.Stamp.{Stamp}
use Rattle.sx_tree.specs.declared.node.Node.{Node}
use Rattle.sx_tree.specs.declared.node.Kind.{Kind}
use Rattle.sx_tree.specs.declared.node.FileBody.{FileBody}
use Rattle.sx_tree.specs.declared.node.Kind.TheVariants.{Directory, File}
use Rattle.sx_tree.specs.declared.node.Found.{Found}
use Rattle.sx_tree.specs.declared.node.Found.TheVariants as found
use Rattle.sx_tree.specs.Tree.{Nodes, node_at}
use Rattle.sx_tree.specs.Find.{found_in}
use Rattle.sx_tree.specs.declared.share.Share.{Share}
use Rattle.sx_tree.specs.declared.share.Snapshot.{Snapshot}
use Rattle.sx_spec.specs.Shares.{share_stamp, is_of_moment}
use Rattle.sx_spec.specs.Account.{Store, has_name, share_named, open_of}

-- one look-up after another, as far as the first refusal
infixl 10 ◌>>=◌
abbrev pub ◌>>=◌ : {A B : Type 0} → Result A Refusal → (A → Result B Refusal) → Result B Refusal
Ok x >>= f = f x
Err r >>= f = Err r

-- The kinds of place.

-- What a call on a share looks into: the share as it stands, or as one of its snapshots keeps it, with no lease.
pub record Volume : Type 0 where
  pub number : ℕ
  pub snap : Option ℕ
  pub quota : ℕ
  pub meta : List MetaPair
  pub stamp : Stamp
  pub lease : LeaseState
  pub tree : Nodes

-- A directory or file, with what it stands in.
pub record NodePlace : Type 0 where
  pub volume : Volume
  pub node : Node

-- A file, with its body.
pub record FilePlace : Type 0 where
  pub volume : Volume
  pub node : Node
  pub body : FileBody

-- An open, with the node on which it stands.
pub record HandlePlace : Type 0 where
  pub held : Open
  pub volume : Volume
  pub node : Node

-- An open of a file, with the file's body.
pub record HeldFile : Type 0 where
  pub held : Open
  pub volume : Volume
  pub node : Node
  pub body : FileBody

-- Where a path leads whose parent is there: to a node, or to a name that is free in the directory of an id.
pub data Spot : Type 0 where
  Taken : Node → Spot
  Free : ℕ → List ℕ → Spot

-- The checks of share and snapshot.

-- the share of a name, with its number
abbrev pub share_at : Store → List ℕ → Result (ℕ × Share) Refusal
share_at s name = ok_or (share_named s name) ShareAbsent

-- the number for a share that is to be made under a name: no share has it yet
abbrev pub vacancy : Store → List ℕ → Result ℕ Refusal
vacancy s name = if list_any (has_name name) s.shares then Err ShareThere else Ok (s.made + 1)

-- a share as it stands
abbrev pub live_volume : ℕ → Share → Volume
live_volume number x = record {
  number = number;
  snap = None;
  quota = x.quota;
  meta = x.meta;
  stamp = share_stamp x;
  lease = x.lease;
  tree = x.tree;
}

-- a share as a snapshot keeps it
abbrev pub kept_volume : ℕ → Snapshot → Volume
kept_volume number x = record {
  number = number;
  snap = Some x.moment;
  quota = x.quota;
  meta = x.meta;
  stamp = record { changed = x.changed; etag = x.etag };
  lease = Available;
  tree = x.tree;
}

-- a share as it stands where no snapshot is named, else as the snapshot of that moment keeps it
abbrev pub volume_in : ℕ × Share → Option ℕ → Result Volume Refusal
volume_in x None = Ok (live_volume x.0 x.1)
volume_in x (Some moment) =
    ok_or (option_map (kept_volume x.0) (find (is_of_moment moment) x.1.snapshots)) (SnapshotAbsent moment)

-- the share of a name, as it stands or as a snapshot keeps it
abbrev pub volume_at : Store → List ℕ → Option ℕ → Result Volume Refusal
volume_at s name snap = do
  x ← share_at s name
  volume_in x snap

-- The checks of parent and node.

-- the last part of a path
abbrev pub last_part : List (List ℕ) → Option (List ℕ)
last_part path = slice_get path (length path - 1)

-- the spot to which a path was found to lead
abbrev pub spot_of : Nodes → List (List ℕ) → Found → Result Spot Refusal
spot_of t path (found.Node id) = ok_or (option_map Taken (node_at t id)) NameAbsent
spot_of t path (found.Missing parent) = ok_or (option_map (Free parent) (last_part path)) NameAbsent
spot_of t path (found.NoParent parts) = Err (ParentAbsent parts)

-- the spot to which a path leads
abbrev pub spot_at : Nodes → List (List ℕ) → Result Spot Refusal
spot_at t path = spot_of t path (found_in t path)

-- whether a node is delete-pending
abbrev pub is_pending : Nodes → ℕ → Bool
is_pending t id = unwrap_or (option_map (λ n. n.facts.pending) (node_at t id)) false

-- for a call that would make a name: the directory in which it is free isn't pending
abbrev pub may_make : Nodes → Spot → Result Spot Refusal
may_make t (Taken n) = Ok (Taken n)
may_make t (Free parent name) = if is_pending t parent then Err (Pending parent) else Ok (Free parent name)

-- for a call that wants a node: it is there
abbrev pub node_in : Spot → Result Node Refusal
node_in (Taken n) = Ok n
node_in (Free parent name) = Err NameAbsent

-- for a call that wants a new name: it is free, in this directory
abbrev pub free_in : Spot → Result (ℕ × List ℕ) Refusal
free_in (Taken n) = Err (NameThere n.id)
free_in (Free parent name) = Ok (parent, name)

-- The checks of kind and pending.

-- the body of a node of an id, which is to be a file
abbrev pub body_of : ℕ → Kind → Result FileBody Refusal
body_of id Directory = Err (IsDirectory id)
body_of id (File body) = Ok body

-- the body of a node that is to be a file
abbrev pub file_body : Node → Result FileBody Refusal
file_body n = body_of n.id n.kind

-- a node that is to be a directory
abbrev pub as_directory : Node → Kind → Result Node Refusal
as_directory n Directory = Ok n
as_directory n (File body) = Err (IsFile n.id)

-- a node that is to be a file
abbrev pub as_file : Node → Kind → Result Node Refusal
as_file n Directory = Err (IsDirectory n.id)
as_file n (File body) = Ok n

-- a node that is to be a directory, or else a file
abbrev pub of_kind : Bool → Node → Result Node Refusal
of_kind dir n = if dir then as_directory n n.kind else as_file n n.kind

-- a node that isn't pending; who reads a snapshot isn't asked
abbrev pub not_pending : Option ℕ → Node → Result Node Refusal
not_pending None n = if n.facts.pending then Err (Pending n.id) else Ok n
not_pending (Some moment) n = Ok n

-- Where REST calls act.

-- a node of any kind, pending or not
unfoldable pub node_place : Store → Target → Option ℕ → Result NodePlace Refusal
node_place s at snap = do
  volume ← volume_at s at.share snap
  spot ← spot_at volume.tree at.path
  node ← node_in spot
  Ok (record { volume = volume; node = node })

-- a directory that isn't pending
unfoldable pub directory_place : Store → Target → Option ℕ → Result NodePlace Refusal
directory_place s at snap = do
  p ← node_place s at snap
  directory ← of_kind true p.node
  standing ← not_pending snap directory
  Ok p

-- a node that is to be a file that isn't pending
abbrev pub file_at : Option ℕ → NodePlace → Result FilePlace Refusal
file_at snap p = do
  body ← file_body p.node
  standing ← not_pending snap p.node
  Ok (record { volume = p.volume; node = p.node; body = body })

-- a file that isn't pending
unfoldable pub file_place : Store → Target → Option ℕ → Result FilePlace Refusal
file_place s at snap = do
  p ← node_place s at snap
  file_at snap p

-- a spot where a name may be made, in a share as it stands
unfoldable pub making_place : Store → Target → Result (Volume × Spot) Refusal
making_place s at = do
  volume ← volume_at s at.share None
  spot ← spot_at volume.tree at.path
  makes ← may_make volume.tree spot
  Ok (volume, makes)

-- Where calls on handles act: the checks of handle and access.

-- whether an access has every right that is needed
abbrev pub has_rights : Access → Access → Bool
has_rights needed access =
    (not needed.read || access.read) && (not needed.write || access.write) && (not needed.delete || access.delete)

-- an open that has the access needed
abbrev pub with_access : Access → Open → Result Open Refusal
with_access needed o = if has_rights needed o.access then Ok o else Err (LacksAccess o.handle)

-- the open of a handle, with its node
unfoldable pub handle_place : Store → Handle → Access → Result HandlePlace Refusal
handle_place s handle needed = do
  o ← ok_or (open_of s handle) (NoHandle handle)
  share ← ok_or (value_at s.shares o.share) (NoHandle handle)
  node ← ok_or (node_at share.tree o.node) (NoHandle handle)
  held ← with_access needed o
  Ok (record { held = held; volume = live_volume o.share share; node = node })

-- the open of a handle that is to be one of a file
unfoldable pub held_file : Store → Handle → Access → Result HeldFile Refusal
held_file s handle needed = do
  p ← handle_place s handle needed
  body ← file_body p.node
  Ok (record { held = p.held; volume = p.volume; node = p.node; body = body })

-- the open of a handle that is to be one of a directory
unfoldable pub held_directory : Store → Handle → Access → Result HandlePlace Refusal
held_directory s handle needed = do
  p ← handle_place s handle needed
  directory ← of_kind true p.node
  Ok p
