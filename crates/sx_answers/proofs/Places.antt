-- A place that isn't found is refused by what is printed. Which replies are printed is a parameter, of which is known
-- that it takes the refusals that both doors have.
use Rattle.std.specs.Prelude.{◌≡◌, ℕ, Bool, true, false, cond, List, Option, Some, None, option_map, ok_or, Result}
use Rattle.std.specs.Prelude.{Ok, Err}
use Rattle.sx_guard.specs.Handle.{Handle}
use Rattle.sx_guard.specs.Locks.{RangeLock}
use Rattle.sx_call.specs.declared.refusals.Refusal.{Refusal}
use Rattle.sx_call.specs.declared.refusals.Refusal.TheVariants as refusal
use Rattle.sx_call.specs.declared.replies.Reply.{Reply}
use Rattle.sx_call.specs.declared.replies.Reply.TheVariants.{Refused}
use Rattle.sx_tree.specs.declared.node.Found.{Found}
use Rattle.sx_tree.specs.declared.node.Found.TheVariants as found
use Rattle.sx_tree.specs.declared.node.Kind.{Kind}
use Rattle.sx_tree.specs.declared.node.Kind.TheVariants.{Directory, File}
use Rattle.sx_tree.specs.declared.node.Node.{Node}
use Rattle.sx_tree.specs.Tree.{Nodes, node_at}
use Rattle.sx_tree.specs.Find.{found_in}
use Rattle.sx_spec.specs.Account.{Store, share_named}
use Rattle.sx_spec.specs.Places.{◌>>=◌, Spot, Taken, Free, share_at, volume_in, volume_at, last_part, spot_of, spot_at}
use Rattle.sx_spec.specs.Places.{is_pending, may_make, node_in, free_in, body_of, file_body, as_directory, as_file}
use Rattle.sx_spec.specs.Places.{of_kind, not_pending}

-- a place is found, or what refuses it is printed
abbrev pub IsFound : {A : Type 0} → (Reply → Bool) → Result A Refusal → Type 0
IsFound prints (Ok x) = Unit {0}
IsFound prints (Err r) = prints (Refused r) ≡ true

-- the refusals that both doors have are printed
pub record PrintsCommon (prints : Reply → Bool) : Type 0 where
  pub no_share : prints (Refused refusal.ShareAbsent) ≡ true
  pub no_parent : (parts : ℕ) → prints (Refused (refusal.ParentAbsent parts)) ≡ true
  pub no_name : prints (Refused refusal.NameAbsent) ≡ true
  pub there : (id : ℕ) → prints (Refused (refusal.NameThere id)) ≡ true
  pub directory : (id : ℕ) → prints (Refused (refusal.IsDirectory id)) ≡ true
  pub file : (id : ℕ) → prints (Refused (refusal.IsFile id)) ≡ true
  pub pending : (id : ℕ) → prints (Refused (refusal.Pending id)) ≡ true
  pub read_only : (id : ℕ) → prints (Refused (refusal.ReadOnly id)) ≡ true
  pub leased : prints (Refused refusal.LeaseHeld) ≡ true
  pub shared : (handle : Handle) → prints (Refused (refusal.Shared handle)) ≡ true
  pub locked : (held : RangeLock) → prints (Refused (refusal.Locked held)) ≡ true
  pub quota : (used more limit : ℕ) → prints (Refused (refusal.QuotaMet used more limit)) ≡ true

-- Look-ups.

module _ (prints : Reply → Bool) where
  pub found_then : {A B : Type 0} (r : Result A Refusal) (f : A → Result B Refusal) → IsFound prints r
      → ((x : A) → IsFound prints (f x)) → IsFound prints (r >>= f)
  found_then (Ok x) f first rest = rest x
  found_then (Err q) f first rest = first

  pub found_or : {A : Type 0} (o : Option A) (r : Refusal) → prints (Refused r) ≡ true → IsFound prints (ok_or o r)
  found_or None r printed = printed
  found_or (Some x) r printed = tt

  pub found_if : {A : Type 0} (b : Bool) (r : Refusal) (x : A) → prints (Refused r) ≡ true
      → IsFound prints (cond {A = Result A Refusal} b (Err r) (Ok x))
  found_if true r x printed = printed
  found_if false r x printed = tt

  pub found_unless : {A : Type 0} (b : Bool) (r : Refusal) (x : A) → prints (Refused r) ≡ true
      → IsFound prints (cond {A = Result A Refusal} b (Ok x) (Err r))
  found_unless true r x printed = tt
  found_unless false r x printed = printed

-- Places of both doors.

module _ {prints : Reply → Bool} (k : PrintsCommon prints) where
  pub share_found : (s : Store) (name : List ℕ) → IsFound prints (share_at s name)
  share_found s name = found_or prints (share_named s name) refusal.ShareAbsent k.no_share

  -- a share as it stands
  pub live_found : (s : Store) (name : List ℕ) → IsFound prints (volume_at s name None)
  live_found s name = found_then prints (share_at s name) (λ x. volume_in x None) (share_found s name) (λ x. tt)

  spot_of_found : (t : Nodes) (path : List (List ℕ)) (found : Found) → IsFound prints (spot_of t path found)
  spot_of_found t path (found.Node id) =
      found_or prints (option_map Taken (node_at t id)) refusal.NameAbsent k.no_name
  spot_of_found t path (found.Missing parent) =
      found_or prints (option_map (Free parent) (last_part path)) refusal.NameAbsent k.no_name
  spot_of_found t path (found.NoParent parts) = k.no_parent parts

  pub spot_found : (t : Nodes) (path : List (List ℕ)) → IsFound prints (spot_at t path)
  spot_found t path = spot_of_found t path (found_in t path)

  pub make_found : (t : Nodes) (spot : Spot) → IsFound prints (may_make t spot)
  make_found t (Taken n) = tt
  make_found t (Free parent name) =
      found_if prints (is_pending t parent) (refusal.Pending parent) (Free parent name) (k.pending parent)

  pub node_in_found : (spot : Spot) → IsFound prints (node_in spot)
  node_in_found (Taken n) = tt
  node_in_found (Free parent name) = k.no_name

  pub free_found : (spot : Spot) → IsFound prints (free_in spot)
  free_found (Taken n) = k.there n.id
  free_found (Free parent name) = tt

  body_of_found : (id : ℕ) (kind : Kind) → IsFound prints (body_of id kind)
  body_of_found id Directory = k.directory id
  body_of_found id (File body) = tt

  pub body_found : (n : Node) → IsFound prints (file_body n)
  body_found n = body_of_found n.id n.kind

  directory_found_by : (n : Node) (kind : Kind) → IsFound prints (as_directory n kind)
  directory_found_by n Directory = tt
  directory_found_by n (File body) = k.file n.id

  file_found_by : (n : Node) (kind : Kind) → IsFound prints (as_file n kind)
  file_found_by n Directory = k.directory n.id
  file_found_by n (File body) = tt

  kind_found_by : (dir : Bool) (n : Node)
      → IsFound prints (cond {A = Result Node Refusal} dir (as_directory n n.kind) (as_file n n.kind))
  kind_found_by true n = directory_found_by n n.kind
  kind_found_by false n = file_found_by n n.kind

  pub kind_found : (dir : Bool) (n : Node) → IsFound prints (of_kind dir n)
  kind_found dir n = kind_found_by dir n

  pub standing_found : (snap : Option ℕ) (n : Node) → IsFound prints (not_pending snap n)
  standing_found None n = found_if prints n.facts.pending (refusal.Pending n.id) n (k.pending n.id)
  standing_found (Some moment) n = tt
