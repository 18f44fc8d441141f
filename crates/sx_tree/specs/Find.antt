-- What a path denotes in a tree.
use Rattle.std.specs.Prelude.{◌≡◌, ℕ, ◌+◌, ◌-◌, ◌<◌, ◌==◌, Bool, true, false, if◌then◌else◌, List, [], ◌∷◌, length}
use Rattle.std.specs.Prelude.{take}
use Rattle.std.specs.Prelude.{Option, Some, None}
use Rattle.sx_names.specs.Names.{fold}
use Rattle.sx_tree.specs.declared.node.Found.{Found}
use Rattle.sx_tree.specs.declared.node.Found.TheVariants as found
use Rattle.sx_tree.specs.Node.{is_directory}
use Rattle.sx_tree.specs.Tree.{Nodes, Slot, slot_at, child_of}

-- where a walk goes on from a directory of this id, to which so many parts led, by what the next name leads to
abbrev pub goes_on : ℕ → ℕ → Bool → Option (Option ℕ) → (ℕ → Found) → Found
goes_on id parts last None on = found.NoParent parts
goes_on id parts last (Some None) on = if last then found.Missing id else found.NoParent (parts + 1)
goes_on id parts last (Some (Some child)) on = on child

-- where a path leads from a node to which so many parts led
abbrev pub walk : Nodes → ℕ → ℕ → List (List ℕ) → Found
walk t id parts [] = found.Node id
walk t id parts (p ∷ ps) =
    goes_on id parts (length ps == 0) (child_of (slot_at t id) (fold p)) (λ child. walk t child (parts + 1) ps)

-- what a path leads to from the root
abbrev pub found_in : Nodes → List (List ℕ) → Found
found_in t path = walk t t.root 0 path

-- the id that a look-up of a name gives, if there is one
abbrev pub id_under : Option (Option ℕ) → Option ℕ
id_under None = None
id_under (Some child) = child

-- the id under a name in what stands in a slot, if there is one
abbrev pub named_in : Option Slot → List ℕ → Option ℕ
named_in s name = id_under (child_of s (fold name))

-- the id that a path has from a node on
abbrev pub id_from : Nodes → Option ℕ → List (List ℕ) → Option ℕ
id_from t None path = None
id_from t (Some id) [] = Some id
id_from t (Some id) (p ∷ ps) = id_from t (named_in (slot_at t id) p) ps

-- the map of a tree's paths: the id that a path has, if it leads to a node
abbrev pub id_of : Nodes → List (List ℕ) → Option ℕ
id_of t path = id_from t (Some t.root) path

-- what stands in a slot is a directory
abbrev pub holds_directory : Option Slot → Bool
holds_directory None = false
holds_directory (Some s) = is_directory s.node.kind

-- an id is a directory's
abbrev pub has_directory : Nodes → Option ℕ → Bool
has_directory t None = false
has_directory t (Some id) = holds_directory (slot_at t id)

-- a path leads to a directory
abbrev pub is_directory_at : Nodes → List (List ℕ) → Bool
is_directory_at t path = has_directory t (id_of t path)

-- no node has the path, and what it would stand in is the directory of an id
pub record IsMissing (t : Nodes) (path : List (List ℕ)) (parent : ℕ) : Type 0 where
  pub none : id_of t path ≡ None
  pub above : id_of t (take (length path - 1) path) ≡ Some parent
  pub directory : holds_directory (slot_at t parent) ≡ true

-- the shortest proper prefix of a path that is no directory has so many parts
pub record HasNoParent (t : Nodes) (path : List (List ℕ)) (parts : ℕ) : Type 0 where
  pub proper : parts < length path
  pub wrong : is_directory_at t (take parts path) ≡ false
  pub least : (n : ℕ) → n < parts → is_directory_at t (take n path) ≡ true

-- what a path denotes, by the map of paths: the node that has it, or why there is none
abbrev pub Denotes : Nodes → List (List ℕ) → Found → Type 0
Denotes t path (found.Node id) = id_of t path ≡ Some id
Denotes t path (found.Missing parent) = IsMissing t path parent
Denotes t path (found.NoParent parts) = HasNoParent t path parts
