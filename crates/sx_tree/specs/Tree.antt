-- The nodes of a share, and what the calls of a tree make of them.
use Rattle.std.specs.Prelude.{ℕ, ◌==◌, Bool, true, if◌then◌else◌, List, [], ◌∷◌, length, sum_by, Option, Some, None}
use Rattle.std.specs.Prelude.{option_map, option_and_then}
use Rattle.std.specs.Ordering.{nat_cmp}
use Rattle.std.specs.Cmp.Lexicographic.{slice_cmp}
use Rattle.std.specs.BTreeMap.{is_at, insert_entry}
use Rattle.std.specs.Map.{lookup, remove_entry, values_of}
use Rattle.sx_base.specs.Entries.{value_at, change_at}
use Rattle.sx_names.specs.Names.{fold}
use Rattle.sx_tree.specs.declared.node.Facts.{Facts}
use Rattle.sx_tree.specs.declared.node.FileBody.{FileBody}
use Rattle.sx_tree.specs.declared.node.Kind.{Kind}
use Rattle.sx_tree.specs.declared.node.Kind.TheVariants.{Directory, File}
use Rattle.sx_tree.specs.declared.node.Node.{Node}
use Rattle.sx_tree.specs.Node.{body_of, is_directory, kind_use, root_facts}

-- what stands at an id: a node, its name but for the root, and the ids below it by their folded names, in order
pub record Slot : Type 0 where
  pub node : Node
  pub name : Option (List ℕ)
  pub below : List (List ℕ × ℕ)

-- a share's nodes, in order of id, and which of them is the root
pub record Nodes : Type 0 where
  pub root : ℕ
  pub slots : List (ℕ × Slot)

-- two folded names are the same
abbrev pub by_name : List ℕ → List ℕ → Bool
by_name name = is_at (slice_cmp nat_cmp name)

-- what stands at an id
abbrev pub slot_at : Nodes → ℕ → Option Slot
slot_at t id = value_at t.slots id

-- the node of an id
abbrev pub node_at : Nodes → ℕ → Option Node
node_at t id = option_map (λ s. s.node) (slot_at t id)

-- the facts of the node of an id
abbrev pub facts_at : Nodes → ℕ → Option Facts
facts_at t id = option_map (λ n. n.facts) (node_at t id)

-- the body of the file of an id
abbrev pub body_at : Nodes → ℕ → Option FileBody
body_at t id = option_and_then (λ n. body_of n.kind) (node_at t id)

-- how many granules are marked in the files of some slots
abbrev pub slots_use : List (ℕ × Slot) → ℕ
slots_use slots = sum_by (λ s. kind_use s.node.kind) (values_of slots)

-- how many granules are marked in what stands in a slot
abbrev pub slot_use : Option Slot → ℕ
slot_use None = 0
slot_use (Some s) = kind_use s.node.kind

-- how many granules are marked at an id
abbrev pub use_at : List (ℕ × Slot) → ℕ → ℕ
use_at slots id = slot_use (value_at slots id)

-- how many granules are marked in the files of a tree
unfoldable pub tree_use : Nodes → ℕ
tree_use t = slots_use t.slots

-- a root of an id, made at a moment by the entry at a place of the history, and nothing else
abbrev pub new_nodes : ℕ → ℕ → ℕ → Nodes
new_nodes root at place =
    let node : Node = record { id = root; parent = 0; facts = root_facts at place; kind = Directory } in
    record { root = root; slots = (root, record { node = node; name = None; below = [] }) ∷ [] }

-- what a folded name leads to: None where this is no directory, and in a directory the id under that name, if any
abbrev pub child_of : Option Slot → List ℕ → Option (Option ℕ)
child_of None name = None
child_of (Some s) name = if is_directory s.node.kind then Some (lookup (by_name name) s.below) else None

-- no name stands below a slot
abbrev pub has_none_below : Option Slot → Bool
has_none_below None = true
has_none_below (Some s) = length s.below == 0

-- no node stands in a directory
abbrev pub is_empty : Nodes → ℕ → Bool
is_empty t id = has_none_below (slot_at t id)

-- a slot with one more folded name below it
abbrev pub with_child : List ℕ → ℕ → Slot → Slot
with_child name id s = record s { below = insert_entry (slice_cmp nat_cmp) s.below name id }

-- a slot without a folded name below it
abbrev pub without_child : List ℕ → Slot → Slot
without_child name s = record s { below = remove_entry (by_name name) s.below }

-- one more node, under a name in a directory
abbrev pub with_node : Nodes → ℕ → List ℕ → Node → Nodes
with_node t parent name node = record t {
  slots = change_at parent (with_child (fold name) node.id)
      (insert_entry nat_cmp t.slots node.id (record { node = node; name = Some name; below = [] }));
}

-- the slots without a name in a directory
abbrev pub unlisted : ℕ → Option (List ℕ) → List (ℕ × Slot) → List (ℕ × Slot)
unlisted parent None slots = slots
unlisted parent (Some name) slots = change_at parent (without_child (fold name)) slots

-- the nodes without what stands in a slot, and without its name in its directory
abbrev pub without_slot : ℕ → Option Slot → Nodes → Nodes
without_slot id None t = t
without_slot id (Some s) t =
    record t { slots = unlisted s.node.parent s.name (remove_entry (is_at (nat_cmp id)) t.slots) }

-- the nodes without one of them
abbrev pub without_node : Nodes → ℕ → Nodes
without_node t id = without_slot id (slot_at t id) t

-- a slot with its node changed
abbrev pub slot_with : (Node → Node) → Slot → Slot
slot_with f s = record s { node = f s.node }

-- the nodes with what stands at an id changed
abbrev pub change_slot : ℕ → (Slot → Slot) → Nodes → Nodes
change_slot id f t = record t { slots = change_at id f t.slots }

-- what stands in a slot with other facts
abbrev pub with_facts : Facts → Slot → Slot
with_facts facts = slot_with (λ n. record n { facts = facts })

-- the nodes with other facts at an id
abbrev pub set_facts : ℕ → Facts → Nodes → Nodes
set_facts id facts = change_slot id (with_facts facts)

-- a file with its body changed; a directory has none
abbrev pub with_body : (FileBody → FileBody) → Kind → Kind
with_body g Directory = Directory
with_body g (File body) = File (g body)

-- what stands in a slot with the body of a file changed
abbrev pub body_changed : (FileBody → FileBody) → Slot → Slot
body_changed g = slot_with (λ n. record n { kind = with_body g n.kind })

-- the nodes with the body of the file of an id changed
abbrev pub change_body : ℕ → (FileBody → FileBody) → Nodes → Nodes
change_body id g = change_slot id (body_changed g)
