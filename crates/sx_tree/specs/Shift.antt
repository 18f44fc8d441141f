-- A node that gets another directory and another name.
use Rattle.std.specs.Prelude.{ℕ, ◌==◌, ◌&&◌, Bool, false, if◌then◌else◌, List, Option, Some, None, bytes_eq}
use Rattle.std.specs.Prelude.{is_some}
use Rattle.std.specs.Prelude.{option_and_then}
use Rattle.std.specs.Ordering.{nat_cmp}
use Rattle.std.specs.BTreeMap.{is_at}
use Rattle.std.specs.Map.{remove_entry}
use Rattle.sx_base.specs.Entries.{value_at, change_at}
use Rattle.sx_names.specs.Names.{fold}
use Rattle.sx_tree.specs.Tree.{Nodes, Slot, slot_at, child_of, with_child, without_child}

-- a child of another id than one
abbrev pub other_child : ℕ → Option (Option ℕ) → Option ℕ
other_child id None = None
other_child id (Some None) = None
other_child id (Some (Some child)) = if child == id then None else Some child

-- the id of another node that stands under a folded name in a directory, if there is one
abbrev pub replaced_at : List (ℕ × Slot) → ℕ → ℕ → List ℕ → Option ℕ
replaced_at slots id parent name = other_child id (child_of (value_at slots parent) name)

-- the slots without that of an id, if there is one
abbrev pub without_replaced : Option ℕ → List (ℕ × Slot) → List (ℕ × Slot)
without_replaced None slots = slots
without_replaced (Some id) slots = remove_entry (is_at (nat_cmp id)) slots

-- what stands in a slot, in another directory and under another name
abbrev pub relocated : ℕ → List ℕ → Slot → Slot
relocated parent name s = record s { node = record s.node { parent = parent }; name = Some name }

-- there is a name, which is the same as another but for its spelling
abbrev pub is_named : Option (List ℕ) → List ℕ → Bool
is_named None name = false
is_named (Some kept) name = bytes_eq (fold kept) (fold name)

-- the directory and the name of what stands in a slot, where they aren't these but for the name's spelling
abbrev pub left_place : ℕ → List ℕ → Slot → Option (ℕ × List ℕ)
left_place parent name s =
    if s.node.parent == parent && is_named s.name name then None else place s.name where
      place : Option (List ℕ) → Option (ℕ × List ℕ)
      place None = None
      place (Some kept) = Some (s.node.parent, kept)

-- the slots without a name in a directory, if there is one
abbrev pub without_place : Option (ℕ × List ℕ) → List (ℕ × Slot) → List (ℕ × Slot)
without_place None slots = slots
without_place (Some (parent, name)) slots = change_at parent (without_child (fold name)) slots

-- the slots with a node in another directory and under another name, and no more listed where it was
abbrev pub relist : ℕ → ℕ → List ℕ → List (ℕ × Slot) → List (ℕ × Slot)
relist id parent name slots =
    without_place (option_and_then (left_place parent name) (value_at slots id))
    (change_at id (relocated parent name) slots)

-- a node gets another directory and another name, and another node that stands there goes
abbrev pub shift : ℕ → ℕ → List ℕ → Nodes → Nodes
shift id parent name t =
    let listed = change_at parent (with_child (fold name) id) t.slots in
    let slots = without_replaced (replaced_at t.slots id parent (fold name)) listed in
    if is_some (slot_at t id) then record t { slots = relist id parent name slots } else t
