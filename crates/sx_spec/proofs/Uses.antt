-- How many granules are marked in a tree after each change of it.
use Rattle.std.proofs.Common.{◌≡◌, ℕ, ◌+◌, ◌≤◌, List, [], ◌∷◌, Option, Some, None, refl, sym, ap, ◌∙◌, arith}
use Rattle.std.proofs.Common.{option_map}
use Rattle.std.specs.Prelude.{unwrap_or, map}
use Rattle.std.specs.BTreeMap.{is_at, insert_entry}
use Rattle.std.specs.Map.{remove_entry, values_of, keys_of}
use Rattle.std.specs.List.Sorted.{IsStrictlySortedBy}
use Rattle.std.specs.Ordering.{nat_cmp}
use Rattle.std.proofs.lemmas.Cmp.{nat_cmp_total}
use Rattle.std.proofs.lemmas.List.Sums.{sum_by-cons}
use Rattle.std.proofs.lemmas.Map.Entries.{sum_by-set_value, sum_by-insert_entry, sum_by-remove_entry}
use Rattle.sx_base.specs.Entries.{value_at, with_value, change_at}
use Rattle.sx_names.specs.Names.{fold}
use Rattle.sx_tree.specs.declared.node.Node.{Node}
use Rattle.sx_tree.specs.Node.{kind_use}
use Rattle.sx_tree.specs.Tree.{Nodes, Slot, slot_at, slots_use, tree_use, slot_with, with_node, with_child}
use Rattle.sx_tree.specs.Tree.{without_child, unlisted, without_slot, without_node}
use Rattle.sx_spec.specs.Facts.{at_rest}
use Rattle.sx_spec.specs.Trees.{with_facts, change_node, tree_at_rest}

-- a slot changed: its use goes, and that of what it becomes comes
slots_changed : (id : ℕ) (g : Slot → Slot) (slots : List (ℕ × Slot)) (x : Slot) → value_at slots id ≡ Some x
    → slots_use (change_at id g slots) + kind_use x.node.kind ≡ slots_use slots + kind_use (g x).node.kind
slots_changed id g slots x at =
    rw at (sum_by-set_value (λ (s : Slot). kind_use s.node.kind) (is_at (nat_cmp id)) slots x (g x) at)

-- a node changed
pub use_changed : (id : ℕ) (f : Node → Node) (t : Nodes) (x : Slot) → slot_at t id ≡ Some x
    → tree_use (change_node id f t) + kind_use x.node.kind ≡ tree_use t + kind_use (f x.node).kind
unfolding tree_use
use_changed id f t x at = slots_changed id (slot_with f) t.slots x at

same_by : (id : ℕ) (g : Slot → Slot) (slots : List (ℕ × Slot)) (o : Option Slot)
    → ((s : Slot) → kind_use (g s).node.kind ≡ kind_use s.node.kind) → value_at slots id ≡ o
    → slots_use (change_at id g slots) ≡ slots_use slots
same_by id g slots None same at = ap (λ (p : Option Slot). slots_use (with_value id slots (option_map g p))) at
same_by id g slots (Some x) same at = omega (arith, slots_changed id g slots x at, same x)

-- a change of slots that leaves the nodes
slots_same : (id : ℕ) (g : Slot → Slot) (slots : List (ℕ × Slot))
    → ((s : Slot) → kind_use (g s).node.kind ≡ kind_use s.node.kind)
    → slots_use (change_at id g slots) ≡ slots_use slots
slots_same id g slots same = same_by id g slots (value_at slots id) same refl

-- a change of facts leaves the use
pub use_kept : (id : ℕ) (f : Node → Node) (t : Nodes) → ((n : Node) → kind_use (f n).kind ≡ kind_use n.kind)
    → tree_use (change_node id f t) ≡ tree_use t
unfolding tree_use
use_kept id f t same = slots_same id (slot_with f) t.slots (λ s. same s.node)

inserted_use : (id : ℕ) (s : Slot) (slots : List (ℕ × Slot)) → IsStrictlySortedBy nat_cmp (keys_of slots)
    → value_at slots id ≡ None
    → slots_use (insert_entry nat_cmp slots id s) ≡ slots_use slots + kind_use s.node.kind
inserted_use id s slots sorted none =
    let e = sum_by-insert_entry (λ (s : Slot). kind_use s.node.kind) nat_cmp_total slots id s sorted in
    let z : unwrap_or (option_map (λ (s : Slot). kind_use s.node.kind) (value_at slots id)) 0 ≡ 0 =
    ap (λ (o : Option Slot). unwrap_or (option_map (λ (s : Slot). kind_use s.node.kind) o) 0) none in
    omega (arith, e, z)

-- one node more
pub use_grown : (t : Nodes) (parent : ℕ) (name : List ℕ) (node : Node) → IsStrictlySortedBy nat_cmp (keys_of t.slots)
    → slot_at t node.id ≡ None
    → tree_use (with_node t parent name node) ≡ tree_use t + kind_use node.kind
unfolding tree_use
use_grown t parent name node sorted none =
    let more : List (ℕ × Slot) =
    insert_entry nat_cmp t.slots node.id (record { node = node; name = Some name; below = [] }) in
    slots_same parent (with_child (fold name) node.id) more (λ s. refl)
    ∙ inserted_use node.id (record { node = node; name = Some name; below = [] }) t.slots sorted none

removed_use : (id : ℕ) (slots : List (ℕ × Slot)) → slots_use (remove_entry (is_at (nat_cmp id)) slots) ≤ slots_use slots
removed_use id slots =
    let e = sum_by-remove_entry (λ (s : Slot). kind_use s.node.kind) (is_at (nat_cmp id)) slots in omega (arith, e)

unlisted_use : (parent : ℕ) (name : Option (List ℕ)) (slots : List (ℕ × Slot))
    → slots_use (unlisted parent name slots) ≡ slots_use slots
unlisted_use parent None slots = refl
unlisted_use parent (Some name) slots = slots_same parent (without_child (fold name)) slots (λ s. refl)

dropped_by : (id : ℕ) (o : Option Slot) (t : Nodes) → slots_use (without_slot id o t).slots ≤ slots_use t.slots
dropped_by id None t = omega arith
dropped_by id (Some s) t =
    let e = unlisted_use s.node.parent s.name (remove_entry (is_at (nat_cmp id)) t.slots) in
    let r = removed_use id t.slots in
    omega (arith, e, r)

-- one node less
pub use_dropped : (t : Nodes) (id : ℕ) → tree_use (without_node t id) ≤ tree_use t
unfolding tree_use
use_dropped t id = dropped_by id (slot_at t id) t

rested_use : (slots : List (ℕ × Slot))
    → slots_use (map (λ x. (x.0, slot_with (with_facts at_rest) x.1)) slots) ≡ slots_use slots
rested_use [] = refl
rested_use (x ∷ xs) =
    let r : List (ℕ × Slot) = map (λ x. (x.0, slot_with (with_facts at_rest) x.1)) xs in
    sum_by-cons (λ (s : Slot). kind_use s.node.kind) (slot_with (with_facts at_rest) x.1) (values_of r)
    ∙ ap (λ (k : ℕ). kind_use x.1.node.kind + k) (rested_use xs)
    ∙ sym (sum_by-cons (λ (s : Slot). kind_use s.node.kind) x.1 (values_of xs))

-- a tree at rest
pub use_rested : (t : Nodes) → tree_use (tree_at_rest t) ≡ tree_use t
unfolding tree_use tree_at_rest
use_rested t = rested_use t.slots
