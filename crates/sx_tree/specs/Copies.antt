-- Copies of a tree: an equal one, and the one that a snapshot keeps.
use Rattle.std.specs.Prelude.{ℕ, ◌&&◌, Bool, true, not, if◌then◌else◌, List, map}
use Rattle.sx_lease.specs.declared.lease.LeaseState.TheVariants.{Available}
use Rattle.sx_tree.specs.declared.node.Facts.{Facts}
use Rattle.sx_tree.specs.declared.node.Node.{Node}
use Rattle.sx_tree.specs.Tree.{Nodes, Slot, slot_with}

-- facts, and at rest, which is with no lease held and no deletion pending, where that is asked for
abbrev pub copied_facts : Bool → Facts → Facts
copied_facts rest f =
    record f { pending = f.pending && not rest; lease = if rest then Available else f.lease }

-- a node, its facts at rest where that is asked for
abbrev pub copied_node : Bool → Node → Node
copied_node rest n = record n { facts = copied_facts rest n.facts }

-- a slot, its node's facts at rest where that is asked for
abbrev pub copied_slot : Bool → Slot → Slot
copied_slot rest = slot_with (copied_node rest)

-- the slots, all facts at rest where that is asked for
abbrev pub copied_slots : Bool → List (ℕ × Slot) → List (ℕ × Slot)
copied_slots rest slots = map (λ e. (e.0, copied_slot rest e.1)) slots

-- a tree at rest: every lease available, every pending mark off
abbrev pub at_rest : Nodes → Nodes
at_rest t = record t { slots = copied_slots true t.slots }
