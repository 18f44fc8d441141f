-- What calls make of a tree.
use Rattle.std.specs.Prelude.{ℕ, Bool, if◌then◌else◌, map}
use Rattle.sx_call.specs.declared.replies.Fate.{Fate}
use Rattle.sx_call.specs.declared.replies.Fate.TheVariants.{Kept, Pending, Gone}
use Rattle.sx_tree.specs.declared.node.Facts.{Facts}
use Rattle.sx_tree.specs.declared.node.FileBody.{FileBody}
use Rattle.sx_tree.specs.declared.node.Node.{Node}
use Rattle.sx_tree.specs.Tree.{Nodes, slot_with, change_slot, with_body, without_node}
use Rattle.sx_spec.specs.Facts.{as_pending, at_rest}

-- a node with its facts changed
abbrev pub with_facts : (Facts → Facts) → Node → Node
with_facts f n = record n { facts = f n.facts }

-- a file with its body and its facts changed
abbrev pub with_file : (FileBody → FileBody) → (Facts → Facts) → Node → Node
with_file g f n = record n { facts = f n.facts; kind = with_body g n.kind }

-- a tree with a node changed
abbrev pub change_node : ℕ → (Node → Node) → Nodes → Nodes
change_node id f t = change_slot id (slot_with f) t

-- What becomes of a node that is deleted, or whose open is closed: it stays as it is, is pending, or goes.
abbrev pub settle : Fate → ℕ → Nodes → Nodes
settle Kept id t = t
settle Pending id t = change_node id (with_facts as_pending) t
settle Gone id t = without_node t id

-- a node that is to go goes where nothing is open on it, and else is pending
abbrev pub fate_of : Bool → Bool → Fate
fate_of goes is_open = if goes then (if is_open then Pending else Gone) else Kept

-- a tree at rest: every lease available, no node pending
unfoldable pub tree_at_rest : Nodes → Nodes
tree_at_rest t = record t { slots = map (λ x. (x.0, slot_with (with_facts at_rest) x.1)) t.slots }
