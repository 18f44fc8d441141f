-- A tree at rest, as copies make it and as the definitions say it.
use Rattle.std.proofs.Common.{◌≡◌, ap, refl, ℕ, Bool, true, false, List, [], ◌∷◌, ◌&&◌, map}
use Rattle.sx_lease.specs.declared.lease.LeaseState.TheVariants.{Available}
use Rattle.sx_tree.specs.Tree.{Slot, Nodes, slot_with}
use Rattle.sx_tree.specs.Copies as copies
use Rattle.sx_spec.specs.Facts.{at_rest}
use Rattle.sx_spec.specs.Trees.{with_facts, tree_at_rest}

none_pending : (b : Bool) → (b && false) ≡ false
none_pending true = refl
none_pending false = refl

slot_at_rest : (s : Slot) → copies.copied_slot true s ≡ slot_with (with_facts at_rest) s
slot_at_rest s = ap (λ (b : Bool). record s { node = record s.node { facts = record s.node.facts { pending = b; lease = Available } } }) (none_pending s.node.facts.pending)

slots_at_rest : (es : List (ℕ × Slot)) → copies.copied_slots true es ≡ map (λ x. (x.0, slot_with (with_facts at_rest) x.1)) es
slots_at_rest [] = refl
slots_at_rest (e ∷ es) = λ i. (e.0, slot_at_rest e.1 i) ∷ slots_at_rest es i

-- a copy at rest is a tree at rest
pub copied_at_rest : (t : Nodes) → copies.at_rest t ≡ tree_at_rest t
unfolding tree_at_rest
copied_at_rest t = ap (λ (es : List (ℕ × Slot)). record t { slots = es }) (slots_at_rest t.slots)
