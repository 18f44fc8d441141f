-- What a copy of the slots leaves.
use Rattle.std.proofs.Common.{◌≡◌, ℕ, Bool, true, false, List, [], ◌∷◌, ◌&&◌, not, refl, ap}
use Rattle.sx_tree.specs.Tree.{Slot}
use Rattle.sx_tree.specs.Copies.{copied_slot, copied_slots}

pending_kept : (b : Bool) → (b && not false) ≡ b
pending_kept true = refl
pending_kept false = refl

slot_unchanged : (s : Slot) → copied_slot false s ≡ s
slot_unchanged s = ap (λ (b : Bool). record s { node = record s.node { facts = record s.node.facts { pending = b } } }) (pending_kept s.node.facts.pending)

-- slots that aren't brought to rest are as they were
pub slots_unchanged : (es : List (ℕ × Slot)) → copied_slots false es ≡ es
slots_unchanged [] = refl
slots_unchanged (e ∷ es) = λ i. (e.0, slot_unchanged e.1 i) ∷ slots_unchanged es i
