-- Steps from parent to parent.
use Rattle.std.proofs.Common.{◌≡◌, ◌≢◌, ◌||◌, ℕ, Bool, zero, suc, true, false, None, Some, refl, ap, ◌∙◌}
use Rattle.std.proofs.lemmas.Bool.{eq-eqb, ne_eqb}
use Rattle.sx_tree.specs.Tree.{Nodes, Slot, slot_at}
use Rattle.sx_tree.specs.Climbs.{climbs, above}

pub climbs_here : (t : Nodes) (n dir id : ℕ) → id ≡ dir → climbs t (suc n) dir id ≡ true
climbs_here t n dir id e = ap (λ (b : Bool). b || above (slot_at t id) (climbs t n dir)) (eq-eqb id dir e)

-- a step up
pub climbs_up : (t : Nodes) (n dir id : ℕ) (s : Slot) → id ≢ dir → slot_at t id ≡ Some s → climbs t (suc n) dir id ≡ climbs t n dir s.node.parent
climbs_up t n dir id s e is = ap (λ (b : Bool). b || above (slot_at t id) (climbs t n dir)) (ne_eqb id dir e) ∙ ap (λ o. above o (climbs t n dir)) is

-- where nothing stands the way up ends
pub climbs_out : (t : Nodes) (n dir id : ℕ) → id ≢ dir → slot_at t id ≡ None → climbs t n dir id ≡ false
climbs_out t zero dir id e is = refl
climbs_out t (suc n) dir id e is = ap (λ (b : Bool). b || above (slot_at t id) (climbs t n dir)) (ne_eqb id dir e) ∙ ap (λ o. above o (climbs t n dir)) is
