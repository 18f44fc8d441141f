-- What a seat has in hand.
use Rattle.std.proofs.Common.{◌≡◌, ⊎_elim, List, [], ◌∷◌, Some, None}
use Rattle.atomic_table.specs.Table.{Me}
use Rattle.sx_turn.specs.declared.rule.View.{View}
use Rattle.sx_turn.specs.Seats.{IsIdleOrTaken}

module _ {S E : Type 0} (empty : S) where
  -- a seat that has not taken the value waits for nothing and has nothing in hand
  pub idle_hands : (m : Me S (View E)) → IsIdleOrTaken empty m → m.0.turn ≡ None → (m.0.ticket ≡ None) × (m.1 ≡ [])
  idle_hands m p is = ⊎_elim (λ (a : (m.0.turn ≡ None) × (m.0.ticket ≡ None) × (m.1 ≡ [])). (a.1, a.2)) (λ (b : (h : List E) × (m.0.turn ≡ Some h) × (m.1 ≡ (0, empty) ∷ [])). absurd (cc (b.1, is))) p.2
