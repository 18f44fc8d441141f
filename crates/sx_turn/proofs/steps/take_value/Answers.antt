use Rattle.std.proofs.Common.{rules, ◌∷◌, ap, ◌∙◌, sym, Some}
use Rattle.atomic_table.specs.Table.{rest}
use Rattle.sx_turn.proofs.steps.take_value.Goals as goal

pub exchange-requires : goal.exchange-requires
exchange-requires g c = let b = c.wait.ensures.begun in let hand = ap (λ m. m.1) b.1 in (search rules, (Some b.0, hand ∙ ap (λ l. (0, Some b.0) ∷ rest l) (sym hand)))
