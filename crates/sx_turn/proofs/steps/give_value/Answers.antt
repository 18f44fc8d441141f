use Rattle.std.proofs.Common.{rules, ◌∷◌, ap, ◌∙◌, sym, None}
use Rattle.atomic_table.specs.Table.{rest}
use Rattle.sx_turn.proofs.steps.give_value.Goals as goal

pub exchange-empty-requires : goal.exchange-empty-requires
exchange-empty-requires g c = let m = c.requires.may in (search rules, (None, m.1 ∙ ap (λ l. (0, None) ∷ rest l) (sym m.1)))
