use Rattle.std.proofs.Common.{subst, sym, ◌∷◌, []}
use Rattle.atomic_table.specs.Table.{opening}
use Rattle.sx_turn.specs.Rules.{Kept}
use Rattle.sx_turn.specs.Views.{first_view}
use Rattle.sx_turn.proofs.Ends.{begin_keeps}
use Rattle.sx_turn.proofs.steps.open_board.Goals as goal

pub new-requires : goal.new-requires
new-requires g c = let y = c.args.about.now.value in
    subst (λ l. Kept g.B.Booked.stands g.B.Booked.lasting (g.B.Booked.lasting y) g.B.Booked.who (opening (0 ∷ 0 ∷ 1 ∷ []) l (first_view g.B.Booked.who (g.B.Booked.lasting y) (g.B.Booked.stands y)))) (sym c.requires.slots) (begin_keeps g.B.Booked.stands g.B.Booked.lasting 0 g.B.Booked.who y c.requires.own)
