use Rattle.std.proofs.Common.{◌∙◌, sym}
use mathlib.Core.Option.{some-injective}
use Rattle.sx_turn.proofs.Ends.{closed_empty}
use Rattle.sx_turn.proofs.steps.free_board.Goals as goal

pub unreachable-requires : goal.unreachable-requires
unreachable-requires g c = let s = c.requires.closed in
    let empty = closed_empty g.B.Booked.stands g.B.Booked.lasting _ g.B.Booked.who _ _ _ c.args.place.me.0 s.1.0 s.0 s.1.1 c.close_with-closed.ensures.values.2 in
    c.in_default.not-None (some-injective _ _ (sym c.take-empty.ensures.value ∙ empty))
