use Rattle.std.proofs.Common.{rules}
use Rattle.sx_turn.proofs.Numbers.{recall_keeps}
use Rattle.sx_turn.proofs.steps.recall.Goals as goal

pub load-requires : goal.load-requires
load-requires g c = (search rules, search rules, recall_keeps g.B.Booked.stands g.B.Booked.lasting _ g.B.Booked.who _ _ _)
