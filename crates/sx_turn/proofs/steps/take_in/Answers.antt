use Rattle.std.proofs.Common.{rules}
use Rattle.sx_turn.proofs.Numbers.{merge_keeps, recall_keeps}
use Rattle.sx_turn.proofs.steps.take_in.Goals as goal

pub join_seat-requires : goal.join_seat-requires
join_seat-requires g c = let r = c.requires.idle in
    (search rules, search rules, r.4, search rules, merge_keeps g.B.Booked.stands g.B.Booked.lasting _ g.B.Booked.who _ c.args.place.now.me.0 _ c.args.other.me.0 r.0.0 r.0.1 r.1 r.3)

pub load-requires : goal.load-requires
load-requires g c = (search rules, search rules, recall_keeps g.B.Booked.stands g.B.Booked.lasting _ g.B.Booked.who _ _ _)
