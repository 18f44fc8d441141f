use Rattle.std.proofs.Common.{rules, ap}
use Rattle.sx_turn.proofs.Numbers.{count_keeps}
use Rattle.sx_turn.proofs.Calls.{count_call}
use Rattle.sx_turn.proofs.steps.count_callers.Goals as goal

pub load-requires : goal.load-requires
load-requires g c = let b = c.wait.ensures.begun in (search rules, search rules, count_keeps g.B.Booked.stands g.B.Booked.lasting _ g.B.Booked.who _ _ _ (g.B.Booked.stands b.0) (ap (λ m. m.0.turn) b.1))

pub returns-clause-counted : goal.returns-clause-counted
returns-clause-counted g c = count_call g.B.Booked.stands g.B.Booked.lasting g.B.Booked.who c.args.place.now.me c.draw-ticket.new.place.me c.wait.new.place.me c.load.new.seat.me _ _ c.requires.idle.3 c.draw-ticket.ensures.drawn c.wait.ensures.begun c.load.ensures.2
