use Rattle.std.proofs.Common.{rules, arith}
use Rattle.sx_turn.proofs.Numbers.{enrol_keeps}
use Rattle.sx_turn.proofs.Calls.{enrol_counted, enrol_may_end, count_may_end}
use Rattle.sx_turn.proofs.steps.draw_number.Goals as goal

pub fetch_add-requires : goal.fetch_add-requires
fetch_add-requires g c =
    let e = enrol_counted g.B.Booked.stands g.B.Booked.lasting g.B.Booked.who c.args.place.now.me c.count_callers-callers.new.place.me c.count_callers-callers.result c.requires.fresh c.count_callers-callers.ensures.counted in
    let t = c.if-callers-lt-MAX_SEATS.true in
    (search rules, search rules, enrol_keeps g.B.Booked.stands g.B.Booked.lasting _ g.B.Booked.who _ _ _ e.0 e.1 e.2 e.3 (omega (arith, e.4, t)))

pub leave-requires-clause-whole : goal.leave-requires-clause-whole
leave-requires-clause-whole g c κs within =
    enrol_may_end g.B.Booked.stands g.B.Booked.lasting g.B.Booked.who c.args.place.now.me c.count_callers-callers.new.place.me c.fetch_add.new.seat.me _ _ c.count_callers-callers.ensures.counted c.fetch_add.ensures.2.1

pub leave-requires-2-clause-whole : goal.leave-requires-2-clause-whole
leave-requires-2-clause-whole g c κs within = count_may_end g.B.Booked.stands g.B.Booked.lasting g.B.Booked.who c.args.place.now.me c.count_callers-callers.new.place.me _ c.count_callers-callers.ensures.counted
