use Rattle.std.proofs.Common.{rules, ◌∷◌, ap, ◌∙◌, sym, Some, None}
use Rattle.atomic_table.specs.Table.{rest}
use Rattle.sx_turn.proofs.Ends.{close_keeps}
use Rattle.sx_turn.proofs.Calls.{close_call, count_may_end}
use Rattle.sx_turn.proofs.steps.take_out.Goals as goal

pub exchange-requires : goal.exchange-requires
exchange-requires g c = let k = c.count_callers-callers.ensures.counted in let hand = ap (λ m. m.1) k.2 in (search rules, (Some k.0, hand ∙ ap (λ l. (0, Some k.0) ∷ rest l) (sym hand)))

pub load-requires : goal.load-requires
load-requires g c = let k = c.count_callers-callers.ensures.counted in let hand = ap (λ m. m.1) k.2 in let ex = c.exchange.ensures.3 in
    (search rules, search rules, close_keeps g.B.Booked.stands g.B.Booked.lasting _ g.B.Booked.who _ _ c.exchange.new.seat.me (g.B.Booked.stands k.0) (ap (λ m. m.1) ex ∙ ap (λ l. (0, None) ∷ rest l) hand) (ap (λ m. m.0.turn) ex ∙ ap (λ m. m.0.turn) k.2) (ap (λ m. m.0.closed) ex ∙ ap (λ m. m.0.closed) k.2))

pub returns-then-callers-owns-clause-ok : goal.returns-then-callers-owns-clause-ok
returns-then-callers-owns-clause-ok g c = close_call g.B.Booked.stands g.B.Booked.lasting g.B.Booked.who c.args.place.now.me c.count_callers-callers.new.place.me c.exchange.new.seat.me c.load.new.seat.me c.count_callers-callers.result c.args.owns _ c.count_callers-callers.ensures.counted c.requires.owns c.if-callers-owns.true (c.exchange.ensures.2 ∙ ap (λ v. (0, v) ∷ rest c.count_callers-callers.new.place.me.1) c.unwrap-value.ensures) c.exchange.ensures.3 c.load.ensures.2

pub leave-requires-clause-whole : goal.leave-requires-clause-whole
leave-requires-clause-whole g c κs within = count_may_end g.B.Booked.stands g.B.Booked.lasting g.B.Booked.who c.args.place.now.me c.count_callers-callers.new.place.me _ c.count_callers-callers.ensures.counted
