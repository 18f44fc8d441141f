use Rattle.std.proofs.Common.{◌≡◌, ◌≤◌, ◌<◌, ap, subst, arith}
use Rattle.std.specs.List.{AllByRecursion}
use Rattle.sx_turn.specs.Places.{times}
use Rattle.sx_turn.specs.Views.{pairs_with, owned_pairs}
use Rattle.sx_turn.specs.Seats.{HasNumbersBelow, HasDistinctNumbers}
use Rattle.sx_turn.proofs.Lists.{each_map}
use Rattle.sx_turn.proofs.turn.Turn.close.Goals as goal

-- the seat's numbers are below what it knew, and it knew of no more than were counted
pub returns-in-Err-clause-numbers : goal.returns-in-Err-clause-numbers
returns-in-Err-clause-numbers g c =
    let v = c.seat.inside.place.me.0 in
    let out = c.in-Err.ensures.err in
    let counted : c.take_out.new.place.me.0.known ≡ c.in-Err.callers = ap (λ m. m.0.known) out.4.1 in
    let knew = ap (λ s. s.known) c.seat.view_is in
    let own = c.seat.invariant.0 in (
      omega (arith, counted, knew, out.2),
      subst (HasNumbersBelow c.take_out.new.place.me.0.known) c.seat.view_is (subst (λ o. AllByRecursion (λ p. p.0 < c.take_out.new.place.me.0.known) (pairs_with o v.mine v.ended)) own (each_map _ _ (λ p l. omega (arith, l, out.2, counted)) (owned_pairs v) c.seat.invariant.4)),
      subst HasDistinctNumbers c.seat.view_is (λ n. subst (λ o. times n (pairs_with o v.mine v.ended) ≤ 1) own (out.3 n)),
    )
