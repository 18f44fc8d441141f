use Rattle.std.proofs.Common.{◌≡◌, ◌≤◌, ap, ◌∙◌, subst, Some}
use Rattle.sx_turn.specs.Places.{times}
use Rattle.sx_turn.specs.Views.{pairs_with}
use Rattle.sx_turn.proofs.turn.Turn.join.Goals as goal

-- the seat's number is still its own after the join
pub returns-clause-distinct : goal.returns-clause-distinct
returns-clause-distinct g c n =
    let v = c.join_places.new.place.me.0 in
    let own : v.number ≡ Some c.into.inside.number = ap (λ m. m.0.number) c.join_places.ensures.met ∙ c.into.invariant.0 in
    subst (λ o. times n (pairs_with o v.mine v.ended) ≤ 1) own (c.join_places.ensures.sound.3 n)
