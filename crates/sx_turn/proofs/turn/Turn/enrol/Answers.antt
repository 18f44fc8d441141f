use Rattle.std.proofs.Common.{rules, ◌≡◌, ap, ◌∙◌, None}
use Rattle.sx_turn.proofs.Numbers.{branch_keeps}
use Rattle.sx_turn.proofs.Hands.{idle_hands}
use Rattle.sx_turn.proofs.turn.Turn.enrol.Goals as goal

pub split_seat-place-requires : goal.split_seat-place-requires
split_seat-place-requires g c = (search rules, search rules, branch_keeps g.B.Booked.stands g.B.Booked.lasting _ g.B.Booked.who _ c.recall.new.place.me.0)

pub split_seat-note-requires : goal.split_seat-note-requires
split_seat-note-requires g c = (search rules, search rules, branch_keeps g.B.Booked.stands g.B.Booked.lasting _ g.B.Booked.who _ c.draw_number-callers.new.place.me.0)

pub take_in-requires-clause-idle : goal.take_in-requires-clause-idle
take_in-requires-clause-idle g c κs within =
    let idle : c.seat.inside.place.me.0.turn ≡ None = ap (λ s. s.taken) c.seat.view_is ∙ c.requires.idle in
    let rest = idle_hands None c.seat.inside.place.me c.seat.invariant.1 idle in
    let note = c.split_seat-note.ensures.4 in
    let same = c.split_seat-place.ensures.2 in let kept = c.recall.ensures.me in (
      (c.seat.inside.number, ap (λ m. m.0.number) same ∙ (ap (λ m. m.0.number) kept ∙ c.seat.invariant.0)),
      ap (λ m. m.0.ticket) same ∙ (ap (λ m. m.0.ticket) kept ∙ rest.0),
      ap (λ m. m.1) same ∙ (ap (λ m. m.1) kept ∙ rest.1),
      ap (λ m. m.0.ticket) note,
      ap (λ m. m.1) note,
    )

pub take_in-requires-2-clause-idle : goal.take_in-requires-2-clause-idle
take_in-requires-2-clause-idle g c κs within =
    let idle : c.seat.inside.place.me.0.turn ≡ None = ap (λ s. s.taken) c.seat.view_is ∙ c.requires.idle in
    let rest = idle_hands None c.seat.inside.place.me c.seat.invariant.1 idle in
    let e = c.draw_number-callers.ensures.drawn in
    let none_left = e.6 c.if-callers-lt-MAX_SEATS.false in
    let same = c.split_seat-place.ensures.2 in let kept = c.recall.ensures.me in (
      (c.seat.inside.number, ap (λ m. m.0.number) same ∙ (ap (λ m. m.0.number) kept ∙ c.seat.invariant.0)),
      ap (λ m. m.0.ticket) same ∙ (ap (λ m. m.0.ticket) kept ∙ rest.0),
      ap (λ m. m.1) same ∙ (ap (λ m. m.1) kept ∙ rest.1),
      ap (λ m. m.0.ticket) none_left,
      ap (λ m. m.1) none_left,
    )
