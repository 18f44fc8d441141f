use Rattle.std.proofs.Common.{◌≡◌, ap, sym, ◌∙◌, subst}
use Rattle.sx_book.specs.Passes.{GrowsByOthers, HoldsIn}
use Rattle.sx_book.proofs.Appended.{others_found}
use Rattle.sx_book.proofs.Lives.{held_among}
use Rattle.sx_book.proofs.office.Office.split.Goals as goal
use Rattle.sx_book.proofs.office.Office.split.Goals.{in-Ok, in-Err}

pub returns-clause-others : goal.returns-clause-others
returns-clause-others g c = let seen = c.enrol.ensures.seen in
    subst (λ q. GrowsByOthers q.number q.seen c.enrol.new.seat.seen) c.pass.view_is (others_found c.pass.inside.seat c.enrol.new.seat.seen seen.0 seen.1 seen.2)

pub returns-clause-held : goal.returns-clause-held
returns-clause-held g c s h = let seen = c.enrol.ensures.seen in
    let grows = subst (λ q. GrowsByOthers q.number q.seen c.enrol.new.seat.seen) c.pass.view_is (others_found c.pass.inside.seat c.enrol.new.seat.seen seen.0 seen.1 seen.2) in
    let number : c.enrol.new.seat.number ≡ c.pass.inside.seat.number = elim c.match-enrol.branch [
      | in-Ok w ↦ ap (λ s. s.number) w.in-Ok.ensures.asked
      | in-Err w ↦ ap (λ s. s.number) w.in-Err.ensures.refused.1
    ] in
    subst (λ n. HoldsIn n c.enrol.new.seat.seen s) (sym (number ∙ ap (λ q. q.number) c.pass.view_is)) (held_among c.args.pass.now.number s c.args.pass.now.seen c.enrol.new.seat.seen grows h)
