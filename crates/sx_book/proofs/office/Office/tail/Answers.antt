use Rattle.sx_book.specs.Passes.{pass_view}
use Rattle.sx_book.proofs.Appended.{others_found, looked}
use Rattle.sx_book.proofs.Held.{saw_keeps}
use Rattle.sx_book.proofs.office.Office.tail.Goals as goal

pub returns-clause-saw : goal.returns-clause-saw
returns-clause-saw g c =
    let grows = others_found c.pass.inside.seat c.take-held.result.entries c.take-held.ensures.seen c.take-held.ensures.exact.0 c.take-held.ensures.exact.1 in
    looked c.args.pass.now c.pass.inside.seat c.take-held.new.seat c.give.new.seat c.take-held.result.entries c.pass.view_is c.take-held.ensures.taken grows c.give.ensures.given

pub returns-clause-held : goal.returns-clause-held
returns-clause-held g c =
    let grows = others_found c.pass.inside.seat c.take-held.result.entries c.take-held.ensures.seen c.take-held.ensures.exact.0 c.take-held.ensures.exact.1 in
    saw_keeps c.args.pass.now (pass_view c.give.new.seat) (looked c.args.pass.now c.pass.inside.seat c.take-held.new.seat c.give.new.seat c.take-held.result.entries c.pass.view_is c.take-held.ensures.taken grows c.give.ensures.given)
