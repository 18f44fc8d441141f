use Rattle.std.proofs.Common.{◌≡◌, ◌+◌, ℕ, ap, refl}
use Rattle.sx_reply.specs.declared.answer.Said.TheVariants.{Core}
use Rattle.sx_rest_door.proofs.Asks.{receipt_printed, receipt_shown, appended_call, stopped_call}
use Rattle.sx_rest_door.proofs.answering.answer_call.Goals as goal

pub of-requires : goal.of-requires
of-requires g c = receipt_shown c.args.pass.now c.ask.new.pass c.args.now c.draw-fresh.result c.args.call c.in-Ok.receipt c.requires.clock c.in-Ok.ensures.ok

pub returns-in-Ok-clause-asked : goal.returns-in-Ok-clause-asked
returns-in-Ok-clause-asked g c =
    appended_call g.R.Random.draws c.args.call (record { pass = c.args.pass.now; random = c.args.random.now; tally = c.args.tally.now })
    (record { pass = c.ask.new.pass; random = c.draw-fresh.new.random; tally = record c.args.tally.now { asked = c.args.tally.now.asked + 1 } }) c.args.now c.draw-fresh.result
    (record { place = c.in-Ok.receipt.place; at = c.of.result; said = Core c.in-Ok.receipt.reply }) c.in-Ok.receipt
    (receipt_printed c.args.pass.now c.ask.new.pass c.args.now c.draw-fresh.result c.args.call c.in-Ok.receipt c.rest_replies_are_printed.ensures c.requires.call c.in-Ok.ensures.ok)
    c.draw-fresh.ensures c.in-Ok.ensures.ok refl (ap (λ (n : ℕ). record { place = c.in-Ok.receipt.place; at = n; said = Core c.in-Ok.receipt.reply }) c.of.ensures)

pub returns-in-Err-clause-asked : goal.returns-in-Err-clause-asked
returns-in-Err-clause-asked g c =
    stopped_call g.R.Random.draws c.args.call (record { pass = c.args.pass.now; random = c.args.random.now; tally = c.args.tally.now })
    (record { pass = c.ask.new.pass; random = c.draw-fresh.new.random; tally = c.note.new.self }) c.args.now c.draw-fresh.result
    c.unplaced.result c.in-Err.stop c.draw-fresh.ensures c.in-Err.ensures.stop c.note.ensures c.unplaced.ensures
