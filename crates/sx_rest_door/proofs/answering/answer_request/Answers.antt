use Rattle.std.proofs.Common.{◌≡◌}
use Rattle.sx_rest_door.proofs.RestCalls.{spells_rest_call}
use Rattle.sx_rest_door.proofs.Turns.{asked_request, refused_request}
use Rattle.sx_rest_door.proofs.answering.answer_request.Goals as goal

pub answer_call-requires-clause-call : goal.answer_call-requires-clause-call
answer_call-requires-clause-call g c = λ _ _. spells_rest_call c.args.request c.in-Ok.call c.in-Ok.ensures.1

pub returns-in-Ok-clause-answered : goal.returns-in-Ok-clause-answered
returns-in-Ok-clause-answered g c =
    asked_request g.R.Random.draws c.args.account.now c.args.request c.args.now c.in-Ok.call (record { pass = c.args.pass.now; random = c.args.random.now; tally = c.args.tally.now })
    (record { pass = c.answer_call.new.pass; random = c.answer_call.new.random; tally = c.answer_call.new.tally }) c.answer_call.result c.in-Ok.ensures c.answer_call.ensures.asked

pub returns-in-Err-clause-answered : goal.returns-in-Err-clause-answered
returns-in-Err-clause-answered g c =
    refused_request g.R.Random.draws c.args.account.now c.args.request c.args.now c.in-Err.uncalled c.args.pass.now c.args.random.now c.args.tally.now c.refuse.new.tally c.refuse.result
    c.in-Err.ensures c.refuse.ensures.tally c.refuse.ensures.answer
