use Rattle.std.proofs.Common.{◌≡◌, ◌+◌, ◌<◌, ◌≤◌, ℕ, Some, length, sym, subst, arith}
use Rattle.sx_rest_door.specs.Asking.{IsTurn, end_at, end_behind}
use Rattle.sx_book.specs.declared.report.ConnEnd.{ConnEnd}
use Rattle.std.specs.declared.option.Option.{Option}
use Rattle.sx_rest_door.proofs.Replying.{turn_state, answered_turn, refused_turn, ended_turn}
use Rattle.sx_rest_door.proofs.Turns.{request_long}
use Rattle.sx_rest_door.proofs.conn.serve_next.Goals as goal

pub reply-requires-clause-asked : goal.reply-requires-clause-asked
reply-requires-clause-asked g c = λ _ _.
    let gives = c.in-Asks.ensures.heard.0 in
    let long : 1 ≤ length gives.text = request_long gives.text c.in-Asks.request gives.is in
    let fits : c.taken-taken.result < 18446744073709551616 = omega arith in
    let done : c.args.tally.now.asked + 1 < 18446744073709551616 = omega (arith, long, fits, c.taken-taken.ensures, gives.taken, gives.given, c.requires.asked) in
    done

pub returns-in-Asks-clause-turn : goal.returns-in-Asks-clause-turn
returns-in-Asks-clause-turn g c =
    let reads = g.met.L.Link.read_keeps c.args.link.now c.hear.new.source c.hear.ensures.step in
    let puts = g.met.L.Link.put_keeps c.hear.new.source c.reply.new.sink c.reply.ensures.replies.printed_so.step in
    let heard = c.in-Asks.ensures.heard in
    let P : Option ConnEnd → Type 0 = λ end. IsTurn end g.C.Clock.ticks g.R.Random.draws c.args.account.now (g.L.Sink.wrote c.args.link.now) (g.L.Sink.wrote c.reply.new.sink)
    (turn_state g.L.Source.left g.L.Source.read_count g.L.Sink.write_count c.args.reader.now c.args.clock.now (record { pass = c.args.pass.now; random = c.args.random.now; tally = c.args.tally.now }) c.args.link.now)
    (turn_state g.L.Source.left g.L.Source.read_count g.L.Sink.write_count c.hear.new.reader c.now-now.new.self (record { pass = c.reply.new.pass; random = c.reply.new.random; tally = c.reply.new.tally }) c.reply.new.sink) in
    subst P (sym c.end_behind.ensures) (
    answered_turn g.C.Clock.ticks g.R.Random.draws c.args.account.now g.L.Sink.wrote g.L.Sink.write_count g.L.Sink.puts g.L.Source.left g.L.Source.read_count
    c.args.link.now c.hear.new.source c.reply.new.sink c.args.reader.now c.hear.new.reader c.args.clock.now c.now-now.new.self
    (record { pass = c.args.pass.now; random = c.args.random.now; tally = c.args.tally.now }) (record { pass = c.reply.new.pass; random = c.reply.new.random; tally = c.reply.new.tally })
    c.reply.result c.in-Asks.request c.now-now.result heard.0 heard.1 reads.faults (λ m. (reads.written m).0) puts.rest puts.faults c.now-now.ensures.step c.reply.ensures.replies)

pub returns-in-Refuses-clause-turn : goal.returns-in-Refuses-clause-turn
returns-in-Refuses-clause-turn g c =
    let reads = g.met.L.Link.read_keeps c.args.link.now c.hear.new.source c.hear.ensures.step in
    let puts = g.met.L.Link.put_keeps c.hear.new.source c.refuse.new.sink c.refuse.ensures.step in
    let P : ConnEnd → Type 0 = λ end. IsTurn (Some end) g.C.Clock.ticks g.R.Random.draws c.args.account.now (g.L.Sink.wrote c.args.link.now) (g.L.Sink.wrote c.refuse.new.sink)
    (turn_state g.L.Source.left g.L.Source.read_count g.L.Sink.write_count c.args.reader.now c.args.clock.now (record { pass = c.args.pass.now; random = c.args.random.now; tally = c.args.tally.now }) c.args.link.now)
    (turn_state g.L.Source.left g.L.Source.read_count g.L.Sink.write_count c.hear.new.reader c.now-now-in-Refuses.new.self (record { pass = c.args.pass.now; random = c.args.random.now; tally = c.args.tally.now }) c.refuse.new.sink) in
    subst P (sym c.end_at.ensures) (
    refused_turn g.C.Clock.ticks g.R.Random.draws c.args.account.now g.L.Sink.wrote g.L.Sink.write_count g.L.Sink.puts g.L.Source.left g.L.Source.read_count
    c.args.link.now c.hear.new.source c.refuse.new.sink c.args.reader.now c.hear.new.reader c.args.clock.now c.now-now-in-Refuses.new.self
    (record { pass = c.args.pass.now; random = c.args.random.now; tally = c.args.tally.now }) (record { pass = c.args.pass.now; random = c.args.random.now; tally = c.args.tally.now })
    c.refuse.result c.in-Refuses.why c.now-now-in-Refuses.result c.in-Refuses.ensures.heard reads.faults (λ m. (reads.written m).0) puts.rest puts.faults c.now-now-in-Refuses.ensures.step c.refuse.ensures)

pub returns-in-Ends-clause-turn : goal.returns-in-Ends-clause-turn
returns-in-Ends-clause-turn g c =
    let reads = g.met.L.Link.read_keeps c.args.link.now c.hear.new.source c.hear.ensures.step in
    ended_turn g.C.Clock.ticks g.R.Random.draws c.args.account.now g.L.Sink.wrote g.L.Sink.write_count g.L.Sink.puts g.L.Source.left g.L.Source.read_count
    c.args.link.now c.hear.new.source c.hear.new.source c.args.reader.now c.hear.new.reader c.args.clock.now c.args.clock.now
    (record { pass = c.args.pass.now; random = c.args.random.now; tally = c.args.tally.now }) (record { pass = c.args.pass.now; random = c.args.random.now; tally = c.args.tally.now })
    c.in-Ends.end c.in-Ends.ensures.heard reads.faults (λ m. (reads.written m).0)
