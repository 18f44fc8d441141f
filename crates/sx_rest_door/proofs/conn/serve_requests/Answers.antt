use Rattle.std.proofs.Common.{◌≡◌, ◌++◌, ◌+◌, ◌-◌, ◌<◌, ◌≤◌, ℕ, List, [], None, Option, length, refl, sym, ap, ◌∙◌, subst, arith}
use Rattle.std.specs.Io.KnownBytes.{prepend_known}
use Rattle.std.proofs.KnownBytes.{prepend_known-nil}
use Rattle.sx_base.specs.Sides.{Sides}
use Rattle.sx_http.specs.RequestStream.{stream}
use Rattle.sx_book.specs.Passes.{PassView}
use Rattle.sx_book.specs.declared.report.Tally.{Tally}
use Rattle.sx_rest_door.proofs.Replying.{turn_state}
use Rattle.sx_rest_door.proofs.Turns.{request_long, asked_after}
use Rattle.sx_rest_door.proofs.Ends.{run_none, run_turn, run_ended}
use Rattle.sx_rest_door.proofs.conn.serve_requests.Goals as goal

-- the stream at the start is the link's
left_first : (held : List ℕ) (left : Option (List ℕ)) → held ≡ [] → prepend_known held left ≡ left
left_first held left e = ap (λ (h : List ℕ). prepend_known h left) e ∙ prepend_known-nil left

pub loop-end-init : goal.loop-end-init
loop-end-init g c = record {
  run = run_none g.C.Clock.ticks g.R.Random.draws c.args.account.now (stream c.args.reader.now (g.L.Source.left c.args.link.now)) c.args.clock.now (record { pass = c.args.pass.now; random = c.args.random.now; tally = c.args.tally.now }) c.args.reader.now.given (g.L.Sink.wrote c.args.link.now) c.requires.tally c.requires.reader.1;
  keeps = (λ s h. h);
  own = c.requires.own;
  budget = refl;
  ended = c.requires.reader.2;
  asked = omega (arith, ap (λ (t : Tally). t.asked) c.requires.tally);
  reads = refl;
  writes = refl;
  calls = g.met.L.Link.calls_none c.args.link.now;
}

pub loop-end-smaller : goal.loop-end-smaller
loop-end-smaller g c =
    let gives = c.in_default.ensures.turn.0.gives in
    let long : 1 ≤ length gives.text = request_long gives.text c.in_default.ensures.turn.0.request gives.is in
    let less : c.serve_next-turn.new.reader.budget - c.serve_next-turn.new.reader.given < c.loop-end.reader.budget - c.loop-end.reader.given = omega (arith, long, gives.given, gives.budget, c.in_default.ensures.within) in
    less

pub loop-end-preserved : goal.loop-end-preserved
loop-end-preserved g c =
    let l = c.loop-end in
    let inv = l.invariant in
    let turn = c.in_default.ensures.turn in
    let t = turn.0 in
    let first : Sides = record { left = g.L.Source.left c.args.link.now; reads = g.L.Source.read_count c.args.link.now; writes = g.L.Sink.write_count c.args.link.now } in
    record {
      run = run_turn g.C.Clock.ticks g.R.Random.draws c.args.account.now c.args.reader.now.budget (g.L.Sink.wrote c.args.link.now) (g.L.Sink.wrote l.link) (g.L.Sink.wrote c.serve_next-turn.new.link) first (stream c.args.reader.now (g.L.Source.left c.args.link.now)) c.args.clock.now
          (record { pass = c.args.pass.now; random = c.args.random.now; tally = c.args.tally.now })
          (turn_state g.L.Source.left g.L.Source.read_count g.L.Sink.write_count l.reader l.clock (record { pass = l.pass; random = l.random; tally = l.tally }) l.link)
          (turn_state g.L.Source.left g.L.Source.read_count g.L.Sink.write_count c.serve_next-turn.new.reader c.serve_next-turn.new.clock (record { pass = c.serve_next-turn.new.pass; random = c.serve_next-turn.new.random; tally = c.serve_next-turn.new.tally }) c.serve_next-turn.new.link)
          inv.run turn;
      keeps = (λ s h. c.in_default.ensures.keeps s (inv.keeps s h));
      own = ap (λ (p : PassView). p.office) t.answered.calls.pass ∙ inv.own;
      budget = t.gives.budget ∙ inv.budget;
      ended = t.gives.ended ∙ inv.ended;
      asked = omega (arith, inv.asked, t.gives.given, request_long t.gives.text t.request t.gives.is, ap (λ (x : Tally). x.asked) t.answered.tallied, asked_after l.pass.limit l.tally t.answered.outcome);
      reads = t.reads ∙ inv.reads;
      writes = turn.3 ∙ inv.writes;
      calls = g.met.L.Link.calls_more c.args.link.now l.link c.serve_next-turn.new.link inv.calls c.in_default.ensures.calls;
    }

pub returns-in-Some-clause-served : goal.returns-in-Some-clause-served
returns-in-Some-clause-served g c =
    let l = c.loop-end in
    let inv = l.invariant in
    let first : Sides = record { left = g.L.Source.left c.args.link.now; reads = g.L.Source.read_count c.args.link.now; writes = g.L.Sink.write_count c.args.link.now } in
    run_ended g.C.Clock.ticks g.R.Random.draws c.args.account.now c.args.reader.now.budget (g.L.Sink.wrote c.args.link.now) (g.L.Sink.wrote l.link) (g.L.Sink.wrote c.serve_next-turn.new.link) first (stream c.args.reader.now (g.L.Source.left c.args.link.now)) c.args.clock.now
    (record { pass = c.args.pass.now; random = c.args.random.now; tally = c.args.tally.now })
    (turn_state g.L.Source.left g.L.Source.read_count g.L.Sink.write_count l.reader l.clock (record { pass = l.pass; random = l.random; tally = l.tally }) l.link)
    (turn_state g.L.Source.left g.L.Source.read_count g.L.Sink.write_count c.serve_next-turn.new.reader c.serve_next-turn.new.clock (record { pass = c.serve_next-turn.new.pass; random = c.serve_next-turn.new.random; tally = c.serve_next-turn.new.tally }) c.serve_next-turn.new.link)
    c.in-Some.end inv.run
    (record { same = left_first c.args.reader.now.held (g.L.Source.left c.args.link.now) c.requires.reader.0; limit = inv.budget; reads = inv.reads; writes = inv.writes; within = c.in-Some.ensures.within })
    c.in-Some.ensures.turn
