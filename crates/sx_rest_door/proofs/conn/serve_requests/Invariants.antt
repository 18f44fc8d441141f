use Rattle.std.proofs.Common.{◌≡◌, ◌≤◌, ◌-◌, false}
use Rattle.sx_http.specs.RequestStream.{stream}
use Rattle.sx_book.specs.Passes.{KeepsSessions}
use Rattle.sx_rest_door.proofs.Ends.{Run}
use Rattle.sx_rest_door.proofs.conn.serve_requests.Given as goal

-- the requests so far were answered, with what was written for them, and the connection is open; each call that was
-- asked took a byte or more
abbrev pub invariant-loop-end : goal.invariant-loop-end
invariant-loop-end g l = record {
  run : Run g.C.Clock.ticks g.R.Random.draws l.account (stream l.fn.reader (g.L.Source.left l.fn.link)) (stream l.reader (g.L.Source.left l.link)) l.fn.clock l.clock (record { pass = l.fn.pass; random = l.fn.random; tally = l.fn.tally }) (record { pass = l.pass; random = l.random; tally = l.tally }) l.reader.given (g.L.Sink.wrote l.fn.link) (g.L.Sink.wrote l.link);
  keeps : KeepsSessions l.fn.pass l.pass;
  own : l.pass.office ≡ l.office;
  budget : l.reader.budget ≡ l.fn.reader.budget;
  ended : l.reader.ended ≡ false;
  asked : l.tally.asked ≤ l.reader.given;
  reads : g.L.Source.read_count l.link ≡ g.L.Source.read_count l.fn.link;
  writes : g.L.Sink.write_count l.link ≡ g.L.Sink.write_count l.fn.link;
  calls : g.L.Link.calls l.fn.link l.link;
}

abbrev pub decreases-loop-end : goal.decreases-loop-end
decreases-loop-end g l = l.reader.budget - l.reader.given
