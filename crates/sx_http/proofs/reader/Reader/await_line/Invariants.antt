use Rattle.std.proofs.Common.{◌≡◌, ◌≤◌, ◌<◌, ◌+◌, ◌-◌, false, length}
use Rattle.sx_http.specs.declared.limits.TheConstants.{HEAD_LIMIT}
use Rattle.sx_http.specs.Filling.{Stays, StaysInLine}
use Rattle.sx_http.proofs.reader.Reader.await_line.Given as goal

-- nothing was given since the call's begin, no read has failed, and no line feed has come
abbrev pub invariant-loop-stopped : goal.invariant-loop-stopped
invariant-loop-stopped g l = record {
  stays : Stays l.fn.self l.self (g.S.Source.left l.fn.source) (g.S.Source.left l.source);
  line : StaysInLine l.fn.self l.self;
  count : g.S.Source.read_count l.source ≡ g.S.Source.read_count l.fn.source;
  open' : l.self.ended ≡ false;
  room : l.self.given + length l.self.held < l.self.budget;
  step : g.S.Source.reads l.fn.source l.source;
}

abbrev pub decreases-loop-stopped : goal.decreases-loop-stopped
decreases-loop-stopped g l = l.self.budget - l.self.given - length l.self.held
