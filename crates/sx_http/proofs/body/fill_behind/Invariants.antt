use Rattle.std.proofs.Common.{length, ◌-◌, ◌≤◌, ◌≡◌, take, drop}
use Rattle.std.specs.Io.KnownBytes.{Consumes}
use Rattle.sx_http.proofs.body.fill_behind.Given as goal

-- what stands behind the first bytes was taken off the source, and no read has failed
abbrev pub invariant-loop-count : goal.invariant-loop-count
invariant-loop-count g l = record {
  front : take l.from l.into ≡ take l.from l.initial.into;
  bytes : Consumes (g.S.Source.left l.fn.source) (g.S.Source.left l.source) (drop l.from (take l.count l.into));
  more : l.from ≤ l.count;
  fits : l.count ≤ length l.into;
  count : g.S.Source.read_count l.source ≡ g.S.Source.read_count l.fn.source;
  step : g.S.Source.reads l.fn.source l.source;
}

abbrev pub decreases-loop-count : goal.decreases-loop-count
decreases-loop-count g l = length l.initial.into - l.count
