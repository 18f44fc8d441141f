use Rattle.std.proofs.Common.{◌≡◌, ◌≤◌, ◌+◌, ◌-◌, length}
use Rattle.sx_http.specs.declared.limits.TheConstants.{HEAD_LIMIT}
use Rattle.sx_tool.specs.Inputs.{Takes}
use Rattle.sx_tool.proofs.gathered.gather.Given as goal

-- what is held was taken from the input, and no read has failed
abbrev pub invariant-loop-buffer : goal.invariant-loop-buffer
invariant-loop-buffer g l = record {
  taken : Takes (g.S.Source.left l.fn.input) (g.S.Source.left l.input) l.buffer;
  count : g.S.Source.read_count l.input ≡ g.S.Source.read_count l.fn.input;
  step : g.S.Source.reads l.fn.input l.input;
}

abbrev pub decreases-loop-buffer : goal.decreases-loop-buffer
decreases-loop-buffer g l = HEAD_LIMIT + 1 - length l.buffer
