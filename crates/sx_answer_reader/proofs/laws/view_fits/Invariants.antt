use Rattle.std.proofs.Common.{get_or, ◌<◌, ℕ}
use Rattle.sx_answer_reader.proofs.laws.view_fits.Given as goal

-- what was read through is bytes
abbrev pub invariant-loop-at : goal.invariant-loop-at
invariant-loop-at l = (k : ℕ) → k < l.at → get_or l.view k 0 < 256
