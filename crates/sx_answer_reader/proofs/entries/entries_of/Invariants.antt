use Rattle.std.proofs.Common.{◌≡◌, ◌-◌}
use Rattle.sx_lines.proofs.Parts.{after_these}
use Rattle.sx_answer_reader.specs.Entries.{entries_of}
use Rattle.sx_answer_reader.proofs.entries.entries_of.Given as goal

-- the entries so far, and what the rest of the line gives
abbrev pub invariant-loop-turn : goal.invariant-loop-turn
invariant-loop-turn l = entries_of l.count l.first ≡ after_these l.entries (entries_of (l.count - l._turn) l.behind)
