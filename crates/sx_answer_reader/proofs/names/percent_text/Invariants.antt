use Rattle.std.proofs.Common.{◌≡◌, ◌++◌, drop}
use Rattle.sx_listing.specs.Percent.{percent_text}
use Rattle.sx_answer_reader.proofs.names.percent_text.Given as goal

-- what was put there, and what is left to put
abbrev pub invariant-loop-byte : goal.invariant-loop-byte
invariant-loop-byte l = l.bytes.items ++ percent_text (drop l.byte-index l.plain) ≡ percent_text l.plain
