use Rattle.std.proofs.Common.{◌≡◌, ◌++◌, drop}
use Rattle.sx_text.specs.Escapes.{escaped}
use Rattle.sx_listing.proofs.texts.escaped_bytes.Given as goal

-- what was put there, and what is left to put
abbrev pub invariant-loop-byte : goal.invariant-loop-byte
invariant-loop-byte l = l.bytes.items ++ escaped (drop l.byte-index l.plain) ≡ escaped l.plain
