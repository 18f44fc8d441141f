use Rattle.std.proofs.Common.{◌≡◌, ◌+◌, ◌*◌, ◌≤◌, length, drop}
use Rattle.std.specs.List.{flat_map}
use Rattle.sx_text.specs.Escapes.{escape}
use Rattle.sx_reply.proofs.escapes.escaped_bytes_length.Given as goal

-- what was counted and what is left are all, and each byte has at most five
abbrev pub invariant-loop-byte : goal.invariant-loop-byte
invariant-loop-byte l =
    (l.length + length (flat_map escape (drop l.byte-index l.bytes)) ≡ length (flat_map escape l.bytes))
    × (l.length ≤ 5 * l.byte-index)
