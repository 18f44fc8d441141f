use Rattle.std.proofs.Common.{◌≡◌, drop}
use Rattle.sx_text.specs.Machines.{run_from}
use Rattle.sx_text.specs.Escapes.{escaped_step, escaped_at}
use Rattle.sx_text.proofs.escaped_reader.letters.Given as goal

abbrev pub invariant-loop-byte : goal.invariant-loop-byte
invariant-loop-byte l = (run_from escaped_step (l.kept.items, l.spot) (drop l.byte-index l.bytes) ≡ escaped_at l.bytes) × (l.rest ≡ drop l.byte-index l.bytes)
