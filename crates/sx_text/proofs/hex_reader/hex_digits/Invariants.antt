use Rattle.std.proofs.Common.{◌≡◌, drop}
use Rattle.sx_text.specs.Machines.{run_from}
use Rattle.sx_text.specs.Hex.{hex_step, hex_at}
use Rattle.sx_text.specs.Steps.{HasRoom}
use Rattle.sx_text.proofs.hex_reader.hex_digits.Given as goal

abbrev pub invariant-loop-byte : goal.invariant-loop-byte
invariant-loop-byte l = (run_from hex_step (l.left, l.so_far) (drop l.byte-index l.bytes) ≡ hex_at l.more l.bytes) × (l.rest ≡ drop l.byte-index l.bytes) × HasRoom l.left l.so_far
