use Rattle.std.proofs.Common.{◌≡◌, drop}
use Rattle.sx_text.specs.Machines.{run_from}
use Rattle.sx_text.specs.Numbers.{number_step, number_at}
use Rattle.sx_text.proofs.number_reader.number_by_digits.Given as goal

abbrev pub invariant-loop-byte : goal.invariant-loop-byte
invariant-loop-byte l = (run_from (number_step l.stop l.low l.high) l.so_far (drop l.byte-index l.bytes) ≡ number_at l.stop l.low l.high l.bytes) × (l.rest ≡ drop l.byte-index l.bytes)
