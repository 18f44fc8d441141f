use Rattle.std.proofs.Common.{◌≡◌, ◌<◌, ◌≤◌, ◌^◌, drop}
use Rattle.sx_text.specs.Machines.{run_from}
use Rattle.sx_text.specs.Digits.{digits_step, digits_at}
use Rattle.sx_text.proofs.digits_reader.digits_one_by_one.Given as goal

abbrev pub invariant-loop-byte : goal.invariant-loop-byte
invariant-loop-byte l = (run_from (digits_step l.low l.high) (l.left, l.so_far) (drop l.byte-index l.bytes) ≡ digits_at l.more l.low l.high l.bytes) × (l.rest ≡ drop l.byte-index l.bytes) × (l.left ≤ 6) × (l.so_far < 10 ^ 8)
