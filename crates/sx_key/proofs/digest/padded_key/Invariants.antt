use Rattle.std.proofs.Common.{◌≡◌, ◌++◌, ◌-◌, map, replicate, bit_xor, take}
use Rattle.sx_key.proofs.digest.padded_key.Given as goal

abbrev pub invariant-loop-index : goal.invariant-loop-index
invariant-loop-index l = l.block ≡ map (λ b. bit_xor b l.pad) (take l.index l.key) ++ replicate (64 - l.index) l.pad
