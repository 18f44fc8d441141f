use Rattle.std.proofs.Common.{ap, ◌∙◌, ◌++◌, ◌-◌, ◌≡◌, suc, ◌+◌, arith, map, replicate, bit_xor, take, slice_index_or, slice_set}
use Rattle.std.proofs.Math.Numerals.{suc-eq-add-one}
use Rattle.sx_key.proofs.Pads.{next_filled}
use Rattle.sx_key.proofs.digest.padded_key.Goals as goal

pub loop-index-preserved : goal.loop-index-preserved
loop-index-preserved c =
    let i = c.loop-index.index in let key = c.args.key.now in let pad = c.args.pad in
    let left : 64 - i ≡ suc (64 - (i + 1)) = omega (arith, c.requires, c.loop-index-test.true) in
    ap (λ xs. slice_set xs i (bit_xor (slice_index_or key i 0) pad)) (c.loop-index.invariant ∙ ap (λ n. map (λ b. bit_xor b pad) (take i key) ++ replicate n pad) left)
    ∙ (next_filled (λ b. bit_xor b pad) pad key i (64 - (i + 1)) (c.loop-index-test.true)
    ∙ ap (λ n. map (λ b. bit_xor b pad) (take n key) ++ replicate (64 - (i + 1)) pad) (suc-eq-add-one i))
