use Rattle.std.proofs.Common.{◌≡◌, []}
use Rattle.sx_decode.specs.Metadata.{lent_values, pairs_of}
use Rattle.sx_decode.proofs.metadata.pairs_of.Given as goal

-- the pairs of all, and of those that are left behind the pairs that were read
abbrev pub invariant-loop-name : goal.invariant-loop-name
invariant-loop-name l = pairs_of [] (lent_values l.fn.values.entries) ≡ pairs_of l.meta (lent_values l.name-iterator)
