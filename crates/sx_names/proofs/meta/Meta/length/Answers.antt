use Rattle.std.proofs.Common.{arith}
use Rattle.sx_names.proofs.Ordered.{meta_limits}
use Rattle.sx_names.proofs.meta.Meta.length.Goals as goal

pub returns-clause-short : goal.returns-clause-short
returns-clause-short c =
    let limits = meta_limits c.self.inside.pairs c.self.invariant.0 in
    omega (arith, c.self.invariant.1, limits.1)
