use Rattle.std.proofs.Common.{◌≤◌, length, subst}
use Rattle.sx_names.specs.declared.meta.TheConstants.{MAX_META_NAMES}
use Rattle.sx_names.proofs.Ordered.{meta_limits}
use Rattle.sx_names.proofs.meta.Meta.pairs.Goals as goal

pub returns-clause-few : goal.returns-clause-few
returns-clause-few c =
    let limits = meta_limits c.self.inside.pairs c.self.invariant.0 in
    subst (λ ps. length ps ≤ MAX_META_NAMES) c.self.view_is limits.0
