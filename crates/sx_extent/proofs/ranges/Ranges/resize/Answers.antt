use Rattle.std.proofs.Common.{◌∙◌, ap}
use Rattle.sx_extent.specs.Ranges.{resize}
use Rattle.sx_extent.proofs.FileLemmas.{file_resized, kept_resized}
use Rattle.sx_extent.proofs.ranges.Ranges.resize.Goals as goal

pub invariant_of-self : goal.invariant_of-self
invariant_of-self c =
    kept_resized c.self.inside.length c.args.length c.min-kept.result c.self.inside.granules.entries c.erase.new.granules.entries c.min-kept.ensures c.requires c.self.invariant c.erase.ensures.erased c.erase.ensures.sized

pub returns-clause-ok : goal.returns-clause-ok
returns-clause-ok c =
    file_resized c.self.inside.length c.args.length c.min-kept.result c.self.inside.granules.entries c.erase.new.granules.entries c.min-kept.ensures c.self.invariant c.erase.ensures.erased
    ∙ ap (λ f. resize f c.args.length) c.self.view_is
