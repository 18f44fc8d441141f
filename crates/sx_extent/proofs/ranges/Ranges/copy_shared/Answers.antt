use Rattle.std.proofs.Common.{◌∙◌}
use Rattle.sx_extent.proofs.FileLemmas.{file_same, kept_same}
use Rattle.sx_extent.proofs.ViewLemmas.{same_copy}
use Rattle.sx_extent.proofs.ranges.Ranges.copy_shared.Goals as goal

pub invariant_of-result : goal.invariant_of-result
invariant_of-result c =
    let es = c.self.inside.granules.entries in
    let fs = c.in_ok-granules.granules.entries in
    kept_same c.self.inside.length es fs (same_copy c.self.inside.length es fs c.past_of-past.result c.self.invariant c.past_of-past.ensures c.in_ok-granules.ensures) c.self.invariant

pub returns : goal.returns
returns c =
    let es = c.self.inside.granules.entries in
    let fs = c.in_ok-granules.granules.entries in
    file_same c.self.inside.length es fs (same_copy c.self.inside.length es fs c.past_of-past.result c.self.invariant c.past_of-past.ensures c.in_ok-granules.ensures) ∙ c.self.view_is
