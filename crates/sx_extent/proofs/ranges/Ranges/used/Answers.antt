use Rattle.std.proofs.Common.{◌≡◌, ◌≤◌, ◌∙◌, ap, arith, length}
use Rattle.sx_extent.specs.Ranges.{used, granule_count, most_bytes}
use Rattle.sx_extent.specs.Granules.{file_of}
use Rattle.sx_extent.proofs.FileLemmas.{file_length, file_whole}
use Rattle.sx_extent.proofs.KeyLemmas.{used_is}
use Rattle.sx_extent.proofs.UseLaws.{used_most}
use Rattle.sx_extent.proofs.ranges.Ranges.used.Goals as goal

pub returns-clause-value : goal.returns-clause-value
returns-clause-value c = c.len.ensures.len ∙ used_is c.self.inside.length c.self.inside.granules.entries c.self.invariant c.len.ensures.ordered ∙ ap used c.self.view_is

pub returns-clause-limit : goal.returns-clause-limit
returns-clause-limit c =
    let n = c.self.inside.length in
    let es = c.self.inside.granules.entries in
    let i = c.len.ensures.len ∙ used_is n es c.self.invariant c.len.ensures.ordered in
    let m : used (file_of n es) ≤ granule_count (length (file_of n es).bytes) = used_most (file_of n es) (file_whole n es c.self.invariant) in
    let l : length (file_of n es).bytes ≡ n = file_length n es in
    let b : n ≤ most_bytes = c.self.invariant.limit in
    omega arith
