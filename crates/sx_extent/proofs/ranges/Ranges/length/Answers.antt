use Rattle.std.proofs.Common.{sym, subst}
use Rattle.sx_extent.specs.Ranges.{SparseFile, IsWellFormed}
use Rattle.sx_extent.proofs.FileLemmas.{self_length, file_whole}
use Rattle.sx_extent.proofs.ranges.Ranges.length.Goals as goal

pub returns-clause-bytes : goal.returns-clause-bytes
returns-clause-bytes c = sym (self_length _ _ _ c.self.view_is)

pub returns-clause-whole : goal.returns-clause-whole
returns-clause-whole c =
    let P : SparseFile → Type 0 = IsWellFormed in
    subst P c.self.view_is (file_whole c.self.inside.length c.self.inside.granules.entries c.self.invariant)
