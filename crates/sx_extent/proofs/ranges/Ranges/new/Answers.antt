use Rattle.std.proofs.Common.{◌∙◌, ap}
use Rattle.sx_extent.specs.Granules.{file_of}
use Rattle.sx_extent.proofs.FileLemmas.{file_blank, kept_blank}
use Rattle.sx_extent.proofs.ranges.Ranges.new.Goals as goal

pub invariant_of-result : goal.invariant_of-result
invariant_of-result c = rw c.new.ensures.empty (kept_blank c.args.length c.requires)

pub returns : goal.returns
returns c = ap (file_of c.args.length) c.new.ensures.empty ∙ file_blank c.args.length
