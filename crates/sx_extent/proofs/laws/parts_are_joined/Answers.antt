use Rattle.sx_extent.proofs.PartLaws.{cuts_joined, parts_joined, whole_part, part_of_cut}
use Rattle.sx_extent.proofs.laws.parts_are_joined.Goals as goal

pub returns-clause-cuts : goal.returns-clause-cuts
returns-clause-cuts c = cuts_joined

pub returns-clause-parts : goal.returns-clause-parts
returns-clause-parts c = parts_joined

pub returns-clause-whole : goal.returns-clause-whole
returns-clause-whole c = whole_part

pub returns-clause-inner : goal.returns-clause-inner
returns-clause-inner c = part_of_cut
