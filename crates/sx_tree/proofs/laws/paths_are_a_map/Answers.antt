use Rattle.sx_tree.proofs.PathLaws.{found_denotes, found_only}
use Rattle.sx_tree.proofs.laws.paths_are_a_map.Goals as goal

pub returns-clause-denotes : goal.returns-clause-denotes
returns-clause-denotes c = found_denotes

pub returns-clause-only : goal.returns-clause-only
returns-clause-only c = found_only
