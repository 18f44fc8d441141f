use Rattle.sx_extent.proofs.GranuleLemmas.{IsWritten-put}
use Rattle.sx_extent.proofs.granules.write_part.Goals as goal

pub returns-clause-written : goal.returns-clause-written
returns-clause-written c = (IsWritten-put _ _ c.args.at c.args.bytes.now c.overwrite.ensures c.requires.sized c.requires.fits c.requires.marked).0

pub returns-clause-sized : goal.returns-clause-sized
returns-clause-sized c = (IsWritten-put _ _ c.args.at c.args.bytes.now c.overwrite.ensures c.requires.sized c.requires.fits c.requires.marked).1
