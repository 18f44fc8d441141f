use Rattle.std.proofs.Common.{rules}
use Rattle.sx_answer_reader.proofs.ViewBytes.{bytes_more, all_bytes}
use Rattle.sx_answer_reader.proofs.laws.view_fits.Goals as goal

pub returns-clause-bytes : goal.returns-clause-bytes
returns-clause-bytes c = all_bytes c.args.view.now c.loop-at.at (search rules) c.loop-at.invariant

pub loop-at-preserved : goal.loop-at-preserved
loop-at-preserved c = bytes_more c.args.view.now c.loop-at.at c.loop-at.invariant c.byte_fits.ensures
