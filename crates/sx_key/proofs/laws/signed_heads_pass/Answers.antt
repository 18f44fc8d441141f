use Rattle.sx_key.proofs.Passing.{signed_passes}
use Rattle.sx_key.proofs.Window.{timely_within}
use Rattle.sx_key.proofs.laws.signed_heads_pass.Goals as goal

pub returns : goal.returns
returns c = record { passes = signed_passes; within = timely_within }
