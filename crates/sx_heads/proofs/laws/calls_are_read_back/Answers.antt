use Rattle.sx_heads.proofs.ReadBack.{read_back}
use Rattle.sx_heads.proofs.laws.calls_are_read_back.Goals as goal

pub returns : goal.returns
returns c = record { back = read_back c.args.call.now c.requires c.keeps_limits.ensures c.digests_are_read.ensures }
