use Rattle.std.proofs.Common.{◌≡◌}
use Rattle.std.proofs.lemmas.Result.{IfOk-weaker}
use Rattle.sx_heads.specs.Heads.{head_of, IsReadAs}
use Rattle.sx_heads.proofs.heads.head_of.Goals as goal

pub returns-clause-read : goal.returns-clause-read
returns-clause-read c =
    IfOk-weaker c.rest_head.result (λ r. r ≡ head_of c.args.call.now) (λ r. IsReadAs c.args.call.now r)
    (λ r e. rw e c.calls_are_read_back.ensures.back) c.rest_head.ensures
