use Rattle.std.proofs.Common.{◌≤◌, length, arith}
use Rattle.sx_http.specs.declared.limits.TheConstants.{HEAD_LIMIT}
use Rattle.sx_http.proofs.HeadLemmas.{head_for}
use Rattle.sx_http.proofs.parse.read_head.Goals as goal

pub returns-in-Whole : goal.returns-in-Whole
returns-in-Whole c =
    let short : length c.args.bytes.now ≤ HEAD_LIMIT = omega (arith, c.if-bytes-gt-HEAD_LIMIT.false) in
    head_for c.args.bytes.now c.in-Whole.head c.in-Whole.size c.within_limits.result short c.in-Whole.ensures c.within_limits.ensures
