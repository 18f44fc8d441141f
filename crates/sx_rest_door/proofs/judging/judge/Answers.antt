use Rattle.std.proofs.Common.{◌≡◌, Err, subst}
use Rattle.sx_call.specs.declared.calls.Call.{Call}
use Rattle.sx_decode.specs.Reading.{Reads}
use Rattle.sx_decode.specs.Spelling.{reading}
use Rattle.sx_decode.specs.declared.unread.Unread.{Unread}
use Rattle.sx_key.specs.Checking.{auth}
use Rattle.sx_rest_door.proofs.Judgements.{checked_so, not_signed_so}
use Rattle.sx_rest_door.proofs.judging.judge.Goals as goal

pub returns-in-Err : goal.returns-in-Err
returns-in-Err c = not_signed_so c.args.account.now c.args.request c.args.now c.in-Err.fault c.not_signed.result c.in-Err.ensures c.not_signed.ensures

pub returns-in-Err-Syntax : goal.returns-in-Err-Syntax
returns-in-Err-Syntax c = (
  checked_so c.check.result (auth c.args.request.head c.args.account.now c.args.now) c.check.ensures c.in_default.not-Err,
  subst (λ (why : Unread). Reads {A = Call} (Err why) (reading c.args.request)) c.in-Err-Syntax.field-0-is c.in-Err-Syntax.ensures,
)
