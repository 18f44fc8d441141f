use Rattle.std.proofs.Common.{arith, sym, subst, length}
use Rattle.std.proofs.lemmas.Str.{is_utf8-from_IsUtf8}
use Rattle.std.specs.Str.{IsValidUpTo}
use Rattle.sx_names.proofs.Fronts.{not_utf8, front_is}
use Rattle.sx_names.proofs.part.as_text.Goals as goal

pub returns-in-Ok : goal.returns-in-Ok
returns-in-Ok c = (c.in-Ok.ensures.cases.0, is_utf8-from_IsUtf8 c.args.bytes.now c.in-Ok.ensures.cases.1)

pub returns-in-Err : goal.returns-in-Err
returns-in-Err c =
    let bs = c.args.bytes.now in
    let valid : IsValidUpTo bs c.valid_up_to.result = subst (IsValidUpTo bs) (sym c.valid_up_to.ensures) c.in-Err.ensures.cases.1 in
    (sym (front_is bs c.valid_up_to.result (length bs) valid (omega (arith, valid.short))), not_utf8 bs c.in-Err.ensures.cases.0)
