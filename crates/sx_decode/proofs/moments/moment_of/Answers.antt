use Rattle.std.proofs.Common.{◌≡◌, ℕ, Result, Some, subst, sym, ap, ◌∙◌}
use Rattle.sx_base.specs.declared.moment_reader.BadMoment.{BadMoment}
use Rattle.sx_decode.specs.Moments.{moment_of}
use Rattle.sx_decode.proofs.MomentTexts.{moment_is, if_read}
use Rattle.sx_decode.proofs.moments.moment_of.Goals as goal

pub returns-in-Ok : goal.returns-in-Ok
returns-in-Ok c =
    ap (λ (n : ℕ). Some n) c.of.ensures
    ∙ sym (subst (λ (r : Result ℕ BadMoment). moment_of c.args.text.now ≡ if_read r) c.in-Ok.is (moment_is c.args.text.now c.read_moment.result c.read_moment.ensures))

pub returns-in-Err : goal.returns-in-Err
returns-in-Err c =
    sym (subst (λ (r : Result ℕ BadMoment). moment_of c.args.text.now ≡ if_read r) c.in-Err.is (moment_is c.args.text.now c.read_moment.result c.read_moment.ensures))
