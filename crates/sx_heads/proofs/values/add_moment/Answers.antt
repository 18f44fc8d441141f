use Rattle.std.proofs.Common.{IsUtf8, sym, subst}
use Rattle.std.proofs.lemmas.Str.{IsUtf8-from_is_utf8}
use Rattle.sx_base.specs.Moment.{moment_text}
use Rattle.sx_heads.proofs.PlainTexts.{ascii_utf8, moment_ascii}
use Rattle.sx_heads.proofs.values.add_moment.Goals as goal

pub unreachable-requires : goal.unreachable-requires
unreachable-requires c =
    c.in-Err.ensures.cases.0 (subst IsUtf8 (sym c.moment_digits-digits.ensures) (IsUtf8-from_is_utf8 (moment_text c.args.moment) (ascii_utf8 (moment_text c.args.moment) (moment_ascii c.args.moment))))
