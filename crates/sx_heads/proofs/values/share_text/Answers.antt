use Rattle.std.proofs.Common.{IsUtf8, sym, subst}
use Rattle.std.proofs.lemmas.Str.{IsUtf8-from_is_utf8}
use Rattle.sx_heads.proofs.ReadValues.{share_utf8}
use Rattle.sx_heads.proofs.values.share_text.Goals as goal

pub unreachable-requires : goal.unreachable-requires
unreachable-requires c =
    c.in-Err.ensures.cases.0 (subst IsUtf8 (sym c.bytes.ensures.value) (IsUtf8-from_is_utf8 c.args.share.now (share_utf8 c.args.share.now c.bytes.ensures.name)))
