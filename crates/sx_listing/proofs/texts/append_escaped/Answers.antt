use Rattle.std.proofs.Common.{IsUtf8, ap, sym, subst, ◌∙◌}
use Rattle.std.proofs.lemmas.Str.{IsUtf8-from_is_utf8}
use Rattle.sx_text.specs.Escapes.{escaped}
use Rattle.sx_text.proofs.Utf8.{escaped_utf8}
use Rattle.sx_listing.proofs.texts.append_escaped.Goals as goal

pub unreachable-requires : goal.unreachable-requires
unreachable-requires c =
    let bytes = c.deref.ensures.value ∙ c.in_ok-bytes.ensures ∙ ap escaped c.bytes.ensures.value in
    c.in-Err.ensures.cases.0
    (subst IsUtf8 (sym bytes) (IsUtf8-from_is_utf8 (escaped c.args.plain.now) (escaped_utf8 c.args.plain.now c.bytes.ensures.utf8)))
