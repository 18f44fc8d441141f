use Rattle.std.proofs.Common.{IsUtf8, sym, subst, ◌∙◌, arith}
use Rattle.std.proofs.lemmas.Str.{IsUtf8-from_is_utf8}
use Rattle.sx_text.proofs.Utf8.{whole_utf8}
use Rattle.sx_listing.specs.Percent.{percent_text}
use Rattle.sx_listing.proofs.Percents.{percent_whole}
use Rattle.sx_listing.proofs.percent.append_ascii.Goals as goal

pub unreachable-requires : goal.unreachable-requires
unreachable-requires c =
    let plain = c.args.plain.now in
    let bytes = c.deref.ensures.value ∙ c.in_ok-bytes.ensures in
    let whole = percent_whole plain (λ i. let f = c.type_inv.plain i in omega arith) in
    c.in-Err.ensures.cases.0 (subst IsUtf8 (sym bytes) (IsUtf8-from_is_utf8 (percent_text plain) (whole_utf8 (percent_text plain) whole)))
