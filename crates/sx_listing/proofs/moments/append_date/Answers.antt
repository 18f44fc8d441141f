use Rattle.std.proofs.Common.{IsUtf8, ◌≡◌, ◌++◌, List, ℕ, OnOk, sym, ap, subst, ◌∙◌}
use Rattle.std.proofs.lemmas.Str.{IsUtf8-from_is_utf8}
use Rattle.sx_base.specs.Date.{date_text}
use Rattle.sx_base.proofs.Dates.{one_date_only}
use Rattle.sx_listing.proofs.AsciiTexts.{date_utf8}
use Rattle.sx_listing.proofs.moments.append_date.Goals as goal

pub unreachable-requires : goal.unreachable-requires
unreachable-requires c =
    let text = one_date_only c.print_date-bytes.result c.ticks.result c.print_date-bytes.ensures in
    c.in-Err.ensures.cases.0 (subst IsUtf8 (sym text) (IsUtf8-from_is_utf8 (date_text c.ticks.result) (date_utf8 c.ticks.result)))

pub returns : goal.returns
returns c =
    let text = one_date_only c.print_date-bytes.result c.ticks.result c.print_date-bytes.ensures in
    let shown : c.in-Ok.shown.now ≡ date_text c.args.second = c.in-Ok.ensures.cases.0 ∙ text ∙ ap date_text c.ticks.ensures.value in
    subst (λ (x : List ℕ). OnOk c.append.result (c.append.new.self ≡ c.args.text.now ++ x)) shown c.append.ensures.ok
