use Rattle.std.proofs.Common.{IsUtf8, ◌≡◌, ◌++◌, List, ℕ, OnOk, sym, ap, subst, ◌∙◌}
use Rattle.std.proofs.lemmas.Str.{IsUtf8-from_is_utf8}
use Rattle.sx_base.specs.Moment.{moment_text}
use Rattle.sx_base.proofs.MomentFields.{one_text_only}
use Rattle.sx_listing.proofs.MomentTexts.{moment_utf8}
use Rattle.sx_listing.proofs.moments.append_moment.Goals as goal

pub unreachable-requires : goal.unreachable-requires
unreachable-requires c =
    let text = one_text_only c.print_moment-bytes.result c.ticks.result c.print_moment-bytes.ensures in
    c.in-Err.ensures.cases.0 (subst IsUtf8 (sym text) (IsUtf8-from_is_utf8 (moment_text c.ticks.result) (moment_utf8 c.ticks.result)))

pub returns : goal.returns
returns c =
    let text = one_text_only c.print_moment-bytes.result c.ticks.result c.print_moment-bytes.ensures in
    let shown : c.in-Ok.shown.now ≡ moment_text c.args.moment = c.in-Ok.ensures.cases.0 ∙ text ∙ ap moment_text c.ticks.ensures.value in
    subst (λ (x : List ℕ). OnOk c.append.result (c.append.new.self ≡ c.args.text.now ++ x)) shown c.append.ensures.ok
