use Rattle.std.proofs.Common.{◌≡◌, None, ap, sym, subst, ◌∙◌}
use Rattle.std.specs.BTreeMap.{is_at}
use Rattle.std.specs.Cmp.Lexicographic.{slice_cmp}
use Rattle.std.specs.Map.{lookup}
use Rattle.std.specs.Ordering.{nat_cmp}
use Rattle.sx_decode.specs.Metadata.{lent_values, put_value}
use Rattle.sx_decode.proofs.MetaValues.{put_new}
use Rattle.sx_decode.proofs.metadata.put_first.Goals as goal

pub returns : goal.returns
returns c =
    let es = c.args.values.now.entries in
    let name : c.as_str.result.now ≡ c.args.header.now.name = c.as_str.ensures in
    let value : c.in_ok-value.value ≡ c.args.header.now.value = c.in_ok-value.ensures ∙ c.as_slice.ensures in
    ap lent_values c.in_ok-insert.ensures.entries
    ∙ put_new es c.as_str.result c.in_ok-value.value (subst (λ n. lookup (is_at (λ y. slice_cmp nat_cmp n y.now)) es ≡ None) (sym name) c.requires)
    ∙ (λ i. put_value (lent_values es) (name i) (value i))
