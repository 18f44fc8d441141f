use Rattle.std.proofs.Common.{◌≡◌, ◌++◌, ◌∷◌, List, ℕ, ap, sym, ◌∙◌}
use Rattle.std.specs.BTreeMap.{is_at}
use Rattle.std.specs.Cmp.Lexicographic.{slice_cmp}
use Rattle.std.specs.Map.{set_value}
use Rattle.std.specs.Ordering.{nat_cmp}
use Rattle.std.proofs.lemmas.Result.{on_ok_weaker}
use Rattle.sx_decode.specs.Metadata.{lent_values, put_value}
use Rattle.sx_decode.proofs.MetaValues.{put_there}
use Rattle.sx_decode.proofs.metadata.put_value.Goals as goal

pub returns-in-Some : goal.returns-in-Some
returns-in-Some c =
    let es = c.args.values.now.entries in
    let old = c.in-Some.value.now in
    let name : c.as_str.result.now ≡ c.args.header.now.name = c.as_str.ensures in
    let value : c.as_slice.result.now ≡ c.args.header.now.value = c.as_slice.ensures in
    on_ok_weaker c.add_value.result
    (λ (more : c.add_value.new.values ≡ old ++ 44 ∷ c.as_slice.result.now).
    ap lent_values (c.get_mut.follows.holds c.add_value.new.values).0
    ∙ ap (λ (w : List ℕ). lent_values (set_value (is_at (λ y. slice_cmp nat_cmp c.as_str.result.now y.now)) es w)) more
    ∙ put_there es c.as_str.result.now old c.as_slice.result.now c.get_mut.ensures.ordered (sym (rw c.in-Some.is at c.get_mut.ensures.value))
    ∙ (λ i. put_value (lent_values es) (name i) (value i)))
    c.add_value.ensures
