use Rattle.std.proofs.Common.{◌≡◌, ◌∙◌, ap, not, filter, rules}
use Rattle.std.proofs.lemmas.Fn.{filter_same}
use Rattle.sx_tree.specs.declared.share.Snapshot.{Snapshot}
use Rattle.sx_spec.specs.Shares.{is_of_moment}
use Rattle.sx_state.proofs.snapshots.drop_kept.Goals as goal

pub returns : goal.returns
returns c =
    let test = λ (x : Snapshot). not (is_of_moment c.args.moment x) in
    let kept : c.retain.new.self.items ≡ filter test c.into_vec-kept.result.items =
    filter_same _ _ _ (λ x b f' k. search rules) _ _ c.retain.ensures.filtered in
    c.of.ensures ∙ kept ∙ ap (filter test) (c.into_vec-kept.ensures ∙ c.replace.ensures.value)
