use Rattle.std.proofs.Common.{[], ◌∙◌, ◌++◌, ◌∷◌, take, ap}
use Rattle.std.specs.List.{filter}
use Rattle.sx_call.specs.declared.pages.ShareItem.{ShareItem}
use Rattle.sx_spec.specs.Pages.{snapshot_item}
use Rattle.sx_ops_share.specs.Listed.{is_listed}
use Rattle.sx_ops_share.proofs.Cuts.{one_item}
use Rattle.sx_ops_share.proofs.items.list_snapshots.Goals as goal

pub loop-kept-preserved : goal.loop-kept-preserved
loop-kept-preserved c =
    let p = is_listed c.args.call.now.prefix c.args.call.now.marker in
    let f = snapshot_item c.args.name.now in
    let old = c.loop-kept.items.items in
    record {
      items =
          one_item p f c.args.most old c.list_item.new.items.items c.args.snapshots.now c.loop-kept.kept-index c.kept-item.result c.loop-kept-test.true
          (c.in_ok-list_item.ensures.items ∙ ap (λ (x : ShareItem). take c.args.most (old ++ filter p (x ∷ []))) (c.snapshot_item.ensures ∙ ap f c.kept-item.is))
          ∙ c.loop-kept.invariant.items;
      few = c.in_ok-list_item.ensures.few;
    }
