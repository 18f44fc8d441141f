use Rattle.std.proofs.Common.{◌∙◌, ◌++◌, take, ap}
use Rattle.std.specs.List.{filter}
use Rattle.sx_spec.specs.Pages.{items_of}
use Rattle.sx_ops_share.specs.Listed.{is_listed}
use Rattle.sx_ops_share.proofs.Cuts.{one_share}
use Rattle.sx_ops_share.proofs.items.first_items.Goals as goal

pub loop-share-preserved : goal.loop-share-preserved
loop-share-preserved c =
    let p = is_listed c.args.call.now.prefix c.args.call.now.marker in
    let f = items_of c.args.call.now.snapshots in
    let old = c.loop-share.items.items in
    record {
      items =
          one_share p f (λ s. s.now) c.args.most old c.list_share.new.items.items c.args.shares.now c.loop-share.share-index c.share-item.result c.loop-share-test.true
          (c.in_ok-list_share.ensures.items ∙ ap (λ s. take c.args.most (old ++ filter p (f s.now))) c.share-item.is)
          ∙ c.loop-share.invariant.items;
      few = c.in_ok-list_share.ensures.few;
    }
