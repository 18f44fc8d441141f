use Rattle.std.proofs.Common.{rules, ◌==◌}
use Rattle.std.specs.List.{starts_with}
use Rattle.sx_tree.proofs.Paging.{page_more}
use Rattle.sx_tree.specs.Pages.{item_of, names_between}
use Rattle.sx_tree.proofs.tree.Tree.page_in.Goals as goal

pub loop-name-preserved-in_ok-push : goal.loop-name-preserved-in_ok-push
loop-name-preserved-in_ok-push c =
    let h = page_more (λ e. starts_with ◌==◌ e.0 c.args.prefix.now) (item_of c.args.self.now) c.args.max (names_between c.args.prefix.now c.args.marker.now c.args.below.now.entries) c.loop-name.items c.loop-name.name-iterator (c.in-Some.name.now, c.in-Some.id.now) c.next.new.self c.loop-name.invariant (search rules) (search rules) (search rules) in
    rw c.in_ok-push.ensures.ok (rw c.in_ok-item.ensures h)
