use Rattle.std.proofs.Common.{◌≡◌, ap, None}
use Rattle.sx_base.specs.Entries.{value_at}
use Rattle.sx_tree.specs.Tree.{slot_at}
use Rattle.sx_spec.specs.Account.{Store}
use Rattle.sx_state.specs.Ids.{IsFresh}
use Rattle.sx_state.proofs.Changes.{if_some}
use Rattle.sx_state.proofs.state.State.make_node.Goals as goal

pub make_in-requires : goal.make_in-requires
make_in-requires c =
    let fresh : IsFresh c.args.self.now = c.requires.fresh in
    let shares : c.self.inside.shares.entries ≡ c.args.self.now.shares = ap (λ (s : Store). s.shares) c.self.view_is in
    if_some (λ x. slot_at x.tree c.args.node.id ≡ None) (value_at c.self.inside.shares.entries c.args.number)
    (λ x e. rw c.requires.next (fresh c.args.number x (rw (← shares) e)))
