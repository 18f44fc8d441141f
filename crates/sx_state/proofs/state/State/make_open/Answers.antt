use Rattle.std.proofs.Common.{◌+◌, ◌≡◌, ◌∙◌, ap, ℕ, None, List, filter, not}
use Rattle.sx_base.specs.Entries.{value_at, change}
use Rattle.sx_tree.specs.Tree.{slot_at}
use Rattle.sx_guard.specs.Handle.{Handle, same_handle}
use Rattle.sx_call.specs.declared.opens.Open.{Open}
use Rattle.sx_spec.specs.Account.{Store, is_session}
use Rattle.sx_spec.specs.Changes.{put_open, make_node, grant}
use Rattle.sx_state.specs.Ids.{IsFresh}
use Rattle.sx_state.proofs.Changes.{if_some}
use Rattle.sx_state.proofs.OpenRuns.{out_again}
use Rattle.sx_state.proofs.state.State.make_open.Goals as goal

pub make_in-requires : goal.make_in-requires
make_in-requires c =
    let fresh : IsFresh c.args.self.now = c.requires.fresh in
    let shares : c.self.inside.shares.entries ≡ c.args.self.now.shares = ap (λ (s : Store). s.shares) c.self.view_is in
    if_some (λ x. slot_at x.tree c.args.node.id ≡ None) (value_at c.self.inside.shares.entries c.args.number)
    (λ x e. rw c.requires.next (fresh c.args.number x (rw (← shares) e)))

pub returns-in-Ok-make_in-clause-ok : goal.returns-in-Ok-make_in-clause-ok
unfolding put_open make_node
returns-in-Ok-make_in-clause-ok c =
    let sessions = c.grant.ensures ∙ ap (λ (n : ℕ). change (is_session n) grant c.self.inside.sessions.items) c.holder_of-session.ensures in
    rw (← c.self.view_is) (λ i. record {
      started = c.self.inside.started;
      sessions = sessions i;
      next_id = c.self.inside.next_id + 1;
      made = c.self.inside.made;
      shares = c.in-Ok-make_in.ensures.ok i;
      opens = c.in-Ok.ensures.ok i;
      locks = c.self.inside.locks;
    })

pub returns-in-Err-make_in-clause-err : goal.returns-in-Err-make_in-clause-err
returns-in-Err-make_in-clause-err c =
    let without = λ (h : Handle) (os : List Open). filter (λ q. not (same_handle h q.handle)) os in
    let opens =
    c.take.ensures
    ∙ ap (λ (h : Handle). without h c.put.new.self) c.handle_of-handle.ensures
    ∙ ap (without c.args.added.handle) c.in-Ok.ensures.ok
    ∙ out_again c.args.added c.self.inside.opens c.in-Ok.ensures.fresh in
    rw (← c.self.view_is) (λ i. record {
      started = c.self.inside.started;
      sessions = c.self.inside.sessions.items;
      next_id = c.self.inside.next_id;
      made = c.self.inside.made;
      shares = c.in-Err-make_in.ensures.err i;
      opens = opens i;
      locks = c.self.inside.locks;
    })
