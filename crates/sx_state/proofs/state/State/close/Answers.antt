use Rattle.std.proofs.Common.{rules, ◌≡◌, ◌∙◌}
use Rattle.sx_spec.specs.Trees.{settle}
use Rattle.sx_spec.specs.Changes.{change_tree, close, close_fate}
use Rattle.sx_state.proofs.state.State.close.Goals as goal

pub returns-clause-closed : goal.returns-clause-closed
unfolding close close_fate
returns-clause-closed c =
    let fate : c.fate_of-fate.result ≡ close_fate c.args.held c.args.self.now = search rules in
    c.settle.ensures ∙ (λ i. change_tree c.args.held.share (settle (fate i) c.args.held.node) (c.take_open.ensures i))
