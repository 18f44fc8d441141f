use Rattle.std.proofs.Common.{◌∙◌, ap, nat_lt, List, filter, length}
use Rattle.std.specs.List.{list_any}
use Rattle.sx_spec.specs.Account.{is_on}
use Rattle.sx_state.specs.declared.by_node.OnNode.{OnNode}
use Rattle.sx_state.specs.Guards.{is_at}
use Rattle.sx_state.proofs.GuardLaws.{any_counts, counted_on}
use Rattle.sx_state.proofs.handles.Opens.is_on.Goals as goal

pub returns : goal.returns
returns c =
    let id = c.args.id in
    let os = c.self.inside.listed.items in
    let es = c.self.inside.nodes.items in
    ap (λ (xs : List OnNode). nat_lt 0 (length xs)) (c.opens_on.ensures ∙ ap (filter (is_at id)) c.deref.ensures.value)
    ∙ ap (nat_lt 0) (counted_on id os es c.self.invariant)
    ∙ any_counts (is_on id) os
    ∙ ap (list_any (is_on id)) c.self.view_is
