use Rattle.std.proofs.Common.{◌≡◌, insert, ap, sym, ◌∙◌}
use Rattle.std.specs.List.{position_or_len}
use Rattle.sx_guard.proofs.Places.{insert_by-is}
use Rattle.sx_state.specs.Guards.{node_before}
use Rattle.sx_state.proofs.by_node.insert_on.Goals as goal

pub returns : goal.returns
returns c =
    let items = c.args.nodes.now.items in
    let at : c.place_behind-place.result ≡ position_or_len (node_before c.args.added) items = cc in
    c.in-Ok.ensures.items ∙ ap (λ i. insert items i c.args.added) at ∙ sym (insert_by-is node_before c.args.added items)
