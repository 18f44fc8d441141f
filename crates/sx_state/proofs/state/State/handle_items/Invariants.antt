use Rattle.std.proofs.Common.{◌≡◌, ◌++◌, map, drop}
use Rattle.sx_spec.specs.Pages.{handle_item}
use Rattle.sx_state.proofs.state.State.handle_items.Given as goal

-- what is listed, and what is left to list
abbrev pub invariant-loop-held : goal.invariant-loop-held
invariant-loop-held l =
    let item = handle_item l.self l.tree in
    l.items ++ map item (drop l.held-index l.opens) ≡ map item l.opens
