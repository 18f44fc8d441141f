use Rattle.std.proofs.Common.{◌≡◌, Some, None, position, sym, ◌∙◌}
use Rattle.sx_guard.proofs.Places.{place-None, remove-place, remove_first-none}
use Rattle.sx_state.specs.Guards.{is_at_of}
use Rattle.sx_state.proofs.by_node.drop_on.Goals as goal

pub returns-in-Some : goal.returns-in-Some
returns-in-Some c =
    let test = is_at_of c.args.id c.args.handle in
    let e : position test c.args.nodes.now.items ≡ Some c.in-Some.place = cc in
    c.remove.ensures.items ∙ remove-place test c.args.nodes.now.items c.in-Some.place e

pub returns-in-None : goal.returns-in-None
returns-in-None c =
    let test = is_at_of c.args.id c.args.handle in
    let e : position test c.args.nodes.now.items ≡ None = cc in
    sym (remove_first-none test c.args.nodes.now.items (place-None test c.args.nodes.now.items e))
