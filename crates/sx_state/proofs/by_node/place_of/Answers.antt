use Rattle.std.proofs.Common.{◌≡◌, ◌∙◌, ◌<◌, ◌≤◌, Some, ap, true, false, get_or, length, subst, sym, rules}
use Rattle.std.specs.List.{prefix_len}
use Rattle.sx_state.specs.Guards.{is_at_of, is_before}
use Rattle.sx_state.proofs.OpenRuns.{at_there, at_nowhere, at_past}
use Rattle.sx_state.proofs.by_node.place_of.Goals as goal

pub returns-then-nodes-place : goal.returns-then-nodes-place
returns-then-nodes-place c =
    let id = c.args.id in
    let es = c.args.nodes.now in
    let past : length es ≤ prefix_len (is_before id c.args.handle) es = search rules in
    sym (at_past id c.args.handle es c.requires past)

pub returns-then-not-is_at_of : goal.returns-then-not-is_at_of
returns-then-not-is_at_of c =
    let id = c.args.id in
    let es = c.args.nodes.now in
    let d = c.index-nodes-place.result in
    let off : is_at_of id c.args.handle (get_or es (prefix_len (is_before id c.args.handle) es) d) ≡ false = cc in
    sym (at_nowhere id c.args.handle es d c.requires (λ lt. off))

pub returns : goal.returns
returns c =
    let id = c.args.id in
    let es = c.args.nodes.now in
    let d = c.index-nodes-place.result in
    let lt : prefix_len (is_before id c.args.handle) es < length es = subst (λ k. k < length es) c.place_at-place.ensures.place c.if-nodes-place.false in
    let on : is_at_of id c.args.handle (get_or es (prefix_len (is_before id c.args.handle) es) d) ≡ true = cc in
    ap Some c.place_at-place.ensures.place ∙ sym (at_there id c.args.handle es d c.requires lt on)
