use Rattle.std.proofs.Common.{not, rules, tests}
use Rattle.std.proofs.lemmas.List.Sorted.{IsPartitionPoint-from_clause}
use Rattle.sx_state.specs.declared.by_node.OnNode.{OnNode}
use Rattle.sx_state.specs.Guards.{node_before}
use Rattle.sx_state.proofs.Runs.{place_is}
use Rattle.sx_state.proofs.OpenRuns.{node_behind_parts}
use Rattle.sx_state.proofs.by_node.place_behind.Goals as goal

pub returns-clause-place : goal.returns-clause-place
returns-clause-place c =
    let test = λ (e : OnNode). not (node_before c.args.one.now e) in
    let point = IsPartitionPoint-from_clause test _ _ c.partition_point.ensures.partitioned (node_behind_parts c.args.one.now c.args.nodes.now c.requires) (λ a r q k. search (rules, tests)) in
    place_is test c.args.nodes.now c.partition_point.result c.partition_point.ensures.bound point
