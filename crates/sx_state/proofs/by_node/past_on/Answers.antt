use Rattle.std.proofs.Common.{nat_lt, not, rules, tests}
use Rattle.std.proofs.lemmas.List.Sorted.{IsPartitionPoint-from_clause}
use Rattle.sx_state.specs.declared.by_node.OnNode.{OnNode}
use Rattle.sx_state.proofs.Runs.{place_is}
use Rattle.sx_state.proofs.OpenRuns.{past_parts}
use Rattle.sx_state.proofs.by_node.past_on.Goals as goal

pub returns-clause-place : goal.returns-clause-place
returns-clause-place c =
    let test = λ (e : OnNode). not (nat_lt c.args.id e.node) in
    let point = IsPartitionPoint-from_clause test _ _ c.partition_point.ensures.partitioned (past_parts c.args.id c.args.nodes.now c.requires) (λ a r q k. search (rules, tests)) in
    place_is test c.args.nodes.now c.partition_point.result c.partition_point.ensures.bound point
