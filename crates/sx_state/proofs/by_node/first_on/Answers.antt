use Rattle.std.proofs.Common.{nat_lt, rules, tests}
use Rattle.std.proofs.lemmas.List.Sorted.{IsPartitionPoint-from_clause}
use Rattle.sx_state.specs.declared.by_node.OnNode.{OnNode}
use Rattle.sx_state.proofs.Runs.{place_is}
use Rattle.sx_state.proofs.OpenRuns.{first_parts}
use Rattle.sx_state.proofs.by_node.first_on.Goals as goal

pub returns : goal.returns
returns c =
    let test = λ (e : OnNode). nat_lt e.node c.args.id in
    let point = IsPartitionPoint-from_clause test _ _ c.partition_point.ensures.partitioned (first_parts c.args.id c.args.nodes.now c.requires) (λ a r q k. search (rules, tests)) in
    place_is test c.args.nodes.now c.partition_point.result c.partition_point.ensures.bound point
