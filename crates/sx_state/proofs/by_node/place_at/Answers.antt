use Rattle.std.proofs.Common.{rules, tests}
use Rattle.std.proofs.lemmas.List.Sorted.{IsPartitionPoint-from_clause}
use Rattle.sx_state.specs.Guards.{is_before}
use Rattle.sx_state.proofs.Runs.{place_is}
use Rattle.sx_state.proofs.OpenRuns.{at_parts}
use Rattle.sx_state.proofs.by_node.place_at.Goals as goal

pub returns-clause-place : goal.returns-clause-place
returns-clause-place c =
    let test = is_before c.args.id c.args.handle in
    let point = IsPartitionPoint-from_clause test _ _ c.partition_point.ensures.partitioned (at_parts c.args.id c.args.handle c.args.nodes.now c.requires) (λ a r q k. search (rules, tests)) in
    place_is test c.args.nodes.now c.partition_point.result c.partition_point.ensures.bound point
