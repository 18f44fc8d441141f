use Rattle.std.proofs.Common.{rules, tests}
use Rattle.std.proofs.lemmas.List.Sorted.{IsPartitionPoint-from_clause}
use Rattle.sx_guard.specs.Handle.{handle_before}
use Rattle.sx_call.specs.declared.opens.Open.{Open}
use Rattle.sx_state.proofs.Runs.{place_is}
use Rattle.sx_state.proofs.OpenRuns.{handle_parts}
use Rattle.sx_state.proofs.handles.place_at.Goals as goal

pub returns-clause-place : goal.returns-clause-place
returns-clause-place c =
    let test = λ (o : Open). handle_before o.handle c.args.handle in
    let point = IsPartitionPoint-from_clause test _ _ c.partition_point.ensures.partitioned (handle_parts c.args.handle c.args.opens.now c.requires) (λ a r q k. search (rules, tests)) in
    place_is test c.args.opens.now c.partition_point.result c.partition_point.ensures.bound point
