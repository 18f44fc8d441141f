use Rattle.std.proofs.Common.{rules, tests}
use Rattle.std.proofs.lemmas.List.Sorted.{IsPartitionPoint-from_clause}
use Rattle.sx_state.proofs.Runs.{place_is}
use Rattle.sx_state.proofs.LockRuns.{at_parts}
use Rattle.sx_call.specs.declared.opens.Lock.{Lock}
use Rattle.sx_spec.specs.Changes.{comes_before}
use Rattle.sx_state.proofs.locked.place_at.Goals as goal

pub returns : goal.returns
returns c =
    let test = λ (l : Lock). comes_before l c.args.one.now in
    let point = IsPartitionPoint-from_clause test _ _ c.partition_point.ensures.partitioned (at_parts c.args.one.now c.args.locks.now c.requires) (λ a r q k. search (rules, tests)) in
    place_is test c.args.locks.now c.partition_point.result c.partition_point.ensures.bound point
