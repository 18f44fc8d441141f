use Rattle.std.proofs.Common.{not, rules, tests}
use Rattle.std.proofs.lemmas.List.Sorted.{IsPartitionPoint-from_clause}
use Rattle.sx_state.proofs.Runs.{place_is}
use Rattle.sx_state.proofs.LockRuns.{behind_parts}
use Rattle.sx_call.specs.declared.opens.Lock.{Lock}
use Rattle.sx_spec.specs.Changes.{comes_before}
use Rattle.sx_state.proofs.locked.place_behind.Goals as goal

pub returns-clause-place : goal.returns-clause-place
returns-clause-place c =
    let test = λ (l : Lock). not (comes_before c.args.one.now l) in
    let point = IsPartitionPoint-from_clause test _ _ c.partition_point.ensures.partitioned (behind_parts c.args.one.now c.args.locks.now c.requires) (λ a r q k. search (rules, tests)) in
    place_is test c.args.locks.now c.partition_point.result c.partition_point.ensures.bound point
