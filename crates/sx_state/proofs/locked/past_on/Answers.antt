use Rattle.std.proofs.Common.{nat_lt, not, rules, tests}
use Rattle.std.proofs.lemmas.List.Sorted.{IsPartitionPoint-from_clause}
use Rattle.sx_state.proofs.Runs.{place_is}
use Rattle.sx_state.proofs.LockRuns.{past_parts}
use Rattle.sx_call.specs.declared.opens.Lock.{Lock}
use Rattle.sx_state.proofs.locked.past_on.Goals as goal

pub returns-clause-place : goal.returns-clause-place
returns-clause-place c =
    let test = λ (l : Lock). not (nat_lt c.args.id l.node) in
    let point = IsPartitionPoint-from_clause test _ _ c.partition_point.ensures.partitioned (past_parts c.args.id c.args.locks.now c.requires) (λ a r q k. search (rules, tests)) in
    place_is test c.args.locks.now c.partition_point.result c.partition_point.ensures.bound point
