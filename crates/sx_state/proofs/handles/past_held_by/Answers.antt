use Rattle.std.proofs.Common.{nat_lt, not, rules, tests}
use Rattle.std.proofs.lemmas.List.Sorted.{IsPartitionPoint-from_clause}
use Rattle.sx_call.specs.declared.opens.Open.{Open}
use Rattle.sx_state.proofs.Runs.{place_is}
use Rattle.sx_state.proofs.OpenRuns.{session_past_parts}
use Rattle.sx_state.proofs.handles.past_held_by.Goals as goal

pub returns-clause-place : goal.returns-clause-place
returns-clause-place c =
    let test = λ (o : Open). not (nat_lt c.args.session o.handle.session) in
    let point = IsPartitionPoint-from_clause test _ _ c.partition_point.ensures.partitioned (session_past_parts c.args.session c.args.opens.now c.requires) (λ a r q k. search (rules, tests)) in
    place_is test c.args.opens.now c.partition_point.result c.partition_point.ensures.bound point
