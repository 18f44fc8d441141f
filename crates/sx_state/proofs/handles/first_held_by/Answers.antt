use Rattle.std.proofs.Common.{nat_lt, rules, tests}
use Rattle.std.proofs.lemmas.List.Sorted.{IsPartitionPoint-from_clause}
use Rattle.sx_call.specs.declared.opens.Open.{Open}
use Rattle.sx_state.proofs.Runs.{place_is}
use Rattle.sx_state.proofs.OpenRuns.{session_first_parts}
use Rattle.sx_state.proofs.handles.first_held_by.Goals as goal

pub returns : goal.returns
returns c =
    let test = λ (o : Open). nat_lt o.handle.session c.args.session in
    let point = IsPartitionPoint-from_clause test _ _ c.partition_point.ensures.partitioned (session_first_parts c.args.session c.args.opens.now c.requires) (λ a r q k. search (rules, tests)) in
    place_is test c.args.opens.now c.partition_point.result c.partition_point.ensures.bound point
