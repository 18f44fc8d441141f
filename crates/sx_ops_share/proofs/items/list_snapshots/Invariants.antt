use Rattle.std.proofs.Common.{◌≡◌, ◌≤◌, ◌++◌, length, map, take, drop}
use Rattle.std.specs.List.{filter}
use Rattle.sx_spec.specs.Pages.{snapshot_item}
use Rattle.sx_ops_share.specs.Listed.{is_listed}
use Rattle.sx_ops_share.proofs.items.list_snapshots.Given as goal

-- what is left gives the same
abbrev pub invariant-loop-kept : goal.invariant-loop-kept
invariant-loop-kept l = record {
  items : take l.most (l.items.items ++ filter (is_listed l.call.prefix l.call.marker) (map (snapshot_item l.name) (drop l.kept-index l.snapshots)))
      ≡ take l.most (l.initial.items.items ++ filter (is_listed l.call.prefix l.call.marker) (map (snapshot_item l.name) l.snapshots));
  few : length l.items.items ≤ l.most;
}
