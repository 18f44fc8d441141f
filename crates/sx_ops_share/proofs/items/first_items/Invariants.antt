use Rattle.std.proofs.Common.{◌≡◌, ◌≤◌, ◌++◌, length, map, take, drop}
use Rattle.std.specs.List.{filter, flat_map}
use Rattle.sx_spec.specs.Pages.{items_of}
use Rattle.sx_ops_share.specs.Listed.{is_listed}
use Rattle.sx_ops_share.proofs.items.first_items.Given as goal

-- what is left gives the same
abbrev pub invariant-loop-share : goal.invariant-loop-share
invariant-loop-share l = record {
  items : take l.most (l.items.items ++ filter (is_listed l.call.prefix l.call.marker) (flat_map (items_of l.call.snapshots) (map (λ s. s.now) (drop l.share-index l.shares))))
      ≡ take l.most (filter (is_listed l.call.prefix l.call.marker) (flat_map (items_of l.call.snapshots) (map (λ s. s.now) l.shares)));
  few : length l.items.items ≤ l.most;
}
