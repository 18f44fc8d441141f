use Rattle.std.proofs.Common.{◌≡◌, ◌+◌, ℕ}
use Rattle.sx_tree.specs.Climbs.{climbs}
use Rattle.sx_tree.proofs.tree.Tree.is_under.Given as goal

abbrev pub invariant-loop : goal.invariant-loop
invariant-loop l = (n : ℕ) → n + l.counter ≡ l.count → climbs l.fn.self l.count l.dir l.id ≡ climbs l.fn.self n l.dir l.at
