use Rattle.std.proofs.Common.{◌==◌}
use Rattle.std.specs.List.{starts_with}
use Rattle.sx_tree.proofs.Paging.{IsPageSoFar}
use Rattle.sx_tree.specs.Pages.{item_of, names_between}
use Rattle.sx_tree.proofs.tree.Tree.page_in.Given as goal

abbrev pub invariant-loop-name : goal.invariant-loop-name
invariant-loop-name l =
    IsPageSoFar (λ e. starts_with ◌==◌ e.0 l.prefix) (item_of l.fn.self) l.max (names_between l.prefix l.marker l.fn.below.entries) l.items l.name-iterator
