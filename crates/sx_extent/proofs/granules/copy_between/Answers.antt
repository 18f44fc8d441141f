use Rattle.std.proofs.Common.{ℕ, List, subst, rules, tests}
use Rattle.std.specs.BTreeMap.Range.{entries_between}
use Rattle.std.specs.declared.ops.Bound.TheVariants.{Included, Excluded}
use Rattle.std.proofs.lemmas.List.{map-id}
use Rattle.std.specs.Ordering.{nat_cmp}
use Rattle.std.specs.BTreeMap as tree
use Rattle.std.proofs.lemmas.Iterator.{YieldsList-from_map}
use Rattle.std.proofs.lemmas.Iterator.Adapters.{fact_from_collect}
use Rattle.std.proofs.lemmas.Iterator.Consumers.{YieldsList-from_rest, YieldsList-at}
use Rattle.sx_extent.proofs.ViewLemmas.{copied_at}
use Rattle.sx_extent.proofs.granules.copy_between.Goals as goal

pub returns-in-Ok : goal.returns-in-Ok
returns-in-Ok c =
    let made = fact_from_collect (tree.IsFromIterResult nat_cmp) c.collect.result c.collect.ensures.ran (YieldsList-from_map _ (λ e. (e.0, e.1)) (YieldsList-at c.map.ensures.source (YieldsList-from_rest _ (c.range.ensures.between tt))) c.map.ensures.closure (λ x r q k. search (rules, tests))) in
    let es = c.args.granules.now.entries in
    let P : List (ℕ × List ℕ) → Type 0 = λ xs. tree.IsFromIterResult nat_cmp xs c.in-Ok.copy in
    λ q. copied_at es c.in-Ok.copy c.args.first c.args.past q c.range.ensures.ordered (subst P (map-id (entries_between nat_cmp (Included c.args.first) (Excluded c.args.past) es)) (rw c.in-Ok.is at made))
