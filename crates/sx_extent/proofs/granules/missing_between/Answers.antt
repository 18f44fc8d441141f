use Rattle.std.proofs.Common.{refl, not, ◌-◌, rules, tests}
use Rattle.std.proofs.lemmas.Iterator.{items_from_collect, YieldsList-from_range}
use Rattle.std.proofs.lemmas.Iterator.Consumers.{YieldsList-from_filter, YieldsList-at}
use Rattle.sx_extent.specs.Granules.{has_granule}
use Rattle.sx_extent.proofs.granules.missing_between.Goals as goal

pub returns : goal.returns
returns c =
    let first = c.args.first in
    let past = c.args.past in
    items_from_collect c.collect.result c.collect.ensures.ran (YieldsList-from_filter _ (λ g. not (has_granule c.args.granules.now.entries g)) (YieldsList-at c.filter.ensures.source (YieldsList-from_range first past (past - first) refl refl)) c.filter.ensures.closure (λ x b q k. search (rules, tests)))
