use Rattle.std.proofs.Common.{rules, tests}
use Rattle.std.proofs.lemmas.Iterator.{YieldsList-from_slice}
use Rattle.std.proofs.lemmas.Iterator.Consumers.{map_from_collect, YieldsList-from_filter, YieldsList-at}
use Rattle.sx_decode.specs.Metadata.{is_meta_header}
use Rattle.sx_decode.proofs.metadata.meta_headers.Goals as goal

pub returns : goal.returns
returns c = map_from_collect _ c.collect.ensures.ran
    (YieldsList-from_filter _ is_meta_header
    (YieldsList-at c.filter.ensures.source (YieldsList-from_slice c.args.headers.now cc))
    c.filter.ensures.closure (λ x b q k. search (rules, tests)))
