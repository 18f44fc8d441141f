use Rattle.std.proofs.Common.{rules, tests}
use Rattle.std.proofs.lemmas.Iterator.{YieldsList-from_slice, YieldsList-from_map_by}
use Rattle.std.proofs.lemmas.Iterator.Consumers.{map_from_collect, YieldsList-from_filter, YieldsList-at}
use Rattle.sx_decode.specs.Parameters.{has_name}
use Rattle.sx_decode.specs.declared.parameters.Parameter.{Parameter}
use Rattle.sx_decode.proofs.parameters.parameter_values.Goals as goal

pub returns : goal.returns
returns c = map_from_collect _ c.collect.ensures.ran
    (YieldsList-from_map_by _ (λ r. r.now) (λ (p : Parameter). p.value)
    (YieldsList-at c.map.ensures.source
    (YieldsList-from_filter _ (has_name c.args.name.now)
    (YieldsList-at c.filter.ensures.source (YieldsList-from_slice c.args.parameters.now cc))
    c.filter.ensures.closure (λ x b q k. search (rules, tests))))
    c.map.ensures.closure (λ x r q k. search rules))
