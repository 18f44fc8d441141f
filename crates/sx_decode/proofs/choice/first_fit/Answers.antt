use Rattle.std.proofs.Common.{◌∙◌, rules, tests}
use Rattle.std.proofs.lemmas.Iterator.{YieldsList-from_slice}
use Rattle.std.proofs.lemmas.Iterator.Search.{find_from_yields_List}
use Rattle.sx_decode.specs.Table.{fits}
use Rattle.sx_decode.proofs.choice.first_fit.Goals as goal

pub returns : goal.returns
returns c =
    c.copied.ensures
    ∙ find_from_yields_List (fits c.args.key) _ _ c.find.result c.find.ensures.ran (YieldsList-from_slice c.args.table.now cc)
    (λ x b q k. search (rules, tests))
