use Rattle.std.proofs.Common.{option_map, subst, ◌∙◌, ap, rules, tests}
use Rattle.std.proofs.lemmas.Iterator.{YieldsList-from_slice}
use Rattle.std.proofs.lemmas.Iterator.Search.{find_from_yields_List}
use Rattle.sx_guard.specs.declared.sharing.Opened.{Opened}
use Rattle.sx_guard.specs.Sharing.{AreOpens, forbids}
use Rattle.sx_guard.proofs.Kept.{IsLeastHandle-first}
use Rattle.sx_guard.proofs.Places.{option_map-found}
use Rattle.sx_guard.proofs.sharing.Sharing.forbids.Goals as goal

pub returns-clause-least : goal.returns-clause-least
returns-clause-least c =
    IsLeastHandle-first (forbids c.args.access c.args.mode) c.args.self.now c.map.result
    (option_map-found (λ o. o.now) (λ (o : Opened). o.handle) _ c.find.result c.map.result (λ x y h. search (rules, tests)) c.map.ensures.cases
    ∙ ap (option_map (λ (o : Opened). o.handle))
    (find_from_yields_List (forbids c.args.access c.args.mode) _ _ c.find.result c.find.ensures.ran (YieldsList-from_slice c.args.self.now cc) (λ x b q k. search (rules, tests))))
    (subst AreOpens c.self.view_is c.self.invariant)
