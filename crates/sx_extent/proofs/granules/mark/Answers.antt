use Rattle.std.proofs.Common.{◌∙◌}
use Rattle.sx_extent.proofs.GranuleSteps.{missing_absent, IsMarked-added, IsSized-added, IsSized-same, on_ok, either_way}
use Rattle.sx_extent.proofs.granules.mark.Goals as goal

pub add_all-requires : goal.add_all-requires
add_all-requires c = missing_absent c.args.granules.now.entries _ _ (c.deref.ensures.value ∙ c.in_ok-missing.ensures)

pub returns-clause-ok : goal.returns-clause-ok
returns-clause-ok c =
    on_ok c.add_all.result (IsMarked-added c.args.granules.now.entries c.add_all.new.granules.entries c.args.from c.args.end _ c.deref.result.now c.past_of.ensures (c.deref.ensures.value ∙ c.in_ok-missing.ensures)) c.add_all.ensures.ok

pub returns-clause-sized : goal.returns-clause-sized
returns-clause-sized c =
    let old = c.args.granules.now.entries in
    let new = c.add_all.new.granules.entries in
    either_way c.add_all.result c.add_all.ensures.ok c.add_all.ensures.err (IsSized-added old new c.deref.result.now c.requires.sized) (λ same. IsSized-same old new same c.requires.sized)
