use Rattle.std.proofs.Common.{sym, refl, rules, arith}
use Rattle.sx_extent.proofs.GranuleLemmas.{bytes_from-kept, bytes_from-none, whole_when}
use Rattle.sx_extent.proofs.granules.read_part.Goals as goal

pub returns-in-Some : goal.returns-in-Some
returns-in-Some c =
    let es = c.args.granules.now.entries in
    bytes_from-kept es c.args.at _ _ _ c.in-Some.granule.now _ (sym c.in-Some.ensures.value) (whole_when es _ _ c.requires.sized (sym c.in-Some.ensures.value)) refl (omega arith) c.requires.fits c.copy_from_slice.ensures.after

pub returns-in-None : goal.returns-in-None
returns-in-None c =
    bytes_from-none c.args.granules.now.entries c.args.at _ _ (sym c.in-None.ensures.value) c.requires.fits (search rules)
