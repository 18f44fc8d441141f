use Rattle.std.proofs.Common.{arith, FitsSigned, w16}
use Rattle.std.proofs.lemmas.Int.{to_z-of_z}
use Rattle.jiff.proofs.SpanFacts.{signed_arith}
use Rattle.sx_base.proofs.Years.{civil_from, year_fits}
use Rattle.sx_base.proofs.moment.year_of.Goals as goal

pub unreachable-requires : goal.unreachable-requires
unreachable-requires c =
    let y = civil_from c.args.time c.args.at c.requires in
    let r = c.args.time.date.year_in in
    let f : FitsSigned w16 c.year.result = omega (arith, signed_arith, y, r, c.year.ensures) in
    let no = simp to_z-of_z at c.in-Err.ensures in
    no (year_fits c.year.result (omega (arith, signed_arith, y, c.year.ensures)) (omega (arith, signed_arith, r, c.year.ensures)))
