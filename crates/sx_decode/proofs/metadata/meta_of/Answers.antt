use Rattle.std.proofs.Common.{map, ap, subst, ◌∙◌}
use Rattle.sx_decode.specs.Reading.{Reads}
use Rattle.sx_decode.specs.Metadata.{lent_values}
use Rattle.sx_decode.proofs.MetaValues.{meta_is}
use Rattle.sx_decode.proofs.metadata.meta_of.Goals as goal

pub returns : goal.returns
returns c =
    subst (Reads c.pairs_of.result)
    (meta_is c.args.headers.now (map (λ h. h.now) c.deref.result.now) (lent_values c.in_ok-values.values.entries)
    (ap (map (λ h. h.now)) c.deref.ensures.value ∙ c.in_ok-own.ensures)
    c.in_ok-values.ensures)
    c.pairs_of.ensures
