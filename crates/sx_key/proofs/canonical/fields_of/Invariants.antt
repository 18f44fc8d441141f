use Rattle.std.proofs.Common.{◌≡◌, map, take}
use Rattle.sx_key.specs.Signature.{canonical_field}
use Rattle.sx_key.proofs.canonical.fields_of.Given as goal

abbrev pub invariant-loop-header : goal.invariant-loop-header
invariant-loop-header l = l.fields.items ≡ map canonical_field (map (λ h. h.now) (take l.header-index l.headers))
