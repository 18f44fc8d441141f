use Rattle.std.proofs.Common.{◌≡◌, map, take}
use Rattle.sx_decode.specs.Metadata.{header_names, named_values, lent_values}
use Rattle.sx_decode.proofs.metadata.values_by_name.Given as goal

-- the values of the headers up to here
abbrev pub invariant-loop-header : goal.invariant-loop-header
invariant-loop-header l = lent_values l.values.entries ≡ named_values (map (λ h. h.now) (take l.header-index l.headers)) (header_names (map (λ h. h.now) (take l.header-index l.headers)))
