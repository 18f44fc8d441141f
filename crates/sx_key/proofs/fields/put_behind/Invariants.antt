use Rattle.std.proofs.Common.{◌≡◌, ◌++◌, ◌∷◌, take}
use Rattle.std.specs.List.{flat_map}
use Rattle.sx_key.specs.declared.fields.Field.{Field}
use Rattle.sx_key.proofs.fields.put_behind.Given as goal

abbrev pub invariant-loop-field : goal.invariant-loop-field
invariant-loop-field l = l.out.items ≡ l.initial.out.items ++ flat_map (λ (f : Field). 44 ∷ f.value) (take l.field-index l.rest)
