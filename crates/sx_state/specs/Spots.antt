-- The spot of the definitions that a lent one stands for.
use Rattle.sx_spec.specs.Places.{Spot, Taken, Free}
use Rattle.sx_state.specs.declared.places.Where.{Where}
use Rattle.sx_state.specs.declared.places.Where.TheVariants as at

-- a node that is lent, or a name that is lent, free in the directory of an id
abbrev pub spot_at : Where → Spot
spot_at (at.Taken node) = Taken node.now
spot_at (at.Free parent name) = Free parent name.now
