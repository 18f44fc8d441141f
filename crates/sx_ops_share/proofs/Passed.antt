-- No check refuses nothing.
use Rattle.std.proofs.Common.{◌≡◌, refl, None}
use Rattle.sx_spec.specs.Account.{Store}
use Rattle.sx_spec.specs.Checks.{first_check, unchecked}

-- what is checked for nothing is refused nowhere
pub unchecked_passes : (s : Store) → first_check s unchecked ≡ None
unfolding first_check
unchecked_passes s = refl
