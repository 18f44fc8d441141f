-- What a reading call looks into.
use Rattle.std.specs.Prelude.{ℕ, Bool, ◌||◌, Option, is_none}
use Rattle.sx_lease.specs.declared.lease.LeaseId.{LeaseId}

-- the moment of a snapshot, and a lease id
pub record ReadScope : Type 0 where
  pub snap : Option ℕ
  pub lease : Option LeaseId

-- not both
abbrev pub is_read_scope : ReadScope → Bool
is_read_scope s = is_none s.snap || is_none s.lease
