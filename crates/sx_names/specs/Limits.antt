-- The limits of plain fields.
use Rattle.std.specs.Prelude.{ℕ, ◌≤◌}
use Rattle.sx_names.specs.declared.page.TheConstants.{MAX_RESULTS}
use Rattle.sx_names.specs.declared.quota.TheConstants.{MAX_QUOTA}

-- a quota in GiB
pub record IsQuota (gib : ℕ) : Type 0 where
  pub least : 1 ≤ gib
  pub most : gib ≤ MAX_QUOTA

-- the number of results on a page
pub record IsPageSize (results : ℕ) : Type 0 where
  pub least : 1 ≤ results
  pub most : results ≤ MAX_RESULTS
