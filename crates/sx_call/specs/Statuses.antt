-- The statuses of replies that have more than one.
use Rattle.std.specs.Prelude.{ℕ, Bool, ◌==◌, ◌||◌}

-- the status of a reply to a call that wrote
abbrev pub is_write_status : ℕ → Bool
is_write_status code = code == 200 || code == 201

-- the status of a reply to a lease action
abbrev pub is_lease_status : ℕ → Bool
is_lease_status code = code == 200 || code == 201 || code == 202
