-- The limit of a file's length.
use Rattle.std.specs.Prelude.{ℕ, Bool, nat_le}
use Rattle.sx_extent.specs.Ranges.{most_bytes}

-- the length of a file in bytes: at most 4 TiB
abbrev pub is_file_length : ℕ → Bool
is_file_length bytes = nat_le bytes most_bytes
