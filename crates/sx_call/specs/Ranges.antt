-- The limits of intervals of bytes.
use Rattle.std.specs.Prelude.{ℕ, ◌+◌, ◌&&◌, Bool, true, nat_le, nat_lt, Option, Some, None}
use Rattle.sx_extent.specs.Ranges.{Interval}
use Rattle.sx_call.specs.declared.ranges.TheConstants.{OFFSET_LIMIT, TRANSFER_LIMIT}

-- the bytes from an offset on, as far as a last one where it is given
pub record BytesFrom : Type 0 where
  pub from : ℕ
  pub last : Option ℕ

-- an offset of the last byte, at least that of the first
abbrev pub is_last : ℕ → Option ℕ → Bool
is_last from None = true
is_last from (Some last) = nat_le from last && nat_lt last OFFSET_LIMIT

-- the bytes that a header Range names
abbrev pub is_first : BytesFrom → Bool
is_first f = nat_lt f.from OFFSET_LIMIT && is_last f.from f.last

-- at least one byte, all below the limit of offsets
abbrev pub is_byte_range : Interval → Bool
is_byte_range i = nat_lt i.from i.end && nat_le i.end OFFSET_LIMIT

-- so many bytes from an offset on
pub record BytesAt : Type 0 where
  pub at : ℕ
  pub count : ℕ

-- what one read through a handle may ask for
abbrev pub is_read_range : BytesAt → Bool
is_read_range r = nat_lt 0 r.count && nat_le r.count TRANSFER_LIMIT && nat_le (r.at + r.count) OFFSET_LIMIT
