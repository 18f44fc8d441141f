-- The limits of bytes that are written.
use Rattle.std.specs.Prelude.{ℕ, ◌+◌, ◌&&◌, Bool, nat_le, nat_lt, List, length}
use Rattle.sx_extent.specs.Ranges.{most_bytes}
use Rattle.sx_extent.specs.declared.piece.TheConstants.{PIECE_LIMIT}
use Rattle.sx_call.specs.declared.ranges.TheConstants.{OFFSET_LIMIT, TRANSFER_LIMIT}

-- bytes and the offset of the first, as a Put Range names them
pub record PieceFrom : Type 0 where
  pub from : ℕ
  pub piece : List ℕ

-- what one Put Range may write
abbrev pub is_range_update : PieceFrom → Bool
is_range_update u =
    nat_lt 0 (length u.piece) && nat_le (length u.piece) PIECE_LIMIT && nat_le (u.from + length u.piece) OFFSET_LIMIT

-- bytes and the offset of the first, as a session's write names them
pub record PieceAt : Type 0 where
  pub at : ℕ
  pub piece : List ℕ

-- what one write through a handle may write
abbrev pub is_handle_write : PieceAt → Bool
is_handle_write w =
    nat_lt 0 (length w.piece) && nat_le (length w.piece) TRANSFER_LIMIT && nat_le (w.at + length w.piece) most_bytes
