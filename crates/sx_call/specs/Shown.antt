-- The bytes of a file in a reply.
use Rattle.std.specs.Prelude.{ℕ, ◌+◌, ◌&&◌, ◌||◌, Bool, nat_le, nat_lt, List, length}

-- bytes of a file from an offset on, the file's length, and whether the whole file was asked for
pub record BytesOfFile : Type 0 where
  pub from : ℕ
  pub length : ℕ
  pub whole : Bool
  pub view : List ℕ

-- these bytes of a file
abbrev pub bytes_from : ℕ → ℕ → Bool → List ℕ → BytesOfFile
bytes_from from length whole view = record { from = from; length = length; whole = whole; view = view }

-- they lie in the file, and are some unless the whole file was asked for
abbrev pub is_bytes_of_file : BytesOfFile → Bool
is_bytes_of_file p = nat_le (p.from + length p.view) p.length && (p.whole || nat_lt 0 (length p.view))
