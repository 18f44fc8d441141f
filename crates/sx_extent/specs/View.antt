-- What a view of a file shows: the bytes that the file had in an interval when the view was made.
use Rattle.std.specs.Prelude.{ℕ, List, take, drop}

-- so many bytes of a view, from a place on
abbrev pub part : List ℕ → ℕ → ℕ → List ℕ
part bytes at count = take count (drop at bytes)
