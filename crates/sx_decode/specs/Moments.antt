-- The moment that a text names.
use Rattle.std.specs.Prelude.{ℕ, List, [], ◌∷◌, Option, Some, None, Result, Ok, Err}
use Rattle.sx_base.specs.MomentReader.{moment_at}

-- the moment at the front, where nothing stands behind it
abbrev pub whole_moment : Result (ℕ × List ℕ) ℕ → Option ℕ
whole_moment (Ok (at, [])) = Some at
whole_moment (Ok (at, byte ∷ bytes)) = None
whole_moment (Err left) = None

-- the moment that a text names
unfoldable pub moment_of : List ℕ → Option ℕ
moment_of text = whole_moment (moment_at text)
