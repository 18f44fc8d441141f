-- A header's name behind its prefix.
use Rattle.std.proofs.Common.{◌≡◌, ℕ, ◌<◌, List, [], length, drop, arith}
use Rattle.std.proofs.lemmas.List.{drop_all}

-- nothing stands behind so many bytes of a shorter name
pub short_drop : (name : List ℕ) → length name < 10 → drop 10 name ≡ []
short_drop name lt = drop_all 10 name (omega (arith, lt))
