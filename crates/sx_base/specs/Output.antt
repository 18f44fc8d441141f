-- What std tells of the bytes that a writer holds.
use Rattle.std.specs.Prelude.{ℕ, ◌≡◌, List, Option, Some}

-- the writer is known to hold exactly these bytes
abbrev pub holds : {W : Type 0} → (W → Option (List ℕ)) → W → List ℕ → Type 0
holds contents writer bytes = contents writer ≡ Some bytes
