-- What one read behind the bytes of a buffer did.
use Rattle.std.specs.Prelude.{ℕ, ◌≡◌, ◌<◌, ◌≤◌, ◌++◌, List, length, Option}
use Rattle.std.specs.Io.KnownBytes.{Keeps, Consumes, IsAtEnd}
use Rattle.sx_base.specs.Causes.{Rose}
use Rattle.sx_base.specs.declared.buffer.Refill.{Refill}
use Rattle.sx_base.specs.declared.buffer.Refill.TheVariants as refill

-- bytes that the source has left came behind those held; or it has ended; or the read failed, and its count rose; or
-- there was no memory, and the source is as it was
abbrev pub Refills : {S : Type 0} → (S → Option (List ℕ)) → (S → ℕ) → Refill → ℕ → List ℕ → List ℕ → S → S → Type 0
Refills left count refill.More most held held' old new =
    (bytes : List ℕ) × (held' ≡ held ++ bytes) × (0 < length bytes) × (length bytes ≤ most)
    × Consumes (left old) (left new) bytes × (count new ≡ count old)
Refills left count refill.End most held held' old new = (held' ≡ held) × Keeps (left old) (left new)
    × IsAtEnd (left new) × (count new ≡ count old)
Refills left count refill.ReadFault most held held' old new = (held' ≡ held) × Keeps (left old) (left new)
    × Rose (count old) (count new)
Refills left count refill.NoMemory most held held' old new = (held' ≡ held) × (new ≡ old)
