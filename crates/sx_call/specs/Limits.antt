-- What a type with a limit makes of a value.
use Rattle.std.specs.Prelude.{Bool, if◌then◌else◌, Option, Some, None}

-- the value, where it is within the limits that a test stands for
abbrev pub if_within : {A : Type 0} → (A → Bool) → A → Option A
if_within test x = if test x then Some x else None
