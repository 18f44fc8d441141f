-- What the code's readers give, seen as readings.
use Rattle.std.specs.Prelude.{◌≡◌, ℕ, Result, Ok, Err}
use Rattle.sx_text.specs.declared.fault.Unread.{Unread}
use Rattle.sx_text.specs.declared.fault.Fault.{Fault}
use Rattle.sx_text.specs.declared.fault.Fault.TheVariants as faults

-- the result, its value seen by view, is what reading gives
abbrev pub Reads : {X Y : Type 0} → (X → Y) → Result X Unread → Result Y ℕ → Type 0
Reads view (Ok x) read = read ≡ Ok (view x)
Reads view (Err unread) read = read ≡ Err unread.left

-- reading fails at the place of the fault; memory that is refused says nothing
abbrev pub FailsAs : {Y : Type 0} → Fault → Result Y ℕ → Type 0
FailsAs faults.NoMemory read = Unit {0}
FailsAs (faults.Unread left) read = read ≡ Err left

-- the same, unless memory was refused
abbrev pub Gives : {X Y : Type 0} → (X → Y) → Result X Fault → Result Y ℕ → Type 0
Gives view (Ok x) read = read ≡ Ok (view x)
Gives view (Err fault) read = FailsAs fault read
