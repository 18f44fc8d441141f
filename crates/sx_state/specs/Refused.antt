-- What a look-up refuses.
use Rattle.std.specs.Prelude.{Option, Some, None, Result, Ok, Err}
use Rattle.sx_call.specs.declared.refusals.Refusal.{Refusal}

-- the refusal in a result, if it is one
abbrev pub refused : {A : Type 0} → Result A Refusal → Option Refusal
refused (Ok x) = None
refused (Err r) = Some r
