-- What it is to read a body.
use Rattle.std.specs.Prelude.{◌≡◌, ℕ, List, Result, Ok, Err}
use Rattle.sx_text.specs.Texts.{IsNoText}
use Rattle.sx_listing.specs.declared.body.BodyFault.{BodyFault}
use Rattle.sx_listing.specs.declared.body.BodyFault.TheVariants.{Bad, NoMemory}

-- the greatest number of 32 bits
abbrev pub greatest_32 : ℕ
greatest_32 = 4294967295

-- the greatest number of 64 bits
abbrev pub greatest_64 : ℕ
greatest_64 = 18446744073709551615

-- reading bytes answers their value, or the length of the longest prefix that begins such a body, or out of memory
abbrev pub ReadsBody : {A : Type 0} → (A → List ℕ) → (A → Type 0) → List ℕ → Result A BodyFault → Type 0
ReadsBody text Fits bytes (Ok value) = Fits value × (bytes ≡ text value)
ReadsBody text Fits bytes (Err (Bad at)) = IsNoText text Fits bytes at
ReadsBody text Fits bytes (Err NoMemory) = Unit {0}

-- the answer is this value, or out of memory
abbrev pub IsReadAs : {A : Type 0} → A → Result A BodyFault → Type 0
IsReadAs value (Ok read) = read ≡ value
IsReadAs value (Err (Bad at)) = ⊥
IsReadAs value (Err NoMemory) = Unit {0}
