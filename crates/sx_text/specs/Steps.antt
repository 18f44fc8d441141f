-- What a digit of the code does, as a step.
use Rattle.std.specs.Prelude.{ℕ, zero, suc, ◌+◌, ◌-◌, ◌*◌, ◌^◌, ◌<◌, Option, Some}
use Rattle.sx_text.specs.declared.digit.Digit.{Digit}
use Rattle.sx_text.specs.declared.digit.Digit.TheVariants as digits
use Rattle.sx_text.specs.Machines.{Step, Ends, Goes, Fails}

-- a digit or the byte behind a number
abbrev pub number_shown : Digit → Step (Option ℕ) ℕ
number_shown (digits.Last value) = Ends value
number_shown (digits.More value) = Goes (Some value)
number_shown digits.Wrong = Fails

-- a digit in front of so many more
abbrev pub digits_shown : ℕ → Digit → Step (ℕ × ℕ) ℕ
digits_shown more (digits.Last value) = Ends value
digits_shown more (digits.More value) = Goes (more - 1, value)
digits_shown more digits.Wrong = Fails

-- the value so far is below n
abbrev pub IsBelow : Digit → ℕ → Type 0
IsBelow (digits.Last value) n = Unit {0}
IsBelow (digits.More value) n = value < n
IsBelow digits.Wrong n = Unit {0}

-- behind these hexadecimal digits one digit and so many more fit into 64 bits
unfoldable pub HasRoom : ℕ → ℕ → Type 0
HasRoom zero v = v < 2 ^ 60
HasRoom (suc more) v = HasRoom more (16 * v + 15)

-- the same behind the value so far
abbrev pub LeavesRoom : ℕ → Digit → Type 0
LeavesRoom more (digits.Last value) = Unit {0}
LeavesRoom more (digits.More value) = HasRoom (more - 1) value
LeavesRoom more digits.Wrong = Unit {0}
