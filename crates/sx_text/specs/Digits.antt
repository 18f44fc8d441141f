-- Numbers in a fixed count of digits, between two limits.
use Rattle.std.specs.Prelude.{ℕ, zero, suc, ◌+◌, ◌-◌, ◌*◌, ◌/◌, ◌%◌, Bool, ◌&&◌, List, [], ◌∷◌, ◌++◌, nat_lt, nat_le}
use Rattle.std.specs.Prelude.{if◌then◌else◌}
use Rattle.sx_text.specs.Texts.{Reader}
use Rattle.sx_text.specs.Readers.{after}
use Rattle.sx_text.specs.Machines.{Step, Ends, Goes, Fails, run_from}
use Rattle.sx_text.specs.Numbers.{is_digit}

-- the last count digits of a number
abbrev pub digits_text : ℕ → ℕ → List ℕ
digits_text zero n = []
digits_text (suc count) n = digits_text count (n / 10) ++ (48 + n % 10) ∷ []

-- whether some number in the limits has one of the p numbers from a on in front of so many digits more
unfoldable pub meets : ℕ → ℕ → ℕ → ℕ → ℕ → Bool
meets zero low high a p = nat_le a high && nat_lt low (a + p)
meets (suc more) low high a p = meets more low high (10 * a) (10 * p)

-- what a byte does, by how many digits are to come behind it and by the number so far
abbrev pub digits_step : ℕ → ℕ → ℕ × ℕ → ℕ → Step (ℕ × ℕ) ℕ
digits_step low high (zero, v) b = if is_digit b && meets 0 low high (v * 10 + (b - 48)) 1
    then Ends (v * 10 + (b - 48)) else Fails
digits_step low high (suc more, v) b = if is_digit b && meets (suc more) low high (v * 10 + (b - 48)) 1
    then Goes (more, v * 10 + (b - 48)) else Fails

-- a number of more + 1 digits
unfoldable pub digits_at : ℕ → ℕ → ℕ → Reader ℕ ℕ
digits_at more low high bytes = run_from (digits_step low high) (more, 0) bytes

-- a literal, and the digits behind it
unfoldable pub digits_after : List ℕ → ℕ → ℕ → ℕ → Reader ℕ ℕ
digits_after literal more low high bytes = after literal (digits_at more low high) bytes
