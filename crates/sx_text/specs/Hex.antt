-- Numbers in a fixed count of hexadecimal digits, their letters in upper case.
use Rattle.std.specs.Prelude.{ℕ, zero, suc, ◌+◌, ◌-◌, ◌*◌, ◌/◌, ◌%◌, Bool, ◌&&◌, ◌||◌, List, [], ◌∷◌, ◌++◌, nat_lt}
use Rattle.std.specs.Prelude.{nat_le, if◌then◌else◌}
use Rattle.sx_text.specs.Texts.{Reader}
use Rattle.sx_text.specs.Readers.{after}
use Rattle.sx_text.specs.Machines.{Step, Ends, Goes, Fails, run_from}

-- a hexadecimal digit, its letters in upper case
abbrev pub hex_digit : ℕ → ℕ
hex_digit n = if nat_lt n 10 then 48 + n else 55 + n

-- the last count hexadecimal digits of a number
abbrev pub hex_text : ℕ → ℕ → List ℕ
hex_text zero n = []
hex_text (suc count) n = hex_text count (n / 16) ++ hex_digit (n % 16) ∷ []

-- the code of such a digit
abbrev pub is_hex_digit : ℕ → Bool
is_hex_digit b = (nat_le 48 b && nat_le b 57) || (nat_le 65 b && nat_le b 70)

-- what the digit of this code is worth
abbrev pub hex_value : ℕ → ℕ
hex_value b = if nat_lt b 65 then b - 48 else b - 55

-- what a byte does, by how many digits are to come behind it and by the number so far
abbrev pub hex_step : ℕ × ℕ → ℕ → Step (ℕ × ℕ) ℕ
hex_step (zero, v) b = if is_hex_digit b then Ends (v * 16 + hex_value b) else Fails
hex_step (suc more, v) b = if is_hex_digit b then Goes (more, v * 16 + hex_value b) else Fails

-- a number of more + 1 digits
unfoldable pub hex_at : ℕ → Reader ℕ ℕ
hex_at more bytes = run_from hex_step (more, 0) bytes

-- a literal, and the digits behind it
unfoldable pub hex_after : List ℕ → ℕ → Reader ℕ ℕ
hex_after literal more bytes = after literal (hex_at more) bytes
