-- Decimal numbers between two limits, without leading zeros, and a byte behind them that is no digit.
use Rattle.std.specs.Prelude.{ℕ, zero, suc, ◌+◌, ◌-◌, ◌*◌, ◌≤◌, Bool, false, ◌&&◌, ◌||◌, List, [], ◌∷◌, ◌++◌, Option}
use Rattle.std.specs.Prelude.{Some, None, nat_lt, nat_le, ◌==◌, if◌then◌else◌}
use Rattle.std.specs.Fmt.{decimal}
use Rattle.sx_text.specs.Texts.{Reader}
use Rattle.sx_text.specs.Readers.{after}
use Rattle.sx_text.specs.Machines.{Step, Ends, Goes, Fails, run_from}

-- a number that the limits allow
abbrev pub IsFrom : ℕ → ℕ → ℕ → Type 0
IsFrom low high n = (low ≤ n) × (n ≤ high)

-- the code of a decimal digit
abbrev pub is_digit : ℕ → Bool
is_digit b = nat_le 48 b && nat_le b 57

-- the number and the byte behind it
abbrev pub number_text : ℕ → ℕ → List ℕ
number_text stop n = decimal n ++ stop ∷ []

-- whether some of the p numbers from a on, or of those that have them in front of up to n - 1 digits more, lie in the
-- limits
unfoldable pub reaches : ℕ → ℕ → ℕ → ℕ → ℕ → Bool
reaches zero low high a p = false
reaches (suc n) low high a p = if nat_le a high then (nat_lt low (a + p) || reaches n low high (10 * a) (10 * p))
    else false

-- whether some number in the limits begins with the digits of v, which isn't 0
abbrev pub may_begin : ℕ → ℕ → ℕ → Bool
may_begin low high v = reaches 20 low high v 1

-- whether some number in the limits begins with this digit
abbrev pub may_be_first : ℕ → ℕ → ℕ → Bool
may_be_first low high d = if d == 0 then low == 0 else may_begin low high d

-- what a byte does behind the digits so far
abbrev pub number_step : ℕ → ℕ → ℕ → Option ℕ → ℕ → Step (Option ℕ) ℕ
number_step stop low high None b = if is_digit b && may_be_first low high (b - 48) then Goes (Some (b - 48)) else Fails
number_step stop low high (Some v) b =
    if b == stop then (if nat_le low v then Ends v else Fails)
    else (if is_digit b && (nat_lt 0 v && may_begin low high (v * 10 + (b - 48))) then Goes (Some (v * 10 + (b - 48)))
    else Fails)

-- reading a number, and the byte behind it
unfoldable pub number_at : ℕ → ℕ → ℕ → Reader ℕ ℕ
number_at stop low high bytes = run_from (number_step stop low high) None bytes

-- a literal, and the number behind it
unfoldable pub number_after : List ℕ → ℕ → ℕ → ℕ → Reader ℕ ℕ
number_after literal stop low high bytes = after literal (number_at stop low high) bytes
