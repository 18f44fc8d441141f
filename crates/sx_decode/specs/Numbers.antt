-- Numbers of 1 to 20 decimal digits, and their limits.
use Rattle.std.specs.Prelude.{ℕ, ◌&&◌, ◌||◌, nat_eq, nat_lt, nat_le, not, List, length, if◌then◌else◌, Option, Some}
use Rattle.std.specs.Prelude.{None, Ok, Err}
use Rattle.std.specs.List.{list_all}
use Rattle.std.specs.Char.{is_ascii_digit}
use Rattle.std.specs.Str.Parse.{digits_value}
use Rattle.sx_call.specs.declared.refusals.Syntax.TheVariants.{Header as BadHeader, Range}
use Rattle.sx_decode.specs.Reading.{Reading}

-- the number that 1 to 20 decimal digits spell
unfoldable pub number_of : List ℕ → Option ℕ
number_of digits =
    if nat_eq (length digits) 0 || (nat_lt 20 (length digits) || not (list_all is_ascii_digit digits)) then None
    else Some (digits_value 10 digits)

-- a number of a header between two limits, which is unread where it is no number
unfoldable pub limited : List ℕ → ℕ → ℕ → Option ℕ → Reading ℕ
limited name least most None = Err (BadHeader name)
limited name least most (Some n) = if nat_le least n && nat_le n most then Ok n else Err (Range name)
