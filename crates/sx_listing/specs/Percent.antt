-- Percent-encoding (RFC 3986, section 2.1).
use Rattle.std.specs.Prelude.{ℕ, ◌+◌, ◌/◌, ◌%◌, ◌==◌, ◌&&◌, ◌||◌, Bool, nat_le, nat_lt, if◌then◌else◌, List, [], ◌∷◌}
use Rattle.std.specs.List.{flat_map}

-- an ASCII letter, a digit, `-`, `_`, `.` or `~`: the unreserved characters of RFC 3986, section 2.3
abbrev pub is_unreserved : ℕ → Bool
is_unreserved b =
    (nat_le 48 b && nat_le b 57) || (nat_le 65 b && nat_le b 90) || (nat_le 97 b && nat_le b 122)
    || b == 45 || b == 95 || b == 46 || b == 126

-- a hexadecimal digit, its letters in upper case
abbrev pub upper_digit : ℕ → ℕ
upper_digit n = if nat_lt n 10 then 48 + n else 55 + n

-- an unreserved byte as it is, and each other one as `%` and two digits
unfoldable pub percent_byte : ℕ → List ℕ
percent_byte b = if is_unreserved b then b ∷ [] else 37 ∷ upper_digit (b / 16) ∷ upper_digit (b % 16) ∷ []

-- bytes in percent-encoding
abbrev pub percent_text : List ℕ → List ℕ
percent_text bytes = flat_map percent_byte bytes
