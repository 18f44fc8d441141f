-- Percent-encoded texts (RFC 3986, section 2.1).
use Rattle.std.specs.Prelude.{ℕ, ◌==◌, ◌+◌, ◌&&◌, Bool, not, List, length, slice_index, if◌then◌else◌, Option, Some}
use Rattle.std.specs.Prelude.{None}
use Rattle.std.specs.Prelude.{is_none}
use Rattle.std.specs.List.{find, range_with_len}
use Rattle.std.specs.Char.{is_digit}
use Rattle.std.specs.Str.{is_utf8}
use Rattle.percent_encoding.specs.Percent.{percent_decode}

-- at this place stands a `%` that two hexadecimal digits don't follow
abbrev pub is_bad_at : List ℕ → ℕ → Bool
is_bad_at text k =
    slice_index text k == 37 && not (is_digit (slice_index text (k + 1)) 16 && is_digit (slice_index text (k + 2)) 16)

-- the place of the first such `%`
abbrev pub first_bad : List ℕ → Option ℕ
first_bad text = find (is_bad_at text) (range_with_len 0 (length text))

-- these bytes, where they are UTF-8
abbrev pub if_utf8 : List ℕ → Option (List ℕ)
if_utf8 bytes = if is_utf8 bytes then Some bytes else None

-- what the text encodes, where each `%` begins an escape and what it encodes is UTF-8
unfoldable pub decoded_text : List ℕ → Option (List ℕ)
decoded_text text = if is_none (first_bad text) then if_utf8 (percent_decode text) else None
