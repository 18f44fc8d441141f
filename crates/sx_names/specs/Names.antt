-- What a share name, a part of a path and a path is, and when two names are the same.
use Rattle.std.specs.Prelude.{ℕ, ◌+◌, ◌-◌, ◌==◌, ◌&&◌, ◌||◌, Bool, not, nat_le, bytes_eq, codes, List, length, sum, map}
use Rattle.std.specs.Prelude.{chars, encode_utf8_all, slice_index}
use Rattle.std.specs.List.{list_all, list_any, range_with_len}
use Rattle.std.specs.Str.{is_utf8}
use Rattle.caseless.specs.Caseless.{default_case_fold}
use Rattle.sx_names.specs.declared.part.TheConstants.{MAX_PART_CHARS}
use Rattle.sx_names.specs.declared.path.TheConstants.{MAX_PARTS, MAX_PATH_CHARS}
use Rattle.sx_names.specs.declared.share.TheConstants.{MIN_SHARE_BYTES, MAX_SHARE_BYTES}

-- the full case folding of a name: the bytes of its folded characters (Unicode's default caseless matching)
unfoldable pub fold : List ℕ → List ℕ
fold name = encode_utf8_all (default_case_fold (chars name))

-- a lower-case letter of ASCII or a digit
abbrev pub is_lower_or_digit : ℕ → Bool
is_lower_or_digit b = (nat_le 97 b && nat_le b 122) || (nat_le 48 b && nat_le b 57)

-- such a letter or digit, or a hyphen
abbrev pub is_share_byte : ℕ → Bool
is_share_byte b = is_lower_or_digit b || b == 45

-- two hyphens stand at this place
abbrev pub is_hyphens_at : List ℕ → ℕ → Bool
is_hyphens_at bytes k = slice_index bytes k == 45 && slice_index bytes (k + 1) == 45

-- 3 to 63 lower-case letters, digits and hyphens, with a letter or digit at both ends and no two hyphens in a row
abbrev pub is_share_name : List ℕ → Bool
is_share_name bytes =
    nat_le MIN_SHARE_BYTES (length bytes) && nat_le (length bytes) MAX_SHARE_BYTES
    && list_all is_share_byte bytes
    && is_lower_or_digit (slice_index bytes 0) && is_lower_or_digit (slice_index bytes (length bytes - 1))
    && not (list_any (is_hyphens_at bytes) (range_with_len 0 (length bytes)))

-- no control character, and none of " * / : < > ? \ |
abbrev pub is_name_char : ℕ → Bool
is_name_char c =
    nat_le 32 c && not (c == 127)
    && not (c == 34) && not (c == 42) && not (c == 47) && not (c == 58) && not (c == 60)
    && not (c == 62) && not (c == 63) && not (c == 92) && not (c == 124)

-- a dot or a space stands at the end
abbrev pub has_bad_tail : List ℕ → Bool
has_bad_tail bytes = slice_index bytes (length bytes - 1) == 46 || slice_index bytes (length bytes - 1) == 32

-- `.` or `..`
abbrev pub is_dots : List ℕ → Bool
is_dots bytes = bytes_eq bytes (codes ".") || bytes_eq bytes (codes "..")

-- 1 to 255 characters
abbrev pub has_name_length : List ℕ → Bool
has_name_length text = nat_le 1 (length (chars text)) && nat_le (length (chars text)) MAX_PART_CHARS

-- of a text: the characters of a name, not `.` or `..`, without a dot or space at the end
abbrev pub names_part : List ℕ → Bool
names_part text =
    has_name_length text && list_all is_name_char (chars text) && not (is_dots text) && not (has_bad_tail text)

-- a UTF-8 text that names a part
abbrev pub is_part : List ℕ → Bool
is_part bytes = is_utf8 bytes && names_part bytes

-- the characters of a path, with the slashes between its parts
abbrev pub path_length : List (List ℕ) → ℕ
path_length parts = sum (map (λ p. length (chars p)) parts) + (length parts - 1)

-- at most 250 parts, and at most 2,048 characters
abbrev pub is_path : List (List ℕ) → Bool
is_path parts =
    list_all is_part parts && nat_le (length parts) MAX_PARTS && nat_le (path_length parts) MAX_PATH_CHARS
