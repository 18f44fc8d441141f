-- The names of metadata.
use Rattle.std.specs.Prelude.{ℕ, ◌==◌, ◌&&◌, ◌||◌, Bool, not, nat_le, List, length, slice_index}
use Rattle.std.specs.List.{list_all}
use Rattle.sx_names.specs.Names.{is_lower_or_digit}
use Rattle.sx_names.specs.declared.meta_pair.TheConstants.{MAX_META_NAME_BYTES}

-- a decimal digit
abbrev pub is_digit_byte : ℕ → Bool
is_digit_byte b = nat_le 48 b && nat_le b 57

-- a lower-case letter, a digit or an underscore
abbrev pub is_meta_byte : ℕ → Bool
is_meta_byte b = is_lower_or_digit b || b == 95

-- 1 to 128 lower-case letters, digits and underscores, the first of them no digit
unfoldable pub is_meta_name : List ℕ → Bool
is_meta_name name =
    nat_le 1 (length name) && nat_le (length name) MAX_META_NAME_BYTES
    && list_all is_meta_byte name && not (is_digit_byte (slice_index name 0))
