-- The metadata of a share, directory or file.
use Rattle.std.specs.Prelude.{ℕ, ◌+◌, ◌&&◌, Bool, true, nat_le, nat_lt, List, [], ◌∷◌, length, Option, Some, None}
use Rattle.std.specs.List.{list_all}
use Rattle.std.specs.Ordering.{nat_cmp, is_lt}
use Rattle.std.specs.Cmp.Lexicographic.{slice_cmp}
use Rattle.sx_names.specs.Header.{is_header_text}
use Rattle.sx_names.specs.MetaPair.{is_meta_name}
use Rattle.sx_names.specs.declared.meta.TheConstants.{MAX_META_NAMES, MAX_META_BYTES}
use Rattle.sx_names.specs.declared.meta_pair.MetaPair.{MetaPair}

-- a name of metadata, and a value that a header can carry
abbrev pub is_meta_pair : MetaPair → Bool
is_meta_pair pair = is_meta_name pair.name && is_header_text pair.value

-- the name comes after the one before it, if there is one
abbrev pub follows : Option MetaPair → MetaPair → Bool
follows None pair = true
follows (Some before) pair = is_lt (slice_cmp nat_cmp before.name pair.name)

-- each name comes after the one before it, by their bytes, so no name stands twice
abbrev pub in_order : Option MetaPair → List MetaPair → Bool
in_order before [] = true
in_order before (pair ∷ pairs) = follows before pair && in_order (Some pair) pairs

-- the bytes of a name and its value
abbrev pub pair_length : MetaPair → ℕ
pair_length pair = length pair.name + length pair.value

-- the bytes of all names and values
abbrev pub meta_length : List MetaPair → ℕ
meta_length [] = 0
meta_length (pair ∷ pairs) = pair_length pair + meta_length pairs

-- names with their values, in order of name: at most 64 of them, with at most 8,192 bytes in all
unfoldable pub is_meta : List MetaPair → Bool
is_meta pairs =
    list_all is_meta_pair pairs && in_order None pairs
    && nat_le (length pairs) MAX_META_NAMES && nat_le (meta_length pairs) MAX_META_BYTES

-- one name more is not too many, and a name and value more are not too long
abbrev pub has_room : List MetaPair → MetaPair → Bool
has_room pairs pair =
    nat_lt (length pairs) MAX_META_NAMES && nat_le (meta_length pairs + pair_length pair) MAX_META_BYTES
