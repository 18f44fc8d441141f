-- What the words of a line spell.
use Rattle.std.specs.Prelude.{ℕ, ◌+◌, ◌==◌, ◌&&◌, Bool, true, false, not, nat_le, bytes_eq, codes, List, [], ◌∷◌}
use Rattle.std.specs.Prelude.{length, slice_index, if◌then◌else◌, Option, Some, None, option_map, Result, Ok, Err}
use Rattle.std.specs.List.{list_all, list_any, range_with_len, slice_split}
use Rattle.std.specs.Char.{is_ascii_digit, is_digit}
use Rattle.std.specs.Str.{is_utf8}
use Rattle.std.specs.Str.Parse.{digits_value}
use Rattle.hex.specs.Hex.{decode_of}
use Rattle.hex.specs.declared.error.FromHexError.{FromHexError}
use Rattle.percent_encoding.specs.Percent.{percent_decode}
use Rattle.sx_extent.specs.Ranges.{Interval}
use Rattle.sx_guard.specs.declared.access.Access.{Access}
use Rattle.sx_guard.specs.declared.access.Mode.{Mode}
use Rattle.sx_names.specs.Names.{is_part, is_path, is_share_name}
use Rattle.sx_names.specs.declared.page.TheConstants.{MAX_RESULTS}
use Rattle.sx_call.specs.Lengths.{is_file_length}
use Rattle.sx_call.specs.Limits.{if_within}
use Rattle.sx_call.specs.Targets.{has_part}
use Rattle.sx_call.specs.Ranges.{BytesAt, is_byte_range, is_read_range}
use Rattle.sx_call.specs.Updates.{PieceAt, is_handle_write}
use Rattle.sx_call.specs.declared.opens.How.{How}
use Rattle.sx_call.specs.declared.opens.How.TheVariants.{Existing, Create, Either}
use Rattle.sx_call.specs.declared.ranges.TheConstants.{TRANSFER_LIMIT}
use Rattle.sx_lines.specs.Reading.{when_some}

-- 1 to 20 decimal digits without leading zeros; 0 itself is a number
abbrev pub is_decimal_word : List ℕ → Bool
is_decimal_word word =
    nat_le 1 (length word) && nat_le (length word) 20 && list_all is_ascii_digit word
    && not (nat_le 2 (length word) && slice_index word 0 == 48)

-- the number, if it is between two limits
abbrev pub number_within : ℕ → ℕ → ℕ → Option ℕ
number_within least most n = if nat_le least n && nat_le n most then Some n else None

-- the number that a word is, between two limits
unfoldable pub number_in : ℕ → ℕ → List ℕ → Option ℕ
number_in least most word = if is_decimal_word word then number_within least most (digits_value 10 word) else None

-- the index of a handle, 1 to 4,294,967,295
unfoldable pub index_of : List ℕ → Option ℕ
index_of word = number_in 1 4294967295 word

-- an offset or a count of bytes, a number of 64 bits
unfoldable pub offset_of : List ℕ → Option ℕ
offset_of word = number_in 0 18446744073709551615 word

-- a length that a file may have
unfoldable pub length_of : List ℕ → Option ℕ
length_of word = when_some (offset_of word) (if_within is_file_length)

-- how many results a page has at most
unfoldable pub page_size_of : List ℕ → Option ℕ
page_size_of word = number_in 1 MAX_RESULTS word

-- the bytes that are read from an offset on, by their count
unfoldable pub read_range_of : ℕ → List ℕ → Option BytesAt
read_range_of at word =
    when_some (number_in 1 TRANSFER_LIMIT word) (λ n. if_within is_read_range (record { at = at; count = n }))

-- the bytes that are locked from an offset on, by their count
unfoldable pub byte_range_of : ℕ → List ℕ → Option Interval
byte_range_of from word =
    when_some (offset_of word) (λ n. if_within is_byte_range (record { from = from; end = from + n }))

-- the bytes that were decoded
abbrev pub decoded_bytes : Result (List ℕ) FromHexError → Option (List ℕ)
decoded_bytes (Ok bytes) = Some bytes
decoded_bytes (Err error) = None

-- the bytes of an even number of hexadecimal digits
abbrev pub hex_bytes_of : List ℕ → Option (List ℕ)
hex_bytes_of word = decoded_bytes (decode_of word)

-- the bytes that are written from an offset on, at least one
unfoldable pub write_of : ℕ → List ℕ → Option PieceAt
write_of at word =
    when_some (hex_bytes_of word) (λ bytes. if_within is_handle_write (record { at = at; piece = bytes }))

-- one of two words: whether it is the first
abbrev pub choice_of : List ℕ → List ℕ → List ℕ → Option Bool
choice_of first second word =
    if bytes_eq word first then Some true else if bytes_eq word second then Some false else None

-- the name of a share, as it stands
abbrev pub share_of : List ℕ → Option (List ℕ)
share_of word = if_within is_share_name word

-- a percent sign stands at this place, and two hexadecimal digits don't follow it
abbrev pub is_bad_escape : List ℕ → ℕ → Bool
is_bad_escape word k =
    slice_index word k == 37 && not (is_digit (slice_index word (k + 1)) 16 && is_digit (slice_index word (k + 2)) 16)

-- whether a percent sign anywhere in a word is not followed by two hexadecimal digits
abbrev pub has_bad_escape : List ℕ → Bool
has_bad_escape word = list_any (is_bad_escape word) (range_with_len 0 (length word))

-- what a percent-encoded word stands for, where a test passes on it
abbrev pub decoded_if : (List ℕ → Bool) → List ℕ → Option (List ℕ)
decoded_if test word = if has_bad_escape word then None else if_within test (percent_decode word)

-- the name of a file or directory
unfoldable pub part_of : List ℕ → Option (List ℕ)
part_of word = decoded_if is_part word

-- all values, if each is there
abbrev pub all_of : {A B : Type 0} → (A → Option B) → List A → Option (List B)
all_of f [] = Some []
all_of f (x ∷ xs) = when_some (f x) (λ y. when_some (all_of f xs) (λ ys. Some (y ∷ ys)))

-- `/`
abbrev pub is_slash : ℕ → Bool
is_slash b = b == 47

-- the path of at least one part
abbrev pub named_path_of : List (List ℕ) → Option (List (List ℕ))
named_path_of parts = when_some (if_within is_path parts) (if_within has_part)

-- the path of a word: its parts, with slashes between them, are encoded one by one
unfoldable pub path_of : List ℕ → Option (List (List ℕ))
path_of word = when_some (all_of part_of (slice_split is_slash word)) named_path_of

-- a name in which a page begins, `*` at the beginning
unfoldable pub marker_of : List ℕ → Option (List ℕ)
marker_of word =
    if bytes_eq word (codes "*") then Some [] else if length word == 0 then None else decoded_if is_utf8 word

-- these rights
abbrev pub rights : Bool → Bool → Bool → Access
rights read write delete = record { read = read; write = write; delete = delete }

-- letters of `rwd` in this order, or `-` for none
unfoldable pub rights_of : List ℕ → Option Access
rights_of word =
    if bytes_eq word (codes "-") then Some (rights false false false)
    else if bytes_eq word (codes "r") then Some (rights true false false)
    else if bytes_eq word (codes "w") then Some (rights false true false)
    else if bytes_eq word (codes "d") then Some (rights false false true)
    else if bytes_eq word (codes "rw") then Some (rights true true false)
    else if bytes_eq word (codes "rd") then Some (rights true false true)
    else if bytes_eq word (codes "wd") then Some (rights false true true)
    else if bytes_eq word (codes "rwd") then Some (rights true true true)
    else None

-- the same rights, left to others
abbrev pub as_mode : Access → Mode
as_mode a = record { read = a.read; write = a.write; delete = a.delete }

-- the same letters, for the rights that are left to others
unfoldable pub mode_of : List ℕ → Option Mode
mode_of word = option_map as_mode (rights_of word)

-- what an open does with a name that is there and with one that is absent
unfoldable pub how_of : List ℕ → Option How
how_of word =
    if bytes_eq word (codes "existing") then Some Existing
    else if bytes_eq word (codes "create") then Some Create
    else if bytes_eq word (codes "either") then Some Either
    else None
