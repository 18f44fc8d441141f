-- The headers Range and x-ms-range.
use Rattle.std.specs.Prelude.{ℕ, ◌==◌, ◌+◌, ◌-◌, ◌&&◌, nat_eq, nat_le, nat_lt, Bool, true, List, [], ◌∷◌, codes}
use Rattle.std.specs.Prelude.{drop, if◌then◌else◌, Option, Some, None, Ok, Err}
use Rattle.std.specs.List.{list_any, starts_with, before_first, after_first}
use Rattle.sx_extent.specs.Ranges.{Interval}
use Rattle.sx_http.specs.Lookup.{has_header}
use Rattle.sx_http.specs.declared.heads.Header.{Header}
use Rattle.sx_call.specs.Ranges.{BytesFrom, is_first}
use Rattle.sx_call.specs.declared.ranges.TheConstants.{OFFSET_LIMIT}
use Rattle.sx_call.specs.declared.refusals.Syntax.TheVariants.{Header as BadHeader, Range}
use Rattle.sx_decode.specs.Reading.{Reading, with_next}
use Rattle.sx_decode.specs.Lookup.{one_header, needed_header}
use Rattle.sx_decode.specs.Numbers.{number_of}

-- `-`
abbrev pub is_dash : ℕ → Bool
is_dash b = b == 45

-- a first byte and a last one
abbrev pub to_last : ℕ → Option ℕ → Option BytesFrom
to_last from None = None
to_last from (Some last) = Some (record { from = from; last = Some last })

-- a first byte, and a last one where a text stands for it
abbrev pub from_first : Option ℕ → List ℕ → Option BytesFrom
from_first None last = None
from_first (Some from) [] = Some (record { from = from; last = None })
from_first (Some from) (digit ∷ digits) = to_last from (number_of (digit ∷ digits))

-- `A-` or `A-B`
abbrev pub bounds_of : List ℕ → Option BytesFrom
bounds_of text =
    if list_any is_dash text then from_first (number_of (before_first is_dash text)) (after_first is_dash text)
    else None

-- `bytes=A-` or `bytes=A-B`
unfoldable pub bytes_of : List ℕ → Option BytesFrom
bytes_of text = if starts_with nat_eq text (codes "bytes=") then bounds_of (drop 6 text) else None

-- the header that is read: x-ms-range, or Range where that is absent and this one isn't
unfoldable pub range_name : List Header → List ℕ
range_name headers =
    if has_header (codes "x-ms-range") headers then codes "x-ms-range"
    else if has_header (codes "range") headers then codes "range"
    else codes "x-ms-range"

-- the last byte isn't before the first
abbrev pub is_closed_in_order : ℕ → Option ℕ → Bool
is_closed_in_order from None = true
is_closed_in_order from (Some last) = nat_le from last

-- bytes that a range of a file names: both offsets are below 2^63
abbrev pub first_within : List ℕ → BytesFrom → Reading (Option BytesFrom)
first_within name b = if is_first b then Ok (Some b) else Err (Range name)

-- the bytes of a range that is read, whose last isn't before the first
abbrev pub first_read : List ℕ → Option BytesFrom → Reading (Option BytesFrom)
first_read name None = Err (BadHeader name)
first_read name (Some b) = if is_closed_in_order b.from b.last then first_within name b else Err (BadHeader name)

-- the bytes of a range, where there is one
abbrev pub first_if_given : List ℕ → Option (List ℕ) → Reading (Option BytesFrom)
first_if_given name None = Ok None
first_if_given name (Some text) = first_read name (bytes_of text)

-- the range of a call that reads
unfoldable pub span_of : List Header → Reading (Option BytesFrom)
span_of headers = with_next (one_header (range_name headers) headers) (first_if_given (range_name headers))

-- an interval of at most so many bytes, all below 2^63
abbrev pub interval_within : List ℕ → ℕ → ℕ → ℕ → Reading Interval
interval_within name most from last =
    if nat_lt last OFFSET_LIMIT && nat_lt (last - from) most then Ok (record { from = from; end = last + 1 })
    else Err (Range name)

-- the interval from the first byte to the last
abbrev pub interval_to : List ℕ → ℕ → ℕ → Option ℕ → Reading Interval
interval_to name most from None = Err (BadHeader name)
interval_to name most from (Some last) =
    if nat_le from last then interval_within name most from last else Err (BadHeader name)

-- the interval of a range that is read
abbrev pub interval_read : List ℕ → ℕ → Option BytesFrom → Reading Interval
interval_read name most None = Err (BadHeader name)
interval_read name most (Some b) = interval_to name most b.from b.last

-- the range of a call that writes at most so many bytes
unfoldable pub interval_of : ℕ → List Header → Reading Interval
interval_of most headers =
    with_next (needed_header (range_name headers) headers) (λ text.
    interval_read (range_name headers) most (bytes_of text))
