-- The body that lists ranges ("List Ranges" of Azure Files): its text, and reading it.
use Rattle.std.specs.Prelude.{codes, ℕ, ◌+◌, ◌-◌, ◌^◌, ◌<◌, List, [], ◌∷◌, ◌++◌}
use Rattle.std.specs.List.{concat, flat_map, AllByRecursion}
use Rattle.std.specs.Fmt.{decimal}
use Rattle.sx_extent.specs.Ranges.{Interval}
use Rattle.sx_text.specs.Texts.{Reader}
use Rattle.sx_text.specs.Readers.{pair_at, closed_at, made_at, after, all_values_at}
use Rattle.sx_text.specs.Numbers.{number_after}
use Rattle.sx_listing.specs.declared.ranges.TheConstants.{MAX_OFFSET}

-- a range: the offsets of its first and its last byte
unfoldable pub range_text : Interval → List ℕ
range_text s =
    concat (
    codes "<Range><Start>" ∷ decimal s.from
    ∷ codes "</Start><End>" ∷ decimal (s.end - 1)
    ∷ codes "</End></Range>" ∷ [])

-- the whole body
unfoldable pub ranges_text : List Interval → List ℕ
ranges_text ss =
    codes "<?xml version=\"1.0\" encoding=\"utf-8\"?><Ranges>" ++ flat_map range_text ss ++ codes "</Ranges>"

-- at least one byte, and an end that is a number of 64 bits
abbrev pub IsRange : Interval → Type 0
IsRange s = (s.from < s.end) × (s.end < 2 ^ 64)

-- each is a range
abbrev pub AreRanges : List Interval → Type 0
AreRanges ss = AllByRecursion IsRange ss

-- the range of these offsets
abbrev pub range_of : ℕ × ℕ → Interval
range_of x = record { from = x.0; end = x.1 + 1 }

-- the offset of the last byte, and the `<` of what follows the range
unfoldable pub last_at : ℕ → Reader ℕ ℕ
last_at from bytes = closed_at (number_after (codes "/Start><End>") 60 from MAX_OFFSET) (codes "/End></Range><") bytes

-- a range without the `<` at its front, and with that of what follows it
unfoldable pub range_at : Reader ℕ Interval
range_at bytes = made_at range_of (pair_at (number_after (codes "Range><Start>") 60 0 MAX_OFFSET) last_at) bytes

-- the ranges of a body, with what stands in front of them and the `/` behind them
unfoldable pub items_at : Reader ℕ (List Interval)
items_at bytes = after (codes "<?xml version=\"1.0\" encoding=\"utf-8\"?><Ranges><") (all_values_at 47 range_at) bytes

-- the ranges of a whole body
unfoldable pub ranges_at : Reader ℕ (List Interval)
ranges_at bytes = closed_at items_at (codes "Ranges>") bytes
