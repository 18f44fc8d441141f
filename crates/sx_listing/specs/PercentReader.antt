-- Reading percent-encoded texts (RFC 3986, section 2.1) of UTF-8 (RFC 3629), and the `<` behind them.
use Rattle.std.specs.Prelude.{ℕ, ◌+◌, ◌-◌, ◌*◌, ◌<◌, ◌==◌, ◌&&◌, ◌||◌, Bool, false, nat_le, nat_lt, if◌then◌else◌, List}
use Rattle.std.specs.Prelude.{[], ◌∷◌, ◌++◌, Option, Some, None}
use Rattle.sx_text.specs.declared.escaped_reader.Spot.{Spot}
use Rattle.sx_text.specs.declared.escaped_reader.Spot.TheVariants.{Between, Tail}
use Rattle.sx_text.specs.Texts.{Reader}
use Rattle.sx_text.specs.Readers.{after}
use Rattle.sx_text.specs.Machines.{Step, Ends, Goes, Fails, run_from}
use Rattle.sx_text.specs.Escapes.{spot_after}
use Rattle.sx_listing.specs.declared.percent_reader.Escape.{Escape}
use Rattle.sx_listing.specs.declared.percent_reader.Escape.TheVariants.{Plain, Percent, Digit}
use Rattle.sx_listing.specs.declared.percent_reader.Mark.{Mark}
use Rattle.sx_listing.specs.declared.percent_reader.Mark.TheVariants.{Done, Kept, Passed, Wrong}
use Rattle.sx_listing.specs.Percent.{is_unreserved, percent_text}

-- bytes in percent-encoding, and the `<` behind them
abbrev pub percent_ended : List ℕ → List ℕ
percent_ended bytes = percent_text bytes ++ 60 ∷ []

-- the number of a hexadecimal digit, its letters in upper case
unfoldable pub upper_value : ℕ → Option ℕ
upper_value b =
    if nat_le 48 b && nat_le b 57 then Some (b - 48)
    else (if nat_le 65 b && nat_le b 70 then Some (b - 55) else None)

-- the bytes so far, the spot in their UTF-8, and the place in an escape
abbrev pub Place : Type 0
Place = List ℕ × (Spot × Escape)

-- the text ends between two characters
abbrev pub ended_at : List ℕ → Spot → Step Place (List ℕ)
ended_at kept Between = Ends kept
ended_at kept spot = Fails

-- a byte is kept, where it has a spot behind it
abbrev pub kept_at : List ℕ → ℕ → Option Spot → Step Place (List ℕ)
kept_at kept b None = Fails
kept_at kept b (Some spot) = Goes (kept ++ b ∷ [], (spot, Plain))

-- whether some byte that may stand at the spot is written as an escape with this first digit
unfoldable pub may_escape : Spot → ℕ → Bool
may_escape Between high = nat_lt high 8 || nat_le 12 high
may_escape (Tail low top more) high = nat_le (16 * high) top && nat_lt low (16 * high + 16)
may_escape spot high = false

-- the first digit of an escape
abbrev pub first_digit : List ℕ → Spot → Option ℕ → Step Place (List ℕ)
first_digit kept spot None = Fails
first_digit kept spot (Some high) = if may_escape spot high then Goes (kept, (spot, Digit high)) else Fails

-- the second digit of an escape: of a byte that isn't written as it is
abbrev pub second_digit : List ℕ → Spot → ℕ → Option ℕ → Step Place (List ℕ)
second_digit kept spot high None = Fails
second_digit kept spot high (Some low) =
    if is_unreserved (16 * high + low) then Fails
    else kept_at kept (16 * high + low) (spot_after spot (16 * high + low))

-- what a byte does
abbrev pub percent_step : Place → ℕ → Step Place (List ℕ)
percent_step (kept, (spot, Plain)) b =
    if b == 60 then ended_at kept spot
    else (if b == 37 then Goes (kept, (spot, Percent))
    else (if is_unreserved b then kept_at kept b (spot_after spot b) else Fails))
percent_step (kept, (spot, Percent)) b = first_digit kept spot (upper_value b)
percent_step (kept, (spot, (Digit high))) b = second_digit kept spot high (upper_value b)

-- the step that a mark of the code shows, behind the bytes kept so far
abbrev pub shown_mark : List ℕ → Spot → Mark → Step Place (List ℕ)
shown_mark kept spot Done = Ends kept
shown_mark kept spot (Kept b next) = Goes (kept ++ b ∷ [], (next, Plain))
shown_mark kept spot (Passed escape) = Goes (kept, (spot, escape))
shown_mark kept spot Wrong = Fails

-- the first digit of an escape is one
abbrev pub IsEscape : Escape → Type 0
IsEscape (Digit high) = high < 16
IsEscape escape = Unit {0}

-- so is that of the escape to which a mark goes on
abbrev pub PassesEscape : Mark → Type 0
PassesEscape (Passed escape) = IsEscape escape
PassesEscape mark = Unit {0}

-- reading such a text from the front
unfoldable pub percent_at : Reader ℕ (List ℕ)
percent_at bytes = run_from percent_step ([], (Between, Plain)) bytes

-- a literal, and the text behind it
unfoldable pub percent_after : List ℕ → Reader ℕ (List ℕ)
percent_after literal bytes = after literal percent_at bytes
