-- The laws of reading: a request is one call, or is refused for one reason; it fits at most one row of the table of
-- calls, which is the one that the code searches.
use Rattle.std.specs.Prelude.{◌≡◌, ◌⊎◌, ◌≤◌, length, filter}
use Rattle.sx_http.specs.declared.heads.Request.{Request}
use Rattle.sx_call.specs.declared.calls.Call.{Call}
use Rattle.sx_call.specs.declared.refusals.Syntax.{Syntax}
use Rattle.sx_decode.specs.declared.choice.Key.{Key}
use Rattle.sx_decode.specs.declared.table.TheConstants.{TABLE}
use Rattle.sx_decode.specs.Rows.{table}
use Rattle.sx_decode.specs.Table.{fits}
use Rattle.sx_decode.specs.Spelling.{Spells, Refused}

-- the request spells a call, no other one, and has no refusal
abbrev pub SpellsOne : Request → Type 0
SpellsOne r =
    (call : Call) × Spells call r × ((other : Call) → Spells other r → other ≡ call)
    × ((refusal : Syntax) → Refused refusal r → ⊥)

-- the request has a first refusal, no other one, and spells no call
abbrev pub HasOneRefusal : Request → Type 0
HasOneRefusal r =
    (refusal : Syntax) × Refused refusal r × ((other : Syntax) → Refused other r → other ≡ refusal)
    × ((call : Call) → Spells call r → ⊥)

-- each request spells exactly one call or has exactly one first refusal
abbrev pub RequestsAreDetermined : Type 0
RequestsAreDetermined = (r : Request) → SpellsOne r ⊎ HasOneRefusal r

-- the table that the code searches is the table of calls, row by row
abbrev pub TableIsExact : Type 0
TableIsExact = TABLE ≡ table

-- a request fits at most one row of the table, so the first that it fits is the only one
abbrev pub RowsAreApart : Type 0
RowsAreApart = (key : Key) → length (filter (fits key) table) ≤ 1
