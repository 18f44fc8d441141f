-- Texts of UTF-8 (RFC 3629) in which `&`, `<` and `>` are escaped (XML 1.0, section 4.6), and the `<` behind them.
use Rattle.std.specs.Prelude.{codes, ◌≡◌, ℕ, zero, suc, ◌≤◌, ◌<◌, ◌⊎◌, ◌&&◌, List, [], ◌∷◌, ◌++◌, Option, Some, None}
use Rattle.std.specs.Prelude.{nat_lt, nat_le, ◌==◌, if◌then◌else◌}
use Rattle.sx_text.specs.declared.escaped_reader.Spot.{Spot}
use Rattle.sx_text.specs.declared.escaped_reader.Spot.TheVariants.{Between, Tail, Ampersand, WantsM, WantsP, Tee, Semi}
use Rattle.sx_text.specs.Texts.{Reader}
use Rattle.sx_text.specs.Readers.{after}
use Rattle.sx_text.specs.Machines.{Step, Ends, Goes, Fails, run_from}

-- a byte as it stands in a text of XML: `&`, `<` and `>` by their escapes, each other byte as it is
abbrev pub escape : ℕ → List ℕ
escape b = if b == 38 then codes "&amp;"
    else (if b == 60 then codes "&lt;" else (if b == 62 then codes "&gt;" else b ∷ []))

-- bytes with their escapes
abbrev pub escaped : List ℕ → List ℕ
escaped [] = []
escaped (b ∷ bs) = escape b ++ escaped bs

-- bytes with their escapes, and the `<` behind them
abbrev pub escaped_text : List ℕ → List ℕ
escaped_text bs = escaped bs ++ 60 ∷ []

-- what follows a first byte from 128 on
unfoldable pub lead_of : ℕ → Option Spot
lead_of b =
    if nat_lt b 194 then None
    else (if nat_lt b 224 then Some (Tail 128 191 0)
    else (if b == 224 then Some (Tail 160 191 1)
    else (if b == 237 then Some (Tail 128 159 1)
    else (if nat_lt b 240 then Some (Tail 128 191 1)
    else (if b == 240 then Some (Tail 144 191 2)
    else (if nat_lt b 244 then Some (Tail 128 191 2)
    else (if b == 244 then Some (Tail 128 143 2) else None)))))))

-- where so many more bytes of a character stand
abbrev pub behind : ℕ → Spot
behind zero = Between
behind (suc n) = Tail 128 191 n

-- the spot behind a byte of UTF-8, or none where it can't stand at the spot
abbrev pub spot_after : Spot → ℕ → Option Spot
spot_after Between b = if nat_lt b 128 then Some Between else lead_of b
spot_after (Tail low high more) b = if nat_le low b && nat_le b high then Some (behind more) else None
spot_after Ampersand b = None
spot_after WantsM b = None
spot_after WantsP b = None
spot_after (Tee code) b = None
spot_after (Semi code) b = None

-- bytes that are whole characters, from a spot on
unfoldable pub Chars : Spot → List ℕ → Type 0
Chars Between [] = Unit {0}
Chars Between (b ∷ bs) = ((b < 128) × Chars Between bs) ⊎ ((128 ≤ b) × (s : Spot) × (lead_of b ≡ Some s) × Chars s bs)
Chars (Tail low high more) [] = ⊥
Chars (Tail low high more) (b ∷ bs) = (low ≤ b) × (b ≤ high) × Chars (behind more) bs
Chars Ampersand bs = ⊥
Chars WantsM bs = ⊥
Chars WantsP bs = ⊥
Chars (Tee code) bs = ⊥
Chars (Semi code) bs = ⊥

-- the bytes so far, and the spot
abbrev pub Place : Type 0
Place = List ℕ × Spot

-- the step to a spot, where there is one
abbrev pub leads_to : List ℕ → Option Spot → Step Place (List ℕ)
leads_to kept None = Fails
leads_to kept (Some s) = Goes (kept, s)

-- what a byte does
abbrev pub escaped_step : Place → ℕ → Step Place (List ℕ)
escaped_step (kept, Between) b =
    if b == 60 then Ends kept
    else (if b == 62 then Fails
    else (if b == 38 then Goes (kept, Ampersand)
    else (if nat_lt b 128 then Goes (kept ++ b ∷ [], Between) else leads_to (kept ++ b ∷ []) (lead_of b))))
escaped_step (kept, Tail low high more) b = if nat_le low b && nat_le b high then Goes (kept ++ b ∷ [], behind more)
    else Fails
escaped_step (kept, Ampersand) b = if b == 97 then Goes (kept, WantsM)
    else (if b == 108 then Goes (kept, Tee 60) else (if b == 103 then Goes (kept, Tee 62) else Fails))
escaped_step (kept, WantsM) b = if b == 109 then Goes (kept, WantsP) else Fails
escaped_step (kept, WantsP) b = if b == 112 then Goes (kept, Semi 38) else Fails
escaped_step (kept, Tee code) b = if b == 116 then Goes (kept, Semi code) else Fails
escaped_step (kept, Semi code) b = if b == 59 then Goes (kept ++ code ∷ [], Between) else Fails

-- reading such a text from the front
unfoldable pub escaped_at : Reader ℕ (List ℕ)
escaped_at bytes = run_from escaped_step ([], Between) bytes

-- a literal, and the text behind it
unfoldable pub escaped_after : List ℕ → Reader ℕ (List ℕ)
escaped_after literal bytes = after literal escaped_at bytes

-- whole characters
abbrev pub IsWhole : List ℕ → Type 0
IsWhole bytes = Chars Between bytes
