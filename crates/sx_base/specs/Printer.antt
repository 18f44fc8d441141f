-- The text of a fragment that is printed, and a text that is printed piece by piece.
use Rattle.std.specs.Prelude.{ℕ, ◌≡◌, ◌++◌, List, decimal, Result, Ok, Err}
use Rattle.hex.specs.Hex.{encode_lower}
use Rattle.sx_base.specs.Sink.{Prints}
use Rattle.sx_base.specs.declared.printer.Fragment.{Fragment}
use Rattle.sx_base.specs.declared.printer.Fragment.TheVariants.{Text, Decimal, Hex}

-- a text as it stands, a number in decimal digits, bytes in lower-case hexadecimal digits
abbrev pub text_of : Fragment → List ℕ
text_of (Text bytes) = bytes.now
text_of (Decimal n) = decimal n
text_of (Hex bytes) = encode_lower bytes.now

-- a front of the text is printed, and the rest is left
pub record PrintsFront {K : Type 0} (E : Type 0) (wrote : K → List ℕ → Type 0) (count : K → ℕ) (puts : K → K → Type 0)
    (old new : K) (text rest : List ℕ) : Type 0 where
  pub front : List ℕ
  pub prints : Prints {T = Unit {0}} {E = E} wrote count puts old new front (Ok tt)
  pub whole : text ≡ front ++ rest

-- a text was gathered behind what is held, of which a front may have been printed, or the printing failed
abbrev pub Gathers : {K E : Type 0} → (K → List ℕ → Type 0) → (K → ℕ) → (K → K → Type 0) → K → K → List ℕ → List ℕ
    → List ℕ
    → Result (Unit {0}) E → Type 0
Gathers {E = E} wrote count puts old new held held' text (Ok done)
    = PrintsFront E wrote count puts old new (held ++ text) held'
Gathers wrote count puts old new held held' text (Err fault)
    = Prints {T = Unit {0}} wrote count puts old new (held ++ text) (Err fault)
