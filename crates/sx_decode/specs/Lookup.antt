-- Headers that may be there once.
use Rattle.std.specs.Prelude.{ℕ, List, [], ◌∷◌, Option, Some, None, Ok, Err}
use Rattle.sx_http.specs.Lookup.{header_values}
use Rattle.sx_http.specs.declared.heads.Header.{Header}
use Rattle.sx_call.specs.declared.refusals.Syntax.{Syntax}
use Rattle.sx_call.specs.declared.refusals.Syntax.TheVariants.{Header as BadHeader, Missing}
use Rattle.sx_decode.specs.Reading.{Reading, with_next}

-- a value that may be there once, and is refused where it is repeated
abbrev pub only : Syntax → List (List ℕ) → Reading (Option (List ℕ))
only refusal [] = Ok None
only refusal (value ∷ []) = Ok (Some value)
only refusal (value ∷ other ∷ values) = Err refusal

-- the value of a header that may be there once
unfoldable pub one_header : List ℕ → List Header → Reading (Option (List ℕ))
one_header name headers = only (BadHeader name) (header_values name headers)

-- a value that has to be there
abbrev pub needed : List ℕ → Option (List ℕ) → Reading (List ℕ)
needed name None = Err (Missing name)
needed name (Some value) = Ok value

-- the value of a header that has to be there, once
unfoldable pub needed_header : List ℕ → List Header → Reading (List ℕ)
needed_header name headers = with_next (one_header name headers) (needed name)
