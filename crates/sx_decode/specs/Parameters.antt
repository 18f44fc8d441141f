-- The query of a target.
use Rattle.std.specs.Prelude.{ℕ, ◌==◌, Bool, List, map, bytes_eq, Option, Some, None, Ok, Err}
use Rattle.std.specs.List.{filter, slice_split, before_first, after_first}
use Rattle.std.specs.Char.{to_ascii_lowercase}
use Rattle.percent_encoding.specs.Percent.{percent_decode}
use Rattle.sx_call.specs.declared.refusals.Syntax.TheVariants.{Query}
use Rattle.sx_decode.specs.declared.parameters.Parameter.{Parameter}
use Rattle.sx_decode.specs.Reading.{Reading, with_next}
use Rattle.sx_decode.specs.Lookup.{only}
use Rattle.sx_decode.specs.Escapes.{decoded_text}

-- `&`
abbrev pub is_and : ℕ → Bool
is_and b = b == 38

-- `=`
abbrev pub is_equals : ℕ → Bool
is_equals b = b == 61

-- `?`
abbrev pub is_question : ℕ → Bool
is_question b = b == 63

-- a piece `NAME=VALUE`: its name decoded and in lower case, its value as it stands
abbrev pub parameter_of : List ℕ → Parameter
parameter_of piece = record {
  name = map to_ascii_lowercase (percent_decode (before_first is_equals piece));
  value = after_first is_equals piece;
}

-- the parameters of a query, between its `&`
unfoldable pub parameters : List ℕ → List Parameter
parameters query = map parameter_of (slice_split is_and query)

-- the parameter has this name
abbrev pub has_name : List ℕ → Parameter → Bool
has_name name p = bytes_eq p.name name

-- the values of the parameters of a name, in their order
abbrev pub parameter_values : List ℕ → List Parameter → List (List ℕ)
parameter_values name ps = map (λ (p : Parameter). p.value) (filter (has_name name) ps)

-- what a parameter has to give: a percent-encoded text of UTF-8
abbrev pub encoded : List ℕ → Option (List ℕ) → Reading (Option (List ℕ))
encoded name None = Err (Query name)
encoded name (Some text) = Ok (Some text)

-- the same where it may be absent
abbrev pub encoded_or_none : List ℕ → Option (List ℕ) → Reading (Option (List ℕ))
encoded_or_none name None = Ok None
encoded_or_none name (Some value) = encoded name (decoded_text value)

-- the decoded value of a parameter that may be there once
unfoldable pub one_parameter : List ℕ → List Parameter → Reading (Option (List ℕ))
one_parameter name ps = with_next (only (Query name) (parameter_values name ps)) (encoded_or_none name)
