-- Headers looked up by their name. A head's names are in lower case, and so is the name that is looked up.
use Rattle.std.specs.Prelude.{ℕ, Bool, List, map, bytes_eq}
use Rattle.std.specs.List.{filter, list_any}
use Rattle.sx_http.specs.declared.heads.Header.{Header}

-- the header has that name
abbrev pub is_named : List ℕ → Header → Bool
is_named name h = bytes_eq h.name name

-- a header of that name is there
abbrev pub has_header : List ℕ → List Header → Bool
has_header name headers = list_any (is_named name) headers

-- the values of the headers of a name, in the order received
abbrev pub header_values : List ℕ → List Header → List (List ℕ)
header_values name headers = map (λ (h : Header). h.value) (filter (is_named name) headers)
