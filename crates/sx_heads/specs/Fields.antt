-- The fields of a head.
use Rattle.std.specs.Prelude.{ℕ, ◌++◌, List, [], ◌∷◌, map, codes, Option, Some, None}
use Rattle.sx_http.specs.declared.heads.Header.{Header}
use Rattle.sx_names.specs.declared.meta_pair.MetaPair.{MetaPair}

-- a name with its value, where one is given, or a field for each pair of metadata
pub data Field : Type 0 where
  one : List ℕ → Option (List ℕ) → Field
  metas : List MetaPair → Field

-- a header
abbrev pub header : List ℕ → List ℕ → Header
header name value = record { name = name; value = value }

-- a header, where its value is given
abbrev pub header_if : List ℕ → Option (List ℕ) → List Header
header_if name None = []
header_if name (Some value) = header name value ∷ []

-- x-ms-meta-NAME
abbrev pub meta_header : MetaPair → Header
meta_header pair = header (codes "x-ms-meta-" ++ pair.name) pair.value

-- the headers of a field
abbrev pub headers_of : Field → List Header
headers_of (one name value) = header_if name value
headers_of (metas pairs) = map meta_header pairs

-- these headers, and behind them those of fields in their order
abbrev pub with_fields : List Header → List Field → List Header
with_fields headers [] = headers
with_fields headers (field ∷ fields) = with_fields (headers ++ headers_of field) fields
