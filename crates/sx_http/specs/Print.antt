-- The text that is written for a head.
use Rattle.std.specs.Prelude.{ℕ, Bool, true, false, List, [], ◌∷◌, ◌++◌, codes}
use Rattle.std.specs.List.{concat, flat_map}
use Rattle.sx_http.specs.declared.heads.Header.{Header}
use Rattle.sx_http.specs.declared.heads.Head.{Head}

-- CR LF
abbrev pub line_end : List ℕ
line_end = 13 ∷ 10 ∷ []

-- the version of a start line
abbrev pub version_text : Bool → List ℕ
version_text true = codes "HTTP/1.1"
version_text false = codes "HTTP/1.0"

-- a start line of these parts
abbrev pub line_text : List ℕ → List ℕ → List ℕ → List ℕ
line_text method target version = concat (method ∷ codes " " ∷ target ∷ codes " " ∷ version ∷ line_end ∷ [])

-- method SP target SP version CRLF
abbrev pub start_line : Head → List ℕ
start_line head = line_text head.method head.target (version_text head.v11)

-- the line of a name and a value
abbrev pub pair_text : List ℕ → List ℕ → List ℕ
pair_text name value = concat (name ∷ codes ": " ∷ value ∷ line_end ∷ [])

-- name ":" SP value CRLF
abbrev pub header_line : Header → List ℕ
header_line h = pair_text h.name h.value

-- the lines of the headers, and an empty line
abbrev pub headers_text : List Header → List ℕ
headers_text headers = flat_map header_line headers ++ line_end

-- the text of a head
abbrev pub head_text : Head → List ℕ
head_text head = start_line head ++ headers_text head.headers
