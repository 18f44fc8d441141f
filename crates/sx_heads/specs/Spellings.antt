-- One spelling of a request.
use Rattle.std.specs.Prelude.{ℕ, ◌++◌, true, List, [], ◌∷◌, length, codes, decimal, Some}
use Rattle.sx_http.specs.declared.heads.Header.{Header}
use Rattle.sx_http.specs.declared.heads.Request.{Request}
use Rattle.sx_decode.specs.declared.targets.Place.{Place}
use Rattle.sx_heads.specs.Fields.{Field, one, with_fields}
use Rattle.sx_heads.specs.Targets.{Query, path_text, query_text}

-- what a request is spelled from: its fields but for the version and the length
pub record Spelling : Type 0 where
  pub method : List ℕ
  pub at : Place
  pub query : Query
  pub fields : List Field
  pub body : List ℕ

-- the version and the length, with which each head ends
abbrev pub ending : List ℕ → List Field
ending body =
    one (codes "x-ms-version") (Some (codes "2020-10-02"))
    ∷ one (codes "content-length") (Some (decimal (length body)))
    ∷ []

-- the target
unfoldable pub target_text : Place → Query → List ℕ
target_text at query = path_text at ++ query_text query

-- the headers
unfoldable pub headers_spelled : List Field → List ℕ → List Header
headers_spelled fields body = with_fields [] (fields ++ ending body)

-- the request
unfoldable pub request_of : Spelling → Request
request_of s = record {
  head = record {
    method = s.method;
    target = target_text s.at s.query;
    v11 = true;
    headers = headers_spelled s.fields s.body;
  };
  body = s.body;
}
