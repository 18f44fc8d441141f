-- The text that a request signs, and its signature ("Authorize with Shared Key" of Azure Storage).
-- A head's names are in lower case.
use Rattle.std.specs.Prelude.{ℕ, ◌==◌, ◌||◌, Bool, nat_lt, List, [], ◌∷◌, ◌++◌, length, map, bytes_eq, codes}
use Rattle.std.specs.Prelude.{if◌then◌else◌, nat_eq}
use Rattle.std.specs.List.{filter, flat_map, join_with_byte, slice_split, before_first, after_first, starts_with}
use Rattle.std.specs.Char.{to_ascii_lowercase}
use Rattle.std.specs.Str.Lossy.{utf8_lossy}
use Rattle.percent_encoding.specs.Percent.{percent_decode}
use Rattle.base64.specs.GeneralPurpose.{encode_of}
use Rattle.base64.specs.Engines.{standard}
use Rattle.sx_http.specs.declared.heads.Head.{Head}
use Rattle.sx_http.specs.declared.heads.Header.{Header}
use Rattle.sx_key.specs.declared.account.Account.{Account}
use Rattle.sx_http.specs.Lookup.{has_header, header_values}
use Rattle.sx_key.specs.declared.fields.Field.{Field}
use Rattle.sx_key.specs.Digest.{hmac}
use Rattle.sx_key.specs.Texts.{sorted_texts, joined_text, text_line}
use Rattle.sx_key.specs.Fields.{field_values, field_names}

-- a header's text: the values of its name joined, so none is the empty text
abbrev pub joined_header : List ℕ → List Header → List ℕ
joined_header name headers = joined_text (header_values name headers)

-- a line for each name
abbrev pub header_lines : List (List ℕ) → List Header → List ℕ
header_lines names headers = flat_map (λ name. text_line (joined_header name headers)) names

-- a length of 0 is left out
abbrev pub signed_length : List Header → List ℕ
signed_length headers =
    if bytes_eq (joined_header (codes "content-length") headers) (codes "0")
    then []
    else joined_header (codes "content-length") headers

-- the date is left out where `x-ms-date` is there, which is signed among the canonical headers
abbrev pub signed_date : List Header → List ℕ
signed_date headers = if has_header (codes "x-ms-date") headers then [] else joined_header (codes "date") headers

-- the names of the headers before the length
abbrev pub names_first : List (List ℕ)
names_first = codes "content-encoding" ∷ codes "content-language" ∷ []

-- those between the length and the date
abbrev pub names_between : List (List ℕ)
names_between = codes "content-md5" ∷ codes "content-type" ∷ []

-- those behind the date
abbrev pub names_last : List (List ℕ)
names_last =
    codes "if-modified-since" ∷ codes "if-match" ∷ codes "if-none-match" ∷ codes "if-unmodified-since"
    ∷ codes "range" ∷ []

-- the verb and eleven headers, a line each
abbrev pub standard_lines : List ℕ → List Header → List ℕ
standard_lines verb headers =
    text_line verb ++ header_lines names_first headers ++ text_line (signed_length headers)
    ++ header_lines names_between headers ++ text_line (signed_date headers) ++ header_lines names_last headers

-- space and tab
abbrev pub is_space_or_tab : ℕ → Bool
is_space_or_tab b = b == 32 || b == 9

-- the text has a byte
abbrev pub is_not_empty : List ℕ → Bool
is_not_empty text = nat_lt 0 (length text)

-- runs of blanks become one space, and none stand at the ends
abbrev pub single_spaced : List ℕ → List ℕ
single_spaced text = join_with_byte 32 (filter is_not_empty (slice_split is_space_or_tab text))

-- the headers of Azure's own
abbrev pub is_ms_header : Header → Bool
is_ms_header h = starts_with nat_eq h.name (codes "x-ms-")

-- such a header with single spaces in its value
abbrev pub canonical_field : Header → Field
canonical_field h = record { name = h.name; value = single_spaced h.value }

-- those of all headers
abbrev pub canonical_fields : List Header → List Field
canonical_fields headers = map canonical_field (filter is_ms_header headers)

-- `NAME:VALUES` and a line feed
abbrev pub canonical_line : List Field → List ℕ → List ℕ
canonical_line fields name = text_line (name ++ codes ":" ++ joined_text (field_values name fields))

-- a line for each name of them, in order
abbrev pub canonical_headers : List Header → List ℕ
canonical_headers headers = flat_map (canonical_line (canonical_fields headers))
    (field_names (canonical_fields headers))

-- `&`
abbrev pub is_and : ℕ → Bool
is_and b = b == 38

-- `=`
abbrev pub is_equals : ℕ → Bool
is_equals b = b == 61

-- `?`
abbrev pub is_question : ℕ → Bool
is_question b = b == 63

-- `NAME=VALUE` of a query, both decoded, the name in lower case
abbrev pub parameter : List ℕ → Field
parameter piece = record {
  name = map to_ascii_lowercase (percent_decode (before_first is_equals piece));
  value = percent_decode (after_first is_equals piece);
}

-- an empty piece is no parameter
abbrev pub parameters : List ℕ → List Field
parameters query = map parameter (filter is_not_empty (slice_split is_and query))

-- a line feed and `NAME:VALUES`
abbrev pub parameter_line : List Field → List ℕ → List ℕ
parameter_line fields name = codes "\n" ++ name ++ codes ":" ++ joined_text (sorted_texts (field_values name fields))

-- a line for each name of the parameters, in order
abbrev pub parameter_lines : List Field → List ℕ
parameter_lines fields = flat_map (parameter_line fields) (field_names fields)

-- a slash, the account, the path as it stands in the target, and the parameters
abbrev pub canonical_resource : List ℕ → List ℕ → List ℕ
canonical_resource account target =
    codes "/" ++ account ++ before_first is_question target
    ++ parameter_lines (parameters (after_first is_question target))

-- StringToSign, its bytes as they come
abbrev pub signed_bytes : Head → List ℕ → List ℕ
signed_bytes head account =
    standard_lines head.method head.headers ++ canonical_headers head.headers ++ canonical_resource account head.target

-- StringToSign: bytes that aren't UTF-8 stand as their lossy text
abbrev pub string_to_sign : Head → List ℕ → List ℕ
string_to_sign head account = utf8_lossy (signed_bytes head account)

-- the HMAC of StringToSign under the account's key
abbrev pub signature : Head → Account → List ℕ
signature head account = hmac account.key (string_to_sign head account.name)

-- the value of the Authorization header
abbrev pub authorization : Head → Account → List ℕ
authorization head account = codes "SharedKey " ++ account.name ++ codes ":"
    ++ encode_of standard (signature head account)
