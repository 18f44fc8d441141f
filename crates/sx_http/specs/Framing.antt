-- What the headers of a head say of its body (RFC 9112, section 6), and the refusals of a whole head.
use Rattle.std.specs.Prelude.{ℕ, ◌^◌, ◌&&◌, ◌||◌, not, nat_lt, nat_eq, Bool, List, length, bytes_eq, codes}
use Rattle.std.specs.Prelude.{if◌then◌else◌, Option, Some, None}
use Rattle.std.specs.List.{find, list_all}
use Rattle.std.specs.Char.{is_ascii_digit}
use Rattle.std.specs.Str.Parse.{digits_value}
use Rattle.sx_http.specs.Lookup.{is_named, has_header}
use Rattle.sx_http.specs.declared.limits.TheConstants.{HEADER_LIMIT, BODY_LIMIT}
use Rattle.sx_http.specs.declared.heads.Header.{Header}
use Rattle.sx_http.specs.declared.heads.Head.{Head}
use Rattle.sx_http.specs.declared.framing.StatedLength.{StatedLength}
use Rattle.sx_http.specs.declared.framing.StatedLength.TheVariants.{Nothing, Unclear, Bytes}
use Rattle.sx_http.specs.declared.framing.Framing.{Framing}
use Rattle.sx_http.specs.declared.framing.Framing.TheVariants.{Body, TooManyHeaders, NoLength, BadLength, LongBody}

-- the bytes are decimal digits, leading zeros among them, of a number below 2^64
abbrev pub is_number : List ℕ → Bool
is_number v = list_all is_ascii_digit v && (nat_lt 0 (length v) && nat_lt (digits_value 10 v) (2 ^ 64))

-- the number that decimal digits write
abbrev pub number_of : List ℕ → Option ℕ
number_of v = if is_number v then Some (digits_value 10 v) else None

-- the bytes write that number
abbrev pub writes : ℕ → List ℕ → Bool
writes n v = is_number v && nat_eq (digits_value 10 v) n

-- the header is no Content-Length, or it states that number
abbrev pub may_state : ℕ → Header → Bool
may_state n h = not (is_named (codes "content-length") h) || writes n h.value

-- the number of the first Content-Length, where each other states the same
abbrev pub agreed_length : Option ℕ → List Header → StatedLength
agreed_length None headers = Unclear
agreed_length (Some n) headers = if list_all (may_state n) headers then Bytes n else Unclear

-- what the first Content-Length and all others state, where there is one
abbrev pub stated_by : Option Header → List Header → StatedLength
stated_by None headers = Nothing
stated_by (Some h) headers = agreed_length (number_of h.value) headers

-- what all Content-Length headers together state
abbrev pub length_stated : List Header → StatedLength
length_stated headers = stated_by (find (is_named (codes "content-length")) headers) headers

-- a Transfer-Encoding, or a PUT without a Content-Length
abbrev pub lacks_length : Head → Bool
lacks_length head =
    has_header (codes "transfer-encoding") head.headers
    || (bytes_eq head.method (codes "PUT") && not (has_header (codes "content-length") head.headers))

-- a body of so many bytes, or the refusal of its length
abbrev pub framing_by_length : StatedLength → Framing
framing_by_length Nothing = Body 0
framing_by_length Unclear = BadLength
framing_by_length (Bytes n) = if nat_lt BODY_LIMIT n then LongBody n else Body n

-- the body that follows a whole head, or the first refusal
abbrev pub framing_of : Head → Framing
framing_of head =
    if nat_lt HEADER_LIMIT (length head.headers) then TooManyHeaders (length head.headers)
    else if lacks_length head then NoLength
    else framing_by_length (length_stated head.headers)
