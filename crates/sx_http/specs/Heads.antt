-- The heads of requests, by the grammar of RFC 9112, sections 2 to 5, as the crate httparse accepts it.
use Rattle.std.specs.Prelude.{ℕ, ◌≡◌, ◌≤◌, ◌==◌, List, [], map, length, take, drop, Option, Some, None}
use Rattle.std.specs.Char.{to_ascii_lowercase}
use Rattle.httparse.specs.Grammar.{Field, field_value, RequestHead, print_request, ReadsRequest, HasNoRequest}
use Rattle.httparse.specs.Grammar.{NeverHasRequest, MayBecomeRequest}
use Rattle.httparse.specs.Spans.{span_bytes}
use Rattle.httparse.specs.declared.spans.HeaderSpan.{HeaderSpan}
use Rattle.sx_http.specs.declared.limits.TheConstants.{HEAD_LIMIT, HEADER_LIMIT}
use Rattle.sx_http.specs.declared.heads.Header.{Header}
use Rattle.sx_http.specs.declared.heads.Head.{Head}
use Rattle.sx_http.specs.declared.parse.Parsed.{Parsed}
use Rattle.sx_http.specs.declared.parse.Parsed.TheVariants.{Whole, More, Never, NoMemory}

-- bytes with each ASCII letter in lower case
abbrev pub lower : List ℕ → List ℕ
lower bytes = map to_ascii_lowercase bytes

-- the header that a field line writes: its name in lower case, and its value without the white space around it
abbrev pub header_of : Field → Header
header_of f = record { name = lower f.name; value = field_value f }

-- the head that a head's text writes
abbrev pub head_of : RequestHead → Head
head_of tree = record {
  method = tree.method;
  target = tree.target;
  v11 = tree.minor == 1;
  headers = map header_of tree.fields;
}

-- the bytes are that head, within its limits
pub record IsHead (bytes : List ℕ) (head : Head) : Type 0 where
  pub tree : RequestHead
  pub reads : ReadsRequest bytes tree []
  pub short : length bytes ≤ HEAD_LIMIT
  pub few : length tree.fields ≤ HEADER_LIMIT
  pub is : head ≡ head_of tree

-- the head that the bytes are, where they are one
abbrev pub HeadFor : List ℕ → Option Head → Type 0
HeadFor bytes (Some head) = IsHead bytes head
HeadFor bytes None = (head : Head) → ¬ (IsHead bytes head)

-- a head of so many bytes stands at the front
pub record BeginsHead (bytes : List ℕ) (size : ℕ) (head : Head) : Type 0 where
  pub tree : RequestHead
  pub reads : ReadsRequest bytes tree (drop size bytes)
  pub long : size ≡ length (print_request tree)
  pub is : head ≡ head_of tree

-- the bytes among which a head has to be whole
abbrev pub head_window : List ℕ → List ℕ
head_window bytes = take HEAD_LIMIT bytes

-- no head stands at the front, and one may yet come; where the bytes end in a target, whether it is UTF-8 is left open
abbrev pub MayHaveHead : List ℕ → Type 0
MayHaveHead bytes = HasNoRequest bytes × MayBecomeRequest bytes

-- the header that spans cover
abbrev pub header_at : List ℕ → HeaderSpan → Header
header_at bytes span = record { name = lower (span_bytes bytes span.name); value = span_bytes bytes span.value }

-- what a parser found at the front of the bytes
abbrev pub IsParsed : List ℕ → Parsed → Type 0
IsParsed bytes (Whole head size) = BeginsHead bytes size head
IsParsed bytes More = MayHaveHead bytes
IsParsed bytes Never = NeverHasRequest bytes
IsParsed bytes NoMemory = Unit {0}
