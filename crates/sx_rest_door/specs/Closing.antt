-- When a connection closes behind an answer (RFC 9112, section 9.6), and how the answer to a request is printed.
use Rattle.std.specs.Prelude.{ℕ, ◌==◌, ◌&&◌, ◌||◌, Bool, true, not, List, bytes_eq, codes}
use Rattle.std.specs.List.{list_any, slice_split}
use Rattle.sx_http.specs.Lookup.{is_named}
use Rattle.sx_http.specs.declared.heads.Head.{Head}
use Rattle.sx_http.specs.declared.heads.Header.{Header}
use Rattle.sx_decode.specs.Words.{is_word_in_blanks}
use Rattle.sx_reply.specs.declared.answer.Shape.{Shape}

-- `,`
abbrev pub is_comma : ℕ → Bool
is_comma b = b == 44

-- the word is `close`, without ASCII case, with spaces and tabs round it
abbrev pub is_close : List ℕ → Bool
is_close word = is_word_in_blanks true (codes "close") word

-- `close` stands among the words of the value, which commas part
abbrev pub has_close : List ℕ → Bool
has_close value = list_any is_close (slice_split is_comma value)

-- the header is a Connection that has the word `close`
abbrev pub says_close : Header → Bool
says_close h = is_named (codes "connection") h && has_close h.value

-- a connection closes behind the answer to a request with this head: its version is HTTP/1.0, or it says so
abbrev pub closes : Head → Bool
closes head = not head.v11 || list_any says_close head.headers

-- the answer to a request with this head: without a body where the head alone is asked for, and it tells whether the
-- connection closes
abbrev pub shape_of : Head → Shape
shape_of head = record { head_only = bytes_eq head.method (codes "HEAD"); close = closes head }
