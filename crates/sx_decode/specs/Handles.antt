-- Handles in headers and markers.
use Rattle.std.specs.Prelude.{ℕ, ◌==◌, ◌&&◌, nat_le, Bool, true, false, List, codes, bytes_eq, if◌then◌else◌}
use Rattle.std.specs.Prelude.{Option, Some, None, Ok, Err}
use Rattle.std.specs.List.{before_first, after_first}
use Rattle.sx_guard.specs.Handle.{Handle}
use Rattle.sx_http.specs.declared.heads.Header.{Header}
use Rattle.sx_call.specs.declared.refusals.Syntax.{Syntax}
use Rattle.sx_call.specs.declared.refusals.Syntax.TheVariants.{Header as BadHeader, Query, Range}
use Rattle.sx_decode.specs.Reading.{Reading, with_next}
use Rattle.sx_decode.specs.Lookup.{one_header, needed_header}
use Rattle.sx_decode.specs.Numbers.{number_of}
use Rattle.sx_decode.specs.Words.{is_word}

-- `.`
abbrev pub is_dot : ℕ → Bool
is_dot b = b == 46

-- two numbers, where both are given
abbrev pub both : Option ℕ → Option ℕ → Option (ℕ × ℕ)
both None index = None
both (Some session) None = None
both (Some session) (Some index) = Some (session, index)

-- `S.K`: the numbers of a session and of an open in it
unfoldable pub handle_numbers : List ℕ → Option (ℕ × ℕ)
handle_numbers text = both (number_of (before_first is_dot text)) (number_of (after_first is_dot text))

-- from 1 to 4,294,967,295
abbrev pub is_handle_number : ℕ → Bool
is_handle_number n = nat_le 1 n && nat_le n 4294967295

-- the handle of two numbers within their limits
abbrev pub handle_within : ℕ → ℕ → Option Handle
handle_within session index =
    if is_handle_number session && is_handle_number index then Some (record { session = session; index = index })
    else None

-- a handle that a refusal stands for where there is none
abbrev pub handle_or : Syntax → Option Handle → Reading (Option Handle)
handle_or refusal None = Err refusal
handle_or refusal (Some handle) = Ok (Some handle)

-- the handle of x-ms-handle-id: other texts are unread, and numbers out of their limits out of range
abbrev pub handle_read : Option (ℕ × ℕ) → Reading (Option Handle)
handle_read None = Err (BadHeader (codes "x-ms-handle-id"))
handle_read (Some numbers) = handle_or (Range (codes "x-ms-handle-id")) (handle_within numbers.0 numbers.1)

-- `*` for all handles, or one
unfoldable pub handle_named : List ℕ → Reading (Option Handle)
handle_named text = if bytes_eq text (codes "*") then Ok None else handle_read (handle_numbers text)

-- x-ms-handle-id
unfoldable pub handle_of : List Header → Reading (Option Handle)
handle_of headers = with_next (needed_header (codes "x-ms-handle-id") headers) handle_named

-- the handle of a marker: any other text is refused
unfoldable pub marker_read : Option (ℕ × ℕ) → Reading (Option Handle)
marker_read None = Err (Query (codes "marker"))
marker_read (Some numbers) = handle_or (Query (codes "marker")) (handle_within numbers.0 numbers.1)

-- `true` or `false`
abbrev pub recursive_read : Option (List ℕ) → Reading Bool
recursive_read None = Ok false
recursive_read (Some text) =
    if is_word (codes "true") text then Ok true
    else if is_word (codes "false") text then Ok false
    else Err (BadHeader (codes "x-ms-recursive"))

-- x-ms-recursive: `true` or `false`, which absence means
unfoldable pub recursive_of : List Header → Reading Bool
recursive_of headers = with_next (one_header (codes "x-ms-recursive") headers) recursive_read
