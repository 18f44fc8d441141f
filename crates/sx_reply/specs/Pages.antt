-- The front and the end of every head, and what is told of a file (HTTP/1.1, RFC 9112; headers of Azure Files).
use Rattle.std.specs.Prelude.{codes, ℕ, ◌+◌, ◌-◌, ◌==◌, Bool, if◌then◌else◌, List, [], ◌∷◌, length}
use Rattle.std.specs.List.{concat}
use Rattle.std.specs.Fmt.{decimal}
use Rattle.sx_names.specs.declared.content.Content.{Content}
use Rattle.sx_names.specs.declared.meta_pair.MetaPair.{MetaPair}
use Rattle.sx_call.specs.Shown.{BytesOfFile}
use Rattle.sx_call.specs.declared.shown.Stamp.{Stamp}
use Rattle.sx_call.specs.declared.shown.Shown.{Shown}
use Rattle.sx_call.specs.declared.leases.LeaseShown.{LeaseShown}
use Rattle.sx_base.specs.Date.{date_text}
use Rattle.sx_reply.specs.Values.{text_if, uuid_text, attributes_line}
use Rattle.sx_reply.specs.Headers.{line_if, stamp_text, facts_text, lease_text, meta_text, kind_text, md5_text}

-- the phrase of a status (RFC 9110, section 15)
unfoldable pub phrase : ℕ → List ℕ
phrase status =
    if status == 200 then codes "OK"
    else if status == 201 then codes "Created"
    else if status == 202 then codes "Accepted"
    else if status == 206 then codes "Partial Content"
    else if status == 400 then codes "Bad Request"
    else if status == 403 then codes "Forbidden"
    else if status == 404 then codes "Not Found"
    else if status == 405 then codes "Method Not Allowed"
    else if status == 409 then codes "Conflict"
    else if status == 411 then codes "Length Required"
    else if status == 412 then codes "Precondition Failed"
    else if status == 413 then codes "Payload Too Large"
    else if status == 416 then codes "Range Not Satisfiable"
    else if status == 503 then codes "Service Unavailable"
    else []

-- the front of every head by its values: the status line, the request's id, the version and the date
abbrev pub front_words : ℕ → List ℕ → List ℕ → List ℕ → List ℕ
front_words status phrase id date =
    concat (
    codes "HTTP/1.1 " ∷ decimal status ∷ codes " " ∷ phrase
    ∷ codes "\r\nx-ms-request-id: " ∷ id
    ∷ codes "\r\nx-ms-version: 2020-10-02\r\nDate: " ∷ date
    ∷ codes "\r\n" ∷ [])

-- the front of every head
unfoldable pub front_text : ℕ → ℕ → ℕ → List ℕ
front_text status place at = front_words status (phrase status) (uuid_text place) (date_text at)

-- the end of every head by its values: the length, whether the connection closes, and the empty line
abbrev pub end_words : List ℕ → List ℕ → List ℕ
end_words digits closing =
    concat (codes "Content-Length: " ∷ digits ∷ codes "\r\n" ∷ closing ∷ codes "\r\n" ∷ [])

-- the end of every head
unfoldable pub end_text : ℕ → Bool → List ℕ
end_text length close = end_words (decimal length) (text_if close (codes "Connection: close\r\n"))

-- that ranges may be asked for, and which one this is, where one was asked for: its first byte, its last, and the
-- file's length
abbrev pub range_lines : Bool → ℕ → ℕ → ℕ → List ℕ
range_lines whole from last length =
    if whole then codes "Accept-Ranges: bytes\r\n"
    else concat (
    codes "Accept-Ranges: bytes\r\nContent-Range: bytes " ∷ decimal from
    ∷ codes "-" ∷ decimal last ∷ codes "/" ∷ decimal length ∷ codes "\r\n" ∷ [])

-- the same for bytes of a file
abbrev pub range_text : BytesOfFile → List ℕ
range_text part = range_lines part.whole part.from (part.from + length part.view - 1) part.length

-- the name of the header of a file's digest: another where the body is a part of the file
abbrev pub md5_name : Bool → List ℕ
md5_name whole = if whole then codes "Content-MD5: " else codes "x-ms-content-md5: "

-- what is told of a file: its stamp, its content headers (the digest's by its name), lines on ranges, its attributes,
-- times and ids, its lease and its metadata
abbrev pub file_headers : Stamp → Content → List ℕ → List ℕ → Shown → LeaseShown → List MetaPair → List ℕ
file_headers stamp content digest ranges facts lease meta =
    concat (
    stamp_text stamp
    ∷ kind_text content.kind
    ∷ line_if (codes "Content-Encoding: ") content.encoding
    ∷ line_if (codes "Content-Language: ") content.language
    ∷ line_if (codes "Cache-Control: ") content.cache_control
    ∷ line_if (codes "Content-Disposition: ") content.disposition
    ∷ md5_text digest content.md5
    ∷ ranges
    ∷ codes "x-ms-type: File\r\n"
    ∷ attributes_line facts.attributes ∷ facts_text facts ∷ lease_text lease ∷ meta_text meta ∷ [])
