-- The calls on files: what each reads, in order.
use Rattle.std.specs.Prelude.{ℕ, Bool, true, false, List, codes, if◌then◌else◌, Option, Some, None, Ok, Err}
use Rattle.sx_extent.specs.Ranges.{Interval, most_bytes}
use Rattle.sx_extent.specs.declared.piece.TheConstants.{PIECE_LIMIT}
use Rattle.sx_http.specs.declared.heads.Header.{Header}
use Rattle.sx_call.specs.declared.calls.Call.{Call}
use Rattle.sx_call.specs.declared.calls.Call.TheVariants as call
use Rattle.sx_call.specs.declared.ranges.TheConstants.{OFFSET_LIMIT}
use Rattle.sx_call.specs.declared.refusals.Syntax.TheVariants.{Header as BadHeader, NoCall}
use Rattle.sx_call.specs.declared.targets.Target.{Target}
use Rattle.sx_decode.specs.declared.file_facts.NewFacts.{NewFacts}
use Rattle.sx_decode.specs.declared.file_facts.SetFacts.{SetFacts}
use Rattle.sx_decode.specs.declared.forms.Row.{Row}
use Rattle.sx_decode.specs.declared.forms.Row.TheVariants as row
use Rattle.sx_decode.specs.Reading.{Reading, with_next}
use Rattle.sx_decode.specs.Lookup.{one_header, needed_header}
use Rattle.sx_decode.specs.Numbers.{number_of, limited}
use Rattle.sx_decode.specs.Words.{is_word}
use Rattle.sx_decode.specs.Targets.{below_root}
use Rattle.sx_decode.specs.Bodies.{update_of}
use Rattle.sx_decode.specs.Contents.{content_of, digest_of}
use Rattle.sx_decode.specs.Facts.{new_attributes, set_attributes, new_time, set_time}
use Rattle.sx_decode.specs.Leases.{lease_of, scope_of, lease_action}
use Rattle.sx_decode.specs.Metadata.{meta_of}
use Rattle.sx_decode.specs.Ranges.{span_of, interval_of}

-- the header has this word
abbrev pub word_read : List ℕ → List ℕ → List ℕ → Reading Bool
word_read name word text = if is_word word text then Ok true else Err (BadHeader name)

-- a header that has to have this word
unfoldable pub needed_word : List ℕ → List ℕ → List Header → Reading Bool
needed_word name word headers = with_next (needed_header name headers) (word_read name word)

-- a length of 0 to 4 TiB
unfoldable pub length_read : List ℕ → Reading ℕ
length_read text = limited (codes "x-ms-content-length") 0 most_bytes (number_of text)

-- x-ms-content-length of a new file
unfoldable pub new_length : List Header → Reading ℕ
new_length headers = with_next (needed_header (codes "x-ms-content-length") headers) length_read

-- the length that is set, if one is
abbrev pub length_if_given : Option (List ℕ) → Reading (Option ℕ)
length_if_given None = Ok None
length_if_given (Some text) = with_next (length_read text) (λ length. Ok (Some length))

-- x-ms-content-length that is set
unfoldable pub set_length : List Header → Reading (Option ℕ)
set_length headers = with_next (one_header (codes "x-ms-content-length") headers) length_if_given

-- the attributes, times, metadata and lease id of a new file
unfoldable pub new_facts : List Header → Reading NewFacts
new_facts headers =
    with_next (new_attributes false headers) (λ attributes.
    with_next (new_time (codes "x-ms-file-creation-time") headers) (λ created.
    with_next (new_time (codes "x-ms-file-last-write-time") headers) (λ written.
    with_next (meta_of headers) (λ meta.
    with_next (lease_of headers) (λ lease.
    Ok (record { attributes = attributes; created = created; written = written; meta = meta; lease = lease }))))))

-- a new file of a length, with its content headers and facts
unfoldable pub new_file : Target → ℕ → List Header → Reading Call
new_file at length headers =
    with_next (content_of headers) (λ content.
    with_next (new_facts headers) (λ facts.
    Ok (call.CreateFile (record {
      at = at;
      length = length;
      content = content;
      attributes = facts.attributes;
      created = facts.created;
      written = facts.written;
      meta = facts.meta;
      lease = facts.lease;
    }))))

-- Create File
unfoldable pub create_file : Target → List Header → Reading Call
create_file target headers =
    with_next (below_root target) (λ at.
    with_next (needed_word (codes "x-ms-type") (codes "file") headers) (λ _.
    with_next (new_length headers) (λ length.
    new_file at length headers)))

-- Get File
unfoldable pub get_file : Target → Option ℕ → List Header → Reading Call
get_file target snap headers =
    with_next (below_root target) (λ at.
    with_next (span_of headers) (λ span.
    with_next (scope_of snap headers) (λ scope.
    Ok (call.GetFile (record { at = at; span = span; scope = scope })))))

-- Get File Properties
unfoldable pub get_file_properties : Target → Option ℕ → List Header → Reading Call
get_file_properties target snap headers =
    with_next (below_root target) (λ at.
    with_next (scope_of snap headers) (λ scope.
    Ok (call.GetFileProperties (record { at = at; scope = scope }))))

-- the attributes, times and lease id that are set
unfoldable pub set_facts : List Header → Reading SetFacts
set_facts headers =
    with_next (set_attributes headers) (λ attributes.
    with_next (set_time (codes "x-ms-file-creation-time") headers) (λ created.
    with_next (set_time (codes "x-ms-file-last-write-time") headers) (λ written.
    with_next (lease_of headers) (λ lease.
    Ok (record { attributes = attributes; created = created; written = written; lease = lease })))))

-- the properties that are set beside a length
unfoldable pub set_properties : Target → Option ℕ → List Header → Reading Call
set_properties at length headers =
    with_next (content_of headers) (λ content.
    with_next (set_facts headers) (λ facts.
    Ok (call.SetFileProperties (record {
      at = at;
      length = length;
      content = content;
      attributes = facts.attributes;
      created = facts.created;
      written = facts.written;
      lease = facts.lease;
    }))))

-- Set File Properties
unfoldable pub set_file_properties : Target → List Header → Reading Call
set_file_properties target headers =
    with_next (below_root target) (λ at.
    with_next (set_length headers) (λ length.
    set_properties at length headers))

-- Get File Metadata
unfoldable pub get_file_metadata : Target → Option ℕ → List Header → Reading Call
get_file_metadata target snap headers =
    with_next (below_root target) (λ at.
    with_next (scope_of snap headers) (λ scope.
    Ok (call.GetFileMetadata (record { at = at; scope = scope }))))

-- Set File Metadata
unfoldable pub set_file_metadata : Target → List Header → Reading Call
set_file_metadata target headers =
    with_next (below_root target) (λ at.
    with_next (meta_of headers) (λ meta.
    with_next (lease_of headers) (λ lease.
    Ok (call.SetFileMetadata (record { at = at; meta = meta; lease = lease })))))

-- Put Range with `update`, behind its interval and digest, and the body that it writes
unfoldable pub update_with : Target → Interval → Option (List ℕ) → List Header → List ℕ → Reading Call
update_with at interval digest headers body =
    with_next (lease_of headers) (λ lease.
    with_next (update_of interval digest body) (λ update.
    Ok (call.UpdateRange (record { at = at; update = update; lease = lease }))))

-- Put Range with `update`, behind its word
unfoldable pub update_at : Target → List Header → List ℕ → Reading Call
update_at at headers body =
    with_next (interval_of PIECE_LIMIT headers) (λ interval.
    with_next (digest_of (codes "content-md5") headers) (λ digest.
    update_with at interval digest headers body))

-- Put Range with `update`
unfoldable pub update_range : Target → List Header → List ℕ → Reading Call
update_range target headers body =
    with_next (below_root target) (λ at.
    with_next (needed_word (codes "x-ms-write") (codes "update") headers) (λ _.
    update_at at headers body))

-- Put Range with `clear`
unfoldable pub clear_range : Target → List Header → Reading Call
clear_range target headers =
    with_next (below_root target) (λ at.
    with_next (needed_word (codes "x-ms-write") (codes "clear") headers) (λ _.
    with_next (interval_of OFFSET_LIMIT headers) (λ range.
    with_next (lease_of headers) (λ lease.
    Ok (call.ClearRange (record { at = at; range = range; lease = lease }))))))

-- List Ranges
unfoldable pub list_ranges : Target → Option ℕ → List Header → Reading Call
list_ranges target snap headers =
    with_next (below_root target) (λ at.
    with_next (span_of headers) (λ span.
    with_next (scope_of snap headers) (λ scope.
    Ok (call.ListRanges (record { at = at; span = span; scope = scope })))))

-- Delete File
unfoldable pub delete_file : Target → List Header → Reading Call
delete_file target headers =
    with_next (below_root target) (λ at.
    with_next (lease_of headers) (λ lease.
    Ok (call.DeleteFile (record { at = at; lease = lease }))))

-- Lease File
unfoldable pub lease_file : Target → List Header → Reading Call
lease_file target headers =
    with_next (below_root target) (λ at.
    with_next (lease_action headers) (λ action.
    Ok (call.LeaseFile (record { at = at; action = action }))))

-- the call on a file that a row names
unfoldable pub file_call : Row → Target → Option ℕ → List Header → Reading Call
file_call row.CreateFile at snap headers = create_file at headers
file_call row.GetFile at snap headers = get_file at snap headers
file_call row.GetFileProperties at snap headers = get_file_properties at snap headers
file_call row.SetFileProperties at snap headers = set_file_properties at headers
file_call row.GetFileMetadata at snap headers = get_file_metadata at snap headers
file_call row.SetFileMetadata at snap headers = set_file_metadata at headers
file_call row.ClearRange at snap headers = clear_range at headers
file_call row.ListRanges at snap headers = list_ranges at snap headers
file_call row.DeleteFile at snap headers = delete_file at headers
file_call row.LeaseFile at snap headers = lease_file at headers
file_call _ at snap headers = Err NoCall
