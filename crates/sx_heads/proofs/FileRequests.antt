-- The calls on files are read back.
use Rattle.std.proofs.Common.{◌≡◌, ℕ, ◌==◌, true, false, is_some, List, [], ◌∷◌, length, codes, decimal, Some, None, Ok, refl, ◌∙◌, append-nil}
use Rattle.std.specs.Option.{option_map}
use Rattle.sx_base.specs.Moment.{moment_text}
use Rattle.sx_http.specs.Lookup.{has_header, header_values}
use Rattle.sx_http.specs.declared.heads.Header.{Header}
use Rattle.sx_call.specs.CallLimits.{IsWithinLimits}
use Rattle.sx_call.specs.Targets.{is_below_root}
use Rattle.sx_call.specs.declared.calls.Call.TheVariants as call
use Rattle.sx_call.specs.declared.file_calls.CreateFile.{CreateFile}
use Rattle.sx_call.specs.declared.file_calls.GetFile.{GetFile}
use Rattle.sx_call.specs.declared.file_calls.GetFileProperties.{GetFileProperties}
use Rattle.sx_call.specs.declared.file_calls.SetFileProperties.{SetFileProperties}
use Rattle.sx_call.specs.declared.file_calls.GetFileMetadata.{GetFileMetadata}
use Rattle.sx_call.specs.declared.file_calls.SetFileMetadata.{SetFileMetadata}
use Rattle.sx_call.specs.declared.file_calls.UpdateRange.{UpdateRange}
use Rattle.sx_call.specs.declared.file_calls.ClearRange.{ClearRange}
use Rattle.sx_call.specs.declared.file_calls.ListRanges.{ListRanges}
use Rattle.sx_call.specs.declared.file_calls.DeleteFile.{DeleteFile}
use Rattle.sx_call.specs.declared.file_calls.LeaseFile.{LeaseFile}
use Rattle.sx_decode.specs.declared.forms.Row.TheVariants as row
use Rattle.sx_decode.specs.declared.forms.Verb.TheVariants as verb
use Rattle.sx_decode.specs.declared.targets.Place.TheVariants.{Inside}
use Rattle.sx_decode.specs.Bodies.{no_body}
use Rattle.sx_decode.specs.Words.{is_word}
use Rattle.sx_decode.specs.Table.{fits, row_of}
use Rattle.sx_decode.specs.Metadata.{meta_of}
use Rattle.sx_decode.specs.Spelling.{shape_of, restype_of, comp_of, comp_named, is_clear, key_of, row_for, call_by_row, call_inside, call_without_body, bodiless_call, inside_call}
use Rattle.sx_decode.specs.ShareRows.{plain_call}
use Rattle.sx_decode.specs.DirectoryRows.{directory_call}
use Rattle.sx_decode.specs.FileRows.{file_call}
use Rattle.sx_decode.specs.FileRows.{create_file, new_file, new_facts, get_file, get_file_properties, set_file_properties, set_properties, set_facts, get_file_metadata, set_file_metadata, update_range, update_at, update_with, clear_range, list_ranges, delete_file, lease_file}
use Rattle.sx_heads.specs.FileSpellings as spelled
use Rattle.sx_heads.specs.Heads.{IsReadAs}
use Rattle.sx_heads.specs.Spellings.{headers_spelled, request_of}
use Rattle.sx_heads.specs.Values.{id_text, attributes_text, bytes_text, interval_text, time_text}
use Rattle.sx_heads.proofs.Requests.{field_is, has_field, values_of_field, meta_is, reads_plain, plain_asked}
use Rattle.sx_heads.proofs.PlainTexts.{plain_utf8}
use Rattle.sx_heads.specs.Digests.{IsReadDigest}
use Rattle.sx_heads.proofs.FieldReads.{Holds, lease_read, scope_read, below_read, new_attributes_read, set_attributes_read, new_time_read, set_time_read, new_length_read, set_length_read, word_read, HoldsContent, content_read, span_read, interval_read, action_back}
use Rattle.sx_heads.proofs.RowTables.{verb_is_get, verb_is_put, verb_is_head, verb_is_delete, has_parts, is_some_map}
use Rattle.std.proofs.Common.{◌+◌, ◌-◌, ◌≤◌, ◌&&◌, arith, nat_le, nat_lt}
use Rattle.sx_decode.specs.declared.asked.Asked.{Asked}
use Rattle.std.proofs.lemmas.Bool.{and_parts}
use Rattle.std.proofs.lemmas.Bool.Decides.{nat_tests}
use Rattle.sx_extent.specs.Ranges.{Interval}
use Rattle.sx_extent.specs.declared.piece.TheConstants.{PIECE_LIMIT}
use Rattle.sx_call.specs.Ranges.{is_byte_range}
use Rattle.sx_call.specs.Updates.{PieceFrom, is_range_update}
use Rattle.sx_call.specs.declared.ranges.TheConstants.{OFFSET_LIMIT}
use Rattle.sx_decode.specs.Bodies.{piece_of, with_digest, update_of}
use Rattle.sx_decode.specs.Contents.{digest_of}
use Rattle.sx_decode.specs.Leases.{lease_action}
use Rattle.sx_heads.specs.ShareSpellings.{action_fields}
use Rattle.sx_heads.proofs.ShareRequests.{action_version}

create_file_row : (c : CreateFile) (hs : List Header) → is_below_root c.at ≡ true → row_for (key_of verb.Put (Inside c.at) (plain_asked None None None) hs) ≡ Ok row.CreateFile
unfolding row_for row_of fits key_of shape_of restype_of comp_of comp_named is_word is_clear
create_file_row c hs e = rw (has_parts c.at e) refl

create_file_call : (c : CreateFile) (hs : List Header) → IsWithinLimits (call.CreateFile c) → IsReadDigest c.content.md5 → Holds (codes "x-ms-type") hs (Some (codes "file")) → Holds (codes "x-ms-content-length") hs (Some (decimal c.length)) → HoldsContent hs c.content → Holds (codes "x-ms-file-attributes") hs (Some (attributes_text c.attributes)) → Holds (codes "x-ms-file-creation-time") hs (option_map moment_text c.created) → Holds (codes "x-ms-file-last-write-time") hs (option_map moment_text c.written) → meta_of hs ≡ Ok c.meta → Holds (codes "x-ms-lease-id") hs (option_map id_text c.lease)
    → call_by_row row.CreateFile (Inside c.at) (plain_asked None None None) hs [] ≡ Ok (call.CreateFile c)
unfolding call_by_row call_inside call_without_body bodiless_call inside_call plain_call directory_call file_call no_body create_file new_file new_facts is_word
create_file_call c hs h d type length content attributes created written meta lease = rw (below_read c.at h.0.1, word_read (codes "x-ms-type") (codes "file") hs refl type, new_length_read hs c.length h.1 length, content_read hs c.content h.2 d content, new_attributes_read false hs c.attributes h.3 attributes, new_time_read (codes "x-ms-file-creation-time") hs c.created h.4 created, new_time_read (codes "x-ms-file-last-write-time") hs c.written h.5 written, meta, lease_read hs c.lease h.7 lease) refl

pub create_file_back : (c : CreateFile) → IsWithinLimits (call.CreateFile c) → IsReadDigest c.content.md5 → IsReadAs (call.CreateFile c) (request_of (spelled.create_file c))
unfolding spelled.create_file
create_file_back c h d =
    let fields = (spelled.create_file c).fields in
    let hs = headers_spelled fields [] in
    reads_plain (codes "PUT") (Inside c.at) None None None fields [] verb.Put row.CreateFile (call.CreateFile c)
    verb_is_put h.0.0 tt tt tt (refl, refl) (create_file_row c hs h.0.1)
    (create_file_call c hs h d
    (field_is (codes "x-ms-type") fields [] (λ m. refl) refl)
    (field_is (codes "x-ms-content-length") fields [] (λ m. refl) refl)
    (record {
      kind = field_is (codes "x-ms-content-type") fields [] (λ m. refl) refl;
      encoding = field_is (codes "x-ms-content-encoding") fields [] (λ m. refl) refl;
      language = field_is (codes "x-ms-content-language") fields [] (λ m. refl) refl;
      cache_control = field_is (codes "x-ms-cache-control") fields [] (λ m. refl) refl;
      disposition = field_is (codes "x-ms-content-disposition") fields [] (λ m. refl) refl;
      md5 = field_is (codes "x-ms-content-md5") fields [] (λ m. refl) refl;
    })
    (field_is (codes "x-ms-file-attributes") fields [] (λ m. refl) refl)
    (field_is (codes "x-ms-file-creation-time") fields [] (λ m. refl) refl)
    (field_is (codes "x-ms-file-last-write-time") fields [] (λ m. refl) refl)
    (meta_is fields [] c.meta refl (append-nil c.meta) h.6)
    (field_is (codes "x-ms-lease-id") fields [] (λ m. refl) refl))

get_file_row : (c : GetFile) (hs : List Header) → is_below_root c.at ≡ true → row_for (key_of verb.Get (Inside c.at) (plain_asked None None c.scope.snap) hs) ≡ Ok row.GetFile
unfolding row_for row_of fits key_of shape_of restype_of comp_of comp_named is_word is_clear
get_file_row c hs e = rw (has_parts c.at e) refl

get_file_call : (c : GetFile) (hs : List Header) → IsWithinLimits (call.GetFile c) → has_header (codes "x-ms-range") hs ≡ is_some c.span → has_header (codes "range") hs ≡ false → Holds (codes "x-ms-range") hs (option_map bytes_text c.span) → Holds (codes "x-ms-lease-id") hs (option_map id_text c.scope.lease)
    → call_by_row row.GetFile (Inside c.at) (plain_asked None None c.scope.snap) hs [] ≡ Ok (call.GetFile c)
unfolding call_by_row call_inside call_without_body bodiless_call inside_call plain_call directory_call file_call no_body get_file
get_file_call c hs h there other span lease = rw (below_read c.at h.0.1, span_read hs c.span h.1 there other span, scope_read hs c.scope h.2 lease) refl

pub get_file_back : (c : GetFile) → IsWithinLimits (call.GetFile c) → IsReadAs (call.GetFile c) (request_of (spelled.get_file c))
unfolding spelled.get_file
get_file_back c h =
    let fields = (spelled.get_file c).fields in
    let hs = headers_spelled fields [] in
    reads_plain (codes "GET") (Inside c.at) None None c.scope.snap fields [] verb.Get row.GetFile (call.GetFile c)
    verb_is_get h.0.0 tt tt h.2.1 (refl, refl) (get_file_row c hs h.0.1)
    (get_file_call c hs h
    (has_field (codes "x-ms-range") fields [] (λ m. refl) refl ∙ is_some_map bytes_text c.span)
    (has_field (codes "range") fields [] (λ m. refl) refl)
    (field_is (codes "x-ms-range") fields [] (λ m. refl) refl)
    (field_is (codes "x-ms-lease-id") fields [] (λ m. refl) refl))

get_file_properties_row : (c : GetFileProperties) (hs : List Header) → is_below_root c.at ≡ true → row_for (key_of verb.Head (Inside c.at) (plain_asked None None c.scope.snap) hs) ≡ Ok row.GetFileProperties
unfolding row_for row_of fits key_of shape_of restype_of comp_of comp_named is_word is_clear
get_file_properties_row c hs e = rw (has_parts c.at e) refl

get_file_properties_call : (c : GetFileProperties) (hs : List Header) → IsWithinLimits (call.GetFileProperties c) → Holds (codes "x-ms-lease-id") hs (option_map id_text c.scope.lease)
    → call_by_row row.GetFileProperties (Inside c.at) (plain_asked None None c.scope.snap) hs [] ≡ Ok (call.GetFileProperties c)
unfolding call_by_row call_inside call_without_body bodiless_call inside_call plain_call directory_call file_call no_body get_file_properties
get_file_properties_call c hs h lease = rw (below_read c.at h.0.1, scope_read hs c.scope h.1 lease) refl

pub get_file_properties_back : (c : GetFileProperties) → IsWithinLimits (call.GetFileProperties c) → IsReadAs (call.GetFileProperties c) (request_of (spelled.get_file_properties c))
unfolding spelled.get_file_properties
get_file_properties_back c h =
    let fields = (spelled.get_file_properties c).fields in
    let hs = headers_spelled fields [] in
    reads_plain (codes "HEAD") (Inside c.at) None None c.scope.snap fields [] verb.Head row.GetFileProperties (call.GetFileProperties c)
    verb_is_head h.0.0 tt tt h.1.1 (refl, refl) (get_file_properties_row c hs h.0.1)
    (get_file_properties_call c hs h
    (field_is (codes "x-ms-lease-id") fields [] (λ m. refl) refl))

set_file_properties_row : (c : SetFileProperties) (hs : List Header) → is_below_root c.at ≡ true → row_for (key_of verb.Put (Inside c.at) (plain_asked None (Some (codes "properties")) None) hs) ≡ Ok row.SetFileProperties
unfolding row_for row_of fits key_of shape_of restype_of comp_of comp_named is_word is_clear
set_file_properties_row c hs e = rw (has_parts c.at e) refl

set_file_properties_call : (c : SetFileProperties) (hs : List Header) → IsWithinLimits (call.SetFileProperties c) → IsReadDigest c.content.md5 → Holds (codes "x-ms-content-length") hs (option_map decimal c.length) → HoldsContent hs c.content → Holds (codes "x-ms-file-attributes") hs (option_map attributes_text c.attributes) → Holds (codes "x-ms-file-creation-time") hs (Some (time_text c.created)) → Holds (codes "x-ms-file-last-write-time") hs (Some (time_text c.written)) → Holds (codes "x-ms-lease-id") hs (option_map id_text c.lease)
    → call_by_row row.SetFileProperties (Inside c.at) (plain_asked None (Some (codes "properties")) None) hs [] ≡ Ok (call.SetFileProperties c)
unfolding call_by_row call_inside call_without_body bodiless_call inside_call plain_call directory_call file_call no_body set_file_properties set_properties set_facts
set_file_properties_call c hs h d length content attributes created written lease = rw (below_read c.at h.0.1, set_length_read hs c.length h.1 length, content_read hs c.content h.2 d content, set_attributes_read hs c.attributes h.3 attributes, set_time_read (codes "x-ms-file-creation-time") hs c.created h.4 created, set_time_read (codes "x-ms-file-last-write-time") hs c.written h.5 written, lease_read hs c.lease h.6 lease) refl

pub set_file_properties_back : (c : SetFileProperties) → IsWithinLimits (call.SetFileProperties c) → IsReadDigest c.content.md5 → IsReadAs (call.SetFileProperties c) (request_of (spelled.set_file_properties c))
unfolding spelled.set_file_properties
set_file_properties_back c h d =
    let fields = (spelled.set_file_properties c).fields in
    let hs = headers_spelled fields [] in
    reads_plain (codes "PUT") (Inside c.at) None (Some (codes "properties")) None fields [] verb.Put row.SetFileProperties (call.SetFileProperties c)
    verb_is_put h.0.0 tt (plain_utf8 (codes "properties") refl) tt (refl, refl) (set_file_properties_row c hs h.0.1)
    (set_file_properties_call c hs h d
    (field_is (codes "x-ms-content-length") fields [] (λ m. refl) refl)
    (record {
      kind = field_is (codes "x-ms-content-type") fields [] (λ m. refl) refl;
      encoding = field_is (codes "x-ms-content-encoding") fields [] (λ m. refl) refl;
      language = field_is (codes "x-ms-content-language") fields [] (λ m. refl) refl;
      cache_control = field_is (codes "x-ms-cache-control") fields [] (λ m. refl) refl;
      disposition = field_is (codes "x-ms-content-disposition") fields [] (λ m. refl) refl;
      md5 = field_is (codes "x-ms-content-md5") fields [] (λ m. refl) refl;
    })
    (field_is (codes "x-ms-file-attributes") fields [] (λ m. refl) refl)
    (field_is (codes "x-ms-file-creation-time") fields [] (λ m. refl) refl)
    (field_is (codes "x-ms-file-last-write-time") fields [] (λ m. refl) refl)
    (field_is (codes "x-ms-lease-id") fields [] (λ m. refl) refl))

get_file_metadata_row : (c : GetFileMetadata) (hs : List Header) → is_below_root c.at ≡ true → row_for (key_of verb.Get (Inside c.at) (plain_asked None (Some (codes "metadata")) c.scope.snap) hs) ≡ Ok row.GetFileMetadata
unfolding row_for row_of fits key_of shape_of restype_of comp_of comp_named is_word is_clear
get_file_metadata_row c hs e = rw (has_parts c.at e) refl

get_file_metadata_call : (c : GetFileMetadata) (hs : List Header) → IsWithinLimits (call.GetFileMetadata c) → Holds (codes "x-ms-lease-id") hs (option_map id_text c.scope.lease)
    → call_by_row row.GetFileMetadata (Inside c.at) (plain_asked None (Some (codes "metadata")) c.scope.snap) hs [] ≡ Ok (call.GetFileMetadata c)
unfolding call_by_row call_inside call_without_body bodiless_call inside_call plain_call directory_call file_call no_body get_file_metadata
get_file_metadata_call c hs h lease = rw (below_read c.at h.0.1, scope_read hs c.scope h.1 lease) refl

pub get_file_metadata_back : (c : GetFileMetadata) → IsWithinLimits (call.GetFileMetadata c) → IsReadAs (call.GetFileMetadata c) (request_of (spelled.get_file_metadata c))
unfolding spelled.get_file_metadata
get_file_metadata_back c h =
    let fields = (spelled.get_file_metadata c).fields in
    let hs = headers_spelled fields [] in
    reads_plain (codes "GET") (Inside c.at) None (Some (codes "metadata")) c.scope.snap fields [] verb.Get row.GetFileMetadata (call.GetFileMetadata c)
    verb_is_get h.0.0 tt (plain_utf8 (codes "metadata") refl) h.1.1 (refl, refl) (get_file_metadata_row c hs h.0.1)
    (get_file_metadata_call c hs h
    (field_is (codes "x-ms-lease-id") fields [] (λ m. refl) refl))

set_file_metadata_row : (c : SetFileMetadata) (hs : List Header) → is_below_root c.at ≡ true → row_for (key_of verb.Put (Inside c.at) (plain_asked None (Some (codes "metadata")) None) hs) ≡ Ok row.SetFileMetadata
unfolding row_for row_of fits key_of shape_of restype_of comp_of comp_named is_word is_clear
set_file_metadata_row c hs e = rw (has_parts c.at e) refl

set_file_metadata_call : (c : SetFileMetadata) (hs : List Header) → IsWithinLimits (call.SetFileMetadata c) → meta_of hs ≡ Ok c.meta → Holds (codes "x-ms-lease-id") hs (option_map id_text c.lease)
    → call_by_row row.SetFileMetadata (Inside c.at) (plain_asked None (Some (codes "metadata")) None) hs [] ≡ Ok (call.SetFileMetadata c)
unfolding call_by_row call_inside call_without_body bodiless_call inside_call plain_call directory_call file_call no_body set_file_metadata
set_file_metadata_call c hs h meta lease = rw (below_read c.at h.0.1, meta, lease_read hs c.lease h.2 lease) refl

pub set_file_metadata_back : (c : SetFileMetadata) → IsWithinLimits (call.SetFileMetadata c) → IsReadAs (call.SetFileMetadata c) (request_of (spelled.set_file_metadata c))
unfolding spelled.set_file_metadata
set_file_metadata_back c h =
    let fields = (spelled.set_file_metadata c).fields in
    let hs = headers_spelled fields [] in
    reads_plain (codes "PUT") (Inside c.at) None (Some (codes "metadata")) None fields [] verb.Put row.SetFileMetadata (call.SetFileMetadata c)
    verb_is_put h.0.0 tt (plain_utf8 (codes "metadata") refl) tt (refl, refl) (set_file_metadata_row c hs h.0.1)
    (set_file_metadata_call c hs h
    (meta_is fields [] c.meta refl (append-nil c.meta) h.1)
    (field_is (codes "x-ms-lease-id") fields [] (λ m. refl) refl))

list_ranges_row : (c : ListRanges) (hs : List Header) → is_below_root c.at ≡ true → row_for (key_of verb.Get (Inside c.at) (plain_asked None (Some (codes "rangelist")) c.scope.snap) hs) ≡ Ok row.ListRanges
unfolding row_for row_of fits key_of shape_of restype_of comp_of comp_named is_word is_clear
list_ranges_row c hs e = rw (has_parts c.at e) refl

list_ranges_call : (c : ListRanges) (hs : List Header) → IsWithinLimits (call.ListRanges c) → has_header (codes "x-ms-range") hs ≡ is_some c.span → has_header (codes "range") hs ≡ false → Holds (codes "x-ms-range") hs (option_map bytes_text c.span) → Holds (codes "x-ms-lease-id") hs (option_map id_text c.scope.lease)
    → call_by_row row.ListRanges (Inside c.at) (plain_asked None (Some (codes "rangelist")) c.scope.snap) hs [] ≡ Ok (call.ListRanges c)
unfolding call_by_row call_inside call_without_body bodiless_call inside_call plain_call directory_call file_call no_body list_ranges
list_ranges_call c hs h there other span lease = rw (below_read c.at h.0.1, span_read hs c.span h.1 there other span, scope_read hs c.scope h.2 lease) refl

pub list_ranges_back : (c : ListRanges) → IsWithinLimits (call.ListRanges c) → IsReadAs (call.ListRanges c) (request_of (spelled.list_ranges c))
unfolding spelled.list_ranges
list_ranges_back c h =
    let fields = (spelled.list_ranges c).fields in
    let hs = headers_spelled fields [] in
    reads_plain (codes "GET") (Inside c.at) None (Some (codes "rangelist")) c.scope.snap fields [] verb.Get row.ListRanges (call.ListRanges c)
    verb_is_get h.0.0 tt (plain_utf8 (codes "rangelist") refl) h.2.1 (refl, refl) (list_ranges_row c hs h.0.1)
    (list_ranges_call c hs h
    (has_field (codes "x-ms-range") fields [] (λ m. refl) refl ∙ is_some_map bytes_text c.span)
    (has_field (codes "range") fields [] (λ m. refl) refl)
    (field_is (codes "x-ms-range") fields [] (λ m. refl) refl)
    (field_is (codes "x-ms-lease-id") fields [] (λ m. refl) refl))

delete_file_row : (c : DeleteFile) (hs : List Header) → is_below_root c.at ≡ true → row_for (key_of verb.Delete (Inside c.at) (plain_asked None None None) hs) ≡ Ok row.DeleteFile
unfolding row_for row_of fits key_of shape_of restype_of comp_of comp_named is_word is_clear
delete_file_row c hs e = rw (has_parts c.at e) refl

delete_file_call : (c : DeleteFile) (hs : List Header) → IsWithinLimits (call.DeleteFile c) → Holds (codes "x-ms-lease-id") hs (option_map id_text c.lease)
    → call_by_row row.DeleteFile (Inside c.at) (plain_asked None None None) hs [] ≡ Ok (call.DeleteFile c)
unfolding call_by_row call_inside call_without_body bodiless_call inside_call plain_call directory_call file_call no_body delete_file
delete_file_call c hs h lease = rw (below_read c.at h.0.1, lease_read hs c.lease h.1 lease) refl

pub delete_file_back : (c : DeleteFile) → IsWithinLimits (call.DeleteFile c) → IsReadAs (call.DeleteFile c) (request_of (spelled.delete_file c))
unfolding spelled.delete_file
delete_file_back c h =
    let fields = (spelled.delete_file c).fields in
    let hs = headers_spelled fields [] in
    reads_plain (codes "DELETE") (Inside c.at) None None None fields [] verb.Delete row.DeleteFile (call.DeleteFile c)
    verb_is_delete h.0.0 tt tt tt (refl, refl) (delete_file_row c hs h.0.1)
    (delete_file_call c hs h
    (field_is (codes "x-ms-lease-id") fields [] (λ m. refl) refl))

lease_file_row : (c : LeaseFile) (hs : List Header) → is_below_root c.at ≡ true → row_for (key_of verb.Put (Inside c.at) (plain_asked None (Some (codes "lease")) None) hs) ≡ Ok row.LeaseFile
unfolding row_for row_of fits key_of shape_of restype_of comp_of comp_named is_word is_clear
lease_file_row c hs e = rw (has_parts c.at e) refl

lease_file_call : (c : LeaseFile) (hs : List Header) → IsWithinLimits (call.LeaseFile c) → lease_action hs ≡ Ok c.action
    → call_by_row row.LeaseFile (Inside c.at) (plain_asked None (Some (codes "lease")) None) hs [] ≡ Ok (call.LeaseFile c)
unfolding call_by_row call_inside call_without_body bodiless_call inside_call plain_call directory_call file_call no_body lease_file
lease_file_call c hs h e = rw (below_read c.at h.0.1, e) refl

pub lease_file_back : (c : LeaseFile) → IsWithinLimits (call.LeaseFile c) → IsReadAs (call.LeaseFile c) (request_of (spelled.lease_file c))
unfolding spelled.lease_file
lease_file_back c h =
    let fields = action_fields c.action in
    let hs = headers_spelled fields [] in
    reads_plain (codes "PUT") (Inside c.at) None (Some (codes "lease")) None fields [] verb.Put row.LeaseFile (call.LeaseFile c)
    verb_is_put h.0.0 tt (plain_utf8 (codes "lease") refl) tt (action_version c.action) (lease_file_row c hs h.0.1)
    (lease_file_call c hs h (action_back c.action h.1))

-- what Put Range asks
abbrev range_asks : Asked
range_asks = plain_asked None (Some (codes "range")) None

clear_range_row : (c : ClearRange) (hs : List Header) → is_below_root c.at ≡ true → header_values (codes "x-ms-write") hs ≡ codes "clear" ∷ []
    → row_for (key_of verb.Put (Inside c.at) range_asks hs) ≡ Ok row.ClearRange
unfolding row_for row_of fits key_of shape_of restype_of comp_of comp_named is_word is_clear
clear_range_row c hs e w = rw (has_parts c.at e, w) refl

clears_at_most : (i : Interval) → is_byte_range i ≡ true → i.end - i.from ≤ OFFSET_LIMIT
clears_at_most i e = less i.from i.end (and_parts (nat_lt i.from i.end) (nat_le i.end OFFSET_LIMIT) e).1
  where
    less : (a b : ℕ) → nat_le b OFFSET_LIMIT ≡ true → b - a ≤ OFFSET_LIMIT
    less a b h = grind (arith, nat_tests, h)

clear_range_call : (c : ClearRange) (hs : List Header) → IsWithinLimits (call.ClearRange c) → Holds (codes "x-ms-write") hs (Some (codes "clear"))
    → has_header (codes "x-ms-range") hs ≡ true → Holds (codes "x-ms-range") hs (Some (interval_text c.range)) → Holds (codes "x-ms-lease-id") hs (option_map id_text c.lease)
    → call_by_row row.ClearRange (Inside c.at) range_asks hs [] ≡ Ok (call.ClearRange c)
unfolding call_by_row call_inside call_without_body bodiless_call inside_call plain_call directory_call file_call no_body clear_range is_word
clear_range_call c hs h write there range lease = rw (
  below_read c.at h.0.1,
  word_read (codes "x-ms-write") (codes "clear") hs refl write,
  interval_read OFFSET_LIMIT hs c.range h.1 (clears_at_most c.range h.1) there range,
  lease_read hs c.lease h.2 lease,
) refl

pub clear_range_back : (c : ClearRange) → IsWithinLimits (call.ClearRange c) → IsReadAs (call.ClearRange c) (request_of (spelled.clear_range c))
unfolding spelled.clear_range
clear_range_back c h =
    let fields = (spelled.clear_range c).fields in
    let hs = headers_spelled fields [] in
    reads_plain (codes "PUT") (Inside c.at) None (Some (codes "range")) None fields [] verb.Put row.ClearRange (call.ClearRange c)
    verb_is_put h.0.0 tt (plain_utf8 (codes "range") refl) tt (refl, refl)
    (clear_range_row c hs h.0.1 (values_of_field (codes "x-ms-write") fields [] (λ m. refl) refl))
    (clear_range_call c hs h (field_is (codes "x-ms-write") fields [] (λ m. refl) refl) (has_field (codes "x-ms-range") fields [] (λ m. refl) refl)
    (field_is (codes "x-ms-range") fields [] (λ m. refl) refl) (field_is (codes "x-ms-lease-id") fields [] (λ m. refl) refl))

update_range_row : (c : UpdateRange) (hs : List Header) → is_below_root c.at ≡ true → header_values (codes "x-ms-write") hs ≡ codes "update" ∷ []
    → row_for (key_of verb.Put (Inside c.at) range_asks hs) ≡ Ok row.UpdateRange
unfolding row_for row_of fits key_of shape_of restype_of comp_of comp_named is_word is_clear
update_range_row c hs e w = rw (has_parts c.at e, w) refl

-- the interval that an update writes
abbrev written_by : PieceFrom → Interval
written_by u = record { from = u.from; end = u.from + length u.piece }

update_parts : (from count : ℕ) → (nat_lt 0 count && nat_le count PIECE_LIMIT && nat_le (from + count) OFFSET_LIMIT) ≡ true
    → (is_byte_range (record { from = from; end = from + count }) ≡ true) × (from + count - from ≤ PIECE_LIMIT) × ((count == from + count - from) ≡ true)
update_parts from count e =
    let outer = and_parts (nat_lt 0 count && nat_le count PIECE_LIMIT) (nat_le (from + count) OFFSET_LIMIT) e in
    let inner = and_parts (nat_lt 0 count) (nat_le count PIECE_LIMIT) outer.0 in
    let less : nat_lt from (from + count) ≡ true = grind (arith, nat_tests, inner.0) in
    let few : from + count - from ≤ PIECE_LIMIT = grind (arith, nat_tests, inner.1) in
    let same : (count == from + count - from) ≡ true = grind (arith, nat_tests) in
    (rw (less, outer.1) refl, few, same)

update_back : (u : PieceFrom) → is_range_update u ≡ true → update_of (written_by u) None u.piece ≡ Ok u
unfolding update_of piece_of with_digest
update_back u e = let p = update_parts u.from (length u.piece) e in rw p.2 refl

update_range_call : (c : UpdateRange) (hs : List Header) → IsWithinLimits (call.UpdateRange c) → Holds (codes "x-ms-write") hs (Some (codes "update"))
    → has_header (codes "x-ms-range") hs ≡ true → Holds (codes "x-ms-range") hs (Some (interval_text (written_by c.update)))
    → Holds (codes "content-md5") hs None → Holds (codes "x-ms-lease-id") hs (option_map id_text c.lease)
    → call_by_row row.UpdateRange (Inside c.at) range_asks hs c.update.piece ≡ Ok (call.UpdateRange c)
unfolding call_by_row call_inside update_range update_at update_with digest_of is_word
update_range_call c hs h write there range digest lease =
    let p = update_parts c.update.from (length c.update.piece) h.1 in
    rw (
      below_read c.at h.0.1,
      word_read (codes "x-ms-write") (codes "update") hs refl write,
      interval_read PIECE_LIMIT hs (written_by c.update) p.0 p.1 there range,
      digest,
      lease_read hs c.lease h.2 lease,
      update_back c.update h.1,
    ) refl

pub update_range_back : (c : UpdateRange) → IsWithinLimits (call.UpdateRange c) → IsReadAs (call.UpdateRange c) (request_of (spelled.update_range c))
unfolding spelled.update_range
update_range_back c h =
    let fields = (spelled.update_range c).fields in
    let body = c.update.piece in
    let hs = headers_spelled fields body in
    reads_plain (codes "PUT") (Inside c.at) None (Some (codes "range")) None fields body verb.Put row.UpdateRange (call.UpdateRange c)
    verb_is_put h.0.0 tt (plain_utf8 (codes "range") refl) tt (refl, refl)
    (update_range_row c hs h.0.1 (values_of_field (codes "x-ms-write") fields body (λ m. refl) refl))
    (update_range_call c hs h (field_is (codes "x-ms-write") fields body (λ m. refl) refl) (has_field (codes "x-ms-range") fields body (λ m. refl) refl)
    (field_is (codes "x-ms-range") fields body (λ m. refl) refl) (field_is (codes "content-md5") fields body (λ m. refl) refl)
    (field_is (codes "x-ms-lease-id") fields body (λ m. refl) refl))
