-- The calls on directories and on handles are read back.
use Rattle.std.proofs.Common.{◌≡◌, ◌==◌, Bool, true, false, List, [], length, codes, Option, Some, None, Ok, refl, append-nil}
use Rattle.std.specs.Prelude.{IfSome}
use Rattle.std.specs.Option.{option_map}
use Rattle.sx_base.specs.Moment.{moment_text}
use Rattle.sx_http.specs.declared.heads.Header.{Header}
use Rattle.sx_call.specs.CallLimits.{IsWithinLimits}
use Rattle.sx_call.specs.Targets.{is_below_root}
use Rattle.sx_call.specs.declared.calls.Call.TheVariants as call
use Rattle.sx_call.specs.declared.directory_calls.CreateDirectory.{CreateDirectory}
use Rattle.sx_call.specs.declared.directory_calls.GetDirectoryProperties.{GetDirectoryProperties}
use Rattle.sx_call.specs.declared.directory_calls.GetDirectoryMetadata.{GetDirectoryMetadata}
use Rattle.sx_call.specs.declared.directory_calls.SetDirectoryMetadata.{SetDirectoryMetadata}
use Rattle.sx_call.specs.declared.directory_calls.DeleteDirectory.{DeleteDirectory}
use Rattle.sx_call.specs.declared.directory_calls.ListDirectory.{ListDirectory}
use Rattle.sx_call.specs.declared.directory_calls.ListHandles.{ListHandles}
use Rattle.sx_call.specs.declared.directory_calls.ForceCloseHandles.{ForceCloseHandles}
use Rattle.sx_decode.specs.declared.forms.Row.TheVariants as row
use Rattle.sx_decode.specs.declared.forms.Verb.TheVariants as verb
use Rattle.sx_decode.specs.declared.targets.Place.TheVariants.{Inside}
use Rattle.sx_decode.specs.Bodies.{no_body}
use Rattle.sx_decode.specs.Words.{is_word}
use Rattle.sx_decode.specs.Table.{fits, row_of}
use Rattle.sx_decode.specs.Metadata.{meta_of}
use Rattle.sx_decode.specs.Spelling.{shape_of, restype_of, comp_of, comp_named, is_clear, key_of, row_for, call_by_row, call_inside, call_without_body, bodiless_call, inside_call}
use Rattle.sx_decode.specs.ShareRows.{plain_call}
use Rattle.sx_decode.specs.DirectoryRows.{directory_call}
use Rattle.sx_decode.specs.FileRows.{file_call}
use Rattle.sx_decode.specs.DirectoryRows.{create_directory, set_directory_metadata, delete_directory, force_close_handles, list_directory, list_handles}
use Rattle.sx_heads.specs.DirectorySpellings as spelled
use Rattle.sx_heads.specs.Heads.{IsReadAs}
use Rattle.sx_heads.specs.Spellings.{headers_spelled, request_of}
use Rattle.sx_heads.specs.Values.{attributes_text, bool_text, handle_or_all}
use Rattle.sx_heads.proofs.Requests.{field_is, meta_is, reads_as, reads_plain, plain_asked}
use Rattle.sx_heads.proofs.PlainTexts.{plain_utf8}
use Rattle.sx_heads.proofs.FieldReads.{Holds, below_read, new_attributes_read, new_time_read, recursive_read, handle_read}
use Rattle.sx_heads.proofs.RowTables.{verb_is_get, verb_is_put, verb_is_delete, has_parts}
use Rattle.std.specs.Str.{is_utf8}
use Rattle.std.proofs.lemmas.Bool.{and_parts}
use Rattle.sx_guard.specs.Handle.{Handle}
use Rattle.sx_call.specs.FieldLimits.{IsHandleId}
use Rattle.sx_decode.specs.declared.asked.Asked.{Asked}
use Rattle.sx_decode.specs.Asked.{or_empty, query_text}
use Rattle.sx_heads.specs.Values.{escaped, handle_text}
use Rattle.sx_heads.proofs.EncodedTexts.{escaped_utf8}
use Rattle.sx_heads.proofs.PlainTexts.{ascii_utf8, decimal_utf8}
use Rattle.sx_heads.proofs.ReadValues.{page_back, snapshot_back, query_text_back, names_marker_back, handles_marker_back, handle_ascii}
use Rattle.sx_heads.proofs.Requests.{AreTexts, asked_by, moment_if, no_words, empty_text}

create_directory_row : (c : CreateDirectory) (hs : List Header) → is_below_root c.at ≡ true → row_for (key_of verb.Put (Inside c.at) (plain_asked (Some (codes "directory")) None None) hs) ≡ Ok row.CreateDirectory
unfolding row_for row_of fits key_of shape_of restype_of comp_of comp_named is_word is_clear
create_directory_row c hs e = rw (has_parts c.at e) refl

create_directory_call : (c : CreateDirectory) (hs : List Header) → IsWithinLimits (call.CreateDirectory c) → Holds (codes "x-ms-file-attributes") hs (Some (attributes_text c.attributes)) → Holds (codes "x-ms-file-creation-time") hs (option_map moment_text c.created) → Holds (codes "x-ms-file-last-write-time") hs (option_map moment_text c.written) → meta_of hs ≡ Ok c.meta
    → call_by_row row.CreateDirectory (Inside c.at) (plain_asked (Some (codes "directory")) None None) hs [] ≡ Ok (call.CreateDirectory c)
unfolding call_by_row call_inside call_without_body bodiless_call inside_call plain_call directory_call file_call no_body create_directory
create_directory_call c hs h attributes created written meta = rw (below_read c.at h.0.1, new_attributes_read true hs c.attributes h.1 attributes, new_time_read (codes "x-ms-file-creation-time") hs c.created h.2 created, new_time_read (codes "x-ms-file-last-write-time") hs c.written h.3 written, meta) refl

pub create_directory_back : (c : CreateDirectory) → IsWithinLimits (call.CreateDirectory c) → IsReadAs (call.CreateDirectory c) (request_of (spelled.create_directory c))
unfolding spelled.create_directory
create_directory_back c h =
    let fields = (spelled.create_directory c).fields in
    let hs = headers_spelled fields [] in
    reads_plain (codes "PUT") (Inside c.at) (Some (codes "directory")) None None fields [] verb.Put row.CreateDirectory (call.CreateDirectory c)
    verb_is_put h.0.0 (plain_utf8 (codes "directory") refl) tt tt (refl, refl) (create_directory_row c hs h.0.1)
    (create_directory_call c hs h
    (field_is (codes "x-ms-file-attributes") fields [] (λ m. refl) refl)
    (field_is (codes "x-ms-file-creation-time") fields [] (λ m. refl) refl)
    (field_is (codes "x-ms-file-last-write-time") fields [] (λ m. refl) refl)
    (meta_is fields [] c.meta refl (append-nil c.meta) h.4))

get_directory_properties_row : (c : GetDirectoryProperties) (hs : List Header) (root : Bool) → (length c.at.path == 0) ≡ root → row_for (key_of verb.Get (Inside c.at) (plain_asked (Some (codes "directory")) None c.snap) hs) ≡ Ok row.GetDirectoryProperties
unfolding row_for row_of fits key_of shape_of restype_of comp_of comp_named is_word is_clear
get_directory_properties_row c hs true e = rw e refl
get_directory_properties_row c hs false e = rw e refl

get_directory_properties_call : (c : GetDirectoryProperties) (hs : List Header) → IsWithinLimits (call.GetDirectoryProperties c)
    → call_by_row row.GetDirectoryProperties (Inside c.at) (plain_asked (Some (codes "directory")) None c.snap) hs [] ≡ Ok (call.GetDirectoryProperties c)
unfolding call_by_row call_inside call_without_body bodiless_call inside_call plain_call directory_call file_call no_body
get_directory_properties_call c hs h = refl

pub get_directory_properties_back : (c : GetDirectoryProperties) → IsWithinLimits (call.GetDirectoryProperties c) → IsReadAs (call.GetDirectoryProperties c) (request_of (spelled.get_directory_properties c))
unfolding spelled.get_directory_properties
get_directory_properties_back c h =
    let fields = (spelled.get_directory_properties c).fields in
    let hs = headers_spelled fields [] in
    reads_plain (codes "GET") (Inside c.at) (Some (codes "directory")) None c.snap fields [] verb.Get row.GetDirectoryProperties (call.GetDirectoryProperties c)
    verb_is_get h.0 (plain_utf8 (codes "directory") refl) tt h.1 (refl, refl) (get_directory_properties_row c hs (length c.at.path == 0) refl)
    (get_directory_properties_call c hs h)

get_directory_metadata_row : (c : GetDirectoryMetadata) (hs : List Header) (root : Bool) → (length c.at.path == 0) ≡ root → row_for (key_of verb.Get (Inside c.at) (plain_asked (Some (codes "directory")) (Some (codes "metadata")) c.snap) hs) ≡ Ok row.GetDirectoryMetadata
unfolding row_for row_of fits key_of shape_of restype_of comp_of comp_named is_word is_clear
get_directory_metadata_row c hs true e = rw e refl
get_directory_metadata_row c hs false e = rw e refl

get_directory_metadata_call : (c : GetDirectoryMetadata) (hs : List Header) → IsWithinLimits (call.GetDirectoryMetadata c)
    → call_by_row row.GetDirectoryMetadata (Inside c.at) (plain_asked (Some (codes "directory")) (Some (codes "metadata")) c.snap) hs [] ≡ Ok (call.GetDirectoryMetadata c)
unfolding call_by_row call_inside call_without_body bodiless_call inside_call plain_call directory_call file_call no_body
get_directory_metadata_call c hs h = refl

pub get_directory_metadata_back : (c : GetDirectoryMetadata) → IsWithinLimits (call.GetDirectoryMetadata c) → IsReadAs (call.GetDirectoryMetadata c) (request_of (spelled.get_directory_metadata c))
unfolding spelled.get_directory_metadata
get_directory_metadata_back c h =
    let fields = (spelled.get_directory_metadata c).fields in
    let hs = headers_spelled fields [] in
    reads_plain (codes "GET") (Inside c.at) (Some (codes "directory")) (Some (codes "metadata")) c.snap fields [] verb.Get row.GetDirectoryMetadata (call.GetDirectoryMetadata c)
    verb_is_get h.0 (plain_utf8 (codes "directory") refl) (plain_utf8 (codes "metadata") refl) h.1 (refl, refl) (get_directory_metadata_row c hs (length c.at.path == 0) refl)
    (get_directory_metadata_call c hs h)

set_directory_metadata_row : (c : SetDirectoryMetadata) (hs : List Header) (root : Bool) → (length c.at.path == 0) ≡ root → row_for (key_of verb.Put (Inside c.at) (plain_asked (Some (codes "directory")) (Some (codes "metadata")) None) hs) ≡ Ok row.SetDirectoryMetadata
unfolding row_for row_of fits key_of shape_of restype_of comp_of comp_named is_word is_clear
set_directory_metadata_row c hs true e = rw e refl
set_directory_metadata_row c hs false e = rw e refl

set_directory_metadata_call : (c : SetDirectoryMetadata) (hs : List Header) → IsWithinLimits (call.SetDirectoryMetadata c) → meta_of hs ≡ Ok c.meta
    → call_by_row row.SetDirectoryMetadata (Inside c.at) (plain_asked (Some (codes "directory")) (Some (codes "metadata")) None) hs [] ≡ Ok (call.SetDirectoryMetadata c)
unfolding call_by_row call_inside call_without_body bodiless_call inside_call plain_call directory_call file_call no_body set_directory_metadata
set_directory_metadata_call c hs h meta = rw (meta) refl

pub set_directory_metadata_back : (c : SetDirectoryMetadata) → IsWithinLimits (call.SetDirectoryMetadata c) → IsReadAs (call.SetDirectoryMetadata c) (request_of (spelled.set_directory_metadata c))
unfolding spelled.set_directory_metadata
set_directory_metadata_back c h =
    let fields = (spelled.set_directory_metadata c).fields in
    let hs = headers_spelled fields [] in
    reads_plain (codes "PUT") (Inside c.at) (Some (codes "directory")) (Some (codes "metadata")) None fields [] verb.Put row.SetDirectoryMetadata (call.SetDirectoryMetadata c)
    verb_is_put h.0 (plain_utf8 (codes "directory") refl) (plain_utf8 (codes "metadata") refl) tt (refl, refl) (set_directory_metadata_row c hs (length c.at.path == 0) refl)
    (set_directory_metadata_call c hs h
    (meta_is fields [] c.meta refl (append-nil c.meta) h.1))

delete_directory_row : (c : DeleteDirectory) (hs : List Header) → is_below_root c.at ≡ true → row_for (key_of verb.Delete (Inside c.at) (plain_asked (Some (codes "directory")) None None) hs) ≡ Ok row.DeleteDirectory
unfolding row_for row_of fits key_of shape_of restype_of comp_of comp_named is_word is_clear
delete_directory_row c hs e = rw (has_parts c.at e) refl

delete_directory_call : (c : DeleteDirectory) (hs : List Header) → IsWithinLimits (call.DeleteDirectory c)
    → call_by_row row.DeleteDirectory (Inside c.at) (plain_asked (Some (codes "directory")) None None) hs [] ≡ Ok (call.DeleteDirectory c)
unfolding call_by_row call_inside call_without_body bodiless_call inside_call plain_call directory_call file_call no_body delete_directory
delete_directory_call c hs h = rw (below_read c.at h.1) refl

pub delete_directory_back : (c : DeleteDirectory) → IsWithinLimits (call.DeleteDirectory c) → IsReadAs (call.DeleteDirectory c) (request_of (spelled.delete_directory c))
unfolding spelled.delete_directory
delete_directory_back c h =
    let fields = (spelled.delete_directory c).fields in
    let hs = headers_spelled fields [] in
    reads_plain (codes "DELETE") (Inside c.at) (Some (codes "directory")) None None fields [] verb.Delete row.DeleteDirectory (call.DeleteDirectory c)
    verb_is_delete h.0 (plain_utf8 (codes "directory") refl) tt tt (refl, refl) (delete_directory_row c hs h.1)
    (delete_directory_call c hs h)

force_close_handles_row : (c : ForceCloseHandles) (hs : List Header) (root : Bool) → (length c.at.path == 0) ≡ root → row_for (key_of verb.Put (Inside c.at) (plain_asked None (Some (codes "forceclosehandles")) None) hs) ≡ Ok row.ForceCloseHandles
unfolding row_for row_of fits key_of shape_of restype_of comp_of comp_named is_word is_clear
force_close_handles_row c hs true e = rw e refl
force_close_handles_row c hs false e = rw e refl

force_close_handles_call : (c : ForceCloseHandles) (hs : List Header) → IsWithinLimits (call.ForceCloseHandles c) → Holds (codes "x-ms-handle-id") hs (Some (handle_or_all c.handle)) → Holds (codes "x-ms-recursive") hs (Some (bool_text c.recursive))
    → call_by_row row.ForceCloseHandles (Inside c.at) (plain_asked None (Some (codes "forceclosehandles")) None) hs [] ≡ Ok (call.ForceCloseHandles c)
unfolding call_by_row call_inside call_without_body bodiless_call inside_call plain_call directory_call file_call no_body force_close_handles
force_close_handles_call c hs h handle recursive = rw (handle_read hs c.handle h.1 handle, recursive_read hs c.recursive recursive) refl

pub force_close_handles_back : (c : ForceCloseHandles) → IsWithinLimits (call.ForceCloseHandles c) → IsReadAs (call.ForceCloseHandles c) (request_of (spelled.force_close_handles c))
unfolding spelled.force_close_handles
force_close_handles_back c h =
    let fields = (spelled.force_close_handles c).fields in
    let hs = headers_spelled fields [] in
    reads_plain (codes "PUT") (Inside c.at) None (Some (codes "forceclosehandles")) None fields [] verb.Put row.ForceCloseHandles (call.ForceCloseHandles c)
    verb_is_put h.0 tt (plain_utf8 (codes "forceclosehandles") refl) tt (refl, refl) (force_close_handles_row c hs (length c.at.path == 0) refl)
    (force_close_handles_call c hs h
    (field_is (codes "x-ms-handle-id") fields [] (λ m. refl) refl)
    (field_is (codes "x-ms-recursive") fields [] (λ m. refl) refl))

-- what List Directories and Files asks
abbrev names_asked : ListDirectory → Asked
names_asked c = record {
  restype = Some (codes "directory");
  comp = Some (codes "list");
  snapshot = c.snap;
  prefix = c.prefix;
  marker = escaped c.marker;
  max = c.max;
  snapshots = false;
}

list_directory_texts : (c : ListDirectory) → IsWithinLimits (call.ListDirectory c) → AreTexts (spelled.list_directory c).query
unfolding spelled.list_directory
list_directory_texts c h = record {
  restype = plain_utf8 (codes "directory") refl;
  comp = plain_utf8 (codes "list") refl;
  snapshot = moment_if c.snap;
  prefix = (and_parts (is_utf8 c.prefix) _ h.2).0;
  marker = escaped_utf8 c.marker;
  max = decimal_utf8 c.max h.4;
  include = tt;
}

list_directory_asked : (c : ListDirectory) → IsWithinLimits (call.ListDirectory c) → asked_by (spelled.list_directory c).query ≡ Ok (names_asked c)
unfolding spelled.list_directory
list_directory_asked c h = rw (snapshot_back c.snap h.1, query_text_back (codes "prefix") c.prefix h.2, page_back c.max h.4, no_words) refl

list_directory_row : (c : ListDirectory) (hs : List Header) (root : Bool) → (length c.at.path == 0) ≡ root → row_for (key_of verb.Get (Inside c.at) (names_asked c) hs) ≡ Ok row.ListDirectory
unfolding row_for row_of fits key_of shape_of restype_of comp_of comp_named is_word is_clear
list_directory_row c hs true e = rw e refl
list_directory_row c hs false e = rw e refl

list_directory_call : (c : ListDirectory) (hs : List Header) → IsWithinLimits (call.ListDirectory c) → call_by_row row.ListDirectory (Inside c.at) (names_asked c) hs [] ≡ Ok (call.ListDirectory c)
unfolding call_by_row call_inside call_without_body bodiless_call inside_call no_body list_directory
list_directory_call c hs h = rw (names_marker_back c.marker h.3) refl

pub list_directory_back : (c : ListDirectory) → IsWithinLimits (call.ListDirectory c) → IsReadAs (call.ListDirectory c) (request_of (spelled.list_directory c))
unfolding spelled.list_directory
list_directory_back c h =
    let hs = headers_spelled [] [] in
    reads_as (spelled.list_directory c) (names_asked c) verb.Get row.ListDirectory (call.ListDirectory c)
    verb_is_get h.0 (list_directory_texts c h) (list_directory_asked c h) (refl, refl) (list_directory_row c hs (length c.at.path == 0) refl) (list_directory_call c hs h)

-- what List Handles asks
abbrev handles_asked : ListHandles → Asked
handles_asked c = record {
  restype = None;
  comp = Some (codes "listhandles");
  snapshot = None;
  prefix = [];
  marker = or_empty (option_map handle_text c.marker);
  max = c.max;
  snapshots = false;
}

handle_utf8 : (o : Option Handle) → IfSome o IsHandleId → IfSome (option_map handle_text o) (λ v. is_utf8 v ≡ true)
handle_utf8 None h = tt
handle_utf8 (Some k) h = ascii_utf8 (handle_text k) (handle_ascii k h)

list_handles_texts : (c : ListHandles) → IsWithinLimits (call.ListHandles c) → AreTexts (spelled.list_handles c).query
unfolding spelled.list_handles
list_handles_texts c h = record {
  restype = tt;
  comp = plain_utf8 (codes "listhandles") refl;
  snapshot = tt;
  prefix = tt;
  marker = handle_utf8 c.marker h.1;
  max = decimal_utf8 c.max h.2;
  include = tt;
}

list_handles_asked : (c : ListHandles) → IsWithinLimits (call.ListHandles c) → asked_by (spelled.list_handles c).query ≡ Ok (handles_asked c)
unfolding spelled.list_handles query_text
list_handles_asked c h = rw (empty_text, page_back c.max h.2, no_words) refl

list_handles_row : (c : ListHandles) (hs : List Header) (root : Bool) → (length c.at.path == 0) ≡ root → row_for (key_of verb.Get (Inside c.at) (handles_asked c) hs) ≡ Ok row.ListHandles
unfolding row_for row_of fits key_of shape_of restype_of comp_of comp_named is_word is_clear
list_handles_row c hs true e = rw e refl
list_handles_row c hs false e = rw e refl

list_handles_call : (c : ListHandles) (hs : List Header) → IsWithinLimits (call.ListHandles c) → Holds (codes "x-ms-recursive") hs (Some (bool_text c.recursive))
    → call_by_row row.ListHandles (Inside c.at) (handles_asked c) hs [] ≡ Ok (call.ListHandles c)
unfolding call_by_row call_inside call_without_body bodiless_call inside_call no_body list_handles
list_handles_call c hs h recursive = rw (handles_marker_back c.marker h.1, recursive_read hs c.recursive recursive) refl

pub list_handles_back : (c : ListHandles) → IsWithinLimits (call.ListHandles c) → IsReadAs (call.ListHandles c) (request_of (spelled.list_handles c))
unfolding spelled.list_handles
list_handles_back c h =
    let fields = (spelled.list_handles c).fields in
    let hs = headers_spelled fields [] in
    reads_as (spelled.list_handles c) (handles_asked c) verb.Get row.ListHandles (call.ListHandles c)
    verb_is_get h.0 (list_handles_texts c h) (list_handles_asked c h) (refl, refl) (list_handles_row c hs (length c.at.path == 0) refl)
    (list_handles_call c hs h (field_is (codes "x-ms-recursive") fields [] (λ m. refl) refl))
