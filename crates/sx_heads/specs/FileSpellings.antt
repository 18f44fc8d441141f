-- How the calls on files are spelled.
use Rattle.std.specs.Prelude.{ℕ, List, [], ◌∷◌, codes, decimal, length, ◌+◌, Option, Some, None}
use Rattle.std.specs.Option.{option_map}
use Rattle.sx_base.specs.Moment.{moment_text}
use Rattle.sx_names.specs.declared.content.Content.{Content}
use Rattle.sx_call.specs.declared.file_calls.CreateFile.{CreateFile}
use Rattle.sx_call.specs.declared.file_calls.GetFile.{GetFile}
use Rattle.sx_call.specs.declared.file_calls.GetFileProperties.{GetFileProperties}
use Rattle.sx_call.specs.declared.file_calls.SetFileProperties.{SetFileProperties}
use Rattle.sx_call.specs.declared.file_calls.GetFileMetadata.{GetFileMetadata}
use Rattle.sx_call.specs.declared.file_calls.SetFileMetadata.{SetFileMetadata}
use Rattle.sx_call.specs.declared.file_calls.UpdateRange.{UpdateRange}
use Rattle.sx_call.specs.declared.file_calls.ClearRange.{ClearRange}
use Rattle.sx_call.specs.declared.file_calls.ListRanges.{ListRanges}
use Rattle.sx_call.specs.declared.file_calls.DeleteFile.{DeleteFile}
use Rattle.sx_call.specs.declared.file_calls.LeaseFile.{LeaseFile}
use Rattle.sx_decode.specs.declared.targets.Place.TheVariants.{Inside}
use Rattle.sx_heads.specs.Fields.{Field, one, metas}
use Rattle.sx_heads.specs.Values.{attributes_text, digest_text, bytes_text, interval_text, time_text}
use Rattle.sx_heads.specs.Targets.{Query, asks}
use Rattle.sx_heads.specs.Spellings.{Spelling}
use Rattle.sx_heads.specs.ShareSpellings.{bodiless, lease_field, action_fields}
use Rattle.sx_heads.specs.DirectorySpellings.{created_field, written_field}

-- what is asked of a file
abbrev pub of_file : Option (List ℕ) → Option ℕ → Query
of_file comp snap = asks None comp (option_map moment_text snap)

-- the content headers, in front of other fields
abbrev pub content_fields : Content → List Field → List Field
content_fields content fields =
    one (codes "x-ms-content-type") content.kind
    ∷ one (codes "x-ms-content-encoding") content.encoding
    ∷ one (codes "x-ms-content-language") content.language
    ∷ one (codes "x-ms-cache-control") content.cache_control
    ∷ one (codes "x-ms-content-disposition") content.disposition
    ∷ one (codes "x-ms-content-md5") (option_map digest_text content.md5)
    ∷ fields

-- x-ms-range, where it is given
abbrev pub range_field : Option (List ℕ) → Field
range_field text = one (codes "x-ms-range") text

-- the attributes, times, metadata and lease id of a new file
abbrev pub new_facts : CreateFile → List Field
new_facts c =
    one (codes "x-ms-file-attributes") (Some (attributes_text c.attributes))
    ∷ created_field (option_map moment_text c.created)
    ∷ written_field (option_map moment_text c.written)
    ∷ metas c.meta
    ∷ lease_field c.lease
    ∷ []

-- Create File
unfoldable pub create_file : CreateFile → Spelling
create_file c =
    bodiless (codes "PUT") (Inside c.at) (of_file None None) (
    one (codes "x-ms-type") (Some (codes "file"))
    ∷ one (codes "x-ms-content-length") (Some (decimal c.length))
    ∷ content_fields c.content (new_facts c))

-- Get File
unfoldable pub get_file : GetFile → Spelling
get_file c =
    bodiless (codes "GET") (Inside c.at) (of_file None c.scope.snap) (
    range_field (option_map bytes_text c.span)
    ∷ lease_field c.scope.lease
    ∷ [])

-- Get File Properties
unfoldable pub get_file_properties : GetFileProperties → Spelling
get_file_properties c =
    bodiless (codes "HEAD") (Inside c.at) (of_file None c.scope.snap) (lease_field c.scope.lease ∷ [])

-- the attributes, times and lease id that are set
abbrev pub set_facts : SetFileProperties → List Field
set_facts c =
    one (codes "x-ms-file-attributes") (option_map attributes_text c.attributes)
    ∷ created_field (Some (time_text c.created))
    ∷ written_field (Some (time_text c.written))
    ∷ lease_field c.lease
    ∷ []

-- Set File Properties
unfoldable pub set_file_properties : SetFileProperties → Spelling
set_file_properties c =
    bodiless (codes "PUT") (Inside c.at) (of_file (Some (codes "properties")) None) (
    one (codes "x-ms-content-length") (option_map decimal c.length)
    ∷ content_fields c.content (set_facts c))

-- Get File Metadata
unfoldable pub get_file_metadata : GetFileMetadata → Spelling
get_file_metadata c =
    bodiless (codes "GET") (Inside c.at) (of_file (Some (codes "metadata")) c.scope.snap) (
    lease_field c.scope.lease ∷ [])

-- Set File Metadata
unfoldable pub set_file_metadata : SetFileMetadata → Spelling
set_file_metadata c =
    bodiless (codes "PUT") (Inside c.at) (of_file (Some (codes "metadata")) None) (
    metas c.meta
    ∷ lease_field c.lease
    ∷ [])

-- Put Range with `update`
unfoldable pub update_range : UpdateRange → Spelling
update_range c = record {
  method = codes "PUT";
  at = Inside c.at;
  query = of_file (Some (codes "range")) None;
  fields = one (codes "x-ms-write") (Some (codes "update"))
      ∷ range_field (Some (interval_text (record {
        from = c.update.from;
        end = c.update.from + length c.update.piece;
      })))
      ∷ lease_field c.lease
      ∷ [];
  body = c.update.piece;
}

-- Put Range with `clear`
unfoldable pub clear_range : ClearRange → Spelling
clear_range c =
    bodiless (codes "PUT") (Inside c.at) (of_file (Some (codes "range")) None) (
    one (codes "x-ms-write") (Some (codes "clear"))
    ∷ range_field (Some (interval_text c.range))
    ∷ lease_field c.lease
    ∷ [])

-- List Ranges
unfoldable pub list_ranges : ListRanges → Spelling
list_ranges c =
    bodiless (codes "GET") (Inside c.at) (of_file (Some (codes "rangelist")) c.scope.snap) (
    range_field (option_map bytes_text c.span)
    ∷ lease_field c.scope.lease
    ∷ [])

-- Delete File
unfoldable pub delete_file : DeleteFile → Spelling
delete_file c = bodiless (codes "DELETE") (Inside c.at) (of_file None None) (lease_field c.lease ∷ [])

-- Lease File
unfoldable pub lease_file : LeaseFile → Spelling
lease_file c =
    bodiless (codes "PUT") (Inside c.at) (of_file (Some (codes "lease")) None) (action_fields c.action)
