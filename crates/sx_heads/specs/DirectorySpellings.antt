-- How the calls on directories and on handles are spelled.
use Rattle.std.specs.Prelude.{ℕ, List, [], ◌∷◌, codes, decimal, Option, Some, None}
use Rattle.std.specs.Option.{option_map}
use Rattle.sx_base.specs.Moment.{moment_text}
use Rattle.sx_call.specs.declared.directory_calls.CreateDirectory.{CreateDirectory}
use Rattle.sx_call.specs.declared.directory_calls.GetDirectoryProperties.{GetDirectoryProperties}
use Rattle.sx_call.specs.declared.directory_calls.GetDirectoryMetadata.{GetDirectoryMetadata}
use Rattle.sx_call.specs.declared.directory_calls.SetDirectoryMetadata.{SetDirectoryMetadata}
use Rattle.sx_call.specs.declared.directory_calls.DeleteDirectory.{DeleteDirectory}
use Rattle.sx_call.specs.declared.directory_calls.ListDirectory.{ListDirectory}
use Rattle.sx_call.specs.declared.directory_calls.ListHandles.{ListHandles}
use Rattle.sx_call.specs.declared.directory_calls.ForceCloseHandles.{ForceCloseHandles}
use Rattle.sx_decode.specs.declared.targets.Place.TheVariants.{Inside}
use Rattle.sx_heads.specs.Fields.{Field, one, metas}
use Rattle.sx_heads.specs.Values.{escaped, attributes_text, handle_text, handle_or_all, bool_text}
use Rattle.sx_heads.specs.Targets.{Query, asks, with_page}
use Rattle.sx_heads.specs.Spellings.{Spelling}
use Rattle.sx_heads.specs.ShareSpellings.{bodiless}

-- what is asked of a directory
abbrev pub of_directory : Option (List ℕ) → Option ℕ → Query
of_directory comp snap = asks (Some (codes "directory")) comp (option_map moment_text snap)

-- what is asked of a file or directory, whichever it is
abbrev pub of_path : Option (List ℕ) → Option ℕ → Query
of_path comp snap = asks None comp (option_map moment_text snap)

-- x-ms-file-creation-time, where it is given
abbrev pub created_field : Option (List ℕ) → Field
created_field time = one (codes "x-ms-file-creation-time") time

-- x-ms-file-last-write-time, where it is given
abbrev pub written_field : Option (List ℕ) → Field
written_field time = one (codes "x-ms-file-last-write-time") time

-- Create Directory
unfoldable pub create_directory : CreateDirectory → Spelling
create_directory c =
    bodiless (codes "PUT") (Inside c.at) (of_directory None None) (
    one (codes "x-ms-file-attributes") (Some (attributes_text c.attributes))
    ∷ created_field (option_map moment_text c.created)
    ∷ written_field (option_map moment_text c.written)
    ∷ metas c.meta
    ∷ [])

-- Get Directory Properties
unfoldable pub get_directory_properties : GetDirectoryProperties → Spelling
get_directory_properties c = bodiless (codes "GET") (Inside c.at) (of_directory None c.snap) []

-- Get Directory Metadata
unfoldable pub get_directory_metadata : GetDirectoryMetadata → Spelling
get_directory_metadata c =
    bodiless (codes "GET") (Inside c.at) (of_directory (Some (codes "metadata")) c.snap) []

-- Set Directory Metadata
unfoldable pub set_directory_metadata : SetDirectoryMetadata → Spelling
set_directory_metadata c =
    bodiless (codes "PUT") (Inside c.at) (of_directory (Some (codes "metadata")) None) (metas c.meta ∷ [])

-- Delete Directory
unfoldable pub delete_directory : DeleteDirectory → Spelling
delete_directory c = bodiless (codes "DELETE") (Inside c.at) (of_directory None None) []

-- List Directories and Files: the marker is percent-encoded, and once more as a value of the query
unfoldable pub list_directory : ListDirectory → Spelling
list_directory c =
    bodiless (codes "GET") (Inside c.at) (with_page (of_directory (Some (codes "list")) c.snap) (Some c.prefix)
    (Some (escaped c.marker)) (decimal c.max) None) []

-- List Handles
unfoldable pub list_handles : ListHandles → Spelling
list_handles c =
    bodiless (codes "GET") (Inside c.at) (with_page (of_path (Some (codes "listhandles")) None) None
    (option_map handle_text c.marker) (decimal c.max) None) (
    one (codes "x-ms-recursive") (Some (bool_text c.recursive)) ∷ [])

-- the handle that is closed, and whether those below are
abbrev pub close_fields : ForceCloseHandles → List Field
close_fields c =
    one (codes "x-ms-handle-id") (Some (handle_or_all c.handle))
    ∷ one (codes "x-ms-recursive") (Some (bool_text c.recursive))
    ∷ []

-- Force Close Handles
unfoldable pub force_close_handles : ForceCloseHandles → Spelling
force_close_handles c =
    bodiless (codes "PUT") (Inside c.at) (of_path (Some (codes "forceclosehandles")) None) (close_fields c)
