-- The calls on directories and on handles: what each reads, in order.
use Rattle.std.specs.Prelude.{ℕ, true, List, codes, Option, Ok}
use Rattle.sx_http.specs.declared.heads.Header.{Header}
use Rattle.sx_call.specs.declared.calls.Call.{Call}
use Rattle.sx_call.specs.declared.calls.Call.TheVariants as call
use Rattle.sx_call.specs.declared.targets.Target.{Target}
use Rattle.sx_decode.specs.declared.asked.Asked.{Asked}
use Rattle.sx_decode.specs.declared.forms.Row.{Row}
use Rattle.sx_decode.specs.declared.forms.Row.TheVariants as row
use Rattle.sx_decode.specs.Reading.{Reading, with_next}
use Rattle.sx_decode.specs.Targets.{below_root}
use Rattle.sx_decode.specs.Facts.{new_attributes, new_time}
use Rattle.sx_decode.specs.Handles.{handle_of, recursive_of}
use Rattle.sx_decode.specs.Metadata.{meta_of}
use Rattle.sx_decode.specs.Markers.{names_marker, handles_marker}
use Rattle.sx_decode.specs.FileRows.{file_call}

-- Create Directory
unfoldable pub create_directory : Target → List Header → Reading Call
create_directory target headers =
    with_next (below_root target) (λ at.
    with_next (new_attributes true headers) (λ attributes.
    with_next (new_time (codes "x-ms-file-creation-time") headers) (λ created.
    with_next (new_time (codes "x-ms-file-last-write-time") headers) (λ written.
    with_next (meta_of headers) (λ meta.
    Ok (call.CreateDirectory (record {
      at = at;
      attributes = attributes;
      created = created;
      written = written;
      meta = meta;
    })))))))

-- Set Directory Metadata
unfoldable pub set_directory_metadata : Target → List Header → Reading Call
set_directory_metadata at headers =
    with_next (meta_of headers) (λ meta.
    Ok (call.SetDirectoryMetadata (record { at = at; meta = meta })))

-- Delete Directory
unfoldable pub delete_directory : Target → Reading Call
delete_directory target = with_next (below_root target) (λ at. Ok (call.DeleteDirectory (record { at = at })))

-- Force Close Handles
unfoldable pub force_close_handles : Target → List Header → Reading Call
force_close_handles at headers =
    with_next (handle_of headers) (λ handle.
    with_next (recursive_of headers) (λ recursive.
    Ok (call.ForceCloseHandles (record { at = at; handle = handle; recursive = recursive }))))

-- List Directories and Files
unfoldable pub list_directory : Target → Asked → Reading Call
list_directory at a =
    with_next (names_marker a.marker) (λ marker.
    Ok (call.ListDirectory (record {
      at = at;
      snap = a.snapshot;
      prefix = a.prefix;
      marker = marker;
      max = a.max;
    })))

-- List Handles
unfoldable pub list_handles : Target → Asked → List Header → Reading Call
list_handles at a headers =
    with_next (handles_marker a.marker) (λ marker.
    with_next (recursive_of headers) (λ recursive.
    Ok (call.ListHandles (record { at = at; marker = marker; max = a.max; recursive = recursive }))))

-- the call that a row names, on a directory or a file
unfoldable pub directory_call : Row → Target → Option ℕ → List Header → Reading Call
directory_call row.CreateDirectory at snap headers = create_directory at headers
directory_call row.GetDirectoryProperties at snap headers =
    Ok (call.GetDirectoryProperties (record { at = at; snap = snap }))
directory_call row.GetDirectoryMetadata at snap headers =
    Ok (call.GetDirectoryMetadata (record { at = at; snap = snap }))
directory_call row.SetDirectoryMetadata at snap headers = set_directory_metadata at headers
directory_call row.DeleteDirectory at snap headers = delete_directory at
directory_call row.ForceCloseHandles at snap headers = force_close_handles at headers
directory_call other at snap headers = file_call other at snap headers
