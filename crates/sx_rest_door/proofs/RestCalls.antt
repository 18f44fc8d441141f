-- A request spells a REST call.
use Rattle.std.proofs.Common.{ℕ, ◌≡◌, true, false, List, codes, refl, subst, Option, Some, None, Result, Ok, Err}
use Rattle.std.specs.List.{before_first, after_first}
use Rattle.sx_extent.specs.Ranges.{Interval}
use Rattle.sx_extent.specs.declared.piece.TheConstants.{PIECE_LIMIT}
use Rattle.sx_http.specs.declared.heads.Header.{Header}
use Rattle.sx_http.specs.declared.heads.Request.{Request}
use Rattle.sx_call.specs.Calls.{door_of}
use Rattle.sx_call.specs.declared.calls.Call.{Call}
use Rattle.sx_call.specs.declared.doors.Door.TheVariants.{Rest}
use Rattle.sx_call.specs.declared.ranges.TheConstants.{OFFSET_LIMIT}
use Rattle.sx_call.specs.declared.targets.Target.{Target}
use Rattle.sx_decode.specs.declared.asked.Asked.{Asked}
use Rattle.sx_decode.specs.declared.forms.Row.{Row}
use Rattle.sx_decode.specs.declared.forms.Row.TheVariants as row
use Rattle.sx_decode.specs.declared.targets.Place.{Place}
use Rattle.sx_decode.specs.declared.targets.Place.TheVariants.{Account, Inside}
use Rattle.sx_decode.specs.Reading.{Reading, with_next}
use Rattle.sx_decode.specs.Spelling.{reading, account_call, inside_call, bodiless_call, call_without_body, call_inside}
use Rattle.sx_decode.specs.Spelling.{call_by_row}
use Rattle.sx_decode.specs.ShareRows.{list_shares, create_share, get_share_properties, set_share_properties}
use Rattle.sx_decode.specs.ShareRows.{get_share_metadata, set_share_metadata, delete_share, delete_snapshot}
use Rattle.sx_decode.specs.ShareRows.{snapshot_share, lease_share, plain_call}
use Rattle.sx_decode.specs.DirectoryRows.{create_directory, set_directory_metadata, delete_directory}
use Rattle.sx_decode.specs.DirectoryRows.{force_close_handles, list_directory, list_handles, directory_call}
use Rattle.sx_decode.specs.FileRows.{new_file, create_file, get_file, get_file_properties, set_properties}
use Rattle.sx_decode.specs.FileRows.{set_file_properties, get_file_metadata, set_file_metadata, update_with, update_at}
use Rattle.sx_decode.specs.FileRows.{update_range, clear_range, list_ranges, delete_file, lease_file, file_call}
use Rattle.sx_decode.specs.Asked.{asked_of}
use Rattle.sx_decode.specs.Bodies.{no_body, update_of}
use Rattle.sx_decode.specs.Contents.{content_of, digest_of}
use Rattle.sx_decode.specs.Facts.{new_attributes, new_time}
use Rattle.sx_decode.specs.FileRows.{needed_word, new_facts, new_length, set_facts, set_length}
use Rattle.sx_decode.specs.Handles.{handle_of, recursive_of}
use Rattle.sx_decode.specs.Leases.{lease_action, lease_of, scope_of}
use Rattle.sx_decode.specs.Markers.{handles_marker, names_marker, shares_marker}
use Rattle.sx_decode.specs.Metadata.{meta_of}
use Rattle.sx_decode.specs.Parameters.{is_question, parameters}
use Rattle.sx_decode.specs.Ranges.{interval_of, span_of}
use Rattle.sx_decode.specs.ShareRows.{include_of, new_quota, set_quota}
use Rattle.sx_decode.specs.Spelling.{key_of, row_for, verb_of, version_of}
use Rattle.sx_decode.specs.Targets.{below_root, place_of}

-- what is read, if a call is, is a REST call
abbrev pub IsRest : Reading Call → Type 0
IsRest (Ok call) = door_of call ≡ Rest
IsRest (Err refusal) = Unit {0}

behind : {A : Type 0} (r : Reading A) (f : A → Reading Call) → ((a : A) → IsRest (f a)) → IsRest (with_next r f)
behind (Ok a) f h = h a
behind (Err refusal) f h = tt

list_shares_rests : (a : Asked) → IsRest (list_shares a)
unfolding list_shares
list_shares_rests a = behind (shares_marker a.marker) _ (λ marker. refl)

create_share_rests : (share : List ℕ) (headers : List Header) → IsRest (create_share share headers)
unfolding create_share
create_share_rests share headers = behind (new_quota headers) _ (λ quota. behind (meta_of headers) _ (λ meta. refl))

get_share_properties_rests : (share : List ℕ) (snap : Option ℕ) (headers : List Header) → IsRest (get_share_properties share snap headers)
unfolding get_share_properties
get_share_properties_rests share snap headers = behind (scope_of snap headers) _ (λ scope. refl)

set_share_properties_rests : (share : List ℕ) (headers : List Header) → IsRest (set_share_properties share headers)
unfolding set_share_properties
set_share_properties_rests share headers = behind (set_quota headers) _ (λ quota. behind (lease_of headers) _ (λ lease. refl))

get_share_metadata_rests : (share : List ℕ) (snap : Option ℕ) (headers : List Header) → IsRest (get_share_metadata share snap headers)
unfolding get_share_metadata
get_share_metadata_rests share snap headers = behind (scope_of snap headers) _ (λ scope. refl)

set_share_metadata_rests : (share : List ℕ) (headers : List Header) → IsRest (set_share_metadata share headers)
unfolding set_share_metadata
set_share_metadata_rests share headers = behind (meta_of headers) _ (λ meta. behind (lease_of headers) _ (λ lease. refl))

delete_share_rests : (share : List ℕ) (headers : List Header) → IsRest (delete_share share headers)
unfolding delete_share
delete_share_rests share headers = behind (include_of headers) _ (λ include. behind (lease_of headers) _ (λ lease. refl))

snapshot_share_rests : (share : List ℕ) (headers : List Header) → IsRest (snapshot_share share headers)
unfolding snapshot_share
snapshot_share_rests share headers = behind (meta_of headers) _ (λ meta. refl)

lease_share_rests : (share : List ℕ) (headers : List Header) → IsRest (lease_share share headers)
unfolding lease_share
lease_share_rests share headers = behind (lease_action headers) _ (λ action. refl)

create_directory_rests : (target : Target) (headers : List Header) → IsRest (create_directory target headers)
unfolding create_directory
create_directory_rests target headers = behind (below_root target) _ (λ at. behind (new_attributes true headers) _ (λ attributes. behind (new_time (codes "x-ms-file-creation-time") headers) _ (λ created. behind (new_time (codes "x-ms-file-last-write-time") headers) _ (λ written. behind (meta_of headers) _ (λ meta. refl)))))

set_directory_metadata_rests : (at : Target) (headers : List Header) → IsRest (set_directory_metadata at headers)
unfolding set_directory_metadata
set_directory_metadata_rests at headers = behind (meta_of headers) _ (λ meta. refl)

delete_directory_rests : (target : Target) → IsRest (delete_directory target)
unfolding delete_directory
delete_directory_rests target = behind (below_root target) _ (λ at. refl)

force_close_handles_rests : (at : Target) (headers : List Header) → IsRest (force_close_handles at headers)
unfolding force_close_handles
force_close_handles_rests at headers = behind (handle_of headers) _ (λ handle. behind (recursive_of headers) _ (λ recursive. refl))

list_directory_rests : (at : Target) (a : Asked) → IsRest (list_directory at a)
unfolding list_directory
list_directory_rests at a = behind (names_marker a.marker) _ (λ marker. refl)

list_handles_rests : (at : Target) (a : Asked) (headers : List Header) → IsRest (list_handles at a headers)
unfolding list_handles
list_handles_rests at a headers = behind (handles_marker a.marker) _ (λ marker. behind (recursive_of headers) _ (λ recursive. refl))

new_file_rests : (at : Target) (length : ℕ) (headers : List Header) → IsRest (new_file at length headers)
unfolding new_file
new_file_rests at length headers = behind (content_of headers) _ (λ content. behind (new_facts headers) _ (λ facts. refl))

get_file_rests : (target : Target) (snap : Option ℕ) (headers : List Header) → IsRest (get_file target snap headers)
unfolding get_file
get_file_rests target snap headers = behind (below_root target) _ (λ at. behind (span_of headers) _ (λ span. behind (scope_of snap headers) _ (λ scope. refl)))

get_file_properties_rests : (target : Target) (snap : Option ℕ) (headers : List Header) → IsRest (get_file_properties target snap headers)
unfolding get_file_properties
get_file_properties_rests target snap headers = behind (below_root target) _ (λ at. behind (scope_of snap headers) _ (λ scope. refl))

set_properties_rests : (at : Target) (length : Option ℕ) (headers : List Header) → IsRest (set_properties at length headers)
unfolding set_properties
set_properties_rests at length headers = behind (content_of headers) _ (λ content. behind (set_facts headers) _ (λ facts. refl))

get_file_metadata_rests : (target : Target) (snap : Option ℕ) (headers : List Header) → IsRest (get_file_metadata target snap headers)
unfolding get_file_metadata
get_file_metadata_rests target snap headers = behind (below_root target) _ (λ at. behind (scope_of snap headers) _ (λ scope. refl))

set_file_metadata_rests : (target : Target) (headers : List Header) → IsRest (set_file_metadata target headers)
unfolding set_file_metadata
set_file_metadata_rests target headers = behind (below_root target) _ (λ at. behind (meta_of headers) _ (λ meta. behind (lease_of headers) _ (λ lease. refl)))

update_with_rests : (at : Target) (interval : Interval) (digest : Option (List ℕ)) (headers : List Header) (body : List ℕ) → IsRest (update_with at interval digest headers body)
unfolding update_with
update_with_rests at interval digest headers body = behind (lease_of headers) _ (λ lease. behind (update_of interval digest body) _ (λ update. refl))

clear_range_rests : (target : Target) (headers : List Header) → IsRest (clear_range target headers)
unfolding clear_range
clear_range_rests target headers = behind (below_root target) _ (λ at. behind (needed_word (codes "x-ms-write") (codes "clear") headers) _ (λ _. behind (interval_of OFFSET_LIMIT headers) _ (λ range. behind (lease_of headers) _ (λ lease. refl))))

list_ranges_rests : (target : Target) (snap : Option ℕ) (headers : List Header) → IsRest (list_ranges target snap headers)
unfolding list_ranges
list_ranges_rests target snap headers = behind (below_root target) _ (λ at. behind (span_of headers) _ (λ span. behind (scope_of snap headers) _ (λ scope. refl)))

delete_file_rests : (target : Target) (headers : List Header) → IsRest (delete_file target headers)
unfolding delete_file
delete_file_rests target headers = behind (below_root target) _ (λ at. behind (lease_of headers) _ (λ lease. refl))

lease_file_rests : (target : Target) (headers : List Header) → IsRest (lease_file target headers)
unfolding lease_file
lease_file_rests target headers = behind (below_root target) _ (λ at. behind (lease_action headers) _ (λ action. refl))

delete_snapshot_rests : (share : List ℕ) (snap : Option ℕ) → IsRest (delete_snapshot share snap)
unfolding delete_snapshot
delete_snapshot_rests share None = tt
delete_snapshot_rests share (Some moment) = refl

create_file_rests : (at : Target) (headers : List Header) → IsRest (create_file at headers)
unfolding create_file
create_file_rests target headers = behind (below_root target) _ (λ at. behind (needed_word (codes "x-ms-type") (codes "file") headers) _ (λ _. behind (new_length headers) _ (λ length. new_file_rests at length headers)))

set_file_properties_rests : (at : Target) (headers : List Header) → IsRest (set_file_properties at headers)
unfolding set_file_properties
set_file_properties_rests target headers = behind (below_root target) _ (λ at. behind (set_length headers) _ (λ length. set_properties_rests at length headers))

update_at_rests : (at : Target) (headers : List Header) (body : List ℕ) → IsRest (update_at at headers body)
unfolding update_at
update_at_rests at headers body = behind (interval_of PIECE_LIMIT headers) _ (λ interval. behind (digest_of (codes "content-md5") headers) _ (λ digest. update_with_rests at interval digest headers body))

update_range_rests : (at : Target) (headers : List Header) (body : List ℕ) → IsRest (update_range at headers body)
unfolding update_range
update_range_rests target headers body = behind (below_root target) _ (λ at. behind (needed_word (codes "x-ms-write") (codes "update") headers) _ (λ _. update_at_rests at headers body))

plain_rests : (named : Row) (at : Target) (snap : Option ℕ) (headers : List Header) → IsRest (plain_call named at snap headers)
unfolding plain_call directory_call file_call
plain_rests row.ListShares at snap headers = tt
plain_rests row.CreateShare at snap headers = create_share_rests at.share headers
plain_rests row.GetShareProperties at snap headers = get_share_properties_rests at.share snap headers
plain_rests row.SetShareProperties at snap headers = set_share_properties_rests at.share headers
plain_rests row.GetShareMetadata at snap headers = get_share_metadata_rests at.share snap headers
plain_rests row.SetShareMetadata at snap headers = set_share_metadata_rests at.share headers
plain_rests row.DeleteShare at snap headers = delete_share_rests at.share headers
plain_rests row.DeleteSnapshot at snap headers = delete_snapshot_rests at.share snap
plain_rests row.SnapshotShare at snap headers = snapshot_share_rests at.share headers
plain_rests row.LeaseShare at snap headers = lease_share_rests at.share headers
plain_rests row.CreateDirectory at snap headers = create_directory_rests at headers
plain_rests row.GetDirectoryProperties at snap headers = refl
plain_rests row.GetDirectoryMetadata at snap headers = refl
plain_rests row.SetDirectoryMetadata at snap headers = set_directory_metadata_rests at headers
plain_rests row.DeleteDirectory at snap headers = delete_directory_rests at
plain_rests row.ListDirectory at snap headers = tt
plain_rests row.CreateFile at snap headers = create_file_rests at headers
plain_rests row.GetFile at snap headers = get_file_rests at snap headers
plain_rests row.GetFileProperties at snap headers = get_file_properties_rests at snap headers
plain_rests row.SetFileProperties at snap headers = set_file_properties_rests at headers
plain_rests row.GetFileMetadata at snap headers = get_file_metadata_rests at snap headers
plain_rests row.SetFileMetadata at snap headers = set_file_metadata_rests at headers
plain_rests row.UpdateRange at snap headers = tt
plain_rests row.ClearRange at snap headers = clear_range_rests at headers
plain_rests row.ListRanges at snap headers = list_ranges_rests at snap headers
plain_rests row.DeleteFile at snap headers = delete_file_rests at headers
plain_rests row.LeaseFile at snap headers = lease_file_rests at headers
plain_rests row.ListHandles at snap headers = tt
plain_rests row.ForceCloseHandles at snap headers = force_close_handles_rests at headers

inside_rests : (named : Row) (at : Target) (a : Asked) (headers : List Header) → IsRest (inside_call named at a headers)
unfolding inside_call
inside_rests row.ListShares at a headers = plain_rests row.ListShares at a.snapshot headers
inside_rests row.CreateShare at a headers = plain_rests row.CreateShare at a.snapshot headers
inside_rests row.GetShareProperties at a headers = plain_rests row.GetShareProperties at a.snapshot headers
inside_rests row.SetShareProperties at a headers = plain_rests row.SetShareProperties at a.snapshot headers
inside_rests row.GetShareMetadata at a headers = plain_rests row.GetShareMetadata at a.snapshot headers
inside_rests row.SetShareMetadata at a headers = plain_rests row.SetShareMetadata at a.snapshot headers
inside_rests row.DeleteShare at a headers = plain_rests row.DeleteShare at a.snapshot headers
inside_rests row.DeleteSnapshot at a headers = plain_rests row.DeleteSnapshot at a.snapshot headers
inside_rests row.SnapshotShare at a headers = plain_rests row.SnapshotShare at a.snapshot headers
inside_rests row.LeaseShare at a headers = plain_rests row.LeaseShare at a.snapshot headers
inside_rests row.CreateDirectory at a headers = plain_rests row.CreateDirectory at a.snapshot headers
inside_rests row.GetDirectoryProperties at a headers = plain_rests row.GetDirectoryProperties at a.snapshot headers
inside_rests row.GetDirectoryMetadata at a headers = plain_rests row.GetDirectoryMetadata at a.snapshot headers
inside_rests row.SetDirectoryMetadata at a headers = plain_rests row.SetDirectoryMetadata at a.snapshot headers
inside_rests row.DeleteDirectory at a headers = plain_rests row.DeleteDirectory at a.snapshot headers
inside_rests row.ListDirectory at a headers = list_directory_rests at a
inside_rests row.CreateFile at a headers = plain_rests row.CreateFile at a.snapshot headers
inside_rests row.GetFile at a headers = plain_rests row.GetFile at a.snapshot headers
inside_rests row.GetFileProperties at a headers = plain_rests row.GetFileProperties at a.snapshot headers
inside_rests row.SetFileProperties at a headers = plain_rests row.SetFileProperties at a.snapshot headers
inside_rests row.GetFileMetadata at a headers = plain_rests row.GetFileMetadata at a.snapshot headers
inside_rests row.SetFileMetadata at a headers = plain_rests row.SetFileMetadata at a.snapshot headers
inside_rests row.UpdateRange at a headers = plain_rests row.UpdateRange at a.snapshot headers
inside_rests row.ClearRange at a headers = plain_rests row.ClearRange at a.snapshot headers
inside_rests row.ListRanges at a headers = plain_rests row.ListRanges at a.snapshot headers
inside_rests row.DeleteFile at a headers = plain_rests row.DeleteFile at a.snapshot headers
inside_rests row.LeaseFile at a headers = plain_rests row.LeaseFile at a.snapshot headers
inside_rests row.ListHandles at a headers = list_handles_rests at a headers
inside_rests row.ForceCloseHandles at a headers = plain_rests row.ForceCloseHandles at a.snapshot headers

account_rests : (named : Row) (a : Asked) → IsRest (account_call named a)
unfolding account_call
account_rests row.ListShares a = list_shares_rests a
account_rests row.CreateShare a = tt
account_rests row.GetShareProperties a = tt
account_rests row.SetShareProperties a = tt
account_rests row.GetShareMetadata a = tt
account_rests row.SetShareMetadata a = tt
account_rests row.DeleteShare a = tt
account_rests row.DeleteSnapshot a = tt
account_rests row.SnapshotShare a = tt
account_rests row.LeaseShare a = tt
account_rests row.CreateDirectory a = tt
account_rests row.GetDirectoryProperties a = tt
account_rests row.GetDirectoryMetadata a = tt
account_rests row.SetDirectoryMetadata a = tt
account_rests row.DeleteDirectory a = tt
account_rests row.ListDirectory a = tt
account_rests row.CreateFile a = tt
account_rests row.GetFile a = tt
account_rests row.GetFileProperties a = tt
account_rests row.SetFileProperties a = tt
account_rests row.GetFileMetadata a = tt
account_rests row.SetFileMetadata a = tt
account_rests row.UpdateRange a = tt
account_rests row.ClearRange a = tt
account_rests row.ListRanges a = tt
account_rests row.DeleteFile a = tt
account_rests row.LeaseFile a = tt
account_rests row.ListHandles a = tt
account_rests row.ForceCloseHandles a = tt

bodiless_rests : (named : Row) (place : Place) (a : Asked) (headers : List Header) → IsRest (bodiless_call named place a headers)
unfolding bodiless_call
bodiless_rests named Account a headers = account_rests named a
bodiless_rests named (Inside at) a headers = inside_rests named at a headers

-- what follows a call that was read
kept : {A : Type 0} (call : Reading Call) (r : Reading A) → IsRest call → IsRest (with_next call (λ c. with_next r (λ _. Ok c)))
kept (Ok call) (Ok a) h = h
kept (Ok call) (Err refusal) h = tt
kept (Err refusal) r h = tt

without_body_rests : (named : Row) (place : Place) (a : Asked) (headers : List Header) (body : List ℕ) → IsRest (call_without_body named place a headers body)
unfolding call_without_body
without_body_rests named place a headers body = kept (bodiless_call named place a headers) (no_body body) (bodiless_rests named place a headers)

call_inside_rests : (named : Row) (at : Target) (a : Asked) (headers : List Header) (body : List ℕ) → IsRest (call_inside named at a headers body)
unfolding call_inside
call_inside_rests row.ListShares at a headers body = without_body_rests row.ListShares (Inside at) a headers body
call_inside_rests row.CreateShare at a headers body = without_body_rests row.CreateShare (Inside at) a headers body
call_inside_rests row.GetShareProperties at a headers body = without_body_rests row.GetShareProperties (Inside at) a headers body
call_inside_rests row.SetShareProperties at a headers body = without_body_rests row.SetShareProperties (Inside at) a headers body
call_inside_rests row.GetShareMetadata at a headers body = without_body_rests row.GetShareMetadata (Inside at) a headers body
call_inside_rests row.SetShareMetadata at a headers body = without_body_rests row.SetShareMetadata (Inside at) a headers body
call_inside_rests row.DeleteShare at a headers body = without_body_rests row.DeleteShare (Inside at) a headers body
call_inside_rests row.DeleteSnapshot at a headers body = without_body_rests row.DeleteSnapshot (Inside at) a headers body
call_inside_rests row.SnapshotShare at a headers body = without_body_rests row.SnapshotShare (Inside at) a headers body
call_inside_rests row.LeaseShare at a headers body = without_body_rests row.LeaseShare (Inside at) a headers body
call_inside_rests row.CreateDirectory at a headers body = without_body_rests row.CreateDirectory (Inside at) a headers body
call_inside_rests row.GetDirectoryProperties at a headers body = without_body_rests row.GetDirectoryProperties (Inside at) a headers body
call_inside_rests row.GetDirectoryMetadata at a headers body = without_body_rests row.GetDirectoryMetadata (Inside at) a headers body
call_inside_rests row.SetDirectoryMetadata at a headers body = without_body_rests row.SetDirectoryMetadata (Inside at) a headers body
call_inside_rests row.DeleteDirectory at a headers body = without_body_rests row.DeleteDirectory (Inside at) a headers body
call_inside_rests row.ListDirectory at a headers body = without_body_rests row.ListDirectory (Inside at) a headers body
call_inside_rests row.CreateFile at a headers body = without_body_rests row.CreateFile (Inside at) a headers body
call_inside_rests row.GetFile at a headers body = without_body_rests row.GetFile (Inside at) a headers body
call_inside_rests row.GetFileProperties at a headers body = without_body_rests row.GetFileProperties (Inside at) a headers body
call_inside_rests row.SetFileProperties at a headers body = without_body_rests row.SetFileProperties (Inside at) a headers body
call_inside_rests row.GetFileMetadata at a headers body = without_body_rests row.GetFileMetadata (Inside at) a headers body
call_inside_rests row.SetFileMetadata at a headers body = without_body_rests row.SetFileMetadata (Inside at) a headers body
call_inside_rests row.UpdateRange at a headers body = update_range_rests at headers body
call_inside_rests row.ClearRange at a headers body = without_body_rests row.ClearRange (Inside at) a headers body
call_inside_rests row.ListRanges at a headers body = without_body_rests row.ListRanges (Inside at) a headers body
call_inside_rests row.DeleteFile at a headers body = without_body_rests row.DeleteFile (Inside at) a headers body
call_inside_rests row.LeaseFile at a headers body = without_body_rests row.LeaseFile (Inside at) a headers body
call_inside_rests row.ListHandles at a headers body = without_body_rests row.ListHandles (Inside at) a headers body
call_inside_rests row.ForceCloseHandles at a headers body = without_body_rests row.ForceCloseHandles (Inside at) a headers body

by_row_rests : (named : Row) (place : Place) (a : Asked) (headers : List Header) (body : List ℕ) → IsRest (call_by_row named place a headers body)
unfolding call_by_row
by_row_rests named Account a headers body = without_body_rests named Account a headers body
by_row_rests named (Inside at) a headers body = call_inside_rests named at a headers body

reading_rests : (r : Request) → IsRest (reading r)
unfolding reading
reading_rests r = behind (verb_of r.head.method) _ (λ verb. behind (version_of r.head.headers) _ (λ _. behind (place_of (before_first is_question r.head.target)) _ (λ place. behind (asked_of (parameters (after_first is_question r.head.target))) _ (λ a. behind (row_for (key_of verb place a r.head.headers)) _ (λ named. by_row_rests named place a r.head.headers r.body)))))

-- the call that a request spells is a REST call
pub spells_rest_call : (r : Request) (call : Call) → reading r ≡ Ok call → door_of call ≡ Rest
spells_rest_call r call e = subst IsRest e (reading_rests r)
