-- How each call of REST is spelled, and that its spelling is read as the call.
use Rattle.std.specs.Prelude.{◌≡◌, [], None, Ok}
use Rattle.sx_http.specs.declared.heads.Request.{Request}
use Rattle.sx_call.specs.declared.calls.Call.{Call}
use Rattle.sx_call.specs.declared.calls.Call.TheVariants as call
use Rattle.sx_decode.specs.declared.targets.Place.TheVariants.{Account}
use Rattle.sx_decode.specs.Spelling.{reading}
use Rattle.sx_heads.specs.Targets.{asks}
use Rattle.sx_heads.specs.Spellings.{Spelling, request_of}
use Rattle.sx_heads.specs.ShareSpellings.{list_shares, create_share, get_share_properties, set_share_properties}
use Rattle.sx_heads.specs.ShareSpellings.{get_share_metadata, set_share_metadata, delete_share, delete_snapshot}
use Rattle.sx_heads.specs.ShareSpellings.{snapshot_share, lease_share, bodiless}
use Rattle.sx_heads.specs.DirectorySpellings.{create_directory, get_directory_properties, get_directory_metadata}
use Rattle.sx_heads.specs.DirectorySpellings.{set_directory_metadata, delete_directory, list_directory, list_handles}
use Rattle.sx_heads.specs.DirectorySpellings.{force_close_handles}
use Rattle.sx_heads.specs.FileSpellings.{create_file, get_file, get_file_properties, set_file_properties}
use Rattle.sx_heads.specs.FileSpellings.{get_file_metadata, set_file_metadata, update_range, clear_range, list_ranges}
use Rattle.sx_heads.specs.FileSpellings.{delete_file, lease_file}

-- how a call is spelled; a session's call, which no request spells, has the empty spelling
unfoldable pub spelling_of : Call → Spelling
spelling_of (call.ListShares c) = list_shares c
spelling_of (call.CreateShare c) = create_share c
spelling_of (call.GetShareProperties c) = get_share_properties c
spelling_of (call.SetShareProperties c) = set_share_properties c
spelling_of (call.GetShareMetadata c) = get_share_metadata c
spelling_of (call.SetShareMetadata c) = set_share_metadata c
spelling_of (call.DeleteShare c) = delete_share c
spelling_of (call.DeleteSnapshot c) = delete_snapshot c
spelling_of (call.SnapshotShare c) = snapshot_share c
spelling_of (call.LeaseShare c) = lease_share c
spelling_of (call.CreateDirectory c) = create_directory c
spelling_of (call.GetDirectoryProperties c) = get_directory_properties c
spelling_of (call.GetDirectoryMetadata c) = get_directory_metadata c
spelling_of (call.SetDirectoryMetadata c) = set_directory_metadata c
spelling_of (call.DeleteDirectory c) = delete_directory c
spelling_of (call.ListDirectory c) = list_directory c
spelling_of (call.CreateFile c) = create_file c
spelling_of (call.GetFile c) = get_file c
spelling_of (call.GetFileProperties c) = get_file_properties c
spelling_of (call.SetFileProperties c) = set_file_properties c
spelling_of (call.GetFileMetadata c) = get_file_metadata c
spelling_of (call.SetFileMetadata c) = set_file_metadata c
spelling_of (call.UpdateRange c) = update_range c
spelling_of (call.ClearRange c) = clear_range c
spelling_of (call.ListRanges c) = list_ranges c
spelling_of (call.DeleteFile c) = delete_file c
spelling_of (call.LeaseFile c) = lease_file c
spelling_of (call.ListHandles c) = list_handles c
spelling_of (call.ForceCloseHandles c) = force_close_handles c
spelling_of _ = bodiless [] Account (asks None None None) []

-- the one request that is written for a call
abbrev pub head_of : Call → Request
head_of c = request_of (spelling_of c)

-- a request is read as the call
abbrev pub IsReadAs : Call → Request → Type 0
IsReadAs c r = reading r ≡ Ok c
