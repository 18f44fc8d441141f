-- Each call of REST is read back.
use Rattle.std.proofs.Common.{◌≡◌}
use Rattle.sx_call.specs.Calls.{door_of}
use Rattle.sx_call.specs.CallLimits.{IsWithinLimits}
use Rattle.sx_call.specs.declared.calls.Call.{Call}
use Rattle.sx_call.specs.declared.calls.Call.TheVariants as call
use Rattle.sx_call.specs.declared.doors.Door.TheVariants.{Rest}
use Rattle.sx_heads.specs.Digests.{HasReadDigest}
use Rattle.sx_heads.specs.Heads.{spelling_of, head_of, IsReadAs}
use Rattle.sx_heads.proofs.ShareRequests.{list_shares_back, create_share_back, get_share_properties_back, set_share_properties_back}
use Rattle.sx_heads.proofs.ShareRequests.{get_share_metadata_back, set_share_metadata_back, delete_share_back, delete_snapshot_back}
use Rattle.sx_heads.proofs.ShareRequests.{snapshot_share_back, lease_share_back}
use Rattle.sx_heads.proofs.DirectoryRequests.{create_directory_back, get_directory_properties_back, get_directory_metadata_back, set_directory_metadata_back}
use Rattle.sx_heads.proofs.DirectoryRequests.{delete_directory_back, list_directory_back, list_handles_back, force_close_handles_back}
use Rattle.sx_heads.proofs.FileRequests.{create_file_back, get_file_back, get_file_properties_back, set_file_properties_back}
use Rattle.sx_heads.proofs.FileRequests.{get_file_metadata_back, set_file_metadata_back, update_range_back, clear_range_back}
use Rattle.sx_heads.proofs.FileRequests.{list_ranges_back, delete_file_back, lease_file_back}

pub read_back : (c : Call) → door_of c ≡ Rest → IsWithinLimits c → HasReadDigest c → IsReadAs c (head_of c)
unfolding spelling_of
read_back (call.ListShares c) rest h d = list_shares_back c h
read_back (call.CreateShare c) rest h d = create_share_back c h
read_back (call.GetShareProperties c) rest h d = get_share_properties_back c h
read_back (call.SetShareProperties c) rest h d = set_share_properties_back c h
read_back (call.GetShareMetadata c) rest h d = get_share_metadata_back c h
read_back (call.SetShareMetadata c) rest h d = set_share_metadata_back c h
read_back (call.DeleteShare c) rest h d = delete_share_back c h
read_back (call.DeleteSnapshot c) rest h d = delete_snapshot_back c h
read_back (call.SnapshotShare c) rest h d = snapshot_share_back c h
read_back (call.LeaseShare c) rest h d = lease_share_back c h
read_back (call.CreateDirectory c) rest h d = create_directory_back c h
read_back (call.GetDirectoryProperties c) rest h d = get_directory_properties_back c h
read_back (call.GetDirectoryMetadata c) rest h d = get_directory_metadata_back c h
read_back (call.SetDirectoryMetadata c) rest h d = set_directory_metadata_back c h
read_back (call.DeleteDirectory c) rest h d = delete_directory_back c h
read_back (call.ListDirectory c) rest h d = list_directory_back c h
read_back (call.ListHandles c) rest h d = list_handles_back c h
read_back (call.ForceCloseHandles c) rest h d = force_close_handles_back c h
read_back (call.CreateFile c) rest h d = create_file_back c h d
read_back (call.GetFile c) rest h d = get_file_back c h
read_back (call.GetFileProperties c) rest h d = get_file_properties_back c h
read_back (call.SetFileProperties c) rest h d = set_file_properties_back c h d
read_back (call.GetFileMetadata c) rest h d = get_file_metadata_back c h
read_back (call.SetFileMetadata c) rest h d = set_file_metadata_back c h
read_back (call.UpdateRange c) rest h d = update_range_back c h
read_back (call.ClearRange c) rest h d = clear_range_back c h
read_back (call.ListRanges c) rest h d = list_ranges_back c h
read_back (call.DeleteFile c) rest h d = delete_file_back c h
read_back (call.LeaseFile c) rest h d = lease_file_back c h
read_back call.End rest h d = cc
read_back (call.Start c) rest h d = cc
read_back (call.SmbOpen c) rest h d = cc
read_back (call.SmbClose c) rest h d = cc
read_back (call.SmbRead c) rest h d = cc
read_back (call.SmbWrite c) rest h d = cc
read_back (call.SmbResize c) rest h d = cc
read_back (call.SmbLock c) rest h d = cc
read_back (call.SmbUnlock c) rest h d = cc
read_back (call.SmbStat c) rest h d = cc
read_back (call.SmbList c) rest h d = cc
read_back (call.SmbDispose c) rest h d = cc
