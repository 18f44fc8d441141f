-- Where a call comes from, and what it names.
use Rattle.std.specs.Prelude.{ℕ, List, Option, Some, None, option_map}
use Rattle.sx_call.specs.declared.targets.Target.{Target}
use Rattle.sx_call.specs.declared.doors.Door.{Door}
use Rattle.sx_call.specs.declared.doors.Door.TheVariants.{Rest, Starts, Ends, InSession}
use Rattle.sx_call.specs.declared.calls.Call.{Call}
use Rattle.sx_call.specs.declared.calls.Call.TheVariants.{CreateShare, GetShareProperties, SetShareProperties}
use Rattle.sx_call.specs.declared.calls.Call.TheVariants.{GetShareMetadata, SetShareMetadata, DeleteShare}
use Rattle.sx_call.specs.declared.calls.Call.TheVariants.{DeleteSnapshot, SnapshotShare, LeaseShare}
use Rattle.sx_call.specs.declared.calls.Call.TheVariants.{CreateDirectory, GetDirectoryProperties}
use Rattle.sx_call.specs.declared.calls.Call.TheVariants.{GetDirectoryMetadata, SetDirectoryMetadata, DeleteDirectory}
use Rattle.sx_call.specs.declared.calls.Call.TheVariants.{ListDirectory, ListHandles, ForceCloseHandles}
use Rattle.sx_call.specs.declared.calls.Call.TheVariants.{CreateFile, GetFile, GetFileProperties, SetFileProperties}
use Rattle.sx_call.specs.declared.calls.Call.TheVariants.{GetFileMetadata, SetFileMetadata, UpdateRange, ClearRange}
use Rattle.sx_call.specs.declared.calls.Call.TheVariants.{ListRanges, DeleteFile, LeaseFile}
use Rattle.sx_call.specs.declared.calls.Call.TheVariants.{Start, End, SmbOpen, SmbClose, SmbRead, SmbWrite, SmbResize}
use Rattle.sx_call.specs.declared.calls.Call.TheVariants.{SmbLock, SmbUnlock, SmbStat, SmbList, SmbDispose}

-- the door through which a call comes, and what it does to a session
abbrev pub door_of : Call → Door
door_of (Start c) = Starts
door_of End = Ends
door_of (SmbOpen c) = InSession
door_of (SmbClose c) = InSession
door_of (SmbRead c) = InSession
door_of (SmbWrite c) = InSession
door_of (SmbResize c) = InSession
door_of (SmbLock c) = InSession
door_of (SmbUnlock c) = InSession
door_of (SmbStat c) = InSession
door_of (SmbList c) = InSession
door_of (SmbDispose c) = InSession
door_of call = Rest

-- what a REST call on a file or directory names
abbrev pub target_of : Call → Option Target
target_of (CreateDirectory c) = Some c.at
target_of (GetDirectoryProperties c) = Some c.at
target_of (GetDirectoryMetadata c) = Some c.at
target_of (SetDirectoryMetadata c) = Some c.at
target_of (DeleteDirectory c) = Some c.at
target_of (ListDirectory c) = Some c.at
target_of (CreateFile c) = Some c.at
target_of (GetFile c) = Some c.at
target_of (GetFileProperties c) = Some c.at
target_of (SetFileProperties c) = Some c.at
target_of (GetFileMetadata c) = Some c.at
target_of (SetFileMetadata c) = Some c.at
target_of (UpdateRange c) = Some c.at
target_of (ClearRange c) = Some c.at
target_of (ListRanges c) = Some c.at
target_of (DeleteFile c) = Some c.at
target_of (LeaseFile c) = Some c.at
target_of (ListHandles c) = Some c.at
target_of (ForceCloseHandles c) = Some c.at
target_of call = None

-- the share that a call names
abbrev pub share_of : Call → Option (List ℕ)
share_of (CreateShare c) = Some c.share
share_of (GetShareProperties c) = Some c.share
share_of (SetShareProperties c) = Some c.share
share_of (GetShareMetadata c) = Some c.share
share_of (SetShareMetadata c) = Some c.share
share_of (DeleteShare c) = Some c.share
share_of (DeleteSnapshot c) = Some c.share
share_of (SnapshotShare c) = Some c.share
share_of (LeaseShare c) = Some c.share
share_of (SmbOpen c) = Some c.share
share_of call = option_map (λ (at : Target). at.share) (target_of call)
