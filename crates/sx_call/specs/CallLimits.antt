-- The limits of all calls: what the types of their fields keep.
use Rattle.std.specs.Prelude.{◌≡◌, ◌<◌, ◌^◌, true, false, IfSome}
use Rattle.std.specs.Str.{is_utf8}
use Rattle.sx_moment.specs.Moments.{IsShownMoment}
use Rattle.sx_names.specs.Names.{is_share_name}
use Rattle.sx_names.specs.Meta.{is_meta}
use Rattle.sx_names.specs.Limits.{IsQuota, IsPageSize}
use Rattle.sx_call.specs.Lengths.{is_file_length}
use Rattle.sx_call.specs.Listings.{is_query_text}
use Rattle.sx_call.specs.Opens.{is_open_rights}
use Rattle.sx_call.specs.Ranges.{is_first, is_byte_range, is_read_range}
use Rattle.sx_call.specs.Updates.{is_range_update, is_handle_write}
use Rattle.sx_call.specs.FieldLimits.{IsTarget, IsTargetBelowRoot, IsNamedPath, IsReadScope, IsLeaseId, IsLeaseAction}
use Rattle.sx_call.specs.FieldLimits.{IsSharesMarker, IsContent, IsTime, IsHandleId, IsHandleIndex}
use Rattle.sx_call.specs.declared.calls.Call.{Call}
use Rattle.sx_call.specs.declared.calls.Call.TheVariants.{ListShares, CreateShare, GetShareProperties}
use Rattle.sx_call.specs.declared.calls.Call.TheVariants.{SetShareProperties, GetShareMetadata, SetShareMetadata}
use Rattle.sx_call.specs.declared.calls.Call.TheVariants.{DeleteShare, DeleteSnapshot, SnapshotShare, LeaseShare}
use Rattle.sx_call.specs.declared.calls.Call.TheVariants.{CreateDirectory, GetDirectoryProperties}
use Rattle.sx_call.specs.declared.calls.Call.TheVariants.{GetDirectoryMetadata, SetDirectoryMetadata, DeleteDirectory}
use Rattle.sx_call.specs.declared.calls.Call.TheVariants.{ListDirectory, ListHandles, ForceCloseHandles, CreateFile}
use Rattle.sx_call.specs.declared.calls.Call.TheVariants.{GetFile, GetFileProperties, SetFileProperties}
use Rattle.sx_call.specs.declared.calls.Call.TheVariants.{GetFileMetadata, SetFileMetadata, UpdateRange, ClearRange}
use Rattle.sx_call.specs.declared.calls.Call.TheVariants.{ListRanges, DeleteFile, LeaseFile, Start, SmbOpen, SmbClose}
use Rattle.sx_call.specs.declared.calls.Call.TheVariants.{SmbRead, SmbWrite, SmbResize, SmbLock, SmbUnlock, SmbStat}
use Rattle.sx_call.specs.declared.calls.Call.TheVariants.{SmbList, SmbDispose, End}

-- each field is within the limits of its kind
abbrev pub IsWithinLimits : Call → Type 0
IsWithinLimits (ListShares c) = (is_query_text c.prefix ≡ true) × IfSome c.marker IsSharesMarker × IsPageSize c.max
IsWithinLimits (CreateShare c) = (is_share_name c.share ≡ true) × IsQuota c.quota × (is_meta c.meta ≡ true)
IsWithinLimits (GetShareProperties c) = (is_share_name c.share ≡ true) × IsReadScope c.scope
IsWithinLimits (SetShareProperties c) = (is_share_name c.share ≡ true) × IsQuota c.quota × IfSome c.lease IsLeaseId
IsWithinLimits (GetShareMetadata c) = (is_share_name c.share ≡ true) × IsReadScope c.scope
IsWithinLimits (SetShareMetadata c) =
    (is_share_name c.share ≡ true) × (is_meta c.meta ≡ true) × IfSome c.lease IsLeaseId
IsWithinLimits (DeleteShare c) = (is_share_name c.share ≡ true) × IfSome c.lease IsLeaseId
IsWithinLimits (DeleteSnapshot c) = (is_share_name c.share ≡ true) × IsShownMoment c.moment
IsWithinLimits (SnapshotShare c) = (is_share_name c.share ≡ true) × (is_meta c.meta ≡ true)
IsWithinLimits (LeaseShare c) = (is_share_name c.share ≡ true) × IsLeaseAction c.action
IsWithinLimits (CreateDirectory c) =
    IsTargetBelowRoot c.at × (c.attributes.directory ≡ true) × IfSome c.created IsShownMoment
    × IfSome c.written IsShownMoment × (is_meta c.meta ≡ true)
IsWithinLimits (GetDirectoryProperties c) = IsTarget c.at × IfSome c.snap IsShownMoment
IsWithinLimits (GetDirectoryMetadata c) = IsTarget c.at × IfSome c.snap IsShownMoment
IsWithinLimits (SetDirectoryMetadata c) = IsTarget c.at × (is_meta c.meta ≡ true)
IsWithinLimits (DeleteDirectory c) = IsTargetBelowRoot c.at
IsWithinLimits (ListDirectory c) =
    IsTarget c.at × IfSome c.snap IsShownMoment × (is_query_text c.prefix ≡ true) × (is_query_text c.marker ≡ true)
    × IsPageSize c.max
IsWithinLimits (ListHandles c) = IsTarget c.at × IfSome c.marker IsHandleId × IsPageSize c.max
IsWithinLimits (ForceCloseHandles c) = IsTarget c.at × IfSome c.handle IsHandleId
IsWithinLimits (CreateFile c) =
    IsTargetBelowRoot c.at × (is_file_length c.length ≡ true) × IsContent c.content
    × (c.attributes.directory ≡ false) × IfSome c.created IsShownMoment × IfSome c.written IsShownMoment
    × (is_meta c.meta ≡ true) × IfSome c.lease IsLeaseId
IsWithinLimits (GetFile c) = IsTargetBelowRoot c.at × IfSome c.span (λ f. is_first f ≡ true) × IsReadScope c.scope
IsWithinLimits (GetFileProperties c) = IsTargetBelowRoot c.at × IsReadScope c.scope
IsWithinLimits (SetFileProperties c) =
    IsTargetBelowRoot c.at × IfSome c.length (λ l. is_file_length l ≡ true) × IsContent c.content
    × IfSome c.attributes (λ a. a.directory ≡ false) × IsTime c.created × IsTime c.written
    × IfSome c.lease IsLeaseId
IsWithinLimits (GetFileMetadata c) = IsTargetBelowRoot c.at × IsReadScope c.scope
IsWithinLimits (SetFileMetadata c) = IsTargetBelowRoot c.at × (is_meta c.meta ≡ true) × IfSome c.lease IsLeaseId
IsWithinLimits (UpdateRange c) =
    IsTargetBelowRoot c.at × (is_range_update c.update ≡ true) × IfSome c.lease IsLeaseId
IsWithinLimits (ClearRange c) = IsTargetBelowRoot c.at × (is_byte_range c.range ≡ true) × IfSome c.lease IsLeaseId
IsWithinLimits (ListRanges c) =
    IsTargetBelowRoot c.at × IfSome c.span (λ f. is_first f ≡ true) × IsReadScope c.scope
IsWithinLimits (DeleteFile c) = IsTargetBelowRoot c.at × IfSome c.lease IsLeaseId
IsWithinLimits (LeaseFile c) = IsTargetBelowRoot c.at × IsLeaseAction c.action
IsWithinLimits (Start c) = c.peer < 2 ^ 32
IsWithinLimits End = Unit {0}
IsWithinLimits (SmbOpen c) = (is_share_name c.share ≡ true) × IsNamedPath c.path × (is_open_rights c.access ≡ true)
IsWithinLimits (SmbClose c) = IsHandleIndex c.index
IsWithinLimits (SmbRead c) = IsHandleIndex c.index × (is_read_range c.range ≡ true)
IsWithinLimits (SmbWrite c) = IsHandleIndex c.index × (is_handle_write c.write ≡ true)
IsWithinLimits (SmbResize c) = IsHandleIndex c.index × (is_file_length c.length ≡ true)
IsWithinLimits (SmbLock c) = IsHandleIndex c.index × (is_byte_range c.range ≡ true)
IsWithinLimits (SmbUnlock c) = IsHandleIndex c.index × (is_byte_range c.range ≡ true)
IsWithinLimits (SmbStat c) = IsHandleIndex c.index
IsWithinLimits (SmbList c) = IsHandleIndex c.index × (is_utf8 c.marker ≡ true) × IsPageSize c.max
IsWithinLimits (SmbDispose c) = IsHandleIndex c.index
