-- What each call needs, one table a question: access, touched interval, lease, ReadOnly attribute, range and new marks.
use Rattle.std.specs.Prelude.{ℕ, ◌+◌, ◌-◌, ◌||◌, if◌then◌else◌, Bool, true, false, nat_le, min, max, length, Option}
use Rattle.std.specs.Prelude.{Some, None, is_some}
use Rattle.sx_extent.specs.Ranges.{SparseFile, most_bytes, fresh}
use Rattle.sx_guard.specs.declared.access.Access.{Access}
use Rattle.sx_guard.specs.declared.access.Mode.{Mode}
use Rattle.sx_lease.specs.declared.lease.LeaseId.{LeaseId}
use Rattle.sx_call.specs.declared.calls.Call.{Call}
use Rattle.sx_call.specs.declared.calls.Call.TheVariants.{GetShareProperties, SetShareProperties, GetShareMetadata}
use Rattle.sx_call.specs.declared.calls.Call.TheVariants.{SetShareMetadata, DeleteShare, DeleteDirectory, CreateFile}
use Rattle.sx_call.specs.declared.calls.Call.TheVariants.{GetFile, GetFileProperties, SetFileProperties}
use Rattle.sx_call.specs.declared.calls.Call.TheVariants.{GetFileMetadata, SetFileMetadata, UpdateRange, ClearRange}
use Rattle.sx_call.specs.declared.calls.Call.TheVariants.{ListRanges, DeleteFile, SmbOpen, SmbRead, SmbWrite, SmbResize}
use Rattle.sx_call.specs.declared.calls.Call.TheVariants.{SmbList, SmbDispose}
use Rattle.sx_call.specs.Ranges.{BytesFrom}
use Rattle.sx_tree.specs.declared.node.FileBody.{FileBody}
use Rattle.sx_spec.specs.declared.checks.Touch.{Touch}
use Rattle.sx_spec.specs.declared.checks.Touch.TheVariants.{Untouched, Reads, Writes}

-- Access.

-- no right
abbrev pub no_access : Access
no_access = record { read = false; write = false; delete = false }

-- the right to read
abbrev pub to_read : Access
to_read = record { read = true; write = false; delete = false }

-- the right to write
abbrev pub to_write : Access
to_write = record { read = false; write = true; delete = false }

-- the right to delete
abbrev pub to_delete : Access
to_delete = record { read = false; write = false; delete = true }

-- the rights to write and to delete
abbrev pub to_replace : Access
to_replace = record { read = false; write = true; delete = true }

-- the share mode of a REST call: it leaves every right to others
abbrev pub all_shared : Mode
all_shared = record { read = true; write = true; delete = true }

-- The access that a call needs. A REST call acts as an open that has it and shares all; a call on a handle needs a
-- handle that
-- has it. All others need none.
abbrev pub access_needed : Call → Access
access_needed (GetFile c) = to_read
access_needed (ListRanges c) = to_read
access_needed (UpdateRange c) = to_write
access_needed (ClearRange c) = to_write
access_needed (SetFileProperties c) = to_write
access_needed (SetFileMetadata c) = to_write
access_needed (CreateFile c) = to_replace
access_needed (DeleteFile c) = to_delete
access_needed (DeleteDirectory c) = to_delete
access_needed (SmbRead c) = to_read
access_needed (SmbList c) = to_read
access_needed (SmbWrite c) = to_write
access_needed (SmbResize c) = to_write
access_needed (SmbDispose c) = to_delete
access_needed call = no_access

-- Intervals.

-- the first byte for which a range asks
abbrev pub first_of_span : Option BytesFrom → ℕ
first_of_span None = 0
first_of_span (Some span) = span.from

-- the place behind a last byte, cut at a file's length, which stands for no last byte
abbrev pub end_of_last : ℕ → Option ℕ → ℕ
end_of_last size None = size
end_of_last size (Some last) = min (last + 1) size

-- the place behind the last byte for which a range asks, cut at a file's length
abbrev pub end_of_span : ℕ → Option BytesFrom → ℕ
end_of_span size None = size
end_of_span size (Some span) = end_of_last size span.last

-- what lies between the length of a file and the one that is given, if any
abbrev pub between : ℕ → Option ℕ → Touch
between size None = Untouched
between size (Some bytes) = Writes (min bytes size) (max bytes size)

-- The interval of a file of so many bytes at which a call looks for locks: what it reads or writes; where it sets a
-- length, what
-- lies between the two lengths; where it replaces a file, all of both. All others look at none.
abbrev pub touched : ℕ → Call → Touch
touched size (GetFile c) = Reads (first_of_span c.span) (end_of_span size c.span)
touched size (UpdateRange c) = Writes c.update.from (c.update.from + length c.update.piece)
touched size (ClearRange c) = Writes c.range.from c.range.end
touched size (SetFileProperties c) = between size c.length
touched size (CreateFile c) = Writes 0 (max c.length size)
touched size (SmbRead c) = Reads c.range.at (c.range.at + c.range.count)
touched size (SmbWrite c) = Writes c.write.at (c.write.at + length c.write.piece)
touched size (SmbResize c) = between size (Some c.length)
touched size call = Untouched

-- Leases.

-- Whether a call writes under the lease of its file or share. All others read under it.
abbrev pub writes_under_lease : Call → Bool
writes_under_lease (UpdateRange c) = true
writes_under_lease (ClearRange c) = true
writes_under_lease (SetFileProperties c) = true
writes_under_lease (SetFileMetadata c) = true
writes_under_lease (CreateFile c) = true
writes_under_lease (DeleteFile c) = true
writes_under_lease (DeleteShare c) = true
writes_under_lease (SetShareProperties c) = true
writes_under_lease (SetShareMetadata c) = true
writes_under_lease call = false

-- The lease id that a call gives.
abbrev pub lease_given : Call → Option LeaseId
lease_given (GetShareProperties c) = c.scope.lease
lease_given (SetShareProperties c) = c.lease
lease_given (GetShareMetadata c) = c.scope.lease
lease_given (SetShareMetadata c) = c.lease
lease_given (DeleteShare c) = c.lease
lease_given (CreateFile c) = c.lease
lease_given (GetFile c) = c.scope.lease
lease_given (GetFileProperties c) = c.scope.lease
lease_given (SetFileProperties c) = c.lease
lease_given (GetFileMetadata c) = c.scope.lease
lease_given (SetFileMetadata c) = c.lease
lease_given (UpdateRange c) = c.lease
lease_given (ClearRange c) = c.lease
lease_given (ListRanges c) = c.scope.lease
lease_given (DeleteFile c) = c.lease
lease_given call = None

-- The ReadOnly attribute.

-- Whether a call is refused at a file that has the ReadOnly attribute.
abbrev pub heeds_read_only : Call → Bool
heeds_read_only (UpdateRange c) = true
heeds_read_only (ClearRange c) = true
heeds_read_only (SetFileProperties c) = is_some c.length
heeds_read_only (CreateFile c) = true
heeds_read_only (DeleteFile c) = true
heeds_read_only (SmbOpen c) = c.access.access.write || c.access.on_close
heeds_read_only (SmbDispose c) = c.on
heeds_read_only call = false

-- Ranges.

-- whether the first byte for which a range asks lies at or past the end of a file of so many bytes
abbrev pub starts_past : ℕ → Option BytesFrom → Bool
starts_past size None = false
starts_past size (Some span) = nat_le size span.from

-- Whether the first byte for which a call asks lies at or past the end of a file of so many bytes, or for Put Range the
-- last one.
abbrev pub is_out_of_file : ℕ → Call → Bool
is_out_of_file size (GetFile c) = starts_past size c.span
is_out_of_file size (ListRanges c) = starts_past size c.span
is_out_of_file size (UpdateRange c) =
    nat_le size c.update.from || nat_le size (c.update.from + length c.update.piece - 1)
is_out_of_file size (ClearRange c) = nat_le size c.range.from || nat_le size (c.range.end - 1)
is_out_of_file size call = false

-- New marks.

-- how many granules a write of an interval marks that have no mark, those behind the file's end too; one that ends past
-- the longest
-- file marks none, since it is no write
abbrev pub fresh_within : ℕ → ℕ → SparseFile → ℕ
fresh_within from end f = if nat_le end most_bytes then fresh f from end else 0

-- How many granules of a file a call marks that have no mark; a session's write lengthens the file first.
abbrev pub new_marks : FileBody → Call → ℕ
new_marks body (UpdateRange c) = fresh_within c.update.from (c.update.from + length c.update.piece) body.ranges
new_marks body (SmbWrite c) = fresh_within c.write.at (c.write.at + length c.write.piece) body.ranges
new_marks body call = 0
