-- How refusals are told: the status and code of their REST answers, their words in sessions, and their messages.
use Rattle.std.specs.Prelude.{codes, ℕ, ◌-◌, Bool, if◌then◌else◌, nat_lt, List, [], ◌∷◌}
use Rattle.std.specs.List.{concat}
use Rattle.std.specs.Fmt.{decimal}
use Rattle.sx_guard.specs.Handle.{Handle}
use Rattle.sx_guard.specs.Locks.{RangeLock}
use Rattle.sx_call.specs.declared.refusals.Refusal.{Refusal}
use Rattle.sx_call.specs.declared.refusals.Refusal.TheVariants.{ShareAbsent, ShareThere, SnapshotAbsent, ParentAbsent}
use Rattle.sx_call.specs.declared.refusals.Refusal.TheVariants.{NameAbsent, NameThere, IsDirectory, IsFile, Pending}
use Rattle.sx_call.specs.declared.refusals.Refusal.TheVariants.{NotEmpty, ReadOnly, LeaseHeld, LeaseOther, NoLease}
use Rattle.sx_call.specs.declared.refusals.Refusal.TheVariants.{LeaseTaken, LeaseIdWrong, LeaseNotThere, Shared, Locked}
use Rattle.sx_call.specs.declared.refusals.Refusal.TheVariants.{NotLocked, OutOfFile, QuotaMet, SnapshotsFull}
use Rattle.sx_call.specs.declared.refusals.Refusal.TheVariants.{SnapshotsStand, OpensFull, NoHandle, LacksAccess}

-- a row of the table of refusals: status and code of the REST answer (0 and empty where none is refused so), and the
-- word of the session's answer (empty where none is)
pub record Row : Type 0 where
  pub status : ℕ
  pub code : List ℕ
  pub word : List ℕ

-- these three
abbrev pub row : ℕ → List ℕ → List ℕ → Row
row status code word = record { status = status; code = code; word = word }

-- the table
unfoldable pub row_of : Refusal → Row
row_of ShareAbsent = row 404 (codes "ShareNotFound") (codes "BAD_NETWORK_NAME")
row_of ShareThere = row 409 (codes "ShareAlreadyExists") []
row_of (SnapshotAbsent moment) = row 404 (codes "ShareSnapshotNotFound") []
row_of (ParentAbsent parts) = row 404 (codes "ParentNotFound") (codes "OBJECT_PATH_NOT_FOUND")
row_of NameAbsent = row 404 (codes "ResourceNotFound") (codes "OBJECT_NAME_NOT_FOUND")
row_of (NameThere id) = row 409 (codes "ResourceAlreadyExists") (codes "OBJECT_NAME_COLLISION")
row_of (IsDirectory id) = row 409 (codes "ResourceTypeMismatch") (codes "FILE_IS_A_DIRECTORY")
row_of (IsFile id) = row 409 (codes "ResourceTypeMismatch") (codes "NOT_A_DIRECTORY")
row_of (Pending id) = row 409 (codes "SMBDeletePending") (codes "DELETE_PENDING")
row_of (NotEmpty id) = row 409 (codes "DirectoryNotEmpty") []
row_of (ReadOnly id) = row 409 (codes "ReadOnlyAttribute") (codes "ACCESS_DENIED")
row_of LeaseHeld = row 412 (codes "LeaseIdMissing") (codes "SHARING_VIOLATION")
row_of (LeaseOther share) =
    if share then row 412 (codes "LeaseIdMismatchWithShareOperation") []
    else row 412 (codes "LeaseIdMismatchWithFileOperation") []
row_of (NoLease share) =
    if share then row 412 (codes "LeaseNotPresentWithShareOperation") []
    else row 412 (codes "LeaseNotPresentWithFileOperation") []
row_of LeaseTaken = row 409 (codes "LeaseAlreadyPresent") []
row_of LeaseIdWrong = row 409 (codes "LeaseIdMismatchWithLeaseOperation") []
row_of LeaseNotThere = row 409 (codes "LeaseNotPresentWithLeaseOperation") []
row_of (Shared handle) = row 409 (codes "SharingViolation") (codes "SHARING_VIOLATION")
row_of (Locked held) = row 409 (codes "FileLockConflict") (codes "FILE_LOCK_CONFLICT")
row_of NotLocked = row 0 [] (codes "RANGE_NOT_LOCKED")
row_of (OutOfFile length) = row 416 (codes "InvalidRange") []
row_of (QuotaMet used more limit) = row 409 (codes "ShareQuotaExceeded") (codes "DISK_FULL")
row_of (SnapshotsFull n) = row 409 (codes "ShareSnapshotCountExceeded") []
row_of (SnapshotsStand n) = row 409 (codes "ShareHasSnapshots") []
row_of (OpensFull n) = row 0 [] (codes "TOO_MANY_OPENED_FILES")
row_of (NoHandle handle) = row 0 [] (codes "INVALID_HANDLE")
row_of (LacksAccess handle) = row 0 [] (codes "ACCESS_DENIED")

-- whether REST calls are refused so
abbrev pub has_code : Refusal → Bool
has_code refusal = nat_lt 0 (row_of refusal).status

-- a word
abbrev pub words : List ℕ → List ℕ
words text = concat (text ∷ [])

-- a text with a number behind it
abbrev pub numbered : List ℕ → ℕ → List ℕ
numbered text n = concat (text ∷ decimal n ∷ [])

-- a text with a handle, SESSION.INDEX, behind it
abbrev pub with_handle : List ℕ → Handle → List ℕ
with_handle text handle = concat (text ∷ decimal handle.session ∷ codes "." ∷ decimal handle.index ∷ [])

-- the lock that is in the way, from its first byte to its last
abbrev pub lock_message : RangeLock → List ℕ
lock_message held =
    concat (
    codes "lock handle " ∷ decimal held.handle.session ∷ codes "." ∷ decimal held.handle.index
    ∷ codes " from " ∷ decimal held.from ∷ codes " to " ∷ decimal (held.end - 1) ∷ [])

-- the granules that are used, those that would come, and how many may be
abbrev pub quota_message : ℕ → ℕ → ℕ → List ℕ
quota_message used more limit =
    concat (
    codes "quota used " ∷ decimal used ∷ codes " more " ∷ decimal more ∷ codes " limit " ∷ decimal limit ∷ [])

-- the message of a refusal, the same in both doors
unfoldable pub message_of : Refusal → List ℕ
message_of ShareAbsent = words (codes "no share")
message_of ShareThere = words (codes "share there")
message_of (SnapshotAbsent moment) = words (codes "no snapshot")
message_of (ParentAbsent parts) = numbered (codes "no parent ") parts
message_of NameAbsent = words (codes "no name")
message_of (NameThere id) = numbered (codes "there id ") id
message_of (IsDirectory id) = numbered (codes "directory id ") id
message_of (IsFile id) = numbered (codes "file id ") id
message_of (Pending id) = numbered (codes "pending id ") id
message_of (NotEmpty id) = numbered (codes "not empty id ") id
message_of (ReadOnly id) = numbered (codes "read-only id ") id
message_of LeaseHeld = words (codes "lease held")
message_of (LeaseOther share) = words (codes "lease differs")
message_of (NoLease share) = words (codes "no lease")
message_of LeaseTaken = words (codes "lease taken")
message_of LeaseIdWrong = words (codes "lease id differs")
message_of LeaseNotThere = words (codes "lease not there")
message_of (Shared handle) = with_handle (codes "sharing handle ") handle
message_of (Locked held) = lock_message held
message_of NotLocked = words (codes "not locked")
message_of (OutOfFile length) = numbered (codes "range length ") length
message_of (QuotaMet used more limit) = quota_message used more limit
message_of (SnapshotsFull n) = numbered (codes "snapshots ") n
message_of (SnapshotsStand n) = numbered (codes "snapshots ") n
message_of (OpensFull n) = numbered (codes "opens ") n
message_of (NoHandle handle) = with_handle (codes "handle ") handle
message_of (LacksAccess handle) = with_handle (codes "access ") handle
