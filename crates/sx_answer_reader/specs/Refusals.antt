-- The words of refusals, as the one table of the replies has them.
use Rattle.std.specs.Prelude.{codes, ℕ, ◌++◌, Bool, if◌then◌else◌, List, [], ◌∷◌, ⊤}
use Rattle.std.specs.Fmt.{decimal}
use Rattle.sx_guard.specs.Handle.{Handle}
use Rattle.sx_answer_reader.specs.Limits.{IsNumber, IsCount, IsIndex}
use Rattle.sx_answer_reader.specs.declared.reason.Reason.{Reason}
use Rattle.sx_answer_reader.specs.declared.reason.Reason.TheVariants.{ShareAbsent, ParentAbsent, NameAbsent, NameThere}
use Rattle.sx_answer_reader.specs.declared.reason.Reason.TheVariants.{IsDirectory, IsFile, Pending, ReadOnly, LeaseHeld}
use Rattle.sx_answer_reader.specs.declared.reason.Reason.TheVariants.{Shared, Locked, NotLocked, QuotaMet, OpensFull}
use Rattle.sx_answer_reader.specs.declared.reason.Reason.TheVariants.{NoHandle, LacksAccess}

-- the word of a lock in the way, to a call that locks and to any other
abbrev pub conflict_word : Bool → List ℕ
conflict_word locking = if locking then codes "LOCK_NOT_GRANTED" else codes "FILE_LOCK_CONFLICT"

-- the word of a refusal: the name of its NT status without `STATUS_`
unfoldable pub reason_word : Reason → List ℕ
reason_word ShareAbsent = codes "BAD_NETWORK_NAME"
reason_word (ParentAbsent parts) = codes "OBJECT_PATH_NOT_FOUND"
reason_word NameAbsent = codes "OBJECT_NAME_NOT_FOUND"
reason_word (NameThere id) = codes "OBJECT_NAME_COLLISION"
reason_word (IsDirectory id) = codes "FILE_IS_A_DIRECTORY"
reason_word (IsFile id) = codes "NOT_A_DIRECTORY"
reason_word (Pending id) = codes "DELETE_PENDING"
reason_word (ReadOnly id) = codes "ACCESS_DENIED"
reason_word LeaseHeld = codes "SHARING_VIOLATION"
reason_word (Shared handle) = codes "SHARING_VIOLATION"
reason_word (Locked handle first last locking) = conflict_word locking
reason_word NotLocked = codes "RANGE_NOT_LOCKED"
reason_word (QuotaMet used more limit) = codes "DISK_FULL"
reason_word (OpensFull n) = codes "TOO_MANY_OPENED_FILES"
reason_word (NoHandle handle) = codes "INVALID_HANDLE"
reason_word (LacksAccess handle) = codes "ACCESS_DENIED"

-- a handle as `SESSION.INDEX`
abbrev pub handle_text : Handle → List ℕ
handle_text handle = decimal handle.session ++ (codes "." ++ decimal handle.index)

-- the words of a refusal's message
unfoldable pub message_words : Reason → List (List ℕ)
message_words ShareAbsent = codes "no" ∷ codes "share" ∷ []
message_words (ParentAbsent parts) = codes "no" ∷ codes "parent" ∷ decimal parts ∷ []
message_words NameAbsent = codes "no" ∷ codes "name" ∷ []
message_words (NameThere id) = codes "there" ∷ codes "id" ∷ decimal id ∷ []
message_words (IsDirectory id) = codes "directory" ∷ codes "id" ∷ decimal id ∷ []
message_words (IsFile id) = codes "file" ∷ codes "id" ∷ decimal id ∷ []
message_words (Pending id) = codes "pending" ∷ codes "id" ∷ decimal id ∷ []
message_words (ReadOnly id) = codes "read-only" ∷ codes "id" ∷ decimal id ∷ []
message_words LeaseHeld = codes "lease" ∷ codes "held" ∷ []
message_words (Shared handle) = codes "sharing" ∷ codes "handle" ∷ handle_text handle ∷ []
message_words (Locked handle first last locking) =
    codes "lock" ∷ codes "handle" ∷ handle_text handle ∷ codes "from" ∷ decimal first ∷ codes "to" ∷ decimal last ∷ []
message_words NotLocked = codes "not" ∷ codes "locked" ∷ []
message_words (QuotaMet used more limit) =
    codes "quota" ∷ codes "used" ∷ decimal used ∷ codes "more" ∷ decimal more ∷ codes "limit" ∷ decimal limit ∷ []
message_words (OpensFull n) = codes "opens" ∷ decimal n ∷ []
message_words (NoHandle handle) = codes "handle" ∷ handle_text handle ∷ []
message_words (LacksAccess handle) = codes "access" ∷ handle_text handle ∷ []

-- the numbers of a handle fit
abbrev pub IsHandle : Handle → Type 0
IsHandle handle = IsIndex handle.session × IsIndex handle.index

-- the numbers of a refusal fit their fields
abbrev pub FitsReason : Reason → Type 0
FitsReason ShareAbsent = ⊤
FitsReason (ParentAbsent parts) = IsCount parts
FitsReason NameAbsent = ⊤
FitsReason (NameThere id) = IsNumber id
FitsReason (IsDirectory id) = IsNumber id
FitsReason (IsFile id) = IsNumber id
FitsReason (Pending id) = IsNumber id
FitsReason (ReadOnly id) = IsNumber id
FitsReason LeaseHeld = ⊤
FitsReason (Shared handle) = IsHandle handle
FitsReason (Locked handle first last locking) = IsHandle handle × IsNumber first × IsNumber last
FitsReason NotLocked = ⊤
FitsReason (QuotaMet used more limit) = IsNumber used × IsNumber more × IsNumber limit
FitsReason (OpensFull n) = IsNumber n
FitsReason (NoHandle handle) = IsHandle handle
FitsReason (LacksAccess handle) = IsHandle handle
