-- Worked examples: what an account without entries answers to a short run.
use Rattle.std.specs.Prelude.{◌≡◌, ◌∷◌, [], false, true, None, Some}
use Rattle.sx_call.specs.declared.leases.LeaseAction.TheVariants.{Acquire, Break}
use Rattle.sx_call.specs.declared.opens.How.TheVariants.{Create, Existing}
use Rattle.sx_call.specs.declared.refusals.Refusal.TheVariants as refusal
use Rattle.sx_call.specs.declared.replies.Fate.TheVariants as fate
use Rattle.sx_call.specs.declared.replies.Reply.TheVariants.{Gone, HandlesClosed, LeaseDone, Refused, Smb}
use Rattle.sx_call.specs.declared.replies.Reply.TheVariants.{Snapped}
use Rattle.sx_call.specs.declared.replies.SmbReply.TheVariants as answer
use Rattle.sx_spec.specs.Account.{empty}
use Rattle.sx_spec.specs.Examples.{close_handle, directory_d, directory_made, double_s, file_a, file_b, file_in_d}
use Rattle.sx_spec.specs.Examples.{file_made, finish_session, force_close, handle_at, lease_on, lock_handle}
use Rattle.sx_spec.specs.Examples.{locked_by, make_directory, make_file, make_share, make_snapshot, new_year}
use Rattle.sx_spec.specs.Examples.{no_handle, open_directory, open_file, open_to_remove, opened, part_of_file}
use Rattle.sx_spec.specs.Examples.{properties, properties_set, read_file, read_handle, read_kept_file}
use Rattle.sx_spec.specs.Examples.{read_properties, reading_shared, remove_directory, remove_file, remove_share}
use Rattle.sx_spec.specs.Examples.{replies_from, set_length, set_quota, shared_by, sharp_s, stamp_at, stamped}
use Rattle.sx_spec.specs.Examples.{start_session, started, to_read_and_delete, to_read_and_write, unlock_handle}
use Rattle.sx_spec.specs.Examples.{update_file, whole_file, write_handle, writing_shared}
use Rattle.sx_spec.specs.Needs.{all_shared, to_read, to_write}

-- An open that shares too little: the first reads and lets others write, so another that writes and lets others read
-- may stand beside it, and one that lets others write alone may not.
abbrev pub EnoughIsShared : Type 0
EnoughIsShared =
    replies_from empty (
    make_share 5120 ∷ start_session ∷ start_session
    ∷ open_file 1 file_a to_read writing_shared Create
    ∷ open_file 2 file_a to_write reading_shared Existing ∷ [])
    ≡ stamped 201 1 ∷ started 1 ∷ started 2 ∷ opened 1 true 2 0 ∷ opened 1 false 2 0 ∷ []

-- An open that shares too little: the first reads and lets others write, so another that writes and lets others read
-- may stand beside it, and one that lets others write alone may not.
abbrev pub TooLittleIsShared : Type 0
TooLittleIsShared =
    replies_from empty (
    make_share 5120 ∷ start_session ∷ start_session
    ∷ open_file 1 file_a to_read writing_shared Create
    ∷ open_file 2 file_a to_write writing_shared Existing ∷ [])
    ≡ stamped 201 1 ∷ started 1 ∷ started 2 ∷ opened 1 true 2 0 ∷ shared_by 1 1 ∷ []

-- A call over REST is an open that shares all: it reads nothing of a file whose open lets others only write, and is
-- told its properties all the same.
abbrev pub NoReadingIsShared : Type 0
NoReadingIsShared =
    replies_from empty (
    make_share 5120 ∷ start_session
    ∷ open_file 1 file_a to_read writing_shared Create
    ∷ read_file file_a None
    ∷ read_properties file_a ∷ [])
    ≡ stamped 201 1 ∷ started 1 ∷ opened 1 true 2 0 ∷ shared_by 1 1 ∷ properties 3 2 0 ∷ []

-- A shared lock forbids writing to its own holder too, and an exclusive lock over it; an unlock names its very kind.
abbrev pub AHolderMeetsItsOwnSharedLock : Type 0
AHolderMeetsItsOwnSharedLock =
    replies_from empty (
    make_share 5120 ∷ start_session
    ∷ open_file 1 file_a to_read_and_write all_shared Create
    ∷ lock_handle 1 1 0 4 false
    ∷ write_handle 1 1 3 (0x41 ∷ [])
    ∷ lock_handle 1 1 3 5 true
    ∷ unlock_handle 1 1 0 4 true
    ∷ unlock_handle 1 1 0 4 false
    ∷ write_handle 1 1 3 (0x41 ∷ []) ∷ [])
    ≡ stamped 201 1 ∷ started 1 ∷ opened 1 true 2 0 ∷ Smb answer.Locked ∷ locked_by 1 1 0 4 false
    ∷ locked_by 1 1 0 4 false ∷ Refused refusal.NotLocked ∷ Smb answer.Unlocked ∷ Smb (answer.Wrote 1 4) ∷ []

-- A locked byte: an exclusive lock of bytes 10 to 19 forbids reading byte 10 over REST, and neither the bytes before
-- it nor those behind it; it goes with its handle.
abbrev pub AByteIsLocked : Type 0
AByteIsLocked =
    replies_from empty (
    make_share 5120 ∷ start_session
    ∷ open_file 1 file_a to_read_and_write all_shared Create
    ∷ write_handle 1 1 0 (0 ∷ 0 ∷ 0 ∷ 0 ∷ 0 ∷ 0 ∷ 0 ∷ 0 ∷ 0 ∷ 0 ∷ 0 ∷ 0 ∷ 0 ∷ 0 ∷ 0 ∷ 0
    ∷ 0 ∷ 0 ∷ 0 ∷ 0 ∷ 0 ∷ 0 ∷ 0 ∷ 0 ∷ 0 ∷ 0 ∷ 0 ∷ 0 ∷ 0 ∷ 0 ∷ 0 ∷ 0 ∷ [])
    ∷ lock_handle 1 1 10 20 true
    ∷ read_file file_a (Some (record { from = 0; last = Some 9 }))
    ∷ read_file file_a (Some (record { from = 9; last = Some 10 }))
    ∷ update_file file_a 20 (0 ∷ []) None
    ∷ close_handle 1 1
    ∷ read_file file_a (Some (record { from = 9; last = Some 10 })) ∷ [])
    ≡ stamped 201 1 ∷ started 1 ∷ opened 1 true 2 0 ∷ Smb (answer.Wrote 32 32) ∷ Smb answer.Locked
    ∷ part_of_file 4 2 0 (0 ∷ 0 ∷ 0 ∷ 0 ∷ 0 ∷ 0 ∷ 0 ∷ 0 ∷ 0 ∷ 0 ∷ []) 32 ∷ locked_by 1 1 10 20 true
    ∷ stamped 201 8 ∷ Smb (answer.Closed fate.Kept) ∷ part_of_file 8 2 9 (0 ∷ 0 ∷ []) 32 ∷ []

-- Delete on close while a second open stands: the file is pending, and goes with its last open; a file of the same
-- name is another.
abbrev pub AFileIsDeletedOnClose : Type 0
AFileIsDeletedOnClose =
    replies_from empty (
    make_share 5120 ∷ start_session
    ∷ open_to_remove 1 file_a to_read_and_delete all_shared Create
    ∷ open_file 1 file_a to_read all_shared Existing
    ∷ close_handle 1 1
    ∷ read_file file_a None
    ∷ close_handle 1 2
    ∷ read_file file_a None
    ∷ make_file file_a 0 ∷ [])
    ≡ stamped 201 1 ∷ started 1 ∷ opened 1 true 2 0 ∷ opened 2 false 2 0 ∷ Smb (answer.Closed fate.Pending)
    ∷ Refused (refusal.Pending 2) ∷ Smb (answer.Closed fate.Gone) ∷ Refused refusal.NameAbsent
    ∷ file_made 9 3 1 ∷ []

-- A lease and an open: a lease that is held wants its id of every write over REST and refuses opens that write; an
-- open that writes refuses that a lease is acquired.
abbrev pub ALeaseMeetsAnOpen : Type 0
ALeaseMeetsAnOpen =
    replies_from empty (
    make_share 5120 ∷ make_file file_a 512
    ∷ lease_on file_a (Acquire (Some (record { 0 = 0x11111111222233334444555555555555 })))
    ∷ update_file file_a 0 (0x61 ∷ []) None
    ∷ update_file file_a 0 (0x61 ∷ []) (Some (record { 0 = 0x99999999222233334444555555555555 }))
    ∷ update_file file_a 0 (0x61 ∷ []) (Some (record { 0 = 0x11111111222233334444555555555555 }))
    ∷ start_session
    ∷ open_file 1 file_a to_write all_shared Existing
    ∷ lease_on file_a Break
    ∷ open_file 1 file_a to_write all_shared Existing
    ∷ lease_on file_a (Acquire None) ∷ [])
    ≡ stamped 201 1 ∷ file_made 2 2 1
    ∷ LeaseDone 201 (stamp_at 2) (Some (record { 0 = 0x11111111222233334444555555555555 }))
    ∷ Refused refusal.LeaseHeld ∷ Refused (refusal.LeaseOther false) ∷ stamped 201 6 ∷ started 1
    ∷ Refused refusal.LeaseHeld ∷ LeaseDone 202 (stamp_at 6) None ∷ opened 1 false 2 512 ∷ shared_by 1 1 ∷ []

-- Two snapshots at one moment: the second has the next tick. What a snapshot keeps stands after the file was changed
-- and deleted, and a share with snapshots is deleted only with them.
abbrev pub TwoSnapshotsAtOneMoment : Type 0
TwoSnapshotsAtOneMoment =
    replies_from empty (
    make_share 5120 ∷ make_file file_a 4
    ∷ update_file file_a 0 (0x6f ∷ 0x6c ∷ 0x64 ∷ 0x21 ∷ []) None
    ∷ make_snapshot
    ∷ make_snapshot
    ∷ update_file file_a 0 (0x6e ∷ 0x65 ∷ 0x77 ∷ 0x21 ∷ []) None
    ∷ set_length file_a 0
    ∷ remove_file file_a
    ∷ read_kept_file file_a new_year
    ∷ read_file file_a None
    ∷ remove_share false
    ∷ remove_share true ∷ [])
    ≡ stamped 201 1 ∷ file_made 2 2 1 ∷ stamped 201 3 ∷ Snapped 16409952000000000 (stamp_at 1)
    ∷ Snapped 16409952000000001 (stamp_at 1) ∷ stamped 201 6 ∷ properties_set 7 2 ∷ Gone
    ∷ whole_file 3 2 (0x6f ∷ 0x6c ∷ 0x64 ∷ 0x21 ∷ []) 4 ∷ Refused refusal.NameAbsent
    ∷ Refused (refusal.SnapshotsStand 2) ∷ Gone ∷ []

-- A snapshot asks for no lease, open or lock, and keeps no node pending: it is read while an open forbids reading the
-- file, and after the file was deleted under an open.
abbrev pub ASnapshotAsksNothingOfOthers : Type 0
ASnapshotAsksNothingOfOthers =
    replies_from empty (
    make_share 5120 ∷ start_session
    ∷ open_file 1 file_a to_read_and_delete all_shared Create
    ∷ remove_file file_a
    ∷ make_snapshot
    ∷ read_kept_file file_a new_year
    ∷ open_file 1 file_b to_read writing_shared Create
    ∷ lock_handle 1 2 0 4 true
    ∷ set_quota 1
    ∷ make_snapshot
    ∷ read_file file_b None
    ∷ read_kept_file file_b 16409952000000001 ∷ [])
    ≡ stamped 201 1 ∷ started 1 ∷ opened 1 true 2 0 ∷ Gone ∷ Snapped 16409952000000000 (stamp_at 1)
    ∷ whole_file 3 2 [] 0 ∷ opened 2 true 3 0 ∷ Smb answer.Locked ∷ stamped 200 9
    ∷ Snapped 16409952000000001 (stamp_at 9) ∷ shared_by 1 2 ∷ whole_file 7 3 [] 0 ∷ []

-- A write beyond the quota: bytes in a marked granule are written, and one in another granule is refused, over REST
-- and past the end of a file that a session would make longer. A quota of 0 GiB, which no request can ask for, stands
-- for one that is used up.
abbrev pub AWritePassesTheQuota : Type 0
AWritePassesTheQuota =
    replies_from empty (
    make_share 1 ∷ make_file file_a 1024
    ∷ update_file file_a 0 (0x61 ∷ []) None
    ∷ set_quota 0
    ∷ update_file file_a 511 (0x61 ∷ []) None
    ∷ update_file file_a 512 (0x61 ∷ []) None
    ∷ start_session
    ∷ open_file 1 file_a to_write all_shared Existing
    ∷ write_handle 1 1 2000 (0x61 ∷ []) ∷ [])
    ≡ stamped 201 1 ∷ file_made 2 2 1 ∷ stamped 201 3 ∷ stamped 200 4 ∷ stamped 201 5
    ∷ Refused (refusal.QuotaMet 1 1 0) ∷ started 1 ∷ opened 1 false 2 1024
    ∷ Refused (refusal.QuotaMet 1 1 0) ∷ []

-- A directory that isn't empty isn't deleted; it is once what is in it was.
abbrev pub ADirectoryIsNotEmpty : Type 0
ADirectoryIsNotEmpty =
    replies_from empty (
    make_share 5120 ∷ make_directory directory_d
    ∷ make_file file_in_d 0
    ∷ remove_directory directory_d
    ∷ remove_file file_in_d
    ∷ remove_directory directory_d
    ∷ remove_directory directory_d ∷ [])
    ≡ stamped 201 1 ∷ directory_made 2 2 1 ∷ file_made 3 3 2 ∷ Refused (refusal.NotEmpty 2) ∷ Gone ∷ Gone
    ∷ Refused refusal.NameAbsent ∷ []

-- A pending parent: in a directory that was deleted while an open of it stands no name is made, by REST or by a
-- session; with the open it goes, and then the parent is absent.
abbrev pub AParentIsPending : Type 0
AParentIsPending =
    replies_from empty (
    make_share 5120 ∷ make_directory directory_d ∷ start_session
    ∷ open_directory 1 directory_d to_read all_shared Existing
    ∷ remove_directory directory_d
    ∷ make_file file_in_d 0
    ∷ open_file 1 file_in_d to_read all_shared Create
    ∷ close_handle 1 1
    ∷ make_file file_in_d 0 ∷ [])
    ≡ stamped 201 1 ∷ directory_made 2 2 1 ∷ started 1 ∷ opened 1 false 2 0 ∷ Gone ∷ Refused (refusal.Pending 2)
    ∷ Refused (refusal.Pending 2) ∷ Smb (answer.Closed fate.Gone) ∷ Refused (refusal.ParentAbsent 1) ∷ []

-- Create File over a file with an open: the file keeps its id and its open, which reads the new bytes; an open that
-- lets others read alone refuses it.
abbrev pub AFileWithAnOpenIsMadeAnew : Type 0
AFileWithAnOpenIsMadeAnew =
    replies_from empty (
    make_share 5120 ∷ make_file file_a 4
    ∷ update_file file_a 0 (0x6f ∷ 0x6c ∷ 0x64 ∷ 0x21 ∷ []) None
    ∷ start_session
    ∷ open_file 1 file_a to_read all_shared Existing
    ∷ make_file file_a 2
    ∷ read_handle 1 1 0 16
    ∷ open_file 1 file_a to_read reading_shared Existing
    ∷ make_file file_a 0 ∷ [])
    ≡ stamped 201 1 ∷ file_made 2 2 1 ∷ stamped 201 3 ∷ started 1 ∷ opened 1 false 2 4 ∷ file_made 6 2 1
    ∷ Smb (answer.Bytes (0 ∷ 0 ∷ [])) ∷ opened 2 false 2 2 ∷ shared_by 1 2 ∷ []

-- Force close by scope: the opens of a directory alone, one handle that isn't below it, and all that is below it. A
-- share with an open isn't deleted; the end of its session closes it.
abbrev pub HandlesAreClosedByScope : Type 0
HandlesAreClosedByScope =
    replies_from empty (
    make_share 5120 ∷ make_directory directory_d ∷ start_session
    ∷ open_file 1 file_in_d to_read_and_write all_shared Create
    ∷ open_directory 1 directory_d to_read all_shared Existing
    ∷ open_file 1 file_b to_read all_shared Create
    ∷ force_close directory_d None false
    ∷ force_close directory_d (Some (handle_at 1 3)) true
    ∷ force_close directory_d None true
    ∷ read_handle 1 1 0 16
    ∷ remove_share false
    ∷ finish_session 1
    ∷ remove_share false ∷ [])
    ≡ stamped 201 1 ∷ directory_made 2 2 1 ∷ started 1 ∷ opened 1 true 3 0 ∷ opened 2 false 2 0
    ∷ opened 3 true 4 0 ∷ HandlesClosed 1 ∷ HandlesClosed 0 ∷ HandlesClosed 1 ∷ no_handle 1 1
    ∷ shared_by 1 3 ∷ Smb (answer.Ended 1) ∷ Gone ∷ []

-- A session's lines: an open makes a file, which is written, read and closed; a closed handle is none; a name that is
-- there isn't made, and one that is absent isn't opened.
abbrev pub ASessionWritesAndReads : Type 0
ASessionWritesAndReads =
    replies_from empty (
    make_share 5120 ∷ start_session
    ∷ open_file 1 file_a to_read_and_write all_shared Create
    ∷ write_handle 1 1 0 (0x68 ∷ 0x69 ∷ 0x0a ∷ [])
    ∷ read_handle 1 1 0 16
    ∷ read_handle 1 1 3 16
    ∷ open_file 1 file_a to_read all_shared Create
    ∷ close_handle 1 1
    ∷ read_handle 1 1 0 16
    ∷ open_file 1 file_b to_read all_shared Existing
    ∷ finish_session 1 ∷ [])
    ≡ stamped 201 1 ∷ started 1 ∷ opened 1 true 2 0 ∷ Smb (answer.Wrote 3 3)
    ∷ Smb (answer.Bytes (0x68 ∷ 0x69 ∷ 0x0a ∷ [])) ∷ Smb (answer.Bytes []) ∷ Refused (refusal.NameThere 2)
    ∷ Smb (answer.Closed fate.Kept) ∷ no_handle 1 1 ∷ Refused refusal.NameAbsent ∷ Smb (answer.Ended 0) ∷ []

-- Names are the same by their full case folding: what was made with a sharp s is found in capitals.
abbrev pub NamesAreComparedFolded : Type 0
NamesAreComparedFolded =
    replies_from empty (
    make_share 5120 ∷ make_file sharp_s 0
    ∷ read_properties double_s ∷ [])
    ≡ stamped 201 1 ∷ file_made 2 2 1 ∷ properties 2 2 0 ∷ []

-- The first check that applies is the answer: of a write over REST that a lease, an open and a lock forbid and that
-- begins past the end, the lease is told first, then the open, then the lock, then the range.
abbrev pub TheFirstCheckIsTold : Type 0
TheFirstCheckIsTold =
    replies_from empty (
    make_share 5120 ∷ make_file file_a 4
    ∷ lease_on file_a (Acquire (Some (record { 0 = 7 })))
    ∷ start_session
    ∷ open_file 1 file_a to_read reading_shared Existing
    ∷ open_file 1 file_a to_read all_shared Existing
    ∷ lock_handle 1 2 0 8 false
    ∷ update_file file_a 4 (0x61 ∷ []) None
    ∷ update_file file_a 4 (0x61 ∷ []) (Some (record { 0 = 7 }))
    ∷ close_handle 1 1
    ∷ update_file file_a 4 (0x61 ∷ []) (Some (record { 0 = 7 }))
    ∷ close_handle 1 2
    ∷ update_file file_a 4 (0x61 ∷ []) (Some (record { 0 = 7 })) ∷ [])
    ≡ stamped 201 1 ∷ file_made 2 2 1 ∷ LeaseDone 201 (stamp_at 2) (Some (record { 0 = 7 })) ∷ started 1
    ∷ opened 1 false 2 4 ∷ opened 2 false 2 4 ∷ Smb answer.Locked ∷ Refused refusal.LeaseHeld ∷ shared_by 1 1
    ∷ Smb (answer.Closed fate.Kept) ∷ locked_by 1 2 0 8 false ∷ Smb (answer.Closed fate.Kept)
    ∷ Refused (refusal.OutOfFile 4) ∷ []
