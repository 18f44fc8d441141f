-- The worked examples, closed by computation.
use Rattle.std.proofs.Common.{refl}
use Rattle.sx_spec.specs.Runs.{AByteIsLocked, ADirectoryIsNotEmpty, AFileIsDeletedOnClose, AFileWithAnOpenIsMadeAnew}
use Rattle.sx_spec.specs.Runs.{AHolderMeetsItsOwnSharedLock, ALeaseMeetsAnOpen, AParentIsPending}
use Rattle.sx_spec.specs.Runs.{ASessionWritesAndReads, ASnapshotAsksNothingOfOthers, AWritePassesTheQuota}
use Rattle.sx_spec.specs.Runs.{EnoughIsShared, HandlesAreClosedByScope, NamesAreComparedFolded, NoReadingIsShared}
use Rattle.sx_spec.specs.Runs.{TheFirstCheckIsTold, TooLittleIsShared, TwoSnapshotsAtOneMoment}
use Rattle.sx_spec.proofs.Computing.{account}

pub enough_is_shared : EnoughIsShared
unfolding account
enough_is_shared = refl

pub too_little_is_shared : TooLittleIsShared
unfolding account
too_little_is_shared = refl

pub no_reading_is_shared : NoReadingIsShared
unfolding account
no_reading_is_shared = refl

pub a_holder_meets_its_own_shared_lock : AHolderMeetsItsOwnSharedLock
unfolding account
a_holder_meets_its_own_shared_lock = refl

pub a_byte_is_locked : AByteIsLocked
unfolding account
a_byte_is_locked = refl

pub a_file_is_deleted_on_close : AFileIsDeletedOnClose
unfolding account
a_file_is_deleted_on_close = refl

pub a_lease_meets_an_open : ALeaseMeetsAnOpen
unfolding account
a_lease_meets_an_open = refl

pub two_snapshots_at_one_moment : TwoSnapshotsAtOneMoment
unfolding account
two_snapshots_at_one_moment = refl

pub a_snapshot_asks_nothing_of_others : ASnapshotAsksNothingOfOthers
unfolding account
a_snapshot_asks_nothing_of_others = refl

pub a_write_passes_the_quota : AWritePassesTheQuota
unfolding account
a_write_passes_the_quota = refl

pub a_directory_is_not_empty : ADirectoryIsNotEmpty
unfolding account
a_directory_is_not_empty = refl

pub a_parent_is_pending : AParentIsPending
unfolding account
a_parent_is_pending = refl

pub a_file_with_an_open_is_made_anew : AFileWithAnOpenIsMadeAnew
unfolding account
a_file_with_an_open_is_made_anew = refl

pub handles_are_closed_by_scope : HandlesAreClosedByScope
unfolding account
handles_are_closed_by_scope = refl

pub a_session_writes_and_reads : ASessionWritesAndReads
unfolding account
a_session_writes_and_reads = refl

pub names_are_compared_folded : NamesAreComparedFolded
unfolding account
names_are_compared_folded = refl

pub the_first_check_is_told : TheFirstCheckIsTold
unfolding account
the_first_check_is_told = refl
