-- The orders of handles and of locks.
use Rattle.std.proofs.Common.{◌≡◌, true, false, arith}
use Rattle.std.proofs.lemmas.Bool.Decides.{nat_tests}
use Rattle.sx_guard.specs.Handle.{Handle}
use Rattle.sx_guard.specs.Locks.{RangeLock}
use Rattle.sx_guard.specs.Handle.{same_handle, handle_before}
use Rattle.sx_guard.specs.Locks.{lock_before, forbids_lock}

-- no handle comes before itself
pub handle_same : (a : Handle) → handle_before a a ≡ false
handle_same a = grind (arith, nat_tests)

-- of two handles one comes first at most
pub handle_one_way : (a b : Handle) → handle_before a b ≡ true → handle_before b a ≡ false
handle_one_way a b h = grind (arith, nat_tests)

-- the order of handles chains
pub handle_chain : (a b c : Handle) → handle_before a b ≡ true → handle_before b c ≡ true → handle_before a c ≡ true
handle_chain a b c h k = grind (arith, nat_tests)

-- of two handles that differ one comes first
pub handle_total : (a b : Handle) → same_handle a b ≡ false → handle_before a b ≡ false → handle_before b a ≡ true
handle_total a b h k = grind (arith, nat_tests)

-- a handle comes before no other that is the same
pub handle_differs : (h a b : Handle) → handle_before a b ≡ true → same_handle h a ≡ true → same_handle h b ≡ false
handle_differs h a b o s = grind (arith, nat_tests)

-- no lock comes before itself
pub lock_same : (a : RangeLock) → lock_before a a ≡ false
lock_same a = grind (arith, nat_tests)

-- of two locks one comes first at most
pub lock_one_way : (a b : RangeLock) → lock_before a b ≡ true → lock_before b a ≡ false
lock_one_way a b h = grind (arith, nat_tests)

-- what doesn't come before a lock doesn't come before one in front of it
pub lock_behind : (a b c : RangeLock) → lock_before a b ≡ true → lock_before c b ≡ false → lock_before c a ≡ false
lock_behind a b c h k = grind (arith, nat_tests)

-- a lock forbids another where that forbids it
pub forbids_back : (a b : RangeLock) → forbids_lock b.exclusive b.from b.end a ≡ false → forbids_lock a.exclusive a.from a.end b ≡ false
forbids_back a b h = grind (arith, nat_tests)
