-- The orders in which locks stand by node, and opens by handle or by node and handle: what a search by halving and an insert ask of them.
use Rattle.std.proofs.Common.{◌≡◌, sym, ℕ, ◌≤◌, nat_lt, ◌==◌, ◌&&◌, ◌||◌, Bool, true, false, refl, arith}
use Rattle.std.proofs.lemmas.Bool.Decides.{nat_tests}
use Rattle.sx_guard.specs.Handle.{Handle, same_handle, handle_before}
use Rattle.sx_guard.specs.Locks.{RangeLock, lock_before}

differ : true ≡ false → ⊥
differ e = cc

-- an order by node, and at one node by another order
abbrev pub node_first : ℕ → ℕ → Bool → Bool
node_first n m b = nat_lt n m || (n == m && b)

-- where an item doesn't come before another, that one's node isn't above its own
pub nodes_rise : (n m : ℕ) (b : Bool) → node_first m n b ≡ false → n ≤ m
nodes_rise n m b e = grind (arith, nat_tests)

-- at one node the other order decides
pub at_one_node : (id n m : ℕ) (b : Bool) → (n == id) ≡ true → (m == id) ≡ true → node_first n m b ≡ b
at_one_node id n m true e f = grind (arith, nat_tests)
at_one_node id n m false e f = grind (arith, nat_tests)

-- the order by node and handle: one way, and past what it is before
pub node_handle_one_way : (n m : ℕ) (h k : Handle) → node_first n m (handle_before h k) ≡ true → node_first m n (handle_before k h) ≡ false
node_handle_one_way n m h k e = grind (arith, nat_tests)

pub node_handle_past : (n m p : ℕ) (h k l : Handle) → node_first n m (handle_before h k) ≡ true → node_first p m (handle_before l k) ≡ false → node_first n p (handle_before h l) ≡ true
node_handle_past n m p h k l e f = grind (arith, nat_tests)

-- the order of locks: one way
pub node_lock_one_way : (n m : ℕ) (a b : RangeLock) → node_first n m (lock_before a b) ≡ true → node_first m n (lock_before b a) ≡ false
node_lock_one_way n m a b e = grind (arith, nat_tests)

-- an order by node goes past what the other order goes past
pub past_by : (n m p : ℕ) (x y z : Bool) → (x ≡ true → y ≡ false → z ≡ true) → node_first n m x ≡ true → node_first p m y ≡ false → node_first n p z ≡ true
past_by n m p x true true law e f = grind (arith, nat_tests)
past_by n m p x false true law e f = grind (arith, nat_tests)
past_by n m p true true false law e f = grind (arith, nat_tests)
past_by n m p true false false law e f = absurd (differ (sym (law refl refl)))
past_by n m p false true false law e f = grind (arith, nat_tests)
past_by n m p false false false law e f = grind (arith, nat_tests)

-- what doesn't come before an item doesn't come before one in front of it
pub behind_by : (n m p : ℕ) (x y z : Bool) → (x ≡ true → y ≡ false → z ≡ false) → node_first n m x ≡ true → node_first p m y ≡ false → node_first p n z ≡ false
behind_by n m p x y false law e f = grind (arith, nat_tests)
behind_by n m p true true true law e f = grind (arith, nat_tests)
behind_by n m p false true true law e f = grind (arith, nat_tests)
behind_by n m p true false true law e f = absurd (differ (law refl refl))
behind_by n m p false false true law e f = grind (arith, nat_tests)

-- what an item doesn't come before comes before all that it comes before
pub front_by : (n m p : ℕ) (x y z : Bool) → (x ≡ true → y ≡ false → z ≡ true) → node_first m p x ≡ true → node_first m n y ≡ false → node_first n p z ≡ true
front_by n m p x y true law e f = grind (arith, nat_tests)
front_by n m p true true false law e f = grind (arith, nat_tests)
front_by n m p false true false law e f = grind (arith, nat_tests)
front_by n m p true false false law e f = absurd (differ (sym (law refl refl)))
front_by n m p false false false law e f = grind (arith, nat_tests)

-- what stands in front of a handle isn't that handle's, and nothing is behind what isn't in front of it
pub not_in_front : (h k : Handle) → handle_before k h ≡ true → same_handle h k ≡ false
not_in_front h k e = grind (arith, nat_tests)

pub not_behind : (h k l : Handle) → handle_before k l ≡ true → handle_before k h ≡ false → same_handle h l ≡ false
not_behind h k l e f = grind (arith, nat_tests)

-- of two items that differ in node or handle one comes first
pub nodes_total : (n m : ℕ) (h k : Handle) → (m == n && same_handle h k) ≡ false → node_first n m (handle_before h k) ≡ false → node_first m n (handle_before k h) ≡ true
nodes_total n m h k e f = grind (arith, nat_tests)
