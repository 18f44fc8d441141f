-- The locks of the account in their order: what puts and takes keep, and where a lock and a node's locks stand.
use Rattle.std.proofs.Common.{◌≡◌, ◌∙◌, sym, ap, refl, ℕ, ◌+◌, ◌≤◌, nat_lt, ◌==◌, ◌&&◌, ◌||◌, Bool, true, false, not, List, Some, None, take, drop, filter, find, length, position, AllPairs, arith}
use Rattle.std.specs.List.{list_any, prefix_len, position_or_len}
use Rattle.std.specs.List.Sorted.{IsPartitionedBy}
use Rattle.std.proofs.lemmas.Bool.Decides.{nat_tests}
use Rattle.sx_guard.specs.Ordered.{insert_by}
use Rattle.sx_guard.specs.Locks.{RangeLock, lock_before}
use Rattle.sx_guard.proofs.Pairs.{AllPairs-weaker, AllPairs-insert_by}
use Rattle.sx_guard.proofs.Places.{first_place, place-Some, place-None}
use Rattle.sx_call.specs.declared.opens.Lock.{Lock}
use Rattle.sx_spec.specs.declared.checks.LockAsk.{LockAsk}
use Rattle.sx_spec.specs.declared.checks.LockAsk.TheVariants.{AnyLocks, Touching, NewLock, OldLock}
use Rattle.sx_spec.specs.Changes.{comes_before}
use Rattle.sx_spec.specs.Checks.{lock_forbids, same_lock}
use Rattle.sx_state.specs.Guards.{AreLocks, asked_node, is_lock_on}
use Rattle.sx_state.proofs.Runs.{parted, run_is, run_ends, run_place, position_at, any_within, find_within, Rises, key_run, key_ends, below_parts, upto_parts}
use Rattle.sx_state.proofs.RowOrders.{node_first, nodes_rise, node_lock_one_way, past_by, behind_by, front_by}

differ : true ≡ false → ⊥
differ e = cc

-- The order of locks.
one_way : (a b : Lock) → comes_before a b ≡ true → comes_before b a ≡ false
one_way a b e = node_lock_one_way a.node b.node a.held b.held e

lock_behind : (a b c : RangeLock) → lock_before a b ≡ true → lock_before c b ≡ false → lock_before c a ≡ false
lock_behind a b c h k = grind (arith, nat_tests)

-- the order by handle, start and end is that by session, index, start and end
lex : RangeLock → RangeLock → Bool
lex a b =
    node_first a.handle.session b.handle.session
    (node_first a.handle.index b.handle.index (node_first a.from b.from (nat_lt a.end b.end)))

shape : (p q r t x : Bool) → ((p || (q && r)) || ((q && t) && x)) ≡ (p || (q && (r || (t && x))))
shape true q r t x = refl
shape false false r t x = refl
shape false true r t x = refl

lex_is : (a b : RangeLock) → lock_before a b ≡ lex a b
unfolding lex
lex_is a b =
    shape (nat_lt a.handle.session b.handle.session) (a.handle.session == b.handle.session) (nat_lt a.handle.index b.handle.index)
    (a.handle.index == b.handle.index) (nat_lt a.from b.from || (a.from == b.from && nat_lt a.end b.end))

end_past : (n m p : ℕ) → nat_lt n m ≡ true → nat_lt p m ≡ false → nat_lt n p ≡ true
end_past n m p e f = grind (arith, nat_tests)

end_front : (n m p : ℕ) → nat_lt m p ≡ true → nat_lt m n ≡ false → nat_lt n p ≡ true
end_front n m p e f = grind (arith, nat_tests)

lex_past : (a b c : RangeLock) → lex a b ≡ true → lex c b ≡ false → lex a c ≡ true
unfolding lex
lex_past a b c h k =
    past_by a.handle.session b.handle.session c.handle.session _ _ _
    (past_by a.handle.index b.handle.index c.handle.index _ _ _ (past_by a.from b.from c.from _ _ _ (end_past a.end b.end c.end))) h k

lex_front : (a b c : RangeLock) → lex b c ≡ true → lex b a ≡ false → lex a c ≡ true
unfolding lex
lex_front a b c h k =
    front_by a.handle.session b.handle.session c.handle.session _ _ _
    (front_by a.handle.index b.handle.index c.handle.index _ _ _ (front_by a.from b.from c.from _ _ _ (end_front a.end b.end c.end))) h k

lock_past : (a b c : RangeLock) → lock_before a b ≡ true → lock_before c b ≡ false → lock_before a c ≡ true
lock_past a b c h k = lex_is a c ∙ lex_past a b c (sym (lex_is a b) ∙ h) (sym (lex_is c b) ∙ k)

lock_front : (a b c : RangeLock) → lock_before b c ≡ true → lock_before b a ≡ false → lock_before a c ≡ true
lock_front a b c h k = lex_is a c ∙ lex_front a b c (sym (lex_is b c) ∙ h) (sym (lex_is b a) ∙ k)

behind : (a b c : Lock) → comes_before a b ≡ true → comes_before c b ≡ false → comes_before c a ≡ false
behind a b c h k = behind_by a.node b.node c.node (lock_before a.held b.held) (lock_before c.held b.held) (lock_before c.held a.held) (lock_behind a.held b.held c.held) h k

past : (a b c : Lock) → comes_before a b ≡ true → comes_before c b ≡ false → comes_before a c ≡ true
past a b c h k = past_by a.node b.node c.node (lock_before a.held b.held) (lock_before c.held b.held) (lock_before a.held c.held) (lock_past a.held b.held c.held) h k

front : (a b c : Lock) → comes_before b c ≡ true → comes_before b a ≡ false → comes_before a c ≡ true
front a b c h k = front_by a.node b.node c.node (lock_before b.held c.held) (lock_before b.held a.held) (lock_before a.held c.held) (lock_front a.held b.held c.held) h k

-- one more lock
pub AreLocks-put : (l : Lock) (ls : List Lock) → AreLocks ls → AreLocks (insert_by comes_before l ls)
AreLocks-put l ls kept =
    AllPairs-insert_by (λ a b. comes_before b a ≡ false) comes_before l ls (λ y e. one_way l y e) (λ y z e r. behind l y z e r) (λ k d m e. e) kept

-- A node's locks.
rises : (id : ℕ) (ls : List Lock) → AreLocks ls → AllPairs (Rises (λ (l : Lock). l.node) id) ls
rises id ls kept =
    AllPairs-weaker (λ a b. comes_before b a ≡ false) (Rises (λ (l : Lock). l.node) id) (λ a b r. nodes_rise a.node b.node (lock_before b.held a.held) r) ls kept

pub first_parts : (id : ℕ) (ls : List Lock) → AreLocks ls → IsPartitionedBy (λ l. nat_lt l.node id) ls
first_parts id ls kept = below_parts (λ (l : Lock). l.node) id ls (rises id ls kept)

pub past_parts : (id : ℕ) (ls : List Lock) → AreLocks ls → IsPartitionedBy (λ l. not (nat_lt id l.node)) ls
past_parts id ls kept = upto_parts (λ (l : Lock). l.node) id ls (rises id ls kept)

pub node_ends : (id : ℕ) (ls : List Lock) → prefix_len (λ l. nat_lt l.node id) ls ≤ prefix_len (λ l. not (nat_lt id l.node)) ls
node_ends id ls = key_ends (λ (l : Lock). l.node) id ls

pub node_run : (id : ℕ) (ls : List Lock) → AreLocks ls
    → filter (is_lock_on id) ls ≡ drop (prefix_len (λ l. nat_lt l.node id) ls) (take (prefix_len (λ l. not (nat_lt id l.node)) ls) ls)
node_run id ls kept = key_run (λ (l : Lock). l.node) id ls (rises id ls kept)

-- a lock that forbids what is asked is on the node that is asked about
both : (a b : Bool) → (a && b) ≡ true → a ≡ true
both a b e = grind (arith, nat_tests)

asked : (ask : LockAsk) (l : Lock) → lock_forbids ask l ≡ true → is_lock_on (asked_node ask) l ≡ true
asked AnyLocks l e = absurd (differ (sym e))
asked (Touching id by touch) l e = both _ _ e
asked (NewLock id from end exclusive) l e = both _ _ e
asked (OldLock old) l e = absurd (differ (sym e))

pub forbidding_on : (ask : LockAsk) (ls : List Lock) → find (lock_forbids ask) (filter (is_lock_on (asked_node ask)) ls) ≡ find (lock_forbids ask) ls
forbidding_on ask ls = find_within (is_lock_on (asked_node ask)) (lock_forbids ask) (asked ask) ls

-- A lock's place.
pub at_parts : (x : Lock) (ls : List Lock) → AreLocks ls → IsPartitionedBy (λ l. comes_before l x) ls
at_parts x ls kept = parted (λ a b. comes_before b a ≡ false) (λ l. comes_before l x) (λ a b r e. front a b x e r) ls kept

not_back : (a b : Bool) → (a ≡ true → b ≡ true) → not b ≡ true → not a ≡ true
not_back true true law e = absurd (differ (sym e))
not_back true false law e = absurd (differ (sym (law refl)))
not_back false b law e = refl

pub behind_parts : (x : Lock) (ls : List Lock) → AreLocks ls → IsPartitionedBy (λ l. not (comes_before x l)) ls
behind_parts x ls kept =
    parted (λ a b. comes_before b a ≡ false) (λ l. not (comes_before x l)) (λ a b r e. not_back (comes_before x a) (comes_before x b) (λ h. past x a b h r) e) ls kept

-- the locks that stand beside a lock: neither comes before the other
beside : Lock → Lock → Bool
beside x l = not (comes_before l x) && not (comes_before x l)

same_beside : (x l : Lock) → same_lock x l ≡ true → (comes_before l x ≡ false) × (comes_before x l ≡ false)
same_beside x l e = (grind (arith, nat_tests), grind (arith, nat_tests))

not_same : (x l : Lock) → comes_before l x ≡ true → same_lock x l ≡ false
not_same x l e = by (same_lock x l) refl
  where
    by : (b : Bool) → same_lock x l ≡ b → b ≡ false
    by true s = absurd (differ (sym e ∙ (same_beside x l s).0))
    by false s = refl

weak : (x l : Lock) → same_lock x l ≡ true → beside x l ≡ true
unfolding beside
weak x l s = rw ((same_beside x l s).0, (same_beside x l s).1) refl

no_not : (b : Bool) → not b ≡ false → b ≡ true
no_not true e = refl
no_not false e = absurd (differ e)

in_front : (x l : Lock) → comes_before l x ≡ true → (not (comes_before x l) ≡ true) × (beside x l ≡ false)
unfolding beside
in_front x l e = (ap not (one_way l x e), rw e refl)

within : (x l : Lock) → comes_before l x ≡ false → not (comes_before x l) ≡ true → beside x l ≡ true
unfolding beside
within x l e f = rw (e, f) refl

in_back : (x l : Lock) → not (comes_before x l) ≡ false → (comes_before l x ≡ false) × (beside x l ≡ false)
unfolding beside
in_back x l e = let back = one_way x l (no_not _ e) in (back, rw (back, e) refl)

low : (x a b : Lock) → comes_before b a ≡ false → comes_before a x ≡ false → comes_before b x ≡ false
low x a b r e = by (comes_before b x) refl
  where
    by : (t : Bool) → comes_before b x ≡ t → t ≡ false
    by true h = absurd (differ (sym (front a b x h r) ∙ e))
    by false h = refl

high : (x a b : Lock) → comes_before b a ≡ false → not (comes_before x a) ≡ false → not (comes_before x b) ≡ false
high x a b r e = ap not (past x a b (no_not _ e) r)

-- the locks between which a lock stands
abbrev pub run_beside : Lock → List Lock → List Lock
run_beside x ls = drop (prefix_len (λ l. comes_before l x) ls) (take (prefix_len (λ l. not (comes_before x l)) ls) ls)

pub lock_ends : (x : Lock) (ls : List Lock) → prefix_len (λ l. comes_before l x) ls ≤ prefix_len (λ l. not (comes_before x l)) ls
lock_ends x ls =
    run_ends (λ a b. comes_before b a ≡ false) (λ l. comes_before l x) (λ l. not (comes_before x l)) (beside x)
    (in_front x) (within x) (in_back x) (low x) (high x) ls

any_beside : (x : Lock) (ls : List Lock) → AreLocks ls → list_any (same_lock x) (run_beside x ls) ≡ list_any (same_lock x) ls
any_beside x ls kept =
    ap (list_any (same_lock x)) (sym (run_is (λ a b. comes_before b a ≡ false) (λ l. comes_before l x) (λ l. not (comes_before x l)) (beside x)
    (in_front x) (within x) (in_back x) (low x) (high x) ls kept))
    ∙ any_within (beside x) (same_lock x) (weak x) ls

-- a lock's place among those beside it tells its place among all
pub lock_there : (x : Lock) (ls : List Lock) (i : ℕ) → AreLocks ls → position (same_lock x) (run_beside x ls) ≡ Some i
    → position (same_lock x) ls ≡ Some (prefix_len (λ l. comes_before l x) ls + i)
lock_there x ls i kept e =
    let is = place-Some (same_lock x) (run_beside x ls) i e in
    position_at (same_lock x) ls (prefix_len (λ l. comes_before l x) ls + i)
    (first_place (same_lock x) ls ∙ sym (any_beside x ls kept) ∙ is.0)
    (run_place (λ l. comes_before l x) (λ l. not (comes_before x l)) (same_lock x) (λ l f. ((in_front x l f).0, not_same x l f)) ls is.0
    ∙ ap (λ (k : ℕ). prefix_len (λ l. comes_before l x) ls + k) (sym is.1))

pub lock_absent : (x : Lock) (ls : List Lock) → AreLocks ls → position (same_lock x) (run_beside x ls) ≡ None → position (same_lock x) ls ≡ None
lock_absent x ls kept e =
    let none : nat_lt (position_or_len (same_lock x) ls) (length ls) ≡ false =
    first_place (same_lock x) ls ∙ sym (any_beside x ls kept) ∙ place-None (same_lock x) (run_beside x ls) e in
    rw none refl
