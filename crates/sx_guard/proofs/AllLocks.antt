-- The locks of all files in one list, against a map from nodes to their locks: the laws by which a book that speaks of the list is
-- kept as the map.
use Rattle.std.proofs.Common.{◌≡◌, ◌⊎◌, inl, inr, ⊎_elim, ℕ, ◌<◌, ◌==◌, ◌&&◌, Bool, true, false, not, if◌then◌else◌, List, [], ◌∷◌, ◌++◌, Option, Some, None, All, filter, find, get_or, map, option_map, refl, ap, sym, ◌∙◌, subst, arith, append-nil}
use Rattle.std.specs.List.{list_any, AllByRecursion}
use Rattle.std.specs.List.Sorted.{IsStrictlySortedBy}
use Rattle.std.specs.BTreeMap.{insert_entry, is_at}
use Rattle.std.specs.Map.{keys_of, lookup}
use Rattle.std.proofs.Common.{Less, Equal, Greater}
use Rattle.std.specs.Ordering.{nat_cmp}
use Rattle.std.specs.Cmp.{nat_cmp_is}
use Rattle.std.proofs.lemmas.Bool.{cases_order}
use Rattle.std.proofs.lemmas.Bool.Decides.{nat_tests}
use Rattle.std.proofs.lemmas.List.{map-append}
use Rattle.std.proofs.lemmas.List.Elements.{All-append, All-head, All-map, All-nil, All-tail, All-weaker, filter-append}
use Rattle.sx_guard.specs.Ordered.{insert_by, remove_first}
use Rattle.sx_guard.specs.Locks.{RangeLock, lock_before}
use Rattle.sx_guard.specs.AllLocks.{NodeLock, lock_on, is_on, is_on_and, node_lock_before, locks_on, locks_at, all_locks}
use Rattle.sx_guard.proofs.Pairs.{find-listed}
use Rattle.sx_guard.proofs.Places.{filter-all}
use Rattle.sx_guard.proofs.Parts.{part_find, part_any}
use Rattle.sx_guard.proofs.Views.{insert_by-behind, insert_by-map, insert_by-same, insert_by-within}

same_node : (n : ℕ) → (n == n) ≡ true
same_node n = grind (arith, nat_tests)

same_of : (n m : ℕ) → (n == m) ≡ true → m ≡ n
same_of n m e = grind (arith, nat_tests)

other_above : (n m : ℕ) → n < m → (n == m) ≡ false
other_above n m l = grind (arith, nat_tests)

other_below : (n m : ℕ) → m < n → (n == m) ≡ false
other_below n m l = grind (arith, nat_tests)

-- what a found lock is, where it is on the node
found_on : (node : ℕ) (o : Option NodeLock) → ((l : NodeLock) → o ≡ Some l → is_on node l ≡ true) → o ≡ option_map (lock_on node) (option_map (λ l. l.lock) o)
found_on node None on = refl
found_on node (Some l) on = ap (λ n. let o : Option NodeLock = Some (record { node = n; lock = l.lock }) in o) (same_of node l.node (on l refl))

both : (a b : Bool) → (a && b) ≡ true → a ≡ true
both true b e = refl
both false b e = e

-- the first lock on a node that passes is the first of the node's locks that passes
pub find_on : (node : ℕ) (test : RangeLock → Bool) (all : List NodeLock) → find (is_on_and node test) all ≡ option_map (lock_on node) (find test (locks_on node all))
find_on node test all =
    found_on node (find (is_on_and node test) all) (λ l e. both (is_on node l) (test l.lock) (find-listed (is_on_and node test) all l e).1)
    ∙ ap (option_map (lock_on node)) (sym (part_find (is_on node) (λ l. l.lock) test all))

-- some lock on a node passes where some of the node's locks does
pub any_on : (node : ℕ) (test : RangeLock → Bool) (all : List NodeLock) → list_any (is_on_and node test) all ≡ list_any test (locks_on node all)
any_on node test all = sym (part_any (is_on node) (λ l. l.lock) test all)

less_of : (a b : ℕ) → nat_cmp a b ≡ Less → a < b
less_of a b e =
    ⊎_elim (λ same. absurd (cc (e, nat_cmp_is a b Equal same)))
    (λ differ. ⊎_elim (λ l. l) (λ g. absurd (cc (e, nat_cmp_is a b Greater g))) differ)
    (cases_order a b)

all_less : (k : ℕ) (ks : List ℕ) → AllByRecursion (λ y. nat_cmp k y ≡ Less) ks → AllByRecursion (λ y. k < y) ks
all_less k [] h = tt
all_less k (x ∷ xs) h = (less_of k x h.0, all_less k xs h.1)

all_below : (n k : ℕ) (ks : List ℕ) → n < k → AllByRecursion (λ y. k < y) ks → AllByRecursion (λ y. n < y) ks
all_below n k [] l h = tt
all_below n k (x ∷ xs) l h = (let g = h.0 in omega arith, all_below n k xs l h.1)

-- all locks of nodes above one are on nodes above it
above : (node : ℕ) (es : List (ℕ × List RangeLock)) → AllByRecursion (λ k. node < k) (keys_of es) → All (λ l. node < l.node) (all_locks es)
above node [] h = All-nil (λ (l : NodeLock). node < l.node)
above node (e ∷ es) h =
    All-append (λ (l : NodeLock). node < l.node) (map (lock_on e.0) e.1) (all_locks es)
    (All-map (λ (l : NodeLock). node < l.node) (lock_on e.0) e.1 (λ k d l. h.0)) (above node es h.1)

-- a node below all keys has no locks
absent : (node : ℕ) (es : List (ℕ × List RangeLock)) → AllByRecursion (λ k. node < k) (keys_of es) → lookup (is_at (nat_cmp node)) es ≡ None
absent node [] h = refl
absent node (e ∷ es) h = rw (sym (nat_cmp_is node e.0 Less h.0)) (absent node es h.1)

-- A change of the list of all that changes the locks of one node alone is a change of that node's entry.
module _ (node : ℕ) (f : List RangeLock → List RangeLock) (F : List NodeLock → List NodeLock)
    (own : (ls : List RangeLock) (rest : List NodeLock) → All (λ l. node < l.node) rest → F (map (lock_on node) ls ++ rest) ≡ map (lock_on node) (f ls) ++ rest)
    (other : (k : ℕ) (ls : List RangeLock) (rest : List NodeLock) → k < node → F (map (lock_on k) ls ++ rest) ≡ map (lock_on k) ls ++ F rest)
  where
    by_order : (e : ℕ × List RangeLock) (es : List (ℕ × List RangeLock)) → IsStrictlySortedBy nat_cmp (keys_of (e ∷ es))
        → F (all_locks es) ≡ all_locks (insert_entry nat_cmp es node (f (locks_at node es)))
        → (node ≡ e.0) ⊎ ((node < e.0) ⊎ (e.0 < node))
        → F (all_locks (e ∷ es)) ≡ all_locks (insert_entry nat_cmp (e ∷ es) node (f (locks_at node (e ∷ es))))
    unfolding IsStrictlySortedBy
    by_order e es sorted rest (inl same) =
        let later : All (λ l. node < l.node) (all_locks es) = above node es (subst (λ n. AllByRecursion (λ y. n < y) (keys_of es)) (sym same) (all_less e.0 (keys_of es) sorted.0)) in
        rw (sym (nat_cmp_is node e.0 Equal same)) (subst (λ n. F (map (lock_on n) e.1 ++ all_locks es) ≡ map (lock_on n) (f e.1) ++ all_locks es) same (own e.1 (all_locks es) later))
    by_order e es sorted rest (inr (inl less)) =
        let later = all_below node e.0 (keys_of es) less (all_less e.0 (keys_of es) sorted.0) in
        rw (sym (nat_cmp_is node e.0 Less less), absent node es later) (own [] (all_locks (e ∷ es)) (above node (e ∷ es) (less, later)))
    by_order e es sorted rest (inr (inr greater)) =
        rw (sym (nat_cmp_is node e.0 Greater greater)) (other e.0 e.1 (all_locks es) greater ∙ ap (λ all. map (lock_on e.0) e.1 ++ all) rest)

    pub change_on : (es : List (ℕ × List RangeLock)) → IsStrictlySortedBy nat_cmp (keys_of es) → F (all_locks es) ≡ all_locks (insert_entry nat_cmp es node (f (locks_at node es)))
    unfolding IsStrictlySortedBy
    change_on [] sorted = own [] [] (All-nil (λ (l : NodeLock). node < l.node))
    change_on (e ∷ es) sorted = by_order e es sorted (change_on es sorted.1) (cases_order node e.0)

after_lower : (node k : ℕ) (l a : RangeLock) → k < node → node_lock_before (lock_on node l) (lock_on k a) ≡ false
after_lower node k l a less = grind (arith, nat_tests)

before_higher : (node : ℕ) (l : RangeLock) (y : NodeLock) → node < y.node → node_lock_before (lock_on node l) y ≡ true
before_higher node l y less = grind (arith, nat_tests)

among_node : (node : ℕ) (a b : RangeLock) → node_lock_before (lock_on node a) (lock_on node b) ≡ lock_before a b
among_node node a b = grind (arith, nat_tests)

-- a lock put in its place among all is put in its place among its node's
pub insert_on : (node : ℕ) (l : RangeLock) (es : List (ℕ × List RangeLock)) → IsStrictlySortedBy nat_cmp (keys_of es)
    → insert_by node_lock_before (lock_on node l) (all_locks es) ≡ all_locks (insert_entry nat_cmp es node (insert_by lock_before l (locks_at node es)))
insert_on node l es sorted = change_on node (insert_by lock_before l) (insert_by node_lock_before (lock_on node l))
    (λ ls rest later. insert_by-within node_lock_before (lock_on node l) (map (lock_on node) ls) rest
    (All-weaker (λ y. node < y.node) (λ y. node_lock_before (lock_on node l) y ≡ true) (λ y. before_higher node l y) rest later)
    ∙ ap (λ zs. zs ++ rest) (insert_by-map (lock_on node) node_lock_before l ls
    ∙ ap (map (lock_on node)) (insert_by-same (λ a b. node_lock_before (lock_on node a) (lock_on node b)) lock_before l ls (λ k d _. among_node node l (get_or ls k d)))))
    (λ k ls rest less. insert_by-behind node_lock_before (lock_on node l) (map (lock_on k) ls) rest
    (All-map (λ y. node_lock_before (lock_on node l) y ≡ false) (lock_on k) ls (λ i d _. after_lower node k l (get_or ls i d) less)))
    es sorted

remove_own : (node : ℕ) (test : RangeLock → Bool) (x : RangeLock) (b : Bool) (xs : List RangeLock) (rest : List NodeLock) → test x ≡ b
    → remove_first (is_on_and node test) (map (lock_on node) xs ++ rest) ≡ map (lock_on node) (remove_first test xs) ++ rest
    → remove_first (is_on_and node test) (map (lock_on node) (x ∷ xs) ++ rest) ≡ map (lock_on node) (if b then xs else x ∷ remove_first test xs) ++ rest
remove_own node test x true xs rest is e = rw (same_node node, is) refl
remove_own node test x false xs rest is e = rw (same_node node, is) (ap (λ zs. lock_on node x ∷ zs) e)

remove_above : (node : ℕ) (test : RangeLock → Bool) (rest : List NodeLock) → All (λ l. node < l.node) rest → remove_first (is_on_and node test) rest ≡ rest
remove_above node test [] later = refl
remove_above node test (l ∷ ls) later =
    rw (other_above node l.node (All-head (λ l. node < l.node) l ls later)) (ap (λ zs. l ∷ zs) (remove_above node test ls (All-tail (λ l. node < l.node) l ls later)))

remove_node : (node : ℕ) (test : RangeLock → Bool) (ls : List RangeLock) (rest : List NodeLock) → All (λ l. node < l.node) rest
    → remove_first (is_on_and node test) (map (lock_on node) ls ++ rest) ≡ map (lock_on node) (remove_first test ls) ++ rest
remove_node node test [] rest later = remove_above node test rest later
remove_node node test (x ∷ xs) rest later = remove_own node test x (test x) xs rest refl (remove_node node test xs rest later)

remove_other : (node : ℕ) (test : RangeLock → Bool) (k : ℕ) (ls : List RangeLock) (rest : List NodeLock) → k < node
    → remove_first (is_on_and node test) (map (lock_on k) ls ++ rest) ≡ map (lock_on k) ls ++ remove_first (is_on_and node test) rest
remove_other node test k [] rest less = refl
remove_other node test k (x ∷ xs) rest less = rw (other_below node k less) (ap (λ zs. lock_on k x ∷ zs) (remove_other node test k xs rest less))

-- the first lock on a node that passes, removed from all, is removed from its node's
pub remove_on : (node : ℕ) (test : RangeLock → Bool) (es : List (ℕ × List RangeLock)) → IsStrictlySortedBy nat_cmp (keys_of es)
    → remove_first (is_on_and node test) (all_locks es) ≡ all_locks (insert_entry nat_cmp es node (remove_first test (locks_at node es)))
remove_on node test es sorted = change_on node (remove_first test) (remove_first (is_on_and node test)) (remove_node node test) (remove_other node test) es sorted

drop_own : (node : ℕ) (test : RangeLock → Bool) (x : RangeLock) (b : Bool) (xs : List RangeLock) (rest : List NodeLock) → test x ≡ b
    → filter (λ l. not (is_on_and node test l)) (map (lock_on node) xs ++ rest) ≡ map (lock_on node) (filter (λ y. not (test y)) xs) ++ rest
    → filter (λ l. not (is_on_and node test l)) (map (lock_on node) (x ∷ xs) ++ rest) ≡ map (lock_on node) (if not b then x ∷ filter (λ y. not (test y)) xs else filter (λ y. not (test y)) xs) ++ rest
drop_own node test x true xs rest is e = rw (same_node node, is) e
drop_own node test x false xs rest is e = rw (same_node node, is) (ap (λ zs. lock_on node x ∷ zs) e)

not_on : (node : ℕ) (test : RangeLock → Bool) (l : NodeLock) → node < l.node → not (is_on_and node test l) ≡ true
not_on node test l less = rw (other_above node l.node less) refl

drop_node : (node : ℕ) (test : RangeLock → Bool) (ls : List RangeLock) (rest : List NodeLock) → All (λ l. node < l.node) rest
    → filter (λ l. not (is_on_and node test l)) (map (lock_on node) ls ++ rest) ≡ map (lock_on node) (filter (λ y. not (test y)) ls) ++ rest
drop_node node test [] rest later = filter-all (λ l. not (is_on_and node test l)) rest (All-weaker (λ l. node < l.node) (λ l. not (is_on_and node test l) ≡ true) (λ l. not_on node test l) rest later)
drop_node node test (x ∷ xs) rest later = drop_own node test x (test x) xs rest refl (drop_node node test xs rest later)

drop_other : (node : ℕ) (test : RangeLock → Bool) (k : ℕ) (ls : List RangeLock) (rest : List NodeLock) → k < node
    → filter (λ l. not (is_on_and node test l)) (map (lock_on k) ls ++ rest) ≡ map (lock_on k) ls ++ filter (λ l. not (is_on_and node test l)) rest
drop_other node test k [] rest less = refl
drop_other node test k (x ∷ xs) rest less = rw (other_below node k less) (ap (λ zs. lock_on k x ∷ zs) (drop_other node test k xs rest less))

-- the locks on a node that pass, removed from all, are removed from its node's
pub drop_on : (node : ℕ) (test : RangeLock → Bool) (es : List (ℕ × List RangeLock)) → IsStrictlySortedBy nat_cmp (keys_of es)
    → filter (λ l. not (is_on_and node test l)) (all_locks es) ≡ all_locks (insert_entry nat_cmp es node (filter (λ y. not (test y)) (locks_at node es)))
drop_on node test es sorted = change_on node (filter (λ y. not (test y))) (filter (λ l. not (is_on_and node test l))) (drop_node node test) (drop_other node test) es sorted

filter_node : (keep : RangeLock → Bool) (node : ℕ) (ls : List RangeLock) → filter (λ l. keep l.lock) (map (lock_on node) ls) ≡ map (lock_on node) (filter keep ls)
filter_node keep node [] = refl
filter_node keep node (x ∷ xs) = by_keep keep node x (keep x) xs (filter_node keep node xs)
  where
    by_keep : (keep : RangeLock → Bool) (node : ℕ) (x : RangeLock) (b : Bool) (xs : List RangeLock) → filter (λ l. keep l.lock) (map (lock_on node) xs) ≡ map (lock_on node) (filter keep xs)
        → (if b then lock_on node x ∷ filter (λ l. keep l.lock) (map (lock_on node) xs) else filter (λ l. keep l.lock) (map (lock_on node) xs)) ≡ map (lock_on node) (if b then x ∷ filter keep xs else filter keep xs)
    by_keep keep node x true xs e = ap (λ zs. lock_on node x ∷ zs) e
    by_keep keep node x false xs e = e

-- the locks that pass on every node are those that pass among all
pub filter_all_locks : (keep : RangeLock → Bool) (es : List (ℕ × List RangeLock)) → filter (λ l. keep l.lock) (all_locks es) ≡ all_locks (map (λ e. (e.0, filter keep e.1)) es)
filter_all_locks keep [] = refl
filter_all_locks keep (e ∷ es) =
    filter-append (λ (l : NodeLock). keep l.lock) (map (lock_on e.0) e.1) (all_locks es)
    ∙ (λ j. filter_node keep e.0 e.1 j ++ filter_all_locks keep es j)

-- the locks of a node, seen in the list of all, are those of its entry in the map
part_own : (node : ℕ) (ls : List RangeLock) → locks_on node (map (lock_on node) ls) ≡ ls
part_own node [] = refl
part_own node (x ∷ xs) = rw (same_node node) (ap (λ zs. x ∷ zs) (part_own node xs))

part_other : (node k : ℕ) (ls : List RangeLock) → (node == k) ≡ false → locks_on node (map (lock_on k) ls) ≡ []
part_other node k [] e = refl
part_other node k (x ∷ xs) e = rw e (part_other node k xs e)

part_above : (node : ℕ) (all : List NodeLock) → All (λ l. node < l.node) all → locks_on node all ≡ []
part_above node [] later = refl
part_above node (l ∷ ls) later = rw (other_above node l.node (All-head (λ l. node < l.node) l ls later)) (part_above node ls (All-tail (λ l. node < l.node) l ls later))

part_append : (node : ℕ) (xs ys : List NodeLock) → locks_on node (xs ++ ys) ≡ locks_on node xs ++ locks_on node ys
part_append node xs ys = ap (map (λ l. l.lock)) (filter-append (is_on node) xs ys) ∙ map-append (λ l. l.lock) (filter (is_on node) xs) (filter (is_on node) ys)

at_by : (node : ℕ) (e : ℕ × List RangeLock) (es : List (ℕ × List RangeLock)) → IsStrictlySortedBy nat_cmp (keys_of (e ∷ es))
    → locks_on node (all_locks es) ≡ locks_at node es
    → (node ≡ e.0) ⊎ ((node < e.0) ⊎ (e.0 < node))
    → locks_on node (all_locks (e ∷ es)) ≡ locks_at node (e ∷ es)
unfolding IsStrictlySortedBy
at_by node e es sorted rest (inl same) =
    let later : All (λ l. node < l.node) (all_locks es) = above node es (subst (λ n. AllByRecursion (λ y. n < y) (keys_of es)) (sym same) (all_less e.0 (keys_of es) sorted.0)) in
    rw (sym (nat_cmp_is node e.0 Equal same)) (part_append node (map (lock_on e.0) e.1) (all_locks es)
    ∙ (λ j. subst (λ n. locks_on node (map (lock_on n) e.1) ≡ e.1) same (part_own node e.1) j ++ part_above node (all_locks es) later j) ∙ append-nil e.1)
at_by node e es sorted rest (inr (inl less)) =
    let later = all_below node e.0 (keys_of es) less (all_less e.0 (keys_of es) sorted.0) in
    rw (sym (nat_cmp_is node e.0 Less less), absent node es later) (part_above node (all_locks (e ∷ es)) (above node (e ∷ es) (less, later)))
at_by node e es sorted rest (inr (inr greater)) =
    rw (sym (nat_cmp_is node e.0 Greater greater)) (part_append node (map (lock_on e.0) e.1) (all_locks es)
    ∙ (λ j. part_other node e.0 e.1 (other_below node e.0 greater) j ++ rest j))

pub locks_on_at : (node : ℕ) (es : List (ℕ × List RangeLock)) → IsStrictlySortedBy nat_cmp (keys_of es) → locks_on node (all_locks es) ≡ locks_at node es
unfolding IsStrictlySortedBy
locks_on_at node [] sorted = refl
locks_on_at node (e ∷ es) sorted = at_by node e es sorted (locks_on_at node es sorted.1) (cases_order node e.0)
