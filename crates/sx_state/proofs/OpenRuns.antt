-- The opens of the account in their two orders: what puts, takes and marks keep, and what is found by node, handle and session.
use Rattle.std.proofs.Common.{◌≡◌, ◌∙◌, sym, ap, refl, ℕ, ◌<◌, ◌≤◌, nat_lt, ◌==◌, ◌&&◌, Bool, true, false, not, if◌then◌else◌, List, [], ◌∷◌, Some, None, take, drop, filter, find, length, position, get_or, AllPairs, arith}
use Rattle.std.specs.List.{list_any, prefix_len}
use Rattle.std.specs.List.Sorted.{IsPartitionedBy}
use Rattle.std.proofs.lemmas.Bool.Decides.{nat_tests}
use Rattle.std.proofs.lemmas.List.Elements.{All-weaker}
use Rattle.sx_guard.specs.Handle.{Handle, same_handle, handle_before}
use Rattle.sx_guard.specs.Ordered.{insert_by, remove_first}
use Rattle.sx_guard.proofs.Orders.{handle_chain, handle_total, handle_differs}
use Rattle.sx_guard.proofs.Pairs.{AllPairs-weaker, AllPairs-insert_by}
use Rattle.sx_guard.proofs.Places.{All-list_any, All-find, filter-all, remove_first-filter}
use Rattle.sx_call.specs.declared.opens.Open.{Open}
use Rattle.sx_spec.specs.Account.{has_handle, is_held_by}
use Rattle.sx_spec.specs.Changes.{open_before}
use Rattle.sx_state.specs.declared.by_node.OnNode.{OnNode}
use Rattle.sx_state.specs.Guards.{AreOpens, AreByNode, is_at, is_at_of, is_before, node_before}
use Rattle.sx_state.proofs.Runs.{parted, find_within, found_there, found_nowhere, found_past, Rises, key_run, key_ends, below_parts, upto_parts}
use Rattle.sx_state.proofs.RowOrders.{node_first, node_handle_one_way, node_handle_past, not_in_front, not_behind}

differ : true ≡ false → ⊥
differ e = cc

not_back : (a b : Bool) → (a ≡ true → b ≡ true) → not b ≡ true → not a ≡ true
not_back true true law e = absurd (differ (sym e))
not_back true false law e = absurd (differ (sym (law refl)))
not_back false b law e = refl

pub off_of : (b : Bool) → not b ≡ true → b ≡ false
off_of true e = absurd (differ (sym e))
off_of false e = refl

pub on_of : (b : Bool) → not b ≡ false → b ≡ true
on_of true e = refl
on_of false e = absurd (differ e)

-- Opens in order of handle.
pub handle_parts : (h : Handle) (os : List Open) → AreOpens os → IsPartitionedBy (λ o. handle_before o.handle h) os
handle_parts h os kept =
    parted (λ a b. open_before a b ≡ true) (λ o. handle_before o.handle h) (λ a b r e. handle_chain a.handle b.handle h r e) os kept

pub behind_parts : (x : Open) (os : List Open) → AreOpens os → IsPartitionedBy (λ o. not (open_before x o)) os
behind_parts x os kept =
    parted (λ a b. open_before a b ≡ true) (λ o. not (open_before x o))
    (λ a b r e. not_back (open_before x a) (open_before x b) (λ f. handle_chain x.handle a.handle b.handle f r) e) os kept

pub handle_there : (h : Handle) (os : List Open) (d : Open) → AreOpens os → prefix_len (λ o. handle_before o.handle h) os < length os
    → has_handle h (get_or os (prefix_len (λ o. handle_before o.handle h) os) d) ≡ true
    → position (has_handle h) os ≡ Some (prefix_len (λ o. handle_before o.handle h) os)
handle_there h os d kept lt is =
    found_there (λ a b. open_before a b ≡ true) (λ o. handle_before o.handle h) (has_handle h)
    (λ x f. not_in_front h x.handle f) (λ a b r f. not_behind h a.handle b.handle r f) os d kept lt is

pub handle_nowhere : (h : Handle) (os : List Open) (d : Open) → AreOpens os
    → (prefix_len (λ o. handle_before o.handle h) os < length os → has_handle h (get_or os (prefix_len (λ o. handle_before o.handle h) os) d) ≡ false)
    → position (has_handle h) os ≡ None
handle_nowhere h os d kept is =
    found_nowhere (λ a b. open_before a b ≡ true) (λ o. handle_before o.handle h) (has_handle h)
    (λ x f. not_in_front h x.handle f) (λ a b r f. not_behind h a.handle b.handle r f) os d kept is

pub handle_past : (h : Handle) (os : List Open) → AreOpens os → length os ≤ prefix_len (λ o. handle_before o.handle h) os → position (has_handle h) os ≡ None
handle_past h os kept le =
    found_past (λ a b. open_before a b ≡ true) (λ o. handle_before o.handle h) (has_handle h)
    (λ x f. not_in_front h x.handle f) (λ a b r f. not_behind h a.handle b.handle r f) os kept le

-- a handle has one open at most
pub take_one : (h : Handle) (os : List Open) → AreOpens os → remove_first (has_handle h) os ≡ filter (λ o. not (same_handle h o.handle)) os
take_one h os kept =
    remove_first-filter (has_handle h) os
    (AllPairs-weaker (λ a b. open_before a b ≡ true) (λ a b. has_handle h a ≡ true → has_handle h b ≡ false)
    (λ a b e s. handle_differs h a.handle b.handle e s) os kept)

-- a handle that isn't open
pub take_none : (h : Handle) (os : List Open) → find (has_handle h) os ≡ None → os ≡ filter (λ o. not (same_handle h o.handle)) os
take_none h os none =
    sym (filter-all (λ o. not (same_handle h o.handle)) os
    (All-weaker (λ o. has_handle h o ≡ false) (λ o. not (same_handle h o.handle) ≡ true) (λ o e. ap not e) os (All-find (has_handle h) os none)))

-- an open put in and taken out again, where its handle wasn't open
out_by : (keep : Open → Bool) (x y : Open) (b : Bool) (ys : List Open) → keep x ≡ false
    → filter keep (insert_by open_before x ys) ≡ filter keep ys
    → filter keep (if b then x ∷ y ∷ ys else y ∷ insert_by open_before x ys) ≡ filter keep (y ∷ ys)
out_by keep x y true ys off rest = rw off refl
out_by keep x y false ys off rest = ap (λ (zs : List Open). if keep y then y ∷ zs else zs) rest

out : (keep : Open → Bool) (x : Open) (ys : List Open) → keep x ≡ false → filter keep (insert_by open_before x ys) ≡ filter keep ys
out keep x [] off = rw off refl
out keep x (y ∷ ys) off = out_by keep x y (open_before x y) ys off (out keep x ys off)

its_own : (h : Handle) → not (same_handle h h) ≡ false
its_own h = grind (arith, nat_tests)

pub out_again : (o : Open) (os : List Open) → list_any (has_handle o.handle) os ≡ false
    → filter (λ q. not (same_handle o.handle q.handle)) (insert_by open_before o os) ≡ os
out_again o os fresh =
    out (λ q. not (same_handle o.handle q.handle)) o os (its_own o.handle)
    ∙ filter-all (λ q. not (same_handle o.handle q.handle)) os
    (All-weaker (λ q. has_handle o.handle q ≡ false) (λ q. not (same_handle o.handle q.handle) ≡ true) (λ q e. ap not e) os (All-list_any (has_handle o.handle) os fresh))

pub AreOpens-put : (o : Open) (os : List Open) → list_any (has_handle o.handle) os ≡ false → AreOpens os → AreOpens (insert_by open_before o os)
AreOpens-put o os fresh kept =
    AllPairs-insert_by (λ a b. open_before a b ≡ true) open_before o os
    (λ p e. e)
    (λ p q e r. handle_chain o.handle p.handle q.handle e r)
    (All-weaker (λ p. has_handle o.handle p ≡ false) (λ p. open_before o p ≡ false → open_before p o ≡ true) (λ p n e. handle_total o.handle p.handle n e) os
    (All-list_any (has_handle o.handle) os fresh))
    kept

-- A session's opens.
session_rises : (a b : Handle) → handle_before a b ≡ true → a.session ≤ b.session
session_rises a b e = grind (arith, nat_tests)

sessions_rise : (s : ℕ) (os : List Open) → AreOpens os → AllPairs (Rises (λ (o : Open). o.handle.session) s) os
sessions_rise s os kept =
    AllPairs-weaker (λ a b. open_before a b ≡ true) (Rises (λ (o : Open). o.handle.session) s) (λ a b r. session_rises a.handle b.handle r) os kept

pub session_first_parts : (s : ℕ) (os : List Open) → AreOpens os → IsPartitionedBy (λ o. nat_lt o.handle.session s) os
session_first_parts s os kept = below_parts (λ (o : Open). o.handle.session) s os (sessions_rise s os kept)

pub session_past_parts : (s : ℕ) (os : List Open) → AreOpens os → IsPartitionedBy (λ o. not (nat_lt s o.handle.session)) os
session_past_parts s os kept = upto_parts (λ (o : Open). o.handle.session) s os (sessions_rise s os kept)

pub session_ends : (s : ℕ) (os : List Open) → prefix_len (λ o. nat_lt o.handle.session s) os ≤ prefix_len (λ o. not (nat_lt s o.handle.session)) os
session_ends s os = key_ends (λ (o : Open). o.handle.session) s os

pub session_run : (s : ℕ) (os : List Open) → AreOpens os
    → filter (is_held_by s) os ≡ drop (prefix_len (λ o. nat_lt o.handle.session s) os) (take (prefix_len (λ o. not (nat_lt s o.handle.session)) os) os)
session_run s os kept = key_run (λ (o : Open). o.handle.session) s os (sessions_rise s os kept)

pub first_of_session : (s : ℕ) (os : List Open) → find (is_held_by s) (filter (is_held_by s) os) ≡ find (is_held_by s) os
first_of_session s os = find_within (is_held_by s) (is_held_by s) (λ x e. e) os

-- Opens in order of node and handle.
pub chain : (a b c : OnNode) → node_before a b ≡ true → node_before b c ≡ true → node_before a c ≡ true
chain a b c e f =
    node_handle_past a.node b.node c.node a.opened.handle b.opened.handle c.opened.handle e
    (node_handle_one_way b.node c.node b.opened.handle c.opened.handle f)

nodes_rise : (n m : ℕ) (b : Bool) → node_first n m b ≡ true → n ≤ m
nodes_rise n m b e = grind (arith, nat_tests)

rises : (id : ℕ) (es : List OnNode) → AreByNode es → AllPairs (Rises (λ (e : OnNode). e.node) id) es
rises id es kept =
    AllPairs-weaker (λ a b. node_before a b ≡ true) (Rises (λ (e : OnNode). e.node) id) (λ a b r. nodes_rise a.node b.node (handle_before a.opened.handle b.opened.handle) r) es kept

pub first_parts : (id : ℕ) (es : List OnNode) → AreByNode es → IsPartitionedBy (λ e. nat_lt e.node id) es
first_parts id es kept = below_parts (λ (e : OnNode). e.node) id es (rises id es kept)

pub past_parts : (id : ℕ) (es : List OnNode) → AreByNode es → IsPartitionedBy (λ e. not (nat_lt id e.node)) es
past_parts id es kept = upto_parts (λ (e : OnNode). e.node) id es (rises id es kept)

pub node_ends : (id : ℕ) (es : List OnNode) → prefix_len (λ e. nat_lt e.node id) es ≤ prefix_len (λ e. not (nat_lt id e.node)) es
node_ends id es = key_ends (λ (e : OnNode). e.node) id es

pub node_run : (id : ℕ) (es : List OnNode) → AreByNode es
    → filter (is_at id) es ≡ drop (prefix_len (λ e. nat_lt e.node id) es) (take (prefix_len (λ e. not (nat_lt id e.node)) es) es)
node_run id es kept = key_run (λ (e : OnNode). e.node) id es (rises id es kept)

before_parts_by : (n m id : ℕ) (h k l : Handle) → node_first n m (handle_before h k) ≡ true → node_first m id (handle_before k l) ≡ true → node_first n id (handle_before h l) ≡ true
before_parts_by n m id h k l e f = node_handle_past n m id h k l e (node_handle_one_way m id k l f)

pub at_parts : (id : ℕ) (h : Handle) (es : List OnNode) → AreByNode es → IsPartitionedBy (is_before id h) es
at_parts id h es kept =
    parted (λ a b. node_before a b ≡ true) (is_before id h) (λ a b r e. before_parts_by a.node b.node id a.opened.handle b.opened.handle h r e) es kept

pub node_behind_parts : (x : OnNode) (es : List OnNode) → AreByNode es → IsPartitionedBy (λ e. not (node_before x e)) es
node_behind_parts x es kept =
    parted (λ a b. node_before a b ≡ true) (λ e. not (node_before x e)) (λ a b r e. not_back (node_before x a) (node_before x b) (λ f. chain x a b f r) e) es kept

-- what stands in front of a handle on a node isn't it, and nothing is behind what isn't in front of it
here_not : (n id : ℕ) (h k : Handle) → node_first n id (handle_before k h) ≡ true → (n == id && same_handle h k) ≡ false
here_not n id h k e = grind (arith, nat_tests)

there_not : (n m id : ℕ) (h k l : Handle) → node_first n m (handle_before k l) ≡ true → node_first n id (handle_before k h) ≡ false → (m == id && same_handle h l) ≡ false
there_not n m id h k l e f = grind (arith, nat_tests)

pub at_there : (id : ℕ) (h : Handle) (es : List OnNode) (d : OnNode) → AreByNode es → prefix_len (is_before id h) es < length es
    → is_at_of id h (get_or es (prefix_len (is_before id h) es) d) ≡ true → position (is_at_of id h) es ≡ Some (prefix_len (is_before id h) es)
at_there id h es d kept lt is =
    found_there (λ a b. node_before a b ≡ true) (is_before id h) (is_at_of id h)
    (λ x f. here_not x.node id h x.opened.handle f) (λ a b r f. there_not a.node b.node id h a.opened.handle b.opened.handle r f) es d kept lt is

pub at_nowhere : (id : ℕ) (h : Handle) (es : List OnNode) (d : OnNode) → AreByNode es
    → (prefix_len (is_before id h) es < length es → is_at_of id h (get_or es (prefix_len (is_before id h) es) d) ≡ false)
    → position (is_at_of id h) es ≡ None
at_nowhere id h es d kept is =
    found_nowhere (λ a b. node_before a b ≡ true) (is_before id h) (is_at_of id h)
    (λ x f. here_not x.node id h x.opened.handle f) (λ a b r f. there_not a.node b.node id h a.opened.handle b.opened.handle r f) es d kept is

pub at_past : (id : ℕ) (h : Handle) (es : List OnNode) → AreByNode es → length es ≤ prefix_len (is_before id h) es → position (is_at_of id h) es ≡ None
at_past id h es kept le =
    found_past (λ a b. node_before a b ≡ true) (is_before id h) (is_at_of id h)
    (λ x f. here_not x.node id h x.opened.handle f) (λ a b r f. there_not a.node b.node id h a.opened.handle b.opened.handle r f) es kept le

-- an open on a node and of a handle stands there once
pub node_differs : (n m id : ℕ) (h k l : Handle) → node_first n m (handle_before k l) ≡ true → (n == id && same_handle h k) ≡ true → (m == id && same_handle h l) ≡ false
node_differs n m id h k l e f = grind (arith, nat_tests)

pub take_one_at : (id : ℕ) (h : Handle) (es : List OnNode) → AreByNode es → remove_first (is_at_of id h) es ≡ filter (λ e. not (is_at_of id h e)) es
take_one_at id h es kept =
    remove_first-filter (is_at_of id h) es
    (AllPairs-weaker (λ a b. node_before a b ≡ true) (λ a b. is_at_of id h a ≡ true → is_at_of id h b ≡ false)
    (λ a b e s. node_differs a.node b.node id h a.opened.handle b.opened.handle e s) es kept)
