-- The two lists of opens together: a put, a take and a mark keep them the same node by node, and checks of a node find in one what the other has.
use Rattle.std.proofs.Common.{◌≡◌, ◌∙◌, sym, ap, refl, ℕ, suc, zero, ◌<◌, nat_lt, ◌==◌, ◌&&◌, ◌||◌, Bool, true, false, not, if◌then◌else◌, cond, List, [], ◌∷◌, Option, Some, None, option_map, filter, find, map, length, get_or, subst, arith}
use Rattle.std.specs.List.{list_any}
use Rattle.std.proofs.lemmas.Bool.Decides.{nat_tests}
use Rattle.std.proofs.lemmas.List.Elements.{All-weaker}
use Rattle.std.proofs.lemmas.List.Kept.{AllPairs-filter}
use Rattle.sx_base.specs.Entries.{change}
use Rattle.sx_guard.specs.Handle.{Handle, same_handle, handle_before}
use Rattle.sx_guard.specs.declared.sharing.Opened.{Opened}
use Rattle.sx_guard.specs.Ordered.{insert_by, remove_first}
use Rattle.sx_guard.specs.Parts.{part_of}
use Rattle.sx_guard.specs.Sharing.{is_open_of}
use Rattle.sx_guard.proofs.Orders.{handle_chain, handle_differs}
use Rattle.sx_guard.proofs.Pairs.{AllPairs-weaker, AllPairs-insert_by, AllPairs-remove_first}
use Rattle.sx_guard.proofs.Places.{All-list_any, remove_first-filter}
use Rattle.sx_guard.proofs.Parts.{part_any, part_drop, part_drop_other}
use Rattle.sx_call.specs.declared.opens.Open.{Open}
use Rattle.sx_spec.specs.declared.checks.OpenAsk.TheVariants.{AnyOpens}
use Rattle.sx_spec.specs.Account.{has_handle, is_on}
use Rattle.sx_spec.specs.Changes.{open_before}
use Rattle.sx_spec.specs.Checks.{open_forbids}
use Rattle.sx_spec.specs.SessionCalls.{with_mark}
use Rattle.sx_state.specs.declared.by_node.OnNode.{OnNode}
use Rattle.sx_state.specs.Guards.{AreOpens, AreByNode, AreGuards, opened_of, on_node, is_at, is_at_of, node_before}
use Rattle.sx_state.proofs.RowOrders.{at_one_node, nodes_total}
use Rattle.sx_state.proofs.OpenRuns.{AreOpens-put, chain, take_one, take_one_at}
use Rattle.sx_state.proofs.Beside.{beside_put, beside_find, beside_count}

differ : true ≡ false → ⊥
differ e = cc

-- One more open.
any_weaker_by : {X : Type 0} (keep test : X → Bool) (x : X) (xs : List X) (k t : Bool) → (t || list_any test xs) ≡ false
    → (list_any test xs ≡ false → list_any (λ y. keep y && test y) xs ≡ false) → (k && t || list_any (λ y. keep y && test y) xs) ≡ false
any_weaker_by keep test x xs k true none rest = absurd (differ none)
any_weaker_by keep test x xs true false none rest = rest none
any_weaker_by keep test x xs false false none rest = rest none

any_weaker : {X : Type 0} (keep test : X → Bool) (xs : List X) → list_any test xs ≡ false → list_any (λ x. keep x && test x) xs ≡ false
any_weaker keep test [] none = refl
any_weaker keep test (x ∷ xs) none = any_weaker_by keep test x xs (keep x) (test x) none (any_weaker keep test xs)

-- a handle that isn't open stands on no node
nowhere : (id : ℕ) (h : Handle) (os : List Open) (es : List OnNode) → AreGuards os es → list_any (has_handle h) os ≡ false → list_any (is_at_of id h) es ≡ false
nowhere id h os es kept fresh =
    sym (part_any (is_at id) (λ (e : OnNode). e.opened) (is_open_of h) es)
    ∙ ap (list_any (is_open_of h)) (kept.same id)
    ∙ part_any (is_on id) opened_of (is_open_of h) os
    ∙ any_weaker (is_on id) (has_handle h) os fresh

AreByNode-put : (e : OnNode) (es : List OnNode) → list_any (is_at_of e.node e.opened.handle) es ≡ false → AreByNode es → AreByNode (insert_by node_before e es)
AreByNode-put e es fresh kept =
    AllPairs-insert_by (λ a b. node_before a b ≡ true) node_before e es
    (λ p f. f)
    (λ p q f r. chain e p q f r)
    (All-weaker (λ p. is_at_of e.node e.opened.handle p ≡ false) (λ p. node_before e p ≡ false → node_before p e ≡ true)
    (λ p n f. nodes_total e.node p.node e.opened.handle p.opened.handle n f) es
    (All-list_any (is_at_of e.node e.opened.handle) es fresh))
    kept

pub AreGuards-put : (o : Open) (os : List Open) (es : List OnNode) → AreGuards os es → list_any (has_handle o.handle) os ≡ false
    → AreGuards (insert_by open_before o os) (insert_by node_before (on_node o) es)
AreGuards-put o os es kept fresh = record {
  ordered = AreOpens-put o os fresh kept.ordered;
  by_node = AreByNode-put (on_node o) es (nowhere o.node o.handle os es kept fresh) kept.by_node;
  same = beside_put is_on opened_of is_at (λ (e : OnNode). e.opened) (λ a b. open_before a b ≡ true) (λ a b. node_before a b ≡ true)
      open_before node_before (λ (p q : Opened). handle_before p.handle q.handle) o (on_node o) refl (λ id. refl)
      (λ y z f r. handle_chain o.handle y.handle z.handle f r) (λ y. refl) (λ y z f r. chain (on_node o) y z f r)
      (λ id y f g. at_one_node id o.node y.node (handle_before o.handle y.opened.handle) f g)
      os es kept.ordered kept.by_node kept.same;
}

-- One open less.
both_of : (a b : Bool) → (a && b) ≡ true → a ≡ true
both_of a b e = grind (arith, nat_tests)

apart : (n id m : ℕ) → (n == id) ≡ false → (m == n) ≡ true → (m == id) ≡ false
apart n id m e f = grind (arith, nat_tests)

one_number : (n id : ℕ) → (n == id) ≡ true → n ≡ id
one_number n id e = grind (arith, nat_tests)

dropped_by : (n id : ℕ) (q : Opened → Bool) (os : List Open) (es : List OnNode) (b : Bool) → (n == id) ≡ b
    → part_of (is_at id) (λ e. e.opened) es ≡ part_of (is_on id) opened_of os
    → part_of (is_at id) (λ e. e.opened) (filter (λ e. not (is_at n e && q e.opened)) es) ≡ part_of (is_on id) opened_of (filter (λ o. not (is_on n o && q (opened_of o))) os)
dropped_by n id q os es true e same =
    subst (λ k. part_of (is_at id) (λ e. e.opened) (filter (λ e. not (is_at k e && q e.opened)) es) ≡ part_of (is_on id) opened_of (filter (λ o. not (is_on k o && q (opened_of o))) os))
    (sym (one_number n id e))
    (part_drop (is_at id) (λ (e : OnNode). e.opened) q es ∙ ap (filter (λ (p : Opened). not (q p))) same ∙ sym (part_drop (is_on id) opened_of q os))
dropped_by n id q os es false e same =
    part_drop_other (is_at id) (λ (e : OnNode). e.opened) (λ e. is_at n e && q e.opened) es (λ x t. apart n id x.node e (both_of (is_at n x) (q x.opened) t))
    ∙ same
    ∙ sym (part_drop_other (is_on id) opened_of (λ o. is_on n o && q (opened_of o)) os (λ x t. apart n id x.node e (both_of (is_on n x) (q (opened_of x)) t)))

some_same : {X : Type 0} (x y : X) → Some x ≡ Some y → x ≡ y
some_same x y e = cc

-- the first that passes one test, where it passes another too
same_first_by : {X : Type 0} (weak test : X → Bool) (o x : X) (xs : List X) (w t : Bool) → weak x ≡ w → weak o ≡ true
    → (if t then Some x else find test xs) ≡ Some o
    → (find test xs ≡ Some o → remove_first (λ y. weak y && test y) xs ≡ remove_first test xs)
    → (if w && t then xs else x ∷ remove_first (λ y. weak y && test y) xs) ≡ (if t then xs else x ∷ remove_first test xs)
same_first_by weak test o x xs true true i is found rest = refl
same_first_by weak test o x xs false true i is found rest = absurd (differ (sym is ∙ ap weak (sym (some_same x o found)) ∙ i))
same_first_by {X = X} weak test o x xs true false i is found rest = ap (λ (ys : List X). x ∷ ys) (rest found)
same_first_by {X = X} weak test o x xs false false i is found rest = ap (λ (ys : List X). x ∷ ys) (rest found)

same_first : {X : Type 0} (weak test : X → Bool) (o : X) (xs : List X) → find test xs ≡ Some o → weak o ≡ true → remove_first (λ x. weak x && test x) xs ≡ remove_first test xs
same_first weak test o [] found is = refl
same_first weak test o (x ∷ xs) found is = same_first_by weak test o x xs (weak x) (test x) refl is found (λ f. same_first weak test o xs f is)

itself : (n : ℕ) → (n == n) ≡ true
itself n = grind (arith, nat_tests)

once : (a b c : Bool) (law : b ≡ true → c ≡ false) → (a && b) ≡ true → c ≡ false
once true b c law e = law e
once false b c law e = absurd (differ (sym e))

back_both : (a c : Bool) → c ≡ false → (a && c) ≡ false
back_both true c e = e
back_both false c e = refl

-- without a handle is without it on its open's node
pub taken_on : (h : Handle) (o : Open) (os : List Open) → AreOpens os → find (has_handle h) os ≡ Some o
    → filter (λ q. not (is_on o.node q && same_handle h q.handle)) os ≡ filter (λ q. not (same_handle h q.handle)) os
taken_on h o os kept found =
    sym (remove_first-filter (λ q. is_on o.node q && has_handle h q) os
    (AllPairs-weaker (λ a b. open_before a b ≡ true) (λ a b. (is_on o.node a && has_handle h a) ≡ true → (is_on o.node b && has_handle h b) ≡ false)
    (λ a b e s. back_both (is_on o.node b) (has_handle h b) (once (is_on o.node a) (has_handle h a) (has_handle h b) (λ t. handle_differs h a.handle b.handle e t) s)) os kept))
    ∙ same_first (is_on o.node) (has_handle h) o os found (itself o.node)
    ∙ take_one h os kept

pub AreGuards-take : (h : Handle) (o : Open) (os : List Open) (es : List OnNode) → AreGuards os es → find (has_handle h) os ≡ Some o
    → AreGuards (filter (λ q. not (same_handle h q.handle)) os) (remove_first (is_at_of o.node h) es)
AreGuards-take h o os es kept found = record {
  ordered = AllPairs-filter (λ a b. open_before a b ≡ true) (λ q. not (same_handle h q.handle)) os kept.ordered;
  by_node = AllPairs-remove_first (λ a b. node_before a b ≡ true) (is_at_of o.node h) es kept.by_node;
  same = λ id.
      ap (part_of (is_at id) (λ (e : OnNode). e.opened)) (take_one_at o.node h es kept.by_node)
      ∙ dropped_by o.node id (is_open_of h) os es (o.node == id) refl (kept.same id)
      ∙ ap (part_of (is_on id) opened_of) (taken_on h o os kept.ordered found);
}

-- A mark.
marked_by : (test : Open → Bool) (on : Bool) (x : Open) (xs : List Open) (k : ℕ) (d : Open) (b : Bool)
    → ((j : ℕ) → (get_or (change test (with_mark on) xs) j d).handle ≡ (get_or xs j d).handle)
    → (get_or (cond b (with_mark on x ∷ xs) (x ∷ change test (with_mark on) xs)) k d).handle ≡ (get_or (x ∷ xs) k d).handle
marked_by test on x xs zero d true rest = refl
marked_by test on x xs zero d false rest = refl
marked_by test on x xs (suc k) d true rest = refl
marked_by test on x xs (suc k) d false rest = rest k

marked : (test : Open → Bool) (on : Bool) (xs : List Open) (k : ℕ) (d : Open) → (get_or (change test (with_mark on) xs) k d).handle ≡ (get_or xs k d).handle
marked test on [] k d = refl
marked test on (x ∷ xs) k d = marked_by test on x xs k d (test x) (λ j. marked test on xs j d)

as_many_by : (test : Open → Bool) (on : Bool) (x : Open) (xs : List Open) (b : Bool) → length (change test (with_mark on) xs) ≡ length xs
    → length (cond b (with_mark on x ∷ xs) (x ∷ change test (with_mark on) xs)) ≡ length (x ∷ xs)
as_many_by test on x xs true rest = refl
as_many_by test on x xs false rest = ap suc rest

as_many : (test : Open → Bool) (on : Bool) (xs : List Open) → length (change test (with_mark on) xs) ≡ length xs
as_many test on [] = refl
as_many test on (x ∷ xs) = as_many_by test on x xs (test x) (as_many test on xs)

AreOpens-mark : (test : Open → Bool) (on : Bool) (os : List Open) → AreOpens os → AreOpens (change test (with_mark on) os)
AreOpens-mark test on os kept = λ i j d lt within.
    rw (marked test on os i d, marked test on os j d) (kept i j d lt (subst (λ n. j < n) (as_many test on os) within))

seen_by : (id : ℕ) (test : Open → Bool) (on : Bool) (x : Open) (xs : List Open) (b k : Bool) → (x.node == id) ≡ k
    → part_of (is_on id) opened_of (change test (with_mark on) xs) ≡ part_of (is_on id) opened_of xs
    → part_of (is_on id) opened_of (cond b (with_mark on x ∷ xs) (x ∷ change test (with_mark on) xs)) ≡ part_of (is_on id) opened_of (x ∷ xs)
seen_by id test on x xs true true own rest = rw own refl
seen_by id test on x xs true false own rest = rw own refl
seen_by id test on x xs false true own rest = rw own (ap (λ (ys : List Opened). opened_of x ∷ ys) rest)
seen_by id test on x xs false false own rest = rw own rest

seen : (id : ℕ) (test : Open → Bool) (on : Bool) (os : List Open) → part_of (is_on id) opened_of (change test (with_mark on) os) ≡ part_of (is_on id) opened_of os
seen id test on [] = refl
seen id test on (x ∷ xs) = seen_by id test on x xs (test x) (x.node == id) refl (seen id test on xs)

pub AreGuards-mark : (test : Open → Bool) (on : Bool) (os : List Open) (es : List OnNode) → AreGuards os es → AreGuards (change test (with_mark on) os) es
AreGuards-mark test on os es kept = record {
  ordered = AreOpens-mark test on os kept.ordered;
  by_node = kept.by_node;
  same = λ id. kept.same id ∙ sym (seen id test on os);
}

pub AreGuards-none : AreGuards [] []
AreGuards-none = record {
  ordered = λ i j d lt within. absurd (omega (arith, lt, within));
  by_node = λ i j d lt within. absurd (omega (arith, lt, within));
  same = λ id. refl;
}

-- Checks of a node.
find_map_by : {X Y : Type 0} (look : X → Y) (test : Y → Bool) (x : X) (xs : List X) (b : Bool)
    → find test (map look xs) ≡ option_map look (find (λ y. test (look y)) xs)
    → (if b then Some (look x) else find test (map look xs)) ≡ option_map look (if b then Some x else find (λ y. test (look y)) xs)
find_map_by look test x xs true rest = refl
find_map_by look test x xs false rest = rest

find_map : {X Y : Type 0} (look : X → Y) (test : Y → Bool) (xs : List X) → find test (map look xs) ≡ option_map look (find (λ x. test (look x)) xs)
find_map look test [] = refl
find_map look test (x ∷ xs) = find_map_by look test x xs (test (look x)) (find_map look test xs)

mapped_twice : {X Y Z : Type 0} (f : Y → Z) (g : X → Y) (o : Option X) → option_map f (option_map g o) ≡ option_map (λ x. f (g x)) o
mapped_twice f g None = refl
mapped_twice f g (Some x) = refl

pub found_on : (id : ℕ) (test : Opened → Bool) (os : List Open) (es : List OnNode) → AreGuards os es
    → option_map (λ (e : OnNode). e.opened.handle) (find (λ (e : OnNode). test e.opened) (filter (is_at id) es)) ≡ option_map (λ (o : Open). o.handle) (find (λ (o : Open). is_on id o && test (opened_of o)) os)
found_on id test os es kept =
    sym (mapped_twice (λ (p : Opened). p.handle) (λ (e : OnNode). e.opened) (find (λ (e : OnNode). test e.opened) (filter (is_at id) es)))
    ∙ ap (option_map (λ (p : Opened). p.handle)) (sym (find_map (λ (e : OnNode). e.opened) test (filter (is_at id) es))
    ∙ beside_find is_on opened_of is_at (λ (e : OnNode). e.opened) id test os es kept.same)
    ∙ mapped_twice (λ (p : Opened). p.handle) opened_of (find (λ (o : Open). is_on id o && test (opened_of o)) os)

pub counted_on : (id : ℕ) (os : List Open) (es : List OnNode) → AreGuards os es → length (filter (is_at id) es) ≡ length (filter (is_on id) os)
counted_on id os es kept = beside_count is_on opened_of is_at (λ (e : OnNode). e.opened) id os es kept.same

some_there : (n : ℕ) → nat_lt 0 (suc n) ≡ true
some_there n = grind (arith, nat_tests)

any_counts_by : {X : Type 0} (keep : X → Bool) (x : X) (xs : List X) (b : Bool) → nat_lt 0 (length (filter keep xs)) ≡ list_any keep xs
    → nat_lt 0 (length (if b then x ∷ filter keep xs else filter keep xs)) ≡ (b || list_any keep xs)
any_counts_by keep x xs true rest = some_there (length (filter keep xs))
any_counts_by keep x xs false rest = rest

-- some pass where those that pass are more than none
pub any_counts : {X : Type 0} (keep : X → Bool) (xs : List X) → nat_lt 0 (length (filter keep xs)) ≡ list_any keep xs
any_counts keep [] = refl
any_counts keep (x ∷ xs) = any_counts_by keep x xs (keep x) (any_counts keep xs)

-- nothing is asked, so nothing forbids
pub none_forbids : (os : List Open) → find (open_forbids AnyOpens) os ≡ None
none_forbids [] = refl
none_forbids (o ∷ os) = none_forbids os
