-- The opens and the locks, over sessions and shares that go on.
use Rattle.std.proofs.Common.{◌≡◌, ◌≢◌, ℕ, ◌+◌, ◌≤◌, ◌<◌, true, false, Bool, cond, not, List, [], ◌∷◌, length, Option}
use Rattle.std.proofs.Common.{Some, None, refl, rules, sym, ap, ◌∙◌, subst, arith, ◌⊎◌, inl, inr, ⊎_elim, suc}
use Rattle.std.specs.Prelude.{All, AllPairs, filter, find, get_or, ◌||◌, ◌&&◌, ◌==◌, nat_lt}
use Rattle.std.specs.List.{list_any}
use Rattle.std.proofs.lemmas.Bool.{cases_eq, cases_order}
use Rattle.std.proofs.lemmas.List.{get_or_default}
use Rattle.std.proofs.lemmas.List.Folds.{list_any_at}
use Rattle.std.proofs.lemmas.List.Elements.{All-nil, All-cons, All-head, All-tail, All-weaker, All-filter}
use Rattle.std.proofs.lemmas.List.Kept.{AllPairs-filter}
use Rattle.std.proofs.lemmas.Option.{same_Some}
use Rattle.std.proofs.lemmas.Bool.Decides.{nat_tests}
use Rattle.sx_base.specs.Entries.{value_at, change, change_at}
use Rattle.sx_guard.proofs.Orders.{handle_chain, handle_total, lock_behind, forbids_back}
use Rattle.sx_guard.proofs.Pairs.{AllPairs-insert_by, AllPairs-insert_any, All-insert_by, AllPairs-remove_first}
use Rattle.sx_guard.proofs.Pairs.{All-remove_first}
use Rattle.sx_guard.specs.Handle.{Handle, same_handle, handle_before}
use Rattle.sx_guard.specs.Locks.{forbids_lock, lock_before}
use Rattle.sx_guard.specs.Ordered.{insert_by, remove_first}
use Rattle.sx_call.specs.declared.opens.Live.{Live}
use Rattle.sx_call.specs.declared.opens.Lock.{Lock}
use Rattle.sx_call.specs.declared.opens.Open.{Open}
use Rattle.sx_tree.specs.declared.share.Share.{Share}
use Rattle.sx_tree.specs.Tree.{Nodes, Slot, slot_at}
use Rattle.sx_spec.specs.Account.{is_session, is_on, has_handle}
use Rattle.sx_spec.specs.Changes.{open_before, comes_before}
use Rattle.sx_spec.specs.Checks.{same_lock}
use Rattle.sx_spec.specs.Whole.{IsOpen, AreOpens, IsLock, AreLocks}
use Rattle.sx_spec.proofs.Lists.{none_some, true_false, find_filter, found_passes}
use Rattle.sx_spec.proofs.Lookups.{Became, change_there, change_back}
use Rattle.sx_spec.proofs.Sessions.{SessionsStay, ended_finds, All-change, AllPairs-change}

-- what is found has a fact of all items
pub found_holds : {X : Type 0} (P : X → Type 0) (test : X → Bool) (xs : List X) (x : X) → All P xs
    → find test xs ≡ Some x → P x
found_holds P test [] x all e = absurd (none_some x e)
found_holds {X} P test (y ∷ ys) x all e =
    elim (test y) as (λ b. cond b (Some y) (find test ys) ≡ Some x → P x) [
      | true ↦ λ e. subst P (same_Some _ _ e) (All-head P y ys all)
      | false ↦ λ e. found_holds P test ys x (All-tail P y ys all) e
    ] e

-- Shares that go on.

-- each slot on which something is open still stands, under the same name
pub record SlotsStay (opens : List Open) (ss rs : List (ℕ × Share)) : Type 0 where
  pub stays : (n : ℕ) (x : Share) (q : ℕ) (slot : Slot) → value_at ss n ≡ Some x → slot_at x.tree q ≡ Some slot
      → list_any (is_on q) opens ≡ true
      → (y : Share) × (z : Slot) × (value_at rs n ≡ Some y) × (slot_at y.tree q ≡ Some z) × (z.name ≡ slot.name)

-- a pending node was pending, or something is open on it
pub record PendingWas (opens : List Open) (ss rs : List (ℕ × Share)) : Type 0 where
  pub was : (n : ℕ) (y : Share) (q : ℕ) (z : Slot) → value_at rs n ≡ Some y → slot_at y.tree q ≡ Some z
      → z.node.facts.pending ≡ true
      → (list_any (is_on q) opens ≡ true) ⊎ ((x : Share) × (slot : Slot) × (value_at ss n ≡ Some x) × (slot_at x.tree q ≡ Some slot) × (slot.node.facts.pending ≡ true))

-- where nothing changes they stay
pub slots_same : (opens : List Open) (ss : List (ℕ × Share)) → SlotsStay opens ss ss
slots_same opens ss = record { stays = λ n x q slot e at on. (x, slot, e, at, refl) }

-- and so do pending nodes
pub pending_same : (opens : List Open) (ss : List (ℕ × Share)) → PendingWas opens ss ss
pending_same opens ss = record { was = λ n y q z e at p. inr (y, z, e, at, p) }

on_itself : (o : Open) → is_on o.node o ≡ true
on_itself o = search rules

-- Opens.

open_stays : (ls ks : List Live) (ss rs : List (ℕ × Share)) (opens : List Open) → SessionsStay ls ks
    → SlotsStay opens ss rs → (o : Open) → list_any (is_on o.node) opens ≡ true → IsOpen ls ss o → IsOpen ks rs o
open_stays ls ks ss rs opens a b o on w =
    let (k, at, more) = a.stays o.handle.session w.live w.session in
    let (y, z, there, stands, same) = b.stays o.share w.share o.node w.slot w.there w.stands on in
    record {
      live = k;
      session = at;
      first = w.first;
      granted = omega (arith, w.granted, more);
      share = y;
      there = there;
      slot = z;
      stands = stands;
      named = λ none. w.named (sym same ∙ none);
      moment = w.moment;
    }

each_stays : (ls ks : List Live) (ss rs : List (ℕ × Share)) (opens : List Open) → SessionsStay ls ks
    → SlotsStay opens ss rs → All (IsOpen ls ss) opens → All (IsOpen ks rs) opens
each_stays ls ks ss rs opens a b all = λ k d within.
    let o : Open = get_or opens k d in
    open_stays ls ks ss rs opens a b o (list_any_at (is_on o.node) opens k d within (on_itself o)) (all k d within)

-- the opens over sessions and shares that stay, after as many entries or more
pub opens_stay : (came more : ℕ) → came ≤ more → (ls ks : List Live) (ss rs : List (ℕ × Share)) (opens : List Open)
    → SessionsStay ls ks → SlotsStay opens ss rs → PendingWas opens ss rs → AreOpens came ls ss opens
    → AreOpens more ks rs opens
opens_stay came more further ls ks ss rs opens a b p w = record {
  count = omega (arith, w.count, further);
  order = w.order;
  each = each_stays ls ks ss rs opens a b w.each;
  pending = λ n y q z e at pending. ⊎_elim
      (λ (h : list_any (is_on q) opens ≡ true). h)
      (λ (h : (x : Share) × (slot : Slot) × (value_at ss n ≡ Some x) × (slot_at x.tree q ≡ Some slot) × (slot.node.facts.pending ≡ true)). w.pending n h.0 q h.1 h.2 h.3 h.4)
      (p.was n y q z e at pending);
}

-- A share changed.

-- of one tree and another: slots on which something is open stay under their names, and pending nodes were so or have
-- an open
pub record TreeStays (opens : List Open) (t u : Nodes) : Type 0 where
  pub stays : (q : ℕ) (slot : Slot) → slot_at t q ≡ Some slot → list_any (is_on q) opens ≡ true
      → (z : Slot) × (slot_at u q ≡ Some z) × (z.name ≡ slot.name)
  pub was : (q : ℕ) (z : Slot) → slot_at u q ≡ Some z → z.node.facts.pending ≡ true
      → (list_any (is_on q) opens ≡ true) ⊎ ((slot : Slot) × (slot_at t q ≡ Some slot) × (slot.node.facts.pending ≡ true))

-- a tree and itself
pub tree_same : (opens : List Open) (t : Nodes) → TreeStays opens t t
tree_same opens t = record { stays = λ q slot at on. (slot, at, refl); was = λ q z at p. inr (z, at, p) }

module _ (opens : List Open) (n : ℕ) (g : Share → Share) (ss : List (ℕ × Share)) (k : (x : Share) → value_at ss n ≡ Some x → TreeStays opens x.tree (g x).tree) where
  stays_by : (m : ℕ) (x y : Share) → value_at ss m ≡ Some x → Became n g m x y → TreeStays opens x.tree y.tree
  stays_by m x y e (inl h) = subst (λ (r : Share). TreeStays opens x.tree r.tree) (sym h.1) (tree_same opens x.tree)
  stays_by m x y e (inr h) =
      subst (λ (r : Share). TreeStays opens x.tree r.tree) (sym h.1) (k x (subst (λ (j : ℕ). value_at ss j ≡ Some x) h.0 e))

  -- the slots of the shares, after one is changed
  pub changed_slots : SlotsStay opens ss (change_at n g ss)
  changed_slots = record {
    stays = λ m x q slot e at on.
        let (y, there, how) = change_there n g ss m x e in
        let (z, stands, same) = (stays_by m x y e how).stays q slot at on in
        (y, z, there, stands, same);
  }

  -- and their pending nodes
  pub changed_pending : PendingWas opens ss (change_at n g ss)
  changed_pending = record {
    was = λ m y q z e at p.
        let (x, there, how) = change_back n g ss m y e in
        ⊎_elim
        (λ (h : list_any (is_on q) opens ≡ true). inl h)
        (λ (h : (slot : Slot) × (slot_at x.tree q ≡ Some slot) × (slot.node.facts.pending ≡ true)). inr (x, h.0, there, h.1, h.2))
        ((stays_by m x y there how).was q z at p);
  }

-- One open more.

handle_new : (ls : List Live) (ss : List (ℕ × Share)) (o : Open) (l : Live)
    → find (is_session o.handle.session) ls ≡ Some l → o.handle.index ≡ l.granted + 1
    → (q : Open) → IsOpen ls ss q → same_handle o.handle q.handle ≡ false
handle_new ls ss o l at next q w = ⊎_elim
    (λ (same : o.handle.session ≡ q.handle.session).
    let found : find (is_session o.handle.session) ls ≡ Some w.live =
    ap (λ (n : ℕ). find (is_session n) ls) same ∙ w.session in
    let granted : l.granted ≡ w.live.granted = ap (λ (k : Live). k.granted) (same_Some _ _ (sym at ∙ found)) in
    apart_index o.handle q.handle (λ (h : o.handle.index ≡ q.handle.index). omega (arith, h, next, granted, w.granted)))
    (λ (ne : o.handle.session ≢ q.handle.session). apart_session o.handle q.handle ne)
    (cases_eq o.handle.session q.handle.session)
  where
    apart_index : (a b : Handle) → a.index ≢ b.index → same_handle a b ≡ false
    apart_index a b ne = grind (arith, nat_tests)

    apart_session : (a b : Handle) → a.session ≢ b.session → same_handle a b ≡ false
    apart_session a b ne = grind (arith, nat_tests)

insert_length : {X : Type 0} (before : X → X → Bool) (x : X) (xs : List X)
    → length (insert_by before x xs) ≡ length xs + 1
insert_length before x [] = omega arith
insert_length before x (y ∷ ys) =
    elim (before x y) as (λ b. length (cond b (x ∷ y ∷ ys) (y ∷ insert_by before x ys)) ≡ length (y ∷ ys) + 1) [
      | true ↦ omega arith
      | false ↦ omega (arith, insert_length before x ys)
    ]

any_insert : {X : Type 0} (test : X → Bool) (before : X → X → Bool) (x : X) (xs : List X) → list_any test xs ≡ true
    → list_any test (insert_by before x xs) ≡ true
any_insert test before x [] h = absurd (true_false (sym h))
any_insert test before x (y ∷ ys) h =
    elim (before x y) as (λ b. list_any test (cond b (x ∷ y ∷ ys) (y ∷ insert_by before x ys)) ≡ true) [
      | true ↦ behind (test x) (list_any test (y ∷ ys)) h
      | false ↦ split (test y) (list_any test ys) (list_any test (insert_by before x ys)) h (λ g. any_insert test before x ys g)
    ]
  where
    behind : (a b : Bool) → b ≡ true → (a || b) ≡ true
    behind true b h = refl
    behind false b h = h

    split : (a b c : Bool) → (a || b) ≡ true → (b ≡ true → c ≡ true) → (a || c) ≡ true
    split true b c h f = refl
    split false b c h f = f h

-- the opens with one more of a session, with its next index, over sessions and shares that stay
pub opens_more : (came : ℕ) (ls ks : List Live) (ss rs : List (ℕ × Share)) (opens : List Open) (o : Open) (l : Live)
    → find (is_session o.handle.session) ls ≡ Some l → o.handle.index ≡ l.granted + 1
    → SessionsStay ls ks → SlotsStay opens ss rs → PendingWas opens ss rs → AreOpens came ls ss opens → IsOpen ks rs o
    → AreOpens (came + 1) ks rs (insert_by open_before o opens)
opens_more came ls ks ss rs opens o l at next a b p w new =
    let kept = opens_stay came (came + 1) (omega arith) ls ks ss rs opens a b p w in
    record {
      count = let n = insert_length open_before o opens in omega (arith, n, w.count);
      order = AllPairs-insert_by (λ p q. handle_before p.handle q.handle ≡ true) open_before o opens
          (λ q e. e)
          (λ q r e h. handle_chain o.handle q.handle r.handle e h)
          (All-weaker (IsOpen ls ss) (λ q. open_before o q ≡ false → handle_before q.handle o.handle ≡ true)
          (λ q w e. handle_total o.handle q.handle (handle_new ls ss o l at next q w) e) opens w.each)
          w.order;
      each = All-insert_by (IsOpen ks rs) open_before o opens new kept.each;
      pending =
          λ n y q z e stands pending. any_insert (is_on q) open_before o opens (kept.pending n y q z e stands pending);
    }

-- One open less.

one_open : (opens : List Open) (i j : ℕ) (d e : Open) → AllPairs (λ o q. handle_before o.handle q.handle ≡ true) opens
    → i < length opens → j < length opens
    → same_handle (get_or opens i d).handle (get_or opens j e).handle ≡ true → i ≡ j
one_open opens i j d e order wi wj same = by (cases_order i j)
  where
    strict : (a b : Handle) → handle_before a b ≡ true → same_handle a b ≡ true → ⊥
    strict a b lt same = grind (arith, nat_tests)

    back : (a b : Handle) → same_handle a b ≡ true → same_handle b a ≡ true
    back a b h = grind (arith, nat_tests)

    by : (i ≡ j) ⊎ ((i < j) ⊎ (j < i)) → i ≡ j
    by (inl is) = is
    by (inr (inl lt)) = absurd (strict (get_or opens i d).handle (get_or opens j e).handle
        (subst (λ (q : Open). handle_before (get_or opens i d).handle q.handle ≡ true) (get_or_default opens j d e wj) (order i j d lt wj)) same)
    by (inr (inr lt)) = absurd (strict (get_or opens j e).handle (get_or opens i d).handle
        (subst (λ (q : Open). handle_before (get_or opens j e).handle q.handle ≡ true) (get_or_default opens i e d wi) (order j i e lt wi)) (back (get_or opens i d).handle (get_or opens j e).handle same))

-- the opens without those of a handle
abbrev pub without : Handle → List Open → List Open
without handle opens = filter (λ o. not (same_handle handle o.handle)) opens

any_filter : {X : Type 0} (test keep : X → Bool) (xs : List X)
    → ((k : ℕ) (d : X) → k < length xs → test (get_or xs k d) ≡ true → keep (get_or xs k d) ≡ true)
    → list_any test xs ≡ true → list_any test (filter keep xs) ≡ true
any_filter test keep [] f h = h
any_filter test keep (x ∷ xs) f h =
    first (test x) (keep x) refl refl (f 0 x (omega arith)) h (any_filter test keep xs (λ k d within e. f (suc k) d (omega (arith, within)) e))
  where
    first : (b c : Bool) → test x ≡ b → keep x ≡ c → (test x ≡ true → keep x ≡ true)
        → (test x || list_any test xs) ≡ true
        → (list_any test xs ≡ true → list_any test (filter keep xs) ≡ true)
        → list_any test (cond (keep x) (x ∷ filter keep xs) (filter keep xs)) ≡ true
    first true true tb kb f h rest = rw (kb, tb) refl
    first true false tb kb f h rest = absurd (true_false (sym (f tb) ∙ kb))
    first false true tb kb f h rest = rw (kb, tb) (rest (rw tb at h))
    first false false tb kb f h rest = rw kb (rest (rw tb at h))

-- opens of other nodes than that of a handle's open stay
pub others_on : (opens : List Open) (o : Open) (i : ℕ) (d : Open)
    → AllPairs (λ o q. handle_before o.handle q.handle ≡ true) opens → i < length opens → get_or opens i d ≡ o
    → (q : ℕ) → q ≢ o.node → list_any (is_on q) opens ≡ true → list_any (is_on q) (without o.handle opens) ≡ true
others_on opens o i d order wi is q ne h = any_filter (is_on q) (λ z. not (same_handle o.handle z.handle)) opens
    (λ k e within on. keeps (get_or opens k e) (same_handle o.handle (get_or opens k e).handle) refl on (λ (same : same_handle o.handle (get_or opens k e).handle ≡ true).
    let at : i ≡ k =
    one_open opens i k d e order wi within (subst (λ (z : Open). same_handle z.handle (get_or opens k e).handle ≡ true) (sym is) same) in
    ap (λ (z : Open). z.node) (sym (subst (λ (j : ℕ). get_or opens j e ≡ o) at (sym (get_or_default opens i d e wi) ∙ is))))) h
  where
    other : (z : Open) → is_on q z ≡ true → o.node ≡ z.node → ⊥
    other z on same = ne (on_node z on ∙ sym same)
      where
        on_node : (z : Open) → is_on q z ≡ true → q ≡ z.node
        on_node z on = search rules

    keeps : (z : Open) (b : Bool) → same_handle o.handle z.handle ≡ b → is_on q z ≡ true
        → (same_handle o.handle z.handle ≡ true → o.node ≡ z.node) → not (same_handle o.handle z.handle) ≡ true
    keeps z true is on f = absurd (other z on (f is))
    keeps z false is on f = ap not is

fewer : {X : Type 0} (keep : X → Bool) (xs : List X) → length (filter keep xs) ≤ length xs
fewer keep [] = omega arith
fewer keep (x ∷ xs) =
    elim (keep x) as (λ b. length (cond b (x ∷ filter keep xs) (filter keep xs)) ≤ length (x ∷ xs)) [
      | true ↦ omega (arith, fewer keep xs)
      | false ↦ omega (arith, fewer keep xs)
    ]

-- the opens without one, over shares that go on; its node may be pending no longer without an open
pub opens_less : (came : ℕ) (ls : List Live) (ss rs : List (ℕ × Share)) (opens : List Open) (o : Open) (i : ℕ) (d : Open) → AreOpens came ls ss opens → i < length opens → get_or opens i d ≡ o
    → SlotsStay (without o.handle opens) ss rs
    → ((n : ℕ) (y : Share) (q : ℕ) (z : Slot) → value_at rs n ≡ Some y → slot_at y.tree q ≡ Some z
    → z.node.facts.pending ≡ true
    → (list_any (is_on q) (without o.handle opens) ≡ true) ⊎ ((q ≢ o.node) × (x : Share) × (slot : Slot) × (value_at ss n ≡ Some x) × (slot_at x.tree q ≡ Some slot) × (slot.node.facts.pending ≡ true)))
    → AreOpens came ls rs (without o.handle opens)
opens_less came ls ss rs opens o i d w wi is stay pending = record {
  count = omega (arith, fewer (λ z. not (same_handle o.handle z.handle)) opens, w.count);
  order =
      AllPairs-filter (λ a b. handle_before a.handle b.handle ≡ true) (λ z. not (same_handle o.handle z.handle)) opens w.order;
  each = each_stays ls ls ss rs (without o.handle opens) (record { stays = λ n l e. (l, e, omega arith) }) stay
      (All-filter (λ z. not (same_handle o.handle z.handle)) (IsOpen ls ss) opens w.each);
  pending = λ n y q z e at p. ⊎_elim
      (λ (h : list_any (is_on q) (without o.handle opens) ≡ true). h)
      (λ (h : (q ≢ o.node) × (x : Share) × (slot : Slot) × (value_at ss n ≡ Some x) × (slot_at x.tree q ≡ Some slot) × (slot.node.facts.pending ≡ true)).
      others_on opens o i d w.order wi is q h.0 (w.pending n h.1 q h.2 h.3 h.4 h.5))
      (pending n y q z e at p);
}

-- A session's end: it has no open any more.

kept_open : (ls : List Live) (ss : List (ℕ × Share)) (n : ℕ) (o : Open) → o.handle.session ≢ n → IsOpen ls ss o
    → IsOpen (filter (λ l. not (is_session n l)) ls) ss o
kept_open ls ss n o ne w = record {
  live = w.live;
  session = ended_finds o.handle.session n ls ne ∙ w.session;
  first = w.first;
  granted = w.granted;
  share = w.share;
  there = w.there;
  slot = w.slot;
  stands = w.stands;
  named = w.named;
  moment = w.moment;
}

-- the opens without a session that has none
pub opens_ended : (came : ℕ) (ls : List Live) (ss : List (ℕ × Share)) (opens : List Open) (n : ℕ)
    → All (λ o. o.handle.session ≢ n) opens → AreOpens came ls ss opens
    → AreOpens came (filter (λ l. not (is_session n l)) ls) ss opens
opens_ended came ls ss opens n other w = record {
  count = w.count;
  order = w.order;
  each = λ k d within. kept_open ls ss n (get_or opens k d) (other k d within) (w.each k d within);
  pending = w.pending;
}

-- Locks.

lock_stays : (opens more : List Open) (l : Lock)
    → ((o : Open) → find (has_handle l.held.handle) opens ≡ Some o
    → (q : Open) × (find (has_handle l.held.handle) more ≡ Some q) × (q.node ≡ o.node)) → IsLock opens l → IsLock more l
lock_stays opens more l f w =
    let (q, at, same) = f w.holder w.there in record { filled = w.filled; holder = q; there = at; on = same ∙ w.on }

-- the locks, where each handle that is found is found still, on its node
pub locks_stay : (opens more : List Open) (locks : List Lock)
    → ((h : Handle) (o : Open) → find (has_handle h) opens ≡ Some o
    → (q : Open) × (find (has_handle h) more ≡ Some q) × (q.node ≡ o.node)) → AreLocks opens locks → AreLocks more locks
locks_stay opens more locks f w = record {
  order = w.order;
  apart = w.apart;
  each = All-weaker (IsLock opens) (IsLock more) (λ l h. lock_stays opens more l (f l.held.handle) h) locks w.each;
}

lock_less : (opens : List Open) (handle : Handle) (l : Lock) → not (same_handle handle l.held.handle) ≡ true
    → IsLock opens l → IsLock (without handle opens) l
lock_less opens handle l off w = record {
  filled = w.filled;
  holder = w.holder;
  there =
      find_filter (has_handle l.held.handle) (λ o. not (same_handle handle o.handle)) (λ o e. differ handle l.held.handle o.handle off e) opens ∙ w.there;
  on = w.on;
}
  where
    differ : (a b c : Handle) → not (same_handle a b) ≡ true → same_handle b c ≡ true → not (same_handle a c) ≡ true
    differ a b c off same = grind (arith, nat_tests)

filtered_pass : {X : Type 0} (keep : X → Bool) (P Q : X → Type 0) (xs : List X)
    → ((x : X) → keep x ≡ true → P x → Q x) → All P xs → All Q (filter keep xs)
filtered_pass keep P Q [] f h = All-nil Q
filtered_pass keep P Q (x ∷ xs) f h =
    elim (keep x) as (λ b. keep x ≡ b → All Q (cond b (x ∷ filter keep xs) (filter keep xs))) [
      | true ↦ λ e. All-cons Q x (filter keep xs) (f x e (All-head P x xs h)) (filtered_pass keep P Q xs f (All-tail P x xs h))
      | false ↦ λ e. filtered_pass keep P Q xs f (All-tail P x xs h)
    ] refl

-- the locks without those of a handle that goes
pub locks_less : (opens : List Open) (locks : List Lock) (handle : Handle) → AreLocks opens locks
    → AreLocks (without handle opens) (filter (λ l. not (same_handle handle l.held.handle)) locks)
locks_less opens locks handle w = record {
  order = AllPairs-filter (λ a b. comes_before b a ≡ false) (λ l. not (same_handle handle l.held.handle)) locks w.order;
  apart =
      AllPairs-filter (λ a b. a.node ≡ b.node → forbids_lock b.held.exclusive b.held.from b.held.end a.held ≡ false) (λ l. not (same_handle handle l.held.handle)) locks w.apart;
  each =
      filtered_pass (λ l. not (same_handle handle l.held.handle)) (IsLock opens) (IsLock (without handle opens)) locks (λ l off h. lock_less opens handle l off h) w.each;
}

lock_order_one_way : (a b : Lock) → comes_before a b ≡ true → comes_before b a ≡ false
lock_order_one_way a b e = grind (arith, nat_tests)

by_node : (an bn cn : ℕ) (ab cb ca : Bool) → (nat_lt an bn || (an == bn && ab)) ≡ true
    → (nat_lt cn bn || (cn == bn && cb)) ≡ false → (ab ≡ true → cb ≡ false → ca ≡ false)
    → (nat_lt cn an || (cn == an && ca)) ≡ false
by_node an bn cn ab cb false e h f = grind (arith, nat_tests)
by_node an bn cn false cb true e h f = grind (arith, nat_tests)
by_node an bn cn true true true e h f = grind (arith, nat_tests)
by_node an bn cn true false true e h f = absurd (true_false (f refl refl))

lock_order_behind : (a b c : Lock) → comes_before a b ≡ true → comes_before c b ≡ false → comes_before c a ≡ false
lock_order_behind a b c e h =
    by_node a.node b.node c.node (lock_before a.held b.held) (lock_before c.held b.held) (lock_before c.held a.held) e h (lock_behind a.held b.held c.held)

-- the locks with one more that none on its node forbids
pub locks_more : (opens : List Open) (locks : List Lock) (l : Lock) → AreLocks opens locks → IsLock opens l
    → All (λ q. q.node ≡ l.node → forbids_lock l.held.exclusive l.held.from l.held.end q.held ≡ false) locks
    → AreLocks opens (insert_by comes_before l locks)
locks_more opens locks l w new free = record {
  order =
      AllPairs-insert_by (λ a b. comes_before b a ≡ false) comes_before l locks (λ a e. lock_order_one_way l a e) (λ a b e r. lock_order_behind l a b e r) (λ k d within e. e) w.order;
  apart =
      AllPairs-insert_any (λ a b. a.node ≡ b.node → forbids_lock b.held.exclusive b.held.from b.held.end a.held ≡ false) comes_before l locks
      (All-weaker (λ q. q.node ≡ l.node → forbids_lock l.held.exclusive l.held.from l.held.end q.held ≡ false) (λ q. l.node ≡ q.node → forbids_lock q.held.exclusive q.held.from q.held.end l.held ≡ false)
      (λ q f same. forbids_back q.held l.held (f (sym same))) locks free)
      free w.apart;
  each = All-insert_by (IsLock opens) comes_before l locks new w.each;
}

-- the locks without one
pub locks_fewer : (opens : List Open) (locks : List Lock) (l : Lock) → AreLocks opens locks
    → AreLocks opens (remove_first (same_lock l) locks)
locks_fewer opens locks l w = record {
  order = AllPairs-remove_first (λ a b. comes_before b a ≡ false) (same_lock l) locks w.order;
  apart =
      AllPairs-remove_first (λ a b. a.node ≡ b.node → forbids_lock b.held.exclusive b.held.from b.held.end a.held ≡ false) (same_lock l) locks w.apart;
  each = All-remove_first (IsLock opens) (same_lock l) locks w.each;
}

-- Finding opens.

insert_finds : (h : Handle) (o : Open) (opens : List Open) → has_handle h o ≡ false
    → find (has_handle h) (insert_by open_before o opens) ≡ find (has_handle h) opens
insert_finds h o [] off = ap (λ b. cond b (Some o) None) off
insert_finds h o (q ∷ qs) off =
    elim (open_before o q) as (λ b. find (has_handle h) (cond b (o ∷ q ∷ qs) (q ∷ insert_by open_before o qs)) ≡ find (has_handle h) (q ∷ qs)) [
      | true ↦ ap (λ b. cond b (Some o) (find (has_handle h) (q ∷ qs))) off
      | false ↦ ap (λ (r : Option Open). cond (has_handle h q) (Some q) r) (insert_finds h o qs off)
    ]

-- a handle that is found is found beside a new one
pub more_finds : (ls : List Live) (ss : List (ℕ × Share)) (opens : List Open) (o : Open) (l : Live)
    → find (is_session o.handle.session) ls ≡ Some l → o.handle.index ≡ l.granted + 1 → All (IsOpen ls ss) opens
    → (h : Handle) (q : Open) → find (has_handle h) opens ≡ Some q
    → (r : Open) × (find (has_handle h) (insert_by open_before o opens) ≡ Some r) × (r.node ≡ q.node)
more_finds ls ss opens o l at next each h q e =
    let w : IsOpen ls ss q = found_holds (IsOpen ls ss) (has_handle h) opens q each e in
    let new : same_handle o.handle q.handle ≡ false = handle_new ls ss o l at next q w in
    let is : same_handle h q.handle ≡ true = found_passes (has_handle h) opens q e in
    (q, insert_finds h o opens (off h o.handle q.handle is new) ∙ e, refl)
  where
    off : (a b c : Handle) → same_handle a c ≡ true → same_handle b c ≡ false → same_handle a b ≡ false
    off a b c is new = grind (arith, nat_tests)

changed_by : (h : Handle) (x y : Open) (xs : List Open) (q : Open) (b : Bool) → y.handle ≡ x.handle → y.node ≡ x.node
    → has_handle h x ≡ b → cond b (Some x) (find (has_handle h) xs) ≡ Some q
    → (r : Open) × (find (has_handle h) (y ∷ xs) ≡ Some r) × (r.node ≡ q.node)
changed_by h x y xs q true same on is e =
    (y, ap (λ b. cond b (Some y) (find (has_handle h) xs)) (ap (same_handle h) same ∙ is), on ∙ ap (λ (o : Open). o.node) (same_Some x q e))
changed_by h x y xs q false same on is e =
    (q, ap (λ b. cond b (Some y) (find (has_handle h) xs)) (ap (same_handle h) same ∙ is) ∙ e, refl)

past_by : (h : Handle) (x : Open) (xs ys : List Open) (q : Open) (b : Bool) → has_handle h x ≡ b
    → cond b (Some x) (find (has_handle h) xs) ≡ Some q
    → (find (has_handle h) xs ≡ Some q → (r : Open) × (find (has_handle h) ys ≡ Some r) × (r.node ≡ q.node))
    → (r : Open) × (find (has_handle h) (x ∷ ys) ≡ Some r) × (r.node ≡ q.node)
past_by h x xs ys q true is e rest =
    (x, ap (λ b. cond b (Some x) (find (has_handle h) ys)) is, ap (λ (o : Open). o.node) (same_Some x q e))
past_by h x xs ys q false is e rest =
    let (r, at, node) = rest e in
    (r, ap (λ b. cond b (Some x) (find (has_handle h) ys)) is ∙ at, node)

change_finds_by : (h : Handle) (p : Open → Bool) (f : Open → Open) (opens : List Open)
    → ((o : Open) → (f o).handle ≡ o.handle) → ((o : Open) → (f o).node ≡ o.node)
    → (q : Open) → find (has_handle h) opens ≡ Some q
    → (r : Open) × (find (has_handle h) (change p f opens) ≡ Some r) × (r.node ≡ q.node)
change_finds_by h p f [] same on q e = absurd (none_some q e)
change_finds_by h p f (x ∷ xs) same on q e =
    elim (p x) as (λ b. (r : Open) × (find (has_handle h) (cond b (f x ∷ xs) (x ∷ change p f xs)) ≡ Some r) × (r.node ≡ q.node)) [
      | true ↦ changed_by h x (f x) xs q (has_handle h x) (same x) (on x) refl e
      | false ↦ past_by h x xs (change p f xs) q (has_handle h x) refl e (λ g. change_finds_by h p f xs same on q g)
    ]

-- the opens with one changed that keeps its handle, share, node and moment
pub opens_changed : (came : ℕ) (ls : List Live) (ss : List (ℕ × Share)) (p : Open → Bool) (f : Open
    → Open) (opens : List Open) → ((o : Open) → IsOpen ls ss o → IsOpen ls ss (f o))
    → ((o : Open) → (f o).handle ≡ o.handle) → ((o : Open) → (f o).node ≡ o.node) → AreOpens came ls ss opens
    → AreOpens (came + 1) ls ss (change p f opens)
opens_changed came ls ss p f opens keeps same on w = record {
  count = omega (arith, length_changed opens, w.count);
  order = AllPairs-change (λ a b. handle_before a.handle b.handle ≡ true) p f opens
      (λ a b h. ap (λ k. handle_before k b.handle) (same a) ∙ h) (λ a b h. ap (λ k. handle_before a.handle k) (same b) ∙ h) w.order;
  each = All-change (IsOpen ls ss) (IsOpen ls ss) p f opens keeps (λ o h. h) w.each;
  pending = λ n y q z e at pending. any_changed q opens (w.pending n y q z e at pending);
}
  where
    length_changed : (xs : List Open) → length (change p f xs) ≡ length xs
    length_changed [] = refl
    length_changed (x ∷ xs) =
        elim (p x) as (λ b. length (cond b (f x ∷ xs) (x ∷ change p f xs)) ≡ length (x ∷ xs)) [
          | true ↦ omega arith
          | false ↦ omega (arith, length_changed xs)
        ]

    any_changed : (q : ℕ) (xs : List Open) → list_any (is_on q) xs ≡ true → list_any (is_on q) (change p f xs) ≡ true
    any_changed q [] h = h
    any_changed q (x ∷ xs) h =
        elim (p x) as (λ b. list_any (is_on q) (cond b (f x ∷ xs) (x ∷ change p f xs)) ≡ true) [
          | true ↦ ap (λ n. (n == q) || list_any (is_on q) xs) (on x) ∙ h
          | false ↦ split (is_on q x) (list_any (is_on q) xs) (list_any (is_on q) (change p f xs)) h (any_changed q xs)
        ]
      where
        split : (a b c : Bool) → (a || b) ≡ true → (b ≡ true → c ≡ true) → (a || c) ≡ true
        split true b c h f = refl
        split false b c h f = f h

-- and what is found among them
pub changed_finds : (p : Open → Bool) (f : Open → Open) (opens : List Open) → ((o : Open) → (f o).handle ≡ o.handle)
    → ((o : Open) → (f o).node ≡ o.node)
    → (h : Handle) (q : Open) → find (has_handle h) opens ≡ Some q
    → (r : Open) × (find (has_handle h) (change p f opens) ≡ Some r) × (r.node ≡ q.node)
changed_finds p f opens same on h q e = change_finds_by h p f opens same on q e
