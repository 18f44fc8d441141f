-- Deleting a node, closing an open, and the end of a session leave an account whole.
use Rattle.std.proofs.Common.{◌≡◌, ◌≢◌, ℕ, ◌+◌, ◌≤◌, ◌<◌, true, false, Bool, cond, not, List, [], ◌∷◌, length, Option}
use Rattle.std.proofs.Common.{Some, None, refl, rules, sym, ap, ◌∙◌, subst, arith, ◌⊎◌, inl, inr, ⊎_elim, zero, suc}
use Rattle.std.specs.Prelude.{All, AllPairs, filter, get_or, ◌||◌, ◌&&◌, ◌==◌, option_and_then}
use Rattle.std.specs.List.{list_any}
use Rattle.std.proofs.lemmas.Option.{same_Some}
use Rattle.std.proofs.lemmas.List.Elements.{All-head, All-tail}
use Rattle.sx_base.specs.Entries.{value_at, change_at}
use Rattle.sx_guard.specs.Handle.{Handle, same_handle, handle_before}
use Rattle.sx_call.specs.declared.opens.Open.{Open}
use Rattle.sx_call.specs.declared.replies.Fate.{Fate}
use Rattle.sx_tree.specs.declared.share.Share.{Share}
use Rattle.sx_tree.specs.Node.{is_directory}
use Rattle.sx_tree.specs.Tree.{Nodes, Slot, slot_at, tree_use}
use Rattle.sx_spec.specs.Account.{Store, Account, is_session, is_held_by, is_on, is_opened, slot_of_open}
use Rattle.sx_spec.specs.Changes.{delete_at, take_open, goes_at_close, close_fate, close, close_all, take_session}
use Rattle.sx_spec.specs.Facts.{as_pending}
use Rattle.sx_spec.specs.Trees.{with_facts, change_node, settle, fate_of}
use Rattle.sx_spec.specs.Whole.{IsTree, IsOpen, IsWhole, most_granules}
use Rattle.sx_guard.proofs.Pairs.{AllPairs-head, AllPairs-tail, AllPairs-weaker}
use Rattle.std.proofs.lemmas.List.Kept.{AllPairs-filter}
use Rattle.std.proofs.lemmas.Bool.{cases_eq}
use Rattle.std.proofs.lemmas.Bool.Decides.{nat_tests}
use Rattle.sx_spec.proofs.Dropped as dropped
use Rattle.sx_spec.proofs.Holds.{changed_slots, changed_pending, without, opens_less, opens_ended, locks_less}
use Rattle.sx_spec.proofs.Likes.{LeavesNode}
use Rattle.sx_spec.proofs.Lists.{true_false}
use Rattle.sx_spec.proofs.Lookups.{change_back}
use Rattle.sx_spec.proofs.Parts.{next, came_whole, TreeGoes, tree_share, tree_whole, changed_goes, dropped_goes}
use Rattle.sx_spec.proofs.Parts.{same_goes}
use Rattle.sx_spec.proofs.Sessions.{sessions_ended}
use Rattle.sx_spec.proofs.Shares.{shares_changed}
use Rattle.sx_spec.proofs.Uses.{use_kept}

-- Settling a node.

-- a bare node that isn't the root may become pending
pub pending_leaves : (x : Slot) → x.name ≢ None → x.below ≡ [] → LeavesNode x (with_facts as_pending)
pending_leaves x named empty = record {
  id = refl;
  parent = refl;
  directory = refl;
  moments = λ m. record { created = m.created; written = m.written; changed = m.changed };
  pending = λ p. inr (empty, named);
  formed = λ f. f;
}

pending_use : (id : ℕ) (t : Nodes) → tree_use t ≤ most_granules
    → tree_use (change_node id (with_facts as_pending) t) ≤ most_granules
pending_use id t used = let e = use_kept id (with_facts as_pending) t (λ n. refl) in omega (arith, e, used)

-- a node that is to go, is bare and isn't the root, settled by whether something is open on it
pub settled_goes : (next id : ℕ) (opens : List Open) (x : Slot) (t : Nodes) (is_open : Bool) → IsTree next t
    → slot_at t id ≡ Some x → x.name ≢ None → x.below ≡ [] → list_any (is_on id) opens ≡ is_open
    → TreeGoes next next opens t (settle (fate_of true is_open) id t)
settled_goes next id opens x t true w at named empty is =
    changed_goes next id opens (with_facts as_pending) t w
    (λ y e. subst (λ (s : Slot). LeavesNode s (with_facts as_pending)) (same_Some _ _ (sym at ∙ e)) (pending_leaves x named empty))
    (pending_use id t w.used)
    (λ y e p. inl is)
settled_goes next id opens x t false w at named empty is = dropped_goes next id opens x t w at named empty is

-- the account with a bare node deleted
pub delete_whole : (a : Account) (number id : ℕ) (share : Share) (x : Slot) → IsWhole a
    → value_at a.store.shares number ≡ Some share → slot_at share.tree id ≡ Some x → x.name ≢ None → x.below ≡ []
    → IsWhole (next a (delete_at number id a.store))
unfolding delete_at
delete_whole a number id share x w there at named empty =
    tree_whole a a.store.next_id number (settle (fate_of true (is_opened a.store id)) id) w (omega arith) (omega (arith, w.shares.ids))
    (λ y e. subst (λ (s : Share). TreeGoes a.store.next_id a.store.next_id a.store.opens s.tree (settle (fate_of true (is_opened a.store id)) id s.tree)) (same_Some _ _ (sym there ∙ e))
    (settled_goes a.store.next_id id a.store.opens x share.tree (is_opened a.store id) (w.shares.each number share there).tree at named empty refl))

-- Closing an open.

-- a list of no item
pub no_length : {X : Type 0} (xs : List X) → (length xs == 0) ≡ true → xs ≡ []
no_length [] e = refl
no_length (x ∷ xs) e = absurd (some_length x xs e)
  where
    some_length : {X : Type 0} (x : X) (xs : List X) → (length (x ∷ xs) == 0) ≡ true → ⊥
    some_length x xs e = search rules

goes_by : (next id : ℕ) (t : Nodes) (x : Slot) → IsTree next t → slot_at t id ≡ Some x
    → (on_close pending directory : Bool) → x.node.facts.pending ≡ pending → is_directory x.node.kind ≡ directory
    → (pending || (on_close && (not directory || length x.below == 0))) ≡ true → x.below ≡ []
goes_by next id t x w at on_close true directory p d goes = w.bare id x at p
goes_by next id t x w at true false false p d goes = w.files id x at d
goes_by next id t x w at true false true p d goes = no_length x.below goes
goes_by next id t x w at false false directory p d goes = absurd (true_false (sym goes))

-- a node that goes at a close is bare
pub goes_bare : (next id : ℕ) (t : Nodes) (x : Slot) (on_close : Bool) → IsTree next t → slot_at t id ≡ Some x
    → goes_at_close on_close (Some x) ≡ true → x.below ≡ []
goes_bare next id t x on_close w at goes =
    goes_by next id t x w at on_close x.node.facts.pending (is_directory x.node.kind) refl refl goes

stays_pending : (on_close : Bool) (x : Slot) → goes_at_close on_close (Some x) ≡ false → x.node.facts.pending ≡ false
stays_pending on_close x stays =
    by x.node.facts.pending (on_close && (not (is_directory x.node.kind) || length x.below == 0)) stays
  where
    by : (b c : Bool) → (b || c) ≡ false → b ≡ false
    by true c e = e
    by false c e = refl

module _ (came : ℕ) (s : Store) (o : Open) (i : ℕ) (d : Open) (w : IsWhole (record {
  came =
      came;
  store = s;
})) (within : i < length s.opens) (at : get_or s.opens i d ≡ o) where
  open_is : IsOpen s.sessions s.shares o
  open_is = subst (IsOpen s.sessions s.shares) at (w.opens.each i d within)

  abbrev others : List Open
  others = without o.handle s.opens

  slot_is : slot_of_open s o ≡ Some open_is.slot
  slot_is = ap (option_and_then (λ (x : Share). slot_at x.tree o.node)) open_is.there ∙ open_is.stands

  tree_is : IsTree s.next_id open_is.share.tree
  tree_is = (w.shares.each o.share open_is.share open_is.there).tree

  goes : Bool
  goes = goes_at_close o.on_close (Some open_is.slot)

  opened : Bool
  opened = list_any (is_on o.node) others

  fate_is : close_fate o s ≡ fate_of goes opened
  unfolding close_fate take_open goes opened
  fate_is = ap (λ (x : Option Slot). fate_of (goes_at_close o.on_close x) (list_any (is_on o.node) others)) slot_is

  tree_goes_by : (g : Bool) → goes ≡ g
      → TreeGoes s.next_id s.next_id others open_is.share.tree (settle (fate_of g opened) o.node open_is.share.tree)
  unfolding goes opened
  tree_goes_by true is =
      settled_goes s.next_id o.node others open_is.slot open_is.share.tree opened tree_is open_is.stands open_is.named (goes_bare s.next_id o.node open_is.share.tree open_is.slot o.on_close tree_is open_is.stands is) refl
  tree_goes_by false is = same_goes s.next_id others open_is.share.tree tree_is

  abbrev g : Share → Share
  g x = record x { tree = settle (close_fate o s) o.node x.tree }

  tree_goes : TreeGoes s.next_id s.next_id others open_is.share.tree (settle (close_fate o s) o.node open_is.share.tree)
  tree_goes =
      subst (λ (f : Fate). TreeGoes s.next_id s.next_id others open_is.share.tree (settle f o.node open_is.share.tree)) (sym fate_is) (tree_goes_by goes refl)

  tree_goes_at : (x : Share) → value_at s.shares o.share ≡ Some x
      → TreeGoes s.next_id s.next_id others x.tree (settle (close_fate o s) o.node x.tree)
  tree_goes_at x e =
      subst (λ (y : Share). TreeGoes s.next_id s.next_id others y.tree (settle (close_fate o s) o.node y.tree)) (same_Some _ _ (sym open_is.there ∙ e)) tree_goes

  -- where the node is pending and nothing else is open on it, it is gone
  gone_by : (h b : Bool) → goes ≡ h → opened ≡ b → h ≡ true → b ≡ false → (z : Slot)
      → slot_at (settle (fate_of h b) o.node open_is.share.tree) o.node ≡ Some z → ⊥
  unfolding goes
  gone_by true false is none hh bb z e =
      (dropped.dropped_back s.next_id open_is.share.tree o.node open_is.slot tree_is open_is.stands open_is.named (goes_bare s.next_id o.node open_is.share.tree open_is.slot o.on_close tree_is open_is.stands is) o.node z e).0 refl
  gone_by true true is none hh bb z e = true_false bb
  gone_by false b is none hh bb z e = true_false (sym hh)

  gone_absent : goes ≡ true → opened ≡ false → (z : Slot)
      → slot_at (settle (close_fate o s) o.node open_is.share.tree) o.node ≡ Some z → ⊥
  gone_absent is none z e =
      gone_by goes opened refl refl is none z (ap (λ (f : Fate). slot_at (settle f o.node open_is.share.tree) o.node) (sym fate_is) ∙ e)

  goes_pending : open_is.slot.node.facts.pending ≡ true → goes ≡ true
  unfolding goes
  goes_pending p =
      ap (λ b. b || (o.on_close && (not (is_directory open_is.slot.node.kind) || length open_is.slot.below == 0))) p

  abbrev Left : ℕ → ℕ → Type 0
  Left n q = (list_any (is_on q) others ≡ true) ⊎ ((q ≢ o.node) × (x : Share) × (slot : Slot) × (value_at s.shares n ≡ Some x) × (slot_at x.tree q ≡ Some slot) × (slot.node.facts.pending ≡ true))

  pending_node : (n : ℕ) (x y : Share) (slot z : Slot) → value_at s.shares n ≡ Some x
      → slot_at x.tree o.node ≡ Some slot → slot.node.facts.pending ≡ true
      → value_at (change_at o.share g s.shares) n ≡ Some y → slot_at y.tree o.node ≡ Some z → (b : Bool) → opened ≡ b
      → list_any (is_on o.node) others ≡ true
  unfolding opened
  pending_node n x y slot z e stands p f there true is = is
  pending_node n x y slot z e stands p f there false is =
      let same : n ≡ o.share =
      w.shares.apart n o.share x open_is.share o.node e open_is.there (inl (slot, stands)) (inl (open_is.slot, open_is.stands)) in
      let here : x ≡ open_is.share = same_Some _ _ (sym e ∙ ap (λ (j : ℕ). value_at s.shares j) same ∙ open_is.there) in
      let slots : slot ≡ open_is.slot =
      same_Some _ _ (sym stands ∙ ap (λ (r : Share). slot_at r.tree o.node) here ∙ open_is.stands) in
      let (r, at, how) = change_back o.share g s.shares n y f in
      let is_r : r ≡ open_is.share = same_Some _ _ (sym at ∙ e) ∙ here in
      absurd (⊎_elim
      (λ (h : (n ≢ o.share) × (y ≡ r)). h.0 same)
      (λ (h : (n ≡ o.share) × (y ≡ g r)).
      gone_absent (goes_pending (ap (λ (t : Slot). t.node.facts.pending) (sym slots) ∙ p)) is z
      (ap (λ (t : Share). slot_at (g t).tree o.node) (sym is_r) ∙ ap (λ (t : Share). slot_at t.tree o.node) (sym h.1) ∙ there)) how)

  pending_by : (n : ℕ) (y : Share) (q : ℕ) (z : Slot) → value_at (change_at o.share g s.shares) n ≡ Some y
      → slot_at y.tree q ≡ Some z
      → (x : Share) (slot : Slot) → value_at s.shares n ≡ Some x → slot_at x.tree q ≡ Some slot
      → slot.node.facts.pending ≡ true → Left n q
  pending_by n y q z f there x slot e stands p = ⊎_elim
      (λ (same : q ≡ o.node). inl (subst (λ (j : ℕ). list_any (is_on j) others ≡ true) (sym same)
      (pending_node n x y slot z e (subst (λ (j : ℕ). slot_at x.tree j ≡ Some slot) same stands) p f (subst (λ (j : ℕ). slot_at y.tree j ≡ Some z) same there) opened refl)))
      (λ (ne : q ≢ o.node). inr (ne, x, slot, e, stands, p))
      (cases_eq q o.node)

  -- the account with the open closed
  pub closed_whole : IsWhole (record { came = came; store = close o s })
  unfolding close take_open
  closed_whole = record {
    sessions = w.sessions;
    shares =
        shares_changed came came s.next_id s.next_id s.made o.share g s.shares w.shares (omega arith) (omega arith) w.shares.ids
        (λ x e. (tree_share came came s.next_id s.next_id others x (settle (close_fate o s) o.node x.tree) (omega arith) (omega arith) (w.shares.each o.share x e) (tree_goes_at x e)).share);
    opens = opens_less came s.sessions s.shares (change_at o.share g s.shares) s.opens o i d w.opens within at
        (changed_slots others o.share g s.shares (λ x e. (tree_goes_at x e).stays))
        (λ n y q z f there p. ⊎_elim
        (λ (h : list_any (is_on q) others ≡ true). inl h)
        (λ (h : (x : Share) × (slot : Slot) × (value_at s.shares n ≡ Some x) × (slot_at x.tree q ≡ Some slot) × (slot.node.facts.pending ≡ true)). pending_by n y q z f there h.0 h.1 h.2 h.3 h.4)
        ((changed_pending others o.share g s.shares (λ x e. (tree_goes_at x e).stays)).was n y q z f there p));
    locks = locks_less s.opens s.locks o.handle w.locks;
  }

-- Closing several.

-- it is one of them
abbrev pub Listed : Open → List Open → Type 0
Listed o [] = ⊥
Listed o (q ∷ qs) = (o ≡ q) ⊎ Listed o qs

-- and stands at a place
listed_at : (o : Open) (os : List Open) → Listed o os → (i : ℕ) × (i < length os) × (get_or os i o ≡ o)
listed_at o [] l = absurd l
listed_at o (q ∷ qs) (inl is) = (0, omega arith, sym is)
listed_at o (q ∷ qs) (inr l) = let (i, within, at) = listed_at o qs l in (suc i, omega (arith, within), at)

listed_kept : (keep : Open → Bool) (o : Open) (os : List Open) → Listed o os → keep o ≡ true → Listed o (filter keep os)
listed_kept keep o [] l k = l
listed_kept keep o (q ∷ qs) (inl is) k = rw (ap keep (sym is) ∙ k) (inl is)
listed_kept keep o (q ∷ qs) (inr l) k =
    elim (keep q) as (λ b. Listed o (cond b (q ∷ filter keep qs) (filter keep qs))) [
      | true ↦ inr (listed_kept keep o qs l k)
      | false ↦ listed_kept keep o qs l k
    ]

-- the rest to be closed: each is open, and their handles differ
abbrev pub AreToClose : List Open → List Open → Type 0
AreToClose opens [] = Unit {0}
AreToClose opens (o ∷ os) = Listed o opens × All (λ q. same_handle o.handle q.handle ≡ false) os × AreToClose opens os

still_open : (o : Open) (opens os : List Open) → All (λ q. same_handle o.handle q.handle ≡ false) os
    → AreToClose opens os → AreToClose (without o.handle opens) os
still_open o opens [] other c = tt
still_open o opens (q ∷ qs) other c = (
  listed_kept (λ z. not (same_handle o.handle z.handle)) q opens c.0 (ap not (All-head (λ z. same_handle o.handle z.handle ≡ false) q qs other)),
  c.1,
  still_open o opens qs (All-tail (λ z. same_handle o.handle z.handle ≡ false) q qs other) c.2,
)

opens_of_close : (o : Open) (s : Store) → (close o s).opens ≡ without o.handle s.opens
unfolding close take_open
opens_of_close o s = refl

-- the account with several opens closed
pub close_all_whole : (came : ℕ) (os : List Open) (s : Store) → IsWhole (record { came = came; store = s })
    → AreToClose s.opens os → IsWhole (record { came = came; store = close_all os s })
unfolding close_all
close_all_whole came [] s w c = w
close_all_whole came (o ∷ os) s w c =
    let (i, within, at) = listed_at o s.opens c.0 in
    close_all_whole came os (close o s) (closed_whole came s o i o w within at)
    (subst (λ opens. AreToClose opens os) (sym (opens_of_close o s)) (still_open o s.opens os c.1 c.2))

-- Opens of one list.

listed_filter : (keep : Open → Bool) (all os : List Open) → ((o : Open) → Listed o os → Listed o all) → (o : Open)
    → Listed o (filter keep os) → Listed o all
listed_filter keep all [] f o l = absurd l
listed_filter keep all (q ∷ qs) f o l =
    elim (keep q) as (λ b. Listed o (cond b (q ∷ filter keep qs) (filter keep qs)) → Listed o all) [
      | true ↦ λ l. ⊎_elim (λ (is : o ≡ q). f o (inl is)) (λ (m : Listed o (filter keep qs)). listed_filter keep all qs (λ p m. f p (inr m)) o m) l
      | false ↦ λ l. listed_filter keep all qs (λ p m. f p (inr m)) o l
    ] l

to_close : (all os : List Open) → ((o : Open) → Listed o os → Listed o all)
    → AllPairs (λ a b. same_handle a.handle b.handle ≡ false) os → AreToClose all os
to_close all [] f apart = tt
to_close all (o ∷ os) f apart = (
  f o (inl refl),
  AllPairs-head (λ a b. same_handle a.handle b.handle ≡ false) o os apart,
  to_close all os (λ p m. f p (inr m)) (AllPairs-tail (λ a b. same_handle a.handle b.handle ≡ false) o os apart),
)

differ : (a b : Handle) → handle_before a b ≡ true → same_handle a b ≡ false
differ a b lt = grind (arith, nat_tests)

-- opens of an account that pass two tests may be closed
pub chosen_to_close : (p q : Open → Bool) (opens : List Open)
    → AllPairs (λ a b. handle_before a.handle b.handle ≡ true) opens → AreToClose opens (filter p (filter q opens))
chosen_to_close p q opens order =
    to_close opens (filter p (filter q opens)) (λ o l. listed_filter p opens (filter q opens) (λ o m. listed_filter q opens opens (λ o n. n) o m) o l)
    (AllPairs-weaker (λ a b. handle_before a.handle b.handle ≡ true) (λ a b. same_handle a.handle b.handle ≡ false) (λ a b lt. differ a.handle b.handle lt) (filter p (filter q opens))
    (AllPairs-filter (λ a b. handle_before a.handle b.handle ≡ true) p (filter q opens) (AllPairs-filter (λ a b. handle_before a.handle b.handle ≡ true) q opens order)))

-- and so may those that pass one
pub passing_to_close : (q : Open → Bool) (opens : List Open)
    → AllPairs (λ a b. handle_before a.handle b.handle ≡ true) opens → AreToClose opens (filter q opens)
passing_to_close q opens order =
    to_close opens (filter q opens) (λ o l. listed_filter q opens opens (λ o n. n) o l)
    (AllPairs-weaker (λ a b. handle_before a.handle b.handle ≡ true) (λ a b. same_handle a.handle b.handle ≡ false) (λ a b lt. differ a.handle b.handle lt) (filter q opens)
    (AllPairs-filter (λ a b. handle_before a.handle b.handle ≡ true) q opens order))

-- The end of a session.

-- none of a session is left
abbrev NoneOf : ℕ → List Open → Type 0
NoneOf n opens = (o : Open) → Listed o opens → is_held_by n o ≡ false

opens_left : (n : ℕ) (os : List Open) (s : Store)
    → ((o : Open) → Listed o s.opens → is_held_by n o ≡ true → Listed o os) → NoneOf n (close_all os s).opens
unfolding close_all
opens_left n [] s f = λ o l. by o l (is_held_by n o) refl
  where
    by : (o : Open) → Listed o s.opens → (b : Bool) → is_held_by n o ≡ b → is_held_by n o ≡ false
    by o l true is = absurd (f o l is)
    by o l false is = is
opens_left n (q ∷ qs) s f =
    opens_left n qs (close q s) (λ o l held. left o (subst (λ opens. Listed o opens) (opens_of_close q s) l) held)
  where
    kept : (o : Open) (os : List Open) → Listed o (without q.handle os) → not (same_handle q.handle o.handle) ≡ true
    kept o [] l = absurd l
    kept o (z ∷ zs) l =
        elim (not (same_handle q.handle z.handle)) as (λ b. not (same_handle q.handle z.handle) ≡ b → Listed o (cond b (z ∷ without q.handle zs) (without q.handle zs)) → not (same_handle q.handle o.handle) ≡ true) [
          | true ↦ λ e l. ⊎_elim (λ (is : o ≡ z). ap (λ (x : Open). not (same_handle q.handle x.handle)) is ∙ e) (λ (m : Listed o (without q.handle zs)). kept o zs m) l
          | false ↦ λ e l. kept o zs l
        ] refl l

    itself : (h : Handle) → not (same_handle h h) ≡ true → ⊥
    itself h e = absurd_same h e
      where
        absurd_same : (h : Handle) → not (same_handle h h) ≡ true → ⊥
        absurd_same h e = grind (arith, nat_tests)

    left : (o : Open) → Listed o (without q.handle s.opens) → is_held_by n o ≡ true → Listed o qs
    left o l held = ⊎_elim
        (λ (is : o ≡ q). absurd (itself q.handle (subst (λ (x : Open). not (same_handle q.handle x.handle) ≡ true) is (kept o s.opens l))))
        (λ (m : Listed o qs). m)
        (f o (listed_filter (λ z. not (same_handle q.handle z.handle)) s.opens s.opens (λ o m. m) o l) held)

listed_index : (os : List Open) (k : ℕ) (d : Open) → k < length os → Listed (get_or os k d) os
listed_index [] k d within = absurd (omega (arith, within))
listed_index (q ∷ qs) zero d within = inl refl
listed_index (q ∷ qs) (suc k) d within = inr (listed_index qs k d (omega (arith, within)))

not_held : (n : ℕ) (o : Open) → is_held_by n o ≡ false → o.handle.session ≢ n
not_held n o off = λ same. search rules

-- the account without a session, whose handles are closed
pub end_whole : (a : Account) (n : ℕ) → IsWhole a
    → IsWhole (next a (take_session n (close_all (filter (is_held_by n) a.store.opens) a.store)))
unfolding take_session
end_whole a n w =
    let os : List Open = filter (is_held_by n) a.store.opens in
    let s : Store = close_all os a.store in
    let closed : IsWhole (record {
      came =
          a.came;
      store = s;
    }) = close_all_whole a.came os a.store w (passing_to_close (is_held_by n) a.store.opens w.opens.order) in
    let more : IsWhole (next (record {
      came =
          a.came;
      store = s;
    }) s) = came_whole (record { came = a.came; store = s }) closed in
    let none : NoneOf n s.opens =
    opens_left n os a.store (λ o l held. listed_kept (is_held_by n) o a.store.opens l held) in
    record {
      sessions = sessions_ended (a.came + 1) s.started (λ l. not (is_session n l)) s.sessions more.sessions;
      shares = more.shares;
      opens =
          opens_ended (a.came + 1) s.sessions s.shares s.opens n (λ k d within. not_held n (get_or s.opens k d) (none (get_or s.opens k d) (listed_index s.opens k d within))) more.opens;
      locks = more.locks;
    }
