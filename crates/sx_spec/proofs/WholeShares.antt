-- The changes of shares leave an account whole: made, given properties, given a snapshot, without one, dropped.
use Rattle.std.proofs.Common.{◌≡◌, ◌≢◌, ℕ, ◌+◌, ◌≤◌, ◌<◌, true, false, Bool, cond, not, List, [], ◌∷◌, ◌++◌, length}
use Rattle.std.proofs.Common.{Option, Some, None, refl, rules, sym, ap, ◌∙◌, subst, arith, ◌⊎◌, inl, inr, ⊎_elim, zero}
use Rattle.std.proofs.Common.{suc}
use Rattle.std.specs.Prelude.{All, AllPairs, Any, IfSome, filter, find, get_or, option_map, ◌||◌}
use Rattle.std.specs.BTreeMap.{is_at, insert_entry}
use Rattle.std.specs.Cmp.Lexicographic.{slice_cmp}
use Rattle.std.specs.List.{list_any}
use Rattle.std.specs.List.Sorted.{IsStrictlySortedBy}
use Rattle.std.specs.Map.{keys_of, lookup, remove_entry}
use Rattle.std.specs.Ordering.{nat_cmp}
use Rattle.std.proofs.lemmas.List.Elements.{All-nil, All-cons, All-weaker, All-filter, All-append}
use Rattle.std.proofs.lemmas.List.Kept.{AllPairs-filter}
use Rattle.std.proofs.lemmas.Map.Lookups.{exact_unsigned}
use Rattle.std.proofs.lemmas.Map.Views.{tells_apart}
use Rattle.std.proofs.lemmas.Option.{same_Some}
use Rattle.sx_base.specs.Entries.{value_at}
use Rattle.sx_base.specs.Clock.{greatest_moment}
use Rattle.sx_base.specs.Moment.{greatest_written}
use Rattle.sx_guard.proofs.Places.{All-find}
use Rattle.sx_lease.specs.declared.lease.LeaseState.TheVariants.{Available}
use Rattle.sx_names.specs.Limits.{IsQuota}
use Rattle.sx_names.specs.Names.{is_share_name}
use Rattle.sx_names.specs.declared.meta_pair.MetaPair.{MetaPair}
use Rattle.sx_call.specs.declared.opens.Open.{Open}
use Rattle.sx_call.specs.declared.shown.Stamp.{Stamp}
use Rattle.sx_tree.specs.declared.node.Kind.TheVariants.{Directory}
use Rattle.sx_tree.specs.declared.share.Share.{Share}
use Rattle.sx_tree.specs.declared.share.Snapshot.{Snapshot}
use Rattle.sx_tree.specs.Node.{root_facts}
use Rattle.sx_tree.specs.Tree.{Nodes, Slot, slot_at, new_nodes, by_name, tree_use, slot_with}
use Rattle.sx_spec.specs.Account.{Account, has_name, is_on, is_in_share}
use Rattle.sx_spec.specs.Changes.{change_share, add_share, drop_share}
use Rattle.sx_spec.specs.Facts.{at_rest}
use Rattle.sx_spec.specs.Shares.{next_moment, snapshot_of, with_snapshot, without_snapshot, is_of_moment}
use Rattle.sx_spec.specs.ShareCalls.{new_share}
use Rattle.sx_spec.specs.Trees.{with_facts, tree_at_rest}
use Rattle.sx_spec.specs.Whole.{IsTree, IsShare, IsSnapshot, IsAtRest, HasId, IsOpen, IsWhole, IsFormed, AreMoments}
use Rattle.sx_guard.proofs.Pairs.{AllPairs-nil}
use Rattle.sx_spec.proofs.Holds.{TreeStays, tree_same, opens_stay}
use Rattle.sx_spec.proofs.Inserts.{numbers, here}
use Rattle.sx_spec.proofs.Likes.{rest_like, like_tree, rest_at}
use Rattle.sx_spec.proofs.Lists.{none_some, true_false}
use Rattle.sx_spec.proofs.Parts.{next, Goes, share_whole}
use Rattle.sx_spec.proofs.Sessions.{sessions_same, sessions_later, AllPairs-end}
use Rattle.sx_spec.proofs.Shares as shares
use Rattle.sx_spec.proofs.Uses.{use_rested}

-- A new share.

new_root : ℕ → ℕ → ℕ → Slot
new_root root at place =
    record { node = record { id = root; parent = 0; facts = root_facts at place; kind = Directory }; name = None; below = [] }

alone_by : (root at place q : ℕ) (x : Slot) (b : Bool) → is_at (nat_cmp q) root ≡ b
    → cond b (Some (new_root root at place)) None ≡ Some x → (q ≡ root) × (x ≡ new_root root at place)
alone_by root at place q x true is e = (tells_apart exact_unsigned q root is, sym (same_Some _ _ e))
alone_by root at place q x false is e = absurd (none_some x e)

alone : (root at place q : ℕ) (x : Slot) → slot_at (new_nodes root at place) q ≡ Some x
    → (q ≡ root) × (x ≡ new_root root at place)
unfolding new_root
alone root at place q x e = alone_by root at place q x (is_at (nat_cmp q) root) refl e

-- a root alone is a tree
new_tree : (root at place : ℕ) → at ≤ greatest_written → IsTree (root + 1) (new_nodes root at place)
unfolding new_root IsStrictlySortedBy tree_use
new_tree root at place early = record {
  sorted = (tt, tt);
  root =
      (new_root root at place, rw (here numbers root) refl, record { directory = refl; unnamed = refl; standing = refl; parent = refl });
  ids =
      λ q x e. let (same, is) = alone root at place q x e in (ap (λ (s : Slot). s.node.id) is ∙ sym same, omega (arith, same));
  children = λ q x e ne. absurd (ne (alone root at place q x e).0);
  files = λ q x e file. ap (λ (s : Slot). s.below) (alone root at place q x e).1;
  names =
      λ q x e. subst (λ (s : Slot). IsStrictlySortedBy (slice_cmp nat_cmp) (keys_of s.below)) (sym (alone root at place q x e).1) tt;
  below =
      λ q x name child e there. absurd (none_some child (ap (λ (s : Slot). lookup (by_name name) s.below) (sym (alone root at place q x e).1) ∙ there));
  moments =
      λ q x e. subst (λ (s : Slot). AreMoments s.node.facts) (sym (alone root at place q x e).1) (record { created = early; written = early; changed = early });
  bare = λ q x e p. ap (λ (s : Slot). s.below) (alone root at place q x e).1;
  formed = λ q x e. subst (λ (s : Slot). IsFormed s.node.kind) (sym (alone root at place q x e).1) tt;
  used = omega arith;
}

written_in : (at : ℕ) → at ≤ greatest_moment → at ≤ greatest_written
written_in at early = omega (arith, early)

new_whole : (came root : ℕ) (now : Stamp) (name : List ℕ) (quota : ℕ) (meta : List MetaPair)
    → is_share_name name ≡ true → IsQuota quota → now.changed ≤ greatest_moment
    → IsShare (root + 1) came (new_share now root name quota meta)
new_whole came root now name quota meta named within early = record {
  name = named;
  quota = within;
  changed = written_in now.changed early;
  tree = new_tree root now.changed now.etag (written_in now.changed early);
  given = tt;
  snapshots = All-nil (IsSnapshot (root + 1) None);
  some = λ ne. absurd (ne refl);
  rising = AllPairs-nil (λ a b. a.moment < b.moment);
}

new_ids : (root : ℕ) (now : Stamp) (name : List ℕ) (quota : ℕ) (meta : List MetaPair) (q : ℕ)
    → HasId (new_share now root name quota meta) q → root ≤ q
new_ids root now name quota meta q (inl (slot, at)) = omega (arith, (alone root now.changed now.etag q slot at).0)
new_ids root now name quota meta q (inr (k, d, within, is, rest)) = absurd (omega (arith, within))

-- the account with one more share
pub add_whole : (a : Account) (now : Stamp) (name : List ℕ) (quota : ℕ) (meta : List MetaPair) → IsWhole a
    → is_share_name name ≡ true → IsQuota quota → now.changed ≤ greatest_moment
    → list_any (has_name name) a.store.shares ≡ false
    → IsWhole (next a (add_share (new_share now a.store.next_id name quota meta) a.store))
unfolding add_share new_root
add_whole a now name quota meta w named within early free =
    let s : Share = new_share now a.store.next_id name quota meta in
    let k : shares.IsNewShare a.came a.store.next_id a.store.shares s =
    record { whole = new_whole (a.came + 1) a.store.next_id now name quota meta named within early; free = free; ids = new_ids a.store.next_id now name quota meta } in
    record {
      sessions = sessions_later a.came a.store.started a.store.sessions w.sessions;
      shares = shares.shares_added a.came a.store.next_id a.store.made a.store.shares s w.shares k;
      opens =
          opens_stay a.came (a.came + 1) (omega arith) a.store.sessions a.store.sessions a.store.shares (insert_entry nat_cmp a.store.shares (a.store.made + 1) s) a.store.opens (sessions_same a.store.sessions)
          (record { stays = λ n x q slot e at on. (x, slot, shares.added_there a.came a.store.next_id a.store.made a.store.shares s w.shares k n x e, at, refl) })
          (record {
            was = λ n y q z e at p. ⊎_elim
                (λ (h : (n ≡ a.store.made + 1) × (y ≡ s)).
                absurd (true_false (sym p ∙ ap (λ (t : Slot). t.node.facts.pending) (alone a.store.next_id now.changed now.etag q z (subst (λ (r : Share). slot_at r.tree q ≡ Some z) h.1 at)).1)))
                (λ (h : value_at a.store.shares n ≡ Some y). inr (y, z, h, at, p))
                (shares.added_back a.came a.store.next_id a.store.made a.store.shares s w.shares k n y e);
          }) w.opens;
      locks = w.locks;
    }

-- A share's own fields.

-- other fields of a share than its name, tree and snapshots
pub record KeepsShare (x y : Share) : Type 0 where
  pub name : y.name ≡ x.name
  pub tree : y.tree ≡ x.tree
  pub snapshots : y.snapshots ≡ x.snapshots
  pub given : y.given ≡ x.given
  pub quota : IsQuota x.quota → IsQuota y.quota
  pub changed : x.changed ≤ greatest_written → y.changed ≤ greatest_written

kept_ids : (x y : Share) (q : ℕ) → KeepsShare x y → HasId y q → HasId x q
kept_ids x y q k (inl (slot, at)) = inl (slot, ap (λ (t : Nodes). slot_at t q) (sym k.tree) ∙ at)
kept_ids x y q k (inr has) =
    inr (subst (λ ss. Any (λ k. (slot : Slot) × (slot_at k.tree q ≡ Some slot)) ss) k.snapshots has)

kept_goes : (came more next_id : ℕ) (opens : List Open) (x y : Share) → came ≤ more → IsShare next_id came x
    → KeepsShare x y → Goes more next_id next_id opens x y
kept_goes came more next_id opens x y further w k =
    let s = shares.share_later next_id next_id came more x (omega arith) further w in
    record {
      share = record {
        name = k.name;
        whole = record {
          name = ap is_share_name k.name ∙ s.name;
          quota = k.quota s.quota;
          changed = k.changed s.changed;
          tree = subst (IsTree next_id) (sym k.tree) s.tree;
          given = subst (λ o. IfSome o (λ last. last ≤ greatest_moment + more)) (sym k.given) s.given;
          snapshots =
              subst (λ o. All (IsSnapshot next_id o) y.snapshots) (sym k.given) (subst (All (IsSnapshot next_id x.given)) (sym k.snapshots) s.snapshots);
          some = λ ne none. s.some (λ e. ne (k.snapshots ∙ e)) (sym k.given ∙ none);
          rising = subst (AllPairs (λ a b. a.moment < b.moment)) (sym k.snapshots) s.rising;
        };
        ids = λ q has. inr (kept_ids x y q k has);
      };
      stays = subst (λ t. TreeStays opens x.tree t) (sym k.tree) (tree_same opens x.tree);
    }

-- the account with other fields of a share
pub fields_whole : (a : Account) (n : ℕ) (g : Share → Share) → IsWhole a → ((x : Share) → KeepsShare x (g x))
    → IsWhole (next a (change_share n g a.store))
fields_whole a n g w k = share_whole a a.store.next_id n g w (omega arith) (omega (arith, w.shares.ids))
    (λ x e. kept_goes a.came (a.came + 1) a.store.next_id a.store.opens x (g x) (omega arith) (w.shares.each n x e) (k x))

-- Snapshots.

-- a tree at rest is a tree
pub rest_tree : (next_id : ℕ) (t : Nodes) → IsTree next_id t → IsTree next_id (tree_at_rest t)
rest_tree next_id t w =
    like_tree t (tree_at_rest t) (rest_like t) next_id w (let e = use_rested t in omega (arith, e, w.used))

rested_slot : (o : Option Slot) (x : Slot) → option_map (slot_with (with_facts at_rest)) o ≡ Some x
    → (x.node.facts.lease ≡ Available) × (x.node.facts.pending ≡ false)
rested_slot None x e = absurd (none_some x e)
rested_slot (Some y) x e =
    let is : slot_with (with_facts at_rest) y ≡ x = same_Some _ _ e in (ap (λ (s : Slot). s.node.facts.lease) (sym is), ap (λ (s : Slot). s.node.facts.pending) (sym is))

pub is_rested : (t : Nodes) → IsAtRest (tree_at_rest t)
is_rested t q x e = rested_slot (slot_at t q) x (sym (rest_at t q) ∙ e)

some_before : (o : Option Slot) (x : Slot) → option_map (slot_with (with_facts at_rest)) o ≡ Some x
    → (y : Slot) × (o ≡ Some y)
some_before None x e = absurd (none_some x e)
some_before (Some y) x e = (y, refl)

moment_later : (at : ℕ) (given : Option ℕ) → IfSome given (λ last. last < next_moment at given)
moment_later at None = tt
moment_later at (Some last) = omega arith

moment_bound : (at came : ℕ) (given : Option ℕ) → at ≤ greatest_moment
    → IfSome given (λ last. last ≤ greatest_moment + came) → next_moment at given ≤ greatest_moment + (came + 1)
moment_bound at came None early h = omega (arith, early)
moment_bound at came (Some last) early h = omega (arith, early, h)

below_new : (at : ℕ) (given : Option ℕ) (m : ℕ) → IfSome given (λ last. m ≤ last) → given ≢ None
    → m < next_moment at given
below_new at None m h some = absurd (some refl)
below_new at (Some last) m h some = omega (arith, h)

old_snapshot : (next_id at : ℕ) (given : Option ℕ) (x : Snapshot) → given ≢ None → IsSnapshot next_id given x
    → IsSnapshot next_id (Some (next_moment at given)) x
old_snapshot next_id at given x some w = record {
  moment = let h = below_new at given x.moment w.moment some in omega (arith, h);
  quota = w.quota;
  changed = w.changed;
  tree = w.tree;
  rest = w.rest;
}

old_snapshots : (next_id at : ℕ) (x : Share) (xs : List Snapshot) → (xs ≢ [] → x.given ≢ None)
    → All (IsSnapshot next_id x.given) xs → All (IsSnapshot next_id (Some (next_moment at x.given))) xs
old_snapshots next_id at x [] some w = All-nil (IsSnapshot next_id (Some (next_moment at x.given)))
old_snapshots next_id at x (s ∷ ss) some w =
    All-weaker (IsSnapshot next_id x.given) (IsSnapshot next_id (Some (next_moment at x.given))) (λ y h. old_snapshot next_id at x.given y (some (not_empty s ss)) h) (s ∷ ss) w
  where
    not_empty : (s : Snapshot) (ss : List Snapshot) → s ∷ ss ≢ []
    not_empty s ss e = cc

pub rising_new : (next_id at : ℕ) (x : Share) (xs : List Snapshot) → (xs ≢ [] → x.given ≢ None)
    → All (IsSnapshot next_id x.given) xs → All (λ s. s.moment < next_moment at x.given) xs
rising_new next_id at x [] some w = All-nil (λ s. s.moment < next_moment at x.given)
rising_new next_id at x (s ∷ ss) some w =
    All-weaker (IsSnapshot next_id x.given) (λ y. y.moment < next_moment at x.given) (λ y h. below_new at x.given y.moment h.moment (some (not_empty s ss))) (s ∷ ss) w
  where
    not_empty : (s : Snapshot) (ss : List Snapshot) → s ∷ ss ≢ []
    not_empty s ss e = cc

any_end : (q : ℕ) (xs : List Snapshot) (y : Snapshot)
    → Any (λ k. (slot : Slot) × (slot_at k.tree q ≡ Some slot)) (xs ++ y ∷ [])
    → Any (λ k. (slot : Slot) × (slot_at k.tree q ≡ Some slot)) xs ⊎ ((slot : Slot) × (slot_at y.tree q ≡ Some slot))
any_end q [] y (k, d, within, is, has) = inr (last k within is)
  where
    last : (k : ℕ) → k < length (y ∷ []) → get_or (y ∷ []) k d ≡ d → (slot : Slot) × (slot_at y.tree q ≡ Some slot)
    last zero within is = subst (λ (z : Snapshot). (slot : Slot) × (slot_at z.tree q ≡ Some slot)) (sym is) has
    last (suc k) within is = absurd (omega (arith, within))
any_end q (x ∷ xs) y (zero, d, within, is, has) = inl (zero, d, omega arith, is, has)
any_end q (x ∷ xs) y (suc k, d, within, is, has) = ⊎_elim
    (λ (h : Any (λ k. (slot : Slot) × (slot_at k.tree q ≡ Some slot)) xs). inl (suc h.0, h.1, omega (arith, h.2), h.3, h.4))
    (λ (h : (slot : Slot) × (slot_at y.tree q ≡ Some slot)). inr h)
    (any_end q xs y (k, d, omega (arith, within), is, has))

snapshot_ids : (at : ℕ) (meta : List MetaPair) (x : Share) (q : ℕ)
    → HasId (with_snapshot (next_moment at x.given) meta x) q → HasId x q
snapshot_ids at meta x q (inl has) = inl has
snapshot_ids at meta x q (inr has) = ⊎_elim
    (λ (h : Any (λ k. (slot : Slot) × (slot_at k.tree q ≡ Some slot)) x.snapshots). inr h)
    (λ (h : (slot : Slot) × (slot_at (tree_at_rest x.tree) q ≡ Some slot)). inl (some_before (slot_at x.tree q) h.0 (sym (rest_at x.tree q) ∙ h.1)))
    (any_end q x.snapshots (snapshot_of (next_moment at x.given) meta x) has)

snapshot_goes : (came next_id at : ℕ) (meta : List MetaPair) (opens : List Open) (x : Share) → at ≤ greatest_moment
    → IsShare next_id came x
    → Goes (came + 1) next_id next_id opens x (with_snapshot (next_moment at x.given) meta x)
snapshot_goes came next_id at meta opens x early w =
    let s = shares.share_later next_id next_id came (came + 1) x (omega arith) (omega arith) w in
    let new : IsSnapshot next_id (Some (next_moment at x.given)) (snapshot_of (next_moment at x.given) meta x) =
    record {
      moment =
          omega arith;
      quota = w.quota;
      changed = w.changed;
      tree = rest_tree next_id x.tree w.tree;
      rest = is_rested x.tree;
    } in
    record {
      share = record {
        name = refl;
        whole = record {
          name = s.name;
          quota = s.quota;
          changed = s.changed;
          tree = s.tree;
          given = moment_bound at came x.given early w.given;
          snapshots =
              All-append (IsSnapshot next_id (Some (next_moment at x.given))) x.snapshots (snapshot_of (next_moment at x.given) meta x ∷ [])
              (old_snapshots next_id at x x.snapshots w.some w.snapshots)
              (All-cons (IsSnapshot next_id (Some (next_moment at x.given))) (snapshot_of (next_moment at x.given) meta x) [] new (All-nil (IsSnapshot next_id (Some (next_moment at x.given)))));
          some = λ ne none. no_none (next_moment at x.given) none;
          rising =
              AllPairs-end (λ a b. a.moment < b.moment) x.snapshots (snapshot_of (next_moment at x.given) meta x) (rising_new next_id at x x.snapshots w.some w.snapshots) w.rising;
        };
        ids = λ q has. inr (snapshot_ids at meta x q has);
      };
      stays = tree_same opens x.tree;
    }
  where
    no_none : (m : ℕ) → ◌≡◌ {A = Option ℕ} (Some m) None → ⊥
    no_none m e = cc

-- the account with one more snapshot
pub snapshot_whole : (a : Account) (n at : ℕ) (meta : List MetaPair) (x : Share) → IsWhole a → at ≤ greatest_moment
    → value_at a.store.shares n ≡ Some x
    → IsWhole (next a (change_share n (with_snapshot (next_moment at x.given) meta) a.store))
snapshot_whole a n at meta x w early there =
    share_whole a a.store.next_id n (with_snapshot (next_moment at x.given) meta) w (omega arith) (omega (arith, w.shares.ids))
    (λ y e. subst (λ (z : Share). Goes (a.came + 1) a.store.next_id a.store.next_id a.store.opens z (with_snapshot (next_moment at x.given) meta z)) (same_Some _ _ (sym there ∙ e))
    (snapshot_goes a.came a.store.next_id at meta a.store.opens x early (w.shares.each n x there)))

any_kept : (q : ℕ) (keep : Snapshot → Bool) (xs : List Snapshot)
    → Any (λ k. (slot : Slot) × (slot_at k.tree q ≡ Some slot)) (filter keep xs)
    → Any (λ k. (slot : Slot) × (slot_at k.tree q ≡ Some slot)) xs
any_kept q keep [] has = has
any_kept q keep (x ∷ xs) has =
    elim (keep x) as (λ b. Any (λ k. (slot : Slot) × (slot_at k.tree q ≡ Some slot)) (cond b (x ∷ filter keep xs) (filter keep xs)) → Any (λ k. (slot : Slot) × (slot_at k.tree q ≡ Some slot)) (x ∷ xs)) [
      | true ↦ λ h. taken h.0 h.1 h.2 h.3 h.4 (λ g. any_kept q keep xs g)
      | false ↦ λ h. past (any_kept q keep xs h)
    ] has
  where
    past : Any (λ k. (slot : Slot) × (slot_at k.tree q ≡ Some slot)) xs
        → Any (λ k. (slot : Slot) × (slot_at k.tree q ≡ Some slot)) (x ∷ xs)
    past h = (suc h.0, h.1, omega (arith, h.2), h.3, h.4)

    taken : (k : ℕ) (d : Snapshot) → k < length (x ∷ filter keep xs) → get_or (x ∷ filter keep xs) k d ≡ d
        → (slot : Slot) × (slot_at d.tree q ≡ Some slot)
        → (Any (λ k. (slot : Slot) × (slot_at k.tree q ≡ Some slot)) (filter keep xs)
        → Any (λ k. (slot : Slot) × (slot_at k.tree q ≡ Some slot)) xs)
        → Any (λ k. (slot : Slot) × (slot_at k.tree q ≡ Some slot)) (x ∷ xs)
    taken zero d within is has f = (zero, d, omega arith, is, has)
    taken (suc k) d within is has f = past (f (k, d, omega (arith, within), is, has))

without_goes : (came more next_id : ℕ) (moment : ℕ) (opens : List Open) (x : Share) → came ≤ more
    → IsShare next_id came x → Goes more next_id next_id opens x (without_snapshot moment x)
without_goes came more next_id moment opens x further w =
    let s = shares.share_later next_id next_id came more x (omega arith) further w in
    record {
      share = record {
        name = refl;
        whole = record {
          name = s.name;
          quota = s.quota;
          changed = s.changed;
          tree = s.tree;
          given = s.given;
          snapshots =
              All-filter (λ k. not (is_of_moment moment k)) (IsSnapshot next_id x.given) x.snapshots s.snapshots;
          some = λ ne. s.some (λ e. ne (ap (filter (λ k. not (is_of_moment moment k))) e));
          rising = AllPairs-filter (λ a b. a.moment < b.moment) (λ k. not (is_of_moment moment k)) x.snapshots s.rising;
        };
        ids = λ q has. inr (ids_by q has);
      };
      stays = tree_same opens x.tree;
    }
  where
    ids_by : (q : ℕ) → HasId (without_snapshot moment x) q → HasId x q
    ids_by q (inl has) = inl has
    ids_by q (inr has) = inr (any_kept q (λ k. not (is_of_moment moment k)) x.snapshots has)

-- the account without a snapshot
pub without_whole : (a : Account) (n moment : ℕ) → IsWhole a
    → IsWhole (next a (change_share n (without_snapshot moment) a.store))
without_whole a n moment w =
    share_whole a a.store.next_id n (without_snapshot moment) w (omega arith) (omega (arith, w.shares.ids))
    (λ x e. without_goes a.came (a.came + 1) a.store.next_id moment a.store.opens x (omega arith) (w.shares.each n x e))

-- A share dropped.

any_open : (q : ℕ) (opens : List Open) → list_any (is_on q) opens ≡ true
    → (i : ℕ) × (o : Open) × (i < length opens) × (get_or opens i o ≡ o) × (is_on q o ≡ true)
any_open q [] h = absurd (true_false (sym h))
any_open q (o ∷ os) h = first (is_on q o) refl h (λ g. any_open q os g)
  where
    first : (b : Bool) → is_on q o ≡ b → (b || list_any (is_on q) os) ≡ true
        → (list_any (is_on q) os ≡ true
        → (i : ℕ) × (z : Open) × (i < length os) × (get_or os i z ≡ z) × (is_on q z ≡ true))
        → (i : ℕ) × (z : Open) × (i < length (o ∷ os)) × (get_or (o ∷ os) i z ≡ z) × (is_on q z ≡ true)
    first true is h rest = (zero, o, omega arith, refl, is)
    first false is h rest = let g = rest h in (suc g.0, g.1, omega (arith, g.2), g.3, g.4)

on_node : (q : ℕ) (o : Open) → is_on q o ≡ true → o.node ≡ q
on_node q o on = search rules

not_in : (n : ℕ) (o : Open) → is_in_share n o ≡ false → o.share ≢ n
not_in n o off = λ e. search rules

-- the account without a share in which nothing is open
pub drop_whole : (a : Account) (n : ℕ) → IsWhole a → find (is_in_share n) a.store.opens ≡ None
    → IsWhole (next a (drop_share n a.store))
unfolding drop_share
drop_whole a n w none = record {
  sessions = sessions_later a.came a.store.started a.store.sessions w.sessions;
  shares = shares.shares_dropped a.came a.store.next_id a.store.made n a.store.shares w.shares;
  opens =
      opens_stay a.came (a.came + 1) (omega arith) a.store.sessions a.store.sessions a.store.shares (remove_entry (is_at (nat_cmp n)) a.store.shares) a.store.opens (sessions_same a.store.sessions)
      (record {
        stays = λ m x q slot e at on.
            let (i, o, within, is, here) = any_open q a.store.opens on in
            let held : IsOpen a.store.sessions a.store.shares o =
            subst (IsOpen a.store.sessions a.store.shares) is (w.opens.each i o within) in
            let off : is_in_share n o ≡ false =
            subst (λ (z : Open). is_in_share n z ≡ false) is (All-find (is_in_share n) a.store.opens none i o within) in
            let same : m ≡ o.share =
            w.shares.apart m o.share x held.share q e held.there (inl (slot, at)) (inl (held.slot, ap (λ (j : ℕ). slot_at held.share.tree j) (sym (on_node q o here)) ∙ held.stands)) in
            (x, slot, shares.dropped_there a.came a.store.next_id a.store.made n a.store.shares w.shares m x (λ (h : m ≡ n). not_in n o off (sym same ∙ h)) e, at, refl);
      })
      (record { was = λ m y q z e at p. inr (y, z, (shares.dropped_back a.came a.store.next_id a.store.made n a.store.shares w.shares m y e).1, at, p) })
      w.opens;
  locks = w.locks;
}
