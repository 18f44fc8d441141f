-- An account with one entry more is whole where its parts are; what a change of a tree or a share leaves of the parts.
use Rattle.std.proofs.Common.{◌≡◌, ◌≢◌, ℕ, ◌+◌, ◌≤◌, true, false, List, [], Some, None, refl, sym, ap, ◌∙◌, subst}
use Rattle.std.proofs.Common.{arith, ◌⊎◌, inl, inr, ⊎_elim, true≢false}
use Rattle.std.specs.List.{list_any}
use Rattle.sx_base.specs.Entries.{value_at, change_at}
use Rattle.sx_call.specs.declared.opens.Open.{Open}
use Rattle.sx_tree.specs.declared.node.Node.{Node}
use Rattle.sx_tree.specs.declared.share.Share.{Share}
use Rattle.sx_tree.specs.Tree.{Nodes, Slot, slot_at, slot_with, tree_use, with_node, without_node}
use Rattle.sx_spec.specs.Account.{Store, Account, is_on}
use Rattle.sx_spec.specs.Changes.{change_share, change_tree}
use Rattle.sx_spec.specs.Trees.{change_node}
use Rattle.sx_spec.specs.Whole.{IsTree, IsShare, HasId, IsWhole, most_granules}
use Rattle.sx_spec.proofs.Dropped as dropped
use Rattle.sx_spec.proofs.Grown.{IsRoom, new_slot, grown_tree, grown_back, grown_there}
use Rattle.sx_spec.proofs.Holds.{TreeStays, tree_same, slots_same, pending_same, opens_stay, changed_slots}
use Rattle.sx_spec.proofs.Holds.{changed_pending}
use Rattle.sx_spec.proofs.Likes.{LeavesNode, changed_like, like_tree}
use Rattle.sx_spec.proofs.Lookups.{Became, change_back}
use Rattle.sx_spec.proofs.Sessions.{sessions_same, sessions_later}
use Rattle.sx_spec.proofs.Shares.{ShareGoes, share_later, shares_later, shares_changed}

-- the account that one more entry leaves with a store
abbrev pub next : Account → Store → Account
next a s = record { came = a.came + 1; store = s }

-- nothing changes
pub came_whole : (a : Account) → IsWhole a → IsWhole (next a a.store)
came_whole a w = record {
  sessions = sessions_later a.came a.store.started a.store.sessions w.sessions;
  shares = shares_later a.came (a.came + 1) a.store.next_id a.store.made a.store.shares (omega arith) w.shares;
  opens =
      opens_stay a.came (a.came + 1) (omega arith) a.store.sessions a.store.sessions a.store.shares a.store.shares a.store.opens (sessions_same a.store.sessions) (slots_same a.store.opens a.store.shares) (pending_same a.store.opens a.store.shares) w.opens;
  locks = w.locks;
}

-- A share changed.

-- what a change of a share leaves: a whole one whose ids stood in it, with the slots on which something is open
pub record Goes (more next later : ℕ) (opens : List Open) (x y : Share) : Type 0 where
  pub share : ShareGoes more next later x y
  pub stays : TreeStays opens x.tree y.tree

-- the account with a share changed so
pub share_whole : (a : Account) (later n : ℕ) (g : Share → Share) → IsWhole a → a.store.next_id ≤ later
    → later ≤ a.came + 2
    → ((x : Share) → value_at a.store.shares n ≡ Some x → Goes (a.came + 1) a.store.next_id later a.store.opens x (g x))
    → IsWhole (next a (record (change_share n g a.store) { next_id = later }))
share_whole a later n g w le ids k = record {
  sessions = sessions_later a.came a.store.started a.store.sessions w.sessions;
  shares =
      shares_changed a.came (a.came + 1) a.store.next_id later a.store.made n g a.store.shares w.shares (omega arith) le (omega (arith, ids)) (λ x e. (k x e).share);
  opens =
      opens_stay a.came (a.came + 1) (omega arith) a.store.sessions a.store.sessions a.store.shares (change_at n g a.store.shares) a.store.opens (sessions_same a.store.sessions)
      (changed_slots a.store.opens n g a.store.shares (λ x e. (k x e).stays)) (changed_pending a.store.opens n g a.store.shares (λ x e. (k x e).stays)) w.opens;
  locks = w.locks;
}

-- A tree changed.

-- what a change of a tree leaves: a tree whose ids stood in it or are new, with the slots on which something is open
pub record TreeGoes (next later : ℕ) (opens : List Open) (t u : Nodes) : Type 0 where
  pub tree : IsTree later u
  pub old : (q : ℕ) (y : Slot) → slot_at u q ≡ Some y → (next ≤ q) ⊎ ((x : Slot) × (slot_at t q ≡ Some x))
  pub stays : TreeStays opens t u

tree_ids : (next later : ℕ) (opens : List Open) (x : Share) (u : Nodes) → TreeGoes next later opens x.tree u → (q : ℕ)
    → HasId (record x { tree = u }) q → (next ≤ q) ⊎ HasId x q
tree_ids next later opens x u k q (inl (slot, at)) =
    ⊎_elim (λ (l : next ≤ q). inl l) (λ (h : (y : Slot) × (slot_at x.tree q ≡ Some y)). inr (inl h)) (k.old q slot at)
tree_ids next later opens x u k q (inr has) = inr (inr has)

-- a share whose tree goes on goes on
pub tree_share : (came more next later : ℕ) (opens : List Open) (x : Share) (u : Nodes) → came ≤ more → next ≤ later
    → IsShare next came x → TreeGoes next later opens x.tree u → Goes more next later opens x (record x { tree = u })
tree_share came more next later opens x u further le w k =
    let s = share_later next later came more x le further w in
    record {
      share = record {
        name = refl;
        whole =
            record { name = s.name; quota = s.quota; changed = s.changed; tree = k.tree; given = s.given; snapshots = s.snapshots; some = s.some; rising = s.rising };
        ids = tree_ids next later opens x u k;
      };
      stays = k.stays;
    }

-- the account with the tree of a share changed so
pub tree_whole : (a : Account) (later n : ℕ) (h : Nodes → Nodes) → IsWhole a → a.store.next_id ≤ later
    → later ≤ a.came + 2
    → ((x : Share) → value_at a.store.shares n ≡ Some x
    → TreeGoes a.store.next_id later a.store.opens x.tree (h x.tree))
    → IsWhole (next a (record (change_tree n h a.store) { next_id = later }))
tree_whole a later n h w le ids k =
    share_whole a later n (λ x. record x { tree = h x.tree }) w le ids
    (λ x e. tree_share a.came (a.came + 1) a.store.next_id later a.store.opens x (h x.tree) (omega arith) le (w.shares.each n x e) (k x e))

-- Kinds of changes of a tree.

-- a node changed
pub changed_goes : (next id : ℕ) (opens : List Open) (f : Node → Node) (t : Nodes) → IsTree next t
    → ((x : Slot) → slot_at t id ≡ Some x → LeavesNode x f)
    → tree_use (change_node id f t) ≤ most_granules
    → ((x : Slot) → slot_at t id ≡ Some x → (f x.node).facts.pending ≡ true
    → (list_any (is_on id) opens ≡ true) ⊎ (x.node.facts.pending ≡ true))
    → TreeGoes next next opens t (change_node id f t)
changed_goes next id opens f t w k used pending =
    let l = changed_like id f t k in
    record {
      tree = like_tree t (change_node id f t) l next w used;
      old = λ q y e. let (x, at, like) = l.back q y e in inr (x, at);
      stays = record {
        stays = λ q slot at on. let (y, stands, like) = l.there q slot at in (y, stands, like.name);
        was = λ q z e p. let (x, at, how) = change_back id (slot_with f) t.slots q z e in was_by q x z at how p;
      };
    }
  where
    was_by : (q : ℕ) (x z : Slot) → slot_at t q ≡ Some x → Became id (slot_with f) q x z → z.node.facts.pending ≡ true
        → (list_any (is_on q) opens ≡ true) ⊎ ((slot : Slot) × (slot_at t q ≡ Some slot) × (slot.node.facts.pending ≡ true))
    was_by q x z at (inl h) p = inr (x, at, ap (λ (s : Slot). s.node.facts.pending) (sym h.1) ∙ p)
    was_by q x z at (inr h) p = ⊎_elim
        (λ (o : list_any (is_on id) opens ≡ true). inl (subst (λ (j : ℕ). list_any (is_on j) opens ≡ true) (sym h.0) o))
        (λ (o : x.node.facts.pending ≡ true). inr (x, at, o))
        (pending x (subst (λ (j : ℕ). slot_at t j ≡ Some x) h.0 at) (ap (λ (s : Slot). s.node.facts.pending) (sym h.1) ∙ p))

-- one node more
pub grown_goes : (next parent : ℕ) (opens : List Open) (name : List ℕ) (node : Node) (t : Nodes) → IsTree next t
    → IsRoom next t parent name node → TreeGoes next (next + 1) opens t (with_node t parent name node)
grown_goes next parent opens name node t w k = record {
  tree = grown_tree next t parent name node w k;
  old = λ q y e. ⊎_elim
      (λ (h : (q ≡ node.id) × (y ≡ new_slot name node)). inl (omega (arith, h.0, k.id)))
      (λ (h : (x : Slot) × (slot_at t q ≡ Some x) × (y.node ≡ x.node) × (y.name ≡ x.name)). inr (h.0, h.1))
      (grown_back next t parent name node w k q y e);
  stays = record {
    stays =
        λ q slot at on. let (y, stands, same, named) = grown_there next t parent name node w k q slot at in (y, stands, named);
    was = λ q z e p. ⊎_elim
        (λ (h : (q ≡ node.id) × (z ≡ new_slot name node)). absurd (true≢false (sym p ∙ ap (λ (s : Slot). s.node.facts.pending) h.1 ∙ k.fresh)))
        (λ (h : (x : Slot) × (slot_at t q ≡ Some x) × (z.node ≡ x.node) × (z.name ≡ x.name)). inr (h.0, h.1, ap (λ (n : Node). n.facts.pending) (sym h.2) ∙ p))
        (grown_back next t parent name node w k q z e);
  };
}

-- one node less
pub dropped_goes : (next id : ℕ) (opens : List Open) (gone : Slot) (t : Nodes) → IsTree next t
    → slot_at t id ≡ Some gone → gone.name ≢ None → gone.below ≡ [] → list_any (is_on id) opens ≡ false
    → TreeGoes next next opens t (without_node t id)
dropped_goes next id opens gone t w there named empty closed = record {
  tree = dropped.dropped_tree next t id gone w there named empty;
  old =
      λ q y e. let (ne, x, at, same, name) = dropped.dropped_back next t id gone w there named empty q y e in inr (x, at);
  stays = record {
    stays = λ q slot at on.
        let ne : q ≢ id =
        λ (same : q ≡ id). true≢false (sym on ∙ ap (λ (j : ℕ). list_any (is_on j) opens) same ∙ closed) in
        let (y, stands, same, name) = dropped.dropped_there next t id gone w there named empty q slot ne at in
        (y, stands, name);
    was = λ q z e p.
        let (ne, x, at, same, name) = dropped.dropped_back next t id gone w there named empty q z e in
        inr (x, at, ap (λ (n : Node). n.facts.pending) (sym same) ∙ p);
  };
}

-- a tree goes on as itself
pub same_goes : (next : ℕ) (opens : List Open) (t : Nodes) → IsTree next t → TreeGoes next next opens t t
same_goes next opens t w = record { tree = w; old = λ q y e. inr (y, e); stays = tree_same opens t }
