-- A tree without one of its nodes, in which nothing is.
use Rattle.std.proofs.Common.{◌≡◌, ◌≢◌, ℕ, ◌≤◌, true, false, Bool, List, [], Option, Some, None, zero, suc, refl, sym}
use Rattle.std.proofs.Common.{ap, ◌∙◌, ◌⊎◌, inl, inr, ⊎_elim, subst, arith}
use Rattle.std.specs.Prelude.{◌==◌, ◌||◌, bytes_eq}
use Rattle.std.specs.List.Sorted.{IsStrictlySortedBy}
use Rattle.std.specs.Ordering.{nat_cmp}
use Rattle.std.specs.Cmp.Lexicographic.{slice_cmp}
use Rattle.std.specs.BTreeMap.{is_at}
use Rattle.std.specs.Map.{keys_of, lookup, remove_entry}
use Rattle.std.proofs.lemmas.Option.{same_Some}
use Rattle.sx_base.specs.Entries.{value_at, change_at}
use Rattle.sx_names.specs.Names.{fold}
use Rattle.sx_tree.specs.declared.node.Node.{Node}
use Rattle.sx_tree.specs.Node.{is_directory}
use Rattle.sx_tree.specs.Tree.{Nodes, Slot, slot_at, by_name, without_child, unlisted, without_slot, without_node}
use Rattle.sx_tree.specs.Tree.{tree_use}
use Rattle.sx_tree.specs.Climbs.{climbs, above}
use Rattle.sx_spec.specs.Whole.{IsTree, IsChild, IsListed, IsRoot, IsFormed, AreMoments, most_granules}
use Rattle.sx_spec.proofs.Grown.{names_differ}
use Rattle.sx_spec.proofs.Lists.{none_some, true_false, nat_same}
use Rattle.sx_spec.proofs.Lookups.{Became, change_there, change_back, change_keys, removed_here, removed_other}
use Rattle.sx_spec.proofs.Lookups.{removed_sorted, unnamed_here, unnamed_other}
use Rattle.sx_spec.proofs.Uses.{use_dropped}

module _ (next : ℕ) (t : Nodes) (id : ℕ) (gone : Slot) (w : IsTree next t) (there : slot_at t id ≡ Some gone) (named : gone.name ≢ None) (empty : gone.below ≡ []) where
  -- it is no root
  pub no_root : id ≢ t.root
  no_root same =
      let (x, at, root) = w.root in
      named (ap (λ (s : Slot). s.name) (same_Some _ _ (sym (subst (λ (j : ℕ). slot_at t j ≡ Some gone) same there) ∙ at)) ∙ root.unnamed)

  -- so it is a child
  pub child : IsChild t id gone
  child = w.children id gone there no_root

  abbrev rest : List (ℕ × Slot)
  rest = remove_entry (is_at (nat_cmp id)) t.slots

  abbrev left : Nodes
  left = record t { slots = change_at gone.node.parent (without_child (fold child.name)) rest }

  by_slot : (o : Option Slot) → o ≡ Some gone → without_slot id o t ≡ left
  by_slot o is =
      ap (λ (p : Option Slot). without_slot id p t) is ∙ ap (λ (n : Option (List ℕ)). record t { slots = unlisted gone.node.parent n rest }) child.named

  -- the tree without the node
  pub dropped_is : without_node t id ≡ left
  dropped_is = by_slot (slot_at t id) there

  abbrev Lost : ℕ → Slot → Slot → Type 0
  Lost q x y = Became gone.node.parent (without_child (fold child.name)) q x y

  same_node : (q : ℕ) (x y : Slot) → Lost q x y → (y.node ≡ x.node) × (y.name ≡ x.name)
  same_node q x y (inl h) = (ap (λ (s : Slot). s.node) h.1, ap (λ (s : Slot). s.name) h.1)
  same_node q x y (inr h) = (ap (λ (s : Slot). s.node) h.1, ap (λ (s : Slot). s.name) h.1)

  left_there : (q : ℕ) (x : Slot) → q ≢ id → slot_at t q ≡ Some x → (y : Slot) × (slot_at left q ≡ Some y) × Lost q x y
  left_there q x ne at =
      change_there gone.node.parent (without_child (fold child.name)) rest q x (removed_other id q t.slots w.sorted ne ∙ at)

  -- another slot, as it stood
  abbrev Stood : ℕ → Slot → Type 0
  Stood q y = (q ≢ id) × (x : Slot) × (slot_at t q ≡ Some x) × Lost q x y

  left_back : (q : ℕ) (y : Slot) → slot_at left q ≡ Some y → Stood q y
  left_back q y e =
      let (x, at, lost) = change_back gone.node.parent (without_child (fold child.name)) rest q y e in
      let ne : q ≢ id =
      λ (same : q ≡ id). none_some x (sym (removed_here id t.slots w.sorted) ∙ subst (λ (j : ℕ). value_at rest j ≡ Some x) same at) in
      (ne, x, sym (removed_other id q t.slots w.sorted ne) ∙ at, lost)

  same_kind : (q : ℕ) (x y : Slot) → Lost q x y → is_directory y.node.kind ≡ is_directory x.node.kind
  same_kind q x y lost = ap (λ (n : Node). is_directory n.kind) (same_node q x y lost).0

  empty_by : (q : ℕ) (x y : Slot) → Lost q x y → x.below ≡ [] → y.below ≡ []
  empty_by q x y (inl h) none = ap (λ (s : Slot). s.below) h.1 ∙ none
  empty_by q x y (inr h) none =
      ap (λ (s : Slot). s.below) h.1 ∙ ap (λ es. remove_entry (by_name (fold child.name)) es) none

  -- the directory of another node is another one, too
  parent_stays : (q : ℕ) (x : Slot) → q ≢ id → (c : IsChild t q x) → x.node.parent ≢ id
  parent_stays q x ne c same =
      let is : c.parent ≡ gone = same_Some _ _ (sym c.there ∙ ap (λ (j : ℕ). slot_at t j) same ∙ there) in
      none_some q (ap (λ es. lookup (by_name (fold c.name)) es) (sym (ap (λ (s : Slot). s.below) is ∙ empty)) ∙ c.listed)

  -- names
  still_listed : (q : ℕ) (p : ℕ) (x y : Slot) (name : List ℕ) → slot_at t p ≡ Some x → Lost p x y → q ≢ id
      → lookup (by_name name) x.below ≡ Some q → lookup (by_name name) y.below ≡ Some q
  still_listed q p x y name at (inl h) ne e = ap (λ (s : Slot). lookup (by_name name) s.below) h.1 ∙ e
  still_listed q p x y name at (inr h) ne e = ⊎_elim
      (λ (same : fold child.name ≡ name).
      let is : child.parent ≡ x = same_Some _ _ (sym child.there ∙ subst (λ (j : ℕ). slot_at t j ≡ Some x) h.0 at) in
      absurd (ne (same_Some _ _ (sym e ∙ ap (λ (n : List ℕ). lookup (by_name n) x.below) (sym same) ∙ ap (λ (s : Slot). lookup (by_name (fold child.name)) s.below) (sym is) ∙ child.listed))))
      (λ (off : fold child.name ≢ name).
      ap (λ (s : Slot). lookup (by_name name) s.below) h.1 ∙ unnamed_other (fold child.name) name x.below (w.names p x at) (λ (same : name ≡ fold child.name). off (sym same)) ∙ e)
      (names_differ (fold child.name) name (bytes_eq (fold child.name) name) refl)

  listed_by : (q : ℕ) (name : List ℕ) (other : ℕ) → other ≢ id → IsListed t q name other → IsListed left q name other
  listed_by q name other ne l =
      let (y, at, lost) = left_there other l.slot ne l.there in
      let same = same_node other l.slot y lost in
      record {
        slot = y;
        there = at;
        parent = ap (λ (n : Node). n.parent) same.0 ∙ l.parent;
        kept = l.kept;
        named = same.1 ∙ l.named;
        folded = l.folded;
      }

  -- what is listed under another name, or in another directory, is another node
  other_node : (q : ℕ) (name : List ℕ) (other : ℕ) → IsListed t q name other
      → (q ≢ gone.node.parent) ⊎ (name ≢ fold child.name) → other ≢ id
  other_node q name other l (inl ne) same =
      let is : l.slot ≡ gone = same_Some _ _ (sym l.there ∙ ap (λ (j : ℕ). slot_at t j) same ∙ there) in
      ne (sym (ap (λ (s : Slot). s.node.parent) (sym is) ∙ l.parent))
  other_node q name other l (inr ne) same =
      let is : l.slot ≡ gone = same_Some _ _ (sym l.there ∙ ap (λ (j : ℕ). slot_at t j) same ∙ there) in
      let kept : l.kept ≡ child.name = same_Some _ _ (sym l.named ∙ ap (λ (s : Slot). s.name) is ∙ child.named) in
      ne (sym l.folded ∙ ap fold kept)

  -- climbs
  climbs_by : (n q : ℕ) (x : Slot) (here : Bool) → (q == t.root) ≡ here → q ≢ id → slot_at t q ≡ Some x
      → (here || above (slot_at t q) (climbs t n t.root)) ≡ true
      → ((p : ℕ) (z : Slot) → p ≢ id → slot_at t p ≡ Some z → climbs t n t.root p ≡ true
      → climbs left n t.root p ≡ true)
      → (here || above (slot_at left q) (climbs left n t.root)) ≡ true
  climbs_by n q x true is ne at h more = refl
  climbs_by n q x false is ne at h more =
      let (y, stands, lost) = left_there q x ne at in
      let c = w.children q x at (λ (same : q ≡ t.root). true_false (sym (nat_same q t.root same) ∙ is)) in
      ap (λ (o : Option Slot). above o (climbs left n t.root)) stands ∙ ap (λ (m : Node). climbs left n t.root m.parent) (same_node q x y lost).0
      ∙ more x.node.parent c.parent (parent_stays q x ne c) c.there (ap (λ (o : Option Slot). above o (climbs t n t.root)) (sym at) ∙ h)

  climbs_still : (n q : ℕ) (x : Slot) → q ≢ id → slot_at t q ≡ Some x → climbs t n t.root q ≡ true
      → climbs left n t.root q ≡ true
  climbs_still zero q x ne at h = h
  climbs_still (suc n) q x ne at h =
      climbs_by n q x (q == t.root) refl ne at h (λ p z off e g. climbs_still n p z off e g)

  -- the facts of the tree
  child_by : (q : ℕ) (y : Slot) → q ≢ t.root → Stood q y → IsChild left q y
  child_by q y root (ne, x, at, lost) =
      let c = w.children q x at root in
      let (p, stands, lost') = left_there x.node.parent c.parent (parent_stays q x ne c) c.there in
      let same = same_node q x y lost in
      record {
        name = c.name;
        named = same.1 ∙ c.named;
        part = c.part;
        parent = p;
        there = ap (λ (n : Node). slot_at left n.parent) same.0 ∙ stands;
        directory = same_kind x.node.parent c.parent p lost' ∙ c.directory;
        listed = still_listed q x.node.parent c.parent p (fold c.name) c.there lost' ne c.listed;
        steps = c.steps;
        rooted = climbs_still c.steps q x ne at c.rooted;
      }

  below_by : (q : ℕ) (y : Slot) (name : List ℕ) (other : ℕ) → Stood q y → lookup (by_name name) y.below ≡ Some other
      → IsListed left q name other
  below_by q y name other (ne, x, at, (inl h)) e =
      let l = w.below q x name other at (ap (λ (s : Slot). lookup (by_name name) s.below) (sym h.1) ∙ e) in
      listed_by q name other (other_node q name other l (inl h.0)) l
  below_by q y name other (ne, x, at, (inr h)) e =
      let found : lookup (by_name name) (remove_entry (by_name (fold child.name)) x.below) ≡ Some other =
      ap (λ (s : Slot). lookup (by_name name) s.below) (sym h.1) ∙ e in
      ⊎_elim
      (λ (same : fold child.name ≡ name). absurd (none_some other (sym (unnamed_here (fold child.name) x.below (w.names q x at)) ∙ ap (λ (n : List ℕ). lookup (by_name n) (remove_entry (by_name (fold child.name)) x.below)) same ∙ found)))
      (λ (off : fold child.name ≢ name).
      let other_name : name ≢ fold child.name = λ (same : name ≡ fold child.name). off (sym same) in
      let l =
      w.below q x name other at (sym (unnamed_other (fold child.name) name x.below (w.names q x at) other_name) ∙ found) in
      listed_by q name other (other_node q name other l (inr other_name)) l)
      (names_differ (fold child.name) name (bytes_eq (fold child.name) name) refl)

  names_by : (q : ℕ) (y : Slot) → Stood q y → IsStrictlySortedBy (slice_cmp nat_cmp) (keys_of y.below)
  names_by q y (ne, x, at, (inl h)) =
      subst (λ (s : Slot). IsStrictlySortedBy (slice_cmp nat_cmp) (keys_of s.below)) (sym h.1) (w.names q x at)
  names_by q y (ne, x, at, (inr h)) =
      subst (λ (s : Slot). IsStrictlySortedBy (slice_cmp nat_cmp) (keys_of s.below)) (sym h.1) (removed_sorted (slice_cmp nat_cmp) (by_name (fold child.name)) x.below (w.names q x at))

  root_by : (x : Slot) × (slot_at left t.root ≡ Some x) × IsRoot x
  root_by =
      let (x, at, root) = w.root in
      let (y, stands, lost) = left_there t.root x (λ (same : t.root ≡ id). no_root (sym same)) at in
      let same = same_node t.root x y lost in (
        y,
        stands,
        record {
          directory = same_kind t.root x y lost ∙ root.directory;
          unnamed = same.1 ∙ root.unnamed;
          standing = ap (λ (n : Node). n.facts.pending) same.0 ∙ root.standing;
          parent = ap (λ (n : Node). n.parent) same.0 ∙ root.parent;
        },
      )

  left_use : tree_use left ≤ most_granules
  left_use =
      let e = use_dropped t id in let s : tree_use (without_node t id) ≡ tree_use left = ap tree_use dropped_is in omega (arith, e, s, w.used)

  -- the tree that is left is a tree
  pub left_tree : IsTree next left
  left_tree = record {
    sorted =
        rw (change_keys gone.node.parent (without_child (fold child.name)) rest) (removed_sorted nat_cmp (is_at (nat_cmp id)) t.slots w.sorted);
    root = root_by;
    ids =
        λ q y e. let (ne, x, at, lost) = left_back q y e in let h = w.ids q x at in (ap (λ (n : Node). n.id) (same_node q x y lost).0 ∙ h.0, h.1);
    children = λ q y e root. child_by q y root (left_back q y e);
    files =
        λ q y e file. let (ne, x, at, lost) = left_back q y e in empty_by q x y lost (w.files q x at (sym (same_kind q x y lost) ∙ file));
    names = λ q y e. names_by q y (left_back q y e);
    below = λ q y name other e at. below_by q y name other (left_back q y e) at;
    moments =
        λ q y e. let (ne, x, at, lost) = left_back q y e in subst (λ (n : Node). AreMoments n.facts) (sym (same_node q x y lost).0) (w.moments q x at);
    bare =
        λ q y e p. let (ne, x, at, lost) = left_back q y e in empty_by q x y lost (w.bare q x at (ap (λ (n : Node). n.facts.pending) (sym (same_node q x y lost).0) ∙ p));
    formed =
        λ q y e. let (ne, x, at, lost) = left_back q y e in subst (λ (n : Node). IsFormed n.kind) (sym (same_node q x y lost).0) (w.formed q x at);
    used = left_use;
  }

  -- what stands in it stood, and is another node
  pub dropped_back : (q : ℕ) (y : Slot) → slot_at (without_node t id) q ≡ Some y
      → (q ≢ id) × (x : Slot) × (slot_at t q ≡ Some x) × (y.node ≡ x.node) × (y.name ≡ x.name)
  dropped_back q y e =
      let (ne, x, at, lost) = left_back q y (ap (λ (u : Nodes). slot_at u q) (sym dropped_is) ∙ e) in
      let n = same_node q x y lost in
      (ne, x, at, n.0, n.1)

  -- and every other node stands
  pub dropped_there : (q : ℕ) (x : Slot) → q ≢ id → slot_at t q ≡ Some x
      → (y : Slot) × (slot_at (without_node t id) q ≡ Some y) × (y.node ≡ x.node) × (y.name ≡ x.name)
  dropped_there q x ne at =
      let (y, stands, lost) = left_there q x ne at in
      let n = same_node q x y lost in
      (y, ap (λ (u : Nodes). slot_at u q) dropped_is ∙ stands, n.0, n.1)

  -- the tree without the node is a tree
  pub dropped_tree : IsTree next (without_node t id)
  dropped_tree = subst (IsTree next) (sym dropped_is) left_tree
