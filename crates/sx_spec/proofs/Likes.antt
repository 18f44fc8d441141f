-- A tree whose slots are like those of another one: the same nodes under the same names, with other facts and bytes.
use Rattle.std.proofs.Common.{◌≡◌, ◌≢◌, ℕ, ◌≤◌, true, false, Bool, List, [], Some, None, zero, suc, refl, sym, ap, ◌∙◌}
use Rattle.std.proofs.Common.{◌⊎◌, inl, inr, ⊎_elim, subst, true≢false}
use Rattle.std.specs.Prelude.{◌==◌, ◌||◌, Option, option_map}
use Rattle.std.specs.List.Sorted.{IsStrictlySortedBy}
use Rattle.std.specs.Ordering.{nat_cmp}
use Rattle.std.specs.Cmp.Lexicographic.{slice_cmp}
use Rattle.std.specs.Map.{keys_of, lookup}
use Rattle.std.proofs.lemmas.Map.Made.{lookup-map_values, keys_of-map_values}
use Rattle.std.specs.BTreeMap.{is_at}
use Rattle.sx_names.specs.Names.{fold}
use Rattle.sx_tree.specs.declared.node.Node.{Node}
use Rattle.sx_tree.specs.Node.{is_directory}
use Rattle.sx_tree.specs.Tree.{Nodes, Slot, slot_at, by_name, tree_use, slot_with}
use Rattle.sx_tree.specs.Climbs.{climbs, above}
use Rattle.sx_spec.specs.Trees.{change_node, with_facts, tree_at_rest}
use Rattle.sx_spec.specs.Facts.{at_rest}
use Rattle.sx_spec.specs.Whole.{IsTree, IsChild, IsListed, IsRoot, IsFormed, AreMoments, most_granules}
use Rattle.sx_spec.proofs.Lists.{none_some, some_of}
use Rattle.sx_spec.proofs.Lookups.{Became, change_there, change_back, change_keys}

-- a slot that is as another one but for facts and bytes; it may have become pending where nothing is below it and it is
-- no root
pub record IsLike (x y : Slot) : Type 0 where
  pub id : y.node.id ≡ x.node.id
  pub parent : y.node.parent ≡ x.node.parent
  pub directory : is_directory y.node.kind ≡ is_directory x.node.kind
  pub name : y.name ≡ x.name
  pub below : y.below ≡ x.below
  pub moments : AreMoments x.node.facts → AreMoments y.node.facts
  pub pending : y.node.facts.pending ≡ true → (x.node.facts.pending ≡ true) ⊎ ((x.below ≡ []) × (x.name ≢ None))
  pub formed : IsFormed x.node.kind → IsFormed y.node.kind

-- each slot is like itself
pub like_same : (x : Slot) → IsLike x x
like_same x =
    record { id = refl; parent = refl; directory = refl; name = refl; below = refl; moments = λ m. m; pending = λ p. inl p; formed = λ f. f }

-- a tree whose slots are like those of another one
pub record IsLikeTree (t u : Nodes) : Type 0 where
  pub root : u.root ≡ t.root
  pub keys : keys_of u.slots ≡ keys_of t.slots
  pub there : (q : ℕ) (x : Slot) → slot_at t q ≡ Some x → (y : Slot) × (slot_at u q ≡ Some y) × IsLike x y
  pub back : (q : ℕ) (y : Slot) → slot_at u q ≡ Some y → (x : Slot) × (slot_at t q ≡ Some x) × IsLike x y

module _ (t u : Nodes) (l : IsLikeTree t u) where
  -- a step up leads to the same
  above_by : (n to q : ℕ) (o : Option Slot) → slot_at t q ≡ o → ((k : ℕ) → climbs u n to k ≡ climbs t n to k)
      → above (slot_at u q) (climbs u n to) ≡ above o (climbs t n to)
  above_by n to q (Some x) at same =
      let (y, there, like) = l.there q x at in
      ap (λ (p : Option Slot). above p (climbs u n to)) there ∙ ap (climbs u n to) like.parent ∙ same x.node.parent
  above_by n to q None none same = absent (slot_at u q) refl
    where
      absent : (p : Option Slot) → slot_at u q ≡ p → above p (climbs u n to) ≡ false
      absent None at = refl
      absent (Some y) at = let (x, there, like) = l.back q y at in absurd (none_some x (sym none ∙ there))

  climbs_like : (n to from : ℕ) → climbs u n to from ≡ climbs t n to from
  climbs_like zero to from = refl
  climbs_like (suc n) to from =
      ap (λ b. (from == to) || b) (above_by n to from (slot_at t from) refl (climbs_like n to))

  like_child : (q : ℕ) (x y : Slot) → IsLike x y → IsChild t q x → IsChild u q y
  like_child q x y k c =
      let (p, at, like) = l.there x.node.parent c.parent c.there in
      record {
        name = c.name;
        named = k.name ∙ c.named;
        part = c.part;
        parent = p;
        there = ap (λ (j : ℕ). slot_at u j) k.parent ∙ at;
        directory = like.directory ∙ c.directory;
        listed = ap (λ (es : List (List ℕ × ℕ)). lookup (by_name (fold c.name)) es) like.below ∙ c.listed;
        steps = c.steps;
        rooted = ap (λ (j : ℕ). climbs u c.steps j q) l.root ∙ climbs_like c.steps t.root q ∙ c.rooted;
      }

  like_listed : (q : ℕ) (name : List ℕ) (child : ℕ) → IsListed t q name child → IsListed u q name child
  like_listed q name child c =
      let (y, at, like) = l.there child c.slot c.there in
      record {
        slot =
            y;
        there = at;
        parent = like.parent ∙ c.parent;
        kept = c.kept;
        named = like.name ∙ c.named;
        folded = c.folded;
      }

  not_true : (b : Bool) → (b ≡ true → ⊥) → b ≡ false
  not_true true f = absurd (f refl)
  not_true false f = refl

  root_like : (x y : Slot) → IsLike x y → IsRoot x → IsRoot y
  root_like x y k r = record {
    directory = k.directory ∙ r.directory;
    unnamed = k.name ∙ r.unnamed;
    standing = not_true y.node.facts.pending (λ p. ⊎_elim
        (λ (h : x.node.facts.pending ≡ true). true≢false (sym h ∙ r.standing))
        (λ (h : (x.below ≡ []) × (x.name ≢ None)). h.1 r.unnamed)
        (k.pending p));
    parent = k.parent ∙ r.parent;
  }

  bare_by : (x y : Slot) → IsLike x y → (x.node.facts.pending ≡ true → x.below ≡ []) → y.node.facts.pending ≡ true
      → y.below ≡ []
  bare_by x y k bare p =
      k.below ∙ ⊎_elim (λ (h : x.node.facts.pending ≡ true). bare h) (λ (h : (x.below ≡ []) × (x.name ≢ None)). h.0) (k.pending p)

  -- it is a tree, too, where its use is bounded
  pub like_tree : (next : ℕ) → IsTree next t → tree_use u ≤ most_granules → IsTree next u
  like_tree next w used = record {
    sorted = subst (IsStrictlySortedBy nat_cmp) (sym l.keys) w.sorted;
    root =
        let (x, there, root) = w.root in
        let (y, at, like) = l.there t.root x there in
        (y, ap (λ (j : ℕ). slot_at u j) l.root ∙ at, root_like x y like root);
    ids = λ q y e. let (x, at, like) = l.back q y e in let h = w.ids q x at in (like.id ∙ h.0, h.1);
    children =
        λ q y e ne. let (x, at, like) = l.back q y e in like_child q x y like (w.children q x at (λ h. ne (h ∙ sym l.root)));
    files = λ q y e file. let (x, at, like) = l.back q y e in like.below ∙ w.files q x at (sym like.directory ∙ file);
    names =
        λ q y e. let (x, at, like) = l.back q y e in subst (λ (es : List (List ℕ × ℕ)). IsStrictlySortedBy (slice_cmp nat_cmp) (keys_of es)) (sym like.below) (w.names q x at);
    below = λ q y name child e there.
        let (x, at, like) = l.back q y e in
        like_listed q name child (w.below q x name child at (ap (λ (es : List (List ℕ × ℕ)). lookup (by_name name) es) (sym like.below) ∙ there));
    moments = λ q y e. let (x, at, like) = l.back q y e in like.moments (w.moments q x at);
    bare = λ q y e p. let (x, at, like) = l.back q y e in bare_by x y like (w.bare q x at) p;
    formed = λ q y e. let (x, at, like) = l.back q y e in like.formed (w.formed q x at);
    used = used;
  }

-- A node changed.

-- what a change of a node leaves: id, directory and kind, well-formed bytes and moments that have a text
pub record LeavesNode (x : Slot) (f : Node → Node) : Type 0 where
  pub id : (f x.node).id ≡ x.node.id
  pub parent : (f x.node).parent ≡ x.node.parent
  pub directory : is_directory (f x.node).kind ≡ is_directory x.node.kind
  pub moments : AreMoments x.node.facts → AreMoments (f x.node).facts
  pub pending : (f x.node).facts.pending ≡ true → (x.node.facts.pending ≡ true) ⊎ ((x.below ≡ []) × (x.name ≢ None))
  pub formed : IsFormed x.node.kind → IsFormed (f x.node).kind

like_changed : (x : Slot) (f : Node → Node) → LeavesNode x f → IsLike x (slot_with f x)
like_changed x f k =
    record { id = k.id; parent = k.parent; directory = k.directory; name = refl; below = refl; moments = k.moments; pending = k.pending; formed = k.formed }

like_by : (id : ℕ) (f : Node → Node) (q : ℕ) (x y : Slot) → (q ≡ id → LeavesNode x f) → Became id (slot_with f) q x y
    → IsLike x y
like_by id f q x y k (inl h) = subst (IsLike x) (sym h.1) (like_same x)
like_by id f q x y k (inr h) = subst (IsLike x) (sym h.1) (like_changed x f (k h.0))

-- a tree with one node changed so is like the tree
pub changed_like : (id : ℕ) (f : Node → Node) (t : Nodes) → ((x : Slot) → slot_at t id ≡ Some x → LeavesNode x f)
    → IsLikeTree t (change_node id f t)
changed_like id f t k = record {
  root = refl;
  keys = change_keys id (slot_with f) t.slots;
  there =
      λ q x e. let (y, at, how) = change_there id (slot_with f) t.slots q x e in (y, at, like_by id f q x y (λ same. k x (subst (λ (j : ℕ). slot_at t j ≡ Some x) same e)) how);
  back =
      λ q y e. let (x, at, how) = change_back id (slot_with f) t.slots q y e in (x, at, like_by id f q x y (λ same. k x (subst (λ (j : ℕ). slot_at t j ≡ Some x) same at)) how);
}

-- A tree at rest.

like_rest : (x : Slot) → IsLike x (slot_with (with_facts at_rest) x)
like_rest x = record {
  id = refl;
  parent = refl;
  directory = refl;
  name = refl;
  below = refl;
  moments = λ m. record { created = m.created; written = m.written; changed = m.changed };
  pending = λ p. absurd (true≢false (sym p));
  formed = λ f. f;
}

-- what stands at an id of a tree at rest
pub rest_at : (t : Nodes) (q : ℕ)
    → slot_at (tree_at_rest t) q ≡ option_map (slot_with (with_facts at_rest)) (slot_at t q)
unfolding tree_at_rest
rest_at t q = lookup-map_values (slot_with (with_facts at_rest)) (is_at (nat_cmp q)) t.slots

-- the tree at rest is like the tree
pub rest_like : (t : Nodes) → IsLikeTree t (tree_at_rest t)
unfolding tree_at_rest
rest_like t = record {
  root = refl;
  keys = keys_of-map_values (slot_with (with_facts at_rest)) t.slots;
  there =
      λ q x e. (slot_with (with_facts at_rest) x, rest_at t q ∙ ap (option_map (slot_with (with_facts at_rest))) e, like_rest x);
  back = λ q y e. back_of q y (slot_at t q) refl (sym (rest_at t q) ∙ e);
}
  where
    back_of : (q : ℕ) (y : Slot) (o : Option Slot) → slot_at t q ≡ o
        → option_map (slot_with (with_facts at_rest)) o ≡ Some y → (x : Slot) × (slot_at t q ≡ Some x) × IsLike x y
    back_of q y None at is = absurd (none_some y is)
    back_of q y (Some x) at is =
        (x, at, subst (IsLike x) (some_of (slot_with (with_facts at_rest) x) y is) (like_rest x))
