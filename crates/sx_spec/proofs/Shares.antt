-- The shares, after one is changed, one is added and one is dropped.
use Rattle.std.proofs.Common.{◌≡◌, ◌≢◌, ℕ, ◌+◌, ◌≤◌, ◌<◌, true, false, Bool, cond, ◌||◌, List, [], ◌∷◌, Option, Some}
use Rattle.std.proofs.Common.{None, sym, ap, ◌∙◌, subst, arith, ◌⊎◌, inl, inr, ⊎_elim}
use Rattle.std.specs.Prelude.{IfSome, bytes_eq}
use Rattle.std.specs.BTreeMap.{is_at, insert_entry}
use Rattle.std.specs.List.{list_any}
use Rattle.std.specs.Map.{remove_entry}
use Rattle.std.specs.Ordering.{nat_cmp}
use Rattle.std.proofs.lemmas.Bool.{cases_eq}
use Rattle.std.proofs.lemmas.Bool.Decides.{not_from_Decides}
use Rattle.std.proofs.lemmas.Slice.Eq.{bytes_eq-Decides}
use Rattle.std.proofs.lemmas.List.Elements.{All-weaker}
use Rattle.std.proofs.lemmas.Option.{same_Some}
use Rattle.sx_base.specs.Entries.{value_at, change_at}
use Rattle.sx_base.specs.Clock.{greatest_moment}
use Rattle.sx_tree.specs.declared.share.Share.{Share}
use Rattle.sx_tree.specs.declared.share.Snapshot.{Snapshot}
use Rattle.sx_tree.specs.Tree.{Nodes}
use Rattle.sx_spec.specs.Account.{has_name}
use Rattle.sx_spec.specs.Whole.{IsTree, IsShare, IsSnapshot, HasId, AreShares}
use Rattle.sx_spec.proofs.Inserts.{numbers, inserted, inserted_other, inserted_sorted}
use Rattle.sx_spec.proofs.Lists.{none_some, or_left, or_right}
use Rattle.sx_spec.proofs.Lookups.{change_back, change_keys, removed_here, removed_other, removed_sorted}

-- Greater bounds.

-- a tree up to an id is one up to a later id
pub tree_later : (next later : ℕ) (t : Nodes) → next ≤ later → IsTree next t → IsTree later t
tree_later next later t le w = record {
  sorted = w.sorted;
  root = w.root;
  ids = λ q x e. let h = w.ids q x e in (h.0, omega (arith, h.1, le));
  children = w.children;
  files = w.files;
  names = w.names;
  below = w.below;
  moments = w.moments;
  bare = w.bare;
  formed = w.formed;
  used = w.used;
}

-- and so is a snapshot
pub snapshot_later : (next later : ℕ) (given : Option ℕ) → next ≤ later → (x : Snapshot) → IsSnapshot next given x
    → IsSnapshot later given x
snapshot_later next later given le x w =
    record { moment = w.moment; quota = w.quota; changed = w.changed; tree = tree_later next later x.tree le w.tree; rest = w.rest }

given_later : (came more : ℕ) (o : Option ℕ) → came ≤ more → IfSome o (λ last. last ≤ greatest_moment + came)
    → IfSome o (λ last. last ≤ greatest_moment + more)
given_later came more None le h = h
given_later came more (Some last) le h = omega (arith, h, le)

-- and so is a share, after as many entries or more
pub share_later : (next later came more : ℕ) (x : Share) → next ≤ later → came ≤ more → IsShare next came x
    → IsShare later more x
share_later next later came more x le further w = record {
  name = w.name;
  quota = w.quota;
  changed = w.changed;
  tree = tree_later next later x.tree le w.tree;
  given = given_later came more x.given further w.given;
  snapshots =
      All-weaker (IsSnapshot next x.given) (IsSnapshot later x.given) (snapshot_later next later x.given le) x.snapshots w.snapshots;
  some = w.some;
  rising = w.rising;
}

-- after as many entries or more the shares keep their facts
pub shares_later : (came more next made : ℕ) (ss : List (ℕ × Share)) → came ≤ more → AreShares came next made ss
    → AreShares more next made ss
shares_later came more next made ss further w = record {
  first = w.first;
  ids = omega (arith, w.ids, further);
  count = omega (arith, w.count, further);
  sorted = w.sorted;
  numbers = w.numbers;
  each = λ n x e. share_later next next came more x (omega arith) further (w.each n x e);
  names = w.names;
  apart = w.apart;
}

-- One is changed.

-- a share after a change of it: a whole one, under its name, whose ids stood in it or are new
pub record ShareGoes (more next later : ℕ) (x y : Share) : Type 0 where
  pub name : y.name ≡ x.name
  pub whole : IsShare later more y
  pub ids : (q : ℕ) → HasId y q → (next ≤ q) ⊎ HasId x q

not_below : (next q : ℕ) → next ≤ q → q < next → ⊥
not_below next q a b = omega (arith, a, b)

-- every id in a share is below the next one
pub id_below : (next came : ℕ) (x : Share) (q : ℕ) → IsShare next came x → HasId x q → q < next
id_below next came x q w (inl (slot, at)) = (w.tree.ids q slot at).1
id_below next came x q w (inr (k, d, within, is, (slot, at))) =
    let s : IsSnapshot next x.given d =
    subst (IsSnapshot next x.given) is (w.snapshots k d within) in (s.tree.ids q slot at).1

module _ (came more next later made n : ℕ) (g : Share → Share) (ss : List (ℕ × Share)) (w : AreShares came next made ss)
    (further : came ≤ more) (le : next ≤ later) (ids : later ≤ more + 1) (k : (x : Share) → value_at ss n ≡ Some x → ShareGoes more next later x (g x)) where
  -- a share before and after
  abbrev Went : ℕ → Share → Share → Type 0
  Went m x y = ((m ≢ n) × (y ≡ x)) ⊎ ((m ≡ n) × ShareGoes more next later x y)

  -- where a share came from
  from : (m : ℕ) (y : Share) → value_at (change_at n g ss) m ≡ Some y
      → (x : Share) × (value_at ss m ≡ Some x) × Went m x y
  from m y e =
      let (x, at, how) = change_back n g ss m y e in (
        x,
        at,
        ⊎_elim (λ (h : (m ≢ n) × (y ≡ x)). inl h)
            (λ (h : (m ≡ n) × (y ≡ g x)). inr (h.0, subst (ShareGoes more next later x) (sym h.1) (k x (subst (λ (j : ℕ). value_at ss j ≡ Some x) h.0 at)))) how,
      )

  share_by : (m : ℕ) (x y : Share) → IsShare next came x → Went m x y → IsShare later more y
  share_by m x y is (inl h) = subst (IsShare later more) (sym h.1) (share_later next later came more x le further is)
  share_by m x y is (inr h) = h.1.whole

  name_by : (m : ℕ) (x y : Share) → Went m x y → y.name ≡ x.name
  name_by m x y (inl h) = ap (λ (q : Share). q.name) h.1
  name_by m x y (inr h) = h.1.name

  -- an id of a share stood there, or is a new one of the share n
  abbrev Stood : ℕ → Share → ℕ → Type 0
  Stood m x q = ((m ≡ n) × (next ≤ q)) ⊎ HasId x q

  stood_by : (m : ℕ) (x y : Share) (q : ℕ) → Went m x y → HasId y q → Stood m x q
  stood_by m x y q (inl h) has = inr (subst (λ (p : Share). HasId p q) h.1 has)
  stood_by m x y q (inr h) has = ⊎_elim (λ (l : next ≤ q). inl (h.0, l)) (λ (o : HasId x q). inr o) (h.1.ids q has)

  apart_by : (i j : ℕ) (x y : Share) (q : ℕ) → value_at ss i ≡ Some x → value_at ss j ≡ Some y → Stood i x q
      → Stood j y q → i ≡ j
  apart_by i j x y q e f (inl h) (inl g) = h.0 ∙ sym g.0
  apart_by i j x y q e f (inl h) (inr has) = absurd (not_below next q h.1 (id_below next came y q (w.each j y f) has))
  apart_by i j x y q e f (inr has) (inl g) = absurd (not_below next q g.1 (id_below next came x q (w.each i x e) has))
  apart_by i j x y q e f (inr has) (inr too) = w.apart i j x y q e f has too

  -- the shares with one changed keep their facts
  pub shares_changed : AreShares more later made (change_at n g ss)
  shares_changed = record {
    first = omega (arith, w.first, le);
    ids = omega (arith, ids);
    count = omega (arith, w.count, further);
    sorted = rw (change_keys n g ss) w.sorted;
    numbers = λ m y e. let (x, at, _) = from m y e in w.numbers m x at;
    each = λ m y e. let (x, at, how) = from m y e in share_by m x y (w.each m x at) how;
    names = λ i j x y e f same.
        let (x', at, how) = from i x e in
        let (y', bt, was) = from j y f in
        w.names i j x' y' at bt (sym (name_by i x' x how) ∙ same ∙ name_by j y' y was);
    apart = λ i j x y q e f has too.
        let (x', at, how) = from i x e in
        let (y', bt, was) = from j y f in
        apart_by i j x' y' q at bt (stood_by i x' x q how has) (stood_by j y' y q was too);
  }

-- One is added.

free_by : (name : List ℕ) (e : ℕ × Share) (n : ℕ) (x : Share) (es : List (ℕ × Share)) (b : Bool)
    → (has_name name e || list_any (has_name name) es) ≡ false
    → cond b (Some e.1) (value_at es n) ≡ Some x
    → (list_any (has_name name) es ≡ false → value_at es n ≡ Some x → bytes_eq x.name name ≡ false)
    → bytes_eq x.name name ≡ false
free_by name e n x es true none at rest =
    subst (λ (r : Share). bytes_eq r.name name ≡ false) (same_Some _ _ at) (or_left (has_name name e) _ none)
free_by name e n x es false none at rest = rest (or_right (has_name name e) _ none) at

-- where no share has a name, the one of no number has it
free : (name : List ℕ) (n : ℕ) (x : Share) (es : List (ℕ × Share)) → list_any (has_name name) es ≡ false
    → value_at es n ≡ Some x → bytes_eq x.name name ≡ false
free name n x [] none at = absurd (none_some x at)
free name n x (e ∷ es) none at = free_by name e n x es (is_at (nat_cmp n) e.0) none at (free name n x es)

unlike : (a b : List ℕ) → bytes_eq a b ≡ false → a ≢ b
unlike a b off = not_from_Decides (bytes_eq a b) (bytes_eq-Decides a b) off

-- a share of a free name, whose ids are new
pub record IsNewShare (came next : ℕ) (ss : List (ℕ × Share)) (x : Share) : Type 0 where
  pub whole : IsShare (next + 1) (came + 1) x
  pub free : list_any (has_name x.name) ss ≡ false
  pub ids : (q : ℕ) → HasId x q → next ≤ q

module _ (came next made : ℕ) (ss : List (ℕ × Share)) (x : Share) (w : AreShares came next made ss) (k : IsNewShare came next ss x) where
  abbrev added : List (ℕ × Share)
  added = insert_entry nat_cmp ss (made + 1) x

  -- the new share, or one that stood there
  abbrev Was : ℕ → Share → Type 0
  Was n r = ((n ≡ made + 1) × (r ≡ x)) ⊎ (value_at ss n ≡ Some r)

  was : (n : ℕ) (r : Share) → value_at added n ≡ Some r → Was n r
  was n r e = ⊎_elim
      (λ (same : n ≡ made + 1). inl (same, sym (same_Some _ _ (sym (inserted numbers (made + 1) x ss) ∙ subst (λ (j : ℕ). value_at added j ≡ Some r) same e))))
      (λ (ne : n ≢ made + 1). inr (sym (inserted_other numbers (made + 1) x n ss (λ h. ne (sym h))) ∙ e))
      (cases_eq n (made + 1))

  new_number_by : (n : ℕ) (r : Share) → Was n r → (1 ≤ n) × (n ≤ made + 1)
  new_number_by n r (inl h) = (omega (arith, h.0), omega (arith, h.0))
  new_number_by n r (inr e) = let h = w.numbers n r e in (h.0, omega (arith, h.1))

  new_share_by : (n : ℕ) (r : Share) → Was n r → IsShare (next + 1) (came + 1) r
  new_share_by n r (inl h) = subst (IsShare (next + 1) (came + 1)) (sym h.1) k.whole
  new_share_by n r (inr e) = share_later next (next + 1) came (came + 1) r (omega arith) (omega arith) (w.each n r e)

  new_names_by : (n m : ℕ) (p r : Share) → Was n p → Was m r → p.name ≡ r.name → n ≡ m
  new_names_by n m p r (inl h) (inl g) same = h.0 ∙ sym g.0
  new_names_by n m p r (inl h) (inr f) same =
      absurd (unlike r.name x.name (free x.name m r ss k.free f) (sym same ∙ ap (λ (q : Share). q.name) h.1))
  new_names_by n m p r (inr e) (inl g) same =
      absurd (unlike p.name x.name (free x.name n p ss k.free e) (same ∙ ap (λ (q : Share). q.name) g.1))
  new_names_by n m p r (inr e) (inr f) same = w.names n m p r e f same

  new_apart_by : (n m : ℕ) (p r : Share) (q : ℕ) → Was n p → Was m r → HasId p q → HasId r q → n ≡ m
  new_apart_by n m p r q (inl h) (inl g) has too = h.0 ∙ sym g.0
  new_apart_by n m p r q (inl h) (inr f) has too =
      absurd (not_below next q (k.ids q (subst (λ (y : Share). HasId y q) h.1 has)) (id_below next came r q (w.each m r f) too))
  new_apart_by n m p r q (inr e) (inl g) has too =
      absurd (not_below next q (k.ids q (subst (λ (y : Share). HasId y q) g.1 too)) (id_below next came p q (w.each n p e) has))
  new_apart_by n m p r q (inr e) (inr f) has too = w.apart n m p r q e f has too

  -- the shares with one more keep their facts
  pub shares_added : AreShares (came + 1) (next + 1) (made + 1) added
  shares_added = record {
    first = omega arith;
    ids = omega (arith, w.ids);
    count = omega (arith, w.count);
    sorted = inserted_sorted numbers (made + 1) x ss w.sorted;
    numbers = λ n r e. new_number_by n r (was n r e);
    each = λ n r e. new_share_by n r (was n r e);
    names = λ n m p r e f same. new_names_by n m p r (was n p e) (was m r f) same;
    apart = λ n m p r q e f has too. new_apart_by n m p r q (was n p e) (was m r f) has too;
  }

  -- the new share, or one that stood
  pub added_back : (n : ℕ) (r : Share) → value_at added n ≡ Some r
      → ((n ≡ made + 1) × (r ≡ x)) ⊎ (value_at ss n ≡ Some r)
  added_back n r e = was n r e

  -- and those before stand
  pub added_there : (n : ℕ) (r : Share) → value_at ss n ≡ Some r → value_at added n ≡ Some r
  added_there n r e =
      let h = w.numbers n r e in inserted_other numbers (made + 1) x n ss (λ (same : made + 1 ≡ n). omega (arith, same, h.1)) ∙ e

-- One is dropped.

module _ (came next made n : ℕ) (ss : List (ℕ × Share)) (w : AreShares came next made ss) where
  abbrev rest : List (ℕ × Share)
  rest = remove_entry (is_at (nat_cmp n)) ss

  -- what stands stood, under another number
  pub dropped_back : (m : ℕ) (x : Share) → value_at rest m ≡ Some x → (m ≢ n) × (value_at ss m ≡ Some x)
  dropped_back m x e =
      let ne : m ≢ n =
      λ (same : m ≡ n). none_some x (sym (removed_here n ss w.sorted) ∙ subst (λ (j : ℕ). value_at rest j ≡ Some x) same e) in
      (ne, sym (removed_other n m ss w.sorted ne) ∙ e)

  -- and what stood under another number stands
  pub dropped_there : (m : ℕ) (x : Share) → m ≢ n → value_at ss m ≡ Some x → value_at rest m ≡ Some x
  dropped_there m x ne e = removed_other n m ss w.sorted ne ∙ e

  -- the shares without one keep their facts
  pub shares_dropped : AreShares (came + 1) next made rest
  shares_dropped = record {
    first = w.first;
    ids = omega (arith, w.ids);
    count = omega (arith, w.count);
    sorted = removed_sorted nat_cmp (is_at (nat_cmp n)) ss w.sorted;
    numbers = λ m x e. w.numbers m x (dropped_back m x e).1;
    each =
        λ m x e. share_later next next came (came + 1) x (omega arith) (omega arith) (w.each m x (dropped_back m x e).1);
    names = λ i j x y e f same. w.names i j x y (dropped_back i x e).1 (dropped_back j y f).1 same;
    apart = λ i j x y q e f has too. w.apart i j x y q (dropped_back i x e).1 (dropped_back j y f).1 has too;
  }
