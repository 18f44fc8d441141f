-- A snapshot of a share stands where neither it nor its share is deleted: what each change of a store leaves of it.
use Rattle.std.proofs.Common.{◌≡◌, ◌≢◌, ℕ, ◌+◌, true, false, Bool, cond, not, List, [], ◌∷◌, ◌++◌, Some, refl}
use Rattle.std.proofs.Common.{rules, tests, sym, ap, ◌∙◌, subst, arith, ⊎_elim}
use Rattle.std.specs.Prelude.{bytes_eq, find, ◌==◌, ◌&&◌}
use Rattle.std.specs.BTreeMap.{is_at, insert_entry}
use Rattle.std.specs.List.Sorted.{IsStrictlySortedBy}
use Rattle.std.specs.Map.{keys_of, remove_entry}
use Rattle.std.specs.Ordering.{nat_cmp}
use Rattle.std.proofs.lemmas.Option.{same_Some}
use Rattle.std.proofs.lemmas.Slice.Eq.{bytes_eq-Decides}
use Rattle.sx_base.specs.Entries.{value_at, change_at}
use Rattle.sx_guard.specs.Handle.{Handle}
use Rattle.sx_names.specs.declared.meta_pair.MetaPair.{MetaPair}
use Rattle.sx_call.specs.declared.opens.Lock.{Lock}
use Rattle.sx_call.specs.declared.opens.Open.{Open}
use Rattle.sx_tree.specs.declared.node.Facts.{Facts}
use Rattle.sx_tree.specs.declared.node.FileBody.{FileBody}
use Rattle.sx_tree.specs.declared.node.Node.{Node}
use Rattle.sx_tree.specs.declared.share.Share.{Share}
use Rattle.sx_tree.specs.declared.share.Snapshot.{Snapshot}
use Rattle.sx_tree.specs.Tree.{Nodes}
use Rattle.sx_spec.specs.Account.{Store}
use Rattle.sx_spec.specs.Changes.{make_node, put_facts, put_file, delete_at, put_open, take_open}
use Rattle.sx_spec.specs.Changes.{put_lock, take_lock, change_open, close, close_all, put_session, take_session}
use Rattle.sx_spec.specs.Shares.{is_of_moment, with_snapshot, without_snapshot}
use Rattle.sx_spec.specs.Whole.{AreShares}
use Rattle.sx_spec.proofs.Inserts.{numbers, inserted_other}
use Rattle.sx_spec.proofs.Lists.{true_false, none_some, find_filter}
use Rattle.sx_spec.proofs.Lookups.{change_there, removed_other}

-- a share of a name that keeps a snapshot of a moment
pub record Keeps (name : List ℕ) (moment : ℕ) (kept : Snapshot) (x : Share) : Type 0 where
  pub named : bytes_eq x.name name ≡ true
  pub found : find (is_of_moment moment) x.snapshots ≡ Some kept

-- the share of a number is of this name and keeps this snapshot
pub record IsKept (name : List ℕ) (moment number : ℕ) (kept : Snapshot) (ss : List (ℕ × Share)) : Type 0 where
  pub share : Share
  pub there : value_at ss number ≡ Some share
  pub keeps : Keeps name moment kept share

find_more : {X : Type 0} (p : X → Bool) (xs ys : List X) (x : X) → find p xs ≡ Some x → find p (xs ++ ys) ≡ Some x
find_more p [] ys x e = absurd (none_some x e)
find_more {X} p (y ∷ xs) ys x e =
    elim (p y) as (λ b. cond b (Some y) (find p xs) ≡ Some x → cond b (Some y) (find p (xs ++ ys)) ≡ Some x) [
      | true ↦ λ f. f
      | false ↦ λ f. find_more p xs ys x f
    ] e

other_moment : (gone moment : ℕ) (x : Snapshot) → (gone == moment) ≡ false → is_of_moment moment x ≡ true
    → not (is_of_moment gone x) ≡ true
other_moment gone moment x ne is = search (rules, tests)

-- two names of one share are the same
one_name : (x name other : List ℕ) → bytes_eq x name ≡ true → bytes_eq x other ≡ true → bytes_eq other name ≡ true
one_name x name other is too =
    let same : other ≡ name = sym ((bytes_eq-Decides x other).0 too) ∙ (bytes_eq-Decides x name).0 is in
    (bytes_eq-Decides other name).1 same

module _ (name : List ℕ) (moment number : ℕ) (kept : Snapshot) where
  -- Changes of the shares.

  -- a share changed that keeps the snapshot, or another one
  pub kept_changed : (m : ℕ) (f : Share → Share) (ss : List (ℕ × Share)) → IsKept name moment number kept ss
      → ((x : Share) → number ≡ m → Keeps name moment kept x → Keeps name moment kept (f x))
      → IsKept name moment number kept (change_at m f ss)
  kept_changed m f ss k keep =
      let (y, there, how) = change_there m f ss number k.share k.there in record {
        share = y;
        there = there;
        keeps =
            ⊎_elim (λ (h : (number ≢ m) × (y ≡ k.share)). subst (Keeps name moment kept) (sym h.1) k.keeps)
            (λ (h : (number ≡ m) × (y ≡ f k.share)). subst (Keeps name moment kept) (sym h.1) (keep k.share h.0 k.keeps)) how;
      }

  -- a share's tree changed
  pub kept_tree : (m : ℕ) (f : Nodes → Nodes) (ss : List (ℕ × Share)) → IsKept name moment number kept ss
      → IsKept name moment number kept (change_at m (λ x. record x { tree = f x.tree }) ss)
  kept_tree m f ss k =
      kept_changed m (λ x. record x { tree = f x.tree }) ss k (λ x same h. record { named = h.named; found = h.found })

  -- one more snapshot
  pub kept_more : (m at : ℕ) (meta : List MetaPair) (ss : List (ℕ × Share)) → IsKept name moment number kept ss
      → IsKept name moment number kept (change_at m (with_snapshot at meta) ss)
  kept_more m at meta ss k =
      kept_changed m (with_snapshot at meta) ss k (λ x same h. record { named = h.named; found = find_more (is_of_moment moment) x.snapshots _ kept h.found })

  -- one more share
  pub kept_added : (came next made : ℕ) (x : Share) (ss : List (ℕ × Share)) → AreShares came next made ss
      → IsKept name moment number kept ss → IsKept name moment number kept (insert_entry nat_cmp ss (made + 1) x)
  kept_added came next made x ss w k =
      let h = w.numbers number k.share k.there in record {
        share = k.share;
        there =
            inserted_other numbers (made + 1) x number ss (λ (same : made + 1 ≡ number). omega (arith, same, h.1)) ∙ k.there;
        keeps = k.keeps;
      }

  -- the share of another number dropped
  pub kept_dropped : (m : ℕ) (ss : List (ℕ × Share)) → IsStrictlySortedBy nat_cmp (keys_of ss) → number ≢ m
      → IsKept name moment number kept ss → IsKept name moment number kept (remove_entry (is_at (nat_cmp m)) ss)
  kept_dropped m ss sorted ne k =
      record { share = k.share; there = removed_other m number ss sorted ne ∙ k.there; keeps = k.keeps }

  -- a share of another name has another number
  pub other_number : (ss : List (ℕ × Share)) (m : ℕ) (x : Share) (other : List ℕ) → IsKept name moment number kept ss
      → value_at ss m ≡ Some x → bytes_eq x.name other ≡ true → bytes_eq other name ≡ false → number ≢ m
  other_number ss m x other k at named off same =
      let is : k.share ≡ x =
      same_Some _ _ (sym k.there ∙ (ap (λ (j : ℕ). value_at ss j) same ∙ at)) in
      true_false (sym (one_name x.name name other (subst (λ (y : Share). bytes_eq y.name name ≡ true) is k.keeps.named) named) ∙ off)

  -- a snapshot deleted of another moment, or of a share of another name
  pub kept_without : (gone m : ℕ) (x : Share) (other : List ℕ) (ss : List (ℕ × Share))
      → IsKept name moment number kept ss → value_at ss m ≡ Some x → bytes_eq x.name other ≡ true
      → (bytes_eq other name && gone == moment) ≡ false
      → IsKept name moment number kept (change_at m (without_snapshot gone) ss)
  kept_without gone m x other ss k at named off = by (bytes_eq other name) refl off
    where
      by : (b : Bool) → bytes_eq other name ≡ b → (b && gone == moment) ≡ false
          → IsKept name moment number kept (change_at m (without_snapshot gone) ss)
      by true is ne = kept_changed m (without_snapshot gone) ss k (λ y same h. record {
        named = h.named;
        found =
            find_filter (is_of_moment moment) (λ z. not (is_of_moment gone z)) (λ z of. other_moment gone moment z ne of) y.snapshots ∙ h.found;
      })
      by false is ne =
          kept_changed m (without_snapshot gone) ss k (λ y same h. absurd (other_number ss m x other k at named is same))

  -- Changes of a store.

  -- the share of a number in a store is of this name and keeps this snapshot
  abbrev pub Stands : Store → Type 0
  Stands s = IsKept name moment number kept s.shares

  pub node_made : (s : Store) (m : ℕ) (called : List ℕ) (node : Node) → Stands s → Stands (make_node m called node s)
  unfolding make_node
  node_made s m called node k = kept_tree m _ s.shares k

  pub facts_put : (s : Store) (m id : ℕ) (f : Facts → Facts) → Stands s → Stands (put_facts m id f s)
  unfolding put_facts
  facts_put s m id f k = kept_tree m _ s.shares k

  pub file_put : (s : Store) (m id : ℕ) (g : FileBody → FileBody) (f : Facts → Facts) → Stands s
      → Stands (put_file m id g f s)
  unfolding put_file
  file_put s m id g f k = kept_tree m _ s.shares k

  pub node_deleted : (s : Store) (m id : ℕ) → Stands s → Stands (delete_at m id s)
  unfolding delete_at
  node_deleted s m id k = kept_tree m _ s.shares k

  pub open_put : (s : Store) (o : Open) → Stands s → Stands (put_open o s)
  unfolding put_open
  open_put s o k = k

  pub open_changed : (s : Store) (handle : Handle) (f : Open → Open) → Stands s → Stands (change_open handle f s)
  unfolding change_open
  open_changed s handle f k = k

  pub lock_put : (s : Store) (l : Lock) → Stands s → Stands (put_lock l s)
  unfolding put_lock
  lock_put s l k = k

  pub lock_taken : (s : Store) (l : Lock) → Stands s → Stands (take_lock l s)
  unfolding take_lock
  lock_taken s l k = k

  pub session_put : (s : Store) (who peer : ℕ) → Stands s → Stands (put_session who peer s)
  unfolding put_session
  session_put s who peer k = k

  pub session_taken : (s : Store) (session : ℕ) → Stands s → Stands (take_session session s)
  unfolding take_session
  session_taken s session k = k

  pub one_closed : (o : Open) (s : Store) → Stands s → Stands (close o s)
  unfolding close take_open
  one_closed o s k = kept_tree o.share _ s.shares k

  pub all_closed : (os : List Open) (s : Store) → Stands s → Stands (close_all os s)
  unfolding close_all
  all_closed [] s k = k
  all_closed (o ∷ os) s k = all_closed os (close o s) (one_closed o s k)
