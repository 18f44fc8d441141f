-- Where a name and a moment lead: the volume that a snapshot keeps, and the same one of a share at rest.
use Rattle.std.proofs.Common.{◌≡◌, ℕ, true, false, Bool, cond, List, [], ◌∷◌, Some, None, refl, sym, ap}
use Rattle.std.proofs.Common.{◌∙◌, subst, option_map}
use Rattle.std.specs.Prelude.{bytes_eq, find, map, Ok}
use Rattle.std.specs.BTreeMap.{is_at}
use Rattle.std.specs.Ordering.{nat_cmp}
use Rattle.std.proofs.lemmas.Option.{same_Some}
use Rattle.std.proofs.lemmas.Slice.Eq.{bytes_eq-Decides}
use Rattle.sx_base.specs.Entries.{value_at, change}
use Rattle.sx_names.specs.declared.meta_pair.MetaPair.{MetaPair}
use Rattle.sx_tree.specs.declared.share.Share.{Share}
use Rattle.sx_tree.specs.declared.share.Snapshot.{Snapshot}
use Rattle.sx_spec.specs.Account.{Account, has_name}
use Rattle.sx_spec.specs.Places.{Volume, volume_at, kept_volume}
use Rattle.sx_spec.specs.Shares.{meta_or, snapshot_of, with_snapshot}
use Rattle.sx_spec.specs.SnapshotLaw.{share_at_rest, account_at_rest, with_given_meta}
use Rattle.sx_spec.specs.Whole.{AreShares, IsWhole}
use Rattle.sx_spec.proofs.Lists.{none_some, true_false, find_change, found_passes}
use Rattle.sx_spec.proofs.Placed.{found_value}
use Rattle.sx_spec.proofs.SnapshotKept.{IsKept}

-- The share of a name.

listed : (name : List ℕ) (n : ℕ) (x : Share) (ss : List (ℕ × Share)) → value_at ss n ≡ Some x
    → bytes_eq x.name name ≡ true → (e : ℕ × Share) × (find (has_name name) ss ≡ Some e)
listed name n x [] at named = absurd (none_some x at)
listed name n x (s ∷ ss) at named =
    by (is_at (nat_cmp n) s.0) (has_name name s) refl at (λ e. listed name n x ss e named)
  where
    by : (b c : Bool) → has_name name s ≡ c → cond b (Some s.1) (value_at ss n) ≡ Some x
        → (value_at ss n ≡ Some x → (e : ℕ × Share) × (find (has_name name) ss ≡ Some e))
        → (e : ℕ × Share) × (cond c (Some s) (find (has_name name) ss) ≡ Some e)
    by b true is at rest = (s, refl)
    by true false is at rest =
        absurd (true_false (sym (subst (λ (y : Share). bytes_eq y.name name ≡ true) (sym (same_Some _ _ at)) named) ∙ is))
    by false false is at rest = rest at

-- in a whole account the share of a name and number is the one that the name finds
pub found_named : (came next made : ℕ) (name : List ℕ) (n : ℕ) (x : Share) (ss : List (ℕ × Share))
    → AreShares came next made ss → value_at ss n ≡ Some x → bytes_eq x.name name ≡ true
    → find (has_name name) ss ≡ Some (n, x)
found_named came next made name n x ss w at named =
    let (e, found) = listed name n x ss at named in
    let stands = found_value (has_name name) ss e w.sorted found in
    let is : e.1.name ≡ name = (bytes_eq-Decides e.1.name name).0 (found_passes (has_name name) ss e found) in
    let same : e.0 ≡ n =
    w.names e.0 n e.1 x stands at (is ∙ sym ((bytes_eq-Decides x.name name).0 named)) in
    let share : e.1 ≡ x = same_Some _ _ (sym stands ∙ (ap (λ (j : ℕ). value_at ss j) same ∙ at)) in
    found ∙ (ap (λ (j : ℕ). Some (j, e.1)) same ∙ ap (λ (y : Share). Some (n, y)) share)

-- The volume that a snapshot keeps.

-- the name and the moment lead to what the snapshot keeps
pub kept_there : (a : Account) (name : List ℕ) (moment n : ℕ) (kept : Snapshot) → IsWhole a
    → IsKept name moment n kept a.store.shares → volume_at a.store name (Some moment) ≡ Ok (kept_volume n kept)
kept_there a name moment n kept w k =
    let named : find (has_name name) a.store.shares ≡ Some (n, k.share) =
    found_named a.came a.store.next_id a.store.made name n k.share a.store.shares w.shares k.there k.keeps.named in
    rw (named, k.keeps.found) refl

-- The share at rest.

find_map : {X : Type 0} (p : X → Bool) (g : X → X) → ((x : X) → p (g x) ≡ p x) → (xs : List X)
    → find p (map g xs) ≡ option_map g (find p xs)
find_map p g same [] = refl
find_map {X} p g same (x ∷ xs) =
    ap (λ b. cond b (Some (g x)) (find p (map g xs))) (same x) ∙ by (p x) (find_map p g same xs)
  where
    by : (b : Bool) → find p (map g xs) ≡ option_map g (find p xs)
        → cond b (Some (g x)) (find p (map g xs)) ≡ option_map g (cond b (Some x) (find p xs))
    by true rest = refl
    by false rest = rest

-- a volume as it would be of a share as it stands
abbrev pub unmarked : Volume → Volume
unmarked v = record v { snap = None }

-- of the share at rest, with the metadata given, the name leads to what its new snapshot keeps
pub plain_there : (a : Account) (name : List ℕ) (meta : List MetaPair) (moment n : ℕ) (x : Share) → IsWhole a
    → value_at a.store.shares n ≡ Some (with_snapshot moment meta x) → bytes_eq x.name name ≡ true
    → volume_at (account_at_rest (with_given_meta name meta a)).store name None ≡ Ok (unmarked (kept_volume n (snapshot_of moment meta x)))
plain_there a name meta moment n x w at named =
    let given : ℕ × Share → ℕ × Share = λ y. (y.0, record y.1 { meta = meta_or meta y.1.meta }) in
    let rested : ℕ × Share → ℕ × Share = λ y. (y.0, share_at_rest y.1) in
    let found : find (has_name name) a.store.shares ≡ Some (n, with_snapshot moment meta x) =
    found_named a.came a.store.next_id a.store.made name n (with_snapshot moment meta x) a.store.shares w.shares at named in
    let is : find (has_name name) (map rested (change (has_name name) given a.store.shares)) ≡ Some (rested (given (n, with_snapshot moment meta x))) =
    find_map (has_name name) rested (λ y. refl) (change (has_name name) given a.store.shares)
    ∙ ap (option_map rested) (find_change (has_name name) given (λ y. refl) a.store.shares ∙ ap (option_map given) found) in
    rw is refl
