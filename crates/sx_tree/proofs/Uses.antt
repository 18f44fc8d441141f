-- How many granules are marked after a change of the slots.
use Rattle.std.proofs.Common.{◌≡◌, ◌+◌, ℕ, Bool, true, false, List, [], ◌∷◌, cond, Option, None, Some, refl, ap, ◌∙◌, arith, rules}
use Rattle.std.specs.declared.cmp.Ordering.{Ordering}
use Rattle.std.specs.declared.cmp.Ordering.TheVariants.{Less, Equal, Greater}
use Rattle.std.specs.Ordering.{nat_cmp, is_eq, match_ordering}
use Rattle.std.specs.BTreeMap.{is_at, insert_entry}
use Rattle.std.specs.Map.{remove_entry, set_value, values_of}
use Rattle.std.specs.Prelude.{option_and_then, option_map, unwrap_or}
use Rattle.sx_tree.specs.Shift.{left_place, relist, relocated, without_place}
use Rattle.sx_names.specs.Names.{fold}
use Rattle.std.proofs.lemmas.Map.Entries.{sum_by-set_value, sum_by-remove_entry}
use Rattle.std.proofs.lemmas.List.Sums.{sum_by-cons}
use Rattle.sx_base.specs.Entries.{value_at, with_value, change_at}
use Rattle.sx_tree.specs.Node.{kind_use}
use Rattle.sx_tree.specs.Tree.{Slot, slots_use, slot_use, use_at, unlisted, without_child}

-- the marked granules of what stands in a slot
use_of : Slot → ℕ
use_of s = kind_use s.node.kind

use_cons : (e : ℕ × Slot) (es : List (ℕ × Slot)) → slots_use (e ∷ es) ≡ kind_use e.1.node.kind + slots_use es
use_cons e es = sum_by-cons (λ (s : Slot). kind_use s.node.kind) e.1 (values_of es)

insert_by : (id : ℕ) (s : Slot) (e : ℕ × Slot) (es : List (ℕ × Slot)) (o : Ordering)
    → cond (is_eq o) (Some e.1) (value_at es id) ≡ None
    → (value_at es id ≡ None → slots_use (insert_entry nat_cmp es id s) ≡ slots_use es + kind_use s.node.kind)
    → slots_use (match_ordering o ((id, s) ∷ e ∷ es) ((e.0, s) ∷ es) (e ∷ insert_entry nat_cmp es id s)) ≡ slots_use (e ∷ es) + kind_use s.node.kind
insert_by id s e es Less none rest = let a = use_cons (id, s) (e ∷ es) in omega arith
insert_by id s e es Equal none rest = search rules
insert_by id s e es Greater none rest =
    let a = use_cons e es in
    let b = use_cons e (insert_entry nat_cmp es id s) in
    let c = rest none in
    omega arith

-- a slot under a new id adds its own
pub use_insert : (id : ℕ) (s : Slot) (es : List (ℕ × Slot)) → value_at es id ≡ None → slots_use (insert_entry nat_cmp es id s) ≡ slots_use es + kind_use s.node.kind
use_insert id s [] none = let a = use_cons (id, s) [] in omega arith
use_insert id s (e ∷ es) none = insert_by id s e es (nat_cmp id e.0) none (use_insert id s es)

changed_by : (id : ℕ) (f : Slot → Slot) (es : List (ℕ × Slot)) (o : Option Slot) → value_at es id ≡ o
    → slots_use (with_value id es (option_map f o)) + slot_use o ≡ slots_use es + slot_use (option_map f o)
changed_by id f es None is = refl
changed_by id f es (Some s) is = sum_by-set_value (λ (x : Slot). kind_use x.node.kind) (is_at (nat_cmp id)) es s (f s) is

-- a change of a slot takes its use away and adds the new one
pub use_change : (id : ℕ) (f : Slot → Slot) (es : List (ℕ × Slot)) → slots_use (change_at id f es) + use_at es id ≡ slots_use es + slot_use (option_map f (value_at es id))
use_change id f es = changed_by id f es (value_at es id) refl

same_by : (f : Slot → Slot) → ((s : Slot) → kind_use (f s).node.kind ≡ kind_use s.node.kind) → (o : Option Slot) → slot_use (option_map f o) ≡ slot_use o
same_by f same None = refl
same_by f same (Some s) = same s

-- a change that leaves the kinds leaves the use
pub use_same : (id : ℕ) (f : Slot → Slot) (es : List (ℕ × Slot)) → ((s : Slot) → kind_use (f s).node.kind ≡ kind_use s.node.kind) → slots_use (change_at id f es) ≡ slots_use es
use_same id f es same =
    let a = use_change id f es in
    let b : slot_use (option_map f (value_at es id)) ≡ use_at es id = same_by f same (value_at es id) in
    omega arith

set_by : (b : Bool) (id : ℕ) (e : ℕ × Slot) (es : List (ℕ × Slot)) (s w : Slot) → is_at (nat_cmp id) e.0 ≡ b → cond b (Some e.1) (value_at es id) ≡ Some s → (value_at es id ≡ Some s → value_at (set_value (is_at (nat_cmp id)) es w) id ≡ Some w)
    → value_at (cond b ((e.0, w) ∷ es) (e ∷ set_value (is_at (nat_cmp id)) es w)) id ≡ Some w
set_by true id e es s w t is rest = rw t refl
set_by false id e es s w t is rest = rw t (rest is)

-- what was set stands there
pub value_set : (id : ℕ) (es : List (ℕ × Slot)) (s w : Slot) → value_at es id ≡ Some s → value_at (set_value (is_at (nat_cmp id)) es w) id ≡ Some w
value_set id [] s w is = search rules
value_set id (e ∷ es) s w is = set_by (is_at (nat_cmp id) e.0) id e es s w refl is (value_set id es s w)

after_by : (id : ℕ) (f : Slot → Slot) (es : List (ℕ × Slot)) (o : Option Slot) → value_at es id ≡ o → use_at (with_value id es (option_map f o)) id ≡ slot_use (option_map f o)
after_by id f es None is = ap slot_use is
after_by id f es (Some s) is = ap slot_use (value_set id es s (f s) is)

-- after a change of what stands at an id, the use is that of what was changed
pub use_after : (id : ℕ) (f : Slot → Slot) (es : List (ℕ × Slot)) → slots_use (change_at id f es) + use_at es id ≡ slots_use es + use_at (change_at id f es) id
use_after id f es =
    let a = use_change id f es in
    let b : use_at (change_at id f es) id ≡ slot_use (option_map f (value_at es id)) = after_by id f es (value_at es id) refl in
    omega arith

weight_is : (o : Option Slot) → unwrap_or (option_map (λ (s : Slot). kind_use s.node.kind) o) 0 ≡ slot_use o
weight_is None = refl
weight_is (Some s) = refl

-- without what stands at an id its use is gone
pub use_remove : (id : ℕ) (es : List (ℕ × Slot)) → slots_use (remove_entry (is_at (nat_cmp id)) es) + use_at es id ≡ slots_use es
use_remove id es =
    let a = sum_by-remove_entry (λ (s : Slot). kind_use s.node.kind) (is_at (nat_cmp id)) es in
    let b = weight_is (value_at es id) in
    omega arith

-- a name taken out of a directory leaves the use
pub use_unlisted : (parent : ℕ) (name : Option (List ℕ)) (es : List (ℕ × Slot)) → slots_use (unlisted parent name es) ≡ slots_use es
use_unlisted parent None es = refl
use_unlisted parent (Some name) es = use_same parent (without_child (fold name)) es (λ s. refl)

-- what is set in place of a slot of the same use leaves the use
pub use_set : (id : ℕ) (es : List (ℕ × Slot)) (s w : Slot) → value_at es id ≡ Some s → kind_use w.node.kind ≡ kind_use s.node.kind → slots_use (set_value (is_at (nat_cmp id)) es w) ≡ slots_use es
use_set id es s w is same =
    let a = sum_by-set_value (λ (x : Slot). kind_use x.node.kind) (is_at (nat_cmp id)) es s w is in
    omega arith

use_left : (place : Option (ℕ × List ℕ)) (es : List (ℕ × Slot)) → slots_use (without_place place es) ≡ slots_use es
use_left None es = refl
use_left (Some (parent, name)) es = use_same parent (without_child (fold name)) es (λ s. refl)

-- a node in another place leaves the use
pub use_relist : (id parent : ℕ) (name : List ℕ) (es : List (ℕ × Slot)) → slots_use (relist id parent name es) ≡ slots_use es
use_relist id parent name es =
    use_left (option_and_then (left_place parent name) (value_at es id)) (change_at id (relocated parent name) es)
    ∙ use_same id (relocated parent name) es (λ s. refl)
