-- Changes of entries and lists, one behind another.
use Rattle.std.proofs.Common.{◌≡◌, ◌∙◌, sym, ap, refl, ℕ, Bool, true, false, cond, List, [], ◌∷◌, Option, Some, None, option_map, position, rules}
use Rattle.std.specs.Prelude.{IfSome}
use Rattle.std.specs.Map.{set_value}
use Rattle.std.specs.BTreeMap.{is_at}
use Rattle.std.specs.Ordering.{nat_cmp}
use Rattle.sx_base.specs.Entries.{value_at, with_value, change_at, change}
use Rattle.sx_tree.specs.declared.node.Facts.{Facts}
use Rattle.sx_tree.specs.Tree.{Slot, Nodes, slot_with, facts_at, set_facts, change_slot}
use Rattle.sx_tree.specs.Tree as tree
use Rattle.sx_spec.specs.Trees.{change_node, with_facts}

-- what holds of each value that an option may be holds of the option
pub if_some : {T : Type 0} (P : T → Type 0) (o : Option T) → ((x : T) → o ≡ Some x → P x) → IfSome o P
if_some P None f = tt
if_some P (Some x) f = f x refl

set_by : {X : Type 0} (id : ℕ) (b : Bool) (e : ℕ × X) (es : List (ℕ × X)) (s w : X) → is_at (nat_cmp id) e.0 ≡ b → cond b (Some e.1) (value_at es id) ≡ Some s
    → (value_at es id ≡ Some s → value_at (set_value (is_at (nat_cmp id)) es w) id ≡ Some w)
    → value_at (cond b ((e.0, w) ∷ es) (e ∷ set_value (is_at (nat_cmp id)) es w)) id ≡ Some w
set_by id true e es s w t is rest = rw t refl
set_by id false e es s w t is rest = rw t (rest is)

-- what was set stands there
pub value_set : {X : Type 0} (id : ℕ) (es : List (ℕ × X)) (s w : X) → value_at es id ≡ Some s → value_at (set_value (is_at (nat_cmp id)) es w) id ≡ Some w
value_set id [] s w is = search rules
value_set id (e ∷ es) s w is = set_by id (is_at (nat_cmp id) e.0) e es s w refl is (value_set id es s w)

twice_by : {X : Type 0} (test : ℕ → Bool) (b : Bool) (e : ℕ × X) (es : List (ℕ × X)) (v w : X) → test e.0 ≡ b
    → set_value test (set_value test es v) w ≡ set_value test es w
    → set_value test (cond b ((e.0, v) ∷ es) (e ∷ set_value test es v)) w ≡ cond b ((e.0, w) ∷ es) (e ∷ set_value test es w)
twice_by test true e es v w t rest = rw t refl
twice_by test false e es v w t rest = rw t (ap (λ ys. e ∷ ys) rest)

-- of two values that were set, the last stands
pub set_twice : {X : Type 0} (test : ℕ → Bool) (es : List (ℕ × X)) (v w : X) → set_value test (set_value test es v) w ≡ set_value test es w
set_twice test [] v w = refl
set_twice test (e ∷ es) v w = twice_by test (test e.0) e es v w refl (set_twice test es v w)

change_by : {X : Type 0} (id : ℕ) (f g : X → X) (es : List (ℕ × X)) (o : Option X) → value_at es id ≡ o
    → change_at id f (with_value id es (option_map g o)) ≡ with_value id es (option_map (λ x. f (g x)) o)
change_by id f g es None is = rw is refl
change_by {X} id f g es (Some x) is =
    ap (λ (o : Option X). with_value id (set_value (is_at (nat_cmp id)) es (g x)) (option_map f o)) (value_set id es x (g x) is)
    ∙ set_twice (is_at (nat_cmp id)) es (g x) (f (g x))

-- two changes of one entry are one
pub change_twice : {X : Type 0} (id : ℕ) (f g : X → X) (es : List (ℕ × X)) → change_at id f (change_at id g es) ≡ change_at id (λ x. f (g x)) es
change_twice id f g es = change_by id f g es (value_at es id) refl

facts_by : (t : Nodes) (id : ℕ) (f : Facts → Facts) (g : Facts) (o : Option Slot) → option_map (λ n. n.facts) (option_map (λ s. s.node) o) ≡ Some g
    → with_value id t.slots (option_map (tree.with_facts (f g)) o) ≡ with_value id t.slots (option_map (slot_with (with_facts f)) o)
facts_by t id f g None is = cc
facts_by t id f g (Some s) is =
    let same : s.node.facts ≡ g = cc in
    ap (λ (x : Facts). set_value (is_at (nat_cmp id)) t.slots (tree.with_facts (f x) s)) (sym same)

-- facts that are set to what a change makes of them are changed
pub facts_changed : (t : Nodes) (id : ℕ) (f : Facts → Facts) (g : Facts) → facts_at t id ≡ Some g → set_facts id (f g) t ≡ change_node id (with_facts f) t
facts_changed t id f g is = ap (λ (slots : List (ℕ × Slot)). record t { slots = slots }) (facts_by t id f g (value_at t.slots id) is)

none_by : (t : Nodes) (id : ℕ) (f : Facts → Facts) (o : Option Slot) → option_map (λ n. n.facts) (option_map (λ s. s.node) o) ≡ None
    → t.slots ≡ with_value id t.slots (option_map (slot_with (with_facts f)) o)
none_by t id f None is = refl
none_by t id f (Some s) is = cc

-- where no node stands its facts aren't changed
pub no_facts : (t : Nodes) (id : ℕ) (f : Facts → Facts) → facts_at t id ≡ None → t ≡ change_node id (with_facts f) t
no_facts t id f is = ap (λ (slots : List (ℕ × Slot)). record t { slots = slots }) (none_by t id f (value_at t.slots id) is)

skip_by : {X : Type 0} (p : X → Bool) (f : X → X) (x : X) (xs : List X) (b : Bool) → p x ≡ b → position p (x ∷ xs) ≡ None
    → (position p xs ≡ None → change p f xs ≡ xs) → change p f (x ∷ xs) ≡ x ∷ xs
skip_by p f x xs true is e rest = search rules
skip_by {X} p f x xs false is e rest = rw is (ap (λ (ys : List X). x ∷ ys) (rest (search rules)))

-- where nothing passes the test, nothing is changed
pub change_none : {X : Type 0} (p : X → Bool) (f : X → X) (xs : List X) → position p xs ≡ None → change p f xs ≡ xs
change_none p f [] e = refl
change_none p f (x ∷ xs) e = skip_by p f x xs (p x) refl e (change_none p f xs)
