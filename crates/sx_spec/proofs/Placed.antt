-- What a place that was found says of the store.
use Rattle.std.proofs.Common.{◌≡◌, ◌≢◌, ℕ, true, false, Bool, cond, List, [], ◌∷◌, Option, Some, None, refl, rules, sym}
use Rattle.std.proofs.Common.{ap, ◌∙◌, subst, option_map}
use Rattle.std.specs.Prelude.{Result, Ok, Err, ok_or, find}
use Rattle.std.specs.declared.cmp.Ordering.TheVariants.{Less}
use Rattle.std.specs.BTreeMap.{is_at}
use Rattle.std.specs.List.{AllByRecursion, list_all}
use Rattle.std.specs.List.Sorted.{IsStrictlySortedBy}
use Rattle.std.specs.Map.{keys_of}
use Rattle.std.specs.Ordering.{nat_cmp}
use Rattle.std.proofs.lemmas.Option.{same_Some}
use Rattle.sx_base.specs.Entries.{value_at}
use Rattle.sx_guard.specs.declared.access.Access.{Access}
use Rattle.sx_guard.specs.Handle.{Handle}
use Rattle.sx_names.specs.Names.{is_part}
use Rattle.sx_call.specs.declared.targets.Target.{Target}
use Rattle.sx_call.specs.declared.opens.Open.{Open}
use Rattle.sx_call.specs.declared.refusals.Refusal.{Refusal}
use Rattle.sx_call.specs.declared.refusals.Refusal.TheVariants as refusal
use Rattle.sx_tree.specs.declared.node.FileBody.{FileBody}
use Rattle.sx_tree.specs.declared.node.Found.{Found}
use Rattle.sx_tree.specs.declared.node.Found.TheVariants as found
use Rattle.sx_tree.specs.declared.node.Kind.{Kind}
use Rattle.sx_tree.specs.declared.node.Kind.TheVariants.{Directory, File}
use Rattle.sx_tree.specs.declared.node.Node.{Node}
use Rattle.sx_tree.specs.declared.share.Share.{Share}
use Rattle.sx_tree.specs.Find.{found_in}
use Rattle.sx_tree.specs.Node.{is_directory}
use Rattle.sx_tree.specs.Tree.{Nodes, Slot, slot_at, node_at}
use Rattle.sx_spec.specs.Account.{Store, Account, has_name, share_named, open_of}
use Rattle.sx_spec.specs.Places.{◌>>=◌, Volume, NodePlace, FilePlace, HandlePlace, HeldFile, Spot, Taken, Free}
use Rattle.sx_spec.specs.Places.{share_at, volume_in, volume_at, live_volume, spot_of, spot_at, last_part, is_pending}
use Rattle.sx_spec.specs.Places.{may_make, node_in, of_kind, as_directory, as_file, not_pending, body_of, file_body}
use Rattle.sx_spec.specs.Places.{node_place, directory_place, file_at, file_place, making_place, with_access}
use Rattle.sx_spec.specs.Places.{has_rights, handle_place, held_file}
use Rattle.sx_spec.specs.Whole.{IsTree, IsWhole}
use Rattle.sx_spec.proofs.Inserts.{numbers, here, apart}
use Rattle.sx_spec.proofs.Lists.{none_some, some_of}
use Rattle.sx_spec.proofs.Walks.{IsFree, path_missing}

-- Results.

-- what a chain of look-ups gave, its first one gave
pub bind_ok : {A B : Type 0} (r : Result A Refusal) (f : A → Result B Refusal) (y : B) → (r >>= f) ≡ Ok y
    → (x : A) × (r ≡ Ok x) × (f x ≡ Ok y)
bind_ok (Ok x) f y e = (x, refl, e)
bind_ok (Err q) f y e = cc

-- what was there
pub ok_there : {A : Type 0} (o : Option A) (r : Refusal) (x : A) → ok_or o r ≡ Ok x → o ≡ Some x
ok_there None r x e = cc
ok_there (Some y) r x e = cc

-- a place that is found is one
pub ok_of : {A : Type 0} (x y : A) → ◌≡◌ {A = Result A Refusal} (Ok x) (Ok y) → x ≡ y
ok_of x y e = cc

-- Shares.

above_by : {X : Type 0} (P : ℕ → Type 0) (p : ℕ × X → Bool) (es : List (ℕ × X)) (e : ℕ × X)
    → AllByRecursion P (keys_of es) → find p es ≡ Some e → P e.0
above_by P p [] e h f = absurd (none_some e f)
above_by {X} P p (x ∷ es) e h f =
    elim (p x) as (λ b. cond b (Some x) (find p es) ≡ Some e → P e.0) [
      | true ↦ λ f. subst (λ (y : ℕ × X). P y.0) (same_Some _ _ f) h.0
      | false ↦ λ f. above_by P p es e h.1 f
    ] f

less_apart : (a b : ℕ) → nat_cmp a b ≡ Less → a ≢ b
less_apart a b l = λ e. search rules

value_by : {X : Type 0} (p : ℕ × X → Bool) (x e : ℕ × X) (es : List (ℕ × X)) (b : Bool)
    → AllByRecursion (λ y. nat_cmp x.0 y ≡ Less) (keys_of es) → cond b (Some x) (find p es) ≡ Some e
    → (find p es ≡ Some e → value_at es e.0 ≡ Some e.1)
    → cond (is_at (nat_cmp e.0) x.0) (Some x.1) (value_at es e.0) ≡ Some e.1
value_by {X} p x e es true below f rest =
    subst (λ (y : ℕ × X). cond (is_at (nat_cmp y.0) x.0) (Some x.1) (value_at es y.0) ≡ Some y.1) (same_Some _ _ f) (ap (λ (b : Bool). cond b (Some x.1) (value_at es x.0)) (here numbers x.0))
value_by {X} p x e es false below f rest =
    ap (λ (b : Bool). cond b (Some x.1) (value_at es e.0)) (apart numbers e.0 x.0 (less_apart x.0 e.0 (above_by (λ y. nat_cmp x.0 y ≡ Less) p es e below f))) ∙ rest f

-- what a test finds in entries in order stands under its key
pub found_value : {X : Type 0} (p : ℕ × X → Bool) (es : List (ℕ × X)) (e : ℕ × X)
    → IsStrictlySortedBy nat_cmp (keys_of es) → find p es ≡ Some e → value_at es e.0 ≡ Some e.1
unfolding IsStrictlySortedBy
found_value p [] e s f = absurd (none_some e f)
found_value p (x ∷ es) e s f = value_by p x e es (p x) s.0 f (λ g. found_value p es e s.1 g)

-- a volume is a share of the store as it stands
pub record IsLive (s : Store) (v : Volume) : Type 0 where
  pub share : Share
  pub there : value_at s.shares v.number ≡ Some share
  pub is : v ≡ live_volume v.number share

live_of : (s : Store) (x : ℕ × Share) (v : Volume) → value_at s.shares x.0 ≡ Some x.1 → live_volume x.0 x.1 ≡ v
    → IsLive s v
live_of s x v at is = subst (IsLive s) is (record { share = x.1; there = at; is = refl })

-- the share that a name finds
pub share_live : (a : Account) (name : List ℕ) (x : ℕ × Share) → IsWhole a → share_at a.store name ≡ Ok x
    → value_at a.store.shares x.0 ≡ Some x.1
share_live a name x w e =
    found_value (has_name name) a.store.shares x w.shares.sorted (ok_there (share_named a.store name) refusal.ShareAbsent x e)

-- the volume that a name finds
pub volume_live : (a : Account) (name : List ℕ) (v : Volume) → IsWhole a → volume_at a.store name None ≡ Ok v
    → IsLive a.store v
volume_live a name v w e =
    let (x, at, is) = bind_ok (share_at a.store name) (λ x. volume_in x None) v e in
    live_of a.store x v (share_live a name x w at) (ok_of (live_volume x.0 x.1) v is)

-- Nodes.

-- a node of a tree, with what stands at its id
pub record IsThere (t : Nodes) (n : Node) : Type 0 where
  pub slot : Slot
  pub there : slot_at t n.id ≡ Some slot
  pub is : slot.node ≡ n

there_by : (next : ℕ) (t : Nodes) (id : ℕ) (n : Node) (o : Option Slot) → IsTree next t → slot_at t id ≡ o
    → option_map (λ (s : Slot). s.node) o ≡ Some n → (n.id ≡ id) × IsThere t n
there_by next t id n None w at e = absurd (none_some n e)
there_by next t id n (Some x) w at e =
    let is : x.node ≡ n = some_of x.node n e in
    let same : n.id ≡ id = sym (ap (λ (m : Node). m.id) is) ∙ (w.ids id x at).0 in
    (same, record { slot = x; there = ap (λ (j : ℕ). slot_at t j) same ∙ at; is = is })

-- a node that is found at an id stands there
pub node_there : (next : ℕ) (t : Nodes) (id : ℕ) (n : Node) → IsTree next t → node_at t id ≡ Some n
    → (n.id ≡ id) × IsThere t n
node_there next t id n w e = there_by next t id n (slot_at t id) w refl e

taken_by : (o : Option Node) (n : Node) → option_map Taken o ≡ Some (Taken n) → o ≡ Some n
taken_by None n e = absurd (none_some (Taken n) e)
taken_by (Some m) n e = cc

no_free : {A : Type 0} (parent : ℕ) (o : Option (List ℕ)) (n : Node) → option_map (Free parent) o ≡ Some (Taken n) → A
no_free parent None n e = absurd (none_some (Taken n) e)
no_free parent (Some name) n e = cc

pub taken_in : (t : Nodes) (path : List (List ℕ)) (f : Found) (n : Node) → spot_of t path f ≡ Ok (Taken n)
    → (id : ℕ) × (f ≡ found.Node id) × (node_at t id ≡ Some n)
taken_in t path (found.Node id) n e =
    (id, refl, taken_by (node_at t id) n (ok_there (option_map Taken (node_at t id)) refusal.NameAbsent (Taken n) e))
taken_in t path (found.Missing parent) n e =
    no_free parent (last_part path) n (ok_there (option_map (Free parent) (last_part path)) refusal.NameAbsent (Taken n) e)
taken_in t path (found.NoParent parts) n e = cc

free_by : (o : Option Node) (parent : ℕ) (name : List ℕ) → option_map Taken o ≡ Some (Free parent name) → ⊥
free_by None parent name e = absurd (none_some (Free parent name) e)
free_by (Some m) parent name e = cc

free_of : (parent parent' : ℕ) (o : Option (List ℕ)) (name : List ℕ)
    → option_map (Free parent) o ≡ Some (Free parent' name) → (parent ≡ parent') × (o ≡ Some name)
free_of parent parent' None name e = absurd (none_some (Free parent' name) e)
free_of parent parent' (Some n) name e = (cc, cc)

free_at : (t : Nodes) (path : List (List ℕ)) (f : Found) (parent : ℕ) (name : List ℕ)
    → spot_of t path f ≡ Ok (Free parent name) → (f ≡ found.Missing parent) × (last_part path ≡ Some name)
free_at t path (found.Node id) parent name e =
    absurd (free_by (node_at t id) parent name (ok_there (option_map Taken (node_at t id)) refusal.NameAbsent (Free parent name) e))
free_at t path (found.Missing d) parent name e =
    let h =
    free_of d parent (last_part path) name (ok_there (option_map (Free d) (last_part path)) refusal.NameAbsent (Free parent name) e) in
    (ap (λ (j : ℕ). found.Missing j) h.0, h.1)
free_at t path (found.NoParent parts) parent name e = cc

node_of_spot : (spot : Spot) (n : Node) → node_in spot ≡ Ok n → spot ≡ Taken n
node_of_spot (Taken m) n e = cc
node_of_spot (Free parent name) n e = cc

-- the node of a place stands in a share of the store
pub record IsPlaced (s : Store) (p : NodePlace) : Type 0 where
  pub live : IsLive s p.volume
  pub node : IsThere p.volume.tree p.node

tree_of : (s : Store) (v : Volume) (l : IsLive s v) → v.tree ≡ l.share.tree
tree_of s v l = ap (λ (u : Volume). u.tree) l.is

-- the tree of a live volume is whole
pub volume_tree : (a : Account) (v : Volume) → IsWhole a → IsLive a.store v → IsTree a.store.next_id v.tree
volume_tree a v w l =
    subst (IsTree a.store.next_id) (sym (tree_of a.store v l)) (w.shares.each v.number l.share l.there).tree

-- a node that names lead to
pub node_placed : (a : Account) (at : Target) (p : NodePlace) → IsWhole a → node_place a.store at None ≡ Ok p
    → IsPlaced a.store p × (found_in p.volume.tree at.path ≡ found.Node p.node.id)
unfolding node_place
node_placed a at p w e =
    let (v, volume, e1) = bind_ok (volume_at a.store at.share None) _ p e in
    let (spot, spotted, e2) = bind_ok (spot_at v.tree at.path) _ p e1 in
    let (n, node, e3) = bind_ok (node_in spot) _ p e2 in
    let is : record { volume = v; node = n } ≡ p = ok_of {A = NodePlace} (record { volume = v; node = n }) p e3 in
    let live = volume_live a at.share v w volume in
    let (id, led, there) =
    taken_in v.tree at.path (found_in v.tree at.path) n (spotted ∙ ap Ok (node_of_spot spot n node)) in
    let stands = node_there a.store.next_id v.tree id n (volume_tree a v w live) there in
    subst (λ (q : NodePlace). IsPlaced a.store q × (found_in q.volume.tree at.path ≡ found.Node q.node.id)) is
    (record { live = live; node = stands.1 }, led ∙ ap (λ (j : ℕ). found.Node j) (sym stands.0))

kind_same : (dir : Bool) (n m : Node) → of_kind dir n ≡ Ok m → (is_directory n.kind ≡ dir) × (n ≡ m)
kind_same true n m e = directory n.kind refl e
  where
    directory : (k : Kind) → n.kind ≡ k → as_directory n k ≡ Ok m → (is_directory n.kind ≡ true) × (n ≡ m)
    directory Directory is e = (ap is_directory is, ok_of n m e)
    directory (File body) is e = cc
kind_same false n m e = file n.kind refl e
  where
    file : (k : Kind) → n.kind ≡ k → as_file n k ≡ Ok m → (is_directory n.kind ≡ false) × (n ≡ m)
    file Directory is e = cc
    file (File body) is e = (ap is_directory is, ok_of n m e)

-- what a node of a kind is
pub kind_is : (dir : Bool) (n m : Node) → of_kind dir n ≡ Ok m → (is_directory n.kind ≡ dir) × (n ≡ m)
kind_is dir n m e = kind_same dir n m e

standing_by : (b : Bool) (n m : Node) → cond {A = Result Node Refusal} b (Err (refusal.Pending n.id)) (Ok n) ≡ Ok m
    → (b ≡ false) × (n ≡ m)
standing_by true n m e = cc
standing_by false n m e = (refl, ok_of n m e)

-- a node that isn't pending
pub standing : (n m : Node) → not_pending None n ≡ Ok m → (n.facts.pending ≡ false) × (n ≡ m)
standing n m e = standing_by n.facts.pending n m e

-- a directory that names lead to
pub directory_placed : (a : Account) (at : Target) (p : NodePlace) → IsWhole a → directory_place a.store at None ≡ Ok p
    → IsPlaced a.store p × (found_in p.volume.tree at.path ≡ found.Node p.node.id) × (is_directory p.node.kind ≡ true) × (p.node.facts.pending ≡ false)
unfolding directory_place
directory_placed a at p w e =
    let (q, placed, e1) = bind_ok (node_place a.store at None) _ p e in
    let (d, kind, e2) = bind_ok (of_kind true q.node) _ p e1 in
    let (m, stands, e3) = bind_ok (not_pending None d) _ p e2 in
    let is : q ≡ p = ok_of q p e3 in
    let k = kind_is true q.node d kind in
    let s = standing d m stands in
    let h = node_placed a at q w placed in
    subst (λ (r : NodePlace). IsPlaced a.store r × (found_in r.volume.tree at.path ≡ found.Node r.node.id) × (is_directory r.node.kind ≡ true) × (r.node.facts.pending ≡ false)) is
    (h.0, h.1, k.0, ap (λ (n : Node). n.facts.pending) k.1 ∙ s.0)

body_is : (id : ℕ) (k : Kind) (b : FileBody) → body_of id k ≡ Ok b → k ≡ File b
body_is id Directory b e = cc
body_is id (File c) b e = ap File (ok_of c b e)

-- the file of a place stands in a share of the store, with its body
pub record IsFilePlaced (s : Store) (p : FilePlace) : Type 0 where
  pub live : IsLive s p.volume
  pub node : IsThere p.volume.tree p.node
  pub body : p.node.kind ≡ File p.body
  pub standing : p.node.facts.pending ≡ false

-- a node of a place that is to be a file
pub file_in : (s : Store) (q : NodePlace) (p : FilePlace) → IsPlaced s q → file_at None q ≡ Ok p → IsFilePlaced s p
file_in s q p h e =
    let (b, body, e1) = bind_ok (file_body q.node) _ p e in
    let (m, stands, e2) = bind_ok (not_pending None q.node) _ p e1 in
    let is : record {
      volume =
          q.volume;
      node = q.node;
      body = b;
    } ≡ p = ok_of {A = FilePlace} (record { volume = q.volume; node = q.node; body = b }) p e2 in
    subst (IsFilePlaced s) is (record {
      live =
          h.live;
      node = h.node;
      body = body_is q.node.id q.node.kind b body;
      standing = (standing q.node m stands).0;
    })

-- a file that names lead to
pub file_placed : (a : Account) (at : Target) (p : FilePlace) → IsWhole a → file_place a.store at None ≡ Ok p
    → IsFilePlaced a.store p
unfolding file_place
file_placed a at p w e =
    let (q, placed, e1) = bind_ok (node_place a.store at None) _ p e in
    file_in a.store q p (node_placed a at q w placed).0 e1

-- Spots.

may_taken : (t : Nodes) (spot : Spot) (n : Node) → may_make t spot ≡ Ok (Taken n) → spot ≡ Taken n
may_taken t (Taken m) n e = cc
may_taken t (Free parent name) n e = no_taken (is_pending t parent) e
  where
    no_taken : (b : Bool)
        → cond {A = Result Spot Refusal} b (Err (refusal.Pending parent)) (Ok (Free parent name)) ≡ Ok (Taken n)
        → Free parent name ≡ Taken n
    no_taken true e = cc
    no_taken false e = cc

same_parent : (d : ℕ) (free : List ℕ) (parent : ℕ) (name : List ℕ) → Free d free ≡ Free parent name → d ≡ parent
same_parent d free parent name h = cc

may_free_by : (t : Nodes) (d : ℕ) (free : List ℕ) (parent : ℕ) (name : List ℕ) (b : Bool) → is_pending t d ≡ b
    → cond {A = Result Spot Refusal} b (Err (refusal.Pending d)) (Ok (Free d free)) ≡ Ok (Free parent name)
    → (Free d free ≡ Free parent name) × (is_pending t parent ≡ false)
may_free_by t d free parent name true is e = (cc, cc)
may_free_by t d free parent name false is e =
    let h : Free d free ≡ Free parent name = ok_of (Free d free) (Free parent name) e in
    (h, ap (is_pending t) (sym (same_parent d free parent name h)) ∙ is)

may_free : (t : Nodes) (spot : Spot) (parent : ℕ) (name : List ℕ) → may_make t spot ≡ Ok (Free parent name)
    → (spot ≡ Free parent name) × (is_pending t parent ≡ false)
may_free t (Taken m) parent name e = (cc, cc)
may_free t (Free d free) parent name e = may_free_by t d free parent name (is_pending t d) refl e

-- a name that is free in a directory that isn't pending
pub record IsFreeIn (t : Nodes) (path : List (List ℕ)) (parent : ℕ) (name : List ℕ) : Type 0 where
  pub free : IsFree t parent path
  pub name_is : free.name ≡ name
  pub standing : is_pending t parent ≡ false

free_spot : (a : Account) (v : Volume) (path : List (List ℕ)) (parent : ℕ) (name : List ℕ) → IsWhole a
    → IsLive a.store v → list_all is_part path ≡ true
    → spot_at v.tree path ≡ Ok (Free parent name) → is_pending v.tree parent ≡ false → IsFreeIn v.tree path parent name
free_spot a v path parent name w live parts e pending =
    let h = free_at v.tree path (found_in v.tree path) parent name e in
    let f = path_missing a.store.next_id v.tree (volume_tree a v w live) path parent parts h.0 in
    record { free = f; name_is = some_of f.name name (sym f.last ∙ h.1); standing = pending }

-- a spot that may be made: a name that is free
pub made_free : (a : Account) (v : Volume) (path : List (List ℕ)) (spot : Spot) (parent : ℕ) (name : List ℕ)
    → IsWhole a → IsLive a.store v → list_all is_part path ≡ true
    → spot_at v.tree path ≡ Ok spot → may_make v.tree spot ≡ Ok (Free parent name) → IsFreeIn v.tree path parent name
made_free a v path spot parent name w live parts spotted makes =
    let h = may_free v.tree spot parent name makes in
    free_spot a v path parent name w live parts (spotted ∙ ap Ok h.0) h.1

-- or a node that is there
pub made_taken : (a : Account) (v : Volume) (path : List (List ℕ)) (spot : Spot) (n : Node) → IsWhole a
    → IsLive a.store v
    → spot_at v.tree path ≡ Ok spot → may_make v.tree spot ≡ Ok (Taken n)
    → IsThere v.tree n × (found_in v.tree path ≡ found.Node n.id)
made_taken a v path spot n w live spotted makes =
    taken_spot a v path n w live (spotted ∙ ap Ok (may_taken v.tree spot n makes))
  where
    taken_spot : (a : Account) (v : Volume) (path : List (List ℕ)) (n : Node) → IsWhole a → IsLive a.store v
        → spot_at v.tree path ≡ Ok (Taken n) → IsThere v.tree n × (found_in v.tree path ≡ found.Node n.id)
    taken_spot a v path n w live e =
        let (id, led, there) = taken_in v.tree path (found_in v.tree path) n e in
        let stands = node_there a.store.next_id v.tree id n (volume_tree a v w live) there in
        (stands.1, led ∙ ap (λ (j : ℕ). found.Node j) (sym stands.0))

-- a node that a spot has
pub taken_there : (a : Account) (v : Volume) (path : List (List ℕ)) (spot : Spot) (n : Node) → IsWhole a
    → IsLive a.store v
    → spot_at v.tree path ≡ Ok spot → node_in spot ≡ Ok n → IsThere v.tree n × (found_in v.tree path ≡ found.Node n.id)
taken_there a v path spot n w live spotted node =
    let (id, led, there) = taken_in v.tree path (found_in v.tree path) n (spotted ∙ ap Ok (node_of_spot spot n node)) in
    let stands = node_there a.store.next_id v.tree id n (volume_tree a v w live) there in
    (stands.1, led ∙ ap (λ (j : ℕ). found.Node j) (sym stands.0))

-- the spot of a place where a name may be made
pub making_is : (a : Account) (at : Target) (v : Volume) (made : Spot) → IsWhole a
    → making_place a.store at ≡ Ok (v, made)
    → IsLive a.store v × (spot : Spot) × (spot_at v.tree at.path ≡ Ok spot) × (may_make v.tree spot ≡ Ok made)
unfolding making_place
making_is a at v made w e =
    let (u, volume, e1) = bind_ok (volume_at a.store at.share None) _ (v, made) e in
    let (spot, spotted, e2) = bind_ok (spot_at u.tree at.path) _ (v, made) e1 in
    let (m, makes, e3) = bind_ok (may_make u.tree spot) _ (v, made) e2 in
    let is : (u, m) ≡ (v, made) = ok_of (u, m) (v, made) e3 in
    subst (λ (x : Volume × Spot). IsLive a.store x.0 × (spot : Spot) × (spot_at x.0.tree at.path ≡ Ok spot) × (may_make x.0.tree spot ≡ Ok x.1)) is
    (volume_live a at.share u w volume, spot, spotted, makes)

-- Handles.

-- the open of a place is one of the store's, on a node of a share
pub record IsHeld (s : Store) (held : Open) (v : Volume) (n : Node) : Type 0 where
  pub share : Share
  pub there : value_at s.shares held.share ≡ Some share
  pub is : v ≡ live_volume held.share share
  pub node : IsThere share.tree n
  pub on : n.id ≡ held.node

access_same : (needed : Access) (o q : Open) → with_access needed o ≡ Ok q → o ≡ q
access_same needed o q e = by (has_rights needed o.access) e
  where
    by : (b : Bool) → cond {A = Result Open Refusal} b (Ok o) (Err (refusal.LacksAccess o.handle)) ≡ Ok q → o ≡ q
    by true e = ok_of o q e
    by false e = cc

-- the open of a handle, with its node
pub handle_held : (a : Account) (h : Handle) (needed : Access) (p : HandlePlace) → IsWhole a
    → handle_place a.store h needed ≡ Ok p
    → (open_of a.store h ≡ Some p.held) × IsHeld a.store p.held p.volume p.node
unfolding handle_place
handle_held a h needed p w e =
    let (o, held, e1) = bind_ok (ok_or (open_of a.store h) (refusal.NoHandle h)) _ p e in
    let (x, share, e2) = bind_ok (ok_or (value_at a.store.shares o.share) (refusal.NoHandle h)) _ p e1 in
    let (n, node, e3) = bind_ok (ok_or (node_at x.tree o.node) (refusal.NoHandle h)) _ p e2 in
    let (q, access, e4) = bind_ok (with_access needed o) _ p e3 in
    let same : o ≡ q = access_same needed o q access in
    let is : record {
      held =
          q;
      volume = live_volume o.share x;
      node = n;
    } ≡ p = ok_of {A = HandlePlace} (record { held = q; volume = live_volume o.share x; node = n }) p e4 in
    let there = ok_there (value_at a.store.shares o.share) (refusal.NoHandle h) x share in
    let stands =
    node_there a.store.next_id x.tree o.node n (w.shares.each o.share x there).tree (ok_there (node_at x.tree o.node) (refusal.NoHandle h) n node) in
    subst (λ (r : HandlePlace). (open_of a.store h ≡ Some r.held) × IsHeld a.store r.held r.volume r.node) is
    (subst (λ (q : Open). (open_of a.store h ≡ Some q) × IsHeld a.store q (live_volume o.share x) n) same
    (ok_there (open_of a.store h) (refusal.NoHandle h) o held, record { share = x; there = there; is = refl; node = stands.1; on = stands.0 }))

-- the open of a handle of a file
pub record IsHeldFile (s : Store) (p : HeldFile) : Type 0 where
  pub held : IsHeld s p.held p.volume p.node
  pub body : p.node.kind ≡ File p.body

-- what a handle of a file says of the store
pub file_held : (a : Account) (h : Handle) (needed : Access) (p : HeldFile) → IsWhole a
    → held_file a.store h needed ≡ Ok p → (open_of a.store h ≡ Some p.held) × IsHeldFile a.store p
unfolding held_file
file_held a h needed p w e =
    let (q, placed, e1) = bind_ok (handle_place a.store h needed) _ p e in
    let (b, body, e2) = bind_ok (file_body q.node) _ p e1 in
    let is : record {
      held =
          q.held;
      volume = q.volume;
      node = q.node;
      body = b;
    } ≡ p = ok_of {A = HeldFile} (record { held = q.held; volume = q.volume; node = q.node; body = b }) p e2 in
    let k = handle_held a h needed q w placed in
    subst (λ (r : HeldFile). (open_of a.store h ≡ Some r.held) × IsHeldFile a.store r) is
    (k.0, record { held = k.1; body = body_is q.node.id q.node.kind b body })
