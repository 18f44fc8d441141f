-- The changes of nodes leave an account whole: other facts, other bytes, one node more.
use Rattle.std.proofs.Common.{◌≡◌, ◌≢◌, ℕ, ◌+◌, ◌*◌, ◌≤◌, true, false, Bool, cond, List, [], length, Option, Some, None}
use Rattle.std.proofs.Common.{refl, sym, ap, ◌∙◌, subst, arith, inl, inr, option_map}
use Rattle.std.specs.Prelude.{IfSome, if◌then◌else◌, nat_le, nat_lt, ◌&&◌, unwrap_or}
use Rattle.std.specs.Map.{lookup}
use Rattle.std.proofs.lemmas.Option.{same_Some}
use Rattle.sx_base.specs.Entries.{value_at}
use Rattle.sx_base.specs.Clock.{greatest_moment}
use Rattle.sx_base.specs.Moment.{greatest_written}
use Rattle.sx_extent.proofs.FileLaws.{whole_blank, whole_update, whole_write, whole_clear, whole_resize}
use Rattle.sx_extent.proofs.UseLaws.{used_blank, used_update, used_write, used_clear, used_resize}
use Rattle.sx_extent.specs.Ranges.{SparseFile, IsWellFormed, most_bytes, update, write, clear, resize, used, fresh}
use Rattle.sx_names.specs.Limits.{IsQuota}
use Rattle.sx_names.specs.Names.{fold, is_part}
use Rattle.sx_names.specs.declared.attributes.Attributes.{Attributes}
use Rattle.sx_names.specs.declared.content.Content.{Content}
use Rattle.sx_names.specs.declared.meta_pair.MetaPair.{MetaPair}
use Rattle.sx_call.specs.declared.calls.Call.{Call}
use Rattle.sx_call.specs.declared.opens.Open.{Open}
use Rattle.sx_call.specs.declared.shown.Stamp.{Stamp}
use Rattle.sx_tree.specs.Body.{update_within, write_within, clear_within, resize_within}
use Rattle.sx_tree.specs.declared.node.Facts.{Facts}
use Rattle.sx_tree.specs.declared.node.FileBody.{FileBody}
use Rattle.sx_tree.specs.declared.node.Kind.{Kind}
use Rattle.sx_tree.specs.declared.node.Kind.TheVariants.{Directory, File}
use Rattle.sx_tree.specs.declared.node.Node.{Node}
use Rattle.sx_tree.specs.declared.share.Share.{Share}
use Rattle.sx_tree.specs.Node.{is_directory, kind_use}
use Rattle.sx_tree.specs.Tree.{Nodes, Slot, slot_at, tree_use, with_node, with_body, by_name, is_empty, has_none_below}
use Rattle.sx_spec.specs.Account.{Account}
use Rattle.sx_spec.specs.Changes.{put_facts, put_file, make_node}
use Rattle.sx_spec.specs.Checks.{granules_of, quota_check, refuse_if}
use Rattle.sx_spec.specs.declared.checks.Overuse.{Overuse}
use Rattle.sx_spec.specs.Facts.{new_file, new_facts}
use Rattle.sx_moment.specs.Moments.{IsShownMoment}
use Rattle.sx_spec.specs.Needs.{fresh_within, new_marks}
use Rattle.sx_spec.specs.Places.{Volume, is_pending}
use Rattle.sx_spec.specs.Trees.{with_facts, with_file, change_node}
use Rattle.sx_spec.specs.Whole.{IsTree, IsWhole, IsFormed, AreMoments, most_granules}
use Rattle.sx_spec.proofs.Grown.{IsRoom}
use Rattle.sx_spec.proofs.Likes.{LeavesNode}
use Rattle.sx_spec.proofs.Closes.{no_length}
use Rattle.sx_spec.proofs.Lists.{none_some, true_false, nat_leq, nat_leq_true, nat_not_less, both_left, both_right}
use Rattle.sx_spec.proofs.Parts.{next, TreeGoes, tree_whole, changed_goes, grown_goes}
use Rattle.sx_spec.proofs.Placed.{IsLive, IsFreeIn}
use Rattle.sx_spec.proofs.Uses.{use_changed, use_kept, use_grown}

-- Facts.

-- facts with moments that have a text, and as pending as before
pub record KeepsFacts (f : Facts → Facts) : Type 0 where
  pub moments : (x : Facts) → AreMoments x → AreMoments (f x)
  pub pending : (x : Facts) → (f x).pending ≡ x.pending

facts_leave : (x : Slot) (f : Facts → Facts) → KeepsFacts f → LeavesNode x (with_facts f)
facts_leave x f k = record {
  id = refl;
  parent = refl;
  directory = refl;
  moments = k.moments x.node.facts;
  pending = λ p. inl (sym (k.pending x.node.facts) ∙ p);
  formed = λ h. h;
}

facts_goes : (next_id id : ℕ) (opens : List Open) (f : Facts → Facts) (t : Nodes) → IsTree next_id t → KeepsFacts f
    → TreeGoes next_id next_id opens t (change_node id (with_facts f) t)
facts_goes next_id id opens f t w k =
    changed_goes next_id id opens (with_facts f) t w (λ x e. facts_leave x f k)
    (let e = use_kept id (with_facts f) t (λ n. refl) in omega (arith, e, w.used))
    (λ x e p. inr (sym (k.pending x.node.facts) ∙ p))

-- the account with other facts of a node
pub facts_whole : (a : Account) (n id : ℕ) (f : Facts → Facts) → IsWhole a → KeepsFacts f
    → IsWhole (next a (put_facts n id f a.store))
unfolding put_facts
facts_whole a n id f w k =
    tree_whole a a.store.next_id n (change_node id (with_facts f)) w (omega arith) (omega (arith, w.shares.ids))
    (λ x e. facts_goes a.store.next_id id a.store.opens f x.tree (w.shares.each n x e).tree k)

-- Bytes.

body_directory : (g : FileBody → FileBody) (k : Kind) → is_directory (with_body g k) ≡ is_directory k
body_directory g Directory = refl
body_directory g (File body) = refl

-- a body that stays a sparse file, marked so that the tree's use stays within the greatest quota
pub record KeepsBody (total : ℕ) (body : FileBody) (g : FileBody → FileBody) : Type 0 where
  pub formed : IsWellFormed body.ranges → IsWellFormed (g body).ranges
  pub bound : IsWellFormed body.ranges → total ≤ most_granules
      → total + used (g body).ranges ≤ most_granules + used body.ranges

body_formed : (x : Slot) (body : FileBody) (g : FileBody → FileBody) (total : ℕ) → x.node.kind ≡ File body
    → KeepsBody total body g → IsFormed x.node.kind → IsFormed (with_body g x.node.kind)
body_formed x body g total is k h =
    subst (λ (kind : Kind). IsFormed (with_body g kind)) (sym is) (k.formed (subst IsFormed is h))

file_leave : (x : Slot) (body : FileBody) (total : ℕ) (g : FileBody → FileBody) (f : Facts → Facts)
    → x.node.kind ≡ File body → KeepsBody total body g → KeepsFacts f → LeavesNode x (with_file g f)
file_leave x body total g f is b k = record {
  id = refl;
  parent = refl;
  directory = body_directory g x.node.kind;
  moments = k.moments x.node.facts;
  pending = λ p. inl (sym (k.pending x.node.facts) ∙ p);
  formed = body_formed x body g total is b;
}

file_goes : (next_id id : ℕ) (opens : List Open) (x : Slot) (body : FileBody) (g : FileBody → FileBody) (f : Facts
    → Facts) (t : Nodes) → IsTree next_id t → slot_at t id ≡ Some x → x.node.kind ≡ File body
    → KeepsBody (tree_use t) body g → KeepsFacts f → TreeGoes next_id next_id opens t (change_node id (with_file g f) t)
file_goes next_id id opens x body g f t w at is b k =
    changed_goes next_id id opens (with_file g f) t w
    (λ y e. subst (λ (s : Slot). LeavesNode s (with_file g f)) (same_Some _ _ (sym at ∙ e)) (file_leave x body (tree_use t) g f is b k))
    (let e = use_changed id (with_file g f) t x at in
    let old : kind_use x.node.kind ≡ used body.ranges = ap kind_use is in
    let new : kind_use (with_body g x.node.kind) ≡ used (g body).ranges =
    ap (λ (kind : Kind). kind_use (with_body g kind)) is in
    let most = b.bound (subst IsFormed is (w.formed id x at)) w.used in
    omega (arith, e, old, new, most))
    (λ y e p. inr (sym (k.pending y.node.facts) ∙ p))

-- the account with another body and other facts of a file
pub file_whole : (a : Account) (n id : ℕ) (share : Share) (x : Slot) (body : FileBody) (g : FileBody
    → FileBody) (f : Facts → Facts) → IsWhole a → value_at a.store.shares n ≡ Some share
    → slot_at share.tree id ≡ Some x → x.node.kind ≡ File body
    → KeepsBody (tree_use share.tree) body g → KeepsFacts f → IsWhole (next a (put_file n id g f a.store))
unfolding put_file
file_whole a n id share x body g f w there at is b k =
    tree_whole a a.store.next_id n (change_node id (with_file g f)) w (omega arith) (omega (arith, w.shares.ids))
    (λ y e. subst (λ (s : Share). TreeGoes a.store.next_id a.store.next_id a.store.opens s.tree (change_node id (with_file g f) s.tree)) (same_Some _ _ (sym there ∙ e))
    (file_goes a.store.next_id id a.store.opens x body g f share.tree (w.shares.each n share there).tree at is b k))

-- a body with no more marks than before
pub less_marks : (total : ℕ) (body : FileBody) (g : FileBody → FileBody)
    → (IsWellFormed body.ranges → IsWellFormed (g body).ranges)
    → (IsWellFormed body.ranges → used (g body).ranges ≤ used body.ranges) → KeepsBody total body g
less_marks total body g formed less = record { formed = formed; bound = λ h u. let l = less h in omega (arith, l, u) }

resized_formed : (bytes : ℕ) (f : SparseFile) (b : Bool) → nat_le bytes most_bytes ≡ b → IsWellFormed f
    → IsWellFormed (cond b (resize f bytes) f)
resized_formed bytes f true is h = whole_resize f bytes (nat_leq bytes most_bytes is) h
resized_formed bytes f false is h = h

resized_used : (bytes : ℕ) (f : SparseFile) (b : Bool) → used (cond b (resize f bytes) f) ≤ used f
resized_used bytes f true = used_resize f bytes
resized_used bytes f false = omega arith

-- a file of another length
pub resize_formed : (bytes : ℕ) (f : SparseFile) → IsWellFormed f → IsWellFormed (resize_within bytes f)
unfolding resize_within
resize_formed bytes f h = resized_formed bytes f (nat_le bytes most_bytes) refl h

-- has no more marks
pub resize_used : (bytes : ℕ) (f : SparseFile) → used (resize_within bytes f) ≤ used f
unfolding resize_within
resize_used bytes f = resized_used bytes f (nat_le bytes most_bytes)

cleared_formed : (from end : ℕ) (f : SparseFile) (b : Bool) → (nat_le from end && nat_le end (length f.bytes)) ≡ b
    → IsWellFormed f → IsWellFormed (cond b (clear f from end) f)
cleared_formed from end f true is h =
    whole_clear f from end (nat_leq from end (both_left (nat_le from end) (nat_le end (length f.bytes)) is)) (nat_leq end (length f.bytes) (both_right (nat_le from end) (nat_le end (length f.bytes)) is)) h
cleared_formed from end f false is h = h

cleared_used : (from end : ℕ) (f : SparseFile) (b : Bool) → used (cond b (clear f from end) f) ≤ used f
cleared_used from end f true = used_clear f from end
cleared_used from end f false = omega arith

-- a file with an interval cleared
pub clear_formed : (from end : ℕ) (f : SparseFile) → IsWellFormed f → IsWellFormed (clear_within from end f)
unfolding clear_within
clear_formed from end f h = cleared_formed from end f (nat_le from end && nat_le end (length f.bytes)) refl h

-- has no more marks
pub clear_used : (from end : ℕ) (f : SparseFile) → used (clear_within from end f) ≤ used f
unfolding clear_within
clear_used from end f = cleared_used from end f (nat_le from end && nat_le end (length f.bytes))

updated_formed : (at : ℕ) (piece : List ℕ) (f : SparseFile) (b : Bool)
    → nat_le (at + length piece) (length f.bytes) ≡ b → IsWellFormed f → IsWellFormed (cond b (update f at piece) f)
updated_formed at piece f true is h = whole_update f at piece (nat_leq (at + length piece) (length f.bytes) is) h
updated_formed at piece f false is h = h

-- a file with a piece written in it
pub update_formed : (at : ℕ) (piece : List ℕ) (f : SparseFile) → IsWellFormed f
    → IsWellFormed (update_within at piece f)
unfolding update_within
update_formed at piece f h = updated_formed at piece f (nat_le (at + length piece) (length f.bytes)) refl h

fresh_is : (from end : ℕ) (f : SparseFile) → end ≤ most_bytes → fresh_within from end f ≡ fresh f from end
fresh_is from end f le = ap (λ b. if b then fresh f from end else 0) (nat_leq_true end most_bytes le)

updated_used : (at : ℕ) (piece : List ℕ) (f : SparseFile) (b : Bool) → nat_le (at + length piece) (length f.bytes) ≡ b
    → IsWellFormed f
    → used (cond b (update f at piece) f) ≤ used f + fresh_within at (at + length piece) f
updated_used at piece f true is h =
    let le = nat_leq (at + length piece) (length f.bytes) is in
    let u = used_update f at piece le h in
    let s = fresh_is at (at + length piece) f (omega (arith, le, h.limit)) in
    omega (arith, u, s)
updated_used at piece f false is h = omega arith

-- has as many more marks as are new, at most
pub update_used : (at : ℕ) (piece : List ℕ) (f : SparseFile) → IsWellFormed f
    → used (update_within at piece f) ≤ used f + fresh_within at (at + length piece) f
unfolding update_within
update_used at piece f h = updated_used at piece f (nat_le (at + length piece) (length f.bytes)) refl h

written_formed : (at : ℕ) (piece : List ℕ) (f : SparseFile) (b : Bool) → nat_le (at + length piece) most_bytes ≡ b
    → IsWellFormed f → IsWellFormed (cond b (write f at piece) f)
written_formed at piece f true is h = whole_write f at piece (nat_leq (at + length piece) most_bytes is) h
written_formed at piece f false is h = h

-- a file with a piece written that may make it longer
pub write_formed : (at : ℕ) (piece : List ℕ) (f : SparseFile) → IsWellFormed f → IsWellFormed (write_within at piece f)
unfolding write_within
write_formed at piece f h = written_formed at piece f (nat_le (at + length piece) most_bytes) refl h

written_used : (at : ℕ) (piece : List ℕ) (f : SparseFile) (b : Bool) → nat_le (at + length piece) most_bytes ≡ b
    → IsWellFormed f
    → used (cond b (write f at piece) f) ≤ used f + fresh_within at (at + length piece) f
written_used at piece f true is h =
    let le = nat_leq (at + length piece) most_bytes is in
    let u = used_write f at piece le h in
    let s = fresh_is at (at + length piece) f le in
    omega (arith, u, s)
written_used at piece f false is h = omega arith

-- has as many more marks as are new, at most
pub write_used : (at : ℕ) (piece : List ℕ) (f : SparseFile) → IsWellFormed f
    → used (write_within at piece f) ≤ used f + fresh_within at (at + length piece) f
unfolding write_within
write_used at piece f h = written_used at piece f (nat_le (at + length piece) most_bytes) refl h

-- The quota.

quota_by : (total more quota : ℕ) (b c : Bool) (o : Overuse) → IsQuota quota → total ≤ most_granules
    → nat_lt 0 more ≡ b → nat_lt (quota * 2097152) (total + more) ≡ c → refuse_if (b && c) o ≡ None
    → total + more ≤ most_granules
quota_by total more quota true true o q u m l e = absurd (none_some o (sym e))
quota_by total more quota true false o q u m l e =
    let h = nat_not_less (quota * 2097152) (total + more) l in omega (arith, h, q.most)
quota_by total more quota false c o q u m l e = let h = nat_not_less 0 more m in omega (arith, h, u)

-- where the quota doesn't refuse, the use with the new marks is within the greatest quota
pub quota_passed : (call : Call) (v : Volume) (body : FileBody) → IsQuota v.quota → tree_use v.tree ≤ most_granules
    → quota_check call v body ≡ None → tree_use v.tree + new_marks body call ≤ most_granules
quota_passed call v body q u e =
    quota_by (tree_use v.tree) (new_marks body call) v.quota (nat_lt 0 (new_marks body call)) (nat_lt (granules_of v.quota) (tree_use v.tree + new_marks body call))
    (record { used = tree_use v.tree; more = new_marks body call; limit = granules_of v.quota }) q u refl refl e

-- One node more.

pending_in : (t : Nodes) (id : ℕ) (x : Slot) → slot_at t id ≡ Some x → is_pending t id ≡ false
    → x.node.facts.pending ≡ false
pending_in t id x at off =
    sym (ap (λ (o : Option Slot). unwrap_or (option_map (λ (n : Node). n.facts.pending) (option_map (λ (s : Slot). s.node) o)) false) at) ∙ off

-- facts of a new node have moments
pub new_moments : (now : Stamp) (attributes : Attributes) (created written : Option ℕ) (meta : List MetaPair)
    → now.changed ≤ greatest_moment → IfSome created IsShownMoment → IfSome written IsShownMoment
    → AreMoments (new_facts now attributes created written meta)
new_moments now attributes created written meta early c w =
    record { created = given created c; written = given written w; changed = omega (arith, early) }
  where
    given : (o : Option ℕ) → IfSome o IsShownMoment → unwrap_or o now.changed ≤ greatest_written
    given None h = omega (arith, early)
    given (Some m) h = h

absent_next : (next_id : ℕ) (t : Nodes) (o : Option Slot) → IsTree next_id t → slot_at t next_id ≡ o → o ≡ None
absent_next next_id t None w at = refl
absent_next next_id t (Some x) w at = let h = (w.ids next_id x at).1 in absurd (omega (arith, h))

-- a new node of the next id has room under a free name
pub room : (next_id : ℕ) (t : Nodes) (path : List (List ℕ)) (parent : ℕ) (name : List ℕ) (node : Node)
    → IsTree next_id t → IsFreeIn t path parent name → node.id ≡ next_id → node.parent ≡ parent
    → node.facts.pending ≡ false → AreMoments node.facts → IsFormed node.kind → kind_use node.kind ≡ 0
    → IsRoom next_id t parent name node
room next_id t path parent name node w k id above fresh moments formed unused = record {
  id = id;
  above = above;
  part = subst (λ n. is_part n ≡ true) k.name_is k.free.part;
  slot = k.free.slot;
  there = k.free.there;
  directory = k.free.directory;
  free = subst (λ n. lookup (by_name (fold n)) k.free.slot.below ≡ None) k.name_is k.free.free;
  standing = pending_in t parent k.free.slot k.free.there k.standing;
  fresh = fresh;
  moments = moments;
  formed = formed;
  used =
      let e =
      use_grown t parent name node w.sorted (ap (λ (j : ℕ). slot_at t j) id ∙ absent_next next_id t (slot_at t next_id) w refl) in
      omega (arith, e, unused, w.used);
}

-- a new file is a sparse file without marks
pub file_formed : (bytes : ℕ) (content : Content) → bytes ≤ most_bytes → IsFormed (File (new_file bytes content))
file_formed bytes content le = whole_blank bytes le

-- and uses nothing
pub file_unused : (bytes : ℕ) (content : Content) → kind_use (File (new_file bytes content)) ≡ 0
file_unused bytes content = used_blank bytes

-- the account with one node more
pub make_whole : (a : Account) (v : Volume) (path : List (List ℕ)) (parent : ℕ) (name : List ℕ) (node : Node)
    → IsWhole a → (l : IsLive a.store v) → IsFreeIn v.tree path parent name → node.id ≡ a.store.next_id
    → node.parent ≡ parent
    → node.facts.pending ≡ false → AreMoments node.facts → IsFormed node.kind → kind_use node.kind ≡ 0
    → IsWhole (next a (make_node v.number name node a.store))
unfolding make_node
make_whole a v path parent name node w l k id above fresh moments formed unused =
    tree_whole a (a.store.next_id + 1) v.number (λ t. with_node t node.parent name node) w (omega arith) (omega (arith, w.shares.ids))
    (λ x e. subst (λ (s : Share). TreeGoes a.store.next_id (a.store.next_id + 1) a.store.opens s.tree (with_node s.tree node.parent name node)) (same_Some _ _ (sym l.there ∙ e))
    (subst (λ p. TreeGoes a.store.next_id (a.store.next_id + 1) a.store.opens l.share.tree (with_node l.share.tree p name node)) (sym above)
    (grown_goes a.store.next_id parent a.store.opens name node l.share.tree tree
    (room a.store.next_id l.share.tree path parent name node tree (subst (λ t. IsFreeIn t path parent name) (ap (λ (u : Volume). u.tree) l.is) k) id above fresh moments formed unused))))
  where
    tree : IsTree a.store.next_id l.share.tree
    tree = (w.shares.each v.number l.share l.there).tree

-- Nodes that aren't the root.

-- a file isn't the root, and has nothing below it
pub file_named : (next_id : ℕ) (t : Nodes) (id : ℕ) (x : Slot) → IsTree next_id t → slot_at t id ≡ Some x
    → is_directory x.node.kind ≡ false → (x.name ≢ None) × (x.below ≡ [])
file_named next_id t id x w at file =
    let c = w.children id x at (λ (same : id ≡ t.root).
    let (y, there, root) = w.root in
    true_false (sym root.directory ∙ ap (λ (s : Slot). is_directory s.node.kind) (same_Some _ _ (sym there ∙ ap (λ (j : ℕ). slot_at t j) (sym same) ∙ at)) ∙ file)) in
    (λ none. none_some c.name (sym none ∙ c.named), w.files id x at file)

-- a directory without a name in it has nothing below it
pub empty_below : (t : Nodes) (id : ℕ) (x : Slot) → slot_at t id ≡ Some x → is_empty t id ≡ true → x.below ≡ []
empty_below t id x at e = no_length x.below (sym (ap (λ (o : Option Slot). has_none_below o) at) ∙ e)
