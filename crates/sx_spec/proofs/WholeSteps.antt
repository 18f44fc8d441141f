-- Each step keeps an account whole: the rows of the calls.
use Rattle.std.proofs.Common.{◌≡◌, ℕ, ◌+◌, ◌≤◌, ◌<◌, true, false, Bool, cond, not, List, [], ◌∷◌, length, Option, Some}
use Rattle.std.proofs.Common.{None, refl, sym, ap, ◌∙◌, subst, arith, option_map}
use Rattle.std.specs.Prelude.{nat_le, nat_lt, IfSome, Result, Ok, Err, ◌&&◌}
use Rattle.std.specs.List.{list_any, list_all}
use Rattle.std.specs.List.Sorted.{IsStrictlySortedBy}
use Rattle.sx_base.specs.Clock.{greatest_moment}
use Rattle.sx_base.specs.Moment.{greatest_written}
use Rattle.sx_guard.proofs.Pairs.{AllPairs-nil}
use Rattle.sx_guard.specs.Handle.{handle_before}
use Rattle.sx_guard.specs.Locks.{forbids_lock}
use Rattle.sx_names.specs.Limits.{IsQuota}
use Rattle.sx_names.specs.Names.{is_part, path_length}
use Rattle.sx_names.specs.declared.path.TheConstants.{MAX_PARTS, MAX_PATH_CHARS}
use Rattle.sx_names.specs.declared.attributes.Attributes.{Attributes}
use Rattle.sx_names.specs.declared.meta_pair.MetaPair.{MetaPair}
use Rattle.sx_call.specs.declared.targets.Target.{Target}
use Rattle.sx_call.specs.declared.times.Time.{Time}
use Rattle.sx_call.specs.declared.times.Time.TheVariants.{Keep, Now, At}
use Rattle.sx_call.specs.declared.opens.Lock.{Lock}
use Rattle.sx_call.specs.declared.refusals.Refusal.{Refusal}
use Rattle.sx_call.specs.declared.refusals.Refusal.TheVariants as refusal
use Rattle.sx_call.specs.declared.shown.Stamp.{Stamp}
use Rattle.sx_tree.specs.declared.node.Facts.{Facts}
use Rattle.sx_tree.specs.declared.node.FileBody.{FileBody}
use Rattle.sx_tree.specs.declared.node.Node.{Node}
use Rattle.sx_tree.specs.Tree.{slot_at, tree_use}
use Rattle.sx_spec.specs.Account.{Store, Account, empty, has_name}
use Rattle.sx_spec.specs.declared.checks.Asks.{Asks}
use Rattle.sx_spec.specs.declared.checks.Checks.{Checks}
use Rattle.sx_spec.specs.declared.checks.Limit.{Limit}
use Rattle.sx_spec.specs.declared.checks.Overuse.{Overuse}
use Rattle.sx_spec.specs.Changes.{Act, put_file, comes_before}
use Rattle.sx_spec.specs.Checks.{first_of, first_check, lease_refusal, open_refusal, lock_refusal, asks_refusal}
use Rattle.sx_spec.specs.Checks.{limit_refusal, refusal_of_lock, refuse_if}
use Rattle.sx_spec.specs.Facts.{with_stamp, with_write, with_metadata, facts_over}
use Rattle.sx_spec.specs.FileCalls.{time_given, with_properties}
use Rattle.sx_moment.specs.Moments.{IsShownMoment}
use Rattle.sx_call.specs.FieldLimits.{IsTime, IsTargetBelowRoot, IsNamedPath}
use Rattle.sx_spec.specs.Places.{◌>>=◌, Volume, FilePlace, vacancy, file_place}
use Rattle.sx_spec.specs.Step.{at_place, outcome, unless_refused}
use Rattle.sx_spec.specs.Whole.{IsTree, IsWhole}
use Rattle.sx_spec.proofs.Lists.{nat_less, none_some, true_false}
use Rattle.sx_spec.proofs.Parts.{next, came_whole}
use Rattle.sx_spec.proofs.Placed.{IsFilePlaced, volume_tree, file_placed}
use Rattle.sx_spec.proofs.WholeNodes.{KeepsFacts, KeepsBody, file_whole, new_moments}

-- the account before any entry is whole
pub whole_empty : IsWhole empty
unfolding IsStrictlySortedBy
whole_empty = record {
  sessions =
      record { count = omega arith; each = λ k d within. absurd (omega (arith, within)); different = AllPairs-nil (λ a b. a.session < b.session) };
  shares = record {
    first = omega arith;
    ids = omega arith;
    count = omega arith;
    sorted = tt;
    numbers = λ n x e. absurd (none_some x e);
    each = λ n x e. absurd (none_some x e);
    names = λ n m x y e f same. absurd (none_some x e);
    apart = λ n m x y q e f has too. absurd (none_some x e);
  };
  opens = record {
    count = omega arith;
    order = AllPairs-nil (λ a b. handle_before a.handle b.handle ≡ true);
    each = λ k d within. absurd (omega (arith, within));
    pending = λ n x q slot e at p. absurd (none_some x e);
  };
  locks =
      record { order = AllPairs-nil (λ a b. comes_before b a ≡ false); apart = AllPairs-nil (λ a b. a.node ≡ b.node → forbids_lock b.held.exclusive b.held.from b.held.end a.held ≡ false); each = λ k d within. absurd (omega (arith, within)) };
}

-- Acts.

act_by : (a : Account) (act : Act) (o : Option Refusal) → IsWhole a → (o ≡ None → IsWhole (next a act.store))
    → IsWhole (next a (unless_refused a.store act o).0)
act_by a act None w f = f refl
act_by a act (Some r) w f = came_whole a w

-- an act whose change keeps the account whole where nothing refuses it
pub whole_act : (a : Account) (act : Act) → IsWhole a
    → (first_check a.store act.checks ≡ None → IsWhole (next a act.store))
    → IsWhole (next a (outcome a.store (Ok act)).0)
whole_act a act w f = act_by a act (first_check a.store act.checks) w f

pub whole_at : {P : Type 0} (a : Account) (r : Result P Refusal) (f : P → Act) → IsWhole a
    → ((p : P) → r ≡ Ok p → first_check a.store (f p).checks ≡ None → IsWhole (next a (f p).store))
    → IsWhole (next a (outcome a.store (at_place r f)).0)
whole_at a (Ok p) f w each = whole_act a (f p) w (each p refl)
whole_at a (Err q) f w each = came_whole a w

pub whole_then : {P : Type 0} (a : Account) (r : Result P Refusal) (f : P → Result Act Refusal) → IsWhole a
    → ((p : P) → r ≡ Ok p → IsWhole (next a (outcome a.store (f p)).0)) → IsWhole (next a (outcome a.store (r >>= f)).0)
whole_then a (Ok p) f w each = each p refl
whole_then a (Err q) f w each = came_whole a w

-- What passes.

-- the checks of which none refuses
pub record Passed (s : Store) (c : Checks) : Type 0 where
  pub empty : c.empty ≡ None
  pub asks : asks_refusal s c.asks ≡ None
  pub quota : c.quota ≡ None

none_by : (empty read_only : Option ℕ) (asks : Option Refusal) (range : Option ℕ) (quota : Option Overuse) (limits : Option Limit)
    → first_of (option_map refusal.NotEmpty empty ∷ option_map refusal.ReadOnly read_only ∷ asks ∷ option_map refusal.OutOfFile range ∷ option_map (λ q. refusal.QuotaMet q.used q.more q.limit) quota ∷ option_map limit_refusal limits ∷ []) ≡ None
    → (empty ≡ None) × (asks ≡ None) × (quota ≡ None)
none_by (Some id) read_only asks range quota limits e = cc
none_by None (Some id) asks range quota limits e = cc
none_by None None (Some r) range quota limits e = cc
none_by None None None (Some size) quota limits e = cc
none_by None None None None (Some o) limits e = cc
none_by None None None None None limits e = (refl, refl, refl)

pub passed : (s : Store) (c : Checks) → first_check s c ≡ None → Passed s c
unfolding first_check
passed s c e =
    let h = none_by c.empty c.read_only (asks_refusal s c.asks) c.range c.quota c.limits e in record { empty = h.0; asks = h.1; quota = h.2 }

asks_by : (lease opens locks : Option Refusal) → first_of (lease ∷ opens ∷ locks ∷ []) ≡ None
    → (opens ≡ None) × (locks ≡ None)
asks_by (Some r) opens locks e = cc
asks_by None (Some r) locks e = cc
asks_by None None (Some r) e = cc
asks_by None None None e = (refl, refl)

pub asks_pass : (s : Store) (asks : Asks) → asks_refusal s asks ≡ None
    → (open_refusal s asks.opens ≡ None) × (lock_refusal s asks.locks ≡ None)
asks_pass s asks e = asks_by (lease_refusal asks.lease) (open_refusal s asks.opens) (lock_refusal s asks.locks) e

pub find_none : {X : Type 0} (f : X → Refusal) (o : Option X) → option_map f o ≡ None → o ≡ None
find_none f None e = refl
find_none f (Some x) e = cc

pub lock_none : (o : Option Lock) (missing : Option Refusal) → refusal_of_lock o missing ≡ None → o ≡ None
lock_none None missing e = refl
lock_none (Some l) missing e = cc

pub refused_by : {R : Type 0} (b : Bool) (r : R) → refuse_if b r ≡ None → b ≡ false
refused_by true r e = cc
refused_by false r e = refl

pub not_false : (b : Bool) → not b ≡ false → b ≡ true
not_false true e = refl
not_false false e = absurd (true_false e)

vacant_by : (b : Bool) (m n : ℕ) → cond {A = Result ℕ Refusal} b (Err refusal.ShareThere) (Ok m) ≡ Ok n → b ≡ false
vacant_by true m n e = cc
vacant_by false m n e = refl

pub vacant : (s : Store) (name : List ℕ) (n : ℕ) → vacancy s name ≡ Ok n → list_any (has_name name) s.shares ≡ false
vacant s name n e = vacant_by (list_any (has_name name) s.shares) (s.made + 1) n e

-- Paths.

-- a path of names that isn't the root
pub record IsNamed (path : List (List ℕ)) : Type 0 where
  pub some : 1 ≤ length path
  pub parts : list_all is_part path ≡ true

and_first : (b c d : Bool) → (b && c && d) ≡ true → b ≡ true
and_first true c d e = refl
and_first false c d e = e

above_none : (n : ℕ) → nat_lt 0 n ≡ true → 1 ≤ n
above_none n e = let h = nat_less 0 n e in omega (arith, h)

-- a path that a call names
pub path_is : (path : List (List ℕ)) → IsNamedPath path → IsNamed path
path_is path k = record {
  some = above_none (length path) k.1;
  parts =
      and_first (list_all is_part path) (nat_le (length path) MAX_PARTS) (nat_le (path_length path) MAX_PATH_CHARS) k.0;
}

-- a target below the root
pub target_is : (at : Target) → IsTargetBelowRoot at → IsNamed at.path
target_is at k = path_is at.path (k.0.1, k.1)

-- Facts.

pub early_written : (at : ℕ) → at ≤ greatest_moment → at ≤ greatest_written
early_written at early = omega (arith, early)

pub stamp_keeps : (now : Stamp) → now.changed ≤ greatest_moment → KeepsFacts (with_stamp now)
stamp_keeps now early =
    record { moments = λ x m. record { created = m.created; written = m.written; changed = early_written now.changed early }; pending = λ x. refl }

pub write_keeps : (now : Stamp) → now.changed ≤ greatest_moment → KeepsFacts (with_write now)
write_keeps now early =
    record { moments = λ x m. record { created = m.created; written = early_written now.changed early; changed = early_written now.changed early }; pending = λ x. refl }

pub metadata_keeps : (now : Stamp) (meta : List MetaPair) → now.changed ≤ greatest_moment
    → KeepsFacts (with_metadata now meta)
metadata_keeps now meta early =
    record { moments = λ x m. record { created = m.created; written = m.written; changed = early_written now.changed early }; pending = λ x. refl }

pub over_keeps : (now : Stamp) (attributes : Attributes) (created written : Option ℕ) (meta : List MetaPair)
    → now.changed ≤ greatest_moment → IfSome created IsShownMoment → IfSome written IsShownMoment
    → KeepsFacts (facts_over now attributes created written meta)
over_keeps now attributes created written meta early c w =
    let n = new_moments now attributes created written meta early c w in
    record {
      moments =
          λ x m. record { created = n.created; written = n.written; changed = n.changed };
      pending = λ x. refl;
    }

time_early : (now kept : ℕ) (t : Time) → now ≤ greatest_moment → kept ≤ greatest_written → IsTime t
    → time_given now kept t ≤ greatest_written
time_early now kept Keep early k h = k
time_early now kept Now early k h = early_written now early
time_early now kept (At at) early k h = h

if_early : (b : Bool) (now kept : ℕ) → now ≤ greatest_moment → kept ≤ greatest_written
    → cond b now kept ≤ greatest_written
if_early true now kept early k = early_written now early
if_early false now kept early k = k

pub properties_keep : (now : Stamp) (resized : Bool) (attributes : Option Attributes) (created written : Time)
    → now.changed ≤ greatest_moment → IsTime created → IsTime written
    → KeepsFacts (with_properties now resized attributes created written)
properties_keep now resized attributes created written early c w = record {
  moments = λ x m. record {
    created = time_early now.changed x.created created early m.created c;
    written =
        time_early now.changed (cond resized now.changed x.written) written early (if_early resized now.changed x.written early m.written) w;
    changed = early_written now.changed early;
  };
  pending = λ x. refl;
}

-- Files.

module _ (a : Account) (now : Stamp) (w : IsWhole a) (early : now.changed ≤ greatest_moment) where
  -- the file of a place with another body and other facts
  pub put_placed : (p : FilePlace) (g : FileBody → FileBody) (f : Facts → Facts) → IsFilePlaced a.store p
      → ((t : IsTree a.store.next_id p.volume.tree) → (q : IsQuota p.volume.quota)
      → KeepsBody (tree_use p.volume.tree) p.body g) → KeepsFacts f
      → IsWhole (next a (put_file p.volume.number p.node.id g f a.store))
  put_placed p g f h b k =
      let live = h.live in
      let tree_is : p.volume.tree ≡ live.share.tree = ap (λ (v : Volume). v.tree) live.is in
      let share = w.shares.each p.volume.number live.share live.there in
      file_whole a p.volume.number p.node.id live.share h.node.slot p.body g f w live.there (ap (λ t. slot_at t p.node.id) (sym tree_is) ∙ h.node.there)
      (ap (λ (n : Node). n.kind) h.node.is ∙ h.body)
      (subst (λ t. KeepsBody (tree_use t) p.body g) tree_is (b (volume_tree a p.volume w live) (subst IsQuota (sym (ap (λ (v : Volume). v.quota) live.is)) share.quota))) k

  -- where names lead to it
  pub put_at : (at : Target) (p : FilePlace) (g : FileBody → FileBody) (f : Facts → Facts)
      → file_place a.store at None ≡ Ok p
      → ((t : IsTree a.store.next_id p.volume.tree) → (q : IsQuota p.volume.quota)
      → KeepsBody (tree_use p.volume.tree) p.body g) → KeepsFacts f
      → IsWhole (next a (put_file p.volume.number p.node.id g f a.store))
  put_at at p g f e b k = put_placed p g f (file_placed a at p w e) b k
