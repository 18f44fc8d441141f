-- What an unrefused Snapshot Share leaves: the share's snapshot of the moment that was answered.
use Rattle.std.proofs.Common.{◌≡◌, ◌≢◌, ℕ, ◌<◌, true, false, cond, List, [], ◌∷◌, ◌++◌, Option, Some, None, refl}
use Rattle.std.proofs.Common.{rules, tests, sym, ap, ◌∙◌, subst, ⊎_elim}
use Rattle.std.specs.Prelude.{All, ◌==◌, find, Result, Ok, Err, bytes_eq}
use Rattle.std.proofs.lemmas.List.Elements.{All-head, All-tail}
use Rattle.sx_base.specs.Entries.{value_at}
use Rattle.sx_names.specs.declared.meta_pair.MetaPair.{MetaPair}
use Rattle.sx_call.specs.declared.calls.Call.{Call}
use Rattle.sx_call.specs.declared.calls.Call.TheVariants.{SnapshotShare}
use Rattle.sx_call.specs.declared.entries.Entry.{Entry}
use Rattle.sx_call.specs.declared.refusals.Refusal.{Refusal}
use Rattle.sx_call.specs.declared.refusals.Refusal.TheVariants as refusal
use Rattle.sx_call.specs.declared.replies.Reply.TheVariants.{Snapped, Refused}
use Rattle.sx_call.specs.declared.shown.Stamp.{Stamp}
use Rattle.sx_tree.specs.declared.share.Share.{Share}
use Rattle.sx_tree.specs.declared.share.Snapshot.{Snapshot}
use Rattle.sx_spec.specs.Account.{Store, Account, has_name, share_named}
use Rattle.sx_spec.specs.Changes.{change_share}
use Rattle.sx_spec.specs.Checks.{first_check}
use Rattle.sx_spec.specs.Places.{share_at}
use Rattle.sx_spec.specs.ShareCalls.{snapshot_share}
use Rattle.sx_spec.specs.Shares.{is_of_moment, next_moment, share_stamp, snapshot_of, with_snapshot}
use Rattle.sx_spec.specs.Step.{at_place, act_of, stamp_in, outcome, unless_refused, step}
use Rattle.sx_spec.specs.Whole.{IsShare, IsWhole}
use Rattle.sx_spec.proofs.Lists.{found_passes, nat_same}
use Rattle.sx_spec.proofs.Lookups.{change_there}
use Rattle.sx_spec.proofs.Placed.{ok_there, share_live}
use Rattle.sx_spec.proofs.SnapshotKept.{IsKept}
use Rattle.sx_spec.proofs.WholeShares.{rising_new}

-- the share of a name was given a snapshot of a moment, and nothing else was changed
pub record IsSnapped (s t : Store) (name : List ℕ) (meta : List MetaPair) (at moment : ℕ) : Type 0 where
  pub place : ℕ × Share
  pub there : share_at s name ≡ Ok place
  pub gave : moment ≡ next_moment at place.1.given
  pub left : t ≡ change_share place.0 (with_snapshot (next_moment at place.1.given) meta) s

moment_of : (m : ℕ) (x : Stamp) (moment : ℕ) (stamp : Stamp) → Snapped m x ≡ Snapped moment stamp → moment ≡ m
moment_of m x moment stamp e = cc

not_snapped : {A : Type 0} (r : Refusal) (moment : ℕ) (stamp : Stamp) → Refused r ≡ Snapped moment stamp → A
not_snapped r moment stamp e = cc

module _ (s : Store) (now : Stamp) (name : List ℕ) (meta : List MetaPair) (moment : ℕ) (stamp : Stamp) where
  snapped_by : (p : ℕ × Share) (o : Option Refusal) → share_at s name ≡ Ok p
      → (unless_refused s (snapshot_share s now meta p) o).1 ≡ Snapped moment stamp
      → IsSnapped s (unless_refused s (snapshot_share s now meta p) o).0 name meta now.changed moment
  snapped_by p None there gave = record {
    place = p;
    there = there;
    gave = moment_of (next_moment now.changed p.1.given) (share_stamp p.1) moment stamp gave;
    left = refl;
  }
  snapped_by p (Some r) there gave = not_snapped r moment stamp gave

  snapped_at : (r : Result (ℕ × Share) Refusal) → share_at s name ≡ r
      → (outcome s (at_place r (snapshot_share s now meta))).1 ≡ Snapped moment stamp
      → IsSnapped s (outcome s (at_place r (snapshot_share s now meta))).0 name meta now.changed moment
  snapped_at (Ok p) there gave = snapped_by p (first_check s (snapshot_share s now meta p).checks) there gave
  snapped_at (Err r) there gave = not_snapped r moment stamp gave

-- an unrefused Snapshot Share gives the share of its name a snapshot
pub step_snapped : (a : Account) (e : Entry) (name : List ℕ) (meta : List MetaPair) (moment : ℕ) (stamp : Stamp)
    → e.call ≡ SnapshotShare (record { share = name; meta = meta }) → (step a e).1 ≡ Snapped moment stamp
    → IsSnapped a.store (step a e).0.store name meta e.at moment
step_snapped a e name meta moment stamp is =
    subst (λ (c : Call). (outcome a.store (act_of a.store (stamp_in a e) e c)).1 ≡ Snapped moment stamp → IsSnapped a.store (outcome a.store (act_of a.store (stamp_in a e) e c)).0 name meta e.at moment) (sym is)
    (snapped_at a.store (stamp_in a e) name meta moment stamp (share_at a.store name) refl)

-- The snapshot is found.

new_last : (moment : ℕ) (xs : List Snapshot) (y : Snapshot) → All (λ x. x.moment < moment) xs → y.moment ≡ moment
    → find (is_of_moment moment) (xs ++ y ∷ []) ≡ Some y
new_last moment [] y below is =
    ap (λ b. cond b (Some y) (find (is_of_moment moment) [])) (nat_same y.moment moment is)
new_last moment (x ∷ xs) y below is =
    ap (λ b. cond b (Some x) (find (is_of_moment moment) (xs ++ y ∷ []))) (not_this x.moment moment (All-head (λ x. x.moment < moment) x xs below))
    ∙ new_last moment xs y (All-tail (λ x. x.moment < moment) x xs below) is
  where
    not_this : (a b : ℕ) → a < b → (a == b) ≡ false
    not_this a b less = search (rules, tests)

-- the share as it stands then
pub snapped_there : (a : Account) (t : Store) (name : List ℕ) (meta : List MetaPair) (at moment : ℕ) → IsWhole a
    → (h : IsSnapped a.store t name meta at moment)
    → value_at t.shares h.place.0 ≡ Some (with_snapshot moment meta h.place.1)
snapped_there a t name meta at moment w h =
    let p = h.place in
    let (y, there, how) =
    change_there p.0 (with_snapshot (next_moment at p.1.given) meta) a.store.shares p.0 p.1 (share_live a name p w h.there) in
    let is : y ≡ with_snapshot (next_moment at p.1.given) meta p.1 =
    ⊎_elim (λ (k : (p.0 ≢ p.0) × (y ≡ p.1)). absurd (k.0 refl))
    (λ (k : (p.0 ≡ p.0) × (y ≡ with_snapshot (next_moment at p.1.given) meta p.1)). k.1) how in
    subst (λ (u : Store). value_at u.shares p.0 ≡ Some (with_snapshot moment meta p.1)) (sym h.left)
    (there ∙ ap Some is ∙ ap (λ (m : ℕ). Some (with_snapshot m meta p.1)) (sym h.gave))

-- it has the name
pub snapped_named : (s t : Store) (name : List ℕ) (meta : List MetaPair) (at moment : ℕ)
    → (h : IsSnapped s t name meta at moment) → bytes_eq h.place.1.name name ≡ true
snapped_named s t name meta at moment h =
    found_passes (has_name name) s.shares h.place (ok_there (share_named s name) refusal.ShareAbsent h.place h.there)

-- and its new snapshot is the one of its moment
pub snapped_kept : (a : Account) (t : Store) (name : List ℕ) (meta : List MetaPair) (at moment : ℕ) → IsWhole a
    → (h : IsSnapped a.store t name meta at moment)
    → IsKept name moment h.place.0 (snapshot_of moment meta h.place.1) t.shares
snapped_kept a t name meta at moment w h =
    let x : Share = h.place.1 in
    let is : IsShare a.store.next_id a.came x =
    w.shares.each h.place.0 x (share_live a name h.place w h.there) in
    record {
      share = with_snapshot moment meta x;
      there = snapped_there a t name meta at moment w h;
      keeps = record {
        named = snapped_named a.store t name meta at moment h;
        found =
            new_last moment x.snapshots (snapshot_of moment meta x) (subst (λ (m : ℕ). All (λ s. s.moment < m) x.snapshots) (sym h.gave) (rising_new a.store.next_id at x x.snapshots is.some is.snapshots)) refl;
      };
    }
