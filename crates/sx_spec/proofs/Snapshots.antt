-- The law of snapshots: a call that reads a snapshot is answered as the share stood when the snapshot was made.
use Rattle.std.proofs.Common.{◌≡◌, ℕ, false, List, [], ◌∷◌, ◌++◌, refl, ◌∙◌}
use Rattle.std.specs.Prelude.{All}
use Rattle.std.proofs.lemmas.List.Elements.{All-head, All-tail}
use Rattle.sx_names.specs.declared.meta_pair.MetaPair.{MetaPair}
use Rattle.sx_call.specs.CallLimits.{IsWithinLimits}
use Rattle.sx_call.specs.declared.entries.Entry.{Entry}
use Rattle.sx_call.specs.declared.entries.Noted.{Noted}
use Rattle.sx_call.specs.declared.shown.Stamp.{Stamp}
use Rattle.sx_tree.specs.declared.share.Snapshot.{Snapshot}
use Rattle.sx_spec.specs.Account.{Account, empty}
use Rattle.sx_spec.specs.History.{IsHistoryFrom, moment_after}
use Rattle.sx_spec.specs.Shares.{snapshot_of}
use Rattle.sx_spec.specs.SnapshotLaw.{deletes_snapshot, with_given_meta, account_at_rest, plain_reply}
use Rattle.sx_spec.specs.SnapshotLaw.{ReadsMadeSnapshot, SnapshotLaw}
use Rattle.sx_spec.specs.Step.{after, replay, stamp_in, step}
use Rattle.sx_spec.specs.Whole.{IsWhole}
use Rattle.sx_spec.proofs.Histories.{replay_more}
use Rattle.sx_spec.proofs.SnapshotKept.{Stands}
use Rattle.sx_spec.proofs.SnapshotMade.{step_snapped, snapped_there, snapped_named, snapped_kept}
use Rattle.sx_spec.proofs.SnapshotPlain.{kept_there, plain_there}
use Rattle.sx_spec.proofs.SnapshotReads.{same_reply}
use Rattle.sx_spec.proofs.SnapshotSteps.{step_leaves}
use Rattle.sx_spec.proofs.WholeRows.{step_whole}
use Rattle.sx_spec.proofs.WholeShares.{is_rested}
use Rattle.sx_spec.proofs.WholeSteps.{whole_empty}

-- Histories in two parts.

after_both : (a : Account) (ns ms : List Noted) → after a (ns ++ ms) ≡ after (after a ns) ms
after_both a [] ms = refl
after_both a (n ∷ ns) ms = after_both (step a n.entry).0 ns ms

history_behind : (a : Account) (last limit : ℕ) (ns ms : List Noted) → IsHistoryFrom a last limit (ns ++ ms)
    → IsHistoryFrom (after a ns) (moment_after last ns) limit ms
history_behind a last limit [] ms h = h
history_behind a last limit (n ∷ ns) ms h = history_behind (step a n.entry).0 n.entry.at limit ns ms h.3

all_behind : (P : Noted → Type 0) (ns ms : List Noted) → All P (ns ++ ms) → All P ms
all_behind P [] ms h = h
all_behind P (n ∷ ns) ms h = all_behind P ns ms (All-tail P n (ns ++ ms) h)

-- A beginning leaves a whole account, and what is left of a history is one.
whole_after : (a : Account) (last limit : ℕ) (ns ms : List Noted) → IsWhole a → IsHistoryFrom a last limit (ns ++ ms)
    → All (λ n. IsWithinLimits n.entry.call) (ns ++ ms) → IsWhole (after a ns)
whole_after a last limit [] ms w h k = w
whole_after a last limit (n ∷ ns) ms w h k =
    whole_after (step a n.entry).0 n.entry.at limit ns ms (step_whole a last n.entry w h.0 (All-head (λ n. IsWithinLimits n.entry.call) n (ns ++ ms) k)) h.3 (All-tail (λ n. IsWithinLimits n.entry.call) n (ns ++ ms) k)

module _ (name : List ℕ) (moment number : ℕ) (kept : Snapshot) where
  -- an entry that deletes neither the snapshot nor its share, unless it is refused
  abbrev Spares : Noted → Type 0
  Spares n = n.refused ≡ false → deletes_snapshot name moment n.entry.call ≡ false

  -- the snapshot stands behind such entries
  stands_after : (a : Account) (last limit : ℕ) (ns : List Noted) → IsWhole a → Stands name moment number kept a.store
      → IsHistoryFrom a last limit ns → All (λ n. IsWithinLimits n.entry.call) ns → All Spares ns
      → IsWhole (after a ns) × Stands name moment number kept (after a ns).store
  stands_after a last limit [] w k h within spares = (w, k)
  stands_after a last limit (n ∷ ns) w k h within spares =
      stands_after (step a n.entry).0 n.entry.at limit ns (step_whole a last n.entry w h.0 (All-head (λ n. IsWithinLimits n.entry.call) n ns within))
      (step_leaves name moment number kept a w k n.entry (λ fine. All-head Spares n ns spares (h.1 ∙ fine))) h.3
      (All-tail (λ n. IsWithinLimits n.entry.call) n ns within) (All-tail Spares n ns spares)

-- The law.

read_so : (limit : ℕ) (before : List Noted) (made : Noted) (since : List Noted) (e : Entry) (name : List ℕ) (meta : List MetaPair) (moment : ℕ) (stamp : Stamp) → ReadsMadeSnapshot limit before made since e name meta moment stamp
    → (step (after (step (replay before) made.entry).0 since) e).1 ≡ plain_reply (with_given_meta name meta (step (replay before) made.entry).0) e
read_so limit before made since e name meta moment stamp k =
    let a : Account = replay before in
    let b : Account = (step a made.entry).0 in
    let whole : IsWhole a =
    whole_after empty 0 limit before (made ∷ since) whole_empty k.legal k.limits in
    let history = history_behind empty 0 limit before (made ∷ since) k.legal in
    let within =
    all_behind (λ n. IsWithinLimits n.entry.call) before (made ∷ since) k.limits in
    let after_made : IsWhole b =
    step_whole a (moment_after 0 before) made.entry whole history.0 (All-head (λ n. IsWithinLimits n.entry.call) made since within) in
    let h = step_snapped a made.entry name meta moment stamp k.call k.gave in
    let kept : Snapshot = snapshot_of moment meta h.place.1 in
    let (last, stands) =
    stands_after name moment h.place.0 kept b made.entry.at limit since after_made (snapped_kept a b.store name meta made.entry.at moment whole h) history.3 (All-tail (λ n. IsWithinLimits n.entry.call) made since within) k.kept in
    let rest : Account = account_at_rest (with_given_meta name meta b) in
    same_reply (after b since).store rest.store h.place.0 kept (is_rested h.place.1.tree) name moment (kept_there (after b since) name moment h.place.0 kept last stands)
    (plain_there b name meta moment h.place.0 h.place.1 after_made (snapped_there a b.store name meta made.entry.at moment whole h) (snapped_named a.store b.store name meta made.entry.at moment h))
    (stamp_in (after b since) e) (stamp_in rest e) e e.call k.reads

-- THE LAW OF SNAPSHOTS
pub snapshots_read : SnapshotLaw
snapshots_read limit before made since e name meta moment stamp k =
    rw (after_both empty before (made ∷ since), replay_more before made) (read_so limit before made since e name meta moment stamp k)
