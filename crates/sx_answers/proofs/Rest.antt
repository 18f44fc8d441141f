-- The REST door: its answers print every refusal that its places and checks have.
use Rattle.std.specs.Prelude.{◌≡◌, ℕ, ◌&&◌, ◌+◌, Bool, true, false, not, nat_lt, nat_le, length, List, Option, Some}
use Rattle.std.specs.Prelude.{None, option_map, find}
use Rattle.std.proofs.Common.{refl}
use Rattle.std.specs.List.{list_any}
use Rattle.sx_lease.specs.Lease.{check_lease}
use Rattle.sx_lease.specs.declared.lease.LeaseCheck.{LeaseCheck}
use Rattle.sx_lease.specs.declared.lease.LeaseCheck.TheVariants as outcome
use Rattle.sx_lease.specs.declared.lease.LeaseSay.{LeaseSay}
use Rattle.sx_lease.specs.declared.lease.LeaseSay.TheVariants as answer
use Rattle.sx_lease.specs.declared.lease.LeaseState.{LeaseState}
use Rattle.sx_names.specs.declared.attributes.Attributes.{Attributes}
use Rattle.sx_names.specs.declared.meta_pair.MetaPair.{MetaPair}
use Rattle.sx_call.specs.declared.calls.Call.{Call}
use Rattle.sx_call.specs.declared.leases.LeaseAction.{LeaseAction}
use Rattle.sx_call.specs.declared.leases.LeaseAction.TheVariants.{Acquire, Change, Release, Break}
use Rattle.sx_call.specs.declared.refusals.Refusal.TheVariants as refusal
use Rattle.sx_call.specs.declared.replies.Reply.TheVariants.{Refused}
use Rattle.sx_call.specs.declared.shown.Stamp.{Stamp}
use Rattle.sx_call.specs.declared.targets.Target.{Target}
use Rattle.sx_tree.specs.declared.node.FileBody.{FileBody}
use Rattle.sx_tree.specs.declared.share.Share.{Share}
use Rattle.sx_tree.specs.Tree.{is_empty}
use Rattle.sx_reply.specs.PrintedReply.{is_reply_printed}
use Rattle.sx_reply.specs.Refusals.{row_of}
use Rattle.sx_spec.specs.declared.checks.Asks.{Asks}
use Rattle.sx_spec.specs.declared.checks.LeaseAsk.TheVariants.{Passes}
use Rattle.sx_spec.specs.declared.checks.Limit.TheVariants.{TooManySnapshots, StandingSnapshots}
use Rattle.sx_spec.specs.Account.{Store, has_name}
use Rattle.sx_spec.specs.Facts.{stamp_of}
use Rattle.sx_spec.specs.Checks.{refusal_of_check, refusal_of_answer, lease_refusal, missing_lock, unless_snapshot}
use Rattle.sx_spec.specs.Checks.{asks_nothing, unchecked, share_asks, file_checks, rest_asks, range_check, first_check}
use Rattle.sx_spec.specs.Checks.{refuse_if}
use Rattle.sx_spec.specs.FileCalls.{create_directory, create_file, create_file_in, delete_directory, lease_file}
use Rattle.sx_spec.specs.Needs.{lease_given, writes_under_lease}
use Rattle.sx_spec.specs.Places.{Volume, NodePlace, FilePlace, Spot, Taken, Free, kept_volume}
use Rattle.sx_spec.specs.Places.{share_at, vacancy, volume_in, volume_at, node_place, directory_place, file_at, file_place}
use Rattle.sx_spec.specs.Places.{spot_at, may_make, node_in, free_in, of_kind, not_pending, file_body, making_place}
use Rattle.sx_spec.specs.ShareCalls.{lease_reply, lease_after, delete_share, snapshot_share, lease_share, most_snapshots}
use Rattle.sx_spec.specs.Shares.{is_of_moment}
use Rattle.sx_answers.proofs.Places.{IsFound, PrintsCommon, found_then, found_or, found_if, share_found}
use Rattle.sx_answers.proofs.Places.{spot_found, make_found, node_in_found, free_found, body_found, kind_found}
use Rattle.sx_answers.proofs.Places.{standing_found}
use Rattle.sx_answers.proofs.Checks.{IsTold, told_by, limit_told, unchecked_told, checks_told}
use Rattle.sx_answers.proofs.Acts.{IsAnswered, Answers, answers_then}

-- The table.

rest_prints : PrintsCommon is_reply_printed
unfolding row_of
rest_prints = record {
  no_share = refl;
  no_parent = λ parts. refl;
  no_name = refl;
  there = λ id. refl;
  directory = λ id. refl;
  file = λ id. refl;
  pending = λ id. refl;
  read_only = λ id. refl;
  leased = refl;
  shared = λ handle. refl;
  locked = λ held. refl;
  quota = λ used more limit. refl;
}

share_there : is_reply_printed (Refused refusal.ShareThere) ≡ true
unfolding row_of
share_there = refl

no_snapshot : (moment : ℕ) → is_reply_printed (Refused (refusal.SnapshotAbsent moment)) ≡ true
unfolding row_of
no_snapshot moment = refl

not_empty : (id : ℕ) → is_reply_printed (Refused (refusal.NotEmpty id)) ≡ true
unfolding row_of
not_empty id = refl

out_of_file : (size : ℕ) → is_reply_printed (Refused (refusal.OutOfFile size)) ≡ true
unfolding row_of
out_of_file size = refl

snapshots_full : (n : ℕ) → is_reply_printed (Refused (refusal.SnapshotsFull n)) ≡ true
unfolding row_of
snapshots_full n = refl

snapshots_stand : (n : ℕ) → is_reply_printed (Refused (refusal.SnapshotsStand n)) ≡ true
unfolding row_of
snapshots_stand n = refl

check_told : (share : Bool) (check : LeaseCheck) → IsTold is_reply_printed (refusal_of_check share check)
unfolding row_of
check_told share outcome.Pass = tt
check_told share outcome.Held = refl
check_told true outcome.Other = refl
check_told false outcome.Other = refl
check_told true outcome.NoLease = refl
check_told false outcome.NoLease = refl

say_told : (say : LeaseSay) → IsTold is_reply_printed (refusal_of_answer say)
unfolding row_of
say_told answer.Granted = tt
say_told answer.Taken = refl
say_told answer.IdWrong = refl
say_told answer.NotThere = refl

-- Places.

pub vacancy_told : (s : Store) (name : List ℕ) → IsFound is_reply_printed (vacancy s name)
vacancy_told s name =
    found_if is_reply_printed (list_any (has_name name) s.shares) refusal.ShareThere (s.made + 1) share_there

pub share_told : (s : Store) (name : List ℕ) → IsFound is_reply_printed (share_at s name)
share_told s name = share_found rest_prints s name

volume_in_told : (x : ℕ × Share) (snap : Option ℕ) → IsFound is_reply_printed (volume_in x snap)
volume_in_told x None = tt
volume_in_told x (Some moment) =
    found_or is_reply_printed (option_map (kept_volume x.0) (find (is_of_moment moment) x.1.snapshots)) (refusal.SnapshotAbsent moment) (no_snapshot moment)

pub volume_told : (s : Store) (name : List ℕ) (snap : Option ℕ) → IsFound is_reply_printed (volume_at s name snap)
volume_told s name snap =
    found_then is_reply_printed (share_at s name) (λ x. volume_in x snap) (share_told s name) (λ x. volume_in_told x snap)

pub node_told : (s : Store) (at : Target) (snap : Option ℕ) → IsFound is_reply_printed (node_place s at snap)
unfolding node_place
node_told s at snap =
    found_then is_reply_printed (volume_at s at.share snap) _ (volume_told s at.share snap) (λ volume.
    found_then is_reply_printed (spot_at volume.tree at.path) _ (spot_found rest_prints volume.tree at.path) (λ spot.
    found_then is_reply_printed (node_in spot) _ (node_in_found rest_prints spot) (λ node. tt)))

pub directory_told : (s : Store) (at : Target) (snap : Option ℕ) → IsFound is_reply_printed (directory_place s at snap)
unfolding directory_place
directory_told s at snap = found_then is_reply_printed (node_place s at snap) _ (node_told s at snap) (λ p.
    found_then is_reply_printed (of_kind true p.node) _ (kind_found rest_prints true p.node) (λ directory.
    found_then is_reply_printed (not_pending snap directory) _ (standing_found rest_prints snap directory) (λ standing. tt)))

file_at_told : (snap : Option ℕ) (p : NodePlace) → IsFound is_reply_printed (file_at snap p)
file_at_told snap p = found_then is_reply_printed (file_body p.node) _ (body_found rest_prints p.node) (λ body.
    found_then is_reply_printed (not_pending snap p.node) _ (standing_found rest_prints snap p.node) (λ standing. tt))

pub file_told : (s : Store) (at : Target) (snap : Option ℕ) → IsFound is_reply_printed (file_place s at snap)
unfolding file_place
file_told s at snap =
    found_then is_reply_printed (node_place s at snap) _ (node_told s at snap) (λ p. file_at_told snap p)

making_told : (s : Store) (at : Target) → IsFound is_reply_printed (making_place s at)
unfolding making_place
making_told s at =
    found_then is_reply_printed (volume_at s at.share None) _ (volume_told s at.share None) (λ volume.
    found_then is_reply_printed (spot_at volume.tree at.path) _ (spot_found rest_prints volume.tree at.path) (λ spot.
    found_then is_reply_printed (may_make volume.tree spot) _ (make_found rest_prints volume.tree spot) (λ makes. tt)))

-- Checks.

-- who reads a snapshot asks nothing
asks_told : (s : Store) (snap : Option ℕ) (asks : Asks) → IsTold is_reply_printed (lease_refusal asks.lease)
    → IsTold is_reply_printed (missing_lock s asks.locks)
    → IsTold is_reply_printed (lease_refusal (unless_snapshot snap asks).lease)
    × IsTold is_reply_printed (missing_lock s (unless_snapshot snap asks).locks)
asks_told s None asks lease missing = (lease, missing)
asks_told s (Some moment) asks lease missing = (tt, tt)

pub share_checks_told : (s : Store) (call : Call) (p : Volume)
    → IsTold is_reply_printed (first_check s (record unchecked { asks = share_asks call p }))
share_checks_told s call p =
    let (lease, missing) =
    asks_told s p.snap (record asks_nothing { lease = Passes true p.lease (lease_given call) (writes_under_lease call) }) (check_told true (check_lease p.lease (lease_given call) (writes_under_lease call))) tt in
    checks_told rest_prints s (record unchecked { asks = share_asks call p }) tt lease missing tt tt

pub file_checks_told : (s : Store) (call : Call) (p : FilePlace)
    → IsTold is_reply_printed (first_check s (file_checks call p))
unfolding file_checks
file_checks_told s call p =
    let (lease, missing) =
    asks_told s p.volume.snap (rest_asks call p) (check_told false (check_lease p.node.facts.lease (lease_given call) (writes_under_lease call))) tt in
    checks_told rest_prints s (file_checks call p) tt lease missing (told_by is_reply_printed refusal.OutOfFile (range_check call p.body) out_of_file) tt

-- Acts.

pub rest_unchecked : (s : Store) → IsTold is_reply_printed (first_check s unchecked)
rest_unchecked s = unchecked_told is_reply_printed s

pub share_deleted : (s : Store) (call : Call) (include : Bool) (p : ℕ × Share)
    → IsAnswered is_reply_printed s (delete_share s call include p)
share_deleted s call include p =
    (checks_told rest_prints s (delete_share s call include p).checks tt (check_told true (check_lease p.1.lease (lease_given call) (writes_under_lease call))) tt tt (limit_told is_reply_printed (nat_lt 0 (length p.1.snapshots) && not include) (StandingSnapshots (length p.1.snapshots)) (snapshots_stand (length p.1.snapshots))), refl)

pub snapshot_made : (s : Store) (now : Stamp) (meta : List MetaPair) (p : ℕ × Share)
    → IsAnswered is_reply_printed s (snapshot_share s now meta p)
snapshot_made s now meta p =
    (checks_told rest_prints s (snapshot_share s now meta p).checks tt tt tt tt (limit_told is_reply_printed (nat_le most_snapshots (length p.1.snapshots)) (TooManySnapshots (length p.1.snapshots)) (snapshots_full (length p.1.snapshots))), refl)

lease_printed : (action : LeaseAction) (stamp : Stamp) (state : LeaseState)
    → is_reply_printed (lease_reply action stamp state) ≡ true
lease_printed (Acquire proposed) stamp state = refl
lease_printed (Change id to) stamp state = refl
lease_printed (Release id) stamp state = refl
lease_printed Break stamp state = refl

pub share_leased : (s : Store) (action : LeaseAction) (fresh : ℕ) (p : Volume)
    → IsAnswered is_reply_printed s (lease_share s action fresh p)
share_leased s action fresh p =
    (checks_told rest_prints s (lease_share s action fresh p).checks tt (say_told (lease_after action fresh p.lease).1) tt tt tt, lease_printed action p.stamp (lease_after action fresh p.lease).0)

pub file_leased : (s : Store) (action : LeaseAction) (fresh : ℕ) (p : FilePlace)
    → IsAnswered is_reply_printed s (lease_file s action fresh p)
file_leased s action fresh p =
    (checks_told rest_prints s (lease_file s action fresh p).checks tt (say_told (lease_after action fresh p.node.facts.lease).1) tt tt tt, lease_printed action (stamp_of p.node) (lease_after action fresh p.node.facts.lease).0)

pub directory_deleted : (s : Store) (call : Call) (p : NodePlace)
    → IsAnswered is_reply_printed s (delete_directory s call p)
directory_deleted s call p =
    (checks_told rest_prints s (delete_directory s call p).checks (told_by is_reply_printed refusal.NotEmpty (refuse_if (not (is_empty p.volume.tree p.node.id)) p.node.id) not_empty) tt tt tt tt, refl)

pub directory_made : (s : Store) (now : Stamp) (at : Target) (attributes : Attributes) (created written : Option ℕ) (meta : List MetaPair)
    → Answers is_reply_printed s (create_directory s now at attributes created written meta)
directory_made s now at attributes created written meta =
    answers_then is_reply_printed s (making_place s at) _ (making_told s at) (λ place.
    answers_then is_reply_printed s (free_in place.1) _ (free_found rest_prints place.1) (λ free. (rest_unchecked s, refl)))

file_made_in : (s : Store) (now : Stamp) (call : Call) (body : FileBody) (attributes : Attributes) (created written : Option ℕ) (meta : List MetaPair) (place : Volume × Spot)
    → Answers is_reply_printed s (create_file_in s now call body attributes created written meta place)
file_made_in s now call body attributes created written meta (volume, Free parent name) = (rest_unchecked s, refl)
file_made_in s now call body attributes created written meta (volume, Taken node) =
    answers_then is_reply_printed s (file_at None (record { volume = volume; node = node })) _ (file_at_told None (record { volume = volume; node = node })) (λ p. (file_checks_told s call p, refl))

pub file_made : (s : Store) (now : Stamp) (call : Call) (at : Target) (body : FileBody) (attributes : Attributes) (created written : Option ℕ) (meta : List MetaPair)
    → Answers is_reply_printed s (create_file s now call at body attributes created written meta)
file_made s now call at body attributes created written meta =
    answers_then is_reply_printed s (making_place s at) _ (making_told s at) (λ place.
    file_made_in s now call body attributes created written meta place)
