-- The session's door: its answers print every refusal that the places and checks of its calls have.
use Rattle.std.specs.Prelude.{◌≡◌, ℕ, ◌&&◌, Bool, true, not, nat_le, length, List, Option, None, ok_or}
use Rattle.std.specs.List.{list_any}
use Rattle.std.proofs.Common.{refl}
use Rattle.sx_base.specs.Entries.{value_at}
use Rattle.sx_guard.specs.declared.access.Access.{Access}
use Rattle.sx_guard.specs.declared.access.Mode.{Mode}
use Rattle.sx_guard.specs.Handle.{Handle}
use Rattle.sx_call.specs.declared.calls.Call.{Call}
use Rattle.sx_call.specs.declared.opens.How.{How}
use Rattle.sx_call.specs.declared.opens.How.TheVariants.{Existing, Create, Either}
use Rattle.sx_call.specs.declared.opens.Open.{Open}
use Rattle.sx_call.specs.declared.refusals.Refusal.TheVariants as refusal
use Rattle.sx_call.specs.declared.replies.Reply.TheVariants.{Refused}
use Rattle.sx_call.specs.declared.shown.Stamp.{Stamp}
use Rattle.sx_tree.specs.declared.node.Node.{Node}
use Rattle.sx_tree.specs.Tree.{Nodes, node_at}
use Rattle.sx_reply.specs.Refusals.{row_of}
use Rattle.sx_spec.specs.declared.checks.Limit.TheVariants.{TooManyOpens}
use Rattle.sx_spec.specs.Account.{Store, open_of, opens_on}
use Rattle.sx_spec.specs.Checks.{unchecked, is_leased, may_change, same_lock, first_check, held_checks}
use Rattle.sx_spec.specs.Places.{Volume, HandlePlace, HeldFile, Spot, Taken, Free, volume_at, spot_at, may_make}
use Rattle.sx_spec.specs.Places.{node_in, free_in, file_body, of_kind, not_pending, has_rights, with_access, handle_place}
use Rattle.sx_spec.specs.Places.{held_file, held_directory}
use Rattle.sx_spec.specs.SessionCalls.{spot_for, lease_of, most_opens, open_checks, open_spot, smb_open, smb_lock}
use Rattle.sx_spec.specs.SessionCalls.{smb_unlock, smb_dispose, lock_of}
use Rattle.sx_answers.specs.SessionReply.{is_session_reply}
use Rattle.sx_answers.proofs.Places.{IsFound, PrintsCommon, found_then, found_or, found_unless, live_found, spot_found}
use Rattle.sx_answers.proofs.Places.{make_found, node_in_found, free_found, body_found, kind_found, standing_found}
use Rattle.sx_answers.proofs.Checks.{IsTold, told_if, limit_told, unchecked_told, checks_told}
use Rattle.sx_answers.proofs.Acts.{IsAnswered, Answers, answers_then}

-- The table.

session_prints : PrintsCommon is_session_reply
unfolding row_of
session_prints = record {
  no_share = refl;
  no_parent = λ parts. refl;
  no_name = refl;
  there = λ id. refl;
  directory = λ id. refl;
  file = λ id. refl;
  pending = λ id. refl;
  read_only = λ id. refl;
  leased = refl;
  shared = λ handle. refl;
  locked = λ held. refl;
  quota = λ used more limit. refl;
}

not_locked : is_session_reply (Refused refusal.NotLocked) ≡ true
unfolding row_of
not_locked = refl

opens_full : (n : ℕ) → is_session_reply (Refused (refusal.OpensFull n)) ≡ true
unfolding row_of
opens_full n = refl

no_handle : (handle : Handle) → is_session_reply (Refused (refusal.NoHandle handle)) ≡ true
unfolding row_of
no_handle handle = refl

lacks_access : (handle : Handle) → is_session_reply (Refused (refusal.LacksAccess handle)) ≡ true
unfolding row_of
lacks_access handle = refl

-- Places.

handle_or : {A : Type 0} (o : Option A) (handle : Handle) → IsFound is_session_reply (ok_or o (refusal.NoHandle handle))
handle_or o handle = found_or is_session_reply o (refusal.NoHandle handle) (no_handle handle)

access_told : (needed : Access) (o : Open) → IsFound is_session_reply (with_access needed o)
access_told needed o =
    found_unless is_session_reply (has_rights needed o.access) (refusal.LacksAccess o.handle) o (lacks_access o.handle)

pub handle_told : (s : Store) (handle : Handle) (needed : Access) → IsFound is_session_reply (handle_place s handle needed)
unfolding handle_place
handle_told s handle needed =
    found_then is_session_reply (ok_or (open_of s handle) (refusal.NoHandle handle)) _ (handle_or (open_of s handle) handle) (λ o.
    found_then is_session_reply (ok_or (value_at s.shares o.share) (refusal.NoHandle handle)) _ (handle_or (value_at s.shares o.share) handle) (λ share.
    found_then is_session_reply (ok_or (node_at share.tree o.node) (refusal.NoHandle handle)) _ (handle_or (node_at share.tree o.node) handle) (λ node.
    found_then is_session_reply (with_access needed o) _ (access_told needed o) (λ held. tt))))

pub held_file_told : (s : Store) (handle : Handle) (needed : Access) → IsFound is_session_reply (held_file s handle needed)
unfolding held_file
held_file_told s handle needed =
    found_then is_session_reply (handle_place s handle needed) _ (handle_told s handle needed) (λ p.
    found_then is_session_reply (file_body p.node) _ (body_found session_prints p.node) (λ body. tt))

pub held_directory_told : (s : Store) (handle : Handle) (needed : Access)
    → IsFound is_session_reply (held_directory s handle needed)
unfolding held_directory
held_directory_told s handle needed =
    found_then is_session_reply (handle_place s handle needed) _ (handle_told s handle needed) (λ p.
    found_then is_session_reply (of_kind true p.node) _ (kind_found session_prints true p.node) (λ directory. tt))

wanted_told : (how : How) (t : Nodes) (spot : Spot) → IsFound is_session_reply (spot_for how t spot)
wanted_told Existing t spot =
    found_then is_session_reply (node_in spot) _ (node_in_found session_prints spot) (λ node. tt)
wanted_told Create t spot =
    found_then is_session_reply (may_make t spot) _ (make_found session_prints t spot) (λ makes.
    found_then is_session_reply (free_in makes) _ (free_found session_prints makes) (λ free. tt))
wanted_told Either t spot = make_found session_prints t spot

-- Acts.

pub session_unchecked : (s : Store) → IsTold is_session_reply (first_check s unchecked)
session_unchecked s = unchecked_told is_session_reply s

pub held_checks_told : (s : Store) (call : Call) (p : HeldFile)
    → IsTold is_session_reply (first_check s (held_checks call p))
unfolding held_checks
held_checks_told s call p = checks_told session_prints s (held_checks call p) tt tt tt tt tt

pub lock_answered : (s : Store) (from end : ℕ) (exclusive : Bool) (p : HeldFile)
    → IsAnswered is_session_reply s (smb_lock s from end exclusive p)
lock_answered s from end exclusive p =
    (checks_told session_prints s (smb_lock s from end exclusive p).checks tt tt tt tt tt, refl)

pub unlock_answered : (s : Store) (from end : ℕ) (exclusive : Bool) (p : HeldFile)
    → IsAnswered is_session_reply s (smb_unlock s from end exclusive p)
unlock_answered s from end exclusive p =
    (checks_told session_prints s (smb_unlock s from end exclusive p).checks tt tt (told_if is_session_reply (not (list_any (same_lock (lock_of p from end exclusive)) s.locks)) refusal.NotLocked not_locked) tt tt, refl)

pub dispose_answered : (s : Store) (call : Call) (on : Bool) (p : HandlePlace)
    → IsAnswered is_session_reply s (smb_dispose s call on p)
dispose_answered s call on p =
    (checks_told session_prints s (smb_dispose s call on p).checks tt tt tt tt tt, refl)

open_checks_told : (s : Store) (call : Call) (node : Node) (access : Access) (mode : Mode)
    → IsTold is_session_reply (first_check s (open_checks s call node access mode))
open_checks_told s call node access mode =
    checks_told session_prints s (open_checks s call node access mode) tt (told_if is_session_reply (is_leased (lease_of node) && may_change access) refusal.LeaseHeld session_prints.leased) tt tt (limit_told is_session_reply (nat_le most_opens (length (opens_on s node.id))) (TooManyOpens (length (opens_on s node.id))) (opens_full (length (opens_on s node.id))))

spot_opened : (s : Store) (now : Stamp) (session : ℕ) (call : Call) (access : Access) (mode : Mode) (dir on_close : Bool) (volume : Volume) (spot : Spot)
    → Answers is_session_reply s (open_spot s now session call access mode dir on_close volume spot)
spot_opened s now session call access mode dir on_close volume (Taken node) =
    answers_then is_session_reply s (of_kind dir node) _ (kind_found session_prints dir node) (λ kind.
    answers_then is_session_reply s (not_pending None node) _ (standing_found session_prints None node) (λ standing.
    (open_checks_told s call node access mode, refl)))
spot_opened s now session call access mode dir on_close volume (Free parent name) = (session_unchecked s, refl)

pub open_answered : (s : Store) (now : Stamp) (session : ℕ) (call : Call) (share : List ℕ) (path : List (List ℕ)) (access : Access) (mode : Mode) (how : How) (dir on_close : Bool)
    → Answers is_session_reply s (smb_open s now session call share path access mode how dir on_close)
open_answered s now session call share path access mode how dir on_close =
    answers_then is_session_reply s (volume_at s share None) _ (live_found session_prints s share) (λ volume.
    answers_then is_session_reply s (spot_at volume.tree path) _ (spot_found session_prints volume.tree path) (λ spot.
    answers_then is_session_reply s (spot_for how volume.tree spot) _ (wanted_told how volume.tree spot) (λ wanted.
    spot_opened s now session call access mode dir on_close volume wanted)))
