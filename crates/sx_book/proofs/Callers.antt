-- Whose a session is after a step: as before, but where it is started or ended.
use Rattle.std.specs.Prelude.{◌≡◌, ◌≢◌, ℕ, ◌+◌, ◌==◌, Bool, true, false, cond, not, List, [], ◌∷◌, ◌++◌, filter, find}
use Rattle.std.specs.Prelude.{Option, Some, None, Result, Ok, Err}
use Rattle.std.proofs.Common.{refl, sym, ap, ◌∙◌, arith, true≢false}
use Rattle.std.proofs.lemmas.Bool.Decides.{nat_tests}
use Rattle.sx_base.specs.Entries.{change}
use Rattle.sx_guard.specs.declared.access.Access.{Access}
use Rattle.sx_guard.specs.Handle.{Handle}
use Rattle.sx_guard.specs.declared.access.Mode.{Mode}
use Rattle.sx_names.specs.declared.attributes.Attributes.{Attributes}
use Rattle.sx_names.specs.declared.meta_pair.MetaPair.{MetaPair}
use Rattle.sx_call.specs.Calls.{door_of}
use Rattle.sx_call.specs.declared.doors.Door.{Door}
use Rattle.sx_call.specs.declared.doors.Door.TheVariants.{Rest, Starts, Ends, InSession}
use Rattle.sx_call.specs.declared.calls.Call.{Call}
use Rattle.sx_call.specs.declared.calls.Call.TheVariants.{ListShares, CreateShare, GetShareProperties}
use Rattle.sx_call.specs.declared.calls.Call.TheVariants.{SetShareProperties, GetShareMetadata, SetShareMetadata}
use Rattle.sx_call.specs.declared.calls.Call.TheVariants.{DeleteShare, DeleteSnapshot, SnapshotShare, LeaseShare}
use Rattle.sx_call.specs.declared.calls.Call.TheVariants.{CreateDirectory, GetDirectoryProperties, GetDirectoryMetadata}
use Rattle.sx_call.specs.declared.calls.Call.TheVariants.{SetDirectoryMetadata, DeleteDirectory, ListDirectory}
use Rattle.sx_call.specs.declared.calls.Call.TheVariants.{CreateFile, GetFile, GetFileProperties, SetFileProperties}
use Rattle.sx_call.specs.declared.calls.Call.TheVariants.{GetFileMetadata, SetFileMetadata, UpdateRange, ClearRange}
use Rattle.sx_call.specs.declared.calls.Call.TheVariants.{ListRanges, DeleteFile, LeaseFile, ListHandles}
use Rattle.sx_call.specs.declared.calls.Call.TheVariants.{ForceCloseHandles, Start, End, SmbOpen, SmbClose, SmbRead}
use Rattle.sx_call.specs.declared.calls.Call.TheVariants.{SmbWrite, SmbResize, SmbLock, SmbUnlock, SmbStat, SmbList}
use Rattle.sx_call.specs.declared.calls.Call.TheVariants.{SmbDispose}
use Rattle.sx_call.specs.declared.entries.Entry.{Entry}
use Rattle.sx_call.specs.declared.opens.How.{How}
use Rattle.sx_call.specs.declared.targets.Target.{Target}
use Rattle.sx_call.specs.declared.opens.Live.{Live}
use Rattle.sx_call.specs.declared.opens.Lock.{Lock}
use Rattle.sx_call.specs.declared.opens.Open.{Open}
use Rattle.sx_call.specs.declared.refusals.Refusal.{Refusal}
use Rattle.sx_call.specs.declared.shown.Stamp.{Stamp}
use Rattle.sx_tree.specs.declared.node.Facts.{Facts}
use Rattle.sx_tree.specs.declared.node.FileBody.{FileBody}
use Rattle.sx_tree.specs.declared.node.Node.{Node}
use Rattle.sx_tree.specs.declared.share.Share.{Share}
use Rattle.sx_spec.specs.Facts.{new_file}
use Rattle.sx_spec.specs.Account.{Store, Account, is_session, session_of, is_held_by}
use Rattle.sx_spec.specs.Needs.{access_needed}
use Rattle.sx_spec.specs.Places.{◌>>=◌, Volume, Spot, Taken, Free, share_at, vacancy, volume_at, node_place}
use Rattle.sx_spec.specs.Places.{directory_place, file_place, handle_place, held_file, held_directory, making_place}
use Rattle.sx_spec.specs.Places.{free_in, file_at, of_kind, not_pending, spot_at}
use Rattle.sx_spec.specs.Checks.{unchecked, first_check}
use Rattle.sx_spec.specs.Changes.{Act, grant, add_share, drop_share, make_node, put_facts, put_file, delete_at}
use Rattle.sx_spec.specs.Changes.{put_open, put_lock, take_lock, change_open, take_open, close, close_all, put_session}
use Rattle.sx_spec.specs.Changes.{take_session}
use Rattle.sx_spec.specs.History.{is_of_caller}
use Rattle.sx_spec.proofs.Views.{all_sessions, stays, stays_by, stays_in}
use Rattle.sx_spec.specs.ShareCalls.{create_share, get_share_properties, get_share_metadata, set_share_properties}
use Rattle.sx_spec.specs.ShareCalls.{set_share_metadata, delete_share, delete_snapshot, snapshot_share, lease_share}
use Rattle.sx_spec.specs.FileCalls.{create_directory, create_file, create_file_in, get_directory_properties}
use Rattle.sx_spec.specs.FileCalls.{get_directory_metadata, set_directory_metadata, delete_directory, list_directory}
use Rattle.sx_spec.specs.FileCalls.{get_file, get_file_properties, get_file_metadata, set_file_properties}
use Rattle.sx_spec.specs.FileCalls.{set_file_metadata, update_range, clear_range, list_ranges, delete_file, lease_file}
use Rattle.sx_spec.specs.FileCalls.{list_handles, force_close_handles}
use Rattle.sx_spec.specs.SessionCalls.{start, end_session, smb_open, open_spot, spot_for, smb_close, smb_read}
use Rattle.sx_spec.specs.SessionCalls.{smb_write, smb_resize, smb_lock, smb_unlock, smb_stat, smb_list, smb_dispose}
use Rattle.sx_spec.specs.Step.{at_place, handle_in, act_of, stamp_in, outcome, unless_refused, step}

-- In lists of sessions.

granted_caller : (who s : ℕ) (p : Live → Bool) (ls : List Live)
    → is_of_caller who (find (is_session s) (change p grant ls)) ≡ is_of_caller who (find (is_session s) ls)
granted_caller who s p [] = refl
granted_caller who s p (l ∷ ls) =
    elim (p l) as (λ b. is_of_caller who (find (is_session s) (cond b (grant l ∷ ls) (l ∷ change p grant ls))) ≡ is_of_caller who (find (is_session s) (l ∷ ls))) [
      | true ↦ elim (l.session == s) as (λ d. is_of_caller who (cond d (Some (grant l)) (find (is_session s) ls)) ≡ is_of_caller who (cond d (Some l) (find (is_session s) ls))) [ true ↦ refl | false ↦ refl ]
      | false ↦ elim (l.session == s) as (λ d. is_of_caller who (cond d (Some l) (find (is_session s) (change p grant ls))) ≡ is_of_caller who (cond d (Some l) (find (is_session s) ls))) [
        | true ↦ refl
        | false ↦ granted_caller who s p ls
      ]
    ]

-- a session that is found is found among more
found_among : (who q : ℕ) (ls ms : List Live) → is_of_caller who (find (is_session q) ls) ≡ true
    → is_of_caller who (find (is_session q) (ls ++ ms)) ≡ true
found_among who q [] ms h = cc
found_among who q (l ∷ ls) ms h =
    elim (l.session == q) as (λ b. is_of_caller who (cond b (Some l) (find (is_session q) ls)) ≡ true → is_of_caller who (cond b (Some l) (find (is_session q) (ls ++ ms))) ≡ true) [
      | true ↦ λ g. g
      | false ↦ λ g. found_among who q ls ms g
    ] h

-- a session is found where another is dropped
found_without : (who q s : ℕ) (ls : List Live) → s ≢ q
    → is_of_caller who (find (is_session q) (filter (λ l. not (is_session s l)) ls)) ≡ is_of_caller who (find (is_session q) ls)
found_without who q s [] ne = refl
found_without who q s (l ∷ ls) ne =
    elim (l.session == s) as (λ b. (l.session == s) ≡ b → is_of_caller who (find (is_session q) (cond (not b) (l ∷ filter (λ l. not (is_session s l)) ls) (filter (λ l. not (is_session s l)) ls))) ≡ is_of_caller who (find (is_session q) (l ∷ ls))) [
      | true ↦ λ e. let other : (l.session == q) ≡ false = grind (arith, nat_tests) in rw other (found_without who q s ls ne)
      | false ↦ λ e. elim (l.session == q) as (λ d. is_of_caller who (cond d (Some l) (find (is_session q) (filter (λ l. not (is_session s l)) ls))) ≡ is_of_caller who (cond d (Some l) (find (is_session q) ls))) [
        | true ↦ refl
        | false ↦ found_without who q s ls ne
      ]
    ] refl

-- In stores.

module _ (who q : ℕ) where
  abbrev caller : Store → Bool
  caller s = is_of_caller who (session_of s q)

  abbrev view : List Live → Bool
  view ls = is_of_caller who (find (is_session q) ls)

  abbrev granted : (p : Live → Bool) (ls : List Live) → view (change p grant ls) ≡ view ls
  granted p ls = granted_caller who q p ls

  lives_by : (s : Store) (act : Act) (o : Option Refusal) → caller act.store ≡ true → caller s ≡ true
      → caller (unless_refused s act o).0 ≡ true
  lives_by s act None new live = new
  lives_by s act (Some r) new live = live

  started_lives : (s : Store) (w peer : ℕ) → caller s ≡ true → caller (put_session w peer s) ≡ true
  unfolding put_session
  started_lives s w peer live = found_among who q s.sessions _ live

  ended_stays : (s : Store) (session : ℕ) → session ≢ q → caller (end_session s session).store ≡ caller s
  unfolding take_session
  ended_stays s session other =
      ap (λ ls. is_of_caller who (find (is_session q) (filter (λ l. not (is_session session l)) ls))) (all_sessions (filter (is_held_by session) s.opens) s)
      ∙ found_without who q session s.sessions other

  lives : (s : Store) (now : Stamp) (e : Entry) (call : Call) → (call ≡ End → e.session ≢ q) → caller s ≡ true
      → caller (outcome s (act_of s now e call)).0 ≡ true
  lives s now e (Start c) other live =
      lives_by s (start s e.who c.peer) (first_check s (start s e.who c.peer).checks) (started_lives s e.who c.peer live) live
  lives s now e End other live =
      stays_by view granted s (end_session s e.session) (first_check s (end_session s e.session).checks) (ended_stays s e.session (other refl)) ∙ live
  lives s now e call other live = stays_in view granted s (act_of s now e call) (stays view granted s now e call refl) ∙ live

  -- an entry that is no End of the session leaves it live
  pub step_lives : (a : Account) (e : Entry) → (e.call ≡ End → e.session ≢ q) → caller a.store ≡ true
      → caller (step a e).0.store ≡ true
  step_lives a e other live = lives a.store (stamp_in a e) e e.call other live
