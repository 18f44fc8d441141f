-- How many sessions are live after a step: one more after a start, one less after an end, and else as many as before.
use Rattle.std.specs.Prelude.{◌≡◌, ◌≤◌, ℕ, ◌+◌, Bool, true, false, cond, not, List, [], ◌∷◌, length, filter, find}
use Rattle.std.specs.Prelude.{Option, Some, None, Result, Ok, Err}
use Rattle.std.proofs.Common.{refl, sym, ap, ◌∙◌, arith, length-append, true≢false}
use Rattle.std.proofs.lemmas.List.Sums.{length-filter, count_by-le-length}
use Rattle.sx_base.specs.Entries.{change}
use Rattle.sx_guard.specs.declared.access.Access.{Access}
use Rattle.sx_guard.specs.Handle.{Handle}
use Rattle.sx_guard.specs.declared.access.Mode.{Mode}
use Rattle.sx_names.specs.declared.attributes.Attributes.{Attributes}
use Rattle.sx_names.specs.declared.meta_pair.MetaPair.{MetaPair}
use Rattle.sx_call.specs.Calls.{door_of}
use Rattle.sx_call.specs.declared.doors.Door.{Door}
use Rattle.sx_call.specs.declared.doors.Door.TheVariants.{Rest, Starts, Ends, InSession}
use Rattle.sx_call.specs.declared.calls.Call.{Call}
use Rattle.sx_call.specs.declared.calls.Call.TheVariants.{ListShares, CreateShare, GetShareProperties}
use Rattle.sx_call.specs.declared.calls.Call.TheVariants.{SetShareProperties, GetShareMetadata, SetShareMetadata}
use Rattle.sx_call.specs.declared.calls.Call.TheVariants.{DeleteShare, DeleteSnapshot, SnapshotShare, LeaseShare}
use Rattle.sx_call.specs.declared.calls.Call.TheVariants.{CreateDirectory, GetDirectoryProperties, GetDirectoryMetadata}
use Rattle.sx_call.specs.declared.calls.Call.TheVariants.{SetDirectoryMetadata, DeleteDirectory, ListDirectory}
use Rattle.sx_call.specs.declared.calls.Call.TheVariants.{CreateFile, GetFile, GetFileProperties, SetFileProperties}
use Rattle.sx_call.specs.declared.calls.Call.TheVariants.{GetFileMetadata, SetFileMetadata, UpdateRange, ClearRange}
use Rattle.sx_call.specs.declared.calls.Call.TheVariants.{ListRanges, DeleteFile, LeaseFile, ListHandles}
use Rattle.sx_call.specs.declared.calls.Call.TheVariants.{ForceCloseHandles, Start, End, SmbOpen, SmbClose, SmbRead}
use Rattle.sx_call.specs.declared.calls.Call.TheVariants.{SmbWrite, SmbResize, SmbLock, SmbUnlock, SmbStat, SmbList}
use Rattle.sx_call.specs.declared.calls.Call.TheVariants.{SmbDispose}
use Rattle.sx_call.specs.declared.entries.Entry.{Entry}
use Rattle.sx_call.specs.declared.opens.How.{How}
use Rattle.sx_call.specs.declared.targets.Target.{Target}
use Rattle.sx_call.specs.declared.opens.Live.{Live}
use Rattle.sx_call.specs.declared.opens.Lock.{Lock}
use Rattle.sx_call.specs.declared.opens.Open.{Open}
use Rattle.sx_call.specs.declared.refusals.Refusal.{Refusal}
use Rattle.sx_call.specs.declared.shown.Stamp.{Stamp}
use Rattle.sx_tree.specs.declared.node.Facts.{Facts}
use Rattle.sx_tree.specs.declared.node.FileBody.{FileBody}
use Rattle.sx_tree.specs.declared.node.Node.{Node}
use Rattle.sx_tree.specs.declared.share.Share.{Share}
use Rattle.sx_spec.specs.Facts.{new_file}
use Rattle.sx_spec.specs.Account.{Store, Account, is_session, session_of, is_held_by}
use Rattle.sx_spec.specs.Needs.{access_needed}
use Rattle.sx_spec.specs.Places.{◌>>=◌, Volume, Spot, Taken, Free, share_at, vacancy, volume_at, node_place}
use Rattle.sx_spec.specs.Places.{directory_place, file_place, handle_place, held_file, held_directory, making_place}
use Rattle.sx_spec.specs.Places.{free_in, file_at, of_kind, not_pending, spot_at}
use Rattle.sx_spec.specs.Checks.{unchecked, first_check}
use Rattle.sx_spec.specs.Changes.{Act, grant, add_share, drop_share, make_node, put_facts, put_file, delete_at}
use Rattle.sx_spec.specs.Changes.{put_open, put_lock, take_lock, change_open, take_open, close, close_all, put_session}
use Rattle.sx_spec.specs.Changes.{take_session}
use Rattle.sx_spec.specs.History.{MayCome, is_of_caller, places_wanted, wants, stands_in}
use Rattle.sx_spec.specs.ShareCalls.{create_share, get_share_properties, get_share_metadata, set_share_properties}
use Rattle.sx_spec.specs.ShareCalls.{set_share_metadata, delete_share, delete_snapshot, snapshot_share, lease_share}
use Rattle.sx_spec.specs.FileCalls.{create_directory, create_file, create_file_in, get_directory_properties}
use Rattle.sx_spec.specs.FileCalls.{get_directory_metadata, set_directory_metadata, delete_directory, list_directory}
use Rattle.sx_spec.specs.FileCalls.{get_file, get_file_properties, get_file_metadata, set_file_properties}
use Rattle.sx_spec.specs.FileCalls.{set_file_metadata, update_range, clear_range, list_ranges, delete_file, lease_file}
use Rattle.sx_spec.specs.FileCalls.{list_handles, force_close_handles}
use Rattle.sx_spec.specs.SessionCalls.{start, end_session, smb_open, open_spot, spot_for, smb_close, smb_read}
use Rattle.sx_spec.specs.SessionCalls.{smb_write, smb_resize, smb_lock, smb_unlock, smb_stat, smb_list, smb_dispose}
use Rattle.sx_spec.specs.Step.{at_place, handle_in, act_of, stamp_in, outcome, unless_refused, step}
use Rattle.sx_spec.proofs.Views.{all_sessions, stays, stays_in}

abbrev live : Store → ℕ
live s = length s.sessions

abbrev count : List Live → ℕ
count ls = length ls

length_changed : (p : Live → Bool) (xs : List Live) → length (change p grant xs) ≡ length xs
length_changed p [] = refl
length_changed p (x ∷ xs) =
    elim (p x) as (λ b. length (cond b (grant x ∷ xs) (x ∷ change p grant xs)) ≡ length (x ∷ xs)) [
      | true ↦ refl
      | false ↦ omega (arith, length_changed p xs)
    ]

more_by : (s : Store) (act : Act) (o : Option Refusal) → live act.store ≡ live s + 1
    → live (unless_refused s act o).0 ≤ live s + 1
more_by s act None more = omega (arith, more)
more_by s act (Some r) more = omega arith

start_more : (s : Store) (who peer : ℕ) → live (start s who peer).store ≡ live s + 1
unfolding put_session
start_more s who peer = length-append s.sessions _

shorter : (p : Live → Bool) (xs : List Live) (l : Live) → find p xs ≡ Some l
    → length (filter (λ x. not (p x)) xs) + 1 ≤ length xs
shorter p [] l h = cc
shorter p (x ∷ xs) l h =
    elim (p x) as (λ b. cond b (Some x) (find p xs) ≡ Some l → length (cond (not b) (x ∷ filter (λ x. not (p x)) xs) (filter (λ x. not (p x)) xs)) + 1 ≤ length (x ∷ xs)) [
      | true ↦ λ g. omega (arith, length-filter (λ x. not (p x)) xs, count_by-le-length (λ x. not (p x)) xs)
      | false ↦ λ g. omega (arith, shorter p xs l g)
    ] h

ended_by : (who session : ℕ) (ls : List Live) (o : Option Live) → find (is_session session) ls ≡ o
    → is_of_caller who o ≡ true → length (filter (λ l. not (is_session session l)) ls) + 1 ≤ length ls
ended_by who session ls None at of_caller = absurd (true≢false (sym of_caller))
ended_by who session ls (Some l) at of_caller = shorter (is_session session) ls l at

end_less : (s : Store) (who session : ℕ) → is_of_caller who (session_of s session) ≡ true
    → live (end_session s session).store + 1 ≤ live s
unfolding take_session
end_less s who session of_caller =
    rw (all_sessions (filter (is_held_by session) s.opens) s) (ended_by who session s.sessions (session_of s session) refl of_caller)

-- what is checked for nothing is refused by no check
pub unchecked_passes : (s : Store) → first_check s unchecked ≡ None
unfolding first_check
unchecked_passes s = refl

room_by : (s : Store) (now : Stamp) (e : Entry) (call : Call) → stands_in s e.who e.session (door_of call) ≡ true
    → live (outcome s (act_of s now e call)).0 + 1 ≤ places_wanted (live s) (door_of call)
room_by s now e (Start c) stands =
    let more =
    more_by s (start s e.who c.peer) (first_check s (start s e.who c.peer).checks) (start_more s e.who c.peer) in
    omega (arith, more)
room_by s now e End stands = rw (unchecked_passes s) (end_less s e.who e.session stands)
room_by s now e call stands = omega (arith, stays_in count length_changed s (act_of s now e call) (stays count length_changed s now e call refl))

-- what an entry leaves has its places, where the history had as many as it wants
pub step_room : (a : Account) (last : ℕ) (e : Entry) → MayCome a last e
    → length (step a e).0.store.sessions + 1 ≤ wants a e.call
step_room a last e may = room_by a.store (stamp_in a e) e e.call may.session
