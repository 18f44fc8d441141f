-- The changes of sessions, opens and locks leave an account whole.
use Rattle.std.proofs.Common.{◌≡◌, ◌≢◌, ℕ, ◌+◌, ◌≤◌, ◌<◌, true, false, Bool, List, [], ◌∷◌, ◌++◌, Option, Some, None}
use Rattle.std.proofs.Common.{refl, sym, ap, ◌∙◌, subst, arith, ⊎_elim, option_map}
use Rattle.std.specs.Prelude.{find, unwrap_or, ◌&&◌, ◌==◌}
use Rattle.std.proofs.lemmas.Bool.Decides.{nat_tests}
use Rattle.std.proofs.lemmas.List.Elements.{All-weaker}
use Rattle.std.proofs.lemmas.Option.{same_Some}
use Rattle.sx_base.specs.Entries.{value_at, change, change_at}
use Rattle.sx_base.specs.Clock.{greatest_moment}
use Rattle.sx_guard.proofs.Places.{All-find}
use Rattle.sx_guard.specs.declared.access.Access.{Access}
use Rattle.sx_guard.specs.declared.access.Mode.{Mode}
use Rattle.sx_guard.specs.Handle.{Handle, same_handle}
use Rattle.sx_guard.specs.Locks.{forbids_lock}
use Rattle.sx_guard.specs.Ordered.{insert_by}
use Rattle.sx_call.specs.declared.opens.Live.{Live}
use Rattle.sx_call.specs.declared.opens.Lock.{Lock}
use Rattle.sx_call.specs.declared.opens.Open.{Open}
use Rattle.sx_call.specs.declared.shown.Stamp.{Stamp}
use Rattle.sx_tree.specs.declared.node.Node.{Node}
use Rattle.sx_tree.specs.declared.share.Share.{Share}
use Rattle.sx_tree.specs.Tree.{Slot, slot_at, with_node}
use Rattle.sx_spec.specs.Account.{Store, Account, is_session, session_of, granted_to, has_handle, open_of}
use Rattle.sx_spec.specs.declared.checks.LockAsk.TheVariants.{NewLock}
use Rattle.sx_spec.specs.Changes.{grant, open_before, make_node, put_open, put_lock, take_lock, change_open}
use Rattle.sx_spec.specs.Changes.{put_session}
use Rattle.sx_spec.specs.Checks.{lock_forbids}
use Rattle.sx_spec.specs.SessionCalls.{new_open, with_mark}
use Rattle.sx_spec.specs.Whole.{IsOpen, AreShares, IsWhole}
use Rattle.sx_spec.proofs.Grown.{IsRoom, new_slot, grown_new}
use Rattle.sx_spec.proofs.Holds.{slots_same, pending_same, SlotsStay, PendingWas, opens_stay, opens_more, changed_slots}
use Rattle.sx_spec.proofs.Holds.{changed_pending, more_finds, locks_stay, locks_more, locks_fewer, opens_changed}
use Rattle.sx_spec.proofs.Holds.{changed_finds}
use Rattle.sx_spec.proofs.Lists.{true_false, nat_same, found_passes}
use Rattle.sx_spec.proofs.Lookups.{change_there}
use Rattle.sx_spec.proofs.Parts.{next, TreeGoes, tree_share, grown_goes}
use Rattle.sx_spec.proofs.Sessions.{sessions_same, sessions_later, sessions_started, started_stay, sessions_granted}
use Rattle.sx_spec.proofs.Sessions.{granted_finds, granted_stay}
use Rattle.sx_spec.proofs.Shares.{shares_later, shares_changed}

-- One more session.

-- the account with one more session
pub start_whole : (a : Account) (who peer : ℕ) → IsWhole a → IsWhole (next a (put_session who peer a.store))
unfolding put_session
start_whole a who peer w =
    let k : Live = record { session = a.store.started + 1; who = who; peer = peer; granted = 0 } in
    record {
      sessions = sessions_started a.came a.store.started a.store.sessions k w.sessions refl refl;
      shares = shares_later a.came (a.came + 1) a.store.next_id a.store.made a.store.shares (omega arith) w.shares;
      opens =
          opens_stay a.came (a.came + 1) (omega arith) a.store.sessions (a.store.sessions ++ k ∷ []) a.store.shares a.store.shares a.store.opens (started_stay a.store.sessions k) (slots_same a.store.opens a.store.shares) (pending_same a.store.opens a.store.shares) w.opens;
      locks = w.locks;
    }

-- One more open.

granted_is : (s : Store) (session : ℕ) (live : Live) → session_of s session ≡ Some live
    → granted_to s session ≡ live.granted
granted_is s session live at = ap (λ (o : Option Live). unwrap_or (option_map (λ (l : Live). l.granted) o) 0) at

-- the account with one more open, on a node of shares that go on
pub open_whole : (a : Account) (later : ℕ) (rs : List (ℕ × Share)) (o : Open) (live : Live) → IsWhole a
    → session_of a.store o.handle.session ≡ Some live → o.handle.index ≡ live.granted + 1 → o.at ≤ greatest_moment
    → AreShares (a.came + 1) later a.store.made rs → SlotsStay a.store.opens a.store.shares rs
    → PendingWas a.store.opens a.store.shares rs
    → (share : Share) (slot : Slot) → value_at rs o.share ≡ Some share → slot_at share.tree o.node ≡ Some slot
    → slot.name ≢ None
    → IsWhole (next a (put_open o (record a.store { next_id = later; shares = rs })))
unfolding put_open
open_whole a later rs o live w at index early shares slots pending share slot there stands named =
    let ls = a.store.sessions in
    let ks = change (is_session o.handle.session) grant ls in
    let new : IsOpen ks rs o = record {
      live = grant live;
      session = granted_finds o.handle.session ls live at;
      first = omega (arith, index);
      granted = omega (arith, index);
      share = share;
      there = there;
      slot = slot;
      stands = stands;
      named = named;
      moment = early;
    } in
    record {
      sessions = sessions_granted a.came a.store.started (is_session o.handle.session) ls w.sessions;
      shares = shares;
      opens =
          opens_more a.came ls ks a.store.shares rs a.store.opens o live at index (granted_stay o.handle.session ls) slots pending w.opens new;
      locks =
          locks_stay a.store.opens (insert_by open_before o a.store.opens) a.store.locks (more_finds ls a.store.shares a.store.opens o live at index w.opens.each) w.locks;
    }

-- the account with one more open of a node that is there
pub opened_whole : (a : Account) (now : Stamp) (session number node : ℕ) (access : Access) (mode : Mode) (on_close : Bool) (live : Live) → IsWhole a → session_of a.store session ≡ Some live → now.changed ≤ greatest_moment
    → (share : Share) (slot : Slot) → value_at a.store.shares number ≡ Some share
    → slot_at share.tree node ≡ Some slot → slot.name ≢ None
    → IsWhole (next a (put_open (new_open a.store now session number node access mode on_close) a.store))
opened_whole a now session number node access mode on_close live w at early share slot there stands named =
    open_whole a a.store.next_id a.store.shares (new_open a.store now session number node access mode on_close) live w at (ap (λ n. n + 1) (granted_is a.store session live at)) early
    (shares_later a.came (a.came + 1) a.store.next_id a.store.made a.store.shares (omega arith) w.shares)
    (slots_same a.store.opens a.store.shares) (pending_same a.store.opens a.store.shares) share slot there stands named

-- the account with one more node, and an open of it
pub made_open_whole : (a : Account) (now : Stamp) (session number parent : ℕ) (name : List ℕ) (node : Node) (access : Access) (mode : Mode) (on_close : Bool) (live : Live) → IsWhole a → session_of a.store session ≡ Some live → now.changed ≤ greatest_moment
    → (share : Share) → value_at a.store.shares number ≡ Some share → node.id ≡ a.store.next_id → node.parent ≡ parent
    → IsRoom a.store.next_id share.tree parent name node
    → IsWhole (next a (put_open (new_open a.store now session number a.store.next_id access mode on_close) (make_node number name node a.store)))
unfolding make_node
made_open_whole a now session number parent name node access mode on_close live w at early share there id above room =
    let g : Share → Share = λ x. record x { tree = with_node x.tree node.parent name node } in
    let tree = (w.shares.each number share there).tree in
    let goes : TreeGoes a.store.next_id (a.store.next_id + 1) a.store.opens share.tree (with_node share.tree node.parent name node) =
    subst (λ p. TreeGoes a.store.next_id (a.store.next_id + 1) a.store.opens share.tree (with_node share.tree p name node)) (sym above)
    (grown_goes a.store.next_id parent a.store.opens name node share.tree tree room) in
    let goes_at : (x : Share) → value_at a.store.shares number ≡ Some x → TreeGoes a.store.next_id (a.store.next_id + 1) a.store.opens x.tree (with_node x.tree node.parent name node) =
    λ x e. subst (λ (s : Share). TreeGoes a.store.next_id (a.store.next_id + 1) a.store.opens s.tree (with_node s.tree node.parent name node)) (same_Some _ _ (sym there ∙ e)) goes in
    let changed = change_there number g a.store.shares number share there in
    let here : value_at (change_at number g a.store.shares) number ≡ Some (g share) =
    changed.1 ∙ ap (λ (r : Share). Some r) (⊎_elim (λ (h : (number ≢ number) × (changed.0 ≡ share)). absurd (h.0 refl)) (λ (h : (number ≡ number) × (changed.0 ≡ g share)). h.1) changed.2) in
    let slot : slot_at (with_node share.tree node.parent name node) a.store.next_id ≡ Some (new_slot name node) =
    subst (λ (j : ℕ). slot_at (with_node share.tree node.parent name node) j ≡ Some (new_slot name node)) id
    (ap (λ p. slot_at (with_node share.tree p name node) node.id) above ∙ grown_new a.store.next_id share.tree parent name node tree room) in
    open_whole a (a.store.next_id + 1) (change_at number g a.store.shares) (new_open a.store now session number a.store.next_id access mode on_close) live w at (ap (λ n. n + 1) (granted_is a.store session live at)) early
    (shares_changed a.came (a.came + 1) a.store.next_id (a.store.next_id + 1) a.store.made number g a.store.shares w.shares (omega arith) (omega arith) (omega (arith, w.shares.ids))
    (λ x e. (tree_share a.came (a.came + 1) a.store.next_id (a.store.next_id + 1) a.store.opens x (with_node x.tree node.parent name node) (omega arith) (omega arith) (w.shares.each number x e) (goes_at x e)).share))
    (changed_slots a.store.opens number g a.store.shares (λ x e. (goes_at x e).stays)) (changed_pending a.store.opens number g a.store.shares (λ x e. (goes_at x e).stays))
    (g share) (new_slot name node) here slot (named name)
  where
    named : (n : List ℕ) → ◌≡◌ {A = Option (List ℕ)} (Some n) None → ⊥
    named n e = cc

-- An open's mark.

marked_open : (ls : List Live) (ss : List (ℕ × Share)) (on : Bool) (o : Open) → IsOpen ls ss o
    → IsOpen ls ss (with_mark on o)
marked_open ls ss on o w = record {
  live = w.live;
  session = w.session;
  first = w.first;
  granted = w.granted;
  share = w.share;
  there = w.there;
  slot = w.slot;
  stands = w.stands;
  named = w.named;
  moment = w.moment;
}

-- the account with another mark of an open
pub mark_whole : (a : Account) (h : Handle) (on : Bool) → IsWhole a
    → IsWhole (next a (change_open h (with_mark on) a.store))
unfolding change_open
mark_whole a h on w = record {
  sessions = sessions_later a.came a.store.started a.store.sessions w.sessions;
  shares = shares_later a.came (a.came + 1) a.store.next_id a.store.made a.store.shares (omega arith) w.shares;
  opens =
      opens_changed a.came a.store.sessions a.store.shares (λ o. same_handle h o.handle) (with_mark on) a.store.opens (marked_open a.store.sessions a.store.shares on) (λ o. refl) (λ o. refl) w.opens;
  locks =
      locks_stay a.store.opens (change (λ o. same_handle h o.handle) (with_mark on) a.store.opens) a.store.locks (changed_finds (λ o. same_handle h o.handle) (with_mark on) a.store.opens (λ o. refl) (λ o. refl)) w.locks;
}

-- Locks.

free_by : (id from end : ℕ) (exclusive : Bool) (q : Lock) → lock_forbids (NewLock id from end exclusive) q ≡ false
    → q.node ≡ id → forbids_lock exclusive from end q.held ≡ false
free_by id from end exclusive q off same =
    by (q.node == id) (forbids_lock exclusive from end q.held) (nat_same q.node id same) off
  where
    by : (b c : Bool) → b ≡ true → (b && c) ≡ false → c ≡ false
    by true c is off = off
    by false c is off = absurd (true_false (sym is))

same_parts : (a b : Handle) → same_handle a b ≡ true → (a.session ≡ b.session) × (a.index ≡ b.index)
same_parts a b e = (grind (arith, nat_tests), grind (arith, nat_tests))

handle_is : (a b : Handle) → same_handle a b ≡ true → a ≡ b
handle_is a b e = let p = same_parts a b e in λ i. record { session = p.0 i; index = p.1 i }

-- the open of a handle is found by its own
pub own_handle : (s : Store) (h : Handle) (o : Open) → open_of s h ≡ Some o → open_of s o.handle ≡ Some o
own_handle s h o e =
    subst (λ (k : Handle). open_of s k ≡ Some o) (handle_is h o.handle (found_passes (has_handle h) s.opens o e)) e

-- the account with one more lock that none forbids
pub lock_whole : (a : Account) (l : Lock) (holder : Open) → IsWhole a → l.held.from < l.held.end
    → open_of a.store l.held.handle ≡ Some holder → holder.node ≡ l.node
    → find (lock_forbids (NewLock l.node l.held.from l.held.end l.held.exclusive)) a.store.locks ≡ None
    → IsWhole (next a (put_lock l a.store))
unfolding put_lock
lock_whole a l holder w filled there on none = record {
  sessions = sessions_later a.came a.store.started a.store.sessions w.sessions;
  shares = shares_later a.came (a.came + 1) a.store.next_id a.store.made a.store.shares (omega arith) w.shares;
  opens =
      opens_stay a.came (a.came + 1) (omega arith) a.store.sessions a.store.sessions a.store.shares a.store.shares a.store.opens (sessions_same a.store.sessions) (slots_same a.store.opens a.store.shares) (pending_same a.store.opens a.store.shares) w.opens;
  locks =
      locks_more a.store.opens a.store.locks l w.locks (record { filled = filled; holder = holder; there = there; on = on })
      (All-weaker (λ q. lock_forbids (NewLock l.node l.held.from l.held.end l.held.exclusive) q ≡ false) (λ q. q.node ≡ l.node → forbids_lock l.held.exclusive l.held.from l.held.end q.held ≡ false)
      (λ q off same. free_by l.node l.held.from l.held.end l.held.exclusive q off same) a.store.locks (All-find (lock_forbids (NewLock l.node l.held.from l.held.end l.held.exclusive)) a.store.locks none));
}

-- the account with one lock less
pub unlock_whole : (a : Account) (l : Lock) → IsWhole a → IsWhole (next a (take_lock l a.store))
unfolding take_lock
unlock_whole a l w = record {
  sessions = sessions_later a.came a.store.started a.store.sessions w.sessions;
  shares = shares_later a.came (a.came + 1) a.store.next_id a.store.made a.store.shares (omega arith) w.shares;
  opens =
      opens_stay a.came (a.came + 1) (omega arith) a.store.sessions a.store.sessions a.store.shares a.store.shares a.store.opens (sessions_same a.store.sessions) (slots_same a.store.opens a.store.shares) (pending_same a.store.opens a.store.shares) w.opens;
  locks = locks_fewer a.store.opens a.store.locks l w.locks;
}
