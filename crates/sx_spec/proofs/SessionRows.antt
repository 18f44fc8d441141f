-- Each step keeps an account whole: the calls of the sessions' door.
use Rattle.std.proofs.Common.{◌≡◌, ℕ, ◌+◌, ◌≤◌, ◌<◌, true, false, Bool, cond, List, [], length, Option, Some, None}
use Rattle.std.proofs.Common.{refl, sym, ap, ◌∙◌, subst, arith, ◌⊎◌, inl, inr, ⊎_elim}
use Rattle.std.specs.Prelude.{Result, Ok, find, ◌==◌}
use Rattle.sx_base.specs.Entries.{value_at}
use Rattle.sx_base.specs.Clock.{greatest_moment}
use Rattle.sx_guard.specs.declared.access.Access.{Access}
use Rattle.sx_guard.specs.declared.access.Mode.{Mode}
use Rattle.sx_guard.specs.Handle.{Handle}
use Rattle.sx_names.specs.Limits.{IsQuota}
use Rattle.sx_call.specs.declared.calls.Call.{Call}
use Rattle.sx_call.specs.declared.opens.How.{How}
use Rattle.sx_call.specs.declared.opens.How.TheVariants.{Existing, Create, Either}
use Rattle.sx_call.specs.declared.opens.Live.{Live}
use Rattle.sx_call.specs.declared.opens.Open.{Open}
use Rattle.sx_call.specs.declared.refusals.Refusal.{Refusal}
use Rattle.sx_call.specs.declared.shown.Stamp.{Stamp}
use Rattle.sx_tree.specs.Body.{with_ranges, write_within, resize_within}
use Rattle.sx_tree.specs.declared.node.Facts.{Facts}
use Rattle.sx_tree.specs.declared.node.FileBody.{FileBody}
use Rattle.sx_tree.specs.declared.node.Found.TheVariants as found
use Rattle.sx_tree.specs.declared.node.Node.{Node}
use Rattle.sx_tree.specs.Find.{found_in}
use Rattle.sx_tree.specs.Node.{directory_attributes, kind_use}
use Rattle.sx_tree.specs.Tree.{Nodes, slot_at, tree_use}
use Rattle.sx_spec.specs.Account.{Store, Account, session_of, has_handle, has_name}
use Rattle.sx_spec.specs.declared.checks.LockAsk.TheVariants.{NewLock}
use Rattle.sx_spec.specs.Changes.{Act, put_file, close}
use Rattle.sx_spec.specs.Checks.{lock_forbids, held_checks}
use Rattle.sx_spec.specs.Facts.{with_stamp, with_write, length_of}
use Rattle.sx_spec.specs.History.{is_of_caller}
use Rattle.sx_spec.specs.Needs.{fresh_within, new_marks}
use Rattle.sx_spec.specs.Places.{◌>>=◌, Volume, HeldFile, Spot, Taken, Free, volume_at, live_volume, free_in}
use Rattle.sx_spec.specs.Places.{handle_place, held_file, spot_at, may_make, node_in, of_kind, not_pending}
use Rattle.sx_spec.specs.SessionCalls.{start, end_session, spot_for, open_spot, open_node, open_made, empty_node}
use Rattle.sx_spec.specs.SessionCalls.{new_open, file_attributes, no_content, smb_open, smb_close, smb_write}
use Rattle.sx_spec.specs.SessionCalls.{smb_resize, smb_lock, smb_unlock, smb_dispose, lock_of}
use Rattle.sx_spec.specs.Step.{at_place, outcome}
use Rattle.sx_spec.specs.Whole.{IsTree, IsWhole, AreMoments, IsFormed}
use Rattle.sx_spec.proofs.Closes.{closed_whole, end_whole}
use Rattle.sx_spec.proofs.Lists.{true_false, found_place}
use Rattle.sx_spec.proofs.Parts.{next, came_whole}
use Rattle.sx_spec.proofs.Placed.{bind_ok, ok_of, IsLive, IsThere, IsFreeIn, IsHeld, volume_live, volume_tree}
use Rattle.sx_spec.proofs.Placed.{made_free, made_taken, taken_there, handle_held, file_held}
use Rattle.sx_spec.proofs.Walks.{path_named}
use Rattle.sx_spec.proofs.WholeNodes.{KeepsFacts, KeepsBody, file_whole, less_marks, resize_formed, resize_used}
use Rattle.sx_spec.proofs.WholeNodes.{write_formed, write_used, quota_passed, new_moments, room, file_formed}
use Rattle.sx_spec.proofs.WholeNodes.{file_unused}
use Rattle.sx_spec.proofs.WholeSessions.{start_whole, opened_whole, made_open_whole, mark_whole, own_handle, lock_whole}
use Rattle.sx_spec.proofs.WholeSessions.{unlock_whole}
use Rattle.sx_spec.proofs.WholeSteps.{IsNamed, whole_act, whole_at, whole_then, passed, asks_pass, lock_none}
use Rattle.sx_spec.proofs.WholeSteps.{stamp_keeps, write_keeps}
use Rattle.sx_spec.proofs.RestRows.{free_is}

-- Whose a session is.

pub caller_live : (who : ℕ) (o : Option Live) → is_of_caller who o ≡ true → (l : Live) × (o ≡ Some l)
caller_live who None e = absurd (true_false (sym e))
caller_live who (Some l) e = (l, refl)

-- Where an open acts.

-- a node that is wanted is there
wanted_taken : (how : How) (t : Nodes) (spot : Spot) (n : Node) → spot_for how t spot ≡ Ok (Taken n)
    → (node_in spot ≡ Ok n) ⊎ (may_make t spot ≡ Ok (Taken n))
wanted_taken Existing t spot n e =
    let (m, node, e1) = bind_ok (node_in spot) (λ m. Ok (Taken m)) (Taken n) e in
    inl (node ∙ ap Ok (same_taken m n (ok_of (Taken m) (Taken n) e1)))
  where
    same_taken : (m n : Node) → Taken m ≡ Taken n → m ≡ n
    same_taken m n e = cc
wanted_taken Create t spot n e =
    let (m, makes, e1) =
    bind_ok (may_make t spot) (λ makes. free_in makes >>= (λ free. Ok (Free free.0 free.1))) (Taken n) e in
    let (free, is, e2) = bind_ok (free_in m) (λ free. Ok (Free free.0 free.1)) (Taken n) e1 in
    absurd (no_free free.0 free.1 n (ok_of (Free free.0 free.1) (Taken n) e2))
  where
    no_free : (parent : ℕ) (name : List ℕ) (n : Node) → Free parent name ≡ Taken n → ⊥
    no_free parent name n e = cc
wanted_taken Either t spot n e = inr e

-- a name that is wanted free may be made
wanted_free : (how : How) (t : Nodes) (spot : Spot) (parent : ℕ) (name : List ℕ)
    → spot_for how t spot ≡ Ok (Free parent name) → may_make t spot ≡ Ok (Free parent name)
wanted_free Existing t spot parent name e =
    let (m, node, e1) = bind_ok (node_in spot) (λ m. Ok (Taken m)) (Free parent name) e in
    absurd (no_taken m (ok_of (Taken m) (Free parent name) e1))
  where
    no_taken : (m : Node) → Taken m ≡ Free parent name → ⊥
    no_taken m e = cc
wanted_free Create t spot parent name e =
    let (m, makes, e1) =
    bind_ok (may_make t spot) (λ makes. free_in makes >>= (λ free. Ok (Free free.0 free.1))) (Free parent name) e in
    let (free, is, e2) = bind_ok (free_in m) (λ free. Ok (Free free.0 free.1)) (Free parent name) e1 in
    makes ∙ ap Ok (free_is m free is) ∙ e2
wanted_free Either t spot parent name e = e

module _ (a : Account) (now : Stamp) (w : IsWhole a) (early : now.changed ≤ greatest_moment) where
  -- Sessions.

  pub start_row : (who peer : ℕ) → IsWhole (next a (outcome a.store (Ok (start a.store who peer))).0)
  start_row who peer = whole_act a (start a.store who peer) w (λ none. start_whole a who peer w)

  pub end_row : (session : ℕ) → IsWhole (next a (outcome a.store (Ok (end_session a.store session))).0)
  end_row session = whole_act a (end_session a.store session) w (λ none. end_whole a session w)

  -- Opens.

  module _ (session : ℕ) (live : Live) (at : session_of a.store session ≡ Some live) (call : Call) (access : Access) (mode : Mode) (dir on_close : Bool) (path : List (List ℕ)) (named : IsNamed path) (v : Volume) (there : IsLive a.store v) where
    node_row : (node : Node) → IsThere v.tree node × (found_in v.tree path ≡ found.Node node.id)
        → IsWhole (next a (outcome a.store (open_spot a.store now session call access mode dir on_close v (Taken node))).0)
    node_row node (stands, led) =
        let o : Open = new_open a.store now session v.number node.id access mode on_close in
        let tree_is : v.tree ≡ there.share.tree = ap (λ (u : Volume). u.tree) there.is in
        let (slot, at_slot, has_name) =
        path_named a.store.next_id v.tree (volume_tree a v w there) path node.id named.some led in
        whole_then a (of_kind dir node) (λ kind. not_pending None node >>= (λ standing. Ok (open_node a.store call node o))) w
        (λ kind e. whole_then a (not_pending None node) (λ standing. Ok (open_node a.store call node o)) w
        (λ standing e1. whole_act a (open_node a.store call node o) w
        (λ none. opened_whole a now session v.number node.id access mode on_close live w at early there.share slot there.there (ap (λ t. slot_at t node.id) (sym tree_is) ∙ at_slot) has_name)))

    free_row : (parent : ℕ) (name : List ℕ) → IsFreeIn v.tree path parent name
        → IsWhole (next a (outcome a.store (open_spot a.store now session call access mode dir on_close v (Free parent name))).0)
    free_row parent name free =
        let node : Node = empty_node a.store now dir parent in
        let o : Open = new_open a.store now session v.number a.store.next_id access mode on_close in
        let share_free : IsFreeIn there.share.tree path parent name =
        subst (λ t. IsFreeIn t path parent name) (ap (λ (u : Volume). u.tree) there.is) free in
        whole_act a (open_made a.store v name node o) w
        (λ none. made_open_whole a now session v.number parent name node access mode on_close live w at early there.share there.there (made_id dir) (made_above dir)
        (room a.store.next_id there.share.tree path parent name node (w.shares.each v.number there.share there.there).tree share_free (made_id dir) (made_above dir)
        (made_standing dir) (made_moments dir) (made_formed dir) (made_unused dir)))
      where
        made_id : (d : Bool) → (empty_node a.store now d parent).id ≡ a.store.next_id
        made_id true = refl
        made_id false = refl

        made_above : (d : Bool) → (empty_node a.store now d parent).parent ≡ parent
        made_above true = refl
        made_above false = refl

        made_standing : (d : Bool) → (empty_node a.store now d parent).facts.pending ≡ false
        made_standing true = refl
        made_standing false = refl

        made_moments : (d : Bool) → AreMoments (empty_node a.store now d parent).facts
        made_moments true = new_moments now directory_attributes None None [] early tt tt
        made_moments false = new_moments now file_attributes None None [] early tt tt

        made_formed : (d : Bool) → IsFormed (empty_node a.store now d parent).kind
        made_formed true = tt
        made_formed false = file_formed 0 no_content (omega arith)

        made_unused : (d : Bool) → kind_use (empty_node a.store now d parent).kind ≡ 0
        made_unused true = refl
        made_unused false = file_unused 0 no_content

    spot_row : (how : How) (spot wanted : Spot) → spot_at v.tree path ≡ Ok spot → spot_for how v.tree spot ≡ Ok wanted
        → IsWhole (next a (outcome a.store (open_spot a.store now session call access mode dir on_close v wanted)).0)
    spot_row how spot (Taken node) spotted is = node_row node (⊎_elim
        (λ (h : node_in spot ≡ Ok node). taken_there a v path spot node w there spotted h)
        (λ (h : may_make v.tree spot ≡ Ok (Taken node)). made_taken a v path spot node w there spotted h)
        (wanted_taken how v.tree spot node is))
    spot_row how spot (Free parent name) spotted is =
        free_row parent name (made_free a v path spot parent name w there named.parts spotted (wanted_free how v.tree spot parent name is))

  pub open_row : (session : ℕ) (live : Live) → session_of a.store session ≡ Some live
      → (call : Call) (share : List ℕ) (path : List (List ℕ)) (access : Access) (mode : Mode) (how : How) (dir on_close : Bool) → IsNamed path
      → IsWhole (next a (outcome a.store (smb_open a.store now session call share path access mode how dir on_close)).0)
  open_row session live at call share path access mode how dir on_close named =
      let spotted : Volume → Spot → Result Act Refusal =
      λ v spot. spot_for how v.tree spot >>= open_spot a.store now session call access mode dir on_close v in
      whole_then a (volume_at a.store share None) (λ v. spot_at v.tree path >>= spotted v) w
      (λ v volume. whole_then a (spot_at v.tree path) (spotted v) w
      (λ spot at_spot. whole_then a (spot_for how v.tree spot) (open_spot a.store now session call access mode dir on_close v) w
      (λ wanted is. spot_row session live at call access mode dir on_close path named v (volume_live a share v w volume) how spot wanted at_spot is)))

  -- Handles.

  module _ (h : Handle) (needed : Access) where
    pub close_row : IsWhole (next a (outcome a.store (at_place (handle_place a.store h needed) (smb_close a.store))).0)
    close_row = whole_at a (handle_place a.store h needed) (smb_close a.store) w
        (λ p e none.
        let there = (handle_held a h needed p w e).0 in
        let (i, within, at) = found_place (has_handle h) a.store.opens p.held there in
        let s : Store = close p.held a.store in
        came_whole (record { came = a.came; store = s }) (closed_whole a.came a.store p.held i p.held w within at))

    held_placed : (p : HeldFile) (g : FileBody → FileBody) (f : Facts → Facts) → held_file a.store h needed ≡ Ok p
        → ((t : IsTree a.store.next_id p.volume.tree) → (q : IsQuota p.volume.quota)
        → KeepsBody (tree_use p.volume.tree) p.body g) → KeepsFacts f
        → IsWhole (next a (put_file p.volume.number p.node.id g f a.store))
    held_placed p g f e b k =
        let held = (file_held a h needed p w e).1 in
        let at : IsHeld a.store p.held p.volume p.node = held.held in
        let number : p.volume.number ≡ p.held.share = ap (λ (v : Volume). v.number) at.is in
        let live : IsLive a.store p.volume =
        record { share = at.share; there = ap (value_at a.store.shares) number ∙ at.there; is = at.is ∙ ap (λ n. live_volume n at.share) (sym number) } in
        let tree_is : p.volume.tree ≡ at.share.tree = ap (λ (v : Volume). v.tree) at.is in
        let share = w.shares.each p.volume.number at.share live.there in
        file_whole a p.volume.number p.node.id at.share at.node.slot p.body g f w live.there at.node.there
        (ap (λ (n : Node). n.kind) at.node.is ∙ held.body)
        (subst (λ t. KeepsBody (tree_use t) p.body g) tree_is (b (volume_tree a p.volume w live) (subst IsQuota (sym (ap (λ (v : Volume). v.quota) at.is)) share.quota))) k

    pub write_row : (call : Call) (at : ℕ) (piece : List ℕ)
        → ((body : FileBody) → new_marks body call ≡ fresh_within at (at + length piece) body.ranges)
        → IsWhole (next a (outcome a.store (at_place (held_file a.store h needed) (smb_write a.store now call at piece))).0)
    unfolding held_checks
    write_row call at piece marks = whole_at a (held_file a.store h needed) (smb_write a.store now call at piece) w
        (λ p e none. held_placed p (with_ranges (write_within at piece)) (with_write now) e
        (λ t q. record {
          formed = write_formed at piece p.body.ranges;
          bound =
              λ f l. omega (arith, write_used at piece p.body.ranges f, marks p.body, quota_passed call p.volume p.body q t.used (passed a.store (smb_write a.store now call at piece p).checks none).quota);
        })
        (write_keeps now early))

    pub resize_row : (call : Call) (bytes : ℕ)
        → IsWhole (next a (outcome a.store (at_place (held_file a.store h needed) (smb_resize a.store now call bytes))).0)
    resize_row call bytes = whole_at a (held_file a.store h needed) (smb_resize a.store now call bytes) w
        (λ p e none. held_placed p (with_ranges (resize_within bytes)) (cond (bytes == length_of p.body) (with_stamp now) (with_write now)) e
        (λ t q. less_marks (tree_use p.volume.tree) p.body (with_ranges (resize_within bytes)) (resize_formed bytes p.body.ranges) (λ f. resize_used bytes p.body.ranges))
        (either (bytes == length_of p.body)))
      where
        either : (b : Bool) → KeepsFacts (cond b (with_stamp now) (with_write now))
        either true = stamp_keeps now early
        either false = write_keeps now early

    pub lock_row : (from end : ℕ) (exclusive : Bool) → from < end
        → IsWhole (next a (outcome a.store (at_place (held_file a.store h needed) (smb_lock a.store from end exclusive))).0)
    lock_row from end exclusive filled = whole_at a (held_file a.store h needed) (smb_lock a.store from end exclusive) w
        (λ p e none.
        let (found, held) = file_held a h needed p w e in
        lock_whole a (lock_of p from end exclusive) p.held w filled (own_handle a.store h p.held found) (sym held.held.on)
        (lock_none (find (lock_forbids (NewLock p.node.id from end exclusive)) a.store.locks) None
        (asks_pass a.store (smb_lock a.store from end exclusive p).checks.asks (passed a.store (smb_lock a.store from end exclusive p).checks none).asks).1))

    pub unlock_row : (from end : ℕ) (exclusive : Bool)
        → IsWhole (next a (outcome a.store (at_place (held_file a.store h needed) (smb_unlock a.store from end exclusive))).0)
    unlock_row from end exclusive =
        whole_at a (held_file a.store h needed) (smb_unlock a.store from end exclusive) w (λ p e none. unlock_whole a (lock_of p from end exclusive) w)

    pub dispose_row : (call : Call) (on : Bool)
        → IsWhole (next a (outcome a.store (at_place (handle_place a.store h needed) (smb_dispose a.store call on))).0)
    dispose_row call on =
        whole_at a (handle_place a.store h needed) (smb_dispose a.store call on) w (λ p e none. mark_whole a p.held.handle on w)
