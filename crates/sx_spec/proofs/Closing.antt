-- Closing can't fail: a close is refused where there is no such handle alone, and the end of a session never is.
use Rattle.std.specs.Prelude.{◌≡◌, ℕ, Bool, List, length, filter, find, Some, None, All, Ok, Err}
use Rattle.std.proofs.Common.{refl, sym, ap, subst}
use Rattle.sx_base.specs.Entries.{value_at}
use Rattle.sx_guard.proofs.Pairs.{find-listed}
use Rattle.sx_guard.specs.Handle.{Handle}
use Rattle.sx_call.specs.declared.calls.Call.TheVariants.{End, SmbClose}
use Rattle.sx_call.specs.declared.entries.Entry.{Entry}
use Rattle.sx_call.specs.declared.opens.Open.{Open}
use Rattle.sx_call.specs.declared.refusals.Refusal.TheVariants.{NoHandle}
use Rattle.sx_call.specs.declared.replies.Reply.TheVariants.{Refused, Smb}
use Rattle.sx_call.specs.declared.replies.SmbReply.TheVariants.{Ended, Closed}
use Rattle.sx_tree.specs.declared.share.Share.{Share}
use Rattle.sx_tree.specs.Tree.{Slot, slot_at}
use Rattle.sx_spec.specs.Account.{Store, Account, has_handle, is_held_by, open_of}
use Rattle.sx_spec.specs.Needs.{access_needed, no_access}
use Rattle.sx_spec.specs.Places.{HandlePlace, live_volume, handle_place}
use Rattle.sx_spec.specs.Changes.{close_fate}
use Rattle.sx_spec.specs.SessionCalls.{smb_close, end_session}
use Rattle.sx_spec.specs.Step.{handle_in, act_of, stamp_in, outcome, step}
use Rattle.sx_spec.specs.Whole.{IsWhole, IsOpen}
use Rattle.sx_spec.proofs.Live.{unchecked_passes}

-- what a find gives holds what all items hold
found_holds : {X : Type 0} (P : X → Type 0) (test : X → Bool) (xs : List X) (x : X) → All P xs → find test xs ≡ Some x
    → P x
found_holds P test xs x all is = let (k, within, at) = (find-listed test xs x is).0 in subst P at (all k x within)

place_in : (s : Store) (handle : Handle) (o : Open) (x : Share) (slot : Slot) → open_of s handle ≡ Some o
    → value_at s.shares o.share ≡ Some x
    → slot_at x.tree o.node ≡ Some slot → (p : HandlePlace) × (handle_place s handle no_access ≡ Ok p) × (p.held ≡ o)
unfolding handle_place
place_in s handle o x slot there at stands =
    (record { held = o; volume = live_volume o.share x; node = slot.node }, rw (there, at, stands) refl, refl)

-- the place of a handle whose open stands
place_of : (a : Account) (handle : Handle) (o : Open) → IsWhole a → open_of a.store handle ≡ Some o
    → (p : HandlePlace) × (handle_place a.store handle no_access ≡ Ok p) × (p.held ≡ o)
place_of a handle o whole there =
    let is : IsOpen a.store.sessions a.store.shares o =
    found_holds (IsOpen a.store.sessions a.store.shares) (has_handle handle) a.store.opens o whole.opens.each there in
    place_in a.store handle o is.share is.slot there is.there is.stands

closes : (s : Store) (p : HandlePlace) (o : Open) → p.held ≡ o
    → (outcome s (Ok (smb_close s p))).1 ≡ Smb (Closed (close_fate o s))
closes s p o is = rw (unchecked_passes s) (ap (λ q. Smb (Closed (close_fate q s))) is)

close_at : (a : Account) (e : Entry) (index : ℕ) (o : Open) → IsWhole a → access_needed e.call ≡ no_access
    → open_of a.store (handle_in e index) ≡ Some o
    → (outcome a.store (act_of a.store (stamp_in a e) e (SmbClose (record { index = index })))).1 ≡ Smb (Closed (close_fate o a.store))
close_at a e index o whole needed there =
    let (p, at, is) = place_of a (handle_in e index) o whole there in
    rw (needed, at) (closes a.store p o is)

-- a close of a handle that is open is answered with what becomes of its node
pub close_answers : (a : Account) (e : Entry) (index : ℕ) (o : Open) → IsWhole a
    → e.call ≡ SmbClose (record { index = index }) → open_of a.store (handle_in e index) ≡ Some o
    → (step a e).1 ≡ Smb (Closed (close_fate o a.store))
close_answers a e index o whole is there =
    subst (λ call. (outcome a.store (act_of a.store (stamp_in a e) e call)).1 ≡ Smb (Closed (close_fate o a.store))) (sym is)
    (close_at a e index o whole (ap access_needed is) there)

absent_at : (s : Store) (handle : Handle) → open_of s handle ≡ None
    → handle_place s handle no_access ≡ Err (NoHandle handle)
unfolding handle_place
absent_at s handle none = rw none refl

close_absent : (a : Account) (e : Entry) (index : ℕ) → access_needed e.call ≡ no_access
    → open_of a.store (handle_in e index) ≡ None
    → (outcome a.store (act_of a.store (stamp_in a e) e (SmbClose (record { index = index })))).1 ≡ Refused (NoHandle (handle_in e index))
close_absent a e index needed none = rw (needed, absent_at a.store (handle_in e index) none) refl

-- a close of a handle that isn't open is refused
pub close_refused : (a : Account) (e : Entry) (index : ℕ) → e.call ≡ SmbClose (record { index = index })
    → open_of a.store (handle_in e index) ≡ None
    → (step a e).1 ≡ Refused (NoHandle (handle_in e index))
close_refused a e index is none =
    subst (λ call. (outcome a.store (act_of a.store (stamp_in a e) e call)).1 ≡ Refused (NoHandle (handle_in e index))) (sym is)
    (close_absent a e index (ap access_needed is) none)

ends : (a : Account) (e : Entry)
    → (outcome a.store (Ok (end_session a.store e.session))).1 ≡ Smb (Ended (length (filter (is_held_by e.session) a.store.opens)))
ends a e = rw (unchecked_passes a.store) refl

-- the end of a session is answered with the number of its opens
pub end_answers : (a : Account) (e : Entry) → e.call ≡ End
    → (step a e).1 ≡ Smb (Ended (length (filter (is_held_by e.session) a.store.opens)))
end_answers a e is =
    subst (λ call. (outcome a.store (act_of a.store (stamp_in a e) e call)).1 ≡ Smb (Ended (length (filter (is_held_by e.session) a.store.opens)))) (sym is) (ends a e)
