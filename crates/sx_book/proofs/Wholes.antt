-- What operations want of a whole account.
use Rattle.std.proofs.Common.{◌≡◌, ℕ, ◌+◌, ◌-◌, ◌^◌, ◌<◌, ◌≤◌, ◌==◌, cond, true, false, List, [], ◌∷◌, Option, Some, None, refl, ap, arith, length}
use Rattle.std.specs.Prelude.{All, AllPairs, IfOk, IfSome, ok_or}
use Rattle.std.specs.List.{AllByRecursion, find}
use Rattle.std.proofs.lemmas.Bool.Decides.{nat_tests}
use Rattle.std.proofs.lemmas.List.Elements.{All-head, All-tail}
use Rattle.sx_base.specs.Clock.{greatest_moment}
use Rattle.sx_base.specs.Moment.{greatest_written}
use Rattle.sx_call.specs.declared.doors.Door.{Door}
use Rattle.sx_call.specs.declared.doors.Door.TheVariants.{Rest, Starts, Ends, InSession}
use Rattle.sx_call.specs.declared.opens.Live.{Live}
use Rattle.sx_guard.specs.Handle.{handle_before}
use Rattle.sx_tree.specs.Tree.{Nodes, slot_at}
use Rattle.sx_tree.specs.declared.share.Share.{Share}
use Rattle.sx_call.specs.declared.refusals.Refusal.TheVariants.{ShareAbsent}
use Rattle.sx_spec.specs.Account.{Account, has_name, is_session, session_of}
use Rattle.sx_spec.specs.History.{is_of_caller, stands_in}
use Rattle.sx_spec.specs.Whole.{IsWhole, IsTree, IsLive}
use Rattle.sx_spec.proofs.Placed.{found_value}
use Rattle.sx_state.specs.Ids.{CanGrant, IsFresh}
use Rattle.sx_ops.specs.Ready.{CanGive, NamesSession}

none_by : {X : Type 0} (o : Option X) → ((x : X) → o ≡ Some x → ⊥) → o ≡ None
none_by None f = refl
none_by (Some x) f = absurd (f x refl)

below_itself : (n : ℕ) → n < n → ⊥
below_itself n l = omega (arith, l)

fresh_id : (next : ℕ) (t : Nodes) → IsTree next t → slot_at t next ≡ None
fresh_id next t w = none_by (slot_at t next) (λ x e. below_itself next (w.ids next x e).1)

few : (started came : ℕ) (ls : List Live) → came + 1 < 2 ^ 32 → All (IsLive started came) ls
    → AllByRecursion (λ l. l.granted < 2 ^ 32 - 1) ls
few started came [] h all = tt
few started came (l ∷ ls) h all =
    let live = All-head (IsLive started came) l ls all in
    (omega (arith, h, live.granted), few started came ls h (All-tail (IsLive started came) l ls all))

given_less : (came : ℕ) (o : Option ℕ) → came + 1 < 2 ^ 32 → IfSome o (λ last. last ≤ greatest_moment + came)
    → IfSome o (λ last. last < greatest_written)
given_less came None h le = tt
given_less came (Some last) h le = omega (arith, h, le)

live_number : (started came who : ℕ) (ls : List Live) (session : ℕ) → All (IsLive started came) ls
    → is_of_caller who (find (is_session session) ls) ≡ true → (1 ≤ session) × (session ≤ started)
live_number started came who [] session all e = absurd (cc e)
live_number started came who (l ∷ ls) session all e =
    elim (l.session == session) as (λ b. (l.session == session) ≡ b → is_of_caller who (cond b (Some l) (find (is_session session) ls)) ≡ true → (1 ≤ session) × (session ≤ started)) [
      | true ↦ λ same g.
          let live = All-head (IsLive started came) l ls all in
          let first = live.first in
          let most = live.started in
          let is : l.session ≡ session = grind (arith, nat_tests) in
          (omega (arith, first, is), omega (arith, most, is))
      | false ↦ λ other g. live_number started came who ls session (All-tail (IsLive started came) l ls all) g
    ] refl e

-- a live session has the number of one that was started
pub session_started : (a : Account) (who session : ℕ) → IsWhole a
    → is_of_caller who (session_of a.store session) ≡ true → (1 ≤ session) × (session ≤ a.store.started)
session_started a who session w live = live_number a.store.started a.came who a.store.sessions session w.sessions.each live

module _ (a : Account) (w : IsWhole a) where
  -- the next id is in no tree
  pub whole_fresh : IsFresh a.store
  whole_fresh n x e = fresh_id a.store.next_id x.tree (w.shares.each n x e).tree

  -- the opens stand in order of handle, each handle once
  pub whole_order : AllPairs (λ o q. handle_before o.handle q.handle ≡ true) a.store.opens
  whole_order = w.opens.order

  -- a call that stands in a session names one
  pub whole_session : (who session : ℕ) (door : Door) → stands_in a.store who session door ≡ true → NamesSession door session
  whole_session who session Rest stands = tt
  whole_session who session Starts stands = tt
  whole_session who session Ends stands = (session_started a who session w stands).0
  whole_session who session InSession stands = (session_started a who session w stands).0

module _ (a : Account) (w : IsWhole a) (more : a.came + 1 < 2 ^ 32) where
  -- one file id more fits
  pub whole_ids : a.store.next_id + 1 < 2 ^ 64
  whole_ids = omega (arith, w.shares.ids, more)

  -- each session can be granted one more open
  pub whole_granted : CanGrant a.store
  whole_granted = few a.store.started a.came a.store.sessions more w.sessions.each

  -- one session more fits
  pub whole_started : a.store.started + 1 < 2 ^ 32
  whole_started = omega (arith, w.sessions.count, more)

  -- one share more fits
  pub whole_made : a.store.made + 1 < 2 ^ 32
  whole_made = omega (arith, w.shares.count, more)

  -- the opens can be counted
  pub whole_few : length a.store.opens < 2 ^ 32
  whole_few = omega (arith, w.opens.count, more)

  -- a tick after each moment last given can be shown
  pub whole_given : CanGive a.store
  whole_given name = by (find (has_name name) a.store.shares) refl
    where
      by : (o : Option (ℕ × Share)) → find (has_name name) a.store.shares ≡ o
          → IfOk (ok_or o ShareAbsent) (λ place. IfSome place.1.given (λ last. last < greatest_written))
      by None found = tt
      by (Some p) found =
          given_less a.came p.1.given more (w.shares.each p.0 p.1 (found_value (has_name name) a.store.shares p w.shares.sorted found)).given
