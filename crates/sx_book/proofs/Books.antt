-- One more entry in a book.
use Rattle.std.proofs.Common.{ℕ, suc, ◌+◌, ◌-◌, ◌≤◌, ◌<◌, ◌≡◌, Bool, List, [], ◌∷◌, ◌++◌, length, Some, refl, sym, ap, ◌∙◌, subst, arith, length-append}
use Rattle.std.specs.Prelude.{Result, Ok, Err, IfOk}
use Rattle.std.specs.List.{slice_get}
use Rattle.std.proofs.lemmas.Option.{same_Some}
use Rattle.sx_call.specs.CallLimits.{IsWithinLimits}
use Rattle.sx_call.specs.declared.entries.Entry.{Entry}
use Rattle.sx_call.specs.declared.entries.Noted.{Noted}
use Rattle.sx_call.specs.declared.replies.Reply.{Reply}
use Rattle.sx_call.specs.declared.shown.Stamp.{Stamp}
use Rattle.sx_spec.specs.Account.{Store, Account}
use Rattle.sx_spec.specs.History.{MayCome, IsHistory, is_refused, noted_at, wants, moment_after, last_moment}
use Rattle.sx_spec.specs.Step.{act_of, outcome, replay, stamp_in, step, with_entry}
use Rattle.sx_spec.specs.Whole.{IsWhole}
use Rattle.sx_book.specs.History.{account_of}
use Rattle.sx_spec.proofs.Histories.{came_is, legal_fits, legal_more, replay_more}
use Rattle.sx_spec.proofs.Live.{step_room}
use Rattle.sx_spec.proofs.WholeRows.{step_whole}

-- the stamp of a moment and a place
abbrev stamp : ℕ → ℕ → Stamp
stamp changed etag = record { changed = changed; etag = etag }

-- an operation is the step, where its stamp has the entry's moment
pub stepped : {E : Type 0} (a : Account) (e : Entry) (changed : ℕ) (new : Store) (r : Result Reply E) → changed ≡ e.at
    → IfOk r (λ reply. (new, reply) ≡ outcome a.store (act_of a.store (record { changed = changed; etag = a.came + 1 }) e e.call))
    → IfOk r (λ reply. (account_of (a.came + 1) new, reply) ≡ step a e)
stepped a e changed new (Ok reply) is done =
    let stamped : stamp changed (a.came + 1) ≡ stamp_in a e = λ j. stamp (is j) (a.came + 1) in
    ap (with_entry a) (subst (λ (n : Stamp). (new, reply) ≡ outcome a.store (act_of a.store n e e.call)) stamped done)
stepped a e changed new (Err x) is done = tt

-- the account of what a book keeps is whole
pub account_kept : (ns : List Noted) (came : ℕ) (old : Store) → came ≡ length ns → old ≡ (replay ns).store
    → IsWhole (replay ns) → IsWhole (account_of came old)
account_kept ns came old count is w =
    let counted : came ≡ (replay ns).came = count ∙ sym (came_is ns) in
    let same : account_of came old ≡ replay ns = λ j. account_of (counted j) (is j) in
    subst IsWhole (sym same) w

-- the moment of the last entry is the last one
moment_at : (last : ℕ) (ns : List Noted) (n : Noted) → slice_get ns (length ns - 1) ≡ Some n
    → moment_after last ns ≡ n.entry.at
moment_at last [] n e = cc
moment_at last (m ∷ []) n e = ap (λ (x : Noted). x.entry.at) (same_Some m n e)
moment_at last (m ∷ k ∷ ns) n e =
    let one : length (m ∷ k ∷ ns) - 1 ≡ suc (length (k ∷ ns) - 1) = omega arith in
    moment_at m.entry.at (k ∷ ns) n (rw one at e)

pub moment_last : (ns : List Noted) (n : Noted) → slice_get ns (length ns - 1) ≡ Some n → last_moment ns ≡ n.entry.at
moment_last ns n e = moment_at 0 ns n e

-- what a book keeps, once one more entry has come
pub record IsMore (limit : ℕ) (ns : List Noted) (new : Store) : Type 0 where
  pub state : new ≡ (replay ns).store
  pub room : length ns + length new.sessions ≤ limit
  pub legal : IsHistory limit ns
  pub whole : IsWhole (replay ns)

module _ (limit : ℕ) (ns : List Noted) (e : Entry) (came : ℕ) (old new : Store) (reply : Reply) where
  -- the account that the entries leave is the state with their count
  pub account_is : came ≡ length ns → old ≡ (replay ns).store → account_of came old ≡ replay ns
  account_is count is =
      let counted : came ≡ (replay ns).came = count ∙ sym (came_is ns) in
      λ j. account_of (counted j) (is j)

  -- what was done is the step on it
  pub done_by : came ≡ length ns → old ≡ (replay ns).store
      → (account_of (came + 1) new, reply) ≡ step (account_of came old) e
      → (account_of (came + 1) new, reply) ≡ step (replay ns) e
  done_by count is done = done ∙ ap (λ (a : Account). step a e) (account_is count is)

module _ (limit : ℕ) (ns : List Noted) (e : Entry) (came : ℕ) (new : Store) (reply : Reply) (refused : Bool)
    (legal : IsHistory limit ns) (w : IsWhole (replay ns)) (may : MayCome (replay ns) (last_moment ns) e)
    (done : (account_of (came + 1) new, reply) ≡ step (replay ns) e)
    (marked : refused ≡ is_refused reply) where
  store_is : new ≡ (step (replay ns) e).0.store
  store_is = ap (λ (p : Account × Reply). p.0.store) done

  noted_is : noted_at (replay ns) e ≡ record { entry = e; refused = refused }
  noted_is =
      let mark : refused ≡ is_refused (step (replay ns) e).1 = marked ∙ ap (λ (p : Account × Reply). is_refused p.1) done in
      ap (λ (b : Bool). record { entry = e; refused = b }) (sym mark)

  -- each place that the call wanted is there for what it left
  pub left_by : length new.sessions + 1 ≤ wants (replay ns) e.call
  left_by = omega (arith, ap (λ (s : Store). length s.sessions) store_is, step_room (replay ns) (last_moment ns) e may)

  -- the book keeps what it kept
  pub book_more : IsWithinLimits e.call → length ns + wants (replay ns) e.call ≤ limit
      → IsMore limit (ns ++ record { entry = e; refused = refused } ∷ []) new
  book_more limits room =
      let more : List Noted = ns ++ record { entry = e; refused = refused } ∷ [] in
      let account : replay more ≡ (step (replay ns) e).0 = replay_more ns (record { entry = e; refused = refused }) in
      let state : new ≡ (replay more).store = store_is ∙ ap (λ (a : Account). a.store) (sym account) in
      let legal_after : IsHistory limit more =
      subst (λ (n : Noted). IsHistory limit (ns ++ n ∷ [])) noted_is (legal_more limit ns e legal may room) in
      record {
        state = state;
        room = omega (arith, legal_fits limit more legal_after, ap (λ (s : Store). length s.sessions) state);
        legal = legal_after;
        whole = subst IsWhole (sym account) (step_whole (replay ns) (last_moment ns) e w may limits);
      }
