-- The handles of a session, closed first after first, are closed as a list of them is.
use Rattle.std.proofs.Common.{◌≡◌, ℕ, ◌+◌, ◌<◌, true, false, Bool, cond, not, List, [], ◌∷◌, length, Some, None}
use Rattle.std.proofs.Common.{refl, sym, ap, ◌∙◌, subst, arith, suc}
use Rattle.std.specs.Prelude.{All, AllPairs, filter, find}
use Rattle.std.proofs.lemmas.List.Elements.{All-head, All-tail}
use Rattle.std.proofs.lemmas.List.Kept.{AllPairs-filter}
use Rattle.std.proofs.lemmas.Bool.Decides.{nat_tests}
use Rattle.sx_guard.specs.Handle.{Handle, same_handle, handle_before}
use Rattle.sx_guard.proofs.Pairs.{AllPairs-head, AllPairs-tail}
use Rattle.sx_call.specs.declared.opens.Open.{Open}
use Rattle.sx_spec.specs.Account.{Store, is_held_by}
use Rattle.sx_spec.specs.Changes.{take_open, close, close_all}
use Rattle.sx_state.specs.Holding.{close_found}

-- in order of handle, each once
abbrev pub InOrder : List Open → Type 0
InOrder opens = AllPairs (λ o q. handle_before o.handle q.handle ≡ true) opens

-- without the opens of a handle
abbrev pub without : Handle → List Open → List Open
without handle opens = filter (λ o. not (same_handle handle o.handle)) opens

differ : (a b : Handle) → handle_before a b ≡ true → same_handle a b ≡ false
differ a b lt = grind (arith, nat_tests)

itself : (a : Handle) → same_handle a a ≡ true
itself a = grind (arith, nat_tests)

-- what comes behind an open stays without its handle
behind : (o : Open) (xs : List Open) → All (λ q. handle_before o.handle q.handle ≡ true) xs → without o.handle xs ≡ xs
behind o [] after = refl
behind o (x ∷ xs) after =
    let other : same_handle o.handle x.handle ≡ false = differ o.handle x.handle (All-head (λ q. handle_before o.handle q.handle ≡ true) x xs after) in
    rw other (ap (λ (ys : List Open). x ∷ ys) (behind o xs (All-tail (λ q. handle_before o.handle q.handle ≡ true) x xs after)))

-- what a test passes over counts for nothing, kept or not
passed : (test keep : Open → Bool) (x : Open) (xs : List Open) → test x ≡ false → filter test (filter keep (x ∷ xs)) ≡ filter test (filter keep xs)
passed test keep x xs off =
    elim (keep x) as (λ b. filter test (cond b (x ∷ filter keep xs) (filter keep xs)) ≡ filter test (filter keep xs)) [
      | true ↦ rw off refl
      | false ↦ refl
    ]

some_same : (x y : Open) → Some x ≡ Some y → x ≡ y
some_same x y e = cc

-- the first that passes a test, and then those that pass without its handle
pub first_off : (test : Open → Bool) (o : Open) (xs : List Open) → InOrder xs → find test xs ≡ Some o
    → filter test xs ≡ o ∷ filter test (without o.handle xs)
first_off test o [] order found = cc
first_off test o (x ∷ xs) order found =
    elim (test x) as (λ b. test x ≡ b → cond b (Some x) (find test xs) ≡ Some o → cond b (x ∷ filter test xs) (filter test xs) ≡ o ∷ filter test (without o.handle (x ∷ xs))) [
      | true ↦ λ on e.
          let same : x ≡ o = some_same x o e in
          let rest : without x.handle (x ∷ xs) ≡ xs = rw (itself x.handle) (behind x xs (AllPairs-head (λ a b. handle_before a.handle b.handle ≡ true) x xs order)) in
          ap (λ (ys : List Open). x ∷ filter test ys) (sym rest) ∙ ap (λ (q : Open). q ∷ filter test (without q.handle (x ∷ xs))) same
      | false ↦ λ off e.
          first_off test o xs (AllPairs-tail (λ a b. handle_before a.handle b.handle ≡ true) x xs order) e
          ∙ ap (λ (ys : List Open). o ∷ ys) (sym (passed test (λ q. not (same_handle o.handle q.handle)) x xs off))
    ] refl found

-- where none is found none passes
none_pass : (test : Open → Bool) (xs : List Open) → find test xs ≡ None → filter test xs ≡ []
none_pass test [] e = refl
none_pass test (x ∷ xs) e =
    elim (test x) as (λ b. cond b (Some x) (find test xs) ≡ None → cond b (x ∷ filter test xs) (filter test xs) ≡ []) [
      | true ↦ λ e. cc
      | false ↦ λ e. none_pass test xs e
    ] e

no_opens : (xs : List Open) → length xs ≡ 0 → xs ≡ []
no_opens [] e = refl
no_opens (x ∷ xs) e = absurd (omega (arith, e))

opens_of_close : (o : Open) (s : Store) → (close o s).opens ≡ without o.handle s.opens
unfolding close take_open
opens_of_close o s = refl

close_next : (o : Open) (os : List Open) (s : Store) → close_all (o ∷ os) s ≡ close_all os (close o s)
unfolding close_all
close_next o os s = refl

close_none : (s : Store) → close_all [] s ≡ s
unfolding close_all
close_none s = refl

-- after so many turns: the opens stand in order, those that are left are to be closed yet, and each turn closed one
pub record IsClosing (n : ℕ) (begin s : Store) (turns : ℕ) : Type 0 where
  pub order : InOrder s.opens
  pub rest : close_all (filter (is_held_by n) s.opens) s ≡ close_all (filter (is_held_by n) begin.opens) begin
  pub count : turns + length (filter (is_held_by n) s.opens) ≡ length (filter (is_held_by n) begin.opens)

pub closing_begins : (n : ℕ) (s : Store) → InOrder s.opens → IsClosing n s s 0
closing_begins n s order = record { order = order; rest = refl; count = omega arith }

pub closing_goes_on : (n : ℕ) (begin s : Store) (turns : ℕ) → IsClosing n begin s turns
    → turns < length (filter (is_held_by n) begin.opens)
    → IsClosing n begin (close_found (find (is_held_by n) s.opens) s) (turns + 1)
closing_goes_on n begin s turns so more =
    elim (find (is_held_by n) s.opens) as (λ r. find (is_held_by n) s.opens ≡ r → IsClosing n begin (close_found r s) (turns + 1)) [
      | None ↦ λ e.
          let none : length (filter (is_held_by n) s.opens) ≡ 0 = ap length (none_pass (is_held_by n) s.opens e) in
          absurd (omega (arith, none, so.count, more))
      | Some o ↦ λ e. closed o e
    ] refl
  where
    closed : (o : Open) → find (is_held_by n) s.opens ≡ Some o → IsClosing n begin (close o s) (turns + 1)
    closed o e =
        let first : filter (is_held_by n) s.opens ≡ o ∷ filter (is_held_by n) (without o.handle s.opens) = first_off (is_held_by n) o s.opens so.order e in
        let left : filter (is_held_by n) (close o s).opens ≡ filter (is_held_by n) (without o.handle s.opens) = ap (filter (is_held_by n)) (opens_of_close o s) in
        let one : length (filter (is_held_by n) s.opens) ≡ suc (length (filter (is_held_by n) (without o.handle s.opens))) = ap length first in
        let many : length (filter (is_held_by n) (close o s).opens) ≡ length (filter (is_held_by n) (without o.handle s.opens)) = ap length left in
        record {
          order = subst (λ opens. InOrder opens) (sym (opens_of_close o s)) (AllPairs-filter (λ a b. handle_before a.handle b.handle ≡ true) (λ q. not (same_handle o.handle q.handle)) s.opens so.order);
          rest =
              ap (λ (os : List Open). close_all os (close o s)) left
              ∙ sym (close_next o (filter (is_held_by n) (without o.handle s.opens)) s)
              ∙ ap (λ (os : List Open). close_all os s) (sym first)
              ∙ so.rest;
          count = omega (arith, one, many, so.count);
        }

pub closing_ends : (n : ℕ) (begin s : Store) → IsClosing n begin s (length (filter (is_held_by n) begin.opens))
    → s ≡ close_all (filter (is_held_by n) begin.opens) begin
closing_ends n begin s so =
    let none : filter (is_held_by n) s.opens ≡ [] = no_opens (filter (is_held_by n) s.opens) (omega (arith, so.count)) in
    sym (ap (λ (os : List Open). close_all os s) none ∙ close_none s) ∙ so.rest
