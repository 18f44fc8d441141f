-- A connection that was served, in an office that was closed, or could not be.
use Rattle.std.proofs.Common.{ℕ, ◌+◌, ◌<◌, ◌≤◌, ◌≡◌, ◌≢◌, List, [], ◌∷◌, ◌++◌, length, refl, sym, ap, ◌∙◌, subst, inr}
use Rattle.std.specs.Prelude.{Result, Ok, Err, IfOk, IfErr}
use Rattle.std.specs.List.{AllByRecursion}
use mathlib.Core.List.{IsPrefix}
use Rattle.sx_base.specs.Sides.{Sides}
use Rattle.sx_call.specs.declared.entries.Noted.{Noted}
use Rattle.sx_key.specs.declared.account.Account.{Account}
use Rattle.sx_spec.specs.History.{IsHistory}
use Rattle.sx_turn.specs.Places.{places, times, longer}
use Rattle.sx_turn.specs.Seats.{TableId}
use Rattle.sx_turn.proofs.Lists.{each_map, prefix_self, longer_whole}
use Rattle.sx_book.specs.History.{History}
use Rattle.sx_book.specs.OneHistory.{history_of}
use Rattle.sx_book.specs.Passes.{PassView, GrowsByOthers, caller_of, pass_pairs, after_meet, first_pass, new_pass, pass_after_look}
use Rattle.sx_book.specs.declared.report.ConnReport.{ConnReport}
use Rattle.sx_rest_door.specs.Asking.{KeepsHistory, own_places_behind}
use Rattle.sx_rest_door.specs.Conversation.{RestConversation, RestVisit}
use Rattle.sharebox.specs.Conn.{HasSplit, ClosesAll, ServesConn, conn_visit}
use Rattle.sharebox.specs.Limits.{history_limit, session_caller, input_budget, status_after_close}
use Rattle.sharebox.proofs.Closed.{IsAllMet, closed_with, status_with}
use Rattle.sharebox.proofs.Own.{no_entry, of_other, each_both, none_such, below_one}

-- where all callers so far are caller 0, which asked nothing, nothing was seen
pub split_by : (office : TableId) (begun main pass : PassView) → begun ≡ first_pass office history_limit → pass ≡ new_pass begun pass.number pass.seen → pass.number ≡ session_caller
    → AllByRecursion (λ n. caller_of n < pass.number) pass.seen → main ≡ pass_after_look pass.seen (pass.number + 1) begun → GrowsByOthers begun.number begun.seen main.seen → HasSplit office main pass
split_by office begun main pass first new number below look grows =
    let begun_number : begun.number ≡ 0 = ap (λ (p : PassView). p.number) first in
    let begun_seen : begun.seen ≡ [] = ap (λ (p : PassView). p.seen) first in
    let main_seen : main.seen ≡ pass.seen = ap (λ (p : PassView). p.seen) look in
    let since : GrowsByOthers 0 [] pass.seen = subst (λ (x : ℕ × List Noted × List Noted). GrowsByOthers x.0 x.1 x.2) (λ j. (begun_number j, begun_seen j, main_seen j)) grows in
    let all : AllByRecursion (λ x. x.entry.who ≡ 0) since.0 = subst (AllByRecursion (λ x. x.entry.who ≡ 0)) since.1 (below_one pass.seen (subst (λ (n : ℕ). AllByRecursion (λ x. caller_of x < n) pass.seen) number below)) in
    let seen : pass.seen ≡ [] = since.1 ∙ none_such 0 since.0 all since.2 in
    let look_is : main ≡ pass_after_look [] (session_caller + 1) begun = look ∙ ap (λ (x : List Noted × ℕ). pass_after_look x.0 (x.1 + 1) begun) (λ j. (seen j, number j)) in
    let same_pass : new_pass begun session_caller [] ≡ new_pass main session_caller [] =
    ap (λ (x : TableId × ℕ). record { office = x.0; limit = x.1; number = session_caller; seen = []; mine = []; ended = []; known = session_caller + 1 }) (λ j. (sym (ap (λ (p : PassView). p.office) look_is) j, sym (ap (λ (p : PassView). p.limit) look_is) j)) in
    record {
      main_is = look_is ∙ ap (λ (p : PassView). pass_after_look [] (session_caller + 1) p) first;
      pass_is = new ∙ (ap (λ (x : ℕ × List Noted). new_pass begun x.0 x.1) (λ j. (number j, seen j)) ∙ same_pass);
    }

module _ (office : TableId) (main pass talked met : PassView) (o : HasSplit office main pass) (kept : talked ≡ record pass { seen = talked.seen; mine = pass.mine ++ own_places_behind pass talked.seen }) (met_is : met ≡ after_meet main talked) where
  -- the first pass has seen what the connection's has, once they met
  met_seen : met.seen ≡ talked.seen
  met_seen =
      ap (λ (p : PassView). p.seen) met_is ∙ (ap (λ (m : PassView). longer m.seen talked.seen) o.main_is
      ∙ longer_whole [] talked.seen talked.seen (talked.seen, refl) (prefix_self talked.seen) (inr refl))

  -- of an office that the first pass closed, after it met the connection's, all entries are the connection's
  all_own : IsAllMet met → AllByRecursion (λ n. n.entry.who ≡ session_caller) talked.seen
  all_own closed =
      let both : List (ℕ × List ℕ) = (0, []) ∷ (1, talked.mine) ∷ [] in
      let number : talked.number ≡ 1 = ap (λ (p : PassView). p.number) kept ∙ ap (λ (p : PassView). p.number) o.pass_is in
      let ended : talked.ended ≡ [] = ap (λ (p : PassView). p.ended) kept ∙ ap (λ (p : PassView). p.ended) o.pass_is in
      let pairs : pass_pairs met ≡ both =
      ap pass_pairs met_is ∙ (ap (λ (m : PassView). (m.number, m.mine) ∷ (((talked.number, talked.mine) ∷ talked.ended) ++ m.ended)) o.main_is
      ∙ (ap (λ (n : ℕ). (0, []) ∷ (n, talked.mine) ∷ (talked.ended ++ [])) number
      ∙ ap (λ (e : List (ℕ × List ℕ)). (0, []) ∷ (1, talked.mine) ∷ (e ++ [])) ended)) in
      let owned : AllByRecursion (λ n. times (caller_of n) both ≡ 1) talked.seen =
      subst (λ (l : List Noted). AllByRecursion (λ n. times (caller_of n) both ≡ 1) l) met_seen (subst (λ (ps : List (ℕ × List ℕ)). AllByRecursion (λ n. times (caller_of n) ps ≡ 1) met.seen) pairs closed.1) in
      let exact : AllByRecursion (λ pair. pair.1 ≡ places caller_of pair.0 talked.seen) both =
      subst (λ (l : List Noted). AllByRecursion (λ pair. pair.1 ≡ places caller_of pair.0 l) both) met_seen (subst (λ (ps : List (ℕ × List ℕ)). AllByRecursion (λ pair. pair.1 ≡ places caller_of pair.0 met.seen) ps) pairs closed.2) in
      let others : AllByRecursion (λ n. n.entry.who ≢ 0) talked.seen = no_entry 0 1 talked.seen (sym exact.0) in
      each_map _ (λ n. n.entry.who ≡ 1) (λ n h. of_other n.entry.who [] talked.mine h.0 h.1) talked.seen (each_both _ _ talked.seen owned others)

-- the office was closed, or could not be
closes_by : {B : Type 0} (r : Result History B) (Q : B → Type 0) (out : B → ℕ) (met : PassView) (seen : List Noted) → met.limit ≡ history_limit → met.seen ≡ seen
    → (IsAllMet met → AllByRecursion (λ n. n.entry.who ≡ session_caller) seen) → ((f : B) → Q f → 1 ≤ out f)
    → IfOk r (λ b. b ≡ record { entries = met.seen; limit = met.limit }) → IfOk r (λ _. IsAllMet met) → IfErr r Q → ClosesAll (closed_with out r) seen
closes_by (Ok book) Q out met seen limit same own some is all err = (is ∙ ap (λ (x : List Noted × ℕ). record { entries = x.0; limit = x.1 }) (λ j. (same j, limit j)), own all)
closes_by (Err fault) Q out met seen limit same own some is all err = some fault err

-- the connection was served, and the office closed, or could not be
pub conn_own : {B C R : Type 0} (closed : Result History B) (Q : B → Type 0) (out : B → ℕ) (ticks : C → ℕ → C → Type 0) (draws : R → ℕ → R → Type 0) (account : Account) (wrote wrote' : List ℕ → Type 0) (office : TableId) (c1 c2 : C) (r1 r2 : R)
    (sides sides' : Sides) (main pass talked met : PassView) (report : ConnReport) (status : ℕ)
    → HasSplit office main pass
    → RestConversation ticks draws wrote wrote' (record { who = pass.number; account = account; budget = input_budget; history = history_of talked; from = length pass.seen }) (record { sides = sides; clock = c1; random = r1 }) (record { sides = sides'; clock = c2; random = r2 }) report
    → KeepsHistory pass talked → talked ≡ record pass { seen = talked.seen; mine = pass.mine ++ own_places_behind pass talked.seen }
    → met ≡ after_meet main talked → IfOk closed (λ b. b ≡ record { entries = met.seen; limit = met.limit }) → IfOk closed (λ _. IsAllMet met) → IfErr closed Q → ((f : B) → Q f → 1 ≤ out f) → status ≡ status_after_close closed report
    → ServesConn ticks draws account wrote wrote' (record { sides = sides; clock = c1; random = r1 }) (record { sides = sides'; clock = c2; random = r2 }) status
conn_own {B} {C} {R} closed Q out ticks draws account wrote wrote' office c1 c2 r1 r2 sides sides' main pass talked met report status o talk history kept met_is book owned left_out some told =
    let pass_limit : pass.limit ≡ history_limit = ap (λ (p : PassView). p.limit) o.pass_is ∙ ap (λ (p : PassView). p.limit) o.main_is in
    let limit : talked.limit ≡ history_limit = ap (λ (p : PassView). p.limit) kept ∙ pass_limit in
    let met_limit : met.limit ≡ history_limit = ap (λ (p : PassView). p.limit) met_is ∙ ap (λ (p : PassView). p.limit) o.main_is in
    let pass_seen : pass.seen ≡ [] = ap (λ (p : PassView). p.seen) o.pass_is in
    let legal : IsHistory talked.limit talked.seen = history.0 (subst (IsHistory pass.limit) (sym pass_seen) tt) in
    let visit : (p : PassView) → ℕ → RestVisit = λ p n. record { who = p.number; account = account; budget = input_budget; history = record { entries = talked.seen; limit = n }; from = length p.seen } in
    let is : visit pass talked.limit ≡ conn_visit account talked.seen = ap (λ (x : PassView × ℕ). visit x.0 x.1) (λ j. (o.pass_is j, limit j)) in
    record {
      entries = talked.seen;
      legal = subst (λ (n : ℕ). IsHistory n talked.seen) limit legal;
      report = report;
      conversation = subst (λ (v : RestVisit). RestConversation ticks draws wrote wrote' v (record { sides = sides; clock = c1; random = r1 }) (record { sides = sides'; clock = c2; random = r2 }) report) is talk;
      closed = closed_with out closed;
      closing = closes_by closed Q out met talked.seen met_limit (met_seen office main pass talked met o kept met_is)
          (λ (p : IsAllMet met). all_own office main pass talked met o kept met_is p) some book owned left_out;
      status_is = told ∙ status_with closed out report;
    }
