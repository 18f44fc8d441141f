-- A session that was served, in an office that was closed, or could not be.
use Rattle.std.proofs.Common.{ℕ, ◌≤◌, ◌≡◌, List, [], ◌∷◌, ◌++◌, length, drop, refl, ap, ◌∙◌, subst, inr}
use Rattle.std.specs.Prelude.{Result, Ok, Err, IfOk, IfErr}
use Rattle.std.specs.List.{AllByRecursion}
use mathlib.Core.List.{IsPrefix}
use Rattle.sx_base.specs.Sides.{Sides}
use Rattle.sx_call.specs.declared.entries.Noted.{Noted}
use Rattle.sx_spec.specs.History.{IsHistory}
use Rattle.sx_book.specs.History.{History}
use Rattle.sx_turn.specs.Places.{places, times, longer}
use Rattle.sx_turn.specs.Seats.{TableId}
use Rattle.sx_turn.proofs.Lists.{prefix_self, longer_whole}
use Rattle.sx_book.specs.OneHistory.{history_of}
use Rattle.sx_book.specs.Passes.{PassView, caller_of, pass_pairs, after_meet, HasExactPlaces, OwnsAllNumbers, OwnsEachSeen}
use Rattle.sx_book.specs.declared.report.ConnReport.{ConnReport}
use Rattle.sx_smb_door.specs.Conversation.{SessionConversation, SessionVisit}
use Rattle.sharebox.specs.Command.{Closes, IsServed, first_history, session_visit, loopback}
use Rattle.sharebox.specs.Limits.{history_limit, input_budget, session_caller, status_after_close}
use Rattle.sharebox.specs.Opening.{HasOpened}
use Rattle.sharebox.proofs.Own.{own_rest}

-- what an office's close tells of the pass that closed it
abbrev pub IsAllMet : PassView → Type 0
IsAllMet p = OwnsAllNumbers p × OwnsEachSeen p × HasExactPlaces p × (p.known ≤ length (pass_pairs p))

-- the first pass has seen what the session's has, once they met
met_seen : (office : TableId) (share : List ℕ) (moment : ℕ) (main pass talked met : PassView) → HasOpened office share moment main pass → IsPrefix pass.seen talked.seen → met ≡ after_meet main talked → met.seen ≡ talked.seen
met_seen office share moment main pass talked met o grown met_is =
    let begins : IsPrefix (first_history share moment) talked.seen = subst (λ (l : List Noted). IsPrefix l talked.seen) (ap (λ (p : PassView). p.seen) o.pass_is) grown in
    ap (λ (p : PassView). p.seen) met_is ∙ (ap (λ (m : PassView). longer m.seen talked.seen) o.main_is
    ∙ longer_whole (first_history share moment) talked.seen talked.seen begins (prefix_self talked.seen) (inr refl))

-- of an office that the first pass closed, after it met the session's, all entries but the first are the session's
closed_own : (office : TableId) (share : List ℕ) (moment : ℕ) (main pass talked met : PassView) → HasOpened office share moment main pass
    → talked ≡ record pass { seen = talked.seen; mine = talked.mine } → IsPrefix pass.seen talked.seen
    → met ≡ after_meet main talked → IsAllMet met → AllByRecursion (λ n. n.entry.who ≡ session_caller) (drop 1 talked.seen)
closed_own office share moment main pass talked met o kept grown met_is closed =
    let begins : IsPrefix (first_history share moment) talked.seen = subst (λ (l : List Noted). IsPrefix l talked.seen) (ap (λ (p : PassView). p.seen) o.pass_is) grown in
    let both : List (ℕ × List ℕ) = (0, 1 ∷ []) ∷ (1, talked.mine) ∷ [] in
    let number : talked.number ≡ 1 = ap (λ (p : PassView). p.number) kept ∙ ap (λ (p : PassView). p.number) o.pass_is in
    let ended : talked.ended ≡ [] = ap (λ (p : PassView). p.ended) kept ∙ ap (λ (p : PassView). p.ended) o.pass_is in
    let pairs : pass_pairs met ≡ both =
    ap pass_pairs met_is ∙ (ap (λ (m : PassView). (m.number, m.mine) ∷ (((talked.number, talked.mine) ∷ talked.ended) ++ m.ended)) o.main_is
    ∙ (ap (λ (n : ℕ). (0, 1 ∷ []) ∷ (n, talked.mine) ∷ (talked.ended ++ [])) number
    ∙ ap (λ (e : List (ℕ × List ℕ)). (0, 1 ∷ []) ∷ (1, talked.mine) ∷ (e ++ [])) ended)) in
    let seen : met.seen ≡ talked.seen = met_seen office share moment main pass talked met o grown met_is in
    let owned_all : AllByRecursion (λ n. times (caller_of n) both ≡ 1) talked.seen =
    subst (λ (l : List Noted). AllByRecursion (λ n. times (caller_of n) both ≡ 1) l) seen (subst (λ (ps : List (ℕ × List ℕ)). AllByRecursion (λ n. times (caller_of n) ps ≡ 1) met.seen) pairs closed.1) in
    let exact_all : AllByRecursion (λ pair. pair.1 ≡ places caller_of pair.0 talked.seen) both =
    subst (λ (l : List Noted). AllByRecursion (λ pair. pair.1 ≡ places caller_of pair.0 l) both) seen (subst (λ (ps : List (ℕ × List ℕ)). AllByRecursion (λ pair. pair.1 ≡ places caller_of pair.0 met.seen) ps) pairs closed.2) in
    own_rest share moment talked.seen talked.mine begins owned_all exact_all.0

-- what an office's close gave: its book, or how many passes were out
abbrev pub closed_with : {B : Type 0} → (B → ℕ) → Result History B → Result History ℕ
closed_with out (Ok book) = Ok book
closed_with out (Err fault) = Err (out fault)

-- the office was closed, or could not be
closes_by : {B : Type 0} (r : Result History B) (Q : B → Type 0) (out : B → ℕ) (met : PassView) (seen : List Noted) → met.limit ≡ history_limit → met.seen ≡ seen
    → (IsAllMet met → AllByRecursion (λ n. n.entry.who ≡ session_caller) (drop 1 seen)) → ((f : B) → Q f → 1 ≤ out f)
    → IfOk r (λ b. b ≡ record { entries = met.seen; limit = met.limit }) → IfOk r (λ _. IsAllMet met) → IfErr r Q → Closes (closed_with out r) seen
closes_by (Ok book) Q out met seen limit same own some is all err = (is ∙ ap (λ (x : List Noted × ℕ). record { entries = x.0; limit = x.1 }) (λ j. (same j, limit j)), own all)
closes_by (Err fault) Q out met seen limit same own some is all err = some fault err

pub status_with : {B : Type 0} (r : Result History B) (out : B → ℕ) (report : ConnReport) → status_after_close r report ≡ status_after_close (closed_with out r) report
status_with (Ok book) out report = refl
status_with (Err fault) out report = refl

-- the session was served, and the office closed, or could not be
pub served_own : {B C : Type 0} (closed : Result History B) (Q : B → Type 0) (out : B → ℕ) (ticks : C → ℕ → C → Type 0) (share : List ℕ) (wrote wrote' : List ℕ → Type 0) (office : TableId) (moment : ℕ) (c0 c1 c2 : C)
    (sides sides' : Sides) (main pass talked met : PassView) (report : ConnReport) (status : ℕ)
    → ticks c0 moment c1 → HasOpened office share moment main pass
    → SessionConversation ticks wrote wrote' (record { who = pass.number; peer = loopback; budget = input_budget; history = history_of talked; from = length pass.seen }) (record { sides = sides; clock = c1 }) (record { sides = sides'; clock = c2 }) report
    → IsPrefix pass.seen talked.seen × IsHistory talked.limit talked.seen
    → talked ≡ record pass { seen = talked.seen; mine = talked.mine } → met ≡ after_meet main talked → IfOk closed (λ b. b ≡ record { entries = met.seen; limit = met.limit }) → IfOk closed (λ _. IsAllMet met) → IfErr closed Q → ((f : B) → Q f → 1 ≤ out f) → status ≡ status_after_close closed report
    → IsServed ticks share wrote wrote' (record { sides = sides; clock = c0 }) (record { sides = sides'; clock = c2 }) status
served_own {B} {C} closed Q out ticks share wrote wrote' office moment c0 c1 c2 sides sides' main pass talked met report status made o talk seen kept met_is book owned left_out some told =
    let pass_limit : pass.limit ≡ history_limit = ap (λ (p : PassView). p.limit) o.pass_is ∙ ap (λ (p : PassView). p.limit) o.main_is in
    let limit : talked.limit ≡ history_limit = ap (λ (p : PassView). p.limit) kept ∙ pass_limit in
    let met_limit : met.limit ≡ history_limit = ap (λ (p : PassView). p.limit) met_is ∙ ap (λ (p : PassView). p.limit) o.main_is in
    let begins : IsPrefix (first_history share moment) talked.seen = subst (λ (l : List Noted). IsPrefix l talked.seen) (ap (λ (p : PassView). p.seen) o.pass_is) seen.0 in
    let visit : (p : PassView) → ℕ → SessionVisit = λ p n. record { who = p.number; peer = loopback; budget = input_budget; history = record { entries = talked.seen; limit = n }; from = length p.seen } in
    let is : visit pass talked.limit ≡ session_visit talked.seen = ap (λ (x : PassView × ℕ). visit x.0 x.1) (λ j. (o.pass_is j, limit j)) in
    record {
      moment = moment;
      began = c1;
      made = made;
      entries = talked.seen;
      history = record { opening = begins; legal = subst (λ (n : ℕ). IsHistory n talked.seen) limit seen.1 };
      report = report;
      conversation = subst (λ (v : SessionVisit). SessionConversation ticks wrote wrote' v (record { sides = sides; clock = c1 }) (record { sides = sides'; clock = c2 }) report) is talk;
      closed = closed_with out closed;
      closing = closes_by closed Q out met talked.seen met_limit (met_seen office share moment main pass talked met o seen.0 met_is)
          (λ (p : IsAllMet met). closed_own office share moment main pass talked met o kept seen.0 met_is p) some book owned left_out;
      status_is = told ∙ status_with closed out report;
    }
