-- An office of two callers has no entries of others.
use Rattle.std.proofs.Common.{ℕ, ◌+◌, ◌<◌, ◌≡◌, ◌≢◌, ◌==◌, if◌then◌else◌, max, true, false, List, [], ◌∷◌, ◌++◌, drop, refl, sym, ap, ◌∙◌, subst, arith}
use Rattle.std.specs.List.{AllByRecursion}
use Rattle.std.proofs.lemmas.Bool.Decides.{nat_tests}
use mathlib.Core.List.{IsPrefix}
use Rattle.sx_call.specs.declared.entries.Entry.{Entry}
use Rattle.sx_call.specs.declared.entries.Noted.{Noted}
use Rattle.sx_spec.specs.History.{noted_at}
use Rattle.sx_spec.specs.Step.{replay}
use Rattle.sx_turn.specs.Places.{places, places_from, times}
use Rattle.sx_turn.specs.Seats.{TableId}
use Rattle.sx_turn.proofs.Lists.{each_map}
use Rattle.sx_book.specs.Passes.{PassView, GrowsByOthers, caller_of, with_noted, after_entry, first_pass, new_pass, pass_after_look}
use Rattle.sharebox.specs.Command.{making, creation, first_history}
use Rattle.sharebox.specs.Limits.{history_limit, session_caller}
use Rattle.sharebox.specs.Opening.{creation_behind, HasMade, HasOpened}

-- a caller without places has no entry
pub no_entry : (n k : ℕ) (log : List Noted) → places_from caller_of n k log ≡ [] → AllByRecursion (λ e. e.entry.who ≢ n) log
no_entry n k [] e = tt
no_entry n k (x ∷ xs) e =
    elim (n == x.entry.who) as (λ b. (n == x.entry.who) ≡ b → (if b then k ∷ [] else []) ++ places_from caller_of n (k + 1) xs ≡ [] → AllByRecursion (λ e. e.entry.who ≢ n) (x ∷ xs)) [
      | true ↦ λ t g. absurd (cc g)
      | false ↦ λ t g. ((λ is. let yes : (n == x.entry.who) ≡ true = grind (arith, nat_tests) in absurd (cc (yes, t))), no_entry n (k + 1) xs g)
    ] refl e

pub of_other : (who : ℕ) (a b : List ℕ) → times who ((0, a) ∷ (1, b) ∷ []) ≡ 1 → who ≢ 0 → who ≡ 1
of_other who a b h ne =
    elim (who == 1) as (λ c. (who == 1) ≡ c → (if who == 0 then 1 else 0) + ((if c then 1 else 0) + 0) ≡ 1 → who ≡ 1) [
      | true ↦ λ t g. grind (arith, nat_tests)
      | false ↦ λ t g. let no : (who == 0) ≡ false = grind (arith, nat_tests) in let z : 0 ≡ 1 = rw no at g in cc
    ] refl h

pub each_both : (P Q : Noted → Type 0) (xs : List Noted) → AllByRecursion P xs → AllByRecursion Q xs → AllByRecursion (λ x. P x × Q x) xs
each_both P Q [] h k = tt
each_both P Q (x ∷ xs) h k = ((h.0, k.0), each_both P Q xs h.1 k.1)

each_front : (P : Noted → Type 0) (xs ys : List Noted) → AllByRecursion P (xs ++ ys) → AllByRecursion P xs
each_front P [] ys h = tt
each_front P (x ∷ xs) ys h = (h.0, each_front P xs ys h.1)

each_rest : (P : Noted → Type 0) (xs ys : List Noted) → AllByRecursion P (xs ++ ys) → AllByRecursion P ys
each_rest P [] ys h = h
each_rest P (x ∷ xs) ys h = each_rest P xs ys h.1

-- a list of which each is and is not so is empty
pub none_such : (n : ℕ) (xs : List Noted) → AllByRecursion (λ x. x.entry.who ≡ n) xs → AllByRecursion (λ x. x.entry.who ≢ n) xs → xs ≡ []
none_such n [] h k = refl
none_such n (x ∷ xs) h k = absurd (k.0 h.0)

-- the program's Create Share where nothing was found
first_creation : (share : List ℕ) (moment : ℕ) → creation_behind [] share moment ≡ creation share moment
first_creation share moment =
    let at : max 0 moment ≡ moment = omega arith in
    ap (λ (t : ℕ). record { who = 0; session = 0; at = t; fresh = 0; call = making share }) at

append_none : (xs : List Noted) → xs ++ [] ≡ xs
append_none [] = refl
append_none (x ∷ xs) = ap (λ (l : List Noted). x ∷ l) (append_none xs)

-- entries of callers below 1 are those of caller 0
pub below_one : (xs : List Noted) → AllByRecursion (λ x. caller_of x < 1) xs → AllByRecursion (λ x. x.entry.who ≡ 0) xs
below_one xs h = each_map (λ x. caller_of x < 1) (λ x. x.entry.who ≡ 0) (λ x l. omega (arith, l)) xs h

-- where all callers so far are caller 0, nothing was found before its entry, nor behind it
pub opened_by : (office : TableId) (share : List ℕ) (moment : ℕ) (made main pass : PassView) → HasMade office share moment made
    → pass ≡ new_pass made pass.number pass.seen → pass.number ≡ session_caller → AllByRecursion (λ n. caller_of n < pass.number) pass.seen → main ≡ pass_after_look pass.seen (pass.number + 1) made
    → GrowsByOthers made.number made.seen main.seen → HasOpened office share moment main pass
opened_by office share moment made main pass m new number below look grows =
    let c : Entry = creation_behind m.found share moment in
    let own : List Noted = with_noted m.found c in
    let made_number : made.number ≡ 0 = ap (λ (p : PassView). p.number) m.main_is in
    let made_seen : made.seen ≡ own = ap (λ (p : PassView). p.seen) m.main_is in
    let main_seen : main.seen ≡ pass.seen = ap (λ (p : PassView). p.seen) look in
    let since : GrowsByOthers 0 own pass.seen = subst (λ (x : ℕ × List Noted × List Noted). GrowsByOthers x.0 x.1 x.2) (λ j. (made_number j, made_seen j, main_seen j)) grows in
    let all : AllByRecursion (λ x. x.entry.who ≡ 0) (own ++ since.0) = subst (AllByRecursion (λ x. x.entry.who ≡ 0)) since.1 (below_one pass.seen (subst (λ (n : ℕ). AllByRecursion (λ x. caller_of x < n) pass.seen) number below)) in
    let more_none : since.0 ≡ [] = none_such 0 since.0 (each_rest _ own since.0 all) since.2 in
    let found_others : AllByRecursion (λ n. n.entry.who ≢ 0) m.found = subst (AllByRecursion (λ n. n.entry.who ≢ 0)) (sym m.others.1) m.others.2 in
    let found_none : m.found ≡ [] = none_such 0 m.found (each_front _ m.found (noted_at (replay m.found) c ∷ []) (each_front _ own since.0 all)) found_others in
    let first : (l : List Noted) → l ≡ [] → with_noted l (creation_behind l share moment) ≡ first_history share moment = λ l e. ap (λ (x : List Noted). with_noted x (creation_behind x share moment)) e ∙ ap (λ (x : Entry). with_noted [] x) (first_creation share moment) in
    let seen : pass.seen ≡ first_history share moment = since.1 ∙ (ap (λ (l : List Noted). own ++ l) more_none ∙ (append_none own ∙ first m.found found_none)) in
    let made_is : made ≡ after_entry [] (creation share moment) (first_pass office history_limit) =
    m.main_is ∙ (ap (λ (l : List Noted). after_entry l (creation_behind l share moment) (first_pass office history_limit)) found_none ∙ ap (λ (x : Entry). after_entry [] x (first_pass office history_limit)) (first_creation share moment)) in
    let look_is : main ≡ pass_after_look (first_history share moment) (session_caller + 1) made = look ∙ ap (λ (x : List Noted × ℕ). pass_after_look x.0 (x.1 + 1) made) (λ j. (seen j, number j)) in
    let same_pass : new_pass made session_caller (first_history share moment) ≡ new_pass main session_caller (first_history share moment) =
    ap (λ (x : TableId × ℕ). record { office = x.0; limit = x.1; number = session_caller; seen = first_history share moment; mine = []; ended = []; known = session_caller + 1 }) (λ j. (sym (ap (λ (p : PassView). p.office) look_is) j, sym (ap (λ (p : PassView). p.limit) look_is) j)) in
    record {
      main_is = look_is ∙ ap (λ (p : PassView). pass_after_look (first_history share moment) (session_caller + 1) p) made_is;
      pass_is = new ∙ (ap (λ (x : ℕ × List Noted). new_pass made x.0 x.1) (λ j. (number j, seen j)) ∙ same_pass);
    }

-- in a history that begins with the first caller's one entry, all others are the second's
pub own_rest : (share : List ℕ) (moment : ℕ) (whole : List Noted) (mine : List ℕ) → IsPrefix (first_history share moment) whole → AllByRecursion (λ n. times (caller_of n) ((0, 1 ∷ []) ∷ (1, mine) ∷ []) ≡ 1) whole
    → 1 ∷ [] ≡ places caller_of 0 whole → AllByRecursion (λ n. n.entry.who ≡ session_caller) (drop 1 whole)
own_rest share moment whole mine begins owned places_are =
    let rest : List Noted = begins.0 in
    let one : (1 ∷ []) ++ places_from caller_of 0 2 rest ≡ 1 ∷ [] = ap (places caller_of 0) begins.1 ∙ sym places_are in
    let others : AllByRecursion (λ n. n.entry.who ≢ 0) rest = no_entry 0 2 rest (cc one) in
    let owned_rest : AllByRecursion (λ n. times (caller_of n) ((0, 1 ∷ []) ∷ (1, mine) ∷ []) ≡ 1) rest =
    each_rest _ (first_history share moment) rest (subst (AllByRecursion (λ n. times (caller_of n) ((0, 1 ∷ []) ∷ (1, mine) ∷ []) ≡ 1)) (sym begins.1) owned) in
    subst (λ (l : List Noted). AllByRecursion (λ n. n.entry.who ≡ session_caller) (drop 1 l)) begins.1
    (each_map _ (λ n. n.entry.who ≡ 1) (λ n h. of_other n.entry.who (1 ∷ []) mine h.0 h.1) rest (each_both _ _ rest owned_rest others))
