-- What a pass found beyond what it had seen are entries of others.
use Rattle.std.proofs.Common.{ℕ, ◌+◌, ◌≡◌, ◌≢◌, ◌==◌, if◌then◌else◌, true, false, List, [], ◌∷◌, ◌++◌, length, refl, ap, sym, ◌∙◌, arith}
use Rattle.std.specs.List.{AllByRecursion}
use Rattle.std.proofs.lemmas.Bool.Decides.{nat_tests}
use mathlib.Core.List.{IsPrefix}
use Rattle.sx_call.specs.declared.entries.Noted.{Noted}
use Rattle.sx_turn.specs.Places.{places, places_from}
use Rattle.sx_turn.proofs.Lists.{none_left}
use Rattle.sx_turn.proofs.Places.{places_append}
use Rattle.sx_book.specs.Passes.{caller_of, GrowsByOthers}

-- a caller without places has no entry
no_places : (n k : ℕ) (log : List Noted) → places_from caller_of n k log ≡ [] → AllByRecursion (λ e. e.entry.who ≢ n) log
no_places n k [] e = tt
no_places n k (x ∷ xs) e =
    elim (n == x.entry.who) as (λ b. (n == x.entry.who) ≡ b → (if b then k ∷ [] else []) ++ places_from caller_of n (k + 1) xs ≡ [] → AllByRecursion (λ e. e.entry.who ≢ n) (x ∷ xs)) [
      | true ↦ λ t g. absurd (cc g)
      | false ↦ λ t g. ((λ is. let yes : (n == x.entry.who) ≡ true = grind (arith, nat_tests) in absurd (cc (yes, t))), no_places n (k + 1) xs g)
    ] refl e

-- where a caller's places are the same in a list and in a beginning of it, the rest are entries of others
pub others_between : (n : ℕ) (mine : List ℕ) (seen log : List Noted) → IsPrefix seen log → mine ≡ places caller_of n log → mine ≡ places caller_of n seen → GrowsByOthers n seen log
others_between n mine seen log begins found own =
    let more : List Noted = begins.0 in
    let both : places_from caller_of n 1 seen ++ places_from caller_of n (1 + length seen) more ≡ places_from caller_of n 1 seen =
    sym (places_append caller_of n 1 seen more) ∙ (ap (places caller_of n) begins.1 ∙ (sym found ∙ own)) in
    (more, sym begins.1, no_places n (1 + length seen) more (none_left (places_from caller_of n 1 seen) (places_from caller_of n (1 + length seen) more) (ap length both)))
