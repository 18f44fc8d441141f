-- What calls came to in a history they came to in each longer one, and calls one behind another.
use Rattle.std.proofs.Common.{ℕ, zero, suc, ◌+◌, ◌-◌, ◌<◌, ◌≤◌, ◌≡◌, ◌≢◌, List, [], ◌∷◌, ◌++◌, length, take, drop, slice_get, Some, refl, sym, ap, ◌∙◌, subst, arith, length-append, append-nil, ne_eqb}
use Rattle.std.specs.List.{AllByRecursion}
use Rattle.std.proofs.lemmas.List.{take-append-le, drop-append-le, drop_at, length-drop}
use Rattle.std.proofs.lemmas.List.Concat.{flat_map-append}
use Rattle.sx_call.specs.declared.calls.Call.{Call}
use Rattle.sx_call.specs.declared.entries.Noted.{Noted}
use Rattle.sx_call.specs.declared.replies.Reply.{Reply}
use Rattle.sx_spec.specs.Account.{Account}
use Rattle.sx_book.specs.History.{History}
use Rattle.sx_spec.specs.History.{noted_at, wants}
use Rattle.sx_spec.specs.Step.{replay, step}
use Rattle.sx_turn.specs.Places.{places_from}
use Rattle.sx_turn.proofs.Lists.{each_append, each_map}
use Rattle.sx_turn.proofs.Places.{places_append}
use Rattle.sx_book.specs.Passes.{caller_of}
use Rattle.sx_book.specs.OneHistory.{Asked, Came, appended, history_full, no_memory, Outcome, account_at, entry_of, IsAppended, IsFullAt, CameTo, CameAll, seen_by, place_of, places_of, AreCallsIn}

-- an item within the first list
pub get_front : {A : Type 0} (xs ys : List A) (i : ℕ) → i < length xs → slice_get (xs ++ ys) i ≡ slice_get xs i
get_front [] ys i l = absurd (omega (arith, l))
get_front (x ∷ xs) ys zero l = refl
get_front (x ∷ xs) ys (suc i) l = get_front xs ys i (omega (arith, l))

-- the item behind the first list
pub get_behind : {A : Type 0} (xs : List A) (y : A) (ys : List A) → slice_get (xs ++ y ∷ ys) (length xs) ≡ Some y
get_behind [] y ys = refl
get_behind (x ∷ xs) y ys = get_behind xs y ys

-- a history with these entries and this limit
abbrev pub kept_to : ℕ → List Noted → History
kept_to limit entries = record { entries = entries; limit = limit }

module _ (limit : ℕ) (h more : List Noted) where
  longer_than : (n : ℕ) → n ≤ length h → n ≤ length (h ++ more)
  longer_than n l = let e : length (h ++ more) ≡ length h + length more = length-append h more in omega (arith, l, e)

  pub account_grows : (n : ℕ) → n ≤ length h → account_at (kept_to limit (h ++ more)) n ≡ account_at (kept_to limit h) n
  account_grows n l = ap replay (take-append-le n h more l)

  pub appended_grows : (from : ℕ) (a : Asked) (place : ℕ) (reply : Reply) → IsAppended (kept_to limit h) from a place reply → IsAppended (kept_to limit (h ++ more)) from a place reply
  appended_grows from a place reply x =
      let same : take (place - 1) (h ++ more) ≡ take (place - 1) h = take-append-le (place - 1) h more (omega (arith, x.within)) in
      record {
        behind = x.behind;
        within = longer_than place x.within;
        entry = get_front h more (place - 1) (omega (arith, x.behind, x.within)) ∙ x.entry ∙ ap (λ (t : List Noted). Some (noted_at (replay t) (entry_of a t))) (sym same);
        reply_is = x.reply_is ∙ ap (λ (t : List Noted). (step (replay t) (entry_of a t)).1) (sym same);
      }

  pub full_grows : (from : ℕ) (call : Call) (n s : ℕ) → IsFullAt (kept_to limit h) from call n s → IsFullAt (kept_to limit (h ++ more)) from call n s
  full_grows from call n s x =
      let same : account_at (kept_to limit h) n ≡ account_at (kept_to limit (h ++ more)) n = sym (account_grows n x.within) in
      record {
        behind = x.behind;
        within = longer_than n x.within;
        sessions_is = x.sessions_is ∙ ap (λ (t : Account). length t.store.sessions) same;
        kept = x.kept;
        full = subst (λ (t : Account). limit < n + wants t call) same x.full;
      }

  pub came_grows : (from : ℕ) (a : Asked) (c : Came) → CameTo (kept_to limit h) from a c → CameTo (kept_to limit (h ++ more)) from a c
  came_grows from a (appended place reply) x = appended_grows from a place reply x
  came_grows from a (history_full n s) x = full_grows from a.call n s x
  came_grows from a no_memory x = tt

  pub all_grow : (from : ℕ) (os : List Outcome) → CameAll (kept_to limit h) from os → CameAll (kept_to limit (h ++ more)) from os
  all_grow from [] x = tt
  all_grow from (o ∷ os) x = (came_grows from o.asked o.came x.0, all_grow (seen_by from o.came) os x.1)

-- ---- from an earlier time on
sooner : (h : History) (from early : ℕ) (a : Asked) (c : Came) → early ≤ from → CameTo h from a c → CameTo h early a c
sooner h from early a (appended place reply) l x = record { behind = omega (arith, l, x.behind); within = x.within; entry = x.entry; reply_is = x.reply_is }
sooner h from early a (history_full n s) l x = record { behind = omega (arith, l, x.behind); within = x.within; sessions_is = x.sessions_is; kept = x.kept; full = x.full }
sooner h from early a no_memory l x = tt

sooner_seen : (from early : ℕ) (c : Came) → early ≤ from → seen_by early c ≤ seen_by from c
sooner_seen from early (appended place reply) l = omega arith
sooner_seen from early (history_full n s) l = omega arith
sooner_seen from early no_memory l = l

pub all_sooner : (h : History) (from early : ℕ) (os : List Outcome) → early ≤ from → CameAll h from os → CameAll h early os
all_sooner h from early [] l x = tt
all_sooner h from early (o ∷ os) l x = (sooner h from early o.asked o.came l x.0, all_sooner h (seen_by from o.came) (seen_by early o.came) os (sooner_seen from early o.came l) x.1)

-- ---- calls one behind another
seen_within : (h : History) (from : ℕ) (a : Asked) (c : Came) → from ≤ length h.entries → CameTo h from a c → seen_by from c ≤ length h.entries
seen_within h from a (appended place reply) l x = x.within
seen_within h from a (history_full n s) l x = x.within
seen_within h from a no_memory l x = l

-- calls behind calls, where those before them came to what they did within the first so many entries
all_behind : (limit : ℕ) (h more : List Noted) (from : ℕ) (os us : List Outcome) → from ≤ length h → CameAll (kept_to limit h) from os → CameAll (kept_to limit (h ++ more)) (length h) us → CameAll (kept_to limit (h ++ more)) from (os ++ us)
all_behind limit h more from [] us l x y = all_sooner (kept_to limit (h ++ more)) (length h) from us l y
all_behind limit h more from (o ∷ os) us l x y =
    (came_grows limit h more from o.asked o.came x.0, all_behind limit h more (seen_by from o.came) os us (seen_within (kept_to limit h) from o.asked o.came l x.0) x.1 y)

-- the caller's places in a longer history
only_more : (who from : ℕ) (h more : List Noted) → from ≤ length h → places_from caller_of who (from + 1) (drop from (h ++ more)) ≡ places_from caller_of who (from + 1) (drop from h) ++ places_from caller_of who (length h + 1) more
only_more who from h more l =
    let k : from + 1 + length (drop from h) ≡ length h + 1 = omega (arith, l, length-drop from h) in
    ap (places_from caller_of who (from + 1)) (drop-append-le from h more l) ∙ (places_append caller_of who (from + 1) (drop from h) more
    ∙ ap (λ (n : ℕ). places_from caller_of who (from + 1) (drop from h) ++ places_from caller_of who n more) k)

-- a caller's calls behind its calls
pub calls_join : (limit who from : ℕ) (h more : List Noted) (os us : List Outcome) → from ≤ length h → AreCallsIn (kept_to limit h) who from os → AreCallsIn (kept_to limit (h ++ more)) who (length h) us → AreCallsIn (kept_to limit (h ++ more)) who from (os ++ us)
calls_join limit who from h more os us l a b = record {
  callers = each_append _ os us a.callers b.callers;
  came = all_behind limit h more from os us l a.came b.came;
  only = only_more who from h more l ∙ (ap (λ (ps : List ℕ). ps ++ places_from caller_of who (length h + 1) more) a.only
      ∙ (ap (λ (ps : List ℕ). places_of os ++ ps) (ap (places_from caller_of who (length h + 1)) (sym (drop_at h more (length h) refl)) ∙ b.only)
      ∙ sym (flat_map-append (λ (u : Outcome). place_of u.came) os us)));
}

-- a caller without entries has no places
pub others_none : (who k : ℕ) (more : List Noted) → AllByRecursion (λ n. n.entry.who ≢ who) more → places_from caller_of who k more ≡ []
others_none who k [] none = refl
others_none who k (n ∷ ns) none = rw (ne_eqb who n.entry.who (λ same. none.0 (sym same))) (others_none who (k + 1) ns none.1)

-- no call, where others' entries came alone
pub calls_none : (limit who : ℕ) (h more : List Noted) → AllByRecursion (λ n. n.entry.who ≢ who) more → AreCallsIn (kept_to limit (h ++ more)) who (length h) []
calls_none limit who h more none = record {
  callers = tt;
  came = tt;
  only = ap (places_from caller_of who (length h + 1)) (drop_at h more (length h) refl) ∙ others_none who (length h + 1) more none;
}

-- a caller's calls are its calls in each history that goes on by others' entries
pub calls_grow : (limit who from : ℕ) (h more : List Noted) (os : List Outcome) → from ≤ length h → AllByRecursion (λ n. n.entry.who ≢ who) more → AreCallsIn (kept_to limit h) who from os → AreCallsIn (kept_to limit (h ++ more)) who from os
calls_grow limit who from h more os l none a = record {
  callers = a.callers;
  came = all_grow limit h more from os a.came;
  only = only_more who from h more l ∙ (ap (λ (ps : List ℕ). places_from caller_of who (from + 1) (drop from h) ++ ps) (others_none who (length h + 1) more none) ∙ (append-nil _ ∙ a.only));
}

behind_more : (n m : ℕ) (places : List ℕ) → n ≤ m → AllByRecursion (λ p. m < p) places → AllByRecursion (λ p. n < p) places
behind_more n m places le h = each_map _ _ (λ p lt. omega (arith, le, lt)) places h

place_behind : (h : History) (from : ℕ) (a : Asked) (c : Came) (places : List ℕ) → CameTo h from a c → AllByRecursion (λ p. seen_by from c < p) places → AllByRecursion (λ p. from < p) (place_of c ++ places)
place_behind h from a (appended place reply) places x y = (x.behind, behind_more from place places (omega (arith, x.behind)) y)
place_behind h from a (history_full n s) places x y = behind_more from n places x.behind y
place_behind h from a no_memory places x y = y

-- places that calls took lie behind what was seen before
pub places_behind : (h : History) (from : ℕ) (os : List Outcome) → CameAll h from os → AllByRecursion (λ p. from < p) (places_of os)
places_behind h from [] x = tt
places_behind h from (o ∷ os) x = place_behind h from o.asked o.came (places_of os) x.0 (places_behind h (seen_by from o.came) os x.1)
