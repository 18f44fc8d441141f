-- The live sessions, after one more is started, one is ended and one is granted an open.
use Rattle.std.proofs.Common.{◌≡◌, ◌≢◌, ℕ, ◌+◌, ◌≤◌, ◌<◌, true, false, Bool, cond, not, List, [], ◌∷◌, ◌++◌, Some, refl}
use Rattle.std.proofs.Common.{rules, ap, ◌∙◌, subst, arith, ⊎_elim, option_map}
use Rattle.std.specs.Prelude.{All, AllPairs, filter, find}
use Rattle.std.proofs.lemmas.Bool.{cases_eq}
use Rattle.std.proofs.lemmas.List.Elements.{All-nil, All-cons, All-head, All-tail, All-weaker, All-filter, All-append}
use Rattle.std.proofs.lemmas.List.Kept.{AllPairs-filter, AllPairs-cons}
use Rattle.std.proofs.lemmas.List.Folds.{find-append}
use Rattle.sx_base.specs.Entries.{change}
use Rattle.sx_guard.proofs.Pairs.{AllPairs-head, AllPairs-tail, AllPairs-nil}
use Rattle.sx_call.specs.declared.opens.Live.{Live}
use Rattle.sx_spec.specs.Account.{is_session}
use Rattle.sx_spec.specs.Changes.{grant}
use Rattle.sx_spec.specs.Whole.{IsLive, AreSessions}
use Rattle.sx_spec.proofs.Lists.{find_filter, find_change, find_other}

-- each session that is found is still found, with no fewer opens granted
pub record SessionsStay (ls ks : List Live) : Type 0 where
  pub stays : (n : ℕ) (l : Live) → find (is_session n) ls ≡ Some l
      → (k : Live) × (find (is_session n) ks ≡ Some k) × (l.granted ≤ k.granted)

-- they stay where nothing changes
pub sessions_same : (ls : List Live) → SessionsStay ls ls
sessions_same ls = record { stays = λ n l e. (l, e, omega arith) }

live_later : (s c t d : ℕ) → s ≤ t → c ≤ d → (l : Live) → IsLive s c l → IsLive t d l
live_later s c t d le me l w =
    record { first = w.first; started = omega (arith, w.started, le); granted = omega (arith, w.granted, me) }

-- after more entries they keep their facts
pub sessions_later : (came started : ℕ) (ls : List Live) → AreSessions came started ls
    → AreSessions (came + 1) started ls
sessions_later came started ls w = record {
  count = omega (arith, w.count);
  each =
      All-weaker (IsLive started came) (IsLive started (came + 1)) (live_later started came started (came + 1) (omega arith) (omega arith)) ls w.each;
  different = w.different;
}

-- One is started.

-- one more at the end, to which all others stand so
pub AllPairs-end : {X : Type 0} (R : X → X → Type 0) (xs : List X) (y : X) → All (λ x. R x y) xs → AllPairs R xs → AllPairs R (xs ++ y ∷ [])
AllPairs-end R [] y h p = AllPairs-cons R y [] (All-nil (R y)) (AllPairs-nil R)
AllPairs-end R (x ∷ xs) y h p =
    AllPairs-cons R x (xs ++ y ∷ [])
    (All-append (R x) xs (y ∷ []) (AllPairs-head R x xs p) (All-cons (R x) y [] (All-head (λ z. R z y) x xs h) (All-nil (R x))))
    (AllPairs-end R xs y (All-tail (λ z. R z y) x xs h) (AllPairs-tail R x xs p))

-- with one more, of the next number, they keep their facts
pub sessions_started : (came started : ℕ) (ls : List Live) (k : Live) → AreSessions came started ls
    → k.session ≡ started + 1 → k.granted ≡ 0 → AreSessions (came + 1) (started + 1) (ls ++ k ∷ [])
sessions_started came started ls k w at none = record {
  count = omega (arith, w.count);
  each = All-append (IsLive (started + 1) (came + 1)) ls (k ∷ [])
      (All-weaker (IsLive started came) (IsLive (started + 1) (came + 1)) (live_later started came (started + 1) (came + 1) (omega arith) (omega arith)) ls w.each)
      (All-cons (IsLive (started + 1) (came + 1)) k [] (record { first = omega (arith, at); started = omega (arith, at); granted = omega (arith, none) }) (All-nil (IsLive (started + 1) (came + 1))));
  different = AllPairs-end (λ a b. a.session < b.session) ls k
      (All-weaker (IsLive started came) (λ l. l.session < k.session) (λ l h. omega (arith, h.started, at)) ls w.each) w.different;
}

-- and those before stay
pub started_stay : (ls : List Live) (k : Live) → SessionsStay ls (ls ++ k ∷ [])
started_stay ls k =
    record { stays = λ n l e. (l, (rw (find-append (is_session n) ls (k ∷ [])) (rw e refl)), omega arith) }

-- One is ended.

-- those that a filter keeps keep their facts
pub sessions_ended : (came started : ℕ) (p : Live → Bool) (ls : List Live) → AreSessions came started ls
    → AreSessions came started (filter p ls)
sessions_ended came started p ls w = record {
  count = w.count;
  each = All-filter p (IsLive started came) ls w.each;
  different = AllPairs-filter (λ a b. a.session < b.session) p ls w.different;
}

other_session : (n m : ℕ) (l : Live) → n ≢ m → is_session n l ≡ true → not (is_session m l) ≡ true
other_session n m l ne e = search rules

-- the other sessions are found as before
pub ended_finds : (n m : ℕ) (ls : List Live) → n ≢ m
    → find (is_session n) (filter (λ l. not (is_session m l)) ls) ≡ find (is_session n) ls
ended_finds n m ls ne = find_filter (is_session n) (λ l. not (is_session m l)) (λ l e. other_session n m l ne e) ls

-- One is granted an open.

-- a fact of all items, after the first that passes was changed
pub All-change : {X : Type 0} (P Q : X → Type 0) (p : X → Bool) (f : X → X) (xs : List X) → ((x : X) → P x → Q (f x)) → ((x : X) → P x → Q x) → All P xs → All Q (change p f xs)
All-change P Q p f [] there else h = All-nil Q
All-change P Q p f (x ∷ xs) there else h =
    elim (p x) as (λ b. All Q (cond b (f x ∷ xs) (x ∷ change p f xs))) [
      | true ↦ All-cons Q (f x) xs (there x (All-head P x xs h)) (All-weaker P Q else xs (All-tail P x xs h))
      | false ↦ All-cons Q x (change p f xs) (else x (All-head P x xs h)) (All-change P Q p f xs there else (All-tail P x xs h))
    ]

-- a relation of all pairs that the change leaves
pub AllPairs-change : {X : Type 0} (R : X → X → Type 0) (p : X → Bool) (f : X → X) (xs : List X) → ((x y : X) → R x y → R (f x) y) → ((x y : X) → R x y → R x (f y)) → AllPairs R xs → AllPairs R (change p f xs)
AllPairs-change R p f [] left right h = AllPairs-nil R
AllPairs-change R p f (x ∷ xs) left right h =
    elim (p x) as (λ b. AllPairs R (cond b (f x ∷ xs) (x ∷ change p f xs))) [
      | true ↦ AllPairs-cons R (f x) xs (All-weaker (R x) (R (f x)) (λ y r. left x y r) xs (AllPairs-head R x xs h)) (AllPairs-tail R x xs h)
      | false ↦ AllPairs-cons R x (change p f xs) (All-change (R x) (R x) p f xs (λ y r. right x y r) (λ y r. r) (AllPairs-head R x xs h)) (AllPairs-change R p f xs left right (AllPairs-tail R x xs h))
    ]

-- with one more open granted they keep their facts
pub sessions_granted : (came started : ℕ) (p : Live → Bool) (ls : List Live) → AreSessions came started ls
    → AreSessions (came + 1) started (change p grant ls)
sessions_granted came started p ls w = record {
  count = omega (arith, w.count);
  each = All-change (IsLive started came) (IsLive started (came + 1)) p grant ls
      (λ l h. record { first = h.first; started = h.started; granted = omega (arith, h.granted) })
      (live_later started came started (came + 1) (omega arith) (omega arith)) w.each;
  different = AllPairs-change (λ a b. a.session < b.session) p grant ls (λ a b h. h) (λ a b h. h) w.different;
}

-- the session itself is found with one more open
pub granted_finds : (n : ℕ) (ls : List Live) (l : Live) → find (is_session n) ls ≡ Some l
    → find (is_session n) (change (is_session n) grant ls) ≡ Some (grant l)
granted_finds n ls l e = find_change (is_session n) grant (λ _. refl) ls ∙ ap (option_map grant) e

another : (n m : ℕ) (l : Live) → n ≢ m → is_session m l ≡ true → is_session n l ≡ false
another n m l ne e = search rules

-- and stay
pub granted_stay : (m : ℕ) (ls : List Live) → SessionsStay ls (change (is_session m) grant ls)
granted_stay m ls = record {
  stays = λ n l e. ⊎_elim
      (λ (same : n ≡ m). subst (λ (k : ℕ). (q : Live) × (find (is_session n) (change (is_session k) grant ls) ≡ Some q) × (l.granted ≤ q.granted)) same (grant l, granted_finds n ls l e, omega arith))
      (λ (ne : n ≢ m). (l, find_other (is_session m) (is_session n) grant (λ q h. another n m q ne h) (λ _. refl) ls ∙ e, omega arith))
      (cases_eq n m);
}
