-- The rule holds as a turn begins, and what it says once the turn is closed.
use Rattle.std.proofs.Common.{◌≡◌, inl, inr, ⊎_elim, ℕ, zero, suc, ◌+◌, ◌<◌, ◌==◌, Bool, true, false, List, [], ◌∷◌, set, refl, ap, sym, ◌∙◌, subst, if◌then◌else◌, arith, Option, Some, None}
use Rattle.std.specs.List.{AllByRecursion}
use lib.Seq.{set-get_or}
use mathlib.Core.Option.{some, none, some-injective, some-ne-none}
use mathlib.Core.Option as maybe
use lib.ListN.{get_elem?}
use Rattle.std.proofs.lemmas.Bool.Decides.{nat_tests}
use Rattle.atomic_table.specs.Table.{State, Me, step, gives, put_back, rest, Allows, opening, Final, Seen}
use Rattle.atomic_table.proofs.Lists.{set_here}
use Rattle.sx_turn.specs.declared.rule.View.{View}
use Rattle.sx_turn.specs.Places.{once_below}
use Rattle.sx_turn.specs.Views.{first_view, with_closed}
use Rattle.sx_turn.specs.Rules.{Fits, IsInSlot, IsOut, Holds, Kept, slot_content}
use Rattle.sx_turn.specs.Moves.{CloseTells}
use Rattle.sx_turn.proofs.Lists.{each_map, inside, prefix_self}
use Rattle.sx_turn.proofs.Reseat.{is_out, reseat, whole_stays}
use Rattle.sx_turn.proofs.Views.{idle_queue, uncounted}

module _ {B E : Type 0} (stands : B → List E) (lasts : B → ℕ) (fixed : ℕ) (who : E → ℕ) where
  abbrev V : Type 0
  V = View E

  abbrev S : Type 0
  S = Option B

  abbrev H : ℕ → ℕ → ℕ → List E → List (maybe.Option S) → List V → Type 0
  H = Holds stands lasts fixed who

  -- entries of number 0 are below 1
  pub zero_below : (log : List E) → AllByRecursion (λ e. who e ≡ 0) log → AllByRecursion (λ e. who e < 1) log
  zero_below log own = each_map _ _ (λ e z. omega arith) log own

  -- the rule holds as a turn begins
  pub begin_keeps : (y : B) → AllByRecursion (λ e. who e ≡ 0) (stands y) → Kept stands lasts (lasts y) who (opening (0 ∷ 0 ∷ 1 ∷ []) (Some y ∷ []) (first_view who (lasts y) (stands y)))
  begin_keeps y own = let log : List E = stands y in let v : V = first_view who (lasts y) log in (
    0,
    0,
    1,
    log,
    refl,
    record {
      each = (λ j u e. only j u e record {
        history = record {
          seen = prefix_self log;
          olds = tt;
          exact = ((refl, refl), tt);
        };
        queue = idle_queue _ _ log;
        count = uncounted (omega arith);
      });
      apart = (λ i j x w t ei ej ti tj. apart_one i j x w t ei ej ti);
      waiting = refl;
      numbers = (λ n. let z = zero_once n in omega arith);
      shared = refl;
      small = omega arith;
      bound = (omega arith, omega arith);
      whole = (0, v, 0, refl, refl, refl);
      entries = zero_below log own;
      lasting = (λ j u n e q. known j u n e q);
      value = inl (y, refl, refl, rests, refl);
    },
  ) where
    zero_once : (n : ℕ) → ((if n == 0 then 1 else 0) + 0) + 0 ≡ once_below n 1
    zero_once n = grind (arith, nat_tests)

    rests : (j : ℕ) (u : V) → get_elem? (first_view who (lasts y) (stands y) ∷ []) j ≡ some u → u.turn ≡ None
    rests zero u e = ap (λ (z : V). z.turn) (sym (some-injective (first_view who (lasts y) (stands y)) u e))
    rests (suc j) u e = absurd (some-ne-none u (sym e))

    known : (j : ℕ) (u : V) (n : ℕ) → get_elem? (first_view who (lasts y) (stands y) ∷ []) j ≡ some u → u.lasting ≡ Some n → n ≡ lasts y
    known zero u n e q = let is : Some (lasts y) ≡ Some n = ap (λ (z : V). z.lasting) (some-injective (first_view who (lasts y) (stands y)) u e) ∙ q in cc is
    known (suc j) u n e q = absurd (some-ne-none u (sym e))

    only : (j : ℕ) (u : V) → get_elem? (first_view who (lasts y) (stands y) ∷ []) j ≡ some u → Fits who 0 0 1 (stands y) (first_view who (lasts y) (stands y)) → Fits who 0 0 1 (stands y) u
    only zero u e f = subst (Fits who 0 0 1 (stands y)) (some-injective (first_view who (lasts y) (stands y)) u e) f
    only (suc j) u e f = absurd (some-ne-none u (sym e))

    apart_one : (i j : ℕ) (x w : V) (t : ℕ) → get_elem? (first_view who (lasts y) (stands y) ∷ []) i ≡ some x → get_elem? (first_view who (lasts y) (stands y) ∷ []) j ≡ some w → x.ticket ≡ Some t → i ≡ j
    apart_one zero j x w t ei ej ti = absurd (cc (ap (λ (z : V). z.ticket) (some-injective (first_view who (lasts y) (stands y)) x ei), ti))
    apart_one (suc i) j x w t ei ej ti = absurd (some-ne-none x (sym ei))

  -- the rule holds after the slot has come home empty
  pub close_holds : (a b c : ℕ) (log : List E) (homes : List (maybe.Option S)) (vs : List V) (id : ℕ) (v : V) → get_elem? vs id ≡ some v → v.turn ≡ Some log → H a b c log homes vs → H a b c log (some None ∷ []) (set vs id (with_closed v))
  close_holds a b c log homes vs id v at turn h = let f = h.each id v at in let w : V = with_closed v in
      reseat stands lasts fixed who a b c a b c log log homes (some None ∷ []) vs id v w at h record {
        fits = record { history = f.history; queue = f.queue; count = f.count };
        others = (λ j u ne e g. g);
        fresh = (λ t j u e ne eu tu. ne (h.apart j id u v t eu at tu e));
        waiting = (omega arith);
        numbers = (λ n. refl);
        shared = refl;
        small = h.small;
        bound = h.bound;
        whole = (whole_stays stands lasts fixed who log vs id v w at refl refl h.whole);
        entries = h.entries;
        lasting = (λ n e. h.lasting id v n at e);
        value = (inr (id, w, set_here vs id w (inside vs id v at), turn, refl));
      }

  -- close keeps the rule
  pub close_keeps : (slots id : ℕ) (me : Me S V) (log : List E) → me.1 ≡ (0, None) ∷ [] → me.0.turn ≡ Some log → me.0.closed ≡ false → Allows (Kept stands lasts fixed who) slots id me 0 (λ n. n) (CloseTells (step slots 0 0 0 none) me)
  close_keeps slots id me log carried turn still_open s k _ at _ =
      let v : V = me.0 in let h = k.5 in let is = ((h.each id v at).queue.turn log turn).1 in let turn' : v.turn ≡ Some k.3 = turn ∙ ap (λ (l : List E). Some l) is in
      let out = is_out stands lasts fixed who k.0 k.1 k.2 k.3 s.homes s.views id v at turn' still_open h in
      let home : put_back s.homes me.1 ≡ some None ∷ [] = λ j. put_back (out j) (carried j) in (
        with_closed v,
        gives,
        tt,
        (
          k.0,
          k.1,
          k.2,
          k.3,
          set-get_or s.words 0 0 ∙ k.4,
          subst (λ (l : List (maybe.Option S)). H k.0 k.1 k.2 k.3 l (set s.views id (with_closed v))) (sym home) (close_holds k.0 k.1 k.2 k.3 s.homes s.views id v at turn' h),
        ),
        λ j. (with_closed v, rest (carried j)),
      )

  -- the slot of a turn that was closed is empty at the end
  pub closed_empty : (ws : List ℕ) (xs : List S) (id : ℕ) (v : V) (log : List E) → v.closed ≡ true → v.turn ≡ Some log → Final (Seen (Kept stands lasts fixed who) id v) ws xs → get_elem? xs 0 ≡ some None
  closed_empty ws xs id v log is_closed turn f =
      let s : State S V = f.0 in let k = f.1.0 in let at = f.1.1 in let h = k.5 in
      let is = ((h.each id v at).queue.turn log turn).1 in let turn' : v.turn ≡ Some k.3 = turn ∙ ap (λ (l : List E). Some l) is in
      let home : s.homes ≡ some None ∷ [] = ⊎_elim (λ (home : IsInSlot stands lasts fixed who k.3 s.homes s.views). absurd (cc (turn', home.3 id v at)))
      (λ (out : IsOut stands lasts fixed who k.3 s.homes s.views).
      let here : out.0 ≡ id = h.apart out.0 id out.1 v k.1 out.2 at ((h.each out.0 out.1 out.2).queue.turn k.3 out.3).0 ((h.each id v at).queue.turn log turn).0 in
      let same : out.1 ≡ v = some-injective out.1 v (sym out.2 ∙ (ap (get_elem? s.views) here ∙ at)) in
      out.4 ∙ ap (λ (b : Bool). let l : List (maybe.Option S) = slot_content b ∷ [] in l) (ap (λ (z : V). z.closed) same ∙ is_closed))
      h.value in
      f.4 0 None (ap (λ (l : List (maybe.Option S)). get_elem? l 0) home)
