-- Draw, look and next keep the rule.
use Rattle.std.proofs.Common.{◌≡◌, ◌≢◌, inl, inr, ⊎_elim, ℕ, ◌+◌, ◌%◌, ◌^◌, ◌<◌, eqb, Bool, false, List, [], ◌∷◌, ◌++◌, length, get_or, set, refl, ap, sym, ◌∙◌, subst, mod-eq_of_lt, if◌then◌else◌, eq-eqb, arith, Option, Some, None}
use Rattle.std.specs.List.{AllByRecursion}
use lib.Seq.{set-get_or}
use mathlib.Core.Option.{some, none, some-injective, some-ne-none}
use mathlib.Core.Option as maybe
use mathlib.Core.List.{IsPrefix}
use mathlib.Core.Logic.{dite}
use native.Mathlib.Decide.{ℕ_discrete}
use lib.ListN.{get_elem?}
use prog.Atomic.{either}
use Rattle.atomic_table.specs.Table.{Me, Act, step, keeps, takes, gives, stepped, Valid, carried_after, put_back, rest, Allows}
use Rattle.atomic_table.proofs.Lists.{set_here, set_else, exchanged}
use Rattle.sx_turn.specs.declared.rule.View.{View}
use Rattle.sx_turn.specs.Places.{places, times, once_below, places_grown}
use Rattle.sx_turn.specs.Views.{owned_pairs, ticket_count, times_owned, pairs_with, with_ticket, in_turn, one_if, after_turn}
use Rattle.sx_turn.specs.Rules.{IsInSlot, IsOut, Holds, Kept}
use Rattle.sx_turn.specs.Moves.{MayEndWith, DrawTells, LookTells, NextTells}
use Rattle.sx_turn.proofs.Lists.{each_map, each_snoc, inside, prefix_more, prefix_self, sum_by_at, sum_by_two}
use Rattle.sx_turn.proofs.Places.{grown_more, grown_same, once_in, once_one}
use Rattle.sx_turn.proofs.Reseat.{is_out, others_idle, reseat, unmoved, value_stays, whole_stays}
use Rattle.sx_turn.proofs.Views.{each_set, idle_queue, others_stay, others_grown, pairs_own, ticket_is, uncounted}

module _ {B E : Type 0} (stands : B → List E) (lasts : B → ℕ) (fixed : ℕ) (who : E → ℕ) where
  abbrev V : Type 0
  V = View E

  abbrev S : Type 0
  S = Option B

  abbrev H : ℕ → ℕ → ℕ → List E → List (maybe.Option S) → List V → Type 0
  H = Holds stands lasts fixed who

  -- the rule holds after a ticket is drawn
  pub draw_holds : (a b c : ℕ) (log : List E) (homes : List (maybe.Option S)) (vs : List V) (id : ℕ) (v : V) → get_elem? vs id ≡ some v → v.ticket ≡ None → a + 1 < 2 ^ 64 → H a b c log homes vs
      → H (a + 1) b c log homes (set vs id (with_ticket a v))
  draw_holds a b c log homes vs id v at free small h = let f = h.each id v at in let wait = h.waiting in let none_yet : ticket_count v ≡ 0 = ap one_if free in let w : V = with_ticket a v in
      reseat stands lasts fixed who a b c (a + 1) b c log log homes homes vs id v w at h record {
        fits = record {
          history = f.history;
          queue = record {
            ticket = (λ t e. let is : a ≡ t = cc e in (omega arith, omega arith));
            turn = (λ x e. absurd (cc (free, (f.queue.turn x e).0)));
          };
          count = f.count;
        };
        others = (λ j u ne e g. record { history = g.history; queue = record { ticket = (λ t e. let q = g.queue.ticket t e in (q.0, omega arith)); turn = g.queue.turn }; count = g.count });
        fresh = (λ t j u e ne eu tu. let q = (h.each j u eu).queue.ticket t tu in let is : a ≡ t = cc e in omega arith);
        waiting = (omega arith);
        numbers = (λ n. refl);
        shared = refl;
        small = small;
        bound = h.bound;
        whole = (whole_stays stands lasts fixed who log vs id v w at refl refl h.whole);
        entries = h.entries;
        lasting = (λ n e. h.lasting id v n at e);
        value = (value_stays stands lasts fixed who log homes vs id v w at refl refl h.value);
      }

  -- draw keeps the rule, whether the ticket was drawn or the word had changed
  pub draw_keeps : (slots id : ℕ) (me : Me S V) (old new : ℕ) → me.0.ticket ≡ None → new ≡ old + 1 → new < 2 ^ 64 → Allows (Kept stands lasts fixed who) slots id me 0 (λ n. either (eqb n old) new n) (DrawTells (step slots 0 old new none) me)
  draw_keeps slots id me old new free up small s k _ at _ =
      let n : ℕ = get_or s.words 0 0 in let now : n ≡ k.0 = ap (λ (ws : List ℕ). get_or ws 0 0) k.4 in
      exchanged n old new (λ x. (w : V) × (a : Act S) × Valid s.homes me.1 a × Kept stands lasts fixed who (stepped s 0 x id me.1 w a) × DrawTells (step slots 0 old new none) me n (w, carried_after me.1 a))
      (λ hit. let next : k.0 + 1 ≡ new = omega arith in (
        with_ticket n me.0,
        keeps,
        tt,
        (
          new,
          k.1,
          k.2,
          k.3,
          ap (λ (ws : List ℕ). set ws 0 new) k.4,
          subst (λ (x : ℕ × ℕ). H x.0 k.1 k.2 k.3 s.homes (set s.views id (with_ticket x.1 me.0))) (λ j. (next j, sym now j)) (draw_holds k.0 k.1 k.2 k.3 s.homes s.views id me.0 at free (omega arith) k.5),
        ),
        ((λ _. refl), λ miss. absurd (miss hit)),
      ))
      (λ miss. (me.0, keeps, tt, unmoved stands lasts fixed who s 0 id me.1 me.0 k at, ((λ hit. absurd (miss hit)), λ _. refl)))

  -- the rule holds after the value has come to the seat whose ticket is served
  pub look_holds : (a b c : ℕ) (log : List E) (homes : List (maybe.Option S)) (vs : List V) (id : ℕ) (v : V) → get_elem? vs id ≡ some v → v.ticket ≡ Some b → H a b c log homes vs
      → IsInSlot stands lasts fixed who log homes vs → H a b c log (none ∷ []) (set vs id (in_turn log v))
  look_holds a b c log homes vs id v at served h home = let f = h.each id v at in let w : V = in_turn log v in
      reseat stands lasts fixed who a b c a b c log log homes (none ∷ []) vs id v w at h record {
        fits = record {
          history = f.history;
          queue = record {
            ticket = f.queue.ticket;
            turn = (λ x e. (served, cc e));
          };
          count = record {
            known = f.count.known;
            counted = (λ l. ((f.count.counted l).0, refl));
          };
        };
        others = (λ j u ne e g. g);
        fresh = (λ t j u e ne eu tu. ne (h.apart j id u v t eu at tu e));
        waiting = (omega arith);
        numbers = (λ n. refl);
        shared = refl;
        small = h.small;
        bound = h.bound;
        whole = (whole_stays stands lasts fixed who log vs id v w at refl refl h.whole);
        entries = h.entries;
        lasting = (λ n e. h.lasting id v n at e);
        value = (inr (id, w, set_here vs id w (inside vs id v at), refl, refl));
      }

  -- look keeps the rule, whether the turn begins or not
  pub look_keeps : (slots id : ℕ) (me : Me S V) → me.0.turn ≡ None → Allows (Kept stands lasts fixed who) slots id me 1 (λ n. n) (LookTells stands lasts who (step slots 1 0 0 none) me)
  look_keeps slots id me idle s k _ at _ =
      let n : ℕ = get_or s.words 1 0 in let now : n ≡ k.1 = ap (λ (ws : List ℕ). get_or ws 1 0) k.4 in let h = k.5 in
      ⊎_elim
      (λ (hit : me.0.ticket ≡ Some n). let served : me.0.ticket ≡ Some k.1 = hit ∙ ap (λ (z : ℕ). Some z) now in ⊎_elim
      (λ (home : IsInSlot stands lasts fixed who k.3 s.homes s.views). (
        in_turn (stands home.0) me.0,
        takes 0 (Some home.0),
        ap (λ (hs : List (maybe.Option S)). get_elem? hs 0) home.1,
        (
          k.0,
          k.1,
          k.2,
          k.3,
          set-get_or s.words 1 0 ∙ k.4,
          subst (λ (x : List (maybe.Option S) × List E). H k.0 k.1 k.2 k.3 x.0 (set s.views id (in_turn x.1 me.0))) (λ j. (set (sym home.1 j) 0 none, sym home.2 j)) (look_holds k.0 k.1 k.2 k.3 s.homes s.views id me.0 at served h home),
        ),
        ((λ _. (home.0, refl, (subst (λ (l : List E). IsPrefix me.0.seen l) (sym home.2) (h.each id me.0 at).history.seen, subst (λ (l : List E). AllByRecursion (λ p. p.1 ≡ places who p.0 l) (owned_pairs me.0)) (sym home.2) (each_map _ _ (λ p q. q.0) (owned_pairs me.0) (h.each id me.0 at).history.exact), each_map _ _ (λ p q. q.1) (owned_pairs me.0) (h.each id me.0 at).history.exact), λ l e. home.4 ∙ sym (h.lasting id me.0 l at e))), λ miss. absurd (miss hit)),
      ))
      (λ (out : IsOut stands lasts fixed who k.3 s.homes s.views).
      let it = out in let its = (h.each it.0 it.1 it.2).queue.turn k.3 it.3 in
      let here : it.0 ≡ id = h.apart it.0 id it.1 me.0 k.1 it.2 at its.0 served in
      let same : it.1 ≡ me.0 = some-injective it.1 me.0 (sym it.2 ∙ (ap (get_elem? s.views) here ∙ at)) in
      absurd (cc (ap (λ (z : V). z.turn) same, it.3, idle)))
      h.value)
      (λ (miss : me.0.ticket ≢ Some n). (me.0, keeps, tt, unmoved stands lasts fixed who s 1 id me.1 me.0 k at, ((λ hit. absurd (miss hit)), λ _. refl)))
      (ticket_is me.0.ticket n)

  -- the rule holds after a turn that ends with the list as it was
  pub next_same_holds : (a b c : ℕ) (log : List E) (homes : List (maybe.Option S)) (vs : List V) (id : ℕ) (v : V) (y : B) → get_elem? vs id ≡ some v → v.turn ≡ Some log → stands y ≡ log → lasts y ≡ fixed → H a b c log homes vs
      → H a (b + 1) c log (some (Some y) ∷ []) (set vs id (after_turn log v.mine v))
  next_same_holds a b c log homes vs id v y at turn is held h = let f = h.each id v at in let served : v.ticket ≡ Some b = (f.queue.turn log turn).0 in let w : V = after_turn log v.mine v in
      let idle = others_idle stands lasts fixed who a b c log homes vs id v at served h in let one : ticket_count v ≡ 1 = ap one_if served in
      reseat stands lasts fixed who a b c a (b + 1) c log log homes (some (Some y) ∷ []) vs id v w at h record {
        fits = record {
          history = record {
            seen = prefix_self log;
            olds = f.history.olds;
            exact = each_map _ _ (λ p q. (q.0, q.0)) (owned_pairs v) f.history.exact;
          };
          queue = idle_queue _ _ log;
          count = uncounted f.count.known;
        };
        others = (λ j u ne e g. let i = idle j u ne e in others_stay who a b c log u i.0 i.1 g);
        fresh = (λ t j u e. absurd (cc e));
        waiting = (omega arith);
        numbers = (λ n. refl);
        shared = refl;
        small = h.small;
        bound = h.bound;
        whole = (let o = h.whole in dite (ℕ_discrete o.0 id)
            (λ here. let same : o.1 ≡ v = some-injective o.1 v (sym o.3 ∙ (ap (get_elem? vs) here ∙ at)) in (id, w, o.2, set_here vs id w (inside vs id v at), ap (λ (z : V). z.number) (sym same) ∙ o.4, refl))
            (λ ne. (o.0, o.1, o.2, set_else vs id o.0 w ne ∙ o.3, o.4, o.5)));
        entries = h.entries;
        lasting = (λ n e. h.lasting id v n at e);
        value = (inl (y, refl, is, each_set (λ j u. u.turn ≡ None) vs id w refl (λ j u ne e. (idle j u ne e).0), held));
      }

  -- the rule holds after a turn that ends with one entry more
  pub next_more_holds : (a b c : ℕ) (log : List E) (homes : List (maybe.Option S)) (vs : List V) (id : ℕ) (v : V) (y : B) (e : E) → get_elem? vs id ≡ some v → v.turn ≡ Some log → stands y ≡ log ++ e ∷ [] → v.number ≡ Some (who e) → lasts y ≡ fixed
      → H a b c log homes vs → H a (b + 1) c (log ++ e ∷ []) (some (Some y) ∷ []) (set vs id (after_turn (log ++ e ∷ []) (v.mine ++ (length log + 1) ∷ []) v))
  next_more_holds a b c log homes vs id v y e at turn is num held h =
      let f = h.each id v at in let served : v.ticket ≡ Some b = (f.queue.turn log turn).0 in let log' : List E = log ++ e ∷ [] in let w : V = after_turn log' (v.mine ++ (length log + 1) ∷ []) v in
      let idle = others_idle stands lasts fixed who a b c log homes vs id v at served h in let one : ticket_count v ≡ 1 = ap one_if served in
      let mine_is : times_owned (who e) v ≡ 1 + times (who e) v.ended = ap (λ (o : Option ℕ). times (who e) (pairs_with o v.mine v.ended)) num ∙ ap (λ (t : Bool). (if t then 1 else 0) + times (who e) v.ended) (eq-eqb (who e) (who e) refl) in
      let all = h.numbers (who e) in let most = once_one (who e) c in let share = sum_by_at (times_owned (who e)) vs id v at in
      let below : who e < c = once_in (who e) c (omega arith) in
      let mine_once : times_owned (who e) w ≡ times_owned (who e) v = ap (λ (o : Option ℕ). times (who e) (pairs_with o w.mine v.ended)) num ∙ ap (λ (o : Option ℕ). times (who e) (pairs_with o v.mine v.ended)) (sym num) in
      reseat stands lasts fixed who a b c a (b + 1) c log log' homes (some (Some y) ∷ []) vs id v w at h record {
        fits = record {
          history = record {
            seen = prefix_self log';
            olds = each_map _ _ (λ o p. prefix_more o log (e ∷ []) p) v.olds f.history.olds;
            exact = pairs_own who log e v num (omega arith) f.history.exact;
          };
          queue = idle_queue _ _ log';
          count = uncounted f.count.known;
        };
        others = (λ j u ne q g. let i = idle j u ne q in let two = sum_by_two (times_owned (who e)) vs id j v u (λ z. ne (sym z)) at q in others_grown who a b c log e u i.0 i.1 (omega arith) g);
        fresh = (λ t j u q. absurd (cc q));
        waiting = (omega arith);
        numbers = (λ n. ap (λ (k : ℕ). once_below n c + k) (ap (λ (o : Option ℕ). times n (pairs_with o v.mine v.ended)) num ∙ ap (λ (o : Option ℕ). times n (pairs_with o w.mine v.ended)) (sym num)));
        shared = (ap (λ (k : ℕ). c + k) (ap (λ (o : Option ℕ). length (pairs_with o v.mine v.ended)) num ∙ ap (λ (o : Option ℕ). length (pairs_with o w.mine v.ended)) (sym num)));
        small = h.small;
        bound = h.bound;
        whole = (id, w, who e, set_here vs id w (inside vs id v at), num, refl);
        entries = (each_snoc _ log e h.entries below);
        lasting = (λ n e. h.lasting id v n at e);
        value = (inl (y, refl, is, each_set (λ j u. u.turn ≡ None) vs id w refl (λ j u ne q. (idle j u ne q).0), held));
      }

  -- next keeps the rule
  pub next_keeps : (slots id : ℕ) (me : Me S V) (y : B) (log : List E) → me.1 ≡ (0, Some y) ∷ [] → me.0.turn ≡ Some log → me.0.closed ≡ false → MayEndWith stands lasts who log me.0 y
      → Allows (Kept stands lasts fixed who) slots id me 1 (λ n. (n + 1) % 2 ^ 64) (NextTells stands (step slots 1 1 0 none) me)
  next_keeps slots id me y log carried turn still_open may s k _ at _ =
      let v : V = me.0 in let held : lasts y ≡ fixed = k.5.lasting id v (lasts y) at may.0 in let n : ℕ = get_or s.words 1 0 in let now : n ≡ k.1 = ap (λ (ws : List ℕ). get_or ws 1 0) k.4 in let h = k.5 in
      let mine = (h.each id v at).queue.turn log turn in let turn' : v.turn ≡ Some k.3 = turn ∙ ap (λ (l : List E). Some l) mine.1 in
      let inside' = (h.each id v at).queue.ticket k.1 mine.0 in let small = h.small in
      let up : (n + 1) % 2 ^ 64 ≡ k.1 + 1 = ap (λ (z : ℕ). (z + 1) % 2 ^ 64) now ∙ mod-eq_of_lt (omega arith) in
      let words : set s.words 1 ((n + 1) % 2 ^ 64) ≡ k.0 ∷ (k.1 + 1) ∷ k.2 ∷ [] = ap (λ (ws : List ℕ). set ws 1 ((n + 1) % 2 ^ 64)) k.4 ∙ ap (λ (z : ℕ). k.0 ∷ z ∷ k.2 ∷ []) up in
      let out = is_out stands lasts fixed who k.0 k.1 k.2 k.3 s.homes s.views id v at turn' still_open h in
      let home : put_back s.homes me.1 ≡ some (Some y) ∷ [] = λ j. put_back (out j) (carried j) in
      ⊎_elim
      (λ (same : stands y ≡ log). (
        after_turn log v.mine v,
        gives,
        tt,
        (
          k.0,
          k.1 + 1,
          k.2,
          k.3,
          words,
          subst (λ (x : List (maybe.Option S) × List E). H k.0 (k.1 + 1) k.2 k.3 x.0 (set s.views id (after_turn x.1 v.mine v))) (λ j. (sym home j, sym mine.1 j))
              (next_same_holds k.0 k.1 k.2 k.3 s.homes s.views id v y at turn' (same ∙ mine.1) held h),
        ),
        λ y' c'. let b : y ≡ y' = cc (sym carried ∙ c') in let l : log ≡ stands y' = sym same ∙ ap stands b in
            let m : v.mine ≡ places_grown v.turn v.mine (stands y') = sym (grown_same v.turn v.mine log turn) ∙ ap (places_grown v.turn v.mine) l in
            λ j. (after_turn (l j) (m j) v, rest (carried j)),
      ))
      (λ (more : (e : E) × (stands y ≡ log ++ e ∷ []) × (v.number ≡ Some (who e))). let e : E = more.0 in (
        after_turn (log ++ e ∷ []) (v.mine ++ (length log + 1) ∷ []) v,
        gives,
        tt,
        (
          k.0,
          k.1 + 1,
          k.2,
          k.3 ++ e ∷ [],
          words,
          subst (λ (x : List (maybe.Option S) × List E). H k.0 (k.1 + 1) k.2 (k.3 ++ e ∷ []) x.0 (set s.views id (after_turn (x.1 ++ e ∷ []) (v.mine ++ (length x.1 + 1) ∷ []) v))) (λ j. (sym home j, sym mine.1 j))
              (next_more_holds k.0 k.1 k.2 k.3 s.homes s.views id v y e at turn' (more.1 ∙ ap (λ (l : List E). l ++ e ∷ []) mine.1) more.2 held h),
        ),
        λ y' c'. let b : y ≡ y' = cc (sym carried ∙ c') in let l : log ++ e ∷ [] ≡ stands y' = sym more.1 ∙ ap stands b in
            let m : v.mine ++ (length log + 1) ∷ [] ≡ places_grown v.turn v.mine (stands y') = sym (grown_more v.turn v.mine log e turn) ∙ ap (places_grown v.turn v.mine) l in
            λ j. (after_turn (l j) (m j) v, rest (carried j)),
      ))
      may.1
