-- New views, merged views, counting and drawing a number keep the rule.
use Rattle.std.proofs.Common.{◌≡◌, ◌≢◌, inl, inr, ⊎_elim, ℕ, ◌+◌, ◌%◌, ◌^◌, ◌<◌, ◌≤◌, true, List, [], ◌∷◌, ◌++◌, length, get_or, set, refl, ap, sym, ◌∙◌, subst, le_refl, mod-eq_of_lt, arith, Option, Some, None}
use Rattle.std.specs.List.{AllByRecursion}
use lib.Seq.{set-get_or}
use mathlib.Core.Option.{some, none, some-injective, some-ne-none}
use mathlib.Core.Option as maybe
use mathlib.Core.Logic.{dite}
use native.Mathlib.Decide.{ℕ_discrete}
use lib.ListN.{get_elem?}
use Rattle.atomic_table.specs.Table.{Me, step, keeps, Allows, Splits, Joins}
use Rattle.atomic_table.proofs.Lists.{set_here, set_else, set_again, at_snoc, at_longer}
use Rattle.sx_turn.specs.declared.seat.TheConstants.{MAX_SEATS}
use Rattle.sx_turn.specs.declared.rule.View.{View}
use Rattle.sx_turn.specs.Places.{places, times, once_below}
use Rattle.sx_turn.specs.Views.{owned_pairs, ticket_count, times_owned, pairs_with, one_if, newcomer, merged, with_count, with_number, owned_count}
use Rattle.sx_turn.specs.Rules.{Fits, IsInSlot, IsOut, Holds, Kept}
use Rattle.sx_turn.specs.Moves.{CountTells, EnrolTells, RecallTells}
use Rattle.std.proofs.lemmas.List.Sums.{sum_by_push}
use Rattle.sx_turn.proofs.Lists.{each_first, each_map, inside, longer_whole, prefix_shorter, sum_by_at, sum_by_only, sum_by_set, sum_by_two}
use Rattle.sx_turn.proofs.Places.{once_here, once_more, once_one, places_none, times_most}
use Rattle.sx_turn.proofs.Reseat.{others_idle, reseat, unmoved, value_stays, whole_stays}
use Rattle.sx_turn.proofs.Views.{apart_set, merged_fits, each_set, times_merged, idle_queue, count_numbered, count_merged, uncounted}

module _ {B E : Type 0} (stands : B → List E) (lasts : B → ℕ) (fixed : ℕ) (who : E → ℕ) where
  abbrev V : Type 0
  V = View E

  abbrev S : Type 0
  S = Option B

  abbrev H : ℕ → ℕ → ℕ → List E → List (maybe.Option S) → List V → Type 0
  H = Holds stands lasts fixed who

  -- the rule holds with a new view that has no number and knows no more than another
  pub branch_holds : (a b c : ℕ) (log : List E) (homes : List (maybe.Option S)) (vs : List V) (id : ℕ) (v : V) → get_elem? vs id ≡ some v → H a b c log homes vs → H a b c log homes (vs ++ newcomer v.lasting v.seen v.known ∷ [])
  branch_holds a b c log homes vs id v at h = let f = h.each id v at in let w : V = newcomer v.lasting v.seen v.known in record {
    each = (λ j u e. ⊎_elim (h.each j u) (λ (is : w ≡ u). subst (Fits who a b c log) is record {
      history = record {
        seen = f.history.seen;
        olds = tt;
        exact = tt;
      };
      queue = idle_queue _ _ log;
      count = uncounted f.count.known;
    }) (at_snoc vs w u j e));
    apart = (λ i j x y t ei ej ti tj. ⊎_elim
        (λ (p : get_elem? vs i ≡ some x). ⊎_elim (λ (q : get_elem? vs j ≡ some y). h.apart i j x y t p q ti tj) (λ (q : w ≡ y). absurd (cc (ap (λ (z : V). z.ticket) q ∙ tj))) (at_snoc vs w y j ej))
        (λ (p : w ≡ x). absurd (cc (ap (λ (z : V). z.ticket) p ∙ ti)))
        (at_snoc vs w x i ei));
    waiting = (let t = sum_by_push ticket_count vs w in let n = h.waiting in omega arith);
    numbers = (λ n. let t = sum_by_push (times_owned n) vs w in let k = h.numbers n in omega arith);
    shared = (let t = sum_by_push owned_count vs w in let k = h.shared in omega arith);
    small = h.small;
    bound = h.bound;
    whole = (let o = h.whole in (o.0, o.1, o.2, at_longer vs (w ∷ []) o.0 o.1 o.3, o.4, o.5));
    entries = h.entries;
    lasting = (λ j u n e q. ⊎_elim (λ (p : get_elem? vs j ≡ some u). h.lasting j u n p q) (λ (is : w ≡ u). h.lasting id v n at (ap (λ (z : V). z.lasting) is ∙ q)) (at_snoc vs w u j e));
    value = ⊎_elim
        (λ (d : IsInSlot stands lasts fixed who log homes vs). inl (d.0, d.1, d.2, λ j u e. ⊎_elim (d.3 j u) (λ (is : w ≡ u). ap (λ (z : V). z.turn) (sym is)) (at_snoc vs w u j e), d.4))
        (λ (d : IsOut stands lasts fixed who log homes vs). inr (d.0, d.1, at_longer vs (w ∷ []) d.0 d.1 d.2, d.3, d.4))
        h.value;
  }

  -- a new view beside another keeps the rule
  pub branch_keeps : (id : ℕ) (v : V) → Splits (Kept stands lasts fixed who) id v v (newcomer v.lasting v.seen v.known)
  branch_keeps id v s k at = (
    k.0,
    k.1,
    k.2,
    k.3,
    k.4,
    subst (λ (vs : List V). H k.0 k.1 k.2 k.3 s.homes (vs ++ newcomer v.lasting v.seen v.known ∷ [])) (sym (set_again s.views id v at)) (branch_holds k.0 k.1 k.2 k.3 s.homes s.views id v at k.5),
  )

  -- the rule holds after two idle views are made one
  pub merge_holds : (a b c n : ℕ) (log : List E) (homes : List (maybe.Option S)) (vs : List V) (id other : ℕ) (v w : V) → get_elem? vs id ≡ some v → ¬ (other ≡ id) → get_elem? (set vs id (merged v w)) other ≡ some w
      → v.number ≡ Some n → v.ticket ≡ None → w.ticket ≡ None → H a b c log homes vs → H a b c log homes (set (set vs id (merged v w)) other (newcomer None [] 0))
  merge_holds a b c n log homes vs id other v w at ne there num free free' h =
      let t : V = merged v w in let z : V = newcomer None [] 0 in let vs1 : List V = set vs id t in let vs2 : List V = set vs1 other z in
      let at' : get_elem? vs other ≡ some w = sym (set_else vs id other t ne) ∙ there in
      let f = h.each id v at in let g = h.each other w at' in
      let none_z : Fits who a b c log z = record { history = record { seen = (log, refl); olds = tt; exact = tt }; queue = idle_queue _ _ log; count = uncounted (omega arith) } in
      let here : get_elem? vs1 id ≡ some t = set_here vs id t (inside vs id v at) in
      let here2 : get_elem? vs2 id ≡ some t = set_else vs1 other id z (λ e. ne (sym e)) ∙ here in record {
        each = each_set (λ j u. Fits who a b c log u) vs1 other z none_z (λ j u _. each_set (λ j u. Fits who a b c log u) vs id t (merged_fits who a b c n log v w num free f g) (λ j u _. h.each j u) j u);
        apart = apart_set vs1 other z (apart_set vs id t h.apart (λ t j u e. absurd (cc (e, free)))) (λ t j u e. absurd (cc e));
        waiting = (let p = sum_by_set ticket_count vs id v t at in let q = sum_by_set ticket_count vs1 other w z there in let k = h.waiting in let x : ticket_count w ≡ 0 = ap one_if free' in omega arith);
        numbers = (λ m. let p = sum_by_set (times_owned m) vs id v t at in let q = sum_by_set (times_owned m) vs1 other w z there in let k = h.numbers m in let x = times_merged m n v w num in omega arith);
        shared = (let p = sum_by_set owned_count vs id v t at in let q = sum_by_set owned_count vs1 other w z there in let k = h.shared in let x = count_merged n v w num in omega arith);
        small = h.small;
        bound = h.bound;
        whole = (let o = h.whole in dite (ℕ_discrete o.0 id)
            (λ is. let same : o.1 ≡ v = some-injective o.1 v (sym o.3 ∙ (ap (get_elem? vs) is ∙ at)) in
            (id, t, n, here2, num, longer_whole v.seen w.seen log f.history.seen g.history.seen (inl (ap (λ (u : V). u.seen) (sym same) ∙ o.5))))
            (λ ni. dite (ℕ_discrete o.0 other)
            (λ is. let same : o.1 ≡ w = some-injective o.1 w (sym o.3 ∙ (ap (get_elem? vs) is ∙ at')) in
            (id, t, n, here2, num, longer_whole v.seen w.seen log f.history.seen g.history.seen (inr (ap (λ (u : V). u.seen) (sym same) ∙ o.5))))
            (λ no. (o.0, o.1, o.2, set_else vs1 other o.0 z no ∙ (set_else vs id o.0 t ni ∙ o.3), o.4, o.5))));
        entries = h.entries;
        lasting = (let P : ℕ → V → Type 0 = λ j u. (m : ℕ) → u.lasting ≡ Some m → m ≡ fixed in
            λ j u m e q. each_set P vs1 other z (λ m q. absurd (cc q)) (λ j u _. each_set P vs id t (λ m q. h.lasting id v m at q) (λ j u ne e m q. h.lasting j u m e q) j u) j u e m q);
        value = ⊎_elim
            (λ (d : IsInSlot stands lasts fixed who log homes vs). inl (d.0, d.1, d.2, each_set (λ j u. u.turn ≡ None) vs1 other z refl (λ j u _. each_set (λ j u. u.turn ≡ None) vs id t (d.3 id v at) (λ j u _. d.3 j u) j u), d.4))
            (λ (d : IsOut stands lasts fixed who log homes vs). let it = d in let its = ((h.each it.0 it.1 it.2).queue.turn log it.3).0 in
            let ni : it.0 ≢ id = λ is. let same : it.1 ≡ v = some-injective it.1 v (sym it.2 ∙ (ap (get_elem? vs) is ∙ at)) in cc (ap (λ (u : V). u.ticket) same, its, free) in
            let no : it.0 ≢ other = λ is. let same : it.1 ≡ w = some-injective it.1 w (sym it.2 ∙ (ap (get_elem? vs) is ∙ at')) in cc (ap (λ (u : V). u.ticket) same, its, free') in
            inr (it.0, it.1, set_else vs1 other it.0 z no ∙ (set_else vs id it.0 t ni ∙ it.2), it.3, it.4))
            h.value;
      }

  -- two views made one keep the rule
  pub merge_keeps : (id : ℕ) (v : V) (other : ℕ) (w : V) (n : ℕ) → v.number ≡ Some n → v.ticket ≡ None → w.ticket ≡ None → Joins (Kept stands lasts fixed who) id v other w (merged v w) (newcomer None [] 0)
  merge_keeps id v other w n num free free' s k at ne there = (k.0, k.1, k.2, k.3, k.4, merge_holds k.0 k.1 k.2 n k.3 s.homes s.views id other v w at ne there num free free' k.5)

  -- recall keeps the rule, and tells what it says of the own view
  pub recall_keeps : (slots id : ℕ) (me : Me S V) → Allows (Kept stands lasts fixed who) slots id me 0 (λ n. n) (RecallTells who (step slots 0 0 0 none) me)
  recall_keeps slots id me s k _ at _ = let h = k.5 in let f = h.each id me.0 at in let most = h.bound in let all = h.shared in let part = sum_by_at owned_count s.views id me.0 at in (
    me.0,
    keeps,
    tt,
    unmoved stands lasts fixed who s 0 id me.1 me.0 k at,
    (refl, (each_map _ _ (λ o p le. prefix_shorter o me.0.seen k.3 p f.history.seen le) me.0.olds f.history.olds, each_map _ _ (λ p q. q.1) (owned_pairs me.0) f.history.exact, omega arith, (λ n. let all = h.numbers n in let most = once_one n k.2 in let part = sum_by_at (times_owned n) s.views id me.0 at in omega arith))),
  )

  -- the rule holds after the numbers are counted in a turn
  pub count_holds : (a b c : ℕ) (log : List E) (homes : List (maybe.Option S)) (vs : List V) (id : ℕ) (v : V) → get_elem? vs id ≡ some v → v.turn ≡ Some log → H a b c log homes vs → H a b c log homes (set vs id (with_count c v))
  count_holds a b c log homes vs id v at turn h = let f = h.each id v at in let w : V = with_count c v in
      reseat stands lasts fixed who a b c a b c log log homes homes vs id v w at h record {
        fits = record { history = f.history; queue = f.queue; count = record { known = le_refl c; counted = (λ l. (refl, turn)) } };
        others = (λ j u ne e g. g);
        fresh = (λ t j u e ne eu tu. ne (h.apart j id u v t eu at tu e));
        waiting = (omega arith);
        numbers = (λ n. refl);
        shared = refl;
        small = h.small;
        bound = h.bound;
        whole = (whole_stays stands lasts fixed who log vs id v w at refl refl h.whole);
        entries = h.entries;
        lasting = (λ n e. h.lasting id v n at e);
        value = (value_stays stands lasts fixed who log homes vs id v w at refl refl h.value);
      }

  -- a view that owns as many pairs as there are numbers owns each number, and has seen all
  pub all_seen : (a b c : ℕ) (log : List E) (homes : List (maybe.Option S)) (vs : List V) (id : ℕ) (v : V) → get_elem? vs id ≡ some v → H a b c log homes vs → c ≤ owned_count v
      → (v.seen ≡ log) × AllByRecursion (λ e. times_owned (who e) v ≡ 1) log × ((n : ℕ) → times_owned n v ≡ once_below n c)
  all_seen a b c log homes vs id v at h all =
      let others : (j : ℕ) (u : V) → j ≢ id → get_elem? vs j ≡ some u → owned_count u ≡ 0 = λ j u ne e. let two = sum_by_two owned_count vs id j v u (λ q. ne (sym q)) at e in let k = h.shared in omega arith in
      let o = h.whole in let least = count_numbered o.1 o.2 o.4 in
      let own : (n : ℕ) → times_owned n v ≡ once_below n c = λ n. sym (sum_by_only (times_owned n) vs id v at (λ j u ne q. let z = others j u ne q in let m = times_most n (owned_pairs u) in omega arith)) ∙ h.numbers n in (
        dite (ℕ_discrete o.0 id)
            (λ is. let same : o.1 ≡ v = some-injective o.1 v (sym o.3 ∙ (ap (get_elem? vs) is ∙ at)) in ap (λ (z : V). z.seen) (sym same) ∙ o.5)
            (λ ne. let none_of = others o.0 o.1 ne o.3 in absurd (omega arith)),
        each_map _ _ (λ e l. own (who e) ∙ once_here (who e) c l) log h.entries,
        own,
      )

  -- count keeps the rule
  pub count_keeps : (slots id : ℕ) (me : Me S V) (log : List E) → me.0.turn ≡ Some log → Allows (Kept stands lasts fixed who) slots id me 2 (λ n. n) (CountTells who (step slots 2 0 0 none) me)
  count_keeps slots id me log turn s k _ at _ =
      let v : V = me.0 in let n : ℕ = get_or s.words 2 0 in let now : n ≡ k.2 = ap (λ (ws : List ℕ). get_or ws 2 0) k.4 in let h = k.5 in let f = h.each id v at in
      let is = (f.queue.turn log turn).1 in let turn' : v.turn ≡ Some k.3 = turn ∙ ap (λ (l : List E). Some l) is in
      let most = h.bound in let all = h.shared in let part = sum_by_at owned_count s.views id v at in let f' = f.count.known in (
        with_count n v,
        keeps,
        tt,
        (
          k.0,
          k.1,
          k.2,
          k.3,
          set-get_or s.words 2 0 ∙ k.4,
          subst (λ (m : ℕ). H k.0 k.1 k.2 k.3 s.homes (set s.views id (with_count m v))) (sym now) (count_holds k.0 k.1 k.2 k.3 s.homes s.views id v at turn' h),
        ),
        λ x e. let same : k.3 ≡ x = cc (sym turn' ∙ e) in (
          refl,
          omega arith,
          omega arith,
          omega arith,
          omega arith,
          subst (λ (z : List E × ℕ). AllByRecursion (λ e. who e < z.1) z.0) (λ j. (same j, sym now j)) h.entries,
          λ l. let r = all_seen k.0 k.1 k.2 k.3 s.homes s.views id v at h (omega arith) in (
            r.0 ∙ same,
            subst (λ (z : List E). AllByRecursion (λ e. times_owned (who e) v ≡ 1) z) same r.1,
            each_map _ _ (λ p q. q.1) (owned_pairs v) f.history.exact,
            subst (λ (z : ℕ). (n : ℕ) → times_owned n v ≡ once_below n z) (sym now) r.2,
          ),
          λ q. let every = h.numbers q in let once = once_one q k.2 in let share = sum_by_at (times_owned q) s.views id v at in omega arith,
        ),
      )

  -- the rule holds after a number is drawn in a turn
  pub enrol_holds : (a b c : ℕ) (log : List E) (homes : List (maybe.Option S)) (vs : List V) (id : ℕ) (v : V) → get_elem? vs id ≡ some v → v.turn ≡ Some log → v.number ≡ None → c < MAX_SEATS → H a b c log homes vs
      → H a b (c + 1) log homes (set vs id (with_number c v))
  enrol_holds a b c log homes vs id v at turn num room h = let f = h.each id v at in let w : V = with_number c v in let served : v.ticket ≡ Some b = (f.queue.turn log turn).0 in
      let idle = others_idle stands lasts fixed who a b c log homes vs id v at served h in
      let Q : ℕ × List ℕ → Type 0 = λ p. (p.1 ≡ places who p.0 log) × (p.1 ≡ places who p.0 v.seen) in
      let was : owned_pairs v ≡ v.ended = ap (λ (o : Option ℕ). pairs_with o v.mine v.ended) num in
      let below : AllByRecursion (λ e. who e < c) (v.seen ++ f.history.seen.0) = subst (AllByRecursion (λ e. who e < c)) (sym f.history.seen.1) h.entries in
      reseat stands lasts fixed who a b c a b (c + 1) log log homes homes vs id v w at h record {
        fits = record {
          history = record {
            seen = f.history.seen;
            olds = f.history.olds;
            exact = ((sym (places_none who c 1 log h.entries), sym (places_none who c 1 v.seen (each_first (λ e. who e < c) v.seen f.history.seen.0 below))), subst (AllByRecursion Q) was f.history.exact);
          };
          queue = f.queue;
          count = record {
            known = le_refl (c + 1);
            counted = (λ l. (refl, turn));
          };
        };
        others = (λ j u ne e g. let i = idle j u ne e in record {
          history = g.history;
          queue = g.queue;
          count = record {
            known = (let k = g.count.known in omega arith);
            counted = (λ l. let q = g.count.counted l in absurd (cc (q.1, i.0)));
          };
        });
        fresh = (λ t j u e ne eu tu. ne (h.apart j id u v t eu at tu e));
        waiting = (omega arith);
        numbers = (λ n. let m = once_more n c in let l : times_owned n v ≡ times n v.ended = ap (times n) was in omega arith);
        shared = (let l : owned_count v ≡ length v.ended = ap length was in omega arith);
        small = h.small;
        bound = (let k = h.bound in (omega arith, omega arith));
        whole = (let o = h.whole in dite (ℕ_discrete o.0 id)
            (λ is. let same : o.1 ≡ v = some-injective o.1 v (sym o.3 ∙ (ap (get_elem? vs) is ∙ at)) in absurd (cc (ap (λ (z : V). z.number) same, o.4, num)))
            (λ ne. (o.0, o.1, o.2, set_else vs id o.0 w ne ∙ o.3, o.4, o.5)));
        entries = (each_map _ _ (λ e l. omega arith) log h.entries);
        lasting = (λ n e. h.lasting id v n at e);
        value = (value_stays stands lasts fixed who log homes vs id v w at refl refl h.value);
      }

  -- enrol keeps the rule
  pub enrol_keeps : (slots id : ℕ) (me : Me S V) (log : List E) → me.0.turn ≡ Some log → me.0.number ≡ None → me.0.counted ≡ true → me.0.known < MAX_SEATS
      → Allows (Kept stands lasts fixed who) slots id me 2 (λ n. (n + 1) % 2 ^ 64) (EnrolTells (step slots 2 1 0 none) me)
  enrol_keeps slots id me log turn num look room s k _ at _ =
      let v : V = me.0 in let n : ℕ = get_or s.words 2 0 in let now : n ≡ k.2 = ap (λ (ws : List ℕ). get_or ws 2 0) k.4 in let h = k.5 in let f = h.each id v at in
      let is = (f.queue.turn log turn).1 in let turn' : v.turn ≡ Some k.3 = turn ∙ ap (λ (l : List E). Some l) is in
      let same : v.known ≡ k.2 = (f.count.counted look).0 in
      let up : (n + 1) % 2 ^ 64 ≡ k.2 + 1 = ap (λ (z : ℕ). (z + 1) % 2 ^ 64) now ∙ mod-eq_of_lt (omega arith) in (
        with_number n v,
        keeps,
        tt,
        (
          k.0,
          k.1,
          k.2 + 1,
          k.3,
          ap (λ (ws : List ℕ). set ws 2 ((n + 1) % 2 ^ 64)) k.4 ∙ ap (λ (z : ℕ). k.0 ∷ k.1 ∷ z ∷ []) up,
          subst (λ (m : ℕ). H k.0 k.1 (k.2 + 1) k.3 s.homes (set s.views id (with_number m v))) (sym now) (enrol_holds k.0 k.1 k.2 k.3 s.homes s.views id v at turn' num (omega arith) h),
        ),
        (now ∙ sym same, refl),
      )
