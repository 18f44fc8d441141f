-- What the steps of one call tell together.
use Rattle.std.proofs.Common.{◌≡◌, inl, ℕ, ◌<◌, ◌≤◌, true, false, List, [], ◌∷◌, refl, ap, sym, ◌∙◌, subst, arith, Option, Some, None}
use Rattle.std.specs.List.{AllByRecursion}
use Rattle.atomic_table.specs.Table.{Me, rest}
use Rattle.sx_turn.specs.declared.seat.TheConstants.{MAX_SEATS}
use Rattle.sx_turn.specs.declared.rule.View.{View}
use Rattle.sx_turn.specs.Places.{once_below}
use Rattle.sx_turn.specs.Views.{times_owned, owned_count, with_ticket, in_turn, with_count, with_number, newcomer, after_next, after_turn, with_closed, enrolled_view, Extends}
use Rattle.sx_turn.specs.Moves.{TurnBegins, MayEnd, TurnEnds, TakenOut, IsClosed, StillOut, CallersCounted, CountedInTurn, NumberDrawn}
use Rattle.sx_turn.proofs.Places.{grown_same}

module _ {B E : Type 0} (stands : B → List E) (lasts : B → ℕ) (who : E → ℕ) where
  abbrev M : Type 0
  M = Me (Option B) (View E)

  -- the moves of a count: a ticket was drawn, the turn began, the numbers were counted
  pub count_call : (m a b c : M) (t n : ℕ) → ((l : ℕ) × (m.0.lasting ≡ Some l)) → a ≡ (with_ticket t m.0, []) → TurnBegins stands lasts who a b → CallersCounted who b n c → CountedInTurn stands lasts who m n c
  count_call m a b c t n lasting drawn beg counted = let y : B = beg.0 in
      let e : b ≡ (in_turn (stands y) (with_ticket t m.0), (0, Some y) ∷ []) = beg.1 ∙ ap (λ (z : M). let r : M = (in_turn (stands y) z.0, (0, Some y) ∷ []) in r) drawn in
      let k = subst (λ (z : M). CallersCounted who z n c) e counted (stands y) refl in
      (y, t, k.0, subst (λ (z : M). Extends who z.0 (stands y)) drawn beg.2, k.1, k.2, k.3, k.4, k.5, k.6, k.7, lasting.1 ∙ ap (λ (l : ℕ). Some l) (sym (beg.3 lasting.0 (ap (λ (z : M). z.0.lasting) drawn ∙ lasting.1))))

  -- a new view that has counted is in its turn without a number
  pub enrol_counted : (m c : M) (n : ℕ) → m ≡ (newcomer m.0.lasting m.0.seen m.0.known, []) → CountedInTurn stands lasts who m n c
      → (h : List E) × (c.0.turn ≡ Some h) × (c.0.number ≡ None) × (c.0.counted ≡ true) × (c.0.known ≡ n)
  enrol_counted m c n fresh k = (stands k.0, ap (λ (z : M). z.0.turn) k.2, ap (λ (z : M). z.0.number) k.2 ∙ ap (λ (z : M). z.0.number) fresh, ap (λ (z : M). z.0.counted) k.2, ap (λ (z : M). z.0.known) k.2)

  -- a new view that has drawn its number may end its turn
  pub enrol_may_end : (m c d : M) (n r : ℕ) → CountedInTurn stands lasts who m n c → d ≡ (with_number r c.0, c.1) → MayEnd stands lasts who d
  enrol_may_end m c d n r k did = let y : B = k.0 in
      let is : d ≡ (with_number r (with_count n (in_turn (stands y) (with_ticket k.1 m.0))), (0, Some y) ∷ []) = did ∙ ap (λ (z : M). let q : M = (with_number r z.0, z.1) in q) k.2 in
      (y, stands y, ap (λ (z : M). z.1) is, ap (λ (z : M). z.0.turn) is, ap (λ (z : M). z.0.closed) is, (ap (λ (z : M). z.0.lasting) is ∙ k.11, inl refl))

  -- a view that has counted may end its turn
  pub count_may_end : (m c : M) (n : ℕ) → CountedInTurn stands lasts who m n c → MayEnd stands lasts who c
  count_may_end m c n k = (k.0, stands k.0, ap (λ (z : M). z.1) k.2, ap (λ (z : M). z.0.turn) k.2, ap (λ (z : M). z.0.closed) k.2, (ap (λ (z : M). z.0.lasting) k.2 ∙ k.11, inl refl))

  -- the moves of a number drawn: counted, drawn, and the turn ended
  pub enrol_call : (m c d e : M) (n r : ℕ) → m ≡ (newcomer m.0.lasting m.0.seen m.0.known, []) → CountedInTurn stands lasts who m n c → d ≡ (with_number r c.0, c.1) → r ≡ n → n < MAX_SEATS → TurnEnds stands d e → NumberDrawn who m.0 n e
  enrol_call m c d e n r fresh k did same room left = let y : B = k.0 in
      let is : d ≡ (with_number n (with_count n (in_turn (stands y) (with_ticket k.1 (newcomer m.0.lasting m.0.seen m.0.known)))), (0, Some y) ∷ []) =
      did ∙ (ap (λ (x : ℕ × M). let q : M = (with_number x.0 x.1.0, x.1.1) in q) (λ j. (same j, k.2 j)) ∙ ap (λ (z : M). let q : M = (with_number n (with_count n (in_turn (stands y) (with_ticket k.1 z.0))), (0, Some y) ∷ []) in q) fresh) in
      let gone : e ≡ (after_next (stands y) d.0, []) = left y (ap (λ (z : M). z.1) is) in (
        stands y,
        k.3.0,
        k.6,
        k.5,
        k.8,
        (λ _. gone ∙ ap (λ (z : M). let q : M = (after_next (stands y) z.0, []) in q) is ∙ ap (λ (l : List ℕ). let q : M = (record (enrolled_view m.0.lasting n (stands y)) { mine = l }, []) in q) (grown_same (Some (stands y)) [] (stands y) refl)),
        (λ l. absurd (omega arith)),
        k.4,
      )

  -- the moves where no number was left: counted, and the turn ended
  pub refuse_call : (m c e : M) (n : ℕ) → m ≡ (newcomer m.0.lasting m.0.seen m.0.known, []) → CountedInTurn stands lasts who m n c → MAX_SEATS ≤ n → TurnEnds stands c e → NumberDrawn who m.0 n e
  refuse_call m c e n fresh k full left = let y : B = k.0 in
      let is : c ≡ (with_count n (in_turn (stands y) (with_ticket k.1 (newcomer m.0.lasting m.0.seen m.0.known))), (0, Some y) ∷ []) = k.2 ∙ ap (λ (z : M). let q : M = (with_count n (in_turn (stands y) (with_ticket k.1 z.0)), (0, Some y) ∷ []) in q) fresh in
      let gone : e ≡ (after_next (stands y) c.0, []) = left y (ap (λ (z : M). z.1) is) in (
        stands y,
        k.3.0,
        k.6,
        k.5,
        k.8,
        (λ l. absurd (omega arith)),
        (λ _. gone ∙ ap (λ (z : M). let q : M = (after_next (stands y) z.0, []) in q) is ∙ ap (λ (l : List ℕ). let q : M = (record (newcomer m.0.lasting (stands y) n) { mine = l }, []) in q) (grown_same (Some (stands y)) [] (stands y) refl)),
        k.4,
      )

  -- what is in equal options is equal
  some_same : (x y : B) → Some x ≡ Some y → x ≡ y
  some_same x y e = cc e

  -- the content of the slot in hand
  abbrev in_hand : List (ℕ × Option B) → Option B
  in_hand [] = None
  in_hand (x ∷ xs) = x.1

  -- the moves of a close: counted, the value taken out, and the slot returned empty
  pub close_call : (m c e d : M) (n owns : ℕ) (v : B) → CountedInTurn stands lasts who m n c → owns ≡ owned_count m.0 → n ≤ owns → c.1 ≡ (0, Some v) ∷ rest c.1 → e ≡ (c.0, (0, None) ∷ rest c.1) → d ≡ (with_closed e.0, [])
      → TakenOut stands lasts who m.0 v × IsClosed d
  close_call m c e d n owns v k own all took left emptied = let y : B = k.0 in
      let hand : c.1 ≡ (0, Some y) ∷ [] = ap (λ (z : M). z.1) k.2 in
      let same : y ≡ v = some_same y v (ap in_hand (sym hand ∙ took)) in
      let least = k.7 in let knew = k.4 in let count : n ≡ owned_count m.0 = omega arith in
      let r = k.9 (omega arith) in
      let turn : d.0.turn ≡ Some (stands y) = ap (λ (z : M). z.0.turn) emptied ∙ (ap (λ (z : M). z.0.turn) left ∙ ap (λ (z : M). z.0.turn) k.2) in (
        (
          sym (ap stands same) ∙ sym r.0,
          (
            refl,
            subst (λ (l : List E). AllByRecursion (λ e. times_owned (who e) m.0 ≡ 1) l) (sym r.0) r.1,
            r.2,
            subst (λ (z : ℕ). (i : ℕ) → times_owned i m.0 ≡ once_below i z) count r.3,
          ),
          omega arith,
          k.11 ∙ ap (λ (z : B). Some (lasts z)) same,
        ),
        (ap (λ (z : M). z.0.closed) emptied, (stands y, turn), ap (λ (z : M). z.1) emptied),
      )

  -- the moves of a refused close: counted, and the turn ended
  pub still_out_call : (m c e : M) (n owns : ℕ) → m.1 ≡ [] → CountedInTurn stands lasts who m n c → owns < n → TurnEnds stands c e → StillOut {B = B} who owns m n e
  still_out_call m c e n owns none_held k out left = let y : B = k.0 in
      let gone : e ≡ (after_next (stands y) c.0, []) = left y (ap (λ (z : M). z.1) k.2) in (
        out,
        k.6,
        k.4,
        k.10,
        (stands y, gone ∙ (ap (λ (z : M). let q : M = (after_next (stands y) z.0, []) in q) k.2 ∙ ap (λ (l : List ℕ). let q : M = (record (after_turn (stands y) l m.0) { known = n; closed = false }, []) in q) (grown_same (Some (stands y)) m.0.mine (stands y) refl)), k.3),
      )
