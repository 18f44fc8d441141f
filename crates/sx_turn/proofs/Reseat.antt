-- A move that sets one view keeps the rule, where what it changes fits.
use Rattle.std.proofs.Common.{◌≡◌, ◌≢◌, ◌⊎◌, inl, inr, ⊎_elim, ℕ, ◌+◌, ◌^◌, ◌<◌, ◌≤◌, Bool, false, List, [], ◌∷◌, get_or, set, ap, sym, ◌∙◌, subst, arith, Option, Some, None}
use Rattle.std.specs.List.{AllByRecursion}
use lib.Seq.{set-get_or}
use mathlib.Core.Option.{some, none, some-injective, some-ne-none}
use mathlib.Core.Option as maybe
use mathlib.Core.Logic.{dite}
use native.Mathlib.Decide.{ℕ_discrete}
use lib.ListN.{get_elem?}
use Rattle.atomic_table.specs.Table.{State, keeps, stepped}
use Rattle.atomic_table.proofs.Lists.{set_here, set_else, set_again}
use Rattle.sx_turn.specs.declared.seat.TheConstants.{MAX_SEATS}
use Rattle.sx_turn.specs.declared.rule.View.{View}
use Rattle.sx_turn.specs.Places.{once_below}
use Rattle.sx_turn.specs.Views.{ticket_count, times_owned, owned_count}
use Rattle.sx_turn.specs.Rules.{Fits, IsInSlot, IsOut, Holds, Kept, slot_content}
use Rattle.sx_turn.proofs.Lists.{inside, none_if, sum_by_set}
use Rattle.sx_turn.proofs.Views.{apart_set, each_set}

module _ {B E : Type 0} (stands : B → List E) (lasts : B → ℕ) (fixed : ℕ) (who : E → ℕ) where
  abbrev V : Type 0
  V = View E

  abbrev S : Type 0
  S = Option B

  abbrev H : ℕ → ℕ → ℕ → List E → List (maybe.Option S) → List V → Type 0
  H = Holds stands lasts fixed who

  -- What a move owes that sets the view at id from v to w, where the words are then a', b' and c', the list log' and the slot homes'
  pub record Resets (a b c a' b' c' : ℕ) (log log' : List E) (homes' : List (maybe.Option S)) (vs : List V) (id : ℕ) (v w : V) : Type 0 where
    -- the view fits, and those of others still do
    pub fits : Fits who a' b' c' log' w
    pub others : (j : ℕ) (u : V) → j ≢ id → get_elem? vs j ≡ some u → Fits who a b c log u → Fits who a' b' c' log' u
    -- its ticket is nobody else's
    pub fresh : (t j : ℕ) (u : V) → w.ticket ≡ Some t → j ≢ id → get_elem? vs j ≡ some u → u.ticket ≢ Some t
    -- the words have changed by as much as the view's ticket and its numbers
    pub waiting : (a' + ticket_count v) + b ≡ (a + ticket_count w) + b'
    pub numbers : (n : ℕ) → once_below n c' + times_owned n v ≡ once_below n c + times_owned n w
    pub shared : c' + owned_count v ≡ c + owned_count w
    pub small : a' < 2 ^ 64
    pub bound : (1 ≤ c') × (c' ≤ MAX_SEATS)
    -- the list has been seen whole, and its entries have numbers
    pub whole : (k : ℕ) × (x : V) × (n : ℕ) × (get_elem? (set vs id w) k ≡ some x) × (x.number ≡ Some n) × (x.seen ≡ log')
    pub entries : AllByRecursion (λ e. who e < c') log'
    -- it knows the right lasting number, if any
    pub lasting : (n : ℕ) → w.lasting ≡ Some n → n ≡ fixed
    -- where the value is
    pub value : IsInSlot stands lasts fixed who log' homes' (set vs id w) ⊎ IsOut stands lasts fixed who log' homes' (set vs id w)

  -- the rule holds after one view is set
  pub reseat : (a b c a' b' c' : ℕ) (log log' : List E) (homes homes' : List (maybe.Option S)) (vs : List V) (id : ℕ) (v w : V) → get_elem? vs id ≡ some v
      → H a b c log homes vs
      → Resets a b c a' b' c' log log' homes' vs id v w
      → H a' b' c' log' homes' (set vs id w)
  reseat a b c a' b' c' log log' homes homes' vs id v w at h r = record {
    each = each_set (λ j u. Fits who a' b' c' log' u) vs id w r.fits (λ j u ne e. r.others j u ne e (h.each j u e));
    apart = apart_set vs id w h.apart r.fresh;
    waiting = (let t = sum_by_set ticket_count vs id v w at in let n = h.waiting in let s = r.waiting in omega arith);
    small = r.small;
    numbers = (λ n. let t = sum_by_set (times_owned n) vs id v w at in let k = h.numbers n in let o = r.numbers n in omega arith);
    shared = (let t = sum_by_set owned_count vs id v w at in let k = h.shared in let s = r.shared in omega arith);
    bound = r.bound;
    whole = r.whole;
    entries = r.entries;
    lasting = (λ j u n e q. each_set (λ j u. (n : ℕ) → u.lasting ≡ Some n → n ≡ fixed) vs id w r.lasting (λ j u ne e n q. h.lasting j u n e q) j u e n q);
    value = r.value;
  }

  -- a numbered view has still seen the whole list, where the set view kept its number and what it saw
  pub whole_stays : (log : List E) (vs : List V) (id : ℕ) (v w : V) → get_elem? vs id ≡ some v → w.number ≡ v.number → w.seen ≡ v.seen
      → ((k : ℕ) × (x : V) × (n : ℕ) × (get_elem? vs k ≡ some x) × (x.number ≡ Some n) × (x.seen ≡ log))
      → (k : ℕ) × (x : V) × (n : ℕ) × (get_elem? (set vs id w) k ≡ some x) × (x.number ≡ Some n) × (x.seen ≡ log)
  whole_stays log vs id v w at nums sees h = dite (ℕ_discrete h.0 id)
      (λ is. let same : v ≡ h.1 = some-injective v h.1 (sym at ∙ (ap (get_elem? vs) (sym is) ∙ h.3)) in
      (id, w, h.2, set_here vs id w (inside vs id v at), nums ∙ (ap (λ (z : V). z.number) same ∙ h.4), sees ∙ (ap (λ (z : V). z.seen) same ∙ h.5)))
      (λ ne. (h.0, h.1, h.2, set_else vs id h.0 w ne ∙ h.3, h.4, h.5))

  -- the value is where it was, where the set view kept its turn
  pub value_stays : (log : List E) (homes : List (maybe.Option S)) (vs : List V) (id : ℕ) (v w : V) → get_elem? vs id ≡ some v → w.turn ≡ v.turn → w.closed ≡ v.closed
      → IsInSlot stands lasts fixed who log homes vs ⊎ IsOut stands lasts fixed who log homes vs → IsInSlot stands lasts fixed who log homes (set vs id w) ⊎ IsOut stands lasts fixed who log homes (set vs id w)
  value_stays log homes vs id v w at same is_closed = ⊎_elim
      (λ (h : IsInSlot stands lasts fixed who log homes vs). inl (h.0, h.1, h.2, each_set (λ j u. u.turn ≡ None) vs id w (same ∙ h.3 id v at) (λ j u _ e. h.3 j u e), h.4))
      (λ (h : IsOut stands lasts fixed who log homes vs). inr (dite (ℕ_discrete h.0 id)
      (λ is. let was : v ≡ h.1 = some-injective v h.1 (sym at ∙ (ap (get_elem? vs) (sym is) ∙ h.2)) in
      (id, w, set_here vs id w (inside vs id v at), same ∙ (ap (λ (z : V). z.turn) was ∙ h.3), h.4 ∙ ap (λ (b : Bool). let l : List (maybe.Option S) = slot_content b ∷ [] in l) (sym (is_closed ∙ ap (λ (z : V). z.closed) was))))
      (λ ne. (h.0, h.1, set_else vs id h.0 w ne ∙ h.2, h.3, h.4))))

  -- a load that changes nothing keeps the rule
  pub unmoved : (s : State S V) (i id : ℕ) (cs : List (ℕ × S)) (v : V) → Kept stands lasts fixed who s → get_elem? s.views id ≡ some v → Kept stands lasts fixed who (stepped s i (get_or s.words i 0) id cs v keeps)
  unmoved s i id cs v k at = subst (λ (x : List ℕ × List V). Kept stands lasts fixed who record { words = x.0; homes = s.homes; views = x.1 }) (λ j. (sym (set-get_or s.words i 0) j, sym (set_again s.views id v at) j)) k

  -- of all views only the one in its turn has the ticket that is served
  pub others_idle : (a b c : ℕ) (log : List E) (homes : List (maybe.Option S)) (vs : List V) (id : ℕ) (v : V) → get_elem? vs id ≡ some v → v.ticket ≡ Some b → H a b c log homes vs
      → (j : ℕ) (u : V) → j ≢ id → get_elem? vs j ≡ some u → (u.turn ≡ None) × (u.ticket ≢ Some b)
  others_idle a b c log homes vs id v at served h j u ne e =
      let apart : u.ticket ≢ Some b = λ t. ne (h.apart j id u v b e at t served) in
      (none_if u.turn (λ x t. apart ((h.each j u e).queue.turn x t).0), apart)

  -- the slot is out while a seat is in its turn
  pub is_out : (a b c : ℕ) (log : List E) (homes : List (maybe.Option S)) (vs : List V) (id : ℕ) (v : V) → get_elem? vs id ≡ some v → v.turn ≡ Some log → v.closed ≡ false → H a b c log homes vs → homes ≡ none ∷ []
  is_out a b c log homes vs id v at turn still_open h = ⊎_elim (λ (home : IsInSlot stands lasts fixed who log homes vs). absurd (cc (turn, home.3 id v at)))
      (λ (out : IsOut stands lasts fixed who log homes vs).
      let here : out.0 ≡ id = h.apart out.0 id out.1 v b out.2 at ((h.each out.0 out.1 out.2).queue.turn log out.3).0 ((h.each id v at).queue.turn log turn).0 in
      let same : out.1 ≡ v = some-injective out.1 v (sym out.2 ∙ (ap (get_elem? vs) here ∙ at)) in
      out.4 ∙ ap (λ (b : Bool). let l : List (maybe.Option S) = slot_content b ∷ [] in l) (ap (λ (z : V). z.closed) same ∙ still_open))
      h.value
