-- A worker serves one link more, and ends.
use Rattle.std.proofs.Common.{ℕ, ◌+◌, ◌-◌, ◌^◌, ◌<◌, ◌≤◌, ◌≡◌, ◌≢◌, ◌||◌, Bool, true, false, min, List, [], ◌∷◌, ◌++◌, length, take, drop, Option, Some, None, refl, sym, ap, ◌∙◌, subst, arith, length-append, append-nil, append_assoc}
use Rattle.std.specs.Prelude.{IfSome}
use Rattle.std.specs.List.{list_any}
use Rattle.std.specs.Option.{option_map}
use Rattle.std.proofs.Math.Seq.{take-length}
use Rattle.std.proofs.lemmas.List.{take-append-le, drop-append-le, drop-drop, map-append}
use Rattle.std.proofs.lemmas.List.Folds.{list_any-append}
use mathlib.Core.List.{IsPrefix}
use Rattle.sx_base.specs.Causes.{Rose}
use Rattle.sx_base.specs.LinkLists.{Links, GivesLink, after_given, after_finished}
use Rattle.sx_call.specs.declared.entries.Noted.{Noted}
use Rattle.sx_turn.proofs.Lists.{each_append}
use Rattle.sx_book.specs.OneHistory.{history_of}
use Rattle.sx_book.specs.Passes.{PassView, caller_of}
use Rattle.sx_book.specs.declared.report.ConnReport.{ConnReport}
use Rattle.sx_run.specs.declared.report.WorkEnd.{WorkEnd}
use Rattle.sx_run.specs.declared.report.WorkEnd.TheVariants.{Enough, Drained, ListenFault}
use Rattle.sx_run.specs.declared.report.WorkReport.{WorkReport}
use Rattle.sx_run.specs.Visits.{Stretch, Talks, Visit, HasNone, IsVisit, AreVisits, TakesLinks, Post, Works, IsWorkEnd, links_given, links_left, was_full, was_starved, with_link}

-- nothing is left behind a whole list
pub drop_whole : {A : Type 0} (xs : List A) → drop (length xs) xs ≡ []
drop_whole [] = refl
drop_whole (x ∷ xs) = drop_whole xs

-- how many entries had been seen when the last of the links was left
abbrev pub reach : {K D : Type 0} → ℕ → List (Visit K D) → ℕ
reach from [] = from
reach from (v ∷ vs) = reach v.upto vs

-- a caller's part of a history of these entries
abbrev pub stretch : ℕ → ℕ → List Noted → ℕ → Stretch
stretch who limit entries from = record { who = who; history = record { entries = entries; limit = limit }; from = from }

module _ {K D : Type 0} (talks : Talks K D) (who limit : ℕ) (h more : List Noted) where
  -- a link that was served was served in each longer history
  pub visit_grows : (from : ℕ) (door : D) (v : Visit K D) → IsVisit talks (stretch who limit h from) door v → IsVisit talks (stretch who limit (h ++ more) from) door v
  visit_grows from door v x = record {
    behind = x.behind;
    within = let e : length (h ++ more) ≡ length h + length more = length-append h more in omega (arith, x.within, e);
    talk = subst (λ (t : List Noted). talks (record { who = who; history = record { entries = t; limit = limit }; from = from }) (record { link = v.link; door = door }) v.left v.report)
        (sym (take-append-le v.upto h more x.within)) x.talk;
  }

  -- links that were served were served in each history that goes on by others' entries
  pub visits_grow : (from : ℕ) (door : D) (vs : List (Visit K D)) (door' : D) → from ≤ length h → HasNone who more → AreVisits talks (stretch who limit h from) door vs door' → AreVisits talks (stretch who limit (h ++ more) from) door vs door'
  visits_grow from door [] door' l none x = (x.0, subst (HasNone who) (sym (drop-append-le from h more l)) (each_append (λ n. caller_of n ≢ who) (drop from h) more x.1 none))
  visits_grow from door (v ∷ vs) door' l none x = (visit_grows from door v x.0, visits_grow v.upto v.left.door vs door' x.0.within none x.1)

  -- one link more, which was served behind all that had been seen
  visits_more : (from : ℕ) (door : D) (vs : List (Visit K D)) (mid : D) (v : Visit K D) → reach from vs ≡ length h → v.upto ≡ length (h ++ more)
      → talks (stretch who limit (h ++ more) (length h)) (record { link = v.link; door = mid }) v.left v.report
      → AreVisits talks (stretch who limit h from) door vs mid → AreVisits talks (stretch who limit (h ++ more) from) door (vs ++ v ∷ []) v.left.door
  visits_more from door [] mid v at end talk x = (
    record {
      behind = let e : length (h ++ more) ≡ length h + length more = length-append h more in omega (arith, at, end, e);
      within = omega (arith, end);
      talk = subst (λ (t : D × ℕ × List Noted). talks (stretch who limit t.2 t.1) (record { link = v.link; door = t.0 }) v.left v.report)
          (λ j. (sym x.0 j, sym at j, sym (ap (λ (n : ℕ). take n (h ++ more)) end ∙ take-length (h ++ more)) j)) talk;
    },
    (refl, subst (HasNone who) (sym (ap (λ (n : ℕ). drop n (h ++ more)) end ∙ drop_whole (h ++ more))) tt),
  )
  visits_more from door (u ∷ vs) mid v at end talk x = (visit_grows from door u x.0, visits_more u.upto u.left.door vs mid v at end talk x.1)

-- the reach of one link more
reach_more : {K D : Type 0} (from : ℕ) (vs : List (Visit K D)) (v : Visit K D) → reach from (vs ++ v ∷ []) ≡ v.upto
reach_more from [] v = refl
reach_more from (u ∷ vs) v = reach_more u.upto vs v

-- ---- a listener's links
taken_none : {K D : Type 0} (old : Option (Links K)) → TakesLinks {D = D} [] old old
taken_none None = record { first = tt; after = refl }
taken_none (Some l) = record { first = refl; after = ap (λ (f : List _). Some (record { left = l.left; finished = f; given = l.given })) (sym (append-nil l.finished)) }

-- what the listener had left, with one link more off it
left_more : {K : Type 0} (given : List K) (link : K) (left : List K) → (n : ℕ) → left ≡ given ++ drop n left → drop n left ≡ link ∷ drop 1 (drop n left) → left ≡ (given ++ link ∷ []) ++ drop (n + 1) left
left_more given link left n first next =
    first ∙ (ap (λ (t : List _). given ++ t) (next ∙ ap (λ (t : List _). link ∷ t) (drop-drop 1 n left)) ∙ sym (append_assoc given (link ∷ []) (drop (n + 1) left)))

taken_more : {K D : Type 0} (vs : List (Visit K D)) (v : Visit K D) (old now mid new : Option (Links K)) → TakesLinks vs old now → GivesLink now v.link mid → new ≡ option_map (after_finished v.left.link) mid → TakesLinks (vs ++ v ∷ []) old new
taken_more vs v None now mid new x given finished = record {
  first = tt;
  after = finished ∙ ap (option_map (after_finished v.left.link)) (given.after ∙ ap (option_map after_given) x.after);
}
taken_more vs v (Some l) now mid new x given finished =
    let count : length (vs ++ v ∷ []) ≡ length vs + 1 = length-append vs (v ∷ []) in
    let links : links_given (vs ++ v ∷ []) ≡ links_given vs ++ v.link ∷ [] = map-append (λ u. u.link) vs (v ∷ []) in
    let ends : links_left (vs ++ v ∷ []) ≡ links_left vs ++ v.left.link ∷ [] = map-append (λ u. u.left.link) vs (v ∷ []) in
    let next : drop (length vs) l.left ≡ v.link ∷ drop 1 (drop (length vs) l.left) = subst (λ (o : Option (Links _)). IfSome o (λ links. links.left ≡ v.link ∷ drop 1 links.left)) x.after given.first in
    let all = left_more (links_given vs) v.link l.left (length vs) x.first next in
    let one : drop 1 (drop (length vs) l.left) ≡ drop (length (vs ++ v ∷ [])) l.left = drop-drop 1 (length vs) l.left ∙ ap (λ (n : ℕ). drop n l.left) (sym count) in
    let done : (l.finished ++ links_left vs) ++ v.left.link ∷ [] ≡ l.finished ++ links_left (vs ++ v ∷ []) = append_assoc l.finished (links_left vs) (v.left.link ∷ []) ∙ ap (λ (t : List _). l.finished ++ t) (sym ends) in
    let back : l.given + 1 - 1 ≡ l.given = omega arith in
    record {
      first = all ∙ (ap (λ (t : List _). t ++ drop (length vs + 1) l.left) (sym links) ∙ ap (λ (n : ℕ). links_given (vs ++ v ∷ []) ++ drop n l.left) (sym count));
      after = finished ∙ (ap (option_map (after_finished v.left.link)) (given.after ∙ ap (option_map after_given) x.after)
          ∙ ap (λ (t : List _ × List _ × ℕ). Some (record { left = t.0; finished = t.1; given = t.2 })) (λ j. (one j, done j, back j)));
    }

-- ---- the work so far
pub record Working {K D : Type 0} (talks : Talks K D) (who limit from : ℕ) (seen : List Noted) (conns : ℕ) (old new : Post K D) (work : WorkReport) : Type 0 where
  pub visits : List (Visit K D)
  pub served : AreVisits talks (stretch who limit seen from) old.door visits new.door
  pub reached : reach from visits ≡ length seen
  pub links : TakesLinks visits old.links new.links
  pub count : work.served ≡ min (length visits) (2 ^ 64 - 1)
  pub full : work.full ≡ list_any (λ v. was_full v.report) visits
  pub starved : work.starved ≡ list_any (λ v. was_starved v.report) visits
  pub within : 1 ≤ conns → length visits ≤ conns
  pub later : old.faults ≤ new.faults

pub working_none : {K D : Type 0} (talks : Talks K D) (who limit conns : ℕ) (seen : List Noted) (old : Post K D) (work : WorkReport) → work.served ≡ 0 → work.full ≡ false → work.starved ≡ false → Working talks who limit (length seen) seen conns old old work
working_none talks who limit conns seen old work served full starved = record {
  visits = [];
  served = (refl, subst (HasNone who) (sym (drop_whole seen)) tt);
  reached = refl;
  links = taken_none old.links;
  count = served;
  full = full;
  starved = starved;
  within = (λ some. omega arith);
  later = omega arith;
}

-- one more passes the test, or one of those before
any_more : {X : Type 0} (p : X → Bool) (xs : List X) (x : X) (now : Bool) → now ≡ list_any p xs → (now || p x) ≡ list_any p (xs ++ x ∷ [])
any_more p xs x now e = ap (λ (b : Bool). b || p x) e ∙ (ap (λ (b : Bool). list_any p xs || b) (one (p x)) ∙ sym (list_any-append p xs (x ∷ []))) where
  one : (b : Bool) → b ≡ (b || false)
  one true = refl
  one false = refl

pub working_more : {K D : Type 0} (talks : Talks K D) (who limit from conns : ℕ) (seen seen' : List Noted) (old now new : Post K D) (given : Option (Links K)) (link link' : K) (report : ConnReport) (work work' : WorkReport)
    → conns < 2 ^ 32 → (1 ≤ conns → work.served < conns) → Working talks who limit from seen conns old now work
    → GivesLink now.links link given → IsPrefix seen seen' → talks (stretch who limit seen' (length seen)) (record { link = link; door = now.door }) (record { link = link'; door = new.door }) report
    → new.links ≡ option_map (after_finished link') given → now.faults ≤ new.faults → work' ≡ with_link work report
    → Working talks who limit from seen' conns old new work'
working_more {K} {D} talks who limit from conns seen seen' old now new given link link' report work work' few below w gives grown talk finished later is =
    let v : Visit K D = record { link = link; left = record { link = link'; door = new.door }; upto = length seen'; report = report } in
    let count : length (w.visits ++ v ∷ []) ≡ length w.visits + 1 = length-append w.visits (v ∷ []) in
    let talk' = subst (λ (t : List Noted). talks (stretch who limit t (length seen)) (record { link = link; door = now.door }) (record { link = link'; door = new.door }) report) (sym grown.1) talk in
    let told : work'.served ≡ min (work.served + 1) (2 ^ 64 - 1) = ap (λ (r : WorkReport). r.served) is in
    record {
      visits = w.visits ++ v ∷ [];
      served = subst (λ (t : List Noted). AreVisits talks (stretch who limit t from) old.door (w.visits ++ v ∷ []) new.door) grown.1
          (visits_more talks who limit seen grown.0 from old.door w.visits now.door v w.reached (ap length (sym grown.1)) talk' w.served);
      reached = reach_more from w.visits v;
      links = taken_more w.visits v old.links now.links given new.links w.links gives finished;
      count = omega (arith, told, w.count, count);
      full = ap (λ (r : WorkReport). r.full) is ∙ any_more (λ u. was_full u.report) w.visits v work.full w.full;
      starved = ap (λ (r : WorkReport). r.starved) is ∙ any_more (λ u. was_starved u.report) w.visits v work.starved w.starved;
      within = (λ some. let b = below some in let c = w.count in omega (arith, b, c, count, few));
      later = omega (arith, w.later, later);
    }

-- the worker ends
pub works_by : {K D : Type 0} (talks : Talks K D) (who limit from conns : ℕ) (seen : List Noted) (old now new : Post K D) (work report : WorkReport) → Working talks who limit from seen conns old now work
    → new.links ≡ now.links → new.door ≡ now.door → now.faults ≤ new.faults → report ≡ record work { end = report.end }
    → ((n : ℕ) → work.served ≡ min n (2 ^ 64 - 1) → (1 ≤ conns → n ≤ conns) → IsWorkEnd conns report.end n new.links) → (report.end ≡ ListenFault → Rose now.faults new.faults)
    → Works talks (stretch who limit seen from) conns old new report
works_by talks who limit from conns seen old now new work report w links door later is end cause = record {
  visits = w.visits;
  served = subst (λ d. AreVisits talks (stretch who limit seen from) old.door w.visits d) (sym door) w.served;
  links = subst (TakesLinks w.visits old.links) (sym links) w.links;
  count = ap (λ (r : WorkReport). r.served) is ∙ w.count;
  full = ap (λ (r : WorkReport). r.full) is ∙ w.full;
  starved = ap (λ (r : WorkReport). r.starved) is ∙ w.starved;
  end = end (length w.visits) w.count w.within;
  later = omega (arith, w.later, later);
  cause = (λ fault. let r = cause fault in let l = w.later in omega (arith, r, l));
}

-- ---- with the pass of the worker
abbrev pub IsSoFar : PassView → PassView → Type 0
IsSoFar p q = q ≡ record p { seen = q.seen; mine = q.mine }

pub so_far : (p q r : PassView) → IsSoFar p q → IsSoFar q r → IsSoFar p r
so_far p q r a b = b ∙ ap (λ (x : PassView). record x { seen = r.seen; mine = r.mine }) a

-- a pass that has seen more and has these places, is one so far
pub so_far_with : (p q : PassView) (mine : List ℕ) → q ≡ record p { seen = q.seen; mine = mine } → IsSoFar p q
so_far_with p q mine e = e ∙ ap (λ (m : List ℕ). record p { seen = q.seen; mine = m }) (sym (ap (λ (x : PassView). x.mine) e))

module _ {K D : Type 0} (talks : Talks K D) (p : PassView) (conns : ℕ) (old : Post K D) where
  -- the work so far by a worker's pass
  abbrev pub WorkingBy : PassView → Post K D → WorkReport → Type 0
  WorkingBy q now work = Working talks p.number p.limit (length p.seen) q.seen conns old now work

  pub pass_more : (q r : PassView) (now new : Post K D) (given : Option (Links K)) (link link' : K) (report : ConnReport) (work work' : WorkReport) → IsSoFar p q → IsSoFar q r
      → conns < 2 ^ 32 → (1 ≤ conns → work.served < conns) → WorkingBy q now work
      → GivesLink now.links link given → IsPrefix q.seen r.seen → talks (record { who = q.number; history = history_of r; from = length q.seen }) (record { link = link; door = now.door }) (record { link = link'; door = new.door }) report
      → new.links ≡ option_map (after_finished link') given → now.faults ≤ new.faults → work' ≡ with_link work report
      → WorkingBy r new work'
  pass_more q r now new given link link' report work work' a b few below w gives grown talk finished later is =
      working_more talks p.number p.limit (length p.seen) conns q.seen r.seen old now new given link link' report work work' few below w gives grown
      (subst (λ (x : ℕ × ℕ). talks (stretch x.0 x.1 r.seen (length q.seen)) (record { link = link; door = now.door }) (record { link = link'; door = new.door }) report)
      (λ j. (ap (λ (x : PassView). x.number) a j, ap (λ (x : PassView). x.limit) (so_far p q r a b) j)) talk) finished later is

  pub pass_ends : (q : PassView) (now new : Post K D) (work report : WorkReport) → IsSoFar p q → WorkingBy q now work
      → new.links ≡ now.links → new.door ≡ now.door → now.faults ≤ new.faults → report ≡ record work { end = report.end }
      → ((n : ℕ) → work.served ≡ min n (2 ^ 64 - 1) → (1 ≤ conns → n ≤ conns) → IsWorkEnd conns report.end n new.links) → (report.end ≡ ListenFault → Rose now.faults new.faults)
      → Works talks (record { who = p.number; history = history_of q; from = length p.seen }) conns old new report
  pass_ends q now new work report a w links door later is end cause =
      subst (λ (n : ℕ). Works talks (stretch p.number n q.seen (length p.seen)) conns old new report) (sym (ap (λ (x : PassView). x.limit) a))
      (works_by talks p.number p.limit (length p.seen) conns q.seen old now new work report w links door later is end cause)

-- ---- why a worker ended
-- fewer links than may be served, by the count of them
below_by : (conns served n : ℕ) → conns < 2 ^ 32 → (1 ≤ conns → served < conns) → served ≡ min n (2 ^ 64 - 1) → 1 ≤ conns → n < conns
below_by conns served n few below count some = let b = below some in omega (arith, b, count, few)

-- the end by the count of links is the end by the links
pub ends_by : {K : Type 0} (links : Option (Links K)) (conns : ℕ) (end : WorkEnd) (served n : ℕ) → conns < 2 ^ 32 → IsWorkEnd conns end served links → served ≡ min n (2 ^ 64 - 1) → (1 ≤ conns → n ≤ conns) → IsWorkEnd conns end n links
ends_by links conns Enough served n few e count within = (e.0, (let w = within e.0 in let s = e.1 in omega (arith, w, s, count, few)))
ends_by links conns Drained served n few e count within = (below_by conns served n few e.0 count, e.1)
ends_by links conns ListenFault served n few e count within = below_by conns served n few e count

-- the count of links is within what may be served, as the links are
pub count_within : (conns served n : ℕ) → served ≡ min n (2 ^ 64 - 1) → (1 ≤ conns → n ≤ conns) → 1 ≤ conns → served ≤ conns
count_within conns served n count within some = let w = within some in omega (arith, w, count)

-- a beginning of a beginning begins the list
pub prefix_both : {A : Type 0} (xs ys zs : List A) → IsPrefix xs ys → IsPrefix ys zs → IsPrefix xs zs
prefix_both xs ys zs a b = (a.0 ++ b.0, sym (append_assoc xs a.0 b.0) ∙ ap (λ (t : List _). t ++ b.0) a.1 ∙ b.1)
