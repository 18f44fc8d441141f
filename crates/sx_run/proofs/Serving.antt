-- What workers did in the one history of the office that was closed.
use Rattle.std.proofs.Common.{ℕ, ◌+◌, ◌≤◌, ◌≡◌, ◌||◌, ◌==◌, if◌then◌else◌, Bool, true, false, min, List, [], ◌∷◌, ◌++◌, length, map, take, Option, refl, sym, ap, ◌∙◌, subst, arith, append_assoc, append-nil, length-append, inl, inr}
use Rattle.std.specs.List.{AllByRecursion, list_any}
use Rattle.std.proofs.Math.Seq.{take-append_seam}
use Rattle.std.proofs.lemmas.Bool.Decides.{nat_tests}
use mathlib.Core.List.{IsPrefix}
use Rattle.sx_base.specs.Causes.{Rose}
use Rattle.sx_base.specs.LinkLists.{Links}
use Rattle.sx_call.specs.declared.entries.Noted.{Noted}
use Rattle.sx_turn.specs.Places.{places, places_from}
use Rattle.sx_turn.specs.Seats.{TableId}
use Rattle.sx_turn.proofs.Lists.{each_append, each_map, none_left, prefix_length}
use Rattle.sx_turn.proofs.Places.{places_append}
use Rattle.sx_book.specs.Passes.{PassView, caller_of}
use Rattle.sx_run.specs.declared.crew.CrewReport.{CrewReport}
use Rattle.sx_run.specs.declared.crew.Door.{Door}
use Rattle.sx_run.specs.declared.crew.Door.TheVariants.{Rest, Smb}
use Rattle.sx_run.specs.declared.crew.Worker.{Worker}
use Rattle.sx_run.specs.declared.report.WorkEnd.{WorkEnd}
use Rattle.sx_run.specs.declared.report.WorkEnd.TheVariants.{Enough, Drained, ListenFault}
use Rattle.sx_run.specs.declared.report.WorkReport.{WorkReport}
use Rattle.sx_run.specs.Crews.{Told, AllTwo, AreAllDismissed, AreDismissed, AreEngaged, AreHired, Failed, FailedSince, HasRun, IsNewPass, Lent, TakenBack, forked, is_faulted, worker_pairs}
use Rattle.sx_run.specs.Serving.{HasFailed, Shift, HasWorked, IsCrew}
use Rattle.sx_run.specs.Visits.{HasNone, Post, Talks, Works}
use Rattle.sx_run.proofs.Visiting.{prefix_both, stretch, visits_grow}

-- a caller without places has no entry
pub no_entry : (n k : ℕ) (log : List Noted) → places_from caller_of n k log ≡ [] → HasNone n log
no_entry n k [] e = tt
no_entry n k (x ∷ xs) e =
    elim (n == x.entry.who) as (λ b. (n == x.entry.who) ≡ b → (if b then k ∷ [] else []) ++ places_from caller_of n (k + 1) xs ≡ [] → HasNone n (x ∷ xs)) [
      | true ↦ λ t g. absurd (cc g)
      | false ↦ λ t g. ((λ is. let yes : (n == x.entry.who) ≡ true = grind (arith, nat_tests) in absurd (cc (yes, t))), no_entry n (k + 1) xs g)
    ] refl e

-- where a caller's places in a list are all in its beginning, it has no entry behind that
none_behind : (n : ℕ) (seen rest : List Noted) → places caller_of n seen ≡ places caller_of n (seen ++ rest) → HasNone n rest
none_behind n seen rest e =
    let whole : places caller_of n (seen ++ rest) ≡ places caller_of n seen ++ places_from caller_of n (1 + length seen) rest = places_append caller_of n 1 seen rest in
    no_entry n (1 + length seen) rest (none_left (places caller_of n seen) (places_from caller_of n (1 + length seen) rest) (ap length (sym (e ∙ whole))))

-- a worker's work is its work in each history that goes on by others' entries
works_grow : {K D : Type 0} (talks : Talks K D) (who limit from conns : ℕ) (h more : List Noted) (old new : Post K D) (report : WorkReport) → from ≤ length h → HasNone who more → Works talks (stretch who limit h from) conns old new report
    → Works talks (stretch who limit (h ++ more) from) conns old new report
works_grow talks who limit from conns h more old new report l none w = record {
  visits = w.visits;
  served = visits_grow talks who limit h more from old.door w.visits new.door l none w.served;
  links = w.links;
  count = w.count;
  full = w.full;
  starved = w.starved;
  end = w.end;
  later = w.later;
  cause = w.cause;
}

-- a worker, by its number and its report
abbrev pub shift_of : {L C W : Type 0} → Worker L C W → Shift
shift_of w = record { who = w.pass.number; report = w.report }

module _ {L C W K D : Type 0} (talks : Talks K D) (tell : L → Told K) (post : Worker L C W → Post K D) (conns : ℕ) (post_links : (w : Worker L C W) → (post w).links ≡ (tell w.listener).links) (office : TableId) (limit : ℕ) (log : List Noted) where
  -- a worker's pass has all of its entries in the whole history
  abbrev pub HasAll : Worker L C W → Type 0
  HasAll w = IsPrefix w.pass.seen log × (w.pass.mine ≡ places caller_of w.pass.number log)

  pub worked_by : (w u : Worker L C W) → IsNewPass office limit w.pass → HasRun talks conns post w u → HasAll u → HasWorked talks (record { entries = log; limit = limit }) conns (tell w.listener).links (tell u.listener).links (shift_of u)
  worked_by w u new run all =
      let p : PassView = w.pass in let q : PassView = u.pass in
      let number : q.number ≡ p.number = ap (λ (x : PassView). x.number) run.pass in
      let bound : q.limit ≡ limit = ap (λ (x : PassView). x.limit) run.pass ∙ new.limit_is in
      let rest : List Noted = all.0.0 in
      let whole : q.seen ++ rest ≡ log = all.0.1 in
      let none : HasNone q.number rest = none_behind q.number q.seen rest (sym run.places ∙ (all.1 ∙ ap (places caller_of q.number) (sym whole))) in
      let front : take (length p.seen) log ≡ p.seen = ap (take (length p.seen)) (sym (sym (append_assoc p.seen run.grown.0 rest) ∙ (ap (λ (t : List Noted). t ++ rest) run.grown.1 ∙ whole))) ∙ take-append_seam p.seen (run.grown.0 ++ rest) in
      let few : length p.seen ≤ length q.seen = prefix_length p.seen q.seen run.grown in
      let mine : Works talks (stretch q.number limit q.seen (length p.seen)) conns (post w) (post u) u.report =
      subst (λ (x : ℕ × ℕ). Works talks (stretch x.0 x.1 q.seen (length p.seen)) conns (post w) (post u) u.report) (λ j. (sym number j, bound j)) run.works in
      record {
        from = length p.seen;
        unknown = subst (HasNone q.number) (sym front) (subst (λ (n : ℕ). HasNone n p.seen) (sym number) new.unknown);
        old = post w;
        new = post u;
        given_is = post_links w;
        left_is = post_links u;
        works = subst (λ (t : List Noted). Works talks (stretch q.number limit t (length p.seen)) conns (post w) (post u) u.report) whole
            (works_grow talks q.number limit (length p.seen) conns q.seen rest (post w) (post u) u.report few none mine);
      }

  -- workers on forks
  forks_by : (given : Told K) (ws us : List (Worker L C W)) → AllByRecursion (λ t. t.links ≡ forked given.links) (map (λ w. tell w.listener) ws) → AllByRecursion (λ w. IsNewPass office limit w.pass) ws → AllTwo (HasRun talks conns post) ws us → AllByRecursion HasAll us
      → AllByRecursion (λ t. (left : Option (Links K)) × HasWorked talks (record { entries = log; limit = limit }) conns (forked given.links) left t) (map shift_of us)
  forks_by given [] [] links new run all = tt
  forks_by given [] (u ∷ us) links new run all = absurd run
  forks_by given (w ∷ ws) [] links new run all = absurd run
  forks_by given (w ∷ ws) (u ∷ us) links new run all = (
    ((tell u.listener).links, subst (λ (o : Option (Links K)). HasWorked talks (record { entries = log; limit = limit }) conns o (tell u.listener).links (shift_of u)) links.0 (worked_by w u new.0 run.0 all.0)),
    forks_by given ws us links.1 new.1 run.1 all.1,
  )

  -- the workers of a door
  pub crew_by : (given now now' final : Told K) (ws us : List (Worker L C W)) → 1 ≤ length ws → Lent given (map (λ w. tell w.listener) ws) now → AllByRecursion (λ w. IsNewPass office limit w.pass) ws → AllTwo (HasRun talks conns post) ws us
      → AllByRecursion HasAll us → TakenBack (map (λ w. tell w.listener) us) now' final → IsCrew talks (record { entries = log; limit = limit }) conns given final (map shift_of us)
  crew_by given now now' final [] us some lent new run all back = absurd (omega (arith, some))
  crew_by given now now' final (w ∷ ws) [] some lent new run all back = absurd run
  crew_by given now now' final (w ∷ ws) (u ∷ us) some lent new run all back = (
    subst (λ (o : Option (Links K) × Option (Links K)). HasWorked talks (record { entries = log; limit = limit }) conns o.0 o.1 (shift_of u)) (λ j. (lent.0 j, sym back.3 j)) (worked_by w u new.0 run.0 all.0),
    forks_by given ws us lent.2 new.1 run.1 all.1,
  )

  -- ---- faults
  module _ (post_faults : (w : Worker L C W) → (post w).faults ≡ (tell w.listener).faults) where
    faulted_is : (end : WorkEnd) → is_faulted end ≡ true → end ≡ ListenFault
    faulted_is Enough e = cc e
    faulted_is Drained e = cc e
    faulted_is ListenFault e = refl

    one_of : (a b : Bool) (P : Type 0) → (a ≡ true → P) → (b ≡ true → P) → (a || b) ≡ true → P
    one_of true b P f g e = f refl
    one_of false b P f g e = g e

    rose_by : (w u : Worker L C W) → HasRun talks conns post w u → is_faulted u.report.end ≡ true → Rose (tell w.listener).faults (tell u.listener).faults
    rose_by w u run e = subst (λ (x : ℕ × ℕ). Rose x.0 x.1) (λ j. (post_faults w j, post_faults u j)) (run.works.cause (faulted_is u.report.end e))

    later_by : (w u : Worker L C W) → HasRun talks conns post w u → (tell w.listener).faults ≤ (tell u.listener).faults
    later_by w u run = subst (λ (x : ℕ × ℕ). x.0 ≤ x.1) (λ j. (post_faults w j, post_faults u j)) run.works.later

    forks_faulted : (now final : Told K) (ws us : List (Worker L C W)) → AllTwo (HasRun talks conns post) ws us → TakenBack (map (λ w. tell w.listener) us) now final → list_any (λ r. is_faulted r.end) (map (λ w. w.report) us) ≡ true → 1 ≤ final.faults
    forks_faulted now final [] [] run back e = cc e
    forks_faulted now final [] (u ∷ us) run back e = absurd run
    forks_faulted now final (w ∷ ws) [] run back e = absurd run
    forks_faulted now final (w ∷ ws) (u ∷ us) run back e =
        one_of (is_faulted u.report.end) (list_any (λ r. is_faulted r.end) (map (λ w. w.report) us)) (1 ≤ final.faults)
        (λ own. let r = rose_by w u run.0 own in let l = back.2.later in omega (arith, r, l))
        (λ others. let f = forks_faulted now back.0 ws us run.1 back.1 others in let r = back.2.rose (omega (arith, f)) in omega (arith, r)) e

    pub crew_faulted : (given now now' final : Told K) (ws us : List (Worker L C W)) → Lent given (map (λ w. tell w.listener) ws) now → AllTwo (HasRun talks conns post) ws us → TakenBack (map (λ w. tell w.listener) us) now' final
        → list_any (λ r. is_faulted r.end) (map (λ w. w.report) us) ≡ true → Rose given.faults final.faults
    crew_faulted given now now' final [] [] lent run back e = cc e
    crew_faulted given now now' final [] (u ∷ us) lent run back e = absurd run
    crew_faulted given now now' final (w ∷ ws) [] lent run back e = absurd run
    crew_faulted given now now' final (w ∷ ws) (u ∷ us) lent run back e =
        let begun = lent.1 in let worked = later_by w u run.0 in
        one_of (is_faulted u.report.end) (list_any (λ r. is_faulted r.end) (map (λ w. w.report) us)) (Rose given.faults final.faults)
        (λ own. let r = rose_by w u run.0 own in let l = back.2.later in omega (arith, begun, r, l))
        (λ others. let f = forks_faulted now' back.0 ws us run.1 back.1 others in let r = back.2.rose (omega (arith, f)) in omega (arith, begun, worked, r)) e

-- ---- workers of both doors
no_items : {A : Type 0} (xs : List A) → length xs ≡ 0 → xs ≡ []
no_items [] e = refl
no_items (x ∷ xs) e = cc e

-- those of the session door were dismissed, then those of the REST door
pub dismissed_all : {L C W K : Type 0} (tell : L → Told K) (p0 p1 p2 : PassView) (n : ℕ) (now left smb_now smb_left : Told K) (all mid end : List (Worker L C W)) (rest_report smb_report : CrewReport)
    → AreDismissed tell p0 p1 smb_now smb_left all mid smb_report → AreDismissed tell p1 p2 now left mid end rest_report → length end ≡ 0 → length mid ≡ min (length all) n
    → AreAllDismissed tell p0 p2 n now left smb_now smb_left all rest_report smb_report
dismissed_all {L} {C} {W} tell p0 p1 p2 n now left smb_now smb_left all mid end rest_report smb_report s r none cut =
    let rest_is : mid ≡ r.gone = r.all_are ∙ ap (λ (e : List (Worker L C W)). e ++ r.gone) (no_items end none) in
    let ends : p2.ended ≡ worker_pairs r.gone ++ (worker_pairs s.gone ++ p0.ended) = ap (λ (p : PassView). p.ended) r.met ∙ ap (λ (p : PassView). worker_pairs r.gone ++ p.ended) s.met in
    record {
      rest = r.gone;
      smb = s.gone;
      all_are = s.all_are ∙ ap (λ (t : List (Worker L C W)). t ++ s.gone) rest_is;
      cut = sym cut ∙ ap length rest_is;
      met = r.met ∙ ap (λ (x : PassView × List (ℕ × List ℕ)). record x.0 { seen = p2.seen; known = p2.known; ended = x.1 }) (λ j. (s.met j, (sym (ap (λ (p : PassView). p.ended) r.met) ∙ ends) j));
      seen = each_append (λ w. IsPrefix w.pass.seen p2.seen) r.gone s.gone r.seen (each_map _ _ (λ w q. prefix_both w.pass.seen p1.seen p2.seen q r.grown) s.gone s.seen);
      back = r.back;
      smb_back = s.back;
      report_is = r.report_is;
      smb_is = s.report_is;
    }

-- no worker, and none hired
pub hired_none : {L C W K : Type 0} (tell : L → Told K) (office : TableId) (limit : ℕ) (door : Door) (now : Told K) (before : List (Worker L C W)) → AreHired tell office limit door now now before before
hired_none {L} {C} {W} tell office limit door now before = record { hired = []; all_are = sym (append-nil before); new = tt; lent = (refl, omega arith) }

-- those of the REST door alone were hired, no more than it has
pub engaged_rest : {L C W K : Type 0} (tell : L → Told K) (office : TableId) (limit n : ℕ) (given now smb : Told K) (all : List (Worker L C W)) → AreHired tell office limit Rest given now [] all → length all ≤ n → AreEngaged tell office limit n given now smb smb all
engaged_rest {L} {C} {W} tell office limit n given now smb all h few = record {
  rest = all;
  smb = hired_none tell office limit Smb smb all;
  new = subst (λ (ws : List (Worker L C W)). AllByRecursion (λ w. IsNewPass office limit w.pass × (w.door ≡ Rest)) ws) (sym h.all_are) h.new;
  lent = subst (λ (ws : List (Worker L C W)). Lent given (map (λ w. tell w.listener) ws) now) (sym h.all_are) h.lent;
  cut = omega (arith, few);
}

-- behind all those of the REST door, those of the session door were hired
pub engaged_both : {L C W K : Type 0} (tell : L → Told K) (office : TableId) (limit n : ℕ) (given now smb_given smb_now : Told K) (rest all : List (Worker L C W)) → AreHired tell office limit Rest given now [] rest → length rest ≡ n
    → (AreHired tell office limit Smb smb_given smb_given rest rest → AreHired tell office limit Smb smb_given smb_now rest all) → AreEngaged tell office limit n given now smb_given smb_now all
engaged_both {L} {C} {W} tell office limit n given now smb_given smb_now rest all h many step =
    let smb : AreHired tell office limit Smb smb_given smb_now rest all = step (hired_none tell office limit Smb smb_given rest) in
    let count : length all ≡ length rest + length smb.hired = ap length smb.all_are ∙ length-append rest smb.hired in
    record {
      rest = rest;
      smb = smb;
      new = subst (λ (ws : List (Worker L C W)). AllByRecursion (λ w. IsNewPass office limit w.pass × (w.door ≡ Rest)) ws) (sym h.all_are) h.new;
      lent = subst (λ (ws : List (Worker L C W)). Lent given (map (λ w. tell w.listener) ws) now) (sym h.all_are) h.lent;
      cut = omega (arith, count, many);
    }

-- ---- a call of a listener that failed before any work
-- lists of one length in equal wholes are equal
pub split_same : {A : Type 0} (xs ys zs ws : List A) → xs ++ ys ≡ zs ++ ws → length xs ≡ length zs → (xs ≡ zs) × (ys ≡ ws)
split_same [] ys [] ws e l = (refl, e)
split_same [] ys (z ∷ zs) ws e l = cc l
split_same (x ∷ xs) ys [] ws e l = cc l
split_same {A} (x ∷ xs) ys (z ∷ zs) ws e l =
    let heads : x ≡ z = cc e in
    let tails : xs ++ ys ≡ zs ++ ws = cc e in
    let rest = split_same xs ys zs ws tails (omega (arith, l)) in
    (ap (λ (p : A × List A). p.0 ∷ p.1) (λ j. (heads j, rest.0 j)), rest.1)

-- where the fork in the workers' place failed, what took it back tells so
up_back : {K : Type 0} (ts : List (Told K)) (now next : Told K) → TakenBack ts now next → 1 ≤ now.faults → 1 ≤ next.faults
up_back [] now next back some = subst (λ (n : ℕ). 1 ≤ n) (sym (ap (λ (t : Told _). t.faults) back)) some
up_back (t ∷ ts) now next back some = let f = up_back ts now back.0 back.1 some in let r = back.2.rose (omega (arith, f)) in omega (arith, r)

pub failed_back : {K : Type 0} (given : Told K) (ts : List (Told K)) (now final : Told K) → Failed given ts now → Lent given ts now → TakenBack ts now final → Rose given.faults final.faults
failed_back {K} given [] now final failed lent back = subst (λ (t : Told K). Rose given.faults t.faults) (sym back) failed
failed_back given (t ∷ ts) now final failed lent back = let f = up_back ts now back.0 back.1 failed in let r = back.2.rose (omega (arith, f)) in let begun = lent.1 in omega (arith, begun, r)

-- without work, the links are as they were
pub links_back : {K : Type 0} (given : Told K) (ts : List (Told K)) (now final : Told K) → Lent given ts now → TakenBack ts now final → final.links ≡ given.links
links_back given [] now final lent back = ap (λ (t : Told _). t.links) back ∙ lent.0
links_back given (t ∷ ts) now final lent back = back.3 ∙ lent.0

-- a failure while those of the REST door were hired
pub failed_rest : {L C W K : Type 0} (tell : L → Told K) (n : ℕ) (given now smb_given smb_now : Told K) (all : List (Worker L C W)) → FailedSince tell given now [] all → length all ≤ n → HasFailed tell n given now smb_given smb_now all
failed_rest tell n given now smb_given smb_now all f few = record {
  rest = f.hired;
  smb = [];
  all_are = f.all_are ∙ sym (append-nil f.hired);
  cut = (let e : length all ≡ length f.hired = ap length f.all_are in omega (arith, few, e));
  failed = inl f.failed;
}

-- a failure while those of the session door were hired, behind those of the REST door
pub failed_smb : {L C W K : Type 0} (tell : L → Told K) (n : ℕ) (given now smb_given smb_now : Told K) (rest all : List (Worker L C W)) → FailedSince tell smb_given smb_now rest all → length rest ≡ n → HasFailed tell n given now smb_given smb_now all
failed_smb tell n given now smb_given smb_now rest all f many = record {
  rest = rest;
  smb = f.hired;
  all_are = f.all_are;
  cut = (let e : length all ≡ length rest + length f.hired = ap length f.all_are ∙ length-append rest f.hired in omega (arith, many, e));
  failed = inr f.failed;
}
