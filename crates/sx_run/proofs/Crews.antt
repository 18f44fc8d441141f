-- Workers are hired and dismissed.
use Rattle.std.proofs.Common.{ℕ, suc, ◌<◌, ◌≤◌, ◌≡◌, ◌≢◌, List, [], ◌∷◌, ◌++◌, length, map, take, drop, slice_index_or, Option, Some, None, refl, sym, ap, ◌∙◌, subst, arith, append_assoc, append-nil}
use Rattle.std.specs.List.{AllByRecursion}
use Rattle.std.proofs.Math.Seq.{take-length}
use Rattle.std.proofs.lemmas.List.{map-append}
use mathlib.Core.List.{IsPrefix}
use Rattle.sx_base.specs.Causes.{Rose, TakesOver}
use Rattle.sx_base.specs.LinkLists.{Links}
use Rattle.sx_call.specs.declared.entries.Noted.{Noted}
use Rattle.sx_turn.specs.Seats.{TableId}
use Rattle.sx_turn.proofs.Lists.{each_map, each_snoc}
use Rattle.sx_book.specs.Passes.{PassView, caller_of, new_pass, after_meet, pass_pairs}
use Rattle.sx_run.specs.declared.crew.CrewReport.{CrewReport}
use Rattle.sx_run.specs.declared.crew.Door.{Door}
use Rattle.sx_run.specs.declared.crew.Worker.{Worker}
use Rattle.sx_run.specs.declared.report.WorkReport.{WorkReport}
use Rattle.sx_run.specs.Crews.{Told, forked, AllTwo, AreDismissed, AreHired, Failed, FailedSince, IsNewPass, Lent, TakenBack, crew_report, worker_pairs}
use Rattle.sx_run.proofs.Visiting.{drop_whole, prefix_both}

-- a fork of a fork tells no links either
forked_again : {K : Type 0} (links : Option (Links K)) → forked (forked links) ≡ forked links
forked_again None = refl
forked_again (Some l) = refl

-- one listener more was taken, and a fork stands in its place
pub lent_more : {K : Type 0} (given : Told K) (ts : List (Told K)) (now taken next : Told K) → taken.links ≡ now.links → now.faults ≤ taken.faults → next.links ≡ forked now.links → Lent given ts now → Lent given (ts ++ taken ∷ []) next
lent_more given [] now taken next same later fork x = (same ∙ x.0, (let a = x.1 in omega (arith, a, later)), tt, fork ∙ ap forked x.0)
lent_more given (t ∷ ts) now taken next same later fork x =
    (x.0, x.1, each_snoc (λ u. u.links ≡ forked given.links) ts taken x.2 (same ∙ x.3), fork ∙ (ap forked x.3 ∙ forked_again given.links))

-- the listener in the workers' place is as it was, but for its faults
pub lent_same : {K : Type 0} (given : Told K) (ts : List (Told K)) (now next : Told K) → next.links ≡ now.links → now.faults ≤ next.faults → Lent given ts now → Lent given ts next
lent_same given [] now next same later x = (same ∙ x.0, (let a = x.1 in omega (arith, a, later)))
lent_same given (t ∷ ts) now next same later x = (x.0, x.1, x.2, same ∙ x.3)

-- a pass that an office gave out is new
pub new_by : (office : TableId) (limit : ℕ) (p q : PassView) → p.office ≡ office → p.limit ≡ limit → q ≡ new_pass p q.number q.seen → AllByRecursion (λ n. caller_of n < q.number) q.seen → IsNewPass office limit q
new_by office limit p q own bound is below = record {
  office_is = ap (λ (x : PassView). x.office) is ∙ own;
  limit_is = ap (λ (x : PassView). x.limit) is ∙ bound;
  none = ap (λ (x : PassView). x.mine) is;
  alone = ap (λ (x : PassView). x.ended) is;
  unknown = each_map (λ n. caller_of n < q.number) (λ n. caller_of n ≢ q.number) (λ n l e. omega (arith, l, e)) q.seen below;
}

-- workers behind others, and one more
pub hired_more : {L C W K : Type 0} (tell : L → Told K) (office : TableId) (limit : ℕ) (door : Door) (given now next : Told K) (before all all' : List (Worker L C W)) (w : Worker L C W) → all' ≡ all ++ w ∷ [] → AreHired tell office limit door given now before all
    → IsNewPass office limit w.pass × (w.door ≡ door) → (tell w.listener).links ≡ now.links → now.faults ≤ (tell w.listener).faults → next.links ≡ forked now.links → AreHired tell office limit door given next before all'
hired_more {L} {C} {W} {K} tell office limit door given now next before all all' w is h new same later fork = record {
  hired = h.hired ++ w ∷ [];
  all_are = is ∙ (ap (λ (ws : List (Worker L C W)). ws ++ w ∷ []) h.all_are ∙ append_assoc before h.hired (w ∷ []));
  new = each_snoc (λ u. IsNewPass office limit u.pass × (u.door ≡ door)) h.hired w h.new new;
  lent = subst (λ (ts : List (Told K)). Lent given ts next) (sym (map-append (λ u. tell u.listener) h.hired (w ∷ [])))
      (lent_more given (map (λ u. tell u.listener) h.hired) now (tell w.listener) next same later fork h.lent);
}

-- ---- dismissal
-- the first pass has met those of these workers
pub record MetSoFar {L C W : Type 0} (old new : PassView) (done : List (Worker L C W)) : Type 0 where
  pub met : new ≡ record old { seen = new.seen; known = new.known; ended = worker_pairs done ++ old.ended }
  pub grown : IsPrefix old.seen new.seen
  pub seen : AllByRecursion (λ w. IsPrefix w.pass.seen new.seen) done

pub met_none : {L C W : Type 0} (p : PassView) → MetSoFar {L = L} {C = C} {W = W} p p []
met_none p = record { met = refl; grown = ([], append-nil p.seen); seen = tt }

-- one more met it
pub met_more : {L C W : Type 0} (old now new : PassView) (done : List (Worker L C W)) (w : Worker L C W) → MetSoFar old now done → new ≡ after_meet now w.pass → IsPrefix now.seen new.seen × IsPrefix w.pass.seen new.seen → MetSoFar old new (w ∷ done)
met_more old now new done w m met seen =
    let pairs : new.ended ≡ worker_pairs (w ∷ done) ++ old.ended =
    ap (λ (p : PassView). p.ended) met ∙ (ap (λ (p : PassView). pass_pairs w.pass ++ p.ended) m.met ∙ sym (append_assoc (pass_pairs w.pass) (worker_pairs done) old.ended)) in
    record {
      met = met ∙ (ap (λ (x : PassView × List Noted × ℕ × List (ℕ × List ℕ)). record x.0 { seen = x.1; known = x.2; ended = x.3 })
          (λ j. (m.met j, sym (ap (λ (p : PassView). p.seen) met) j, sym (ap (λ (p : PassView). p.known) met) j, (sym (ap (λ (p : PassView). p.ended) met) ∙ pairs) j)));
      grown = prefix_both old.seen now.seen new.seen m.grown seen.0;
      seen = (seen.1, each_map _ _ (λ u p. prefix_both u.pass.seen now.seen new.seen p seen.0) done m.seen);
    }

-- where a fact holds of all, it holds of one in the middle
pub each_at : {A : Type 0} (P : A → Type 0) (xs : List A) (x : A) (ys : List A) → AllByRecursion P ((xs ++ x ∷ []) ++ ys) → P x
each_at P [] x ys a = a.0
each_at P (z ∷ zs) x ys a = each_at P zs x ys a.1

-- one more listener stands in the place, and has taken back what stood there
pub back_more : {L K : Type 0} (links : L → Option (Links K)) (faults : L → ℕ) (ts : List (Told K)) (now : Told K) (stood own fork placed after : L) → fork ≡ stood → placed ≡ own
    → TakenBack ts now (record { links = links stood; faults = faults stood }) → links after ≡ links placed → TakesOver (faults fork) (faults placed) (faults after)
    → TakenBack ((record { links = links own; faults = faults own }) ∷ ts) now (record { links = links after; faults = faults after })
back_more links faults ts now stood own fork placed after is at back same over = (
  record { links = links stood; faults = faults stood },
  back,
  subst (λ (x : ℕ × ℕ). TakesOver x.0 x.1 (faults after)) (λ j. (ap faults is j, ap faults at j)) over,
  same ∙ ap links at,
)

pub dismissed_none : {L C W K : Type 0} (tell : L → Told K) (p : PassView) (now : Told K) (all : List (Worker L C W)) → AreDismissed tell p p now now all all (crew_report [])
dismissed_none {L} {C} {W} tell p now all = record {
  gone = [];
  all_are = sym (append-nil all);
  met = refl;
  grown = ([], append-nil p.seen);
  seen = tt;
  back = refl;
  report_is = refl;
}

-- one more was dismissed
pub dismissed_more : {L C W K : Type 0} (links : L → Option (Links K)) (faults : L → ℕ) (main now new : PassView) (begun : Told K) (stood fork placed after : L) (all left left' : List (Worker L C W)) (w : Worker L C W) (report report' : CrewReport)
    → AreDismissed (λ l. record { links = links l; faults = faults l }) main now begun (record { links = links stood; faults = faults stood }) all left report
    → left ≡ left' ++ w ∷ [] → new ≡ after_meet now w.pass → IsPrefix now.seen new.seen × IsPrefix w.pass.seen new.seen → fork ≡ stood → placed ≡ w.listener
    → links after ≡ links placed → TakesOver (faults fork) (faults placed) (faults after) → ((rs : List WorkReport) → report ≡ crew_report rs → report' ≡ crew_report (w.report ∷ rs))
    → AreDismissed (λ l. record { links = links l; faults = faults l }) main new begun (record { links = links after; faults = faults after }) all left' report'
dismissed_more {L} {C} {W} {K} links faults main now new begun stood fork placed after all left left' w report report' d is met seen fork_is placed_is same over told =
    let m = met_more main now new d.gone w (record { met = d.met; grown = d.grown; seen = d.seen }) met seen in
    record {
      gone = w ∷ d.gone;
      all_are = d.all_are ∙ (ap (λ (ws : List (Worker L C W)). ws ++ d.gone) is ∙ append_assoc left' (w ∷ []) d.gone);
      met = m.met;
      grown = m.grown;
      seen = m.seen;
      back = back_more links faults (map (λ u. record { links = links u.listener; faults = faults u.listener }) d.gone) begun stood w.listener fork placed after fork_is placed_is d.back same over;
      report_is = told (map (λ u. u.report) d.gone) d.report_is;
    }

-- ---- two lists, item by item
two_at : {A : Type 0} (P : A → A → Type 0) (xs ys : List A) → length ys ≡ length xs → ((i : ℕ) (d : A) → i < length xs → P (slice_index_or xs i d) (slice_index_or ys i d)) → AllTwo P xs ys
two_at P [] [] e h = tt
two_at P [] (y ∷ ys) e h = cc e
two_at P (x ∷ xs) [] e h = cc e
two_at P (x ∷ xs) (y ∷ ys) e h = (h 0 x (omega arith), two_at P xs ys (omega (arith, e)) (λ i d l. h (suc i) d (omega (arith, l))))

-- a slice that was written back into its whole vector
back_is : {A : Type 0} (xs ys : List A) (len : ℕ) → length ys ≡ length xs → len ≡ length xs → take len (ys ++ drop (length ys) xs) ≡ ys
back_is xs ys len many is =
    ap (λ (n : ℕ). take len (ys ++ drop n xs)) many ∙ (ap (λ (t : List _). take len (ys ++ t)) (drop_whole xs) ∙ (ap (take len) (append-nil ys) ∙ (ap (λ (n : ℕ). take n ys) (is ∙ sym many) ∙ take-length ys)))

pub two_back : {A : Type 0} (P : A → A → Type 0) (xs zs ys : List A) (len : ℕ) → zs ≡ xs → length ys ≡ length zs → len ≡ length xs → ((i : ℕ) (d : A) → i < length zs → P (slice_index_or zs i d) (slice_index_or ys i d))
    → AllTwo P xs (take len (ys ++ drop (length ys) xs))
two_back {A} P xs zs ys len value many is ran =
    subst (λ (x : List A × List A). AllTwo P x.0 x.1) (λ j. (value j, sym (back_is xs ys len (many ∙ ap length value) is) j)) (two_at P zs ys many ran)

-- ---- all of a door
-- a step that keeps who was hired, by the first pass's own limit
pub hired_on : {L C W K : Type 0} (tell : L → Told K) (office : TableId) (p q : PassView) (door : Door) (given now next : Told K) (before all all' : List (Worker L C W)) → q ≡ record p { seen = q.seen; known = q.known }
    → (AreHired tell office q.limit door given now before all → AreHired tell office q.limit door given next before all') → AreHired tell office p.limit door given now before all → AreHired tell office p.limit door given next before all'
hired_on tell office p q door given now next before all all' is step h =
    let same : q.limit ≡ p.limit = ap (λ (x : PassView). x.limit) is in
    subst (λ (n : ℕ). AreHired tell office n door given next before all') same (step (subst (λ (n : ℕ). AreHired tell office n door given now before all) (sym same) h))

-- the first pass has seen more, and knows more, step by step
pub looked_on : (p q r : PassView) → q ≡ record p { seen = q.seen; known = q.known } → r ≡ record q { seen = r.seen; known = r.known } → r ≡ record p { seen = r.seen; known = r.known }
looked_on p q r a b = b ∙ ap (λ (x : PassView). record x { seen = r.seen; known = r.known }) a

failed_at : {K : Type 0} (given : Told K) (ts : List (Told K)) (now next : Told K) → Rose now.faults next.faults → Lent given ts now → Failed given ts next
failed_at given [] now next rose l = let a = l.1 in omega (arith, rose, a)
failed_at given (t ∷ ts) now next rose l = omega (arith, rose)

-- the listener failed where it stood
pub failed_since : {L C W K : Type 0} (tell : L → Told K) (office : TableId) (limit : ℕ) (door : Door) (given now next : Told K) (before all all' : List (Worker L C W)) → all' ≡ all → Rose now.faults next.faults → AreHired tell office limit door given now before all → FailedSince tell given next before all'
failed_since tell office limit door given now next before all all' same rose h = record {
  hired = h.hired;
  all_are = same ∙ h.all_are;
  failed = failed_at given (map (λ w. tell w.listener) h.hired) now next rose h.lent;
}
