-- The whole service, from the office's close.
use Rattle.std.proofs.Common.{ℕ, zero, suc, ◌+◌, ◌≤◌, ◌≡◌, ◌≢◌, ◌⊎◌, ⊎_elim, ◌==◌, if◌then◌else◌, true, false, min, All, List, [], ◌∷◌, ◌++◌, length, map, refl, sym, ap, ◌∙◌, subst, arith, append-nil, length-append, inl, inr}
use Rattle.std.specs.List.{AllByRecursion, list_any}
use Rattle.std.proofs.lemmas.Bool.Decides.{nat_tests}
use mathlib.Core.List.{IsPrefix}
use Rattle.sx_base.specs.Causes.{Rose}
use Rattle.sx_call.specs.declared.entries.Noted.{Noted}
use Rattle.sx_turn.specs.Places.{places, places_from, times}
use Rattle.sx_turn.specs.Seats.{TableId}
use Rattle.sx_turn.proofs.Lists.{each_append, each_first, each_map}
use Rattle.sx_turn.proofs.Places.{once_one, times_append}
use Rattle.sx_spec.specs.History.{IsHistory}
use Rattle.sx_book.specs.History.{History}
use Rattle.sx_book.specs.Passes.{PassView, HasExactPlaces, HasOwnPlaces, caller_of, pass_pairs}
use Rattle.sx_run.specs.declared.crew.CrewReport.{CrewReport}
use Rattle.sx_run.specs.declared.crew.Door.TheVariants.{Rest, Smb}
use Rattle.sx_run.specs.declared.crew.Worker.{Worker}
use Rattle.sx_run.specs.declared.report.WorkReport.{WorkReport}
use Rattle.sx_run.specs.declared.service.Unserved.{Unserved}
use Rattle.sx_run.specs.declared.service.Unserved.TheVariants.{WriteFault, NoMemory, ListenFault}
use Rattle.sx_run.specs.declared.words.ServeWords.{ServeWords}
use Rattle.sx_book.specs.Reports.{HasText}
use Rattle.sx_run.specs.Crews.{Told, AllTwo, AreAllDismissed, AreEngaged, Failed, HasRun, IsNewPass, RunsAt, TakenBack, crew_report, is_faulted, worker_pairs}
use Rattle.sx_run.specs.Serving.{AllWorked, HasFailed, IsAllMet, IsUnreadyBy, IsUnservedBy, Ports, Serves, Shift, port_lines, reports_of, crews_status, workers_of}
use Rattle.sx_run.specs.Visits.{HasNone, Post, Talks}
use Rattle.sx_run.proofs.Visiting.{IsSoFar}
use Rattle.sx_run.proofs.Serving.{crew_by, crew_faulted, failed_back, links_back, no_entry, shift_of, split_same}

-- ---- lists
pub each_rest : {A : Type 0} (P : A → Type 0) (xs ys : List A) → AllByRecursion P (xs ++ ys) → AllByRecursion P ys
each_rest P [] ys h = h
each_rest P (x ∷ xs) ys h = each_rest P xs ys h.1

each_both : {A : Type 0} (P Q : A → Type 0) (xs : List A) → AllByRecursion P xs → AllByRecursion Q xs → AllByRecursion (λ x. P x × Q x) xs
each_both P Q [] h k = tt
each_both P Q (x ∷ xs) h k = ((h.0, k.0), each_both P Q xs h.1 k.1)

-- by place
pub all_of : {A : Type 0} (P : A → Type 0) (xs : List A) → AllByRecursion P xs → All P xs
all_of P [] e k d l = absurd (omega (arith, l))
all_of P (x ∷ xs) e zero d l = e.0
all_of P (x ∷ xs) e (suc k) d l = all_of P xs e.1 k d (omega (arith, l))

two_length : {A : Type 0} (P : A → A → Type 0) (xs ys : List A) → AllTwo P xs ys → length ys ≡ length xs
two_length P [] [] t = refl
two_length P [] (y ∷ ys) t = absurd t
two_length P (x ∷ xs) [] t = absurd t
two_length P (x ∷ xs) (y ∷ ys) t = ap suc (two_length P xs ys t.1)

two_split : {A : Type 0} (P : A → A → Type 0) (xs zs ys ws : List A) → length xs ≡ length ys → AllTwo P (xs ++ zs) (ys ++ ws) → AllTwo P xs ys × AllTwo P zs ws
two_split P [] zs [] ws l t = (tt, t)
two_split P [] zs (y ∷ ys) ws l t = cc l
two_split P (x ∷ xs) zs [] ws l t = cc l
two_split P (x ∷ xs) zs (y ∷ ys) ws l t = let r = two_split P xs zs ys ws (omega (arith, l)) t.1 in ((t.0, r.0), r.1)

two_map : {A : Type 0} (P Q : A → A → Type 0) (R : A → Type 0) → ((x y : A) → R x → P x y → Q x y) → (xs ys : List A) → AllByRecursion R xs → AllTwo P xs ys → AllTwo Q xs ys
two_map P Q R f [] [] r t = tt
two_map P Q R f [] (y ∷ ys) r t = absurd t
two_map P Q R f (x ∷ xs) [] r t = absurd t
two_map P Q R f (x ∷ xs) (y ∷ ys) r t = (f x y r.0 t.0, two_map P Q R f xs ys r.1 t.1)

-- what holds of each in the first, and of the two, holds of each in the second
two_each : {A : Type 0} (P : A → A → Type 0) (R S : A → Type 0) → ((x y : A) → R x → P x y → S y) → (xs ys : List A) → AllByRecursion R xs → AllTwo P xs ys → AllByRecursion S ys
two_each P R S f [] [] r t = tt
two_each P R S f [] (y ∷ ys) r t = absurd t
two_each P R S f (x ∷ xs) [] r t = absurd t
two_each P R S f (x ∷ xs) (y ∷ ys) r t = (f x y r.0 t.0, two_each P R S f xs ys r.1 t.1)

-- ---- passes
none_places : (n k : ℕ) (log : List Noted) → HasNone n log → places_from caller_of n k log ≡ []
none_places n k [] none = refl
none_places n k (x ∷ xs) none =
    elim (n == x.entry.who) as (λ b. (n == x.entry.who) ≡ b → (if b then k ∷ [] else []) ++ places_from caller_of n (k + 1) xs ≡ []) [
      | true ↦ λ t. absurd (none.0 (let e : x.entry.who ≡ n = grind (arith, nat_tests) in e))
      | false ↦ λ t. none_places n (k + 1) xs none.1
    ] refl

-- a new pass has exactly its places, of which there are none
pub new_places : (office : TableId) (limit : ℕ) (p : PassView) → IsNewPass office limit p → HasOwnPlaces p
new_places office limit p new = new.none ∙ sym (none_places p.number 1 p.seen new.unknown)

-- the passes of all workers are new
pub engaged_new : {L C W K : Type 0} (tell : L → Told K) (office : TableId) (limit n : ℕ) (given now smb_given smb_now : Told K) (all : List (Worker L C W)) → AreEngaged tell office limit n given now smb_given smb_now all → AllByRecursion (λ w. IsNewPass office limit w.pass) all
engaged_new {L} {C} {W} tell office limit n given now smb_given smb_now all e =
    subst (λ (ws : List (Worker L C W)). AllByRecursion (λ w. IsNewPass office limit w.pass) ws) (sym e.smb.all_are)
    (each_append (λ w. IsNewPass office limit w.pass) e.rest e.smb.hired (each_map _ _ (λ w h. h.0) e.rest e.new) (each_map _ _ (λ w h. h.0) e.smb.hired e.smb.new))

module _ {L C W K D E : Type 0} (rest_talks : Talks K D) (smb_talks : Talks K E) (conns : ℕ) (rest_post : Worker L C W → Post K D) (smb_post : Worker L C W → Post K E) where
  ran_pass : (w u : Worker L C W) → RunsAt rest_talks smb_talks conns rest_post smb_post w u → IsSoFar w.pass u.pass
  ran_pass w u r = elim w.door as (λ d. w.door ≡ d → IsSoFar w.pass u.pass) [
    | Rest ↦ λ e. (r.rest e).pass
    | Smb ↦ λ e. (r.smb e).pass
  ] refl

  -- workers that worked are of the same office
  pub ran_offices : (office : TableId) (limit : ℕ) (ws us : List (Worker L C W)) → AllByRecursion (λ w. IsNewPass office limit w.pass) ws → AllTwo (RunsAt rest_talks smb_talks conns rest_post smb_post) ws us → AllByRecursion (λ u. u.pass.office ≡ office) us
  ran_offices office limit ws us new ran = two_each _ (λ w. IsNewPass office limit w.pass) (λ u. u.pass.office ≡ office) (λ w u n r. ap (λ (p : PassView). p.office) (ran_pass w u r) ∙ n.office_is) ws us new ran

  ran_alone : (office : TableId) (limit : ℕ) (ws us : List (Worker L C W)) → AllByRecursion (λ w. IsNewPass office limit w.pass) ws → AllTwo (RunsAt rest_talks smb_talks conns rest_post smb_post) ws us → AllByRecursion (λ u. u.pass.ended ≡ []) us
  ran_alone office limit ws us new ran = two_each _ (λ w. IsNewPass office limit w.pass) (λ u. u.pass.ended ≡ []) (λ w u n r. ap (λ (p : PassView). p.ended) (ran_pass w u r) ∙ n.alone) ws us new ran

-- ---- numbers and places
-- how often a number stands among the workers' pairs
pairs_count : {L C W : Type 0} (n : ℕ) (us : List (Worker L C W)) → AllByRecursion (λ u. u.pass.ended ≡ []) us → times n (worker_pairs us) ≡ workers_of n (map shift_of us)
pairs_count n [] alone = refl
pairs_count n (u ∷ us) alone =
    ap (λ (ps : List (ℕ × List ℕ)). (if n == u.pass.number then 1 else 0) + times n (ps ++ worker_pairs us)) alone.0 ∙ ap (λ (k : ℕ). (if n == u.pass.number then 1 else 0) + k) (pairs_count n us alone.1)

workers_append : (n : ℕ) (xs ys : List Shift) → workers_of n (xs ++ ys) ≡ workers_of n xs + workers_of n ys
workers_append n [] ys = omega arith
workers_append n (x ∷ xs) ys = let h = workers_append n xs ys in omega (arith, h)

-- the pairs of workers have the exact places
pairs_exact : {L C W : Type 0} (Q : (ℕ × List ℕ) → Type 0) (us : List (Worker L C W)) → AllByRecursion Q (worker_pairs us) → AllByRecursion (λ u. Q (u.pass.number, u.pass.mine)) us
pairs_exact Q [] h = tt
pairs_exact Q (u ∷ us) h = (h.0, pairs_exact Q us (each_rest Q u.pass.ended (worker_pairs us) h.1))

reports_same : {L C W : Type 0} (us : List (Worker L C W)) → reports_of (map shift_of us) ≡ map (λ w. w.report) us
reports_same [] = refl
reports_same (u ∷ us) = ap (λ (rs : List WorkReport). u.report ∷ rs) (reports_same us)

map_length : {A B : Type 0} (f : A → B) (xs : List A) → length (map f xs) ≡ length xs
map_length f [] = refl
map_length f (x ∷ xs) = ap suc (map_length f xs)

-- the first pass made no call
pub record IsIdle (p : PassView) (ended : List (ℕ × List ℕ)) : Type 0 where
  pub number : p.number ≡ 0
  pub mine : p.mine ≡ []
  pub ended_is : p.ended ≡ ended

-- an entry is of one worker, since the first pass has none
one_worker : (p : PassView) (ended : List (ℕ × List ℕ)) → IsIdle p ended → HasExactPlaces p → HasNone 0 p.seen
one_worker p ended idle exact = no_entry 0 1 p.seen (sym (sym idle.mine ∙ (exact.0 ∙ ap (λ (n : ℕ). places caller_of n p.seen) idle.number)))

times_rest : (n : ℕ) (p : PassView) (ended : List (ℕ × List ℕ)) → IsIdle p ended → times n (pass_pairs p) ≡ (if n == 0 then 1 else 0) + times n ended
times_rest n p ended idle = ap (λ (x : ℕ × List (ℕ × List ℕ)). (if n == x.0 then 1 else 0) + times n x.1) (λ j. (idle.number j, idle.ended_is j))

not_first : (n k : ℕ) → n ≢ 0 → (if n == 0 then 1 else 0) + k ≡ 1 → k ≡ 1
not_first n k ne e = elim (n == 0) as (λ b. (n == 0) ≡ b → (if b then 1 else 0) + k ≡ 1 → k ≡ 1) [
  | true ↦ λ t g. absurd (ne (grind (arith, nat_tests)))
  | false ↦ λ t g. omega (arith, g)
] refl e

-- ---- all together
pub all_worked : {L C W K D E : Type 0} (rest_talks : Talks K D) (smb_talks : Talks K E) (tell : L → Told K) (rest_post : Worker L C W → Post K D) (smb_post : Worker L C W → Post K E)
    → (rest_links : (w : Worker L C W) → (rest_post w).links ≡ (tell w.listener).links) → (rest_faults : (w : Worker L C W) → (rest_post w).faults ≡ (tell w.listener).faults)
    → (smb_links : (w : Worker L C W) → (smb_post w).links ≡ (tell w.listener).links) → (smb_faults : (w : Worker L C W) → (smb_post w).faults ≡ (tell w.listener).faults)
    → (serve : ServeWords) (office : TableId) (given now final smb_given smb_now smb_final : Told K) (writes writes' : ℕ) (main p : PassView) (ws us : List (Worker L C W)) (rest_report smb_report : CrewReport)
    → 1 ≤ serve.rest_workers → 1 ≤ serve.smb_workers → IsIdle main [] → AreEngaged tell office serve.limit serve.rest_workers given now smb_given smb_now ws → length ws ≡ serve.rest_workers + serve.smb_workers
    → AllTwo (RunsAt rest_talks smb_talks serve.conns rest_post smb_post) ws us → AreAllDismissed tell main p serve.rest_workers now final smb_now smb_final us rest_report smb_report → IsAllMet p
    → AllWorked rest_talks smb_talks serve p.seen (record { rest = given; smb = smb_given; writes = writes }) (record { rest = final; smb = smb_final; writes = writes' }) rest_report smb_report
all_worked {L} {C} {W} {K} rest_talks smb_talks tell rest_post smb_post rest_links rest_faults smb_links smb_faults serve office given now final smb_given smb_now smb_final writes writes' main p ws us rest_report smb_report some_rest some_smb idle e many ran d met =
    let new = engaged_new tell office serve.limit serve.rest_workers given now smb_given smb_now ws e in
    let lens : length us ≡ length ws = two_length _ ws us ran in
    let begun : length ws ≡ length e.rest + length e.smb.hired = ap length e.smb.all_are ∙ length-append e.rest e.smb.hired in
    let ended : length us ≡ length d.rest + length d.smb = ap length d.all_are ∙ length-append d.rest d.smb in
    let same : length e.rest ≡ length d.rest = sym e.cut ∙ (ap (λ (n : ℕ). min n serve.rest_workers) (sym lens) ∙ d.cut) in
    let two = two_split _ e.rest e.smb.hired d.rest d.smb same (subst (λ (x : List (Worker L C W) × List (Worker L C W)). AllTwo (RunsAt rest_talks smb_talks serve.conns rest_post smb_post) x.0 x.1) (λ j. (e.smb.all_are j, d.all_are j)) ran) in
    let rest_ran = two_map _ (HasRun rest_talks serve.conns rest_post) (λ w. IsNewPass office serve.limit w.pass × (w.door ≡ Rest)) (λ w u n r. r.rest n.1) e.rest d.rest e.new two.0 in
    let smb_ran = two_map _ (HasRun smb_talks serve.conns smb_post) (λ w. IsNewPass office serve.limit w.pass × (w.door ≡ Smb)) (λ w u n r. r.smb n.1) e.smb.hired d.smb e.smb.new two.1 in
    let pairs : p.ended ≡ worker_pairs d.rest ++ (worker_pairs d.smb ++ main.ended) = ap (λ (q : PassView). q.ended) d.met in
    let exact : AllByRecursion (λ (pair : ℕ × List ℕ). pair.1 ≡ places caller_of pair.0 p.seen) (worker_pairs d.rest ++ (worker_pairs d.smb ++ main.ended)) =
    subst (AllByRecursion (λ (pair : ℕ × List ℕ). pair.1 ≡ places caller_of pair.0 p.seen)) pairs met.2.1 in
    let rest_exact = pairs_exact (λ (pair : ℕ × List ℕ). pair.1 ≡ places caller_of pair.0 p.seen) d.rest (each_first _ (worker_pairs d.rest) (worker_pairs d.smb ++ main.ended) exact) in
    let smb_exact = pairs_exact (λ (pair : ℕ × List ℕ). pair.1 ≡ places caller_of pair.0 p.seen) d.smb (each_first _ (worker_pairs d.smb) main.ended (each_rest _ (worker_pairs d.rest) (worker_pairs d.smb ++ main.ended) exact)) in
    let rest_all = each_both (λ u. IsPrefix u.pass.seen p.seen) (λ u. u.pass.mine ≡ places caller_of u.pass.number p.seen) d.rest (each_first _ d.rest d.smb d.seen) rest_exact in
    let smb_all = each_both (λ u. IsPrefix u.pass.seen p.seen) (λ u. u.pass.mine ≡ places caller_of u.pass.number p.seen) d.smb (each_rest _ d.rest d.smb d.seen) smb_exact in
    let alone = subst (λ (xs : List (Worker L C W)). AllByRecursion (λ u. u.pass.ended ≡ []) xs) d.all_are (ran_alone rest_talks smb_talks serve.conns rest_post smb_post office serve.limit ws us new ran) in
    let all : List (ℕ × List ℕ) = worker_pairs d.rest ++ worker_pairs d.smb in
    let quiet : IsIdle p all = record {
      number = ap (λ (q : PassView). q.number) d.met ∙ idle.number;
      mine = ap (λ (q : PassView). q.mine) d.met ∙ idle.mine;
      ended_is = pairs ∙ ap (λ (t : List (ℕ × List ℕ)). worker_pairs d.rest ++ t) (ap (λ (t : List (ℕ × List ℕ)). worker_pairs d.smb ++ t) idle.ended_is ∙ append-nil (worker_pairs d.smb));
    } in
    let count : (n : ℕ) → times n all ≡ workers_of n (map shift_of d.rest ++ map shift_of d.smb) = λ n.
    let a = pairs_count n d.rest (each_first _ d.rest d.smb alone) in let b = pairs_count n d.smb (each_rest _ d.rest d.smb alone) in
    let t = times_append n (worker_pairs d.rest) (worker_pairs d.smb) in let w = workers_append n (map shift_of d.rest) (map shift_of d.smb) in omega (arith, a, b, t, w) in
    let none = one_worker p all quiet met.2 in
    record {
      rest = map shift_of d.rest;
      smb = map shift_of d.smb;
      rest_many = map_length shift_of d.rest ∙ (let c = e.cut in omega (arith, c, same, many));
      smb_many = map_length shift_of d.smb ∙ (let c = e.cut in omega (arith, c, same, many, ended, lens));
      rest_crew = crew_by rest_talks tell rest_post serve.conns rest_links office serve.limit p.seen given now now final e.rest d.rest (let c = e.cut in omega (arith, c, many, some_rest)) e.lent (each_map _ _ (λ w h. h.0) e.rest e.new) rest_ran rest_all d.back;
      smb_crew = crew_by smb_talks tell smb_post serve.conns smb_links office serve.limit p.seen smb_given smb_now smb_now smb_final e.smb.hired d.smb (let c = e.cut in omega (arith, c, many, some_smb, begun)) e.smb.lent (each_map _ _ (λ w h. h.0) e.smb.hired e.smb.new) smb_ran smb_all d.smb_back;
      callers = each_map _ _ (λ n h. sym (count (caller_of n)) ∙ not_first (caller_of n) (times (caller_of n) all) h.0 (sym (times_rest (caller_of n) p all quiet) ∙ h.1)) p.seen (each_both _ _ p.seen none met.1);
      differ = (λ n. let o = met.0 n in let b = once_one n (length (pass_pairs p)) in let t = times_rest n p all quiet in let c = count n in omega (arith, o, b, t, c));
      rest_faults = (λ f. crew_faulted rest_talks tell rest_post serve.conns rest_links office serve.limit p.seen rest_faults given now now final e.rest d.rest e.lent rest_ran d.back (subst (λ (rs : List WorkReport). list_any (λ r. is_faulted r.end) rs ≡ true) (reports_same d.rest) f));
      smb_faults = (λ f. crew_faulted smb_talks tell smb_post serve.conns smb_links office serve.limit p.seen smb_faults smb_given smb_now smb_now smb_final e.smb.hired d.smb e.smb.lent smb_ran d.smb_back (subst (λ (rs : List WorkReport). list_any (λ r. is_faulted r.end) rs ≡ true) (reports_same d.smb) f));
      rest_is = d.report_is ∙ ap crew_report (sym (reports_same d.rest));
      smb_is = d.smb_is ∙ ap crew_report (sym (reports_same d.smb));
    }

-- ---- no link was served
-- nothing was written
nothing_written : {S : Type 0} (wrote : S → List ℕ → Type 0) (out out' : S) → out' ≡ out → HasText (wrote out) (wrote out') []
nothing_written {S} wrote out out' same before w = subst (λ (x : S × List ℕ). wrote x.0 x.1) (λ j. (sym same j, sym (append-nil before) j)) w

module _ {L C W K S : Type 0} (tell : L → Told K) (wrote : S → List ℕ → Type 0) (count : S → ℕ) (out out' : S) (office : TableId) (limit n : ℕ) (given now final smb_given smb_now smb_final : Told K) (main p : PassView) (ws : List (Worker L C W)) (rest_report smb_report : CrewReport)
    (e : AreEngaged tell office limit n given now smb_given smb_now ws) (d : AreAllDismissed tell main p n now final smb_now smb_final ws rest_report smb_report) where
  -- those that were dismissed are those that were engaged
  same_parts : (e.rest ≡ d.rest) × (e.smb.hired ≡ d.smb)
  same_parts = split_same e.rest e.smb.hired d.rest d.smb (sym e.smb.all_are ∙ d.all_are) (sym e.cut ∙ d.cut)

  rest_back : TakenBack (map (λ w. tell w.listener) e.rest) now final
  rest_back = subst (λ (xs : List (Worker L C W)). TakenBack (map (λ w. tell w.listener) xs) now final) (sym same_parts.0) d.back

  smb_back : TakenBack (map (λ w. tell w.listener) e.smb.hired) smb_now smb_final
  smb_back = subst (λ (xs : List (Worker L C W)). TakenBack (map (λ w. tell w.listener) xs) smb_now smb_final) (sym same_parts.1) d.smb_back

  pub rest_links_same : final.links ≡ given.links
  rest_links_same = links_back given (map (λ w. tell w.listener) e.rest) now final e.lent rest_back

  pub smb_links_same : smb_final.links ≡ smb_given.links
  smb_links_same = links_back smb_given (map (λ w. tell w.listener) e.smb.hired) smb_now smb_final e.smb.lent smb_back

  failed_by : HasFailed tell n given now smb_given smb_now ws → Rose given.faults final.faults ⊎ Rose smb_given.faults smb_final.faults
  failed_by f =
      let parts = split_same e.rest e.smb.hired f.rest f.smb (sym e.smb.all_are ∙ f.all_are) (sym e.cut ∙ f.cut) in
      ⊎_elim
      (λ x. inl (failed_back given (map (λ w. tell w.listener) e.rest) now final (subst (λ (xs : List (Worker L C W)). Failed given (map (λ w. tell w.listener) xs) now) (sym parts.0) x) e.lent rest_back))
      (λ x. inr (failed_back smb_given (map (λ w. tell w.listener) e.smb.hired) smb_now smb_final (subst (λ (xs : List (Worker L C W)). Failed smb_given (map (λ w. tell w.listener) xs) smb_now) (sym parts.1) x) e.smb.lent smb_back))
      f.failed

  pub unserved_by : (u : Unserved) → IsUnreadyBy tell wrote count out out' n given now smb_given smb_now ws u
      → IsUnservedBy u (wrote out) (wrote out') (record { rest = given; smb = smb_given; writes = count out }) (record { rest = final; smb = smb_final; writes = count out' })
  unserved_by WriteFault x = x
  unserved_by NoMemory x = nothing_written wrote out out' x
  unserved_by ListenFault x = (failed_by x.1, nothing_written wrote out out' x.0)

-- ---- the office was closed, or could not be
module _ {K D E : Type 0} (rest_talks : Talks K D) (smb_talks : Talks K E) (serve : ServeWords) (wrote wrote' : List ℕ → Type 0) (old begun new : Ports K) (rest_port smb_port status : ℕ) (same : begun ≡ old) (lines : HasText wrote wrote' (port_lines rest_port smb_port)) (kept : new.writes ≡ begun.writes) where
  pub served_by : (p : PassView) (book : History) (rest_report smb_report : CrewReport) → book ≡ record { entries = p.seen; limit = p.limit } → p.limit ≡ serve.limit → IsHistory book.limit book.entries
      → (IsAllMet p → AllWorked rest_talks smb_talks serve p.seen begun new rest_report smb_report) → IsAllMet p → status ≡ crews_status rest_report smb_report
      → Serves rest_talks smb_talks serve wrote wrote' old new status
  served_by p book rest_report smb_report is limit legal worked met told = inl (record {
    rest_port = rest_port;
    smb_port = smb_port;
    lines = lines;
    kept = kept ∙ ap (λ (o : Ports K). o.writes) same;
    entries = p.seen;
    legal = subst (λ (x : ℕ × List Noted). IsHistory x.0 x.1) (λ j. ((ap (λ (h : History). h.limit) is ∙ limit) j, ap (λ (h : History). h.entries) is j)) legal;
    rest_report = rest_report;
    smb_report = smb_report;
    worked = subst (λ (o : Ports K). AllWorked rest_talks smb_talks serve p.seen o new rest_report smb_report) same (worked met);
    status_is = told;
  })

  pub unclosed_by : status ≡ 5 → Serves rest_talks smb_talks serve wrote wrote' old new status
  unclosed_by told = inr (inl (record {
    rest_port = rest_port;
    smb_port = smb_port;
    lines = lines;
    kept = kept ∙ ap (λ (o : Ports K). o.writes) same;
    status_is = told;
  }))

-- what was begun is as it was before both listeners listened
pub begun_same : {K : Type 0} (rest rest' smb smb' : Told K) (writes : ℕ) → rest'.links ≡ rest.links → rest'.faults ≡ rest.faults → smb'.links ≡ smb.links → smb'.faults ≡ smb.faults
    → record { rest = rest'; smb = smb'; writes = writes } ≡ (let o : Ports K = record { rest = rest; smb = smb; writes = writes } in o)
begun_same {K} rest rest' smb smb' writes a b c d = λ j. record { rest = record { links = a j; faults = b j }; smb = record { links = c j; faults = d j }; writes = writes }
