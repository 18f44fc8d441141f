-- A session lives on until its own End.
use Rattle.std.proofs.Common.{ℕ, ◌+◌, ◌≡◌, ◌≢◌, ◌==◌, true, false, cond, List, [], ◌∷◌, ◌++◌, Option, Some, None, refl, ap, sym, ◌∙◌, subst, arith}
use Rattle.std.specs.Prelude.{All, Ok}
use Rattle.std.specs.List.{find, AllByRecursion}
use Rattle.std.proofs.lemmas.Bool.Decides.{nat_tests}
use Rattle.std.proofs.lemmas.List.Elements.{All-head, All-tail}
use Rattle.sx_call.specs.Calls.{door_of}
use Rattle.sx_call.specs.declared.calls.Call.{Call}
use Rattle.sx_call.specs.declared.calls.Call.TheVariants.{Start, End}
use Rattle.sx_call.specs.declared.doors.Door.{Door}
use Rattle.sx_call.specs.declared.doors.Door.TheVariants.{Rest, Starts, Ends, InSession}
use Rattle.sx_call.specs.declared.entries.Entry.{Entry}
use Rattle.sx_call.specs.declared.entries.Noted.{Noted}
use Rattle.sx_call.specs.declared.opens.Live.{Live}
use Rattle.sx_call.specs.declared.replies.Reply.{Reply}
use Rattle.sx_call.specs.declared.replies.Reply.TheVariants.{Smb}
use Rattle.sx_call.specs.declared.replies.SmbReply.TheVariants.{Started}
use Rattle.sx_spec.specs.Account.{Store, Account, empty, is_session, session_of}
use Rattle.sx_spec.specs.Changes.{put_session}
use Rattle.sx_spec.specs.Checks.{first_check, unchecked}
use Rattle.sx_spec.specs.History.{is_of_caller, stands_in, IsHistory, IsHistoryFrom, moment_after, noted_at}
use Rattle.sx_spec.specs.SessionCalls.{start}
use Rattle.sx_spec.specs.Step.{step, after, replay, outcome, unless_refused}
use Rattle.sx_spec.specs.Whole.{IsWhole, IsLive}
use Rattle.sx_spec.proofs.Histories.{replay_more}
use Rattle.sx_turn.proofs.Lists.{each_append, each_map, each_snoc}
use Rattle.sx_book.specs.Passes.{PassView, with_noted, GrowsByOthers, IsNoEndOf, HoldsIn, StandsBy, start_of}
use Rattle.sx_book.proofs.Callers.{step_lives}

-- a live session has one caller
one_caller : (who w : ℕ) (o : Option Live) → is_of_caller who o ≡ true → is_of_caller w o ≡ true → who ≡ w
one_caller who w None h k = cc
one_caller who w (Some l) h k = grind (arith, nat_tests)

-- an End stands in a session of its caller
ends_own : (s : Store) (w session : ℕ) (call : Call) → stands_in s w session (door_of call) ≡ true → call ≡ End
    → is_of_caller w (session_of s session) ≡ true
ends_own s w session call h e = subst (λ (c : Call). stands_in s w session (door_of c) ≡ true) e h

-- entries among which the caller has made no End of its session leave it live
since_live : (who q : ℕ) (a : Account) (last limit : ℕ) (more : List Noted) → IsHistoryFrom a last limit more
    → AllByRecursion (λ n. IsNoEndOf who q n.entry) more → is_of_caller who (session_of a.store q) ≡ true
    → is_of_caller who (session_of (after a more).store q) ≡ true
since_live who q a last limit [] h kept live = live
since_live who q a last limit (n ∷ ns) h kept live =
    since_live who q (step a n.entry).0 n.entry.at limit ns h.3 kept.1
    (step_lives who q a n.entry (λ ends same. kept.0 ends (one_caller n.entry.who who (session_of a.store q) (subst (λ (s : ℕ). is_of_caller n.entry.who (session_of a.store s) ≡ true) same (ends_own a.store n.entry.who n.entry.session n.entry.call h.0.session ends)) live) same) live)

-- the rest of a history is one
rest_of : (a : Account) (last limit : ℕ) (seen more : List Noted) → IsHistoryFrom a last limit (seen ++ more)
    → IsHistoryFrom (after a seen) (moment_after last seen) limit more
rest_of a last limit [] more h = h
rest_of a last limit (n ∷ ns) more h = rest_of (step a n.entry).0 n.entry.at limit ns more h.3

append_both : (xs ys zs : List Noted) → (xs ++ ys) ++ zs ≡ xs ++ (ys ++ zs)
append_both [] ys zs = refl
append_both (x ∷ xs) ys zs = ap (λ (l : List Noted). x ∷ l) (append_both xs ys zs)

append_none : (xs : List Noted) → xs ++ [] ≡ xs
append_none [] = refl
append_none (x ∷ xs) = ap (λ (l : List Noted). x ∷ l) (append_none xs)

after_both : (a : Account) (seen more : List Noted) → after a (seen ++ more) ≡ after (after a seen) more
after_both a [] more = refl
after_both a (n ∷ ns) more = after_both (step a n.entry).0 ns more

-- a session that is held is live after a legal history
pub held_live : (who q limit : ℕ) (log : List Noted) → IsHistory limit log → HoldsIn who log q
    → is_of_caller who (session_of (replay log).store q) ≡ true
held_live who q limit log h holds =
    ap (λ (l : List Noted). is_of_caller who (session_of (replay l).store q)) holds.seen_is ∙ (ap (λ (a : Account). is_of_caller who (session_of a.store q)) (after_both empty holds.begun holds.since)
    ∙ since_live who q (replay holds.begun) (moment_after 0 holds.begun) limit holds.since (rest_of empty 0 limit holds.begun holds.since (subst (IsHistory limit) holds.seen_is h)) holds.kept holds.live)

-- a session stays held among entries of others
pub held_among : (who q : ℕ) (seen log : List Noted) → GrowsByOthers who seen log → HoldsIn who seen q → HoldsIn who log q
held_among who q seen log grows holds = record {
  begun = holds.begun;
  since = holds.since ++ grows.0;
  seen_is = grows.1 ∙ (ap (λ (l : List Noted). l ++ grows.0) holds.seen_is ∙ append_both holds.begun holds.since grows.0);
  live = holds.live;
  kept = each_append _ holds.since grows.0 holds.kept (each_map _ _ (λ n other ends own. absurd (other own)) grows.0 grows.2);
}

-- and behind an entry that does not end it
pub held_behind : (who q : ℕ) (log : List Noted) (e : Entry) → IsNoEndOf who q e → HoldsIn who log q
    → HoldsIn who (with_noted log e) q
held_behind who q log e stays holds = record {
  begun = holds.begun;
  since = holds.since ++ noted_at (replay log) e ∷ [];
  seen_is = ap (λ (l : List Noted). l ++ noted_at (replay log) e ∷ []) holds.seen_is ∙ append_both holds.begun holds.since (noted_at (replay log) e ∷ []);
  live = holds.live;
  kept = each_snoc _ holds.since (noted_at (replay log) e) holds.kept stays;
}

-- a call of a door stands in its session after what was found
pub stands_among : (p : PassView) (session limit : ℕ) (door : Door) (log : List Noted)
    → GrowsByOthers p.number p.seen log → IsHistory limit log → StandsBy p session door
    → stands_in (replay log).store p.number session door ≡ true
stands_among p session limit Rest log grows h stands = grind (arith, nat_tests)
stands_among p session limit Starts log grows h stands = grind (arith, nat_tests)
stands_among p session limit Ends log grows h stands =
    held_live p.number session limit log h (held_among p.number session p.seen log grows stands)
stands_among p session limit InSession log grows h stands =
    held_live p.number session limit log h (held_among p.number session p.seen log grows stands)

-- The start of a session.

unchecked_passes : (s : Store) → first_check s unchecked ≡ None
unfolding first_check
unchecked_passes s = refl

start_outcome : (s : Store) (who peer : ℕ)
    → outcome s (Ok (start s who peer)) ≡ (put_session who peer s, Smb (Started (s.started + 1)))
start_outcome s who peer = ap (unless_refused s (start s who peer)) (unchecked_passes s)

-- it is answered with the number of the session
pub start_answers : (a : Account) (who session at fresh peer : ℕ)
    → (step a (record { who = who; session = session; at = at; fresh = fresh; call = start_of peer })).1 ≡ Smb (Started (a.store.started + 1))
start_answers a who session at fresh peer = ap (λ (out : Store × Reply). out.1) (start_outcome a.store who peer)

is_caller : (who s peer : ℕ)
    → is_of_caller who (cond (s == s) (Some (record { session = s; who = who; peer = peer; granted = 0 })) None) ≡ true
is_caller who s peer =
    let same : (s == s) ≡ true = grind (arith, nat_tests) in
    let me : (who == who) ≡ true = grind (arith, nat_tests) in
    rw (same, me) refl

last_found : (who peer started came : ℕ) (ls : List Live) → All (IsLive started came) ls
    → is_of_caller who (find (is_session (started + 1)) (ls ++ record { session = started + 1; who = who; peer = peer; granted = 0 } ∷ [])) ≡ true
last_found who peer started came [] all = is_caller who (started + 1) peer
last_found who peer started came (l ∷ ls) all =
    let le = (All-head (IsLive started came) l ls all).started in
    let other : (l.session == started + 1) ≡ false = grind (arith, nat_tests) in
    rw other (last_found who peer started came ls (All-tail (IsLive started came) l ls all))

put_lives : (s : Store) (who peer came : ℕ) → All (IsLive s.started came) s.sessions
    → is_of_caller who (session_of (put_session who peer s) (s.started + 1)) ≡ true
unfolding put_session
put_lives s who peer came all = last_found who peer s.started came s.sessions all

-- a session that was started is live, and its caller's
started_lives : (who peer session at fresh : ℕ) (log : List Noted) → IsWhole (replay log)
    → is_of_caller who (session_of (replay (with_noted log (record { who = who; session = session; at = at; fresh = fresh; call = start_of peer }))).store ((replay log).store.started + 1)) ≡ true
started_lives who peer session at fresh log w =
    ap (λ (a : Account). is_of_caller who (session_of a.store ((replay log).store.started + 1))) (replay_more log _)
    ∙ (ap (λ (out : Store × Reply). is_of_caller who (session_of out.0 ((replay log).store.started + 1))) (start_outcome (replay log).store who peer)
    ∙ put_lives (replay log).store who peer (replay log).came w.sessions.each)

-- a session that was started is held
pub started_held : (who peer session at fresh : ℕ) (log : List Noted) → IsWhole (replay log)
    → HoldsIn who (with_noted log (record { who = who; session = session; at = at; fresh = fresh; call = start_of peer })) ((replay log).store.started + 1)
started_held who peer session at fresh log w = record {
  begun = with_noted log (record { who = who; session = session; at = at; fresh = fresh; call = start_of peer });
  since = [];
  seen_is = sym (append_none _);
  live = started_lives who peer session at fresh log w;
  kept = tt;
}
