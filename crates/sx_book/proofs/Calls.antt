-- What an office's call came to, and calls through a pass one behind another.
use Rattle.std.proofs.Common.{ℕ, ◌+◌, ◌-◌, ◌<◌, ◌≤◌, ◌≡◌, List, [], ◌∷◌, ◌++◌, length, take, drop, slice_get, Some, refl, sym, ap, ◌∙◌, subst, arith, length-append, append_assoc, append-nil}
use Rattle.std.proofs.lemmas.List.{take-append-le, take_all, drop_at}
use Rattle.std.proofs.lemmas.List.Concat.{flat_map-append}
use Rattle.sx_call.specs.declared.calls.Call.{Call}
use Rattle.sx_call.specs.declared.entries.Noted.{Noted}
use Rattle.sx_call.specs.declared.refusals.Stop.TheVariants.{HistoryFull, NoMemory}
use Rattle.sx_spec.specs.History.{noted_at, wants}
use Rattle.sx_spec.specs.Step.{step, replay}
use Rattle.sx_turn.specs.Places.{places, places_from}
use Rattle.sx_turn.proofs.Places.{places_append}
use Rattle.sx_book.specs.Passes.{PassView, caller_of, GrowsByOthers, Appends, AppendsNone, HasOwnPlaces, entry_behind, with_noted}
use Rattle.sx_book.specs.OneHistory.{Asked, appended, history_full, no_memory, Outcome, entry_of, IsAppended, place_of, places_of, AreCallsIn, Asks}
use Rattle.sx_book.specs.declared.pass.Receipt.{Receipt}
use Rattle.sx_book.proofs.Appended.{own_place}
use Rattle.sx_book.proofs.Growth.{kept_to, get_behind, calls_join, calls_none, others_none}

-- the first entries of a list with one more
take_behind : (log : List Noted) (n : Noted) → take (length log + 1 - 1) (log ++ n ∷ []) ≡ log
take_behind log n =
    let e : length log + 1 - 1 ≡ length log = omega arith in
    ap (λ (k : ℕ). take k (log ++ n ∷ [])) e ∙ take-append-le (length log) log (n ∷ []) (omega arith) ∙ take_all (length log) log (omega arith)

get_last : (log : List Noted) (n : Noted) → slice_get (log ++ n ∷ []) (length log + 1 - 1) ≡ Some n
get_last log n =
    let e : length log + 1 - 1 ≡ length log = omega arith in
    ap (λ (k : ℕ). slice_get (log ++ n ∷ []) k) e ∙ get_behind log n []

-- an entry behind a list
behind_list : (limit : ℕ) (log : List Noted) (from : ℕ) (a : Asked) → from ≤ length log → IsAppended (kept_to limit (with_noted log (entry_of a log))) from a (length log + 1) (step (replay log) (entry_of a log)).1
behind_list limit log from a l =
    let n : Noted = noted_at (replay log) (entry_of a log) in
    let more : length (log ++ n ∷ []) ≡ length log + 1 = length-append log (n ∷ []) in
    record {
      behind = omega (arith, l);
      within = omega (arith, more);
      entry = get_last log n ∙ ap (λ (t : List Noted). Some (noted_at (replay t) (entry_of a t))) (sym (take_behind log n));
      reply_is = ap (λ (t : List Noted). (step (replay t) (entry_of a t)).1) (sym (take_behind log n));
    }

-- one call that was appended behind others' entries
call_appended : (limit : ℕ) (seen log : List Noted) (a : Asked) → GrowsByOthers a.who seen log
    → AreCallsIn (kept_to limit (with_noted log (entry_of a log))) a.who (length seen) (record { asked = a; came = appended (length log + 1) (step (replay log) (entry_of a log)).1 } ∷ [])
call_appended limit seen log a g =
    let more : List Noted = g.0 in
    let n : Noted = noted_at (replay log) (entry_of a log) in
    let one : Outcome = record { asked = a; came = appended (length log + 1) (step (replay log) (entry_of a log)).1 } in
    let long : length log ≡ length seen + length more = ap length g.1 ∙ length-append seen more in
    let before : AreCallsIn (kept_to limit log) a.who (length seen) [] = subst (λ (l : List Noted). AreCallsIn (kept_to limit l) a.who (length seen) []) (sym g.1) (calls_none limit a.who seen more g.2) in
    let last : AreCallsIn (kept_to limit (log ++ n ∷ [])) a.who (length log) (one ∷ []) = record {
      callers = (refl, tt);
      came = (behind_list limit log (length log) a (omega arith), tt);
      only = ap (places_from caller_of a.who (length log + 1)) (drop_at log (n ∷ []) (length log) refl) ∙ own_place a.who (length log + 1) n refl;
    } in
    calls_join limit a.who (length seen) log (n ∷ []) [] (one ∷ []) (omega (arith, long)) before last

module _ (p q : PassView) (session now fresh : ℕ) (call : Call) where
  -- the call took a place
  pub appended_asks : (r : Receipt) → Appends p session now fresh call r q
      → Asks p q (record { asked = record { who = p.number; session = session; call = call; now = now; fresh = fresh }; came = appended r.place r.reply } ∷ [])
  appended_asks r t =
      let a : Asked = record { who = p.number; session = session; call = call; now = now; fresh = fresh } in
      let e = entry_behind t.log p.number session now fresh call in
      let n : Noted = noted_at (replay t.log) e in
      let P : PassView → Type 0 = λ x. Asks p x (record { asked = a; came = appended (length t.log + 1) (step (replay t.log) e).1 } ∷ []) in
      let Q : Receipt → Type 0 = λ x. Asks p q (record { asked = a; came = appended x.place x.reply } ∷ []) in
      subst Q (sym t.receipt) (subst P (sym t.pass) (record {
        grown = (t.others.0 ++ n ∷ [], sym (append_assoc p.seen t.others.0 (n ∷ [])) ∙ ap (λ (l : List Noted). l ++ n ∷ []) (sym t.others.1));
        calls = call_appended p.limit p.seen t.log a t.others;
        pass = refl;
      }))

  -- what a pass is that has seen more entries of others
  saw_more : (seen : List Noted) → q ≡ record p { seen = seen } → q ≡ record p { seen = q.seen; mine = p.mine ++ [] }
  saw_more seen e =
      let same : q.seen ≡ seen = ap (λ (x : PassView). x.seen) e in
      e ∙ ap (λ (l : List Noted). record p { seen = l }) (sym same) ∙ ap (λ (m : List ℕ). record p { seen = q.seen; mine = m }) (sym (append-nil p.mine))

  -- no call of the pass, which has seen more entries of others
  only_others : GrowsByOthers p.number p.seen q.seen → places_from caller_of p.number (length p.seen + 1) (drop (length p.seen) q.seen) ≡ []
  only_others g =
      ap (λ (l : List Noted). places_from caller_of p.number (length p.seen + 1) (drop (length p.seen) l)) g.1
      ∙ (ap (places_from caller_of p.number (length p.seen + 1)) (drop_at p.seen g.0 (length p.seen) refl) ∙ others_none p.number (length p.seen + 1) g.0 g.2)

  -- the history was full
  pub full_asks : (entries sessions limit : ℕ) → AppendsNone p call (HistoryFull entries sessions limit) q
      → Asks p q (record { asked = record { who = p.number; session = session; call = call; now = now; fresh = fresh }; came = history_full entries sessions } ∷ [])
  full_asks entries sessions limit t =
      let f = t.cause entries sessions limit refl in
      let g : GrowsByOthers p.number p.seen q.seen = t.others.0 in
      let long : length q.seen ≡ length p.seen + length g.0 = ap length g.1 ∙ length-append p.seen g.0 in
      let whole : q.seen ≡ take entries q.seen = sym (take_all entries q.seen (omega (arith, f.entries_is))) in
      let full : q.limit < entries + wants (replay q.seen) call = omega (arith, f.full, f.entries_is) in
      record {
        grown = (g.0, sym g.1);
        calls = record {
          callers = (refl, tt);
          came = (
            record {
              behind = omega (arith, long, f.entries_is);
              within = omega (arith, f.entries_is);
              sessions_is = f.sessions_is ∙ ap (λ (x : List Noted). length (replay x).store.sessions) whole;
              kept = omega (arith, f.within, f.limit_is);
              full = subst (λ (x : List Noted). q.limit < entries + wants (replay x) call) whole full;
            },
            tt,
          );
          only = only_others g;
        };
        pass = saw_more q.seen t.others.1;
      }

  -- no memory was left
  pub starved_asks : AppendsNone p call NoMemory q
      → Asks p q (record { asked = record { who = p.number; session = session; call = call; now = now; fresh = fresh }; came = no_memory } ∷ [])
  starved_asks t = record {
    grown = (t.others.0.0, sym t.others.0.1);
    calls = record { callers = (refl, tt); came = (tt, tt); only = only_others t.others.0 };
    pass = saw_more q.seen t.others.1;
  }

-- no call
pub asks_none : (p : PassView) → Asks p p []
asks_none p = record {
  grown = ([], append-nil p.seen);
  calls = subst (λ (l : List Noted). AreCallsIn (kept_to p.limit l) p.number (length p.seen) []) (append-nil p.seen) (calls_none p.limit p.number p.seen [] tt);
  pass = ap (λ (m : List ℕ). record p { mine = m }) (sym (append-nil p.mine));
}

places_join : (os us : List Outcome) → places_of (os ++ us) ≡ places_of os ++ places_of us
places_join os us = flat_map-append (λ (u : Outcome). place_of u.came) os us

-- calls, and more of them since
pub asks_join : (p q r : PassView) (os us : List Outcome) → Asks p q os → Asks q r us → Asks p r (os ++ us)
asks_join p q r os us a b =
    let more : List Noted = b.grown.0 in
    let long : length q.seen ≡ length p.seen + length a.grown.0 = sym (ap length a.grown.1) ∙ length-append p.seen a.grown.0 in
    let same : q.limit ≡ r.limit = sym (ap (λ (x : PassView). x.limit) b.pass) in
    let who : q.number ≡ p.number = ap (λ (x : PassView). x.number) a.pass in
    let first : AreCallsIn (kept_to r.limit q.seen) p.number (length p.seen) os = subst (λ (n : ℕ). AreCallsIn (kept_to n q.seen) p.number (length p.seen) os) same a.calls in
    let then : AreCallsIn (kept_to r.limit r.seen) p.number (length q.seen) us = subst (λ (n : ℕ). AreCallsIn (kept_to r.limit r.seen) n (length q.seen) us) who b.calls in
    let last : AreCallsIn (kept_to r.limit (q.seen ++ more)) p.number (length q.seen) us = subst (λ (h : List Noted). AreCallsIn (kept_to r.limit h) p.number (length q.seen) us) (sym b.grown.1) then in
    let mine : q.mine ≡ p.mine ++ places_of os = ap (λ (x : PassView). x.mine) a.pass in
    let places_are : q.mine ++ places_of us ≡ p.mine ++ places_of (os ++ us) = ap (λ (m : List ℕ). m ++ places_of us) mine ∙ (append_assoc p.mine (places_of os) (places_of us) ∙ ap (λ (m : List ℕ). p.mine ++ m) (sym (places_join os us))) in
    record {
      grown = (a.grown.0 ++ more, sym (append_assoc p.seen a.grown.0 more) ∙ ap (λ (h : List Noted). h ++ more) a.grown.1 ∙ b.grown.1);
      calls = subst (λ (h : List Noted). AreCallsIn (kept_to r.limit h) p.number (length p.seen) (os ++ us)) b.grown.1 (calls_join r.limit p.number (length p.seen) q.seen more os us (omega (arith, long)) first last);
      pass = b.pass ∙ ap (λ (x : PassView). record x { seen = r.seen; mine = q.mine ++ places_of us }) a.pass ∙ ap (λ (m : List ℕ). record p { seen = r.seen; mine = m }) places_are;
    }

-- calls keep the places of a pass exact
pub asks_exact : (p q : PassView) (os : List Outcome) → HasOwnPlaces p → Asks p q os → HasOwnPlaces q
asks_exact p q os exact a =
    let more : List Noted = a.grown.0 in
    let mine : q.mine ≡ p.mine ++ places_of os = ap (λ (x : PassView). x.mine) a.pass in
    let who : q.number ≡ p.number = ap (λ (x : PassView). x.number) a.pass in
    let k : 1 + length p.seen ≡ length p.seen + 1 = omega arith in
    let rest : places_from caller_of p.number (1 + length p.seen) more ≡ places_of os =
    ap (λ (n : ℕ). places_from caller_of p.number n more) k ∙ (ap (places_from caller_of p.number (length p.seen + 1)) (sym (drop_at p.seen more (length p.seen) refl) ∙ ap (drop (length p.seen)) a.grown.1) ∙ a.calls.only) in
    let whole : places caller_of p.number q.seen ≡ p.mine ++ places_of os =
    ap (places caller_of p.number) (sym a.grown.1) ∙ (places_append caller_of p.number 1 p.seen more ∙ (ap (λ (l : List ℕ). l ++ places_from caller_of p.number (1 + length p.seen) more) (sym exact) ∙ ap (λ (l : List ℕ). p.mine ++ l) rest)) in
    mine ∙ (sym whole ∙ ap (λ (n : ℕ). places caller_of n q.seen) (sym who))
