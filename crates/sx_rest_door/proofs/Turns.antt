-- One request more on a connection.
use Rattle.std.proofs.Common.{ℕ, ◌+◌, ◌-◌, ◌<◌, ◌≤◌, ◌≡◌, List, [], ◌∷◌, ◌++◌, length, map, slice_get, Option, Some, None, option_map, Result, Ok, Err, refl, sym, ap, ◌∙◌, subst, append_assoc, arith, length-append, zero, suc}
use Rattle.std.specs.List.{AllByRecursion, flat_map}
use Rattle.std.specs.Io.KnownBytes.{Consumes}
use Rattle.std.proofs.lemmas.List.{append-nil}
use Rattle.std.proofs.lemmas.List.Concat.{flat_map-append}
use Rattle.httparse.specs.Grammar.{RequestHead, print_request, print_blank}
use Rattle.httparse.proofs.GrammarLemmas.{print_request-append}
use Rattle.sx_base.specs.Clock.{StepsThrough}
use Rattle.sx_base.proofs.Steps.{steps_append}
use Rattle.sx_base.proofs.Streams.{consumes_more, consumes_none}
use Rattle.sx_http.specs.RequestStream.{IsRequest}
use Rattle.sx_http.specs.declared.heads.Request.{Request}
use Rattle.sx_key.specs.Checking.{auth}
use Rattle.sx_key.specs.declared.account.Account.{Account}
use Rattle.sx_call.specs.declared.calls.Call.{Call}
use Rattle.sx_call.specs.declared.entries.Noted.{Noted}
use Rattle.sx_decode.specs.Spelling.{reading}
use Rattle.sx_turn.proofs.Lists.{each_map, each_snoc}
use Rattle.sx_book.proofs.Texts.{came_after}
use Rattle.sx_book.specs.History.{History}
use Rattle.sx_book.specs.OneHistory.{Came, appended, history_full, no_memory, Outcome, Asks, history_of}
use Rattle.sx_book.specs.Passes.{PassView}
use Rattle.sx_book.proofs.Calls.{asks_none, asks_join}
use Rattle.sx_reply.specs.declared.answer.Answer.{Answer}
use Rattle.sx_reply.specs.declared.answer.Said.{Said}
use Rattle.sx_reply.specs.PrintedReply.{is_printed}
use Rattle.sx_rest_door.specs.Asking.{RestDoorState, IsRequestAnswered, IsOutcomeOf, KeepsHistory, said_uncalled, tally_uncalled}
use Rattle.sx_rest_door.specs.Asking.{IsJudged}
use Rattle.sx_book.specs.Reports.{no_tally}
use Rattle.sx_rest_door.specs.Conversation.{RequestOutcome, not_signed, no_call, not_read, called, AnsweredRequest, ComesTo, TellsMoment, IsAnsweredRequest, moment_at, calls_in_request, calls_of_requests, words_in, words_of, tally_after_request, tally_after_requests, request_bytes}
use Rattle.sx_rest_door.specs.declared.judging.Uncalled.{Uncalled}
use Rattle.sx_rest_door.specs.declared.judging.Uncalled.TheVariants.{NotSigned, NoCall, NotRead}
use Rattle.sx_book.specs.declared.report.Tally.{Tally}
use Rattle.sx_rest_door.proofs.Asks.{none_keeps, keeps_join}

pub tally_more : (limit : ℕ) (tally : Tally) (ts : List AnsweredRequest) (t : AnsweredRequest) → tally_after_requests limit tally (ts ++ t ∷ []) ≡ tally_after_request limit (tally_after_requests limit tally ts) t.outcome
tally_more limit tally [] t = refl
tally_more limit tally (u ∷ ts) t = tally_more limit (tally_after_request limit tally u.outcome) ts t

pub flat_more : {A : Type 0} (f : AnsweredRequest → List A) (ts : List AnsweredRequest) (t : AnsweredRequest) → flat_map f (ts ++ t ∷ []) ≡ flat_map f ts ++ f t
flat_more {A} f ts t = flat_map-append f ts (t ∷ []) ∙ ap (λ (xs : List A). flat_map f ts ++ xs) (append-nil (f t))

-- the moments of requests, with one more
pub moments_more : (ts : List AnsweredRequest) (t : AnsweredRequest) → map (λ (u : AnsweredRequest). u.moment) (ts ++ t ∷ []) ≡ map (λ (u : AnsweredRequest). u.moment) ts ++ t.moment ∷ []
moments_more [] t = refl
moments_more (u ∷ ts) t = ap (λ (ms : List ℕ). u.moment ∷ ms) (moments_more ts t)

-- ---- a longer history
found_in_more : {A B : Type 0} (f : A → B) (xs ys : List A) (i : ℕ) (b : B) → option_map f (slice_get xs i) ≡ Some b → option_map f (slice_get (xs ++ ys) i) ≡ Some b
found_in_more f [] ys i b e = absurd (let no : ⊥ = cc in no)
found_in_more f (x ∷ xs) ys zero b e = e
found_in_more f (x ∷ xs) ys (suc i) b e = found_in_more f xs ys i b e

-- the moment that was told stands in each longer history
tells_more : (limit limit' : ℕ) (h more : List Noted) (moment : ℕ) (o : RequestOutcome) (told : ℕ) → TellsMoment (record { entries = h; limit = limit }) moment o told → TellsMoment (record { entries = h ++ more; limit = limit' }) moment o told
tells_more limit limit' h more moment (not_signed text) told e = e
tells_more limit limit' h more moment (no_call syntax) told e = e
tells_more limit limit' h more moment not_read told e = e
tells_more limit limit' h more moment (called call first second (appended place reply)) told e = found_in_more (λ (n : Noted). n.entry.at) h more (place - 1) told e
tells_more limit limit' h more moment (called call first second (history_full n s)) told e = e
tells_more limit limit' h more moment (called call first second no_memory) told e = e

-- so requests were answered in each longer history, too
pub answered_more : (account : Account) (p q : PassView) (os : List Outcome) → Asks p q os → (ts : List AnsweredRequest) → AllByRecursion (IsAnsweredRequest account (history_of p)) ts → AllByRecursion (IsAnsweredRequest account (history_of q)) ts
answered_more account p q os asks ts all =
    let grows : (t : AnsweredRequest) → TellsMoment (history_of p) t.moment t.outcome t.told → TellsMoment (history_of q) t.moment t.outcome t.told =
    λ t tells. subst (λ (seen : List Noted). TellsMoment (record { entries = seen; limit = q.limit }) t.moment t.outcome t.told) asks.grown.1 (tells_more p.limit q.limit p.seen asks.grown.0 t.moment t.outcome t.told tells) in
    each_map _ _ (λ t h. record { is = h.is; comes = h.comes; tells = grows t h.tells }) ts all

-- ---- a request has bytes
longer : (a b : List ℕ) → 0 < length b → 0 < length (a ++ b)
longer a b l = omega (arith, l, length-append a b)

begun : (b : ℕ) (bytes : List ℕ) → 0 < length (b ∷ bytes)
begun b bytes = omega arith

head_long : (h : RequestHead) → 0 < length (print_request h)
head_long h =
    subst (λ (bytes : List ℕ). 0 < length bytes) (sym (print_request-append h []) ∙ append-nil (print_request h))
    (longer (print_blank h.blank) _ (longer h.method _ (begun 32 _)))

-- a request takes a byte or more
pub request_long : (bytes : List ℕ) (r : Request) → IsRequest bytes r → 1 ≤ length bytes
request_long bytes r is =
    let whole : length bytes ≡ length (print_request is.tree) + length r.body = ap length is.reads.1 ∙ length-append (print_request is.tree) r.body in
    omega (arith, whole, head_long is.tree)

-- ---- the requests so far
-- the requests that were answered so far, from one stream and state to another
pub record Going {C R : Type 0} (ticks : C → ℕ → C → Type 0) (draws : R → ℕ → R → Type 0) (account : Account) (stream stream' : Option (List ℕ)) (clock clock' : C) (old new : RestDoorState R) (given : ℕ) : Type 0 where
  pub turns : List AnsweredRequest
  pub requests : AllByRecursion (IsAnsweredRequest account (history_of new.pass)) turns
  pub bytes : Consumes stream stream' (request_bytes turns)
  pub given_is : given ≡ length (request_bytes turns)
  pub calls : Asks old.pass new.pass (calls_of_requests old.pass.number turns)
  pub history : KeepsHistory old.pass new.pass
  pub tallied : new.tally ≡ tally_after_requests old.pass.limit no_tally turns
  pub moments : StepsThrough ticks clock (map (λ (u : AnsweredRequest). u.moment) turns) clock'
  pub words : StepsThrough draws old.random (words_of turns) new.random

module _ {C R : Type 0} (ticks : C → ℕ → C → Type 0) (draws : R → ℕ → R → Type 0) (account : Account) where
  -- no request yet
  unfoldable pub going_none : (stream : Option (List ℕ)) (clock : C) (s : RestDoorState R) (given : ℕ) → s.tally ≡ no_tally → given ≡ 0 → Going ticks draws account stream stream clock clock s s given
  going_none stream clock s given none start = record {
    turns = [];
    requests = tt;
    bytes = consumes_none stream;
    given_is = start;
    calls = asks_none s.pass;
    history = none_keeps s.pass;
    tallied = none;
    moments = refl;
    words = refl;
  }

  -- the request that was answered
  abbrev pub turn_of : {Comes : RequestOutcome → Type 0} (bytes : List ℕ) (r : Request) (moment : ℕ) (b c : RestDoorState R) (answer : Answer) → IsRequestAnswered draws moment Comes b c answer → AnsweredRequest
  turn_of bytes r moment b c answer a = record { bytes = bytes; request = r; moment = moment; outcome = a.outcome; told = a.told }

  -- the requests with one more
  unfoldable pub going_more : (s0 s1 s2 : Option (List ℕ)) (c0 c1 c2 : C) (a b c : RestDoorState R) (k1 k2 : ℕ) (bytes : List ℕ) (r : Request) (moment : ℕ) (answer : Answer)
      → Going ticks draws account s0 s1 c0 c1 a b k1 → IsRequest bytes r → Consumes s1 s2 bytes → k2 ≡ k1 + length bytes → ticks c1 moment c2
      → IsRequestAnswered draws moment (ComesTo account r moment) b c answer → Going ticks draws account s0 s2 c0 c2 a c k2
  going_more s0 s1 s2 c0 c1 c2 a b c k1 k2 bytes r moment answer g is taken count ticked last =
      let t : AnsweredRequest = record { bytes = bytes; request = r; moment = moment; outcome = last.outcome; told = last.told } in
      let who : b.pass.number ≡ a.pass.number = ap (λ (p : PassView). p.number) g.calls.pass in
      let limit : b.pass.limit ≡ a.pass.limit = ap (λ (p : PassView). p.limit) g.calls.pass in
      let all : request_bytes (g.turns ++ t ∷ []) ≡ request_bytes g.turns ++ bytes = flat_more (λ (u : AnsweredRequest). u.bytes) g.turns t in
      let calls : calls_of_requests a.pass.number (g.turns ++ t ∷ []) ≡ calls_of_requests a.pass.number g.turns ++ calls_in_request a.pass.number moment last.outcome = flat_more (λ (u : AnsweredRequest). calls_in_request a.pass.number u.moment u.outcome) g.turns t in
      let asked : Asks b.pass c.pass (calls_in_request a.pass.number moment last.outcome) = subst (λ (n : ℕ). Asks b.pass c.pass (calls_in_request n moment last.outcome)) who last.calls in
      let words : words_of (g.turns ++ t ∷ []) ≡ words_of g.turns ++ words_in last.outcome = flat_more (λ (u : AnsweredRequest). words_in u.outcome) g.turns t in
      record {
        turns = g.turns ++ t ∷ [];
        requests = each_snoc _ g.turns t (answered_more account b.pass c.pass _ last.calls g.turns g.requests) (record { is = is; comes = last.comes; tells = last.tells });
        bytes = subst (Consumes s0 s2) (sym all) (consumes_more s0 s1 s2 (request_bytes g.turns) bytes g.bytes taken);
        given_is = omega (arith, count, g.given_is, ap length all, length-append (request_bytes g.turns) bytes);
        calls = subst (Asks a.pass c.pass) (sym calls) (asks_join a.pass b.pass c.pass (calls_of_requests a.pass.number g.turns) (calls_in_request a.pass.number moment last.outcome) g.calls asked);
        history = keeps_join a.pass b.pass c.pass g.history last.history;
        tallied = last.tallied ∙ (ap (λ (n : ℕ). tally_after_request n b.tally last.outcome) limit ∙ (ap (λ (x : Tally). tally_after_request a.pass.limit x last.outcome) g.tallied ∙ sym (tally_more a.pass.limit no_tally g.turns t)));
        moments = subst (λ (ms : List ℕ). StepsThrough ticks c0 ms c2) (sym (moments_more g.turns t)) (steps_append ticks c0 c1 c2 (map (λ (u : AnsweredRequest). u.moment) g.turns) (moment ∷ []) g.moments (c2, ticked, refl));
        words = subst (λ (ws : List ℕ). StepsThrough draws a.random ws c.random) (sym words) (steps_append draws a.random b.random c.random (words_of g.turns) (words_in last.outcome) g.words last.drawn);
      }

-- ---- the answers to a request
-- the call that it spells was asked
pub asked_request : {R : Type 0} (draws : R → ℕ → R → Type 0) (account : Account) (r : Request) (moment : ℕ) (call : Call) (old new : RestDoorState R) (answer : Answer)
    → (auth r.head account moment ≡ Ok tt) × (reading r ≡ Ok call) → IsRequestAnswered draws moment (IsOutcomeOf call) old new answer → IsRequestAnswered draws moment (ComesTo account r moment) old new answer
asked_request {R} draws account r moment call old new answer judged a = record {
  outcome = a.outcome;
  told = a.told;
  comes = subst (ComesTo account r moment) (sym a.comes.3) judged;
  tells = a.tells;
  calls = a.calls;
  history = a.history;
  drawn = a.drawn;
  tallied = a.tallied;
  answer_is = a.answer_is;
  printed = a.printed;
}

-- a request without a call
pub refused_request : {R : Type 0} (draws : R → ℕ → R → Type 0) (account : Account) (r : Request) (moment : ℕ) (why : Uncalled) (pass : PassView) (random : R) (tally tally' : Tally) (answer : Answer)
    → IsJudged account r moment (Err why) → tally' ≡ tally_uncalled tally why → answer ≡ record { place = 0; at = moment; said = said_uncalled why }
    → IsRequestAnswered draws moment (ComesTo account r moment) (record { pass = pass; random = random; tally = tally }) (record { pass = pass; random = random; tally = tally' }) answer
refused_request {R} draws account r moment (NotSigned text) pass random tally tally' answer judged counted is = record {
  outcome = not_signed text;
  told = moment;
  comes = judged;
  tells = refl;
  calls = asks_none pass;
  history = none_keeps pass;
  drawn = refl;
  tallied = counted;
  answer_is = is;
  printed = ap (λ (a : Answer). is_printed a.said) is;
}
refused_request {R} draws account r moment (NoCall syntax) pass random tally tally' answer judged counted is = record {
  outcome = no_call syntax;
  told = moment;
  comes = judged;
  tells = refl;
  calls = asks_none pass;
  history = none_keeps pass;
  drawn = refl;
  tallied = counted;
  answer_is = is;
  printed = ap (λ (a : Answer). is_printed a.said) is;
}
refused_request {R} draws account r moment NotRead pass random tally tally' answer judged counted is = record {
  outcome = not_read;
  told = moment;
  comes = tt;
  tells = refl;
  calls = asks_none pass;
  history = none_keeps pass;
  drawn = refl;
  tallied = counted;
  answer_is = is;
  printed = ap (λ (a : Answer). is_printed a.said) is;
}

-- an outcome counts at most one call
pub asked_after : (limit : ℕ) (t : Tally) (o : RequestOutcome) → (tally_after_request limit t o).asked ≤ t.asked + 1
asked_after limit t (not_signed text) = omega arith
asked_after limit t (no_call syntax) = omega arith
asked_after limit t not_read = omega arith
asked_after limit t (called call first second came) = omega (arith, came_after limit (record t { asked = t.asked + 1 }) came)
