-- How a connection's requests go on and end.
use Rattle.std.proofs.Common.{ℕ, ◌+◌, ◌-◌, ◌≤◌, ◌≡◌, ◌⊎◌, ⊎_elim, true, false, List, [], ◌∷◌, ◌++◌, length, map, Option, Some, None, refl, sym, ap, ◌∙◌, subst, arith}
use Rattle.std.specs.List.{AllByRecursion}
use Rattle.std.proofs.lemmas.List.{append-nil}
use Rattle.std.specs.Io.KnownBytes.{Consumes, Keeps, prepend_known}
use Rattle.sx_base.specs.Causes.{Rose}
use Rattle.sx_base.specs.Clock.{StepsThrough}
use Rattle.sx_base.specs.Sides.{Sides}
use Rattle.sx_base.proofs.Steps.{steps_append}
use Rattle.sx_base.proofs.Streams.{keeps_same}
use Rattle.sx_http.specs.Readers.{Requests}
use Rattle.sx_http.specs.RequestStream.{IsRequest, Because, Reason, GivesNone, stream, taken_after}
use Rattle.sx_http.specs.declared.heads.Request.{Request}
use Rattle.sx_http.specs.declared.next.Long.TheVariants.{Head as OfHead, Headers as OfHeaders, Body as OfBody}
use Rattle.sx_http.specs.declared.next.Next.{Next}
use Rattle.sx_http.specs.declared.next.Next.TheVariants as next
use Rattle.sx_key.specs.declared.account.Account.{Account}
use Rattle.sx_turn.proofs.Lists.{each_snoc}
use Rattle.sx_book.specs.OneHistory.{history_of}
use Rattle.sx_book.specs.Passes.{PassView}
use Rattle.sx_book.specs.declared.report.ConnEnd.{ConnEnd}
use Rattle.sx_book.specs.declared.report.ConnEnd.TheVariants as finish
use Rattle.sx_reply.specs.PrintedReply.{printed}
use Rattle.sx_reply.specs.declared.answer.Answer.{Answer}
use Rattle.sx_rest_door.specs.Asking.{RestDoorState, TurnState, AnswersOne, RefusesOne, IsRequestAnswered, AreRequestsServed, IsTurn, HearsNone, HearsRefused, HearsEnd}
use Rattle.sx_rest_door.specs.Closing.{closes, shape_of}
use Rattle.sx_book.specs.Reports.{HasBegun, HasPrefix, HasText, KeepsCounts, no_tally, taken_at}
use Rattle.sx_rest_door.specs.Conversation.{AnsweredRequest, ComesTo, request_bytes, RefusedRequest, RestTalk, Follows, IsRequestRefused, IsRestEnd, StaysOpen, ClosesLast, IsClosedBy, BreaksAtRequest, HasWrittenToRequests, ServesRequests, request_answer, answer_text, request_answers, refusal_text, moment_behind, unreadable_of}
use Rattle.sx_rest_door.specs.declared.hearing.Unreadable.{Unreadable}
use Rattle.sx_book.proofs.Texts.{text_begun, text_kept, text_more, text_none}
use Rattle.sx_rest_door.proofs.Turns.{Going, going_none, going_more, flat_more}

-- requests that were answered and left the connection open, with what was written for them
abbrev pub Run : {C R : Type 0} → (C → ℕ → C → Type 0) → (R → ℕ → R → Type 0) → Account → Option (List ℕ) → Option (List ℕ) → C → C → RestDoorState R → RestDoorState R → ℕ → (List ℕ → Type 0) → (List ℕ → Type 0) → Type 0
Run ticks draws account s s' clock clock' old new given wrote wrote' =
    (going : Going ticks draws account s s' clock clock' old new given) × AllByRecursion StaysOpen going.turns × HasText wrote wrote' (request_answers old.pass.limit going.turns)

-- no request yet
pub run_none : {C R : Type 0} (ticks : C → ℕ → C → Type 0) (draws : R → ℕ → R → Type 0) (account : Account) (s : Option (List ℕ)) (clock : C) (a : RestDoorState R) (given : ℕ) (wrote : List ℕ → Type 0) → a.tally ≡ no_tally → given ≡ 0 → Run ticks draws account s s clock clock a a given wrote wrote
unfolding going_none
run_none {C} {R} ticks draws account s clock a given wrote none start = (going_none ticks draws account s clock a given none start, tt, text_none wrote)

module _ {C R : Type 0} (ticks : C → ℕ → C → Type 0) (draws : R → ℕ → R → Type 0) (account : Account) (s0 s1 s2 : Option (List ℕ)) (c0 c1 c2 : C) (a b c : RestDoorState R) (k1 k2 : ℕ) (at_first at_request at_answer at_last : List ℕ → Type 0) (bytes : List ℕ) (r : Request) (moment : ℕ) (answer : Answer) where
  -- the text of the answer is that of the request's
  said_so : (b.pass.limit ≡ a.pass.limit) → (last : IsRequestAnswered draws moment (ComesTo account r moment) b c answer)
      → printed answer (shape_of r.head) ≡ answer_text a.pass.limit (record { bytes = bytes; request = r; moment = moment; outcome = last.outcome; told = last.told })
  said_so limit last =
      ap (λ (x : Answer). printed x (shape_of r.head)) last.answer_is
      ∙ ap (λ (n : ℕ). printed (request_answer n last.outcome last.told) (shape_of r.head)) limit

  same_limit : Going ticks draws account s0 s1 c0 c1 a b k1 → b.pass.limit ≡ a.pass.limit
  same_limit g = ap (λ (p : PassView). p.limit) g.calls.pass

  -- one request more, whose answer was written
  written_more : Run ticks draws account s0 s1 c0 c1 a b k1 at_first at_request → IsRequest bytes r → Consumes s1 s2 bytes → k2 ≡ k1 + length bytes → ticks c1 moment c2
      → (last : IsRequestAnswered draws moment (ComesTo account r moment) b c answer) → ((m : List ℕ) → at_request m → at_answer m) → HasText at_answer at_last (printed answer (shape_of r.head))
      → (going : Going ticks draws account s0 s2 c0 c2 a c k2) × (before : List AnsweredRequest) × (turn : AnsweredRequest) × (going.turns ≡ before ++ turn ∷ []) × AllByRecursion StaysOpen before × (turn.request ≡ r) × HasText at_first at_last (request_answers a.pass.limit going.turns)
  unfolding going_more
  written_more run is taken count ticked last keep text =
      let g = run.0 in
      let t : AnsweredRequest = record { bytes = bytes; request = r; moment = moment; outcome = last.outcome; told = last.told } in
      let said : List ℕ = request_answers a.pass.limit g.turns in
      let all = text_more at_first at_answer at_last said (printed answer (shape_of r.head)) (text_kept at_first at_request at_answer said run.2 keep) text in
      let now : said ++ printed answer (shape_of r.head) ≡ request_answers a.pass.limit (g.turns ++ t ∷ []) =
      ap (λ (x : List ℕ). said ++ x) (said_so (same_limit g) last) ∙ sym (flat_more (answer_text a.pass.limit) g.turns t) in
      (going_more ticks draws account s0 s1 s2 c0 c1 c2 a b c k1 k2 bytes r moment answer g is taken count ticked last, g.turns, t, refl, run.1, refl, subst (HasText at_first at_last) now all)

  -- one that left the connection open
  pub run_more : Run ticks draws account s0 s1 c0 c1 a b k1 at_first at_request → IsRequest bytes r → Consumes s1 s2 bytes → k2 ≡ k1 + length bytes → ticks c1 moment c2
      → IsRequestAnswered draws moment (ComesTo account r moment) b c answer → ((m : List ℕ) → at_request m → at_answer m) → HasText at_answer at_last (printed answer (shape_of r.head)) → closes r.head ≡ false
      → Run ticks draws account s0 s2 c0 c2 a c k2 at_first at_last
  run_more run is taken count ticked last keep text stays =
      let w = written_more run is taken count ticked last keep text in
      (w.0, subst (AllByRecursion StaysOpen) (sym w.3) (each_snoc StaysOpen w.1 w.2 w.4 (ap (λ (x : Request). closes x.head) w.5 ∙ stays)), w.6)

  -- one that closed it
  pub run_closes : Run ticks draws account s0 s1 c0 c1 a b k1 at_first at_request → IsRequest bytes r → Consumes s1 s2 bytes → k2 ≡ k1 + length bytes → ticks c1 moment c2
      → IsRequestAnswered draws moment (ComesTo account r moment) b c answer → ((m : List ℕ) → at_request m → at_answer m) → HasText at_answer at_last (printed answer (shape_of r.head)) → closes r.head ≡ true
      → (going : Going ticks draws account s0 s2 c0 c2 a c k2) × ClosesLast going.turns × HasText at_first at_last (request_answers a.pass.limit going.turns)
  run_closes run is taken count ticked last keep text closed =
      let w = written_more run is taken count ticked last keep text in
      (w.0, record { before = w.1; last = w.2; split = w.3; open_until = w.4; closed = ap (λ (x : Request). closes x.head) w.5 ∙ closed }, w.6)

  -- one of whose answer a prefix was written
  pub run_breaks : Run ticks draws account s0 s1 c0 c1 a b k1 at_first at_request → IsRequest bytes r → Consumes s1 s2 bytes → k2 ≡ k1 + length bytes → ticks c1 moment c2
      → IsRequestAnswered draws moment (ComesTo account r moment) b c answer → ((m : List ℕ) → at_request m → at_answer m) → HasPrefix at_answer at_last (printed answer (shape_of r.head))
      → (going : Going ticks draws account s0 s2 c0 c2 a c k2) × BreaksAtRequest a.pass.limit going.turns at_first at_last
  unfolding going_more
  run_breaks run is taken count ticked last keep text =
      let g = run.0 in
      let t : AnsweredRequest = record { bytes = bytes; request = r; moment = moment; outcome = last.outcome; told = last.told } in
      let said : List ℕ = request_answers a.pass.limit g.turns in
      let begun = text_begun at_first at_answer at_last said (printed answer (shape_of r.head)) (text_kept at_first at_request at_answer said run.2 keep) text in (
        going_more ticks draws account s0 s1 s2 c0 c1 c2 a b c k1 k2 bytes r moment answer g is taken count ticked last,
        record { answered = g.turns; last = t; split = refl; open_until = run.1; begun = subst (HasBegun at_first at_last said) (said_so (same_limit g) last) begun },
      )

-- what was said for requests
abbrev pub talk_of : List AnsweredRequest → Option RefusedRequest → ℕ → ConnEnd → Option (List ℕ) → List ℕ → RestTalk
talk_of turns refused given end rest held = record { turns = turns; refused = refused; given = given; end = end; rest = rest; held = held }

-- a reason of a reader, for a talk
pub reason_for : (answer : Next) (budget : ℕ) (r r' : Requests) (left left' : Option (List ℕ)) (turns : List AnsweredRequest) (refused : Option RefusedRequest) (end : ConnEnd) → GivesNone answer r r' left left' → r.budget ≡ budget
    → Follows answer budget (talk_of turns refused r.given end (stream r left) r'.held)
reason_for answer budget r r' left left' turns refused end gives limit =
    subst (λ (n : ℕ). Because answer r.given (n - r.given) r'.held (stream r left)) limit gives.because

-- a request that can't be read begins where the reader stands
pub refused_at : (answer : Next) (why : Unreadable) (at room : ℕ) (front : List ℕ) → unreadable_of answer ≡ Some why → Reason answer at room front → why.at ≡ at
refused_at (next.Whole request) why at room front told h = absurd h
refused_at next.End why at room front told h = absurd (let no : ⊥ = cc in no)
refused_at (next.Cut left) why at room front told h = absurd (let no : ⊥ = cc in no)
refused_at (next.BadHead place) why at room front told h = let same : why.at ≡ place = cc in same ∙ h.0
refused_at (next.NoLength place facts) why at room front told h = let same : why.at ≡ place = cc in same ∙ h.0
refused_at (next.BadLength place facts) why at room front told h = let same : why.at ≡ place = cc in same ∙ h.0
refused_at (next.TooLong place OfHead n facts) why at room front told h = let same : why.at ≡ place = cc in same ∙ h.0
refused_at (next.TooLong place OfHeaders n facts) why at room front told h = let same : why.at ≡ place = cc in same ∙ h.0
refused_at (next.TooLong place OfBody n facts) why at room front told h = let same : why.at ≡ place = cc in same ∙ h.0
refused_at next.Spent why at room front told h = absurd (let no : ⊥ = cc in no)
refused_at next.ReadFault why at room front told h = absurd (let no : ⊥ = cc in no)
refused_at next.NoMemory why at room front told h = absurd (let no : ⊥ = cc in no)

-- and no byte of it is told as taken
pub refused_taken : (answer : Next) (why : Unreadable) (r : Requests) → unreadable_of answer ≡ Some why → taken_after answer r ≡ r.given
refused_taken (next.Whole request) why r told = refl
refused_taken next.End why r told = refl
refused_taken (next.Cut left) why r told = absurd (let no : ⊥ = cc in no)
refused_taken (next.BadHead place) why r told = refl
refused_taken (next.NoLength place facts) why r told = refl
refused_taken (next.BadLength place facts) why r told = refl
refused_taken (next.TooLong place what n facts) why r told = refl
refused_taken next.Spent why r told = absurd (let no : ⊥ = cc in no)
refused_taken next.ReadFault why r told = refl
refused_taken next.NoMemory why r told = refl

module _ {C R : Type 0} (ticks : C → ℕ → C → Type 0) (draws : R → ℕ → R → Type 0) (account : Account) (budget : ℕ) (wrote wrote' : List ℕ → Type 0) (old new : Sides) (c0 c2 : C) (a b : RestDoorState R) where
  -- the requests, and how they ended
  abbrev pub Served : ConnEnd → ℕ → Type 0
  Served end taken =
      (talk : RestTalk) × (talk.end ≡ end) × AreRequestsServed ticks draws talk c0 c2 a b × ServesRequests account (history_of b.pass) budget talk wrote wrote' old new × (taken ≡ taken_at end talk.given budget)

  -- by what holds of them
  pub served_by : (end : ConnEnd) (refused : Option RefusedRequest) (s0 s1 : Option (List ℕ)) (c1 : C) (held : List ℕ) (k taken : ℕ) (going : Going ticks draws account s0 s1 c0 c1 a b k)
      → s0 ≡ old.left → StepsThrough ticks c1 (moment_behind refused) c2 → k + length held ≤ budget → Keeps s1 (prepend_known held new.left)
      → HasWrittenToRequests end a.pass.limit (talk_of going.turns refused k end s1 held) wrote wrote' → IsRestEnd end budget (talk_of going.turns refused k end s1 held) old new → IsClosedBy end going.turns → KeepsCounts end old new
      → taken ≡ taken_at end k budget → Served end taken
  served_by end refused s0 s1 c1 held k taken going same ticked within unread written ended closing counts taken_is =
      let limit : b.pass.limit ≡ a.pass.limit = ap (λ (p : PassView). p.limit) going.calls.pass in
      let talk : RestTalk = talk_of going.turns refused k end s1 held in (
        talk,
        refl,
        record {
          calls = going.calls;
          history = going.history;
          moments = steps_append ticks c0 c1 c2 (map (λ (u : AnsweredRequest). u.moment) going.turns) (moment_behind refused) going.moments ticked;
          words = going.words;
          tallied = going.tallied;
        },
        record {
          requests = going.requests;
          bytes = record {
            requests = subst (λ (s : Option (List ℕ)). Consumes s s1 (request_bytes going.turns)) same going.bytes;
            given_is = going.given_is;
            unread = unread;
            within = within;
          };
          answers = subst (λ (n : ℕ). HasWrittenToRequests end n talk wrote wrote') (sym limit) written;
          end = ended;
          closing = closing;
          counts = counts;
        },
        taken_is,
      )

  module _ (at_request : List ℕ → Type 0) (s0 : Option (List ℕ)) (r r' : Requests) (left : Option (List ℕ)) where
    -- nothing follows, and nothing more was written
    stopped : (end : ConnEnd) (answer : Next) (run : Run ticks draws account s0 (stream r left) c0 c2 a b r.given wrote at_request) → s0 ≡ old.left → GivesNone answer r r' left new.left → r.budget ≡ budget
        → r'.given + length r'.held ≤ r'.budget → ((m : List ℕ) → at_request m → wrote' m)
        → (HasText wrote wrote' (request_answers a.pass.limit run.0.turns ++ []) → HasWrittenToRequests end a.pass.limit (talk_of run.0.turns None r.given end (stream r left) r'.held) wrote wrote')
        → IsRestEnd end budget (talk_of run.0.turns None r.given end (stream r left) r'.held) old new → (AllByRecursion StaysOpen run.0.turns → IsClosedBy end run.0.turns) → KeepsCounts end old new
        → taken_after answer r ≡ taken_at end r.given budget → Served end r'.taken
    stopped end answer run same gives limit within keep plain ended closing counts taken =
        let said : List ℕ = request_answers a.pass.limit run.0.turns in
        let text : HasText wrote wrote' (said ++ []) = subst (HasText wrote wrote') (sym (append-nil said)) (text_kept wrote at_request wrote' said run.2 keep) in
        served_by end None s0 (stream r left) c2 r'.held r.given r'.taken run.0 same refl (omega (arith, within, gives.given, gives.budget, limit)) gives.bytes (plain text) ended (closing run.1) counts (gives.taken ∙ taken)

    -- the requests, and how they ended where none follows
    pub ended_by : (end : ConnEnd) (run : Run ticks draws account s0 (stream r left) c0 c2 a b r.given wrote at_request) → s0 ≡ old.left → HearsEnd end r r' left new.left old.reads new.reads → r.budget ≡ budget
        → r'.given + length r'.held ≤ r'.budget → ((m : List ℕ) → at_request m → wrote' m) → new.writes ≡ old.writes → Served end r'.taken
    ended_by finish.Ended run same hears limit within keep writes =
        stopped finish.Ended next.End run same hears.gives limit within keep (λ t. t) (reason_for next.End budget r r' left new.left run.0.turns None finish.Ended hears.gives limit, refl) (λ o. o) (hears.count, writes) refl
    ended_by (finish.Cut n) run same hears limit within keep writes =
        stopped (finish.Cut n) (next.Cut n) run same hears.gives limit within keep (λ t. t) (reason_for (next.Cut n) budget r r' left new.left run.0.turns None (finish.Cut n) hears.gives limit, refl) (λ o. o) (hears.count, writes) refl
    ended_by finish.Spent run same hears limit within keep writes =
        stopped finish.Spent next.Spent run same hears.gives limit within keep (λ t. t) (reason_for next.Spent budget r r' left new.left run.0.turns None finish.Spent hears.gives limit, refl) (λ o. o) (hears.count, writes) limit
    ended_by finish.ReadFault run same hears limit within keep writes =
        stopped finish.ReadFault next.ReadFault run same hears.0 limit within keep (λ t. t) (hears.1, reason_for next.ReadFault budget r r' left new.left run.0.turns None finish.ReadFault hears.0 limit, refl) (λ o. o) writes refl
    ended_by finish.NoMemory run same hears limit within keep writes =
        stopped finish.NoMemory next.NoMemory run same hears.gives limit within keep (λ t. t) refl (λ o. o) (hears.count, writes) refl
    ended_by (finish.Closed at) run same hears limit within keep writes = absurd hears
    ended_by finish.WriteFault run same hears limit within keep writes = absurd hears
    ended_by (finish.Full full) run same hears limit within keep writes = absurd hears

    -- a request that can't be read was heard
    refuses : (why : Unreadable) (moment : ℕ) (end : ConnEnd) (turns : List AnsweredRequest) (before now : ℕ) (l : Option (List ℕ)) (hears : HearsRefused why r r' left l before now) → r.budget ≡ budget
        → IsRequestRefused budget (talk_of turns (Some (record { why = why; moment = moment })) r.given end (stream r left) r'.held) (record { why = why; moment = moment })
    refuses why moment end turns before now l hears limit = record {
      answer = hears.answer;
      told = hears.told;
      follows = reason_for hears.answer budget r r' left l turns (Some (record { why = why; moment = moment })) end hears.none.gives limit;
    }

    -- the requests, and how they ended at one that can't be read: its answer was written
    pub refused_by : (why : Unreadable) (moment : ℕ) (c1 : C) (at_answer : List ℕ → Type 0) (l : Option (List ℕ)) (reads : ℕ) (run : Run ticks draws account s0 (stream r left) c0 c1 a b r.given wrote at_request) → s0 ≡ old.left
        → HearsRefused why r r' left l old.reads reads → new.left ≡ l → new.reads ≡ reads → r.budget ≡ budget → r'.given + length r'.held ≤ r'.budget → ticks c1 moment c2
        → ((m : List ℕ) → at_request m → at_answer m) → HasText at_answer wrote' (refusal_text (record { why = why; moment = moment })) → new.writes ≡ old.writes → Served (finish.Closed (Some why.at)) r'.taken
    refused_by why moment c1 at_answer l reads run same hears kept count limit within ticked keep text writes =
        let said : List ℕ = request_answers a.pass.limit run.0.turns in
        let g = hears.none.gives in
        let end : ConnEnd = finish.Closed (Some why.at) in
        served_by end (Some (record { why = why; moment = moment })) s0 (stream r left) c1 r'.held r.given r'.taken run.0 same (c2, ticked, refl) (omega (arith, within, g.given, g.budget, limit))
        (subst (λ (x : Option (List ℕ)). Keeps (stream r left) (prepend_known r'.held x)) (sym kept) g.bytes)
        (text_more wrote at_answer wrote' said (refusal_text (record { why = why; moment = moment })) (text_kept wrote at_request at_answer said run.2 keep) text)
        (refuses why moment end run.0.turns old.reads reads l hears limit, refused_at hears.answer why r.given _ r'.held hears.told g.because.held_so)
        run.1 (count ∙ hears.none.count, writes) (g.taken ∙ refused_taken hears.answer why r hears.told)

    -- or a prefix of it
    pub refused_breaks : (why : Unreadable) (moment : ℕ) (c1 : C) (at_answer : List ℕ → Type 0) (l : Option (List ℕ)) (reads : ℕ) (run : Run ticks draws account s0 (stream r left) c0 c1 a b r.given wrote at_request) → s0 ≡ old.left
        → HearsRefused why r r' left l old.reads reads → new.left ≡ l → new.reads ≡ reads → r.budget ≡ budget → r'.given + length r'.held ≤ r'.budget → ticks c1 moment c2
        → ((m : List ℕ) → at_request m → at_answer m) → HasPrefix at_answer wrote' (refusal_text (record { why = why; moment = moment })) → Rose old.writes new.writes → Served finish.WriteFault r'.taken
    refused_breaks why moment c1 at_answer l reads run same hears kept count limit within ticked keep text rose =
        let said : List ℕ = request_answers a.pass.limit run.0.turns in
        let g = hears.none.gives in
        served_by finish.WriteFault (Some (record { why = why; moment = moment })) s0 (stream r left) c1 r'.held r.given r'.taken run.0 same (c2, ticked, refl) (omega (arith, within, g.given, g.budget, limit))
        (subst (λ (x : Option (List ℕ)). Keeps (stream r left) (prepend_known r'.held x)) (sym kept) g.bytes)
        (run.1, text_begun wrote at_answer wrote' said (refusal_text (record { why = why; moment = moment })) (text_kept wrote at_request at_answer said run.2 keep) text)
        (rose, refuses why moment finish.WriteFault run.0.turns old.reads reads l hears limit)
        tt (count ∙ hears.none.count) (g.taken ∙ refused_taken hears.answer why r hears.told)

-- ---- turn by turn
module _ {C R : Type 0} (ticks : C → ℕ → C → Type 0) (draws : R → ℕ → R → Type 0) (account : Account) (budget : ℕ) (at_first at_turn at_last : List ℕ → Type 0) (first : Sides) (s0 : Option (List ℕ)) (c0 : C) (a : RestDoorState R) (old new : TurnState C R) where
  -- the requests before a turn
  abbrev pub RunsTo : (List ℕ → Type 0) → TurnState C R → Type 0
  RunsTo written s = Run ticks draws account s0 (stream s.reader s.sides.left) c0 s.clock a s.door s.reader.given at_first written

  -- a turn behind which the connection goes on
  pub run_turn : RunsTo at_turn old → IsTurn None ticks draws account at_turn at_last old new → RunsTo at_last new
  run_turn run turn =
      let t = turn.0 in
      run_more ticks draws account s0 (stream old.reader old.sides.left) (stream new.reader new.sides.left) c0 old.clock new.clock a old.door new.door old.reader.given new.reader.given at_first at_turn at_turn at_last
      t.gives.text t.request t.moment t.answer run t.gives.is t.gives.bytes t.gives.given t.ticked t.answered (λ m h. h) turn.2 turn.1

  -- what is known at the turn
  pub record Stands : Type 0 where
    pub same : s0 ≡ first.left
    pub limit : old.reader.budget ≡ budget
    pub reads : old.sides.reads ≡ first.reads
    pub writes : old.sides.writes ≡ first.writes
    pub within : new.reader.given + length new.reader.held ≤ new.reader.budget

  -- the requests, and how they ended
  abbrev pub ServedTo : TurnState C R → ConnEnd → Type 0
  ServedTo s end = Served ticks draws account budget at_first at_last first s.sides c0 s.clock a s.door end s.reader.taken

  -- where a request closed the connection
  closed_turn : RunsTo at_turn old → Stands → (t : AnswersOne ticks draws account old new) → closes t.request.head ≡ true → HasText at_turn at_last (printed t.answer (shape_of t.request.head)) → new.sides.writes ≡ old.sides.writes → ServedTo new (finish.Closed None)
  closed_turn run s t closed text writes =
      let w = run_closes ticks draws account s0 (stream old.reader old.sides.left) (stream new.reader new.sides.left) c0 old.clock new.clock a old.door new.door old.reader.given new.reader.given at_first at_turn at_turn at_last
      t.gives.text t.request t.moment t.answer run t.gives.is t.gives.bytes t.gives.given t.ticked t.answered (λ m h. h) text closed in
      let said : List ℕ = request_answers a.pass.limit w.0.turns in
      served_by ticks draws account budget at_first at_last first new.sides c0 new.clock a new.door (finish.Closed None) None s0 (stream new.reader new.sides.left) new.clock new.reader.held new.reader.given new.reader.taken w.0
      s.same refl (omega (arith, s.within, s.limit, t.gives.budget)) (keeps_same (stream new.reader new.sides.left))
      (subst (HasText at_first at_last) (sym (append-nil said)) w.2) refl w.1 (t.reads ∙ s.reads, writes ∙ s.writes) t.gives.taken

  -- where an answer wasn't written whole
  broken_turn : RunsTo at_turn old → Stands → (t : AnswersOne ticks draws account old new) → HasPrefix at_turn at_last (printed t.answer (shape_of t.request.head)) → Rose old.sides.writes new.sides.writes → ServedTo new finish.WriteFault
  broken_turn run s t text rose =
      let w = run_breaks ticks draws account s0 (stream old.reader old.sides.left) (stream new.reader new.sides.left) c0 old.clock new.clock a old.door new.door old.reader.given new.reader.given at_first at_turn at_turn at_last
      t.gives.text t.request t.moment t.answer run t.gives.is t.gives.bytes t.gives.given t.ticked t.answered (λ m h. h) text in
      served_by ticks draws account budget at_first at_last first new.sides c0 new.clock a new.door finish.WriteFault None s0 (stream new.reader new.sides.left) new.clock new.reader.held new.reader.given new.reader.taken w.0
      s.same refl (omega (arith, s.within, s.limit, t.gives.budget)) (keeps_same (stream new.reader new.sides.left))
      w.1 (subst (λ (n : ℕ). Rose n new.sides.writes) s.writes rose, tt) tt (t.reads ∙ s.reads) t.gives.taken

  -- the same door, seen from the turn's end
  door_kept : (end : ConnEnd) (taken : ℕ) (clock : C) → new.door ≡ old.door → Served ticks draws account budget at_first at_last first new.sides c0 clock a old.door end taken → Served ticks draws account budget at_first at_last first new.sides c0 clock a new.door end taken
  door_kept end taken clock same h = subst (λ (d : RestDoorState R). Served ticks draws account budget at_first at_last first new.sides c0 clock a d end taken) (sym same) h

  heard_first : (why : Unreadable) → Stands → HearsRefused why old.reader new.reader old.sides.left new.sides.left old.sides.reads new.sides.reads → HearsRefused why old.reader new.reader old.sides.left new.sides.left first.reads new.sides.reads
  heard_first why s hears = subst (λ (n : ℕ). HearsRefused why old.reader new.reader old.sides.left new.sides.left n new.sides.reads) s.reads hears

  -- where nothing more was read
  still_turn : (end : ConnEnd) → RunsTo at_turn old → Stands → HearsEnd end old.reader new.reader old.sides.left new.sides.left old.sides.reads new.sides.reads → new.clock ≡ old.clock → new.door ≡ old.door → new.sides.writes ≡ old.sides.writes → ((m : List ℕ) → at_turn m → at_last m) → ServedTo new end
  still_turn end run s hears clock door writes keep =
      let heard = subst (λ (n : ℕ). HearsEnd end old.reader new.reader old.sides.left new.sides.left n new.sides.reads) s.reads hears in
      let done : Served ticks draws account budget at_first at_last first new.sides c0 old.clock a old.door end new.reader.taken =
      ended_by ticks draws account budget at_first at_last first new.sides c0 old.clock a old.door at_turn s0 old.reader new.reader old.sides.left end run s.same heard s.limit s.within keep (writes ∙ s.writes) in
      door_kept end new.reader.taken new.clock door (subst (λ (c : C). Served ticks draws account budget at_first at_last first new.sides c0 c a old.door end new.reader.taken) (sym clock) done)

  -- a turn by which the connection ended
  pub run_ended : (end : ConnEnd) → RunsTo at_turn old → Stands → IsTurn (Some end) ticks draws account at_turn at_last old new → ServedTo new end
  run_ended (finish.Closed None) run s turn = closed_turn run s turn.0 turn.1 turn.2 turn.3
  run_ended (finish.Closed (Some at)) run s turn =
      let t = turn.0.0 in
      subst (λ (n : ℕ). ServedTo new (finish.Closed (Some n))) (sym turn.1)
      (door_kept (finish.Closed (Some t.refused.why.at)) new.reader.taken new.clock turn.0.1
      (refused_by ticks draws account budget at_first at_last first new.sides c0 new.clock a old.door at_turn s0 old.reader new.reader old.sides.left t.refused.why t.refused.moment old.clock at_turn new.sides.left new.sides.reads run s.same
      (heard_first t.refused.why s t.hears) refl refl s.limit s.within t.ticked (λ m h. h) turn.2 (turn.3 ∙ s.writes)))
  run_ended finish.WriteFault run s turn =
      ⊎_elim (λ (x : (t : AnswersOne ticks draws account old new) × HasPrefix at_turn at_last (printed t.answer (shape_of t.request.head))). broken_turn run s x.0 x.1 turn.0)
      (λ (x : (t : RefusesOne ticks old new) × HasPrefix at_turn at_last (refusal_text t.0.refused)).
      door_kept finish.WriteFault new.reader.taken new.clock x.0.1
      (refused_breaks ticks draws account budget at_first at_last first new.sides c0 new.clock a old.door at_turn s0 old.reader new.reader old.sides.left x.0.0.refused.why x.0.0.refused.moment old.clock at_turn new.sides.left new.sides.reads run s.same
      (heard_first x.0.0.refused.why s x.0.0.hears) refl refl s.limit s.within x.0.0.ticked (λ m h. h) x.1 (subst (λ (n : ℕ). Rose n new.sides.writes) s.writes turn.0)))
      turn.1
  run_ended finish.Ended run s turn = still_turn finish.Ended run s turn.0 turn.1 turn.2 turn.3 turn.4
  run_ended (finish.Cut n) run s turn = still_turn (finish.Cut n) run s turn.0 turn.1 turn.2 turn.3 turn.4
  run_ended finish.Spent run s turn = still_turn finish.Spent run s turn.0 turn.1 turn.2 turn.3 turn.4
  run_ended finish.ReadFault run s turn = still_turn finish.ReadFault run s turn.0 turn.1 turn.2 turn.3 turn.4
  run_ended finish.NoMemory run s turn = still_turn finish.NoMemory run s turn.0 turn.1 turn.2 turn.3 turn.4
  run_ended (finish.Full full) run s turn = absurd turn.0
