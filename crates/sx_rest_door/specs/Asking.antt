-- What a connection hears and asks, request by request.
use Rattle.std.specs.Prelude.{ℕ, ◌+◌, ◌≡◌, ◌⊎◌, Bool, true, false, [], ◌∷◌, List, length, drop, Option, Some, None}
use Rattle.std.specs.Prelude.{Ok, Err, Result, IfOk}
use Rattle.sx_base.specs.Causes.{Rose}
use Rattle.sx_base.specs.Clock.{StepsThrough}
use Rattle.sx_base.specs.Sides.{Sides}
use Rattle.sx_base.specs.Sink.{Prints}
use Rattle.sx_http.specs.Readers.{Requests}
use Rattle.sx_http.specs.RequestStream.{GivesRequest, GivesNone}
use Rattle.sx_http.specs.declared.heads.Request.{Request}
use Rattle.sx_http.specs.declared.next.Next.{Next}
use Rattle.sx_http.specs.declared.next.Next.TheVariants as next
use Rattle.sx_key.specs.Checking.{auth}
use Rattle.sx_key.specs.declared.account.Account.{Account}
use Rattle.sx_key.specs.declared.fault.AuthFault.{AuthFault}
use Rattle.sx_key.specs.declared.fault.AuthFault.TheVariants as fault
use Rattle.sx_call.specs.declared.calls.Call.{Call}
use Rattle.sx_call.specs.declared.refusals.Stop.{Stop}
use Rattle.sx_call.specs.declared.refusals.Stop.TheVariants.{NoMemory, HistoryFull}
use Rattle.sx_decode.specs.Spelling.{reading}
use Rattle.sx_book.specs.OneHistory.{Came, Asks, history_of}
use Rattle.sx_book.specs.Passes.{PassView, HasOwnPlaces, caller_of}
use Rattle.sx_spec.specs.History.{IsHistory}
use Rattle.sx_turn.specs.Places.{places_from}
use Rattle.sx_call.specs.declared.entries.Noted.{Noted}
use Rattle.sx_book.specs.declared.report.ConnEnd.{ConnEnd}
use Rattle.sx_book.specs.declared.report.ConnEnd.TheVariants as finish
use Rattle.sx_reply.specs.PrintedReply.{is_printed, printed}
use Rattle.sx_reply.specs.declared.answer.Answer.{Answer}
use Rattle.sx_reply.specs.declared.answer.Said.{Said}
use Rattle.sx_reply.specs.declared.answer.Said.TheVariants.{Auth, Syntax as Unspelled, Stop as Stopped}
use Rattle.sx_rest_door.specs.Closing.{closes, shape_of}
use Rattle.sx_book.specs.Reports.{HasPrefix, HasText, no_tally}
use Rattle.sx_rest_door.specs.Conversation.{RefusedRequest, refusal_text}
use Rattle.sx_rest_door.specs.Conversation.{RequestOutcome, called, RestTalk, ComesTo, TellsMoment, fault_of}
use Rattle.sx_rest_door.specs.Conversation.{fresh_of, rest_call, calls_in_request, calls_of_requests, words_in}
use Rattle.sx_rest_door.specs.Conversation.{words_of, request_answer}
use Rattle.sx_rest_door.specs.Conversation.{unreadable_of, tally_after_request, tally_after_requests, moments_in}
use Rattle.sx_rest_door.specs.declared.hearing.Heard.{Heard}
use Rattle.sx_rest_door.specs.declared.hearing.Heard.TheVariants.{Asks as Hears, Refuses, Ends}
use Rattle.sx_rest_door.specs.declared.hearing.Unreadable.{Unreadable}
use Rattle.sx_rest_door.specs.declared.judging.Uncalled.{Uncalled}
use Rattle.sx_rest_door.specs.declared.judging.Uncalled.TheVariants.{NotSigned, NoCall, NotRead}
use Rattle.sx_book.specs.declared.report.Tally.{Tally}

-- a connection's pass, its random source and its counts, before or after a call
pub record RestDoorState (R : Type 0) : Type 0 where
  pub pass : PassView
  pub random : R
  pub tally : Tally

-- the places of a pass's own entries in this list, behind what it has seen
abbrev pub own_places_behind : PassView → List Noted → List ℕ
own_places_behind p seen = places_from caller_of p.number (length p.seen + 1) (drop (length p.seen) seen)

-- where what the pass had seen is a legal history, it is one still, and its places there are exact where they were
abbrev pub KeepsHistory : PassView → PassView → Type 0
KeepsHistory p q = (IsHistory p.limit p.seen → IsHistory q.limit q.seen) × (HasOwnPlaces p → HasOwnPlaces q)

-- a reader gave no request, for this reason, and the count of failed reads is as it was
pub record HearsNone (answer : Next) (old new : Requests) (left left' : Option (List ℕ)) (before now : ℕ) : Type 0 where
  pub gives : GivesNone answer old new left left'
  pub count : now ≡ before

-- a request that can't be read stands next, for what is told
pub record HearsRefused (why : Unreadable) (old new : Requests) (left left' : Option (List ℕ)) (before now : ℕ)
    : Type 0 where
  pub answer : Next
  pub told : unreadable_of answer ≡ Some why
  pub none : HearsNone answer old new left left' before now

-- no request stands next, for this end
abbrev pub HearsEnd : ConnEnd → Requests → Requests → Option (List ℕ) → Option (List ℕ) → ℕ → ℕ → Type 0
HearsEnd finish.Ended old new left left' before now = HearsNone next.End old new left left' before now
HearsEnd (finish.Cut n) old new left left' before now = HearsNone (next.Cut n) old new left left' before now
HearsEnd finish.Spent old new left left' before now = HearsNone next.Spent old new left left' before now
HearsEnd finish.ReadFault old new left left' before now =
    GivesNone next.ReadFault old new left left' × Rose before now
HearsEnd finish.NoMemory old new left left' before now = HearsNone next.NoMemory old new left left' before now
HearsEnd other old new left left' before now = ⊥

-- what stands next on a connection, by its reader, what its source has left and the count of failed reads
abbrev pub IsHeard : Heard → Requests → Requests → Option (List ℕ) → Option (List ℕ) → ℕ → ℕ → Type 0
IsHeard (Hears request) old new left left' before now =
    GivesRequest request old new left left' × (now ≡ before)
IsHeard (Refuses why) old new left left' before now = HearsRefused why old new left left' before now
IsHeard (Ends end) old new left left' before now = HearsEnd end old new left left' before now

-- a fault of a signature is told, or that memory was wanted
abbrev pub TellsFault : AuthFault → Uncalled → Type 0
TellsFault found (NotSigned text) = found ≡ fault_of text
TellsFault found (NoCall syntax) = ⊥
TellsFault found NotRead = found ≡ fault.NoMemory

-- the call of a request at a moment, or why it has none
abbrev pub IsJudged : Account → Request → ℕ → Result Call Uncalled → Type 0
IsJudged account r moment (Ok call) = (auth r.head account moment ≡ Ok tt) × (reading r ≡ Ok call)
IsJudged account r moment (Err (NotSigned text)) = auth r.head account moment ≡ Err (fault_of text)
IsJudged account r moment (Err (NoCall syntax)) = (auth r.head account moment ≡ Ok tt) × (reading r ≡ Err syntax)
IsJudged account r moment (Err NotRead) = Unit {0}

-- a random number was drawn of two words
abbrev pub DrawsFresh : {R : Type 0} → (R → ℕ → R → Type 0) → R → ℕ → R → Type 0
DrawsFresh draws old fresh new =
    (first : ℕ) × (second : ℕ) × (fresh ≡ fresh_of first second) × StepsThrough draws old (first ∷ second ∷ []) new

-- what is said to a request that has no call
abbrev pub said_uncalled : Uncalled → Said
said_uncalled (NotSigned text) = Auth text
said_uncalled (NoCall syntax) = Unspelled syntax
said_uncalled NotRead = Stopped NoMemory

-- the counts after a request that has no call
abbrev pub tally_uncalled : Tally → Uncalled → Tally
tally_uncalled t (NotSigned text) = t
tally_uncalled t (NoCall syntax) = t
tally_uncalled t NotRead = record t { no_memory = true }

-- a request was answered at a moment: what came of it, the moment that its answer tells, and what that left of pass,
-- random source and counts; the answer can be printed
pub record IsRequestAnswered {R : Type 0} (draws : R → ℕ → R → Type 0) (moment : ℕ)
    (Comes : RequestOutcome → Type 0) (old new : RestDoorState R) (answer : Answer)
    : Type 0 where
  pub outcome : RequestOutcome
  pub told : ℕ
  pub comes : Comes outcome
  pub tells : TellsMoment (history_of new.pass) moment outcome told
  pub calls : Asks old.pass new.pass (calls_in_request old.pass.number moment outcome)
  pub history : KeepsHistory old.pass new.pass
  pub drawn : StepsThrough draws old.random (words_in outcome) new.random
  pub tallied : new.tally ≡ tally_after_request old.pass.limit old.tally outcome
  pub answer_is : answer ≡ request_answer old.pass.limit outcome told
  pub printed : is_printed answer.said ≡ true

-- the outcome is that of this call
abbrev pub IsOutcomeOf : Call → RequestOutcome → Type 0
IsOutcomeOf call outcome =
    (first : ℕ) × (second : ℕ) × (came : Came) × (outcome ≡ called call first second came)

-- a request was taken off the link and answered at a moment of the clock, by a reader, a clock, pass, random source and
-- counts, and the link's sides, before and after
pub record AnswersNext {C R : Type 0} (ticks : C → ℕ → C → Type 0) (draws : R → ℕ → R → Type 0) (account : Account)
    (reader reader' : Requests) (clock clock' : C) (old new : RestDoorState R) (sides sides' : Sides)
    : Type 0 where
  pub request : Request
  pub moment : ℕ
  pub answer : Answer
  pub gives : GivesRequest request reader reader' sides.left sides'.left
  pub ticked : ticks clock moment clock'
  pub answered : IsRequestAnswered draws moment (ComesTo account request moment) old new answer
  pub reads : sides'.reads ≡ sides.reads

-- a request that can't be read stood next, and was answered at a moment of the clock
pub record RefusesNext {C : Type 0} (ticks : C → ℕ → C → Type 0) (reader reader' : Requests) (clock clock' : C)
    (sides sides' : Sides)
    : Type 0 where
  pub refused : RefusedRequest
  pub hears : HearsRefused refused.why reader reader' sides.left sides'.left sides.reads sides'.reads
  pub ticked : ticks clock refused.moment clock'

-- what a turn of a connection may change: its reader, its clock, pass, random source and counts, and the link's sides
pub record TurnState (C R : Type 0) : Type 0 where
  pub reader : Requests
  pub clock : C
  pub door : RestDoorState R
  pub sides : Sides

-- in a turn a request was answered
abbrev pub AnswersOne : {C R : Type 0} → (C → ℕ → C → Type 0) → (R → ℕ → R → Type 0) → Account → TurnState C R
    → TurnState C R → Type 0
AnswersOne ticks draws account old new =
    AnswersNext ticks draws account old.reader new.reader old.clock new.clock old.door new.door old.sides new.sides

-- in a turn a request that can't be read was answered, and no call was asked
abbrev pub RefusesOne : {C R : Type 0} → (C → ℕ → C → Type 0) → TurnState C R → TurnState C R → Type 0
RefusesOne ticks old new =
    RefusesNext ticks old.reader new.reader old.clock new.clock old.sides new.sides × (new.door ≡ old.door)

-- what a turn of a connection came to: it goes on, or it ended so
abbrev pub IsTurn : {C R : Type 0} → Option ConnEnd → (C → ℕ → C → Type 0) → (R → ℕ → R → Type 0) → Account
    → (List ℕ → Type 0) → (List ℕ → Type 0) → TurnState C R → TurnState C R → Type 0
IsTurn None ticks draws account wrote wrote' old new =
    (t : AnswersOne ticks draws account old new) × (closes t.request.head ≡ false)
    × HasText wrote wrote' (printed t.answer (shape_of t.request.head)) × (new.sides.writes ≡ old.sides.writes)
IsTurn (Some (finish.Closed None)) ticks draws account wrote wrote' old new =
    (t : AnswersOne ticks draws account old new) × (closes t.request.head ≡ true)
    × HasText wrote wrote' (printed t.answer (shape_of t.request.head)) × (new.sides.writes ≡ old.sides.writes)
IsTurn (Some (finish.Closed (Some at))) ticks draws account wrote wrote' old new =
    (t : RefusesOne ticks old new) × (at ≡ t.0.refused.why.at)
    × HasText wrote wrote' (refusal_text t.0.refused) × (new.sides.writes ≡ old.sides.writes)
IsTurn (Some finish.WriteFault) ticks draws account wrote wrote' old new =
    Rose old.sides.writes new.sides.writes
    × (((t : AnswersOne ticks draws account old new)
    × HasPrefix wrote wrote' (printed t.answer (shape_of t.request.head)))
    ⊎ ((t : RefusesOne ticks old new) × HasPrefix wrote wrote' (refusal_text t.0.refused)))
IsTurn (Some end) ticks draws account wrote wrote' old new =
    HearsEnd end old.reader new.reader old.sides.left new.sides.left old.sides.reads new.sides.reads
    × (new.clock ≡ old.clock) × (new.door ≡ old.door) × (new.sides.writes ≡ old.sides.writes)
    × ((text : List ℕ) → wrote text → wrote' text)

-- how a connection goes on behind an answer that was printed, which tells whether it closes: none where it stays open
abbrev pub end_behind : {E : Type 0} → Result Bool E → Option ConnEnd
end_behind (Ok false) = None
end_behind (Ok true) = Some (finish.Closed None)
end_behind (Err failed) = Some finish.WriteFault

-- how it ends behind the printed answer to a request that can't be read
abbrev pub end_at : {A E : Type 0} → Result A E → ℕ → ConnEnd
end_at (Ok done) at = finish.Closed (Some at)
end_at (Err failed) at = finish.WriteFault

-- a request was answered, and its answer printed, or a prefix of it where the sink failed; what is answered tells
-- whether the connection closes behind it
pub record Replies {K R E : Type 0} (wrote : K → List ℕ → Type 0) (count : K → ℕ) (puts : K → K → Type 0)
    (draws : R → ℕ → R → Type 0) (account : Account) (moment : ℕ) (request : Request) (old new : RestDoorState R)
    (sink sink' : K) (result : Result Bool E)
    : Type 0 where
  pub answer : Answer
  pub answered : IsRequestAnswered draws moment (ComesTo account request moment) old new answer
  pub printed_so : Prints wrote count puts sink sink' (printed answer (shape_of request.head)) result
  pub closing : IfOk result (λ close. close ≡ closes request.head)

-- the requests of a caller were answered: their calls, the moments that the clock told for them, the random words that
-- were drawn, and the counts
pub record AreRequestsServed {C R : Type 0} (ticks : C → ℕ → C → Type 0) (draws : R → ℕ → R → Type 0) (talk : RestTalk)
    (clock clock' : C) (old new : RestDoorState R)
    : Type 0 where
  pub calls : Asks old.pass new.pass (calls_of_requests old.pass.number talk.turns)
  pub history : KeepsHistory old.pass new.pass
  pub moments : StepsThrough ticks clock (moments_in talk) clock'
  pub words : StepsThrough draws old.random (words_of talk.turns) new.random
  pub tallied : new.tally ≡ tally_after_requests old.pass.limit no_tally talk.turns
