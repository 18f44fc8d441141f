-- What the requests of a connection are answered, one after another.
use Rattle.std.specs.Prelude.{ℕ, ◌+◌, ◌-◌, ◌*◌, ◌^◌, ◌≤◌, ◌≡◌, false, true, Bool, List, [], ◌∷◌, ◌++◌, length, map}
use Rattle.std.specs.Prelude.{Option, Some, None, option_map, slice_get, IfSome, Ok, Err}
use Rattle.std.specs.List.{AllByRecursion, flat_map}
use Rattle.std.specs.Io.KnownBytes.{Consumes, Keeps, prepend_known}
use mathlib.Core.List.{IsPrefix}
use Rattle.sx_base.specs.Causes.{Rose}
use Rattle.sx_base.specs.Clock.{StepsThrough}
use Rattle.sx_base.specs.Sides.{Sides}
use Rattle.sx_http.specs.RequestStream.{IsRequest, Because}
use Rattle.sx_http.specs.declared.heads.Request.{Request}
use Rattle.sx_http.specs.declared.next.Long.{Long}
use Rattle.sx_http.specs.declared.next.Long.TheVariants.{Head as OfHead, Headers as OfHeaders, Body as OfBody}
use Rattle.sx_http.specs.declared.next.Next.{Next}
use Rattle.sx_http.specs.declared.next.Next.TheVariants as next
use Rattle.sx_key.specs.Checking.{auth}
use Rattle.sx_key.specs.declared.account.Account.{Account}
use Rattle.sx_key.specs.declared.fault.AuthFault.{AuthFault}
use Rattle.sx_key.specs.declared.fault.AuthFault.TheVariants as fault
use Rattle.sx_call.specs.declared.calls.Call.{Call}
use Rattle.sx_call.specs.declared.entries.Noted.{Noted}
use Rattle.sx_call.specs.declared.refusals.Stop.TheVariants as stop
use Rattle.sx_call.specs.declared.refusals.Syntax.{Syntax}
use Rattle.sx_decode.specs.Spelling.{reading}
use Rattle.sx_book.specs.History.{History}
use Rattle.sx_book.specs.Reports.{HasBegun, HasText, KeepsCounts, no_tally, report_of, tally_with}
use Rattle.sx_book.specs.OneHistory.{Came, appended, history_full, no_memory, Outcome, AreCallsIn}
use Rattle.sx_book.specs.declared.report.ConnEnd.{ConnEnd}
use Rattle.sx_book.specs.declared.report.ConnEnd.TheVariants as finish
use Rattle.sx_book.specs.declared.report.ConnReport.{ConnReport}
use Rattle.sx_reply.specs.PrintedReply.{printed}
use Rattle.sx_reply.specs.declared.answer.Answer.{Answer}
use Rattle.sx_reply.specs.declared.answer.AuthText.{AuthText}
use Rattle.sx_reply.specs.declared.answer.AuthText.TheVariants as auth_text
use Rattle.sx_reply.specs.declared.answer.Said.{Said}
use Rattle.sx_reply.specs.declared.answer.Said.TheVariants.{Core, Syntax as NoCall, Auth, Wire, Stop}
use Rattle.sx_reply.specs.declared.answer.WireText.{WireText}
use Rattle.sx_reply.specs.declared.answer.WireText.TheVariants as wire
use Rattle.sx_rest_door.specs.Closing.{closes, shape_of}
use Rattle.sx_rest_door.specs.declared.hearing.Unreadable.{Unreadable}
use Rattle.sx_book.specs.declared.report.Tally.{Tally}

-- what came of a request: its signature isn't accepted; it is no call; no memory was left to check or to read it; or
-- its call was asked with two random words, and came to this
pub data RequestOutcome : Type 0 where
  not_signed : AuthText → RequestOutcome
  no_call : Syntax → RequestOutcome
  not_read : RequestOutcome
  called : Call → ℕ → ℕ → Came → RequestOutcome

-- a request with its bytes, the moment of the clock behind its last byte, what came of it, and the moment that its
-- answer tells
pub record AnsweredRequest : Type 0 where
  pub bytes : List ℕ
  pub request : Request
  pub moment : ℕ
  pub outcome : RequestOutcome
  pub told : ℕ

-- the fault of a signature, as it is told
abbrev pub fault_of : AuthText → AuthFault
fault_of auth_text.NoHeader = fault.NoHeader
fault_of auth_text.BadHeader = fault.BadHeader
fault_of auth_text.OtherAccount = fault.OtherAccount
fault_of auth_text.NoDate = fault.NoDate
fault_of auth_text.BadDate = fault.BadDate
fault_of (auth_text.TooOld dated now) = fault.TooOld dated now
fault_of (auth_text.TooNew dated now) = fault.TooNew dated now
fault_of auth_text.Differs = fault.Differs

-- the first of these that applies to a request at a moment: a fault of its signature, why it is no call, or the call
-- that it spells
abbrev pub ComesTo : Account → Request → ℕ → RequestOutcome → Type 0
ComesTo account r moment (not_signed text) = auth r.head account moment ≡ Err (fault_of text)
ComesTo account r moment (no_call syntax) = (auth r.head account moment ≡ Ok tt) × (reading r ≡ Err syntax)
ComesTo account r moment not_read = Unit {0}
ComesTo account r moment (called call first second came) =
    (auth r.head account moment ≡ Ok tt) × (reading r ≡ Ok call)

-- the moment of the entry at a place of the history, if one stands there
abbrev pub moment_at : History → ℕ → Option ℕ
moment_at h place = option_map (λ (n : Noted). n.entry.at) (slice_get h.entries (place - 1))

-- the moment that an answer tells: that of the call's entry, or where none was appended, the request's own
abbrev pub TellsMoment : History → ℕ → RequestOutcome → ℕ → Type 0
TellsMoment h moment (not_signed text) told = told ≡ moment
TellsMoment h moment (no_call syntax) told = told ≡ moment
TellsMoment h moment not_read told = told ≡ moment
TellsMoment h moment (called call first second (appended place reply)) told = moment_at h place ≡ Some told
TellsMoment h moment (called call first second (history_full entries sessions)) told = told ≡ moment
TellsMoment h moment (called call first second no_memory) told = told ≡ moment

-- the bytes are a request, and that came of it
pub record IsAnsweredRequest (account : Account) (h : History) (t : AnsweredRequest) : Type 0 where
  pub is : IsRequest t.bytes t.request
  pub comes : ComesTo account t.request t.moment t.outcome
  pub tells : TellsMoment h t.moment t.outcome t.told

-- the random number of two words, the first of which is its higher half
abbrev pub fresh_of : ℕ → ℕ → ℕ
fresh_of first second = first * 2 ^ 64 + second

-- a REST call and what it came to; it stands in no session
abbrev pub rest_call : ℕ → Call → ℕ → ℕ → Came → Outcome
rest_call who call moment fresh came =
    record { asked = record { who = who; session = 0; call = call; now = moment; fresh = fresh }; came = came }

-- the call of a request, if it was asked
abbrev pub calls_in_request : ℕ → ℕ → RequestOutcome → List Outcome
calls_in_request who moment (not_signed text) = []
calls_in_request who moment (no_call syntax) = []
calls_in_request who moment not_read = []
calls_in_request who moment (called call first second came) =
    rest_call who call moment (fresh_of first second) came ∷ []

-- the calls of requests
abbrev pub calls_of_requests : ℕ → List AnsweredRequest → List Outcome
calls_of_requests who ts = flat_map (λ t. calls_in_request who t.moment t.outcome) ts

-- the random words that were drawn for a request: two for each call that was asked
abbrev pub words_in : RequestOutcome → List ℕ
words_in (not_signed text) = []
words_in (no_call syntax) = []
words_in not_read = []
words_in (called call first second came) = first ∷ second ∷ []

-- the random words that were drawn for requests
abbrev pub words_of : List AnsweredRequest → List ℕ
words_of ts = flat_map (λ t. words_in t.outcome) ts

-- what is said to a call
abbrev pub said_to : ℕ → Came → Said
said_to limit (appended place reply) = Core reply
said_to limit (history_full entries sessions) = Stop (stop.HistoryFull entries sessions limit)
said_to limit no_memory = Stop stop.NoMemory

-- what is said to a request of this outcome
abbrev pub said_of : ℕ → RequestOutcome → Said
said_of limit (not_signed text) = Auth text
said_of limit (no_call syntax) = NoCall syntax
said_of limit not_read = Stop stop.NoMemory
said_of limit (called call first second came) = said_to limit came

-- the place of an entry, and 0 where none was appended
abbrev pub place_or_0 : Came → ℕ
place_or_0 (appended place reply) = place
place_or_0 (history_full entries sessions) = 0
place_or_0 no_memory = 0

-- the place that an answer tells
abbrev pub place_told : RequestOutcome → ℕ
place_told (not_signed text) = 0
place_told (no_call syntax) = 0
place_told not_read = 0
place_told (called call first second came) = place_or_0 came

-- the answer to a request of this outcome, which tells this moment
abbrev pub request_answer : ℕ → RequestOutcome → ℕ → Answer
request_answer limit outcome told = record { place = place_told outcome; at = told; said = said_of limit outcome }

-- the printed answer to a request
abbrev pub answer_text : ℕ → AnsweredRequest → List ℕ
answer_text limit t = printed (request_answer limit t.outcome t.told) (shape_of t.request.head)

-- the printed answers to requests
abbrev pub request_answers : ℕ → List AnsweredRequest → List ℕ
request_answers limit ts = flat_map (answer_text limit) ts

-- the bytes of the requests
abbrev pub request_bytes : List AnsweredRequest → List ℕ
request_bytes ts = flat_map (λ (t : AnsweredRequest). t.bytes) ts

-- what a report counts, after a request
abbrev pub tally_after_request : ℕ → Tally → RequestOutcome → Tally
tally_after_request limit t (not_signed text) = t
tally_after_request limit t (no_call syntax) = t
tally_after_request limit t not_read = record t { no_memory = true }
tally_after_request limit t (called call first second came) = tally_with limit (record t { asked = t.asked + 1 }) came

-- what a report counts, after requests
abbrev pub tally_after_requests : ℕ → Tally → List AnsweredRequest → Tally
tally_after_requests limit tally [] = tally
tally_after_requests limit tally (t ∷ ts) = tally_after_requests limit (tally_after_request limit tally t.outcome) ts

-- what is told of a request that is over a limit
abbrev pub long_text : Long → ℕ → WireText
long_text OfHead n = wire.HeadLong
long_text OfHeaders n = wire.HeadLong
long_text OfBody n = wire.Body n

-- a reader's answer to a request that can't be read, as it is told; none for each other answer
abbrev pub unreadable_of : Next → Option Unreadable
unreadable_of (next.BadHead at) = Some (record { at = at; text = wire.Head at; head_only = false })
unreadable_of (next.NoLength at facts) = Some (record { at = at; text = wire.NoLength; head_only = facts.head_only })
unreadable_of (next.BadLength at facts) = Some (record { at = at; text = wire.BadLength; head_only = facts.head_only })
unreadable_of (next.TooLong at what n facts) =
    Some (record { at = at; text = long_text what n; head_only = facts.head_only })
unreadable_of other = None

-- a request that can't be read, and the moment of its answer
pub record RefusedRequest : Type 0 where
  pub why : Unreadable
  pub moment : ℕ

-- the answer to a request that can't be read
abbrev pub refusal_of : RefusedRequest → Answer
refusal_of r = record { place = 0; at = r.moment; said = Wire r.why.text }

-- its printed answer, behind which the connection closes
abbrev pub refusal_text : RefusedRequest → List ℕ
refusal_text r = printed (refusal_of r) (record { head_only = r.why.head_only; close = true })

-- the printed answer to the request that can't be read, where one came
abbrev pub refusal_behind : Option RefusedRequest → List ℕ
refusal_behind None = []
refusal_behind (Some r) = refusal_text r

-- the moment of it, where one came
abbrev pub moment_behind : Option RefusedRequest → List ℕ
moment_behind None = []
moment_behind (Some r) = r.moment ∷ []

-- what was said on a connection: the requests that were answered, the one behind them that can't be read, if one came,
-- how many bytes the requests have, how they ended, what the link had left behind them, and which bytes of that were
-- taken and not given
pub record RestTalk : Type 0 where
  pub turns : List AnsweredRequest
  pub refused : Option RefusedRequest
  pub given : ℕ
  pub end : ConnEnd
  pub rest : Option (List ℕ)
  pub held : List ℕ

-- the moments that the clock told: one for each request, and one for that which can't be read
abbrev pub moments_in : RestTalk → List ℕ
moments_in t = map (λ (u : AnsweredRequest). u.moment) t.turns ++ moment_behind t.refused

-- the requests were taken off the link, and what was taken in all is within the budget: what the link had left behind
-- the requests is what was taken of it and not given, and what it has left
pub record TakesRequests (budget : ℕ) (t : RestTalk) (old new : Sides) : Type 0 where
  pub requests : Consumes old.left t.rest (request_bytes t.turns)
  pub given_is : t.given ≡ length (request_bytes t.turns)
  pub unread : Keeps t.rest (prepend_known t.held new.left)
  pub within : t.given + length t.held ≤ budget

-- this answer of a reader holds of what stands behind the requests: of what was taken of it, and of as much of it as
-- the budget lets be taken
abbrev pub Follows : Next → ℕ → RestTalk → Type 0
Follows answer budget t = Because answer t.given (budget - t.given) t.held t.rest

-- behind the requests stands one that can't be read, for what was told
pub record IsRequestRefused (budget : ℕ) (t : RestTalk) (r : RefusedRequest) : Type 0 where
  pub answer : Next
  pub told : unreadable_of answer ≡ Some r.why
  pub follows : Follows answer budget t

-- the connection closed at a request that can't be read, which begins at this byte
abbrev pub ClosesAt : ℕ → ℕ → RestTalk → Option RefusedRequest → Type 0
ClosesAt at budget t None = ⊥
ClosesAt at budget t (Some r) = IsRequestRefused budget t r × (at ≡ t.given)

-- why no further request was answered, by what was left behind the requests and held of it, the budget, and the link's
-- counts of failed reads and puts
abbrev pub IsRestEnd : ConnEnd → ℕ → RestTalk → Sides → Sides → Type 0
IsRestEnd finish.Ended budget t old new = Follows next.End budget t × (t.refused ≡ None)
IsRestEnd (finish.Closed None) budget t old new = t.refused ≡ None
IsRestEnd (finish.Closed (Some at)) budget t old new = ClosesAt at budget t t.refused
IsRestEnd (finish.Cut left) budget t old new = Follows (next.Cut left) budget t × (t.refused ≡ None)
IsRestEnd finish.Spent budget t old new = Follows next.Spent budget t × (t.refused ≡ None)
IsRestEnd finish.ReadFault budget t old new =
    Rose old.reads new.reads × Follows next.ReadFault budget t × (t.refused ≡ None)
IsRestEnd finish.WriteFault budget t old new = Rose old.writes new.writes × IfSome t.refused (IsRequestRefused budget t)
IsRestEnd (finish.Full full) budget t old new = ⊥
IsRestEnd finish.NoMemory budget t old new = t.refused ≡ None

-- the connection stays open behind the answer to the request
abbrev pub StaysOpen : AnsweredRequest → Type 0
StaysOpen t = closes t.request.head ≡ false

-- the last of the requests closed the connection, and none before it
pub record ClosesLast (turns : List AnsweredRequest) : Type 0 where
  pub before : List AnsweredRequest
  pub last : AnsweredRequest
  pub split : turns ≡ before ++ last ∷ []
  pub open_until : AllByRecursion StaysOpen before
  pub closed : closes last.request.head ≡ true

-- the request that closed the connection is the last, and there is one only where it ended so; where a write failed,
-- that is told with what was written
abbrev pub IsClosedBy : ConnEnd → List AnsweredRequest → Type 0
IsClosedBy (finish.Closed None) turns = ClosesLast turns
IsClosedBy finish.WriteFault turns = Unit {0}
IsClosedBy end turns = AllByRecursion StaysOpen turns

-- a write failed at the answer to the last request: those before it were written, and left the connection open, and a
-- prefix of it
pub record BreaksAtRequest (limit : ℕ) (turns : List AnsweredRequest) (wrote wrote' : List ℕ → Type 0) : Type 0 where
  pub answered : List AnsweredRequest
  pub last : AnsweredRequest
  pub split : turns ≡ answered ++ last ∷ []
  pub open_until : AllByRecursion StaysOpen answered
  pub begun : HasBegun wrote wrote' (request_answers limit answered) (answer_text limit last)

-- the answer at which a write failed: that to the last request, or that to one that can't be read
abbrev pub BreaksRest : ℕ → List AnsweredRequest → Option RefusedRequest → (List ℕ → Type 0) → (List ℕ → Type 0)
    → Type 0
BreaksRest limit turns None wrote wrote' = BreaksAtRequest limit turns wrote wrote'
BreaksRest limit turns (Some r) wrote wrote' =
    AllByRecursion StaysOpen turns × HasBegun wrote wrote' (request_answers limit turns) (refusal_text r)

-- what was written: the answers, with that to a request that can't be read behind them, up to the write that failed
abbrev pub HasWrittenToRequests : ConnEnd → ℕ → RestTalk → (List ℕ → Type 0) → (List ℕ → Type 0) → Type 0
HasWrittenToRequests finish.WriteFault limit t wrote wrote' = BreaksRest limit t.turns t.refused wrote wrote'
HasWrittenToRequests end limit t wrote wrote' =
    HasText wrote wrote' (request_answers limit t.turns ++ refusal_behind t.refused)

-- the requests of a connection: what came of them in a history, what was taken off the link, what was written, and how
-- they ended
pub record ServesRequests (account : Account) (h : History) (budget : ℕ) (t : RestTalk) (wrote wrote' : List ℕ → Type 0)
    (old new : Sides)
    : Type 0 where
  pub requests : AllByRecursion (IsAnsweredRequest account h) t.turns
  pub bytes : TakesRequests budget t old new
  pub answers : HasWrittenToRequests t.end h.limit t wrote wrote'
  pub end : IsRestEnd t.end budget t old new
  pub closing : IsClosedBy t.end t.turns
  pub counts : KeepsCounts t.end old new

-- a connection that is served: by which caller, for which account, with which budget of bytes; the history at its end,
-- and how many entries of that had been seen as it began
pub record RestVisit : Type 0 where
  pub who : ℕ
  pub account : Account
  pub budget : ℕ
  pub history : History
  pub from : ℕ

-- a link's sides, a clock and a random source, before or after a call
pub record RestLinkState (C R : Type 0) : Type 0 where
  pub sides : Sides
  pub clock : C
  pub random : R

-- what a connection does and reports: its requests and their calls in the history, the moments that the clock told, the
-- random words that were drawn, and the report
pub record RestConversation {C R : Type 0} (ticks : C → ℕ → C → Type 0) (draws : R → ℕ → R → Type 0)
    (wrote wrote' : List ℕ → Type 0) (v : RestVisit) (old new : RestLinkState C R) (report : ConnReport)
    : Type 0 where
  pub talk : RestTalk
  pub history : AreCallsIn v.history v.who v.from (calls_of_requests v.who talk.turns)
  pub moments : StepsThrough ticks old.clock (moments_in talk) new.clock
  pub words : StepsThrough draws old.random (words_of talk.turns) new.random
  pub served : ServesRequests v.account v.history v.budget talk wrote wrote' old.sides new.sides
  pub report_is : report
      ≡ report_of talk.end talk.given v.budget (tally_after_requests v.history.limit no_tally talk.turns)
