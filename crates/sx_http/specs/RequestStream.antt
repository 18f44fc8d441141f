-- Requests on a stream, and what a reader of requests answers.
use Rattle.std.specs.Prelude.{ℕ, ◌++◌, ◌+◌, ◌-◌, ◌<◌, ◌≤◌, ◌≡◌, ◌⊎◌, true, List, [], length, take, IfSome}
use Rattle.std.specs.declared.option.Option.{Option}
use Rattle.std.specs.Io.KnownBytes.{Keeps, Consumes, prepend_known}
use Rattle.httparse.specs.Grammar.{RequestHead, print_request, ReadsRequest, HasNoRequest, NeverHasRequest}
use Rattle.sx_base.specs.Causes.{Rose}
use Rattle.sx_http.specs.declared.limits.TheConstants.{HEAD_LIMIT}
use Rattle.sx_http.specs.Heads.{head_of, head_window, MayHaveHead}
use Rattle.sx_http.specs.Framing.{framing_of}
use Rattle.sx_http.specs.Facts.{facts_of, no_facts}
use Rattle.sx_http.specs.Readers.{Requests}
use Rattle.sx_http.specs.declared.heads.Request.{Request}
use Rattle.sx_http.specs.declared.facts.HeadFacts.{HeadFacts}
use Rattle.sx_http.specs.declared.framing.Framing.{Framing}
use Rattle.sx_http.specs.declared.framing.Framing.TheVariants.{Body, TooManyHeaders, NoLength, BadLength, LongBody}
use Rattle.sx_http.specs.declared.next.Long.TheVariants.{Head as OfHead, Headers as OfHeaders, Body as OfBody}
use Rattle.sx_http.specs.declared.next.Next.{Next}
use Rattle.sx_http.specs.declared.next.Next.TheVariants.{Whole, End, Cut, BadHead, NoLength as LacksLength}
use Rattle.sx_http.specs.declared.next.Next.TheVariants.{BadLength as HasBadLength, TooLong, Spent, ReadFault}
use Rattle.sx_http.specs.declared.next.Next.TheVariants.{NoMemory}

-- the bytes are a request: a head, and as many body bytes as it states
pub record IsRequest (bytes : List ℕ) (request : Request) : Type 0 where
  pub tree : RequestHead
  pub reads : ReadsRequest bytes tree request.body
  pub short : length (print_request tree) ≤ HEAD_LIMIT
  pub head : request.head ≡ head_of tree
  pub framed : framing_of request.head ≡ Body (length request.body)

-- a whole head stands at the front, and its headers say that of the body
pub record BeginsFramed (bytes : List ℕ) (framed : Framing) (facts : HeadFacts) : Type 0 where
  pub tree : RequestHead
  pub rest : List ℕ
  pub reads : ReadsRequest bytes tree rest
  pub short : length (print_request tree) ≤ HEAD_LIMIT
  pub is : framing_of (head_of tree) ≡ framed
  pub told : facts ≡ facts_of (head_of tree)

-- the bytes are a head and too few bytes of its body
pub record LacksBody (bytes : List ℕ) : Type 0 where
  pub tree : RequestHead
  pub rest : List ℕ
  pub size : ℕ
  pub reads : ReadsRequest bytes tree rest
  pub short : length (print_request tree) ≤ HEAD_LIMIT
  pub is : framing_of (head_of tree) ≡ Body size
  pub lacks : length rest < size

-- the bytes are no whole request and refuse none: a head may yet come, or bytes of a body
abbrev pub IsUnfinished : List ℕ → Type 0
IsUnfinished bytes = (MayHaveHead bytes × (length bytes < HEAD_LIMIT)) ⊎ LacksBody bytes

-- why nothing was given: by the place of the request's first byte, how many bytes may be taken from there on, and the
-- bytes that stand there, at most so many
abbrev pub Reason : Next → ℕ → ℕ → List ℕ → Type 0
Reason (Whole request) at room front = ⊥
Reason End at room front = (front ≡ []) × (0 < room)
Reason (Cut left) at room front = (length front ≡ left) × (1 ≤ left) × (left < room) × IsUnfinished front
Reason (BadHead place) at room front = (place ≡ at) × NeverHasRequest (head_window front)
Reason (TooLong place OfHead n facts) at room front =
    (place ≡ at) × (n ≡ HEAD_LIMIT) × (facts ≡ no_facts) × (HEAD_LIMIT ≤ length front) × MayHaveHead (head_window front)
Reason (TooLong place OfHeaders n facts) at room front = (place ≡ at) × BeginsFramed front (TooManyHeaders n) facts
Reason (LacksLength place facts) at room front = (place ≡ at) × BeginsFramed front NoLength facts
Reason (HasBadLength place facts) at room front = (place ≡ at) × BeginsFramed front BadLength facts
Reason (TooLong place OfBody n facts) at room front = (place ≡ at) × BeginsFramed front (LongBody n) facts
Reason Spent at room front = (length front ≡ room) × IsUnfinished front
Reason ReadFault at room front = Unit {0}
Reason NoMemory at room front = Unit {0}

-- no request stands whole in the bytes: no head does, or its body lacks bytes
abbrev pub LacksRequest : List ℕ → Type 0
LacksRequest bytes = HasNoRequest bytes ⊎ LacksBody bytes

-- what a reader has yet to give, where its source tells what is left
abbrev pub stream : Requests → Option (List ℕ) → Option (List ℕ)
stream reader left = prepend_known reader.held left

-- what has to hold where a read failed
abbrev pub OnReadFault : Next → Type 0 → Type 0
OnReadFault ReadFault P = P
OnReadFault next P = Unit {0}

-- the source's count of failed reads, before and after an answer: it rose where a failed read is answered, and else
-- it stays
abbrev pub Counts : Next → ℕ → ℕ → Type 0
Counts ReadFault before now = Rose before now
Counts next before now = now ≡ before

-- the reason holds of what is held, and of as much of the whole stream as may be taken, where it is told; and where a
-- read failed, no whole request is held
pub record Because (next : Next) (at room : ℕ) (held : List ℕ) (bytes : Option (List ℕ)) : Type 0 where
  pub held_so : Reason next at room held
  pub told_so : IfSome bytes (λ bs. Reason next at room (take room bs))
  pub lacks : OnReadFault next (LacksRequest held)

-- the bytes taken, as they are told after an answer
abbrev pub taken_after : Next → Requests → ℕ
taken_after (Cut left) reader = reader.given + left
taken_after Spent reader = reader.budget
taken_after next reader = reader.given

-- an answer needs a further byte: what is held is no whole request and refuses none, and the budget isn't reached
abbrev pub NeedsMore : Requests → Type 0
NeedsMore reader = IsUnfinished reader.held × (reader.given + length reader.held < reader.budget)

-- a request was taken off the stream
pub record GivesRequest (request : Request) (old new : Requests) (left left' : Option (List ℕ)) : Type 0 where
  pub text : List ℕ
  pub bytes : Consumes (stream old left) (stream new left') text
  pub is : IsRequest text request
  pub given : new.given ≡ old.given + length text
  pub taken : new.taken ≡ new.given
  pub budget : new.budget ≡ old.budget
  pub ended : new.ended ≡ old.ended

-- nothing was given, and the reader has ended: the stream is as it was
pub record GivesNone (next : Next) (old new : Requests) (left left' : Option (List ℕ)) : Type 0 where
  pub bytes : Keeps (stream old left) (stream new left')
  pub given : new.given ≡ old.given
  pub taken : new.taken ≡ taken_after next old
  pub budget : new.budget ≡ old.budget
  pub ended : new.ended ≡ true
  pub because : Because next old.given (old.budget - old.given) new.held (stream old left)

-- what a reader that hasn't ended answered, with what its source has left, before and after
abbrev pub IsAnswer : Next → Requests → Requests → Option (List ℕ) → Option (List ℕ) → Type 0
IsAnswer (Whole request) old new left left' = GivesRequest request old new left left'
IsAnswer next old new left left' = GivesNone next old new left left'
