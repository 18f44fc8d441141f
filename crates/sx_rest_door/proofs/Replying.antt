-- What a turn of a connection came to.
use Rattle.std.proofs.Common.{ℕ, ◌+◌, ◌≤◌, ◌≡◌, Bool, true, false, List, [], ◌++◌, Option, Some, None, Result, Ok, Err, inl, inr, refl, sym, ◌∙◌, subst}
use Rattle.sx_base.specs.Causes.{Rose}
use Rattle.sx_base.specs.Sides.{Sides}
use Rattle.sx_base.specs.Sink.{Prints}
use Rattle.sx_http.specs.Readers.{Requests}
use Rattle.sx_http.specs.RequestStream.{GivesRequest}
use Rattle.sx_http.specs.declared.heads.Request.{Request}
use Rattle.sx_key.specs.declared.account.Account.{Account}
use Rattle.sx_book.specs.declared.report.ConnEnd.{ConnEnd}
use Rattle.sx_book.specs.declared.report.ConnEnd.TheVariants as finish
use Rattle.sx_rest_door.specs.Asking.{RestDoorState, TurnState, AnswersNext, AnswersOne, HearsRefused, HearsEnd, IsTurn, Replies, end_behind, end_at}
use Rattle.sx_rest_door.specs.Conversation.{refusal_text}
use Rattle.sx_rest_door.specs.declared.hearing.Unreadable.{Unreadable}

-- what a turn may change, by the link's state
abbrev pub turn_state : {K C R : Type 0} → (K → Option (List ℕ)) → (K → ℕ) → (K → ℕ) → Requests → C → RestDoorState R → K → TurnState C R
turn_state left reads count r c d k = record { reader = r; clock = c; door = d; sides = record { left = left k; reads = reads k; writes = count k } }

module _ {K C R : Type 0} (ticks : C → ℕ → C → Type 0) (draws : R → ℕ → R → Type 0) (account : Account) (wrote : K → List ℕ → Type 0) (count : K → ℕ) (puts : K → K → Type 0) (left : K → Option (List ℕ)) (reads : K → ℕ)
    (k0 k1 k2 : K) (reader reader' : Requests) (c0 c1 : C) (old new : RestDoorState R) where
  answers : {E : Type 0} (request : Request) (moment : ℕ) (result : Result Bool E) → GivesRequest request reader reader' (left k0) (left k1) → reads k1 ≡ reads k0 → left k2 ≡ left k1 → reads k2 ≡ reads k1 → ticks c0 moment c1
      → Replies wrote count puts draws account moment request old new k1 k2 result → AnswersOne ticks draws account (turn_state left reads count reader c0 old k0) (turn_state left reads count reader' c1 new k2)
  answers request moment result gives read rest kept ticked replies = record {
    request = request;
    moment = moment;
    answer = replies.answer;
    gives = subst (λ (l : Option (List ℕ)). GivesRequest request reader reader' (left k0) l) (sym rest) gives;
    ticked = ticked;
    answered = replies.answered;
    reads = kept ∙ read;
  }

  -- a request was answered
  pub answered_turn : {E : Type 0} (result : Result Bool E) (request : Request) (moment : ℕ) → GivesRequest request reader reader' (left k0) (left k1) → reads k1 ≡ reads k0 → count k1 ≡ count k0 → ((m : List ℕ) → wrote k0 m → wrote k1 m)
      → left k2 ≡ left k1 → reads k2 ≡ reads k1 → ticks c0 moment c1 → Replies wrote count puts draws account moment request old new k1 k2 result
      → IsTurn (end_behind result) ticks draws account (wrote k0) (wrote k2) (turn_state left reads count reader c0 old k0) (turn_state left reads count reader' c1 new k2)
  unfolding answers
  answered_turn (Ok true) request moment gives read wrote_so keep rest kept ticked replies =
      (answers request moment (Ok true) gives read rest kept ticked replies, sym replies.closing, λ m w. replies.printed_so.ok.behind m (keep m w), replies.printed_so.cause.kept ∙ wrote_so)
  answered_turn (Ok false) request moment gives read wrote_so keep rest kept ticked replies =
      (answers request moment (Ok false) gives read rest kept ticked replies, sym replies.closing, λ m w. replies.printed_so.ok.behind m (keep m w), replies.printed_so.cause.kept ∙ wrote_so)
  answered_turn (Err failed) request moment gives read wrote_so keep rest kept ticked replies = (
    subst (λ (n : ℕ). Rose n (count k2)) wrote_so replies.printed_so.cause.failed,
    inl (answers request moment (Err failed) gives read rest kept ticked replies, λ m w. replies.printed_so.err.behind m (keep m w)),
  )

  -- a request that can't be read was answered
  pub refused_turn : {T E : Type 0} (result : Result T E) (why : Unreadable) (moment : ℕ) → HearsRefused why reader reader' (left k0) (left k1) (reads k0) (reads k1) → count k1 ≡ count k0 → ((m : List ℕ) → wrote k0 m → wrote k1 m)
      → left k2 ≡ left k1 → reads k2 ≡ reads k1 → ticks c0 moment c1 → Prints wrote count puts k1 k2 (refusal_text (record { why = why; moment = moment })) result
      → IsTurn (Some (end_at result why.at)) ticks draws account (wrote k0) (wrote k2) (turn_state left reads count reader c0 old k0) (turn_state left reads count reader' c1 old k2)
  refused_turn (Ok done) why moment hears wrote_so keep rest kept ticked prints =
      let heard = subst (λ (n : ℕ). HearsRefused why reader reader' (left k0) (left k2) (reads k0) n) (sym kept) (subst (λ (l : Option (List ℕ)). HearsRefused why reader reader' (left k0) l (reads k0) (reads k1)) (sym rest) hears) in
      ((record { refused = record { why = why; moment = moment }; hears = heard; ticked = ticked }, refl), refl, λ m w. prints.ok.behind m (keep m w), prints.cause.kept ∙ wrote_so)
  refused_turn (Err failed) why moment hears wrote_so keep rest kept ticked prints =
      let heard = subst (λ (n : ℕ). HearsRefused why reader reader' (left k0) (left k2) (reads k0) n) (sym kept) (subst (λ (l : Option (List ℕ)). HearsRefused why reader reader' (left k0) l (reads k0) (reads k1)) (sym rest) hears) in (
        subst (λ (n : ℕ). Rose n (count k2)) wrote_so prints.cause.failed,
        inr ((record { refused = record { why = why; moment = moment }; hears = heard; ticked = ticked }, refl), λ m w. prints.err.behind m (keep m w)),
      )

  -- no request stands next
  pub ended_turn : (end : ConnEnd) → HearsEnd end reader reader' (left k0) (left k1) (reads k0) (reads k1) → count k1 ≡ count k0 → ((m : List ℕ) → wrote k0 m → wrote k1 m)
      → IsTurn (Some end) ticks draws account (wrote k0) (wrote k1) (turn_state left reads count reader c0 old k0) (turn_state left reads count reader' c0 old k1)
  ended_turn finish.Ended hears wrote_so keep = (hears, refl, refl, wrote_so, keep)
  ended_turn (finish.Cut n) hears wrote_so keep = (hears, refl, refl, wrote_so, keep)
  ended_turn finish.Spent hears wrote_so keep = (hears, refl, refl, wrote_so, keep)
  ended_turn finish.ReadFault hears wrote_so keep = (hears, refl, refl, wrote_so, keep)
  ended_turn finish.NoMemory hears wrote_so keep = (hears, refl, refl, wrote_so, keep)
  ended_turn (finish.Closed at) hears wrote_so keep = absurd hears
  ended_turn finish.WriteFault hears wrote_so keep = absurd hears
  ended_turn (finish.Full full) hears wrote_so keep = absurd hears
