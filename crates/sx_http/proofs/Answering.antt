-- What a reader's answer says of its stream.
use Rattle.std.proofs.Common.{ℕ, ◌+◌, ◌-◌, ◌≤◌, ◌≡◌, Bool, true, List, [], ◌++◌, length, take, drop, refl, sym, ap, ◌∙◌, subst, arith, IfSome}
use Rattle.std.specs.declared.option.Option.{Option}
use Rattle.std.specs.declared.option.Option.TheVariants.{None, Some}
use Rattle.std.specs.Io.KnownBytes.{Keeps, Consumes, IsAtEnd, prepend_known}
use Rattle.std.proofs.Math.Seq.{take-add, take-append_seam, drop-append_seam}
use Rattle.std.proofs.lemmas.List.{append-nil, append_assoc, take_all}
use Rattle.sx_base.proofs.Streams.{keeps_same, keeps_more, consumes_kept}
use Rattle.sx_http.specs.Readers.{Requests}
use Rattle.sx_http.specs.RequestStream.{stream, Reason, OnReadFault, Because, Counts, GivesRequest, GivesNone, IsAnswer, taken_after}
use Rattle.sx_http.specs.Filling.{Stays, Stops, finished_reader}
use Rattle.sx_http.specs.declared.next.Next.{Next}
use Rattle.sx_http.specs.declared.next.Next.TheVariants.{Whole, End, Cut, BadHead, NoLength, BadLength, TooLong, Spent, ReadFault, NoMemory}

-- a reader that did nothing
pub stays_same : (reader : Requests) (left : Option (List ℕ)) → Stays reader reader left left
stays_same reader left = record { bytes = keeps_same (stream reader left); rest = refl }

-- one step after another
pub stays_more : (a b c : Requests) (l m n : Option (List ℕ)) → Stays a b l m → Stays b c m n → Stays a c l n
stays_more a b c l m n h k = record {
  bytes = keeps_more (stream a l) (stream b m) (stream c n) h.bytes k.bytes;
  rest = k.rest ∙ ap (λ (r : Requests). record { held = c.held; given = r.given; taken = r.taken; budget = r.budget; ended = r.ended }) h.rest;
}

-- what holds of kept bytes held before
pub told_kept : (P : List ℕ → Type 0) (a b : Option (List ℕ)) → Keeps a b → IfSome b P → IfSome a P
told_kept P None b h k = tt
told_kept P (Some xs) None h k = absurd h
told_kept P (Some xs) (Some ys) h k = subst P h k

-- as much as may be taken, where all that is held may
front_room : (room : ℕ) (held more : List ℕ) → length held ≤ room → take room (held ++ more) ≡ held ++ take (room - length held) more
front_room room held more le =
    let sum : room ≡ length held + (room - length held) = omega (arith, le) in
    let first : take (length held) (held ++ more) ≡ held = take-append_seam held more in
    let last : drop (length held) (held ++ more) ≡ more = drop-append_seam held more in
    ap (λ (k : ℕ). take k (held ++ more)) sum ∙ take-add (length held) (room - length held) (held ++ more) ∙ (λ i. first i ++ take (room - length held) (last i))

-- what holds of all bytes that what is held begins
pub told_front : (P : List ℕ → Type 0) (a b : Option (List ℕ)) (held : List ℕ) (room : ℕ) → length held ≤ room → Keeps a (prepend_known held b) → ((more : List ℕ) → P (held ++ more)) → IfSome a (λ bs. P (take room bs))
told_front P None b held room le h k = tt
told_front P (Some xs) None held room le h k = absurd h
told_front P (Some xs) (Some ys) held room le h k =
    subst (λ (bs : List ℕ). P (take room bs)) h (subst P (sym (front_room room held ys le)) (k (take (room - length held) ys)))

-- what holds of what is held, where no more may be taken
pub told_full : (P : List ℕ → Type 0) (a b : Option (List ℕ)) (held : List ℕ) (room : ℕ) → length held ≡ room → Keeps a (prepend_known held b) → P held → IfSome a (λ bs. P (take room bs))
told_full P None b held room le h p = tt
told_full P (Some xs) None held room le h p = absurd h
told_full P (Some xs) (Some ys) held room e h p =
    subst (λ (bs : List ℕ). P (take room bs)) h (subst P (sym (ap (λ (k : ℕ). take k (held ++ ys)) (sym e) ∙ take-append_seam held ys)) p)

-- what is held at the end is all that is left
pub told_end : (P : List ℕ → Type 0) (a b : Option (List ℕ)) (held : List ℕ) (room : ℕ) → length held ≤ room → Keeps a (prepend_known held b) → IsAtEnd b → P held → IfSome a (λ bs. P (take room bs))
told_end P None b held room le h k p = tt
told_end P (Some xs) None held room le h k p = absurd h
told_end P (Some xs) (Some ys) held room le h k p =
    let all : held ++ ys ≡ held = ap (λ zs. held ++ zs) k ∙ append-nil held in
    subst (λ (bs : List ℕ). P (take room bs)) (sym all ∙ h) (subst P (sym (take_all room held le)) p)

-- what holds of all bytes
pub told_any : (P : List ℕ → Type 0) (a : Option (List ℕ)) → ((bs : List ℕ) → P bs) → IfSome a P
told_any P None k = tt
told_any P (Some xs) k = k xs

-- bytes read behind those that are held
pub keeps_read : (held read : List ℕ) (l n : Option (List ℕ)) → Consumes l n read → Keeps (prepend_known held l) (prepend_known (held ++ read) n)
keeps_read held read None n h = tt
keeps_read held read (Some xs) None h = absurd h
keeps_read held read (Some xs) (Some ys) h = append_assoc held read ys ∙ ap (λ zs. held ++ zs) (sym h)

-- all that is held was given, with what was read behind it
pub consumes_read : (held read : List ℕ) (l n : Option (List ℕ)) → Consumes l n read → Consumes (prepend_known held l) (prepend_known [] n) (held ++ read)
consumes_read held read None n h = tt
consumes_read held read (Some xs) None h = absurd h
consumes_read held read (Some xs) (Some ys) h = ap (λ zs. held ++ zs) h ∙ sym (append_assoc held read ys)

-- no fact at all where no failed read is answered
pub no_fault : (next : Next) (P : Type 0) → OnReadFault next ⊥ → OnReadFault next P
no_fault ReadFault P h = absurd h
no_fault (Whole r) P h = tt
no_fault End P h = tt
no_fault (Cut left) P h = tt
no_fault (BadHead at) P h = tt
no_fault (NoLength at facts) P h = tt
no_fault (BadLength at facts) P h = tt
no_fault (TooLong at what n facts) P h = tt
no_fault Spent P h = tt
no_fault NoMemory P h = tt

-- a count that stayed
pub counts_same : (next : Next) (count : ℕ) → OnReadFault next ⊥ → Counts next count count
counts_same ReadFault count h = absurd h
counts_same (Whole r) count h = refl
counts_same End count h = refl
counts_same (Cut left) count h = refl
counts_same (BadHead at) count h = refl
counts_same (NoLength at facts) count h = refl
counts_same (BadLength at facts) count h = refl
counts_same (TooLong at what n facts) count h = refl
counts_same Spent count h = refl
counts_same NoMemory count h = refl

-- a count after reads that didn't fail
pub counts_more : (next : Next) (before mid now : ℕ) → mid ≡ before → Counts next mid now → Counts next before now
counts_more next before mid now e k = subst (λ (n : ℕ). Counts next n now) e k

-- a reason stands for the stream as it was before
because_kept : (next : Next) (at place room limit : ℕ) (held : List ℕ) (a b : Option (List ℕ)) → at ≡ place → room ≡ limit → Keeps a b → Because next place limit held b → Because next at room held a
because_kept next at place room limit held a b e f h k =
    let moved : Because next at room held b = subst (λ (x : ℕ). Because next x room held b) (sym e) (subst (λ (y : ℕ). Because next place y held b) (sym f) k) in
    record {
      held_so = moved.held_so;
      told_so = told_kept (λ bs. Reason next at room (take room bs)) a b h moved.told_so;
      lacks = moved.lacks;
    }

-- a reason, after a step that gave nothing
because_more : (next : Next) (a b : Requests) (held : List ℕ) (l m : Option (List ℕ)) → Stays a b l m → Because next b.given (b.budget - b.given) held (stream b m) → Because next a.given (a.budget - a.given) held (stream a l)
because_more next a b held l m h k =
    let given : a.given ≡ b.given = sym (ap (λ (r : Requests). r.given) h.rest) in
    let room : a.budget - a.given ≡ b.budget - b.given = sym (ap (λ (r : Requests). r.budget - r.given) h.rest) in
    because_kept next a.given b.given (a.budget - a.given) (b.budget - b.given) held (stream a l) (stream b m) given room h.bytes k

-- no request is given, after a step that gave nothing
pub stops_more : (next : Next) (a b c : Requests) (l m n : Option (List ℕ)) (before mid now : ℕ) → Stays a b l m → mid ≡ before → Stops next b c m n mid now → Stops next a c l n before now
stops_more next a b c l m n before mid now h e k = record {
  stays = stays_more a b c l m n h k.stays;
  because = because_more next a b c.held l m h k.because;
  count = counts_more next before mid now e k.count;
}

-- a reader that has ended for that reason
ended_by : (next : Next) (told : ℕ) (old mid new : Requests) (l n : Option (List ℕ)) (before now : ℕ) → Stops next old mid l n before now → told ≡ taken_after next old
    → new ≡ record { held = mid.held; given = mid.given; taken = told; budget = mid.budget; ended = true } → GivesNone next old new l n
ended_by next told old mid new l n before now k count e =
    let held : mid.held ≡ new.held = sym (ap (λ (r : Requests). r.held) e) in
    record {
      bytes = subst (λ (bs : List ℕ). Keeps (stream old l) (prepend_known bs n)) held k.stays.bytes;
      given = ap (λ (r : Requests). r.given) e ∙ ap (λ (r : Requests). r.given) k.stays.rest;
      taken = ap (λ (r : Requests). r.taken) e ∙ count;
      budget = ap (λ (r : Requests). r.budget) e ∙ ap (λ (r : Requests). r.budget) k.stays.rest;
      ended = ap (λ (r : Requests). r.ended) e;
      because = subst (λ (bs : List ℕ). Because next old.given (old.budget - old.given) bs (stream old l)) held k.because;
    }

same_given : (old mid : Requests) (l n : Option (List ℕ)) → Stays old mid l n → mid.given ≡ old.given
same_given old mid l n h = ap (λ (r : Requests). r.given) h.rest

-- that a reader has ended is noted whether or not it had
pub finished_same : (next : Next) (held : List ℕ) (given taken budget : ℕ) (b : Bool) → finished_reader next (record { held = held; given = given; taken = taken; budget = budget; ended = true })
    ≡ finished_reader next (record { held = held; given = given; taken = taken; budget = budget; ended = b })
finished_same (Whole r) held given taken budget b = refl
finished_same End held given taken budget b = refl
finished_same (Cut left) held given taken budget b = refl
finished_same (BadHead at) held given taken budget b = refl
finished_same (NoLength at facts) held given taken budget b = refl
finished_same (BadLength at facts) held given taken budget b = refl
finished_same (TooLong at what n facts) held given taken budget b = refl
finished_same Spent held given taken budget b = refl
finished_same ReadFault held given taken budget b = refl
finished_same NoMemory held given taken budget b = refl

-- the answer of a reader that has found no request
pub stops_answer : (next : Next) (old mid new : Requests) (l n : Option (List ℕ)) (before now : ℕ) → Stops next old mid l n before now → new ≡ finished_reader next mid → IsAnswer next old new l n
stops_answer (Whole r) old mid new l n before now k e = absurd k.because.held_so
stops_answer End old mid new l n before now k e = ended_by End mid.given old mid new l n before now k (same_given old mid l n k.stays) e
stops_answer (Cut left) old mid new l n before now k e =
    ended_by (Cut left) (mid.given + length mid.held) old mid new l n before now k (omega (arith, same_given old mid l n k.stays, k.because.held_so.0)) e
stops_answer (BadHead at) old mid new l n before now k e = ended_by (BadHead at) mid.given old mid new l n before now k (same_given old mid l n k.stays) e
stops_answer (NoLength at facts) old mid new l n before now k e = ended_by (NoLength at facts) mid.given old mid new l n before now k (same_given old mid l n k.stays) e
stops_answer (BadLength at facts) old mid new l n before now k e = ended_by (BadLength at facts) mid.given old mid new l n before now k (same_given old mid l n k.stays) e
stops_answer (TooLong at what m facts) old mid new l n before now k e = ended_by (TooLong at what m facts) mid.given old mid new l n before now k (same_given old mid l n k.stays) e
stops_answer Spent old mid new l n before now k e = ended_by Spent mid.budget old mid new l n before now k (ap (λ (r : Requests). r.budget) k.stays.rest) e
stops_answer ReadFault old mid new l n before now k e = ended_by ReadFault mid.given old mid new l n before now k (same_given old mid l n k.stays) e
stops_answer NoMemory old mid new l n before now k e = ended_by NoMemory mid.given old mid new l n before now k (same_given old mid l n k.stays) e

-- an answer that gives none, after a step that gave nothing
none_more : (next : Next) (a b c : Requests) (l m n : Option (List ℕ)) → Stays a b l m → taken_after next b ≡ taken_after next a → GivesNone next b c m n → GivesNone next a c l n
none_more next a b c l m n h told k = record {
  bytes = keeps_more (stream a l) (stream b m) (stream c n) h.bytes k.bytes;
  given = k.given ∙ ap (λ (r : Requests). r.given) h.rest;
  taken = k.taken ∙ told;
  budget = k.budget ∙ ap (λ (r : Requests). r.budget) h.rest;
  ended = k.ended;
  because = because_more next a b c.held l m h k.because;
}

-- an answer after a step that gave nothing
pub answer_more : (next : Next) (a b c : Requests) (l m n : Option (List ℕ)) → Stays a b l m → IsAnswer next b c m n → IsAnswer next a c l n
answer_more (Whole r) a b c l m n h k = record {
  text = k.text;
  bytes = consumes_kept (stream a l) (stream b m) (stream c n) k.text h.bytes k.bytes;
  is = k.is;
  given = k.given ∙ ap (λ (x : Requests). x.given + length k.text) h.rest;
  taken = k.taken;
  budget = k.budget ∙ ap (λ (x : Requests). x.budget) h.rest;
  ended = k.ended ∙ ap (λ (x : Requests). x.ended) h.rest;
}
answer_more End a b c l m n h k = none_more End a b c l m n h (same_given a b l m h) k
answer_more (Cut left) a b c l m n h k = none_more (Cut left) a b c l m n h (ap (λ (r : Requests). r.given + left) h.rest) k
answer_more (BadHead at) a b c l m n h k = none_more (BadHead at) a b c l m n h (same_given a b l m h) k
answer_more (NoLength at facts) a b c l m n h k = none_more (NoLength at facts) a b c l m n h (same_given a b l m h) k
answer_more (BadLength at facts) a b c l m n h k = none_more (BadLength at facts) a b c l m n h (same_given a b l m h) k
answer_more (TooLong at what n' facts) a b c l m n h k = none_more (TooLong at what n' facts) a b c l m n h (same_given a b l m h) k
answer_more Spent a b c l m n h k = none_more Spent a b c l m n h (ap (λ (r : Requests). r.budget) h.rest) k
answer_more ReadFault a b c l m n h k = none_more ReadFault a b c l m n h (same_given a b l m h) k
answer_more NoMemory a b c l m n h k = none_more NoMemory a b c l m n h (same_given a b l m h) k
