-- Why nothing is given, and what is given.
use Rattle.std.proofs.Common.{ℕ, zero, suc, ◌+◌, ◌-◌, ◌<◌, ◌≤◌, ◌≡◌, ◌==◌, Bool, true, false, inl, inr, List, [], ◌∷◌, ◌++◌, length, take, drop, refl, sym, ap, ◌∙◌, subst, arith, append_assoc, length-append, length-take, Result}
use Rattle.std.specs.Prelude.{MatchResult, Ok, Err}
use Rattle.std.specs.declared.option.Option.{Option}
use Rattle.std.specs.Io.KnownBytes.{IsAtEnd}
use Rattle.std.proofs.Math.Seq.{take-add, take-append_seam}
use Rattle.std.proofs.lemmas.List.{take-append-le, take-append-drop}
use Rattle.httparse.specs.Grammar.{print_request, ReadsRequest, HasNoRequest, NeverHasRequest}
use Rattle.httparse.proofs.GrammarLemmas.{ReadsRequest-append}
use Rattle.sx_base.specs.Causes.{Rose}
use Rattle.sx_base.proofs.Streams.{keeps_same, consumes_held}
use Rattle.sx_http.specs.declared.limits.TheConstants.{HEAD_LIMIT}
use Rattle.sx_http.specs.Heads.{head_window, BeginsHead, MayHaveHead}
use Rattle.sx_http.specs.Framing.{framing_of}
use Rattle.sx_http.specs.Readers.{Requests}
use Rattle.sx_http.specs.RequestStream.{stream, Reason, Because, Counts, GivesRequest, IsUnfinished, LacksRequest}
use Rattle.sx_http.specs.Filling.{Stays, Stops, Settles, StaysInLine, HoldsHead}
use Rattle.sx_http.specs.Judging.{Refuses, long_head, ended_with}
use Rattle.sx_http.specs.declared.heads.Head.{Head}
use Rattle.sx_http.specs.declared.framing.Framing.TheVariants.{Body}
use Rattle.sx_http.specs.declared.judging.WholeHead.{WholeHead}
use Rattle.sx_http.specs.declared.next.Next.{Next}
use Rattle.sx_http.specs.declared.next.Next.TheVariants.{End, Cut, BadHead, Spent, ReadFault}
use Rattle.sx_http.proofs.HeadLemmas.{head_fits}
use Rattle.sx_http.proofs.Answering.{stays_same, stops_more, told_front, told_full, told_end, told_any, no_fault, counts_same, counts_more}
use Rattle.sx_http.proofs.LineEnds.{no_head_more}
use Rattle.sx_http.proofs.Windows.{never_window, window_short}

-- how many bytes a reader holds, against how many it may take
room_fits : (old new : Requests) (l n : Option (List ℕ)) → Stays old new l n → new.given + length new.held ≤ new.budget → length new.held ≤ old.budget - old.given
room_fits old new l n stays within =
    let given : new.given ≡ old.given = ap (λ (r : Requests). r.given) stays.rest in
    let budget : new.budget ≡ old.budget = ap (λ (r : Requests). r.budget) stays.rest in
    omega (arith, within, given, budget)

-- that no head can come
pub bad_head : (old new : Requests) (l n : Option (List ℕ)) (before now at : ℕ) → now ≡ before → Stays old new l n → new.given + length new.held ≤ new.budget → at ≡ old.given → NeverHasRequest (head_window new.held) → Stops (BadHead at) old new l n before now
bad_head old new l n before now at count stays within e h = record {
  stays = stays;
  because = record {
    held_so = (e, h);
    told_so = told_front (Reason (BadHead at) old.given (old.budget - old.given)) (stream old l) n new.held (old.budget - old.given) (room_fits old new l n stays within) stays.bytes (λ more. (e, never_window new.held more h));
    lacks = tt;
  };
  count = count;
}

-- that a read failed while a line was read
pub read_fault : (old mid new : Requests) (l n : Option (List ℕ)) (before now : ℕ) → Stays old new l n → MayHaveHead mid.held → StaysInLine mid new → Rose before now → Stops ReadFault old new l n before now
read_fault old mid new l n before now stays may (bytes, more, none) rose = record {
  stays = stays;
  because = record {
    held_so = tt;
    told_so = told_any (λ _. Unit {0}) (stream old l) (λ _. tt);
    lacks = inl (subst HasNoRequest (sym more) (no_head_more mid.held bytes may.0 none));
  };
  count = rose;
}

-- that the head is too long
pub settles_long : (reader : Requests) (ended : Bool) → reader.given + length reader.held ≤ reader.budget → HEAD_LIMIT ≤ length reader.held → MayHaveHead (head_window reader.held) → Settles (long_head reader.given) ended reader
settles_long reader ended within le h = (
  λ left end. record {
    held_so = (refl, refl, refl, le, h);
    told_so = told_front (Reason (long_head reader.given) reader.given (reader.budget - reader.given)) (stream reader left) left reader.held (reader.budget - reader.given) (omega (arith, within)) (keeps_same (stream reader left))
        (λ more. (refl, refl, refl, omega (arith, le, length-append reader.held more), subst MayHaveHead (sym (take-append-le HEAD_LIMIT reader.held more le)) h));
    lacks = tt;
  },
  λ count. refl,
)

-- that the budget is reached
pub settles_spent : (reader : Requests) (ended : Bool) → reader.given + length reader.held ≤ reader.budget → reader.budget - reader.given ≤ length reader.held → IsUnfinished reader.held → Settles Spent ended reader
settles_spent reader ended within few h =
    let full : length reader.held ≡ reader.budget - reader.given = omega (arith, within, few) in (
      λ left end. record {
        held_so = (full, h);
        told_so = told_full (Reason Spent reader.given (reader.budget - reader.given)) (stream reader left) left reader.held (reader.budget - reader.given) full (keeps_same (stream reader left)) (full, h);
        lacks = tt;
      },
      λ count. refl,
    )

none_held : (bytes : List ℕ) → length bytes ≡ 0 → bytes ≡ []
none_held [] e = refl
none_held (b ∷ bytes) e = absurd (let no : ⊥ = omega (arith, e) in no)

-- that the source has ended
pub settles_end : (k : ℕ) (reader : Requests) (ended : Bool) → ended ≡ true → length reader.held ≡ k → k < reader.budget - reader.given → IsUnfinished reader.held → Settles (ended_with k) ended reader
settles_end zero reader ended is size less h =
    let so : Reason End reader.given (reader.budget - reader.given) reader.held = (none_held reader.held size, less) in (
      λ left end. record {
        held_so = so;
        told_so = told_end (Reason End reader.given (reader.budget - reader.given)) (stream reader left) left reader.held (reader.budget - reader.given) (omega (arith, size)) (keeps_same (stream reader left)) (end is) so;
        lacks = tt;
      },
      λ count. refl,
    )
settles_end (suc k) reader ended is size less h =
    let so : Reason (Cut (suc k)) reader.given (reader.budget - reader.given) reader.held = (size, omega arith, less, h) in (
      λ left end. record {
        held_so = so;
        told_so = told_end (Reason (Cut (suc k)) reader.given (reader.budget - reader.given)) (stream reader left) left reader.held (reader.budget - reader.given) (omega (arith, size, less)) (keeps_same (stream reader left)) (end is) so;
        lacks = tt;
      },
      λ count. refl,
    )

-- what is told with nothing more read, after a step that gave nothing
pub settles_stops : (next : Next) (ended : Bool) (old new : Requests) (l n : Option (List ℕ)) (before now : ℕ) → now ≡ before → Stays old new l n → (ended ≡ true → IsAtEnd n) → Settles next ended new → Stops next old new l n before now
settles_stops next ended old new l n before now count stays end settled =
    stops_more next old new new l n n before now now stays count
    (record { stays = stays_same new n; because = settled.0 n end; count = settled.1 now })

-- a head that was parsed in the window stands in the bytes
head_held : (bytes : List ℕ) (size : ℕ) (head : Head) (found : WholeHead) → BeginsHead (head_window bytes) size head → found.head ≡ head → found.size ≡ size → framing_of head ≡ Body found.body → HoldsHead bytes found
head_held bytes size head found begins h s f =
    let whole : head_window bytes ++ drop HEAD_LIMIT bytes ≡ bytes = take-append-drop HEAD_LIMIT bytes in
    let fits = head_fits (head_window bytes) begins.tree (drop size (head_window bytes)) begins.reads in
    record {
      tree = begins.tree;
      rest = drop size (head_window bytes) ++ drop HEAD_LIMIT bytes;
      reads = subst (λ (bs : List ℕ). ReadsRequest bs begins.tree (drop size (head_window bytes) ++ drop HEAD_LIMIT bytes)) whole
          (ReadsRequest-append (head_window bytes) begins.tree (drop size (head_window bytes)) (drop HEAD_LIMIT bytes) begins.reads);
      long = s ∙ begins.long;
      short = omega (arith, s, begins.long, fits, length-take HEAD_LIMIT bytes);
      is = h ∙ begins.is;
      framed = ap (λ (x : Head). framing_of x) h ∙ f;
    }

-- what is said of a whole head, as an answer
pub judged : (r : Result WholeHead Next) (head : Head) (size at : ℕ) (old new : Requests) (l n : Option (List ℕ)) (before now : ℕ) → now ≡ before → Stays old new l n → new.given + length new.held ≤ new.budget → at ≡ old.given → BeginsHead (head_window new.held) size head
    → MatchResult r (λ (found : WholeHead). (found.head ≡ head) × (found.size ≡ size) × (framing_of head ≡ Body found.body)) (Refuses head at)
    → MatchResult r (λ (found : WholeHead). Stays old new l n × HoldsHead new.held found × (now ≡ before)) (λ (next : Next). Stops next old new l n before now)
judged (Ok found) head size at old new l n before now count stays within e begins h = (stays, head_held new.held size head found begins h.0 h.1 h.2, count)
judged (Err next) head size at old new l n before now count stays within e begins h =
    let whole : head_window new.held ++ drop HEAD_LIMIT new.held ≡ new.held = take-append-drop HEAD_LIMIT new.held in
    let rest : List ℕ = drop size (head_window new.held) in
    let fits = head_fits (head_window new.held) begins.tree rest begins.reads in
    let short : length (print_request begins.tree) ≤ HEAD_LIMIT = omega (arith, fits, length-take HEAD_LIMIT new.held) in
    let reads = subst (λ (bs : List ℕ). ReadsRequest bs begins.tree (rest ++ drop HEAD_LIMIT new.held)) whole (ReadsRequest-append (head_window new.held) begins.tree rest (drop HEAD_LIMIT new.held) begins.reads) in
    let room : ℕ = old.budget - old.given in
    let reason : (bytes left : List ℕ) → ReadsRequest bytes begins.tree left → Reason next old.given room bytes =
    λ bytes left x. subst (λ (p : ℕ). Reason next p room bytes) e (h.reason bytes left begins.tree room x short begins.is) in
    record {
      stays = stays;
      because = record {
        held_so = reason new.held (rest ++ drop HEAD_LIMIT new.held) reads;
        told_so = told_front (Reason next old.given room) (stream old l) n new.held room (room_fits old new l n stays within) stays.bytes
            (λ more. reason (new.held ++ more) ((rest ++ drop HEAD_LIMIT new.held) ++ more) (ReadsRequest-append new.held begins.tree (rest ++ drop HEAD_LIMIT new.held) more reads));
        lacks = no_fault next (LacksRequest new.held) h.fault;
      };
      count = counts_more next before now now count (counts_same next now h.fault);
    }

-- a head with too little behind it
pub body_lacks : (bytes : List ℕ) (found : WholeHead) → HoldsHead bytes found → length bytes < found.size + found.body → IsUnfinished bytes
body_lacks bytes found h lt =
    let fits = head_fits bytes h.tree h.rest h.reads in
    inr (record {
      tree = h.tree;
      rest = h.rest;
      size = found.body;
      reads = h.reads;
      short = omega (arith, h.long, h.short);
      is = ap (λ (x : Head). framing_of x) (sym h.is) ∙ h.framed;
      lacks = omega (arith, fits, h.long, lt);
    })

-- no head in so few bytes
pub head_lacks : (bytes : List ℕ) → length bytes < HEAD_LIMIT → MayHaveHead (head_window bytes) → IsUnfinished bytes
head_lacks bytes lt h = inl (subst MayHaveHead (window_short bytes lt) h, lt)

-- a request is given
pub request_given : (old new : Requests) (found : WholeHead) (body : List ℕ) (left : Option (List ℕ)) → HoldsHead old.held found → found.size + found.body ≤ length old.held → body ≡ take found.body (drop found.size old.held)
    → new ≡ record { held = drop (found.size + found.body) old.held; given = old.given + (found.size + found.body); taken = old.given + (found.size + found.body); budget = old.budget; ended = old.ended }
    → GivesRequest (record { head = found.head; body = body }) old new left left
request_given old new found body left h fits is now =
    let n : ℕ = found.size + found.body in
    let text : List ℕ = take n old.held in
    let front : take found.size old.held ≡ print_request h.tree =
    ap (λ (k : ℕ). take k old.held) h.long ∙ ap (λ (bs : List ℕ). take (length (print_request h.tree)) bs) h.reads.1 ∙ take-append_seam (print_request h.tree) h.rest in
    let parts : text ≡ print_request h.tree ++ body = take-add found.size found.body old.held ∙ (λ i. front i ++ (sym is) i) in
    let rest : new.held ≡ drop n old.held = ap (λ (r : Requests). r.held) now in
    let whole : old.held ≡ text ++ new.held = sym (take-append-drop n old.held) ∙ ap (λ (bs : List ℕ). text ++ bs) (sym rest) in
    let long : length text ≡ n = omega (arith, length-take n old.held, fits) in
    let count : length body ≡ found.body = omega (arith, long, ap length parts, length-append (print_request h.tree) body, h.long) in
    record {
      text = text;
      bytes = consumes_held old.held new.held text left whole;
      is = record {
        tree = h.tree;
        reads = (h.reads.0, parts);
        short = omega (arith, h.long, h.short);
        head = h.is;
        framed = h.framed ∙ ap Body (sym count);
      };
      given = ap (λ (r : Requests). r.given) now ∙ ap (λ (k : ℕ). old.given + k) (sym long);
      taken = ap (λ (r : Requests). r.taken) now ∙ sym (ap (λ (r : Requests). r.given) now);
      budget = ap (λ (r : Requests). r.budget) now;
      ended = ap (λ (r : Requests). r.ended) now;
    }
