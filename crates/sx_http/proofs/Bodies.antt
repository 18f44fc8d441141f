-- A request whose body was read into its own place.
use Rattle.std.proofs.Common.{ℕ, ◌+◌, ◌-◌, ◌<◌, ◌≤◌, ◌≡◌, inl, inr, List, [], ◌∷◌, ◌++◌, length, take, drop, refl, sym, ap, ◌∙◌, subst, arith, append_assoc, length-append, length-take}
use Rattle.std.specs.Prelude.{◌≢◌, min}
use Rattle.std.specs.declared.option.Option.{Option}
use Rattle.std.specs.Io.KnownBytes.{Keeps, Consumes, IsAtEnd}
use Rattle.std.proofs.Math.Seq.{drop-append_seam}
use Rattle.std.proofs.lemmas.List.{length-drop, take_all, take-append-drop}
use Rattle.httparse.specs.Grammar.{print_request, ReadsRequest}
use Rattle.httparse.proofs.GrammarLemmas.{ReadsRequest-append}
use Rattle.sx_http.specs.declared.limits.TheConstants.{HEAD_LIMIT}
use Rattle.sx_http.specs.Framing.{framing_of}
use Rattle.sx_http.specs.Readers.{Requests}
use Rattle.sx_http.specs.RequestStream.{stream, IsRequest, IsAnswer, Because, Counts, GivesRequest, GivesNone, IsUnfinished, LacksBody, LacksRequest, Reason}
use Rattle.sx_http.specs.Filling.{Stays, Stops, HoldsHead, FillsBehind, StopsFor, body_stop, finished_reader}
use Rattle.sx_http.specs.declared.heads.Head.{Head}
use Rattle.sx_http.specs.declared.heads.Request.{Request}
use Rattle.sx_http.specs.declared.framing.Framing.TheVariants.{Body}
use Rattle.sx_http.specs.declared.judging.WholeHead.{WholeHead}
use Rattle.sx_http.specs.declared.body.Stop.{Stop}
use Rattle.sx_http.specs.declared.body.Stop.TheVariants.{Full, End as AtEnd, ReadFault as Failed}
use Rattle.sx_http.specs.declared.next.Next.{Next}
use Rattle.sx_http.specs.declared.next.Next.TheVariants.{Whole, Cut, Spent, ReadFault}
use Rattle.sx_http.proofs.HeadLemmas.{head_fits}
use Rattle.sx_http.proofs.Exclusion.{head_some}
use Rattle.sx_http.proofs.Answering.{keeps_read, consumes_read, told_full, told_end, told_any, stops_answer}

-- what stands behind a head
rest_is : (held : List ℕ) (found : WholeHead) (h : HoldsHead held found) → drop found.size held ≡ h.rest
rest_is held found h =
    ap (λ (k : ℕ). drop k held) h.long ∙ ap (λ (bs : List ℕ). drop (length (print_request h.tree)) bs) h.reads.1 ∙ drop-append_seam (print_request h.tree) h.rest

pub size_fits : (held : List ℕ) (found : WholeHead) → HoldsHead held found → found.size ≤ length held
size_fits held found h = let fits = head_fits held h.tree h.rest h.reads in omega (arith, fits, h.long)

-- a body whose first bytes are held and whose others were read
module _ (old : Requests) (found : WholeHead) (body : List ℕ) (l n : Option (List ℕ)) (h : HoldsHead old.held found) (begun : take (length old.held - found.size) body ≡ drop found.size old.held) where
  abbrev read : List ℕ
  read = drop (length old.held - found.size) body

  body_is : h.rest ++ read ≡ body
  body_is = ap (λ (bs : List ℕ). bs ++ read) (sym (begun ∙ rest_is old.held found h)) ∙ take-append-drop (length old.held - found.size) body

  pub read_request : length body ≡ found.body → IsRequest (old.held ++ read) (record { head = found.head; body = body })
  read_request size = record {
    tree = h.tree;
    reads = subst (ReadsRequest (old.held ++ read) h.tree) body_is (ReadsRequest-append old.held h.tree h.rest read h.reads);
    short = omega (arith, h.long, h.short);
    head = h.is;
    framed = h.framed ∙ ap Body (sym size);
  }

  text_size : length old.held - found.size ≤ length body → length (old.held ++ read) ≡ found.size + length body
  text_size le =
      let a = length-append old.held read in
      let b : length read ≡ length body - (length old.held - found.size) = length-drop (length old.held - found.size) body in
      let c = size_fits old.held found h in
      omega (arith, a, b, c, le)

  -- the request is given
  pub given_read : (new : Requests) → length body ≡ found.body → length old.held - found.size ≤ length body → Consumes l n read
      → new ≡ record { held = []; given = old.given + (found.size + length body); taken = old.given + (found.size + length body); budget = old.budget; ended = old.ended }
      → GivesRequest (record { head = found.head; body = body }) old new l n
  given_read new size le took now = record {
    text = old.held ++ read;
    bytes = subst (λ (r : Requests). Consumes (stream old l) (stream r n) (old.held ++ read)) (sym now) (consumes_read old.held read l n took);
    is = read_request size;
    given = ap (λ (r : Requests). r.given) now ∙ ap (λ (k : ℕ). old.given + k) (sym (text_size le));
    taken = ap (λ (r : Requests). r.taken) now ∙ sym (ap (λ (r : Requests). r.given) now);
    budget = ap (λ (r : Requests). r.budget) now;
    ended = ap (λ (r : Requests). r.ended) now;
  }

  lacks_body : length body < found.body → LacksBody (old.held ++ read)
  lacks_body lt = record {
    tree = h.tree;
    rest = h.rest ++ read;
    size = found.body;
    reads = ReadsRequest-append old.held h.tree h.rest read h.reads;
    short = omega (arith, h.long, h.short);
    is = ap (λ (x : Head). framing_of x) (sym h.is) ∙ h.framed;
    lacks = omega (arith, ap length body_is, lt);
  }

  -- the body isn't whole
  pub broken : (stop : Stop) (size before now : ℕ) → length body < found.body → length old.held - found.size ≤ length body → Consumes l n read
      → size ≤ old.budget - old.given - found.size → (size < found.body → size ≡ old.budget - old.given - found.size) → size ≤ found.body → found.size ≤ old.budget - old.given → StopsFor stop (length body) size n before now
      → Stops (body_stop stop (found.size + length body)) old (record { held = old.held ++ read; given = old.given; taken = old.taken; budget = old.budget; ended = old.ended }) l n before now
  broken Full size before now lt le took few all most fits (full, same) =
      let room : ℕ = old.budget - old.given in
      let long : length (old.held ++ read) ≡ room = omega (arith, text_size le, full, all (omega (arith, full, lt)), fits) in
      let so : Reason Spent old.given room (old.held ++ read) = (long, inr (lacks_body lt)) in
      record {
        stays = record { bytes = keeps_read old.held read l n took; rest = refl };
        because = record { held_so = so; told_so = told_full (Reason Spent old.given room) (stream old l) n (old.held ++ read) room long (keeps_read old.held read l n took) so; lacks = tt };
        count = same;
      }
  broken AtEnd size before now lt le took few all most fits (less, end, same) =
      let room : ℕ = old.budget - old.given in
      let some = head_some old.held h.tree h.rest h.reads in
      let long = text_size le in
      let left : ℕ = found.size + length body in
      let so : Reason (Cut left) old.given room (old.held ++ read) = (long, omega (arith, long, length-append old.held read, some), omega (arith, less, few, fits), inr (lacks_body lt)) in
      record {
        stays = record { bytes = keeps_read old.held read l n took; rest = refl };
        because = record { held_so = so; told_so = told_end (Reason (Cut left) old.given room) (stream old l) n (old.held ++ read) room (omega (arith, long, less, few, fits)) (keeps_read old.held read l n took) end so; lacks = tt };
        count = same;
      }
  broken Failed size before now lt le took few all most fits (less, rose) = record {
    stays = record { bytes = keeps_read old.held read l n took; rest = refl };
    because = record { held_so = tt; told_so = told_any (λ _. Unit {0}) (stream old l) (λ _. tt); lacks = inr (lacks_body lt) };
    count = rose;
  }
