-- Reasons exclude each other, and where a request stands there is none.
use Rattle.std.proofs.Common.{ℕ, zero, suc, ◌+◌, ◌-◌, ◌<◌, ◌≤◌, ◌≡◌, nat_le, Bool, true, false, ◌⊎◌, inl, inr, List, [], ◌∷◌, ◌++◌, length, take, drop, refl, sym, ap, ◌∙◌, subst, arith, length-append, codes}
use Rattle.std.specs.Prelude.{if◌then◌else◌, nat_lt, IsUtf8}
use Rattle.std.specs.List.{list_all}
use Rattle.std.proofs.Math.Seq.{take-add, take-append_seam, drop-append_seam}
use Rattle.std.proofs.lemmas.Bool.Decides.{nat_tests}
use Rattle.std.proofs.lemmas.List.Elements.{All-nil, All-cons}
use Rattle.std.proofs.lemmas.Str.{IsUtf8-from_ascii}
use Rattle.std.proofs.lemmas.Str.Ascii.{IsAscii-from_all}
use Rattle.std.proofs.lemmas.List.Sums.{AllPass-from_list_all}
use Rattle.httparse.specs.Grammar.{lf, IsField, is_token_byte, is_uri_byte, RequestHead, print_request, ReadsRequest, HasNoRequest, NeverHasRequest, MayBecomeRequest}
use Rattle.httparse.proofs.GrammarLemmas.{request_unique, ReadsRequest-append}
use Rattle.sx_http.specs.declared.limits.TheConstants.{HEAD_LIMIT}
use Rattle.sx_http.specs.Heads.{head_of, head_window, MayHaveHead}
use Rattle.sx_http.specs.Framing.{framing_of}
use Rattle.sx_http.specs.Facts.{facts_of, no_facts}
use Rattle.sx_http.specs.RequestStream.{IsRequest, Reason, BeginsFramed, LacksBody, IsUnfinished}
use Rattle.sx_http.specs.Laws.{IsOfBytes, EndsInBadTarget, ReasonsAreDetermined, RequestsHaveNoReason}
use Rattle.sx_http.specs.Judging.{ended_with}
use Rattle.sx_http.specs.declared.heads.Request.{Request}
use Rattle.sx_http.specs.declared.facts.HeadFacts.{HeadFacts}
use Rattle.sx_http.specs.declared.framing.Framing.{Framing}
use Rattle.sx_http.specs.declared.framing.Framing.TheVariants.{Body, TooManyHeaders, NoLength, BadLength, LongBody}
use Rattle.sx_http.specs.declared.next.Long.TheVariants.{Head as OfHead, Headers as OfHeaders, Body as OfBody}
use Rattle.sx_http.specs.declared.next.Next.{Next}
use Rattle.sx_http.specs.declared.next.Next.TheVariants.{Whole, End, Cut, BadHead, NoLength as LacksLength, BadLength as HasBadLength, TooLong, Spent, ReadFault, NoMemory}
use Rattle.sx_http.proofs.RoomLemmas.{head_three}
use Rattle.sx_http.proofs.Windows.{window_short}

-- what stands at the front of bytes: no head ever, one that may yet come, or a whole one
data Standing : Type 0 where
  never maybe : Standing
  whole : Framing → HeadFacts → Standing

abbrev Stands : Standing → List ℕ → Type 0
Stands never front = NeverHasRequest (head_window front)
Stands maybe front = MayHaveHead (head_window front)
Stands (whole framed facts) front = BeginsFramed front framed facts

-- the answer where a request isn't whole, by the room and the number of bytes
unfinished : ℕ → ℕ → Next
unfinished room n = if nat_le room n then Spent else ended_with n

-- the answer by what stands there
told : Standing → ℕ → ℕ → ℕ → Next
told never at room n = BadHead at
told maybe at room n = if nat_le HEAD_LIMIT n then TooLong at OfHead HEAD_LIMIT no_facts else unfinished room n
told (whole (Body size) facts) at room n = unfinished room n
told (whole (TooManyHeaders k) facts) at room n = TooLong at OfHeaders k facts
told (whole NoLength facts) at room n = LacksLength at facts
told (whole BadLength facts) at room n = HasBadLength at facts
told (whole (LongBody k) facts) at room n = TooLong at OfBody k facts

-- a head has a byte
pub head_some : (bytes : List ℕ) (tree : RequestHead) (rest : List ℕ) → ReadsRequest bytes tree rest → 0 < length bytes
head_some bytes tree rest reads =
    let size : length bytes ≡ length (print_request tree) + length rest = ap length reads.1 ∙ length-append (print_request tree) rest in
    let least = head_three tree reads.0.fields in
    omega (arith, size, least)

least_head : RequestHead
least_head = record { blank = []; method = codes "A"; target = codes "/"; minor = 0; line_end = lf; fields = []; last = lf }

small : (b : ℕ) → nat_lt b 128 ≡ true → b < 128
small b e = grind (arith, nat_tests)

slash : IsUtf8 (codes "/")
slash = IsUtf8-from_ascii (codes "/") (IsAscii-from_all (codes "/") (λ k d lt. small _ (AllPass-from_list_all (λ b. nat_lt b 128) (codes "/") refl k d lt)))

least_reads : ReadsRequest (print_request least_head ++ []) least_head []
unfolding is_token_byte least_head
least_reads = (
  record {
    method = (omega arith, AllPass-from_list_all is_token_byte (codes "A") refl);
    target = (omega arith, AllPass-from_list_all is_uri_byte (codes "/") refl);
    target_text = slash;
    minor = omega arith;
    fields = All-nil IsField;
  },
  refl,
)

-- no byte: no head, and one may yet come
empty_may : MayHaveHead []
empty_may = (
  λ tree rest reads. let some = head_some [] tree rest reads in omega (arith, some),
  inl (print_request least_head ++ [], least_head, least_reads),
)

-- a head within its limit stands in the window
in_window : (front : List ℕ) (tree : RequestHead) (rest : List ℕ) → ReadsRequest front tree rest → length (print_request tree) ≤ HEAD_LIMIT
    → ReadsRequest (head_window front) tree (take (HEAD_LIMIT - length (print_request tree)) rest)
in_window front tree rest reads short =
    let text = print_request tree in
    let more : ℕ = HEAD_LIMIT - length text in
    let sum : HEAD_LIMIT ≡ length text + more = omega (arith, short) in
    let first : take (length text) front ≡ text = ap (take (length text)) reads.1 ∙ take-append_seam text rest in
    let last : drop (length text) front ≡ rest = ap (drop (length text)) reads.1 ∙ drop-append_seam text rest in
    (reads.0, ap (λ (k : ℕ). take k front) sum ∙ take-add (length text) more front ∙ (λ i. first i ++ take more (last i)))

-- where a whole head stands, there is none of the other two
not_never : (front : List ℕ) (framed : Framing) (facts : HeadFacts) → BeginsFramed front framed facts → ¬ (NeverHasRequest (head_window front))
not_never front framed facts b h =
    h [] b.tree (take (HEAD_LIMIT - length (print_request b.tree)) b.rest ++ [])
    (ReadsRequest-append (head_window front) b.tree (take (HEAD_LIMIT - length (print_request b.tree)) b.rest) [] (in_window front b.tree b.rest b.reads b.short))

not_maybe : (front : List ℕ) (framed : Framing) (facts : HeadFacts) → BeginsFramed front framed facts → ¬ (MayHaveHead (head_window front))
not_maybe front framed facts b h = h.0 b.tree (take (HEAD_LIMIT - length (print_request b.tree)) b.rest) (in_window front b.tree b.rest b.reads b.short)

one_framing : (front : List ℕ) (f g : Framing) (u v : HeadFacts) → BeginsFramed front f u → BeginsFramed front g v → (f ≡ g) × (u ≡ v)
one_framing front f g u v a b =
    let same = request_unique front a.tree b.tree a.rest b.rest a.reads b.reads in (
      sym a.is ∙ ap (λ (t : RequestHead). framing_of (head_of t)) same.0 ∙ b.is,
      a.told ∙ ap (λ (t : RequestHead). facts_of (head_of t)) same.0 ∙ sym b.told,
    )

bad_target : (front : List ℕ) → NeverHasRequest (head_window front) → MayHaveHead (head_window front) → EndsInBadTarget front
bad_target front h (none, inl (more, tree, reads)) = absurd (h more tree [] reads)
bad_target front h (none, inr ends) = (h, ends)

one_standing : (s t : Standing) (front : List ℕ) → Stands s front → Stands t front → (s ≡ t) ⊎ EndsInBadTarget front
one_standing never never front h k = inl refl
one_standing never maybe front h k = inr (bad_target front h k)
one_standing never (whole f u) front h k = absurd (not_never front f u k h)
one_standing maybe never front h k = inr (bad_target front k h)
one_standing maybe maybe front h k = inl refl
one_standing maybe (whole f u) front h k = absurd (not_maybe front f u k h)
one_standing (whole f u) never front h k = absurd (not_never front f u h k)
one_standing (whole f u) maybe front h k = absurd (not_maybe front f u h k)
one_standing (whole f u) (whole g v) front h k = let e = one_framing front f g u v h k in inl (λ i. whole (e.0 i) (e.1 i))

-- what stands there by a reason
abbrev Found : Next → ℕ → ℕ → List ℕ → Type 0
Found next at room front = (s : Standing) × Stands s front × (next ≡ told s at room (length front))

not_le : (m n : ℕ) → n < m → nat_le m n ≡ false
not_le m n h = grind (arith, nat_tests)

is_le : (m n : ℕ) → m ≤ n → nat_le m n ≡ true
is_le m n h = grind (arith, nat_tests)

cut_told : (left room n : ℕ) → n ≡ left → 1 ≤ left → left < room → Cut left ≡ unfinished room n
unfolding unfinished
cut_told zero room n e some less = absurd (let no : ⊥ = omega (arith, some) in no)
cut_told (suc k) room n e some less = rw (not_le room n (omega (arith, e, less)), e) refl

spent_told : (room n : ℕ) → n ≡ room → Spent ≡ unfinished room n
unfolding unfinished
spent_told room n e = rw (is_le room n (omega (arith, e))) refl

maybe_told : (next : Next) (at room n : ℕ) → n < HEAD_LIMIT → next ≡ unfinished room n → next ≡ told maybe at room n
unfolding told
maybe_told next at room n lt e = rw (not_le HEAD_LIMIT n lt) e

unfinished_found : (next : Next) (at room : ℕ) (front : List ℕ) → IsUnfinished front → next ≡ unfinished room (length front) → Found next at room front
unfolding told
unfinished_found next at room front (inl (h, lt)) e = (maybe, subst MayHaveHead (sym (window_short front lt)) h, maybe_told next at room (length front) lt e)
unfinished_found next at room front (inr l) e =
    (whole (Body l.size) (facts_of (head_of l.tree)), record { tree = l.tree; rest = l.rest; reads = l.reads; short = l.short; is = l.is; told = refl }, e)

found : (next : Next) (at room : ℕ) (front : List ℕ) → IsOfBytes next → Reason next at room front → Found next at room front
unfolding told unfinished
found (Whole request) at room front of r = absurd r
found End at room front of (none, some) =
    let short : length front ≡ 0 = ap length none in
    let first : End ≡ unfinished room (length front) = rw (short, not_le room 0 some) refl in
    (maybe, subst (λ bs. MayHaveHead (head_window bs)) (sym none) empty_may, maybe_told End at room (length front) (omega (arith, short)) first)
found (Cut left) at room front of (size, some, less, open') = unfinished_found (Cut left) at room front open' (cut_told left room (length front) size some less)
found (BadHead place) at room front of (e, h) = (never, h, ap BadHead e)
found (TooLong place OfHead n facts) at room front of (e, size, none, long, h) =
    (maybe, h, rw (is_le HEAD_LIMIT (length front) long) (λ i. TooLong (e i) OfHead (size i) (none i)))
found (TooLong place OfHeaders n facts) at room front of (e, b) = (whole (TooManyHeaders n) facts, b, ap (λ (p : ℕ). TooLong p OfHeaders n facts) e)
found (LacksLength place facts) at room front of (e, b) = (whole NoLength facts, b, ap (λ (p : ℕ). LacksLength p facts) e)
found (HasBadLength place facts) at room front of (e, b) = (whole BadLength facts, b, ap (λ (p : ℕ). HasBadLength p facts) e)
found (TooLong place OfBody n facts) at room front of (e, b) = (whole (LongBody n) facts, b, ap (λ (p : ℕ). TooLong p OfBody n facts) e)
found Spent at room front of (size, open') = unfinished_found Spent at room front open' (spent_told room (length front) size)
found ReadFault at room front of r = absurd of
found NoMemory at room front of r = absurd of

one_answer : (a b : Next) (s t : Standing) (at room : ℕ) (front : List ℕ) → a ≡ told s at room (length front) → b ≡ told t at room (length front)
    → (s ≡ t) ⊎ EndsInBadTarget front → (a ≡ b) ⊎ EndsInBadTarget front
one_answer a b s t at room front h k (inl e) = inl (h ∙ ap (λ (u : Standing). told u at room (length front)) e ∙ sym k)
one_answer a b s t at room front h k (inr ends) = inr ends

pub reasons_determined : ReasonsAreDetermined
reasons_determined a b at room front of also r q =
    let x = found a at room front of r in
    let y = found b at room front also q in
    one_answer a b x.0 y.0 at room front x.2 y.2 (one_standing x.0 y.0 front x.1 y.1)

-- the head of a request, and what stands behind it
framed_request : (request : Request) (text more : List ℕ) → IsRequest text request → BeginsFramed (text ++ more) (Body (length request.body)) (facts_of request.head)
framed_request request text more r = record {
  tree = r.tree;
  rest = request.body ++ more;
  reads = ReadsRequest-append text r.tree request.body more r.reads;
  short = r.short;
  is = ap framing_of (sym r.head) ∙ r.framed;
  told = ap facts_of r.head;
}

body_size : Framing → ℕ
body_size (Body n) = n
body_size (TooManyHeaders n) = 0
body_size NoLength = 0
body_size BadLength = 0
body_size (LongBody n) = 0

is_body : Framing → Bool
is_body (Body n) = true
is_body (TooManyHeaders n) = false
is_body NoLength = false
is_body BadLength = false
is_body (LongBody n) = false

true_false : true ≡ false → ⊥
true_false e = cc

not_lacking : (request : Request) (text more : List ℕ) → IsRequest text request → ¬ (LacksBody (text ++ more))
unfolding body_size framed_request
not_lacking request text more r l =
    let f = framed_request request text more r in
    let same = request_unique (text ++ more) l.tree f.tree l.rest f.rest l.reads f.reads in
    let size : l.size ≡ length request.body = ap body_size (sym l.is ∙ ap (λ (t : RequestHead). framing_of (head_of t)) same.0 ∙ f.is) in
    let left : length l.rest ≡ length request.body + length more = ap length same.1 ∙ length-append request.body more in
    let lacks = l.lacks in
    omega (arith, size, left, lacks)

not_unfinished : (request : Request) (text more : List ℕ) → IsRequest text request → ¬ (IsUnfinished (text ++ more))
not_unfinished request text more r (inl (h, lt)) =
    let f = framed_request request text more r in
    h.0 f.tree f.rest f.reads
not_unfinished request text more r (inr l) = not_lacking request text more r l

other_framing : (request : Request) (text more : List ℕ) (g : Framing) (v : HeadFacts) → IsRequest text request → is_body g ≡ false → ¬ (BeginsFramed (text ++ more) g v)
unfolding is_body
other_framing request text more g v r e b =
    let f = framed_request request text more r in
    let same = one_framing (text ++ more) (Body (length request.body)) g (facts_of request.head) v f b in
    true_false (ap is_body same.0 ∙ e)

no_reason : (request : Request) (next : Next) (at room : ℕ) (text more : List ℕ) → IsRequest text request → IsOfBytes next → ¬ (Reason next at room (text ++ more))
unfolding is_body
no_reason request (Whole other) at room text more r of q = q
no_reason request End at room text more r of (none, some) =
    let f = framed_request request text more r in
    let has = head_some (text ++ more) f.tree f.rest f.reads in
    omega (arith, has, ap length none)
no_reason request (Cut left) at room text more r of (size, some, less, open') = not_unfinished request text more r open'
no_reason request (BadHead place) at room text more r of (e, h) = not_never (text ++ more) (Body (length request.body)) (facts_of request.head) (framed_request request text more r) h
no_reason request (TooLong place OfHead n facts) at room text more r of (e, size, none, long, h) =
    not_maybe (text ++ more) (Body (length request.body)) (facts_of request.head) (framed_request request text more r) h
no_reason request (TooLong place OfHeaders n facts) at room text more r of (e, b) = other_framing request text more (TooManyHeaders n) facts r refl b
no_reason request (LacksLength place facts) at room text more r of (e, b) = other_framing request text more NoLength facts r refl b
no_reason request (HasBadLength place facts) at room text more r of (e, b) = other_framing request text more BadLength facts r refl b
no_reason request (TooLong place OfBody n facts) at room text more r of (e, b) = other_framing request text more (LongBody n) facts r refl b
no_reason request Spent at room text more r of (size, open') = not_unfinished request text more r open'
no_reason request ReadFault at room text more r of q = of
no_reason request NoMemory at room text more r of q = of

pub requests_have_none : RequestsHaveNoReason
requests_have_none request next at room text rest r fits of q =
    let more : List ℕ = take (room - length text) rest in
    let sum : room ≡ length text + (room - length text) = omega (arith, fits) in
    let first : take (length text) (text ++ rest) ≡ text = take-append_seam text rest in
    let last : drop (length text) (text ++ rest) ≡ rest = drop-append_seam text rest in
    let front : take room (text ++ rest) ≡ text ++ more =
    ap (λ (k : ℕ). take k (text ++ rest)) sum ∙ take-add (length text) (room - length text) (text ++ rest) ∙ (λ i. first i ++ take (room - length text) (last i)) in
    no_reason request next at room text more r of (subst (Reason next at room) front q)
