-- Heads from the spans of a parser.
use Rattle.std.proofs.Common.{ℕ, ◌+◌, ◌<◌, ◌≤◌, ◌≡◌, ◌==◌, ◌&&◌, nat_eq, nat_le, Bool, true, false, List, [], length, get_or, map, take, drop, refl, sym, ap, ◌∙◌, subst, arith, length-append, Option, Some, None}
use Rattle.std.specs.Prelude.{All, IsUtf8, if◌then◌else◌}
use Rattle.std.proofs.lemmas.Bool.Decides.{nat_tests}
use Rattle.std.specs.Char.{to_ascii_lowercase}
use Rattle.std.proofs.lemmas.List.{length-map, get_or-map, drop_all}
use Rattle.std.proofs.lemmas.List.Elements.{All-weaker, All-map}
use Rattle.std.proofs.lemmas.Simd.{map-map}
use Rattle.http_header.specs.Token as token
use Rattle.http_header.proofs.TokenLemmas.{IsUtf8-from_token, is_token_byte-to_ascii_lowercase}
use Rattle.httparse.specs.Grammar.{Field, IsField, IsToken, is_token_byte, lf, RequestHead, print_request, ReadsRequest}
use Rattle.httparse.proofs.GrammarLemmas.{request_unique}
use Rattle.httparse.specs.Spans.{span_bytes, header_bytes, name_and_value, AreFieldsAt, IsHeaderWithin, IsRequestAt}
use Rattle.httparse.specs.declared.spans.HeaderSpan.{HeaderSpan}
use Rattle.httparse.specs.declared.spans.RequestSpans.{RequestSpans}
use Rattle.sx_http.specs.declared.heads.Header.{Header}
use Rattle.sx_http.specs.declared.heads.Head.{Head}
use Rattle.sx_http.specs.declared.limits.TheConstants.{HEAD_LIMIT, HEADER_LIMIT}
use Rattle.sx_http.specs.Heads.{lower, header_of, head_of, header_at, IsHead, HeadFor, BeginsHead}

-- both crates' tokens are the same
same_byte : (b : ℕ) → is_token_byte b ≡ token.is_token_byte b
unfolding is_token_byte token.is_token_byte
same_byte b = refl

pub token_is : (bs : List ℕ) → IsToken bs → token.IsToken bs
token_is bs h = (h.0, All-weaker (λ b. is_token_byte b ≡ true) (λ b. token.is_token_byte b ≡ true) (λ b t. sym (same_byte b) ∙ t) bs h.1)

-- a token in lower case is a text
pub lower_text : (bs : List ℕ) → IsToken bs → IsUtf8 (lower bs)
lower_text bs h =
    let t = token_is bs h in
    let some : 0 < length (lower bs) = omega (arith, length-map bs to_ascii_lowercase, h.0) in
    IsUtf8-from_token (lower bs) (
      some,
      All-map (λ b. token.is_token_byte b ≡ true) to_ascii_lowercase bs
          (All-weaker (λ b. token.is_token_byte b ≡ true) (λ b. token.is_token_byte (to_ascii_lowercase b) ≡ true) is_token_byte-to_ascii_lowercase bs t.1),
    )

pair_header : List ℕ × List ℕ → Header
pair_header p = record { name = lower p.0; value = p.1 }

-- the headers that spans cover are those of the fields
pub headers_are : (buf : List ℕ) (slots : List HeaderSpan) (n : ℕ) (fields : List Field) → AreFieldsAt buf slots n fields → map (header_at buf) (take n slots) ≡ map header_of fields
unfolding pair_header
headers_are buf slots n fields are =
    sym (map-map pair_header (header_bytes buf) (take n slots)) ∙ ap (map pair_header) are ∙ map-map pair_header name_and_value fields

no_field : Field
no_field = record { name = []; raw = []; end = lf }

-- the names that spans cover are tokens
pub names_are : (buf : List ℕ) (slots : List HeaderSpan) (n : ℕ) (fields : List Field) → All IsField fields → AreFieldsAt buf slots n fields → All (λ (span : HeaderSpan). IsToken (span_bytes buf span.name)) (take n slots)
names_are buf slots n fields ok are k d lt =
    let xs : List HeaderSpan = take n slots in
    let sizes : length xs ≡ length fields = sym (length-map xs (header_bytes buf)) ∙ ap length are ∙ length-map fields name_and_value in
    let less : k < length fields = omega (arith, sizes, lt) in
    let pair : header_bytes buf (get_or xs k d) ≡ name_and_value (get_or fields k no_field) =
    sym (get_or-map (header_bytes buf) xs k d ([], []) lt) ∙ ap (λ (ps : List (List ℕ × List ℕ)). get_or ps k ([], [])) are ∙ get_or-map name_and_value fields k no_field ([], []) less in
    subst (λ (p : List ℕ × List ℕ). IsToken p.0) (sym pair) ((ok k no_field less).name)

-- the head that spans cover
pub head_is : (buf : List ℕ) (slots : List HeaderSpan) (r : RequestSpans) (tree : RequestHead) → IsRequestAt buf slots r tree → record { method = span_bytes buf r.method; target = span_bytes buf r.path; v11 = r.version == 1; headers = map (header_at buf) (take r.headers slots) } ≡ head_of tree
head_is buf slots r tree at =
    let headers = headers_are buf slots r.headers tree.fields at.fields in
    λ i. record { method = at.method i; target = at.path i; v11 = at.version i == 1; headers = headers i }

-- each span of a head lies in the bytes
pub headers_within : (n : ℕ) (slots : List HeaderSpan) (len : ℕ) → len ≤ n → All (IsHeaderWithin len) slots → All (IsHeaderWithin n) slots
headers_within n slots len le h = All-weaker (IsHeaderWithin len) (IsHeaderWithin n) (λ span w. ((w.0.0, omega (arith, le, w.0.1)), (w.1.0, omega (arith, le, w.1.1)))) slots h

-- two heads of the same parts
pub same_head : (m m' t t' : List ℕ) (v : Bool) (hs hs' : List Header) → m ≡ m' → t ≡ t' → hs ≡ hs' → ◌≡◌ {A = Head} (record { method = m; target = t; v11 = v; headers = hs }) (record { method = m'; target = t'; v11 = v; headers = hs' })
same_head m m' t t' v hs hs' a b c = λ i. record { method = a i; target = b i; v11 = v; headers = c i }

-- a text is made of bytes that are UTF-8
pub is_text : (test : Bool) (bytes : List ℕ) → test ≡ true → ◌≡◌ {A = Option (List ℕ)} None (if test then Some bytes else None) → ⊥
is_text true bytes e h = cc
is_text false bytes e h = cc

-- a head is at most as long as the bytes at whose front it stands
pub head_fits : (bytes : List ℕ) (tree : RequestHead) (rest : List ℕ) → ReadsRequest bytes tree rest → length bytes ≡ length (print_request tree) + length rest
head_fits bytes tree rest reads = ap length reads.1 ∙ length-append (print_request tree) rest

is_one : (bytes : List ℕ) (size : ℕ) (head : Head) → length bytes ≤ HEAD_LIMIT → BeginsHead bytes size head → nat_eq size (length bytes) && nat_le (length head.headers) HEADER_LIMIT ≡ true → IsHead bytes head
is_one bytes size head short begins test =
    let all : size ≡ length bytes = grind (arith, nat_tests) in
    let few : length head.headers ≤ HEADER_LIMIT = grind (arith, nat_tests) in
    let count : length head.headers ≡ length begins.tree.fields = ap (λ (h : Head). length h.headers) begins.is ∙ length-map begins.tree.fields header_of in
    record {
      tree = begins.tree;
      reads = subst (ReadsRequest bytes begins.tree) (drop_all size bytes (omega (arith, all))) begins.reads;
      short = short;
      few = omega (arith, count, few);
      is = begins.is;
    }

is_none : (bytes : List ℕ) (size : ℕ) (head other : Head) → BeginsHead bytes size head → nat_eq size (length bytes) && nat_le (length head.headers) HEADER_LIMIT ≡ false → ¬ (IsHead bytes other)
is_none bytes size head other begins test is =
    let same = request_unique bytes begins.tree is.tree (drop size bytes) [] begins.reads is.reads in
    let whole = head_fits bytes is.tree [] is.reads in
    let long : length (print_request begins.tree) ≡ length (print_request is.tree) = ap (λ (t : RequestHead). length (print_request t)) same.0 in
    let count : length head.headers ≡ length is.tree.fields = ap (λ (h : Head). length h.headers) begins.is ∙ length-map begins.tree.fields header_of ∙ ap (λ (t : RequestHead). length t.fields) same.0 in
    let few = is.few in
    let size_is = begins.long in
    grind (arith, nat_tests)

-- the head that was parsed, where it is all of the bytes and within its limits
pub head_for : (bytes : List ℕ) (head : Head) (size : ℕ) (r : Option Head) → length bytes ≤ HEAD_LIMIT → BeginsHead bytes size head → r ≡ (if nat_eq size (length bytes) && nat_le (length head.headers) HEADER_LIMIT then Some head else None) → HeadFor bytes r
head_for bytes head size r short begins e =
    let test : Bool = nat_eq size (length bytes) && nat_le (length head.headers) HEADER_LIMIT in
    subst (HeadFor bytes) (sym e)
    (elim test as (λ b. test ≡ b → HeadFor bytes (if b then Some head else None)) [
      | true ↦ λ h. is_one bytes size head short begins h
      | false ↦ λ h other is. is_none bytes size head other begins h is
    ] refl)
