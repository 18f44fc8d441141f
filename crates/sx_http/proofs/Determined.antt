-- At most one head, and at most one request, begins at a place.
use Rattle.std.proofs.Common.{ℕ, ◌≡◌, List, [], ◌++◌, length, take, sym, ap, ◌∙◌, subst}
use Rattle.std.proofs.Math.Seq.{take-append_seam}
use Rattle.httparse.specs.Grammar.{RequestHead, print_request, ReadsRequest}
use Rattle.httparse.proofs.GrammarLemmas.{request_unique, ReadsRequest-append}
use Rattle.sx_http.specs.Heads.{head_of, IsHead}
use Rattle.sx_http.specs.Framing.{framing_of}
use Rattle.sx_http.specs.RequestStream.{IsRequest}
use Rattle.sx_http.specs.declared.heads.Head.{Head}
use Rattle.sx_http.specs.declared.heads.Request.{Request}
use Rattle.sx_http.specs.declared.framing.Framing.{Framing}
use Rattle.sx_http.specs.declared.framing.Framing.TheVariants.{Body, TooManyHeaders, NoLength, BadLength, LongBody}

body_size : Framing → ℕ
body_size (Body n) = n
body_size (TooManyHeaders n) = 0
body_size NoLength = 0
body_size BadLength = 0
body_size (LongBody n) = 0

same_size : (m n : ℕ) → Body m ≡ Body n → m ≡ n
unfolding body_size
same_size m n e = ap body_size e

-- lists of one length that begin one list
same_front : (xs ys rest more : List ℕ) → length xs ≡ length ys → xs ++ rest ≡ ys ++ more → xs ≡ ys
same_front xs ys rest more size e =
    sym (take-append_seam xs rest) ∙ ap (λ (zs : List ℕ). take (length xs) zs) e ∙ ap (λ (n : ℕ). take n (ys ++ more)) size ∙ take-append_seam ys more

pub determined : (a b : Request) (text other rest more : List ℕ) → IsRequest text a → IsRequest other b → text ++ rest ≡ other ++ more → (text ≡ other) × (a ≡ b)
determined a b text other rest more x y e =
    let mine = ReadsRequest-append text x.tree a.body rest x.reads in
    let yours = subst (λ (bs : List ℕ). ReadsRequest bs y.tree (b.body ++ more)) (sym e) (ReadsRequest-append other y.tree b.body more y.reads) in
    let same = request_unique (text ++ rest) x.tree y.tree (a.body ++ rest) (b.body ++ more) mine yours in
    let head : a.head ≡ b.head = x.head ∙ ap (λ (t : RequestHead). head_of t) same.0 ∙ sym y.head in
    let size : length a.body ≡ length b.body = same_size (length a.body) (length b.body) (sym x.framed ∙ ap (λ (h : Head). framing_of h) head ∙ y.framed) in
    let body : a.body ≡ b.body = same_front a.body b.body rest more size same.1 in
    let front : print_request x.tree ≡ print_request y.tree = ap (λ (t : RequestHead). print_request t) same.0 in
    (x.reads.1 ∙ (λ i. front i ++ body i) ∙ sym y.reads.1, λ i. record { head = head i; body = body i })

pub heads_determined : (a b : Head) (text other rest more : List ℕ) → IsHead text a → IsHead other b → text ++ rest ≡ other ++ more → (text ≡ other) × (a ≡ b)
heads_determined a b text other rest more x y e =
    let mine = ReadsRequest-append text x.tree [] rest x.reads in
    let yours = subst (λ (bs : List ℕ). ReadsRequest bs y.tree ([] ++ more)) (sym e) (ReadsRequest-append other y.tree [] more y.reads) in
    let same = request_unique (text ++ rest) x.tree y.tree ([] ++ rest) ([] ++ more) mine yours in
    (x.reads.1 ∙ ap (λ (t : RequestHead). print_request t ++ []) same.0 ∙ sym y.reads.1, x.is ∙ ap (λ (t : RequestHead). head_of t) same.0 ∙ sym y.is)
