-- A head ends with a line feed.
use Rattle.std.proofs.Common.{ℕ, suc, ◌+◌, ◌-◌, ◌<◌, ◌≤◌, ◌≡◌, ◌==◌, ◌||◌, Bool, true, false, inl, inr, List, [], ◌∷◌, ◌++◌, length, take, drop, refl, sym, ap, ◌∙◌, subst, arith, append_assoc, length-append}
use Rattle.std.specs.List.{flat_map, list_any}
use Rattle.std.proofs.Math.Seq.{take-append_seam}
use Rattle.std.proofs.lemmas.Bool.{cases_lt}
use Rattle.std.proofs.lemmas.List.{take-append-le, take-append-drop, append-nil, take_all}
use Rattle.httparse.specs.Grammar.{LineEnd, crlf, lf, print_end, print_blank, print_field, print_version, print_section, RequestHead, print_request, ReadsRequest, HasNoRequest}
use Rattle.httparse.proofs.GrammarLemmas.{print_request-append}
use Rattle.sx_http.specs.Filling.{is_line_feed}

-- the bytes end with a line feed
abbrev Ends : List ℕ → Type 0
Ends bytes = (front : List ℕ) × (bytes ≡ front ++ 10 ∷ [])

behind : (a b : List ℕ) → Ends b → Ends (a ++ b)
behind a b (front, e) = (a ++ front, ap (λ (bs : List ℕ). a ++ bs) e ∙ sym (append_assoc a front (10 ∷ [])))

next : (b : ℕ) (bytes : List ℕ) → Ends bytes → Ends (b ∷ bytes)
next b bytes (front, e) = (b ∷ front, ap (λ (bs : List ℕ). b ∷ bs) e)

end_ends : (e : LineEnd) → Ends (print_end e)
end_ends crlf = (13 ∷ [], refl)
end_ends lf = ([], refl)

head_ends : (h : RequestHead) → Ends (print_request h)
head_ends h =
    let section : Ends (print_section h.fields h.last ++ []) = subst Ends (sym (append-nil (print_section h.fields h.last))) (behind (flat_map print_field h.fields) (print_end h.last) (end_ends h.last)) in
    let version = behind (print_version h.minor) _ (behind (print_end h.line_end) _ section) in
    let whole = behind (print_blank h.blank) _ (behind h.method _ (next 32 _ (behind h.target _ (next 32 _ version)))) in
    subst Ends (sym (print_request-append h []) ∙ append-nil (print_request h)) whole

any_back : (front rest : List ℕ) → list_any is_line_feed (front ++ 10 ∷ rest) ≡ true
any_back [] rest = refl
any_back (b ∷ front) rest = or_true (is_line_feed b) (list_any is_line_feed (front ++ 10 ∷ rest)) (any_back front rest)
  where
    or_true : (a b : Bool) → b ≡ true → (a || b) ≡ true
    or_true true b e = refl
    or_true false b e = e

differ : true ≡ false → ⊥
differ e = cc

-- the line feed of a head that is longer than these bytes stands behind them
past : (bytes more front rest : List ℕ) → bytes ++ more ≡ (front ++ 10 ∷ []) ++ rest → length bytes ≤ length front → list_any is_line_feed more ≡ true
past [] more front rest e le = ap (list_any is_line_feed) (e ∙ append_assoc front (10 ∷ []) rest) ∙ any_back front rest
past (b ∷ bytes) more [] rest e le = absurd (let no : ⊥ = omega (arith, le) in no)
past (b ∷ bytes) more (f ∷ front) rest e le = past bytes more front rest (ap (drop 1) e) (omega (arith, le))

-- a head that isn't longer than these bytes stands in them
within : (bytes more head rest : List ℕ) → bytes ++ more ≡ head ++ rest → length head ≤ length bytes → bytes ≡ head ++ drop (length head) bytes
within bytes more head rest e le =
    let front : take (length head) bytes ≡ head = sym (take-append-le (length head) bytes more le) ∙ ap (take (length head)) e ∙ take-append_seam head rest in
    sym (take-append-drop (length head) bytes) ∙ ap (λ (bs : List ℕ). bs ++ drop (length head) bytes) front

-- where no head stands, none does with more bytes that have no line feed
pub no_head_more : (bytes more : List ℕ) → HasNoRequest bytes → list_any is_line_feed more ≡ false → HasNoRequest (bytes ++ more)
no_head_more bytes more none clean tree rest reads =
    let ends = head_ends tree in
    let size : length (print_request tree) ≡ length ends.0 + 1 = ap length ends.1 ∙ length-append ends.0 (10 ∷ []) in
    elim (cases_lt (length bytes) (length (print_request tree))) [
      | inl lt ↦ differ (sym (past bytes more ends.0 rest (reads.1 ∙ ap (λ (bs : List ℕ). bs ++ rest) ends.1) (omega (arith, lt, size))) ∙ clean)
      | inr le ↦ none tree (drop (length (print_request tree)) bytes) (reads.0, within bytes more (print_request tree) rest reads.1 le)
    ]
