-- Metadata put pair by pair.
use Rattle.std.proofs.Common.{◌≡◌, ◌<◌, ℕ, ◌+◌, List, [], ◌∷◌, ◌++◌, length, map, drop, get_or, sym, ap, ◌∙◌, append_assoc, drop-cons, add-one}
use Rattle.sx_http.specs.declared.heads.Header.{Header}
use Rattle.sx_names.specs.declared.meta_pair.MetaPair.{MetaPair}
use Rattle.sx_heads.specs.Fields.{meta_header}

first_left : (ms : List MetaPair) (i : ℕ) (x : MetaPair) → i < length ms → x ≡ get_or ms i x → drop i ms ≡ x ∷ drop (i + 1) ms
first_left ms i x lt is = rw (add-one i) (drop-cons ms i x lt) ∙ ap (λ (m : MetaPair). m ∷ drop (i + 1) ms) (sym is)

-- a turn of the loop that puts each pair
pub meta_step : (hs new : List Header) (ms : List MetaPair) (i : ℕ) (x : MetaPair) (whole : List Header) → i < length ms
    → hs ++ map meta_header (drop i ms) ≡ whole → new ≡ hs ++ meta_header x ∷ [] → x ≡ get_or ms i x → new ++ map meta_header (drop (i + 1) ms) ≡ whole
meta_step hs new ms i x whole lt inv e is =
    ap (λ (ns : List Header). ns ++ map meta_header (drop (i + 1) ms)) e
    ∙ append_assoc hs (meta_header x ∷ []) (map meta_header (drop (i + 1) ms))
    ∙ ap (λ (xs : List MetaPair). hs ++ map meta_header xs) (sym (first_left ms i x lt is)) ∙ inv
