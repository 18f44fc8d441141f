-- The lines of headers one behind another.
use Rattle.std.proofs.Common.{ℕ, ◌+◌, ◌<◌, ◌≤◌, ◌≡◌, List, ◌++◌, length, get_or, drop, sym, ap, ◌∙◌, append_assoc}
use Rattle.std.specs.List.{flat_map}
use Rattle.std.proofs.lemmas.List.{drop_all}
use Rattle.sx_base.proofs.Printing.{flat_map_rest}
use Rattle.sx_http.specs.declared.heads.Header.{Header}
use Rattle.sx_http.specs.Print.{line_end, header_line, headers_text}

-- the first of the lines that are left
pub headers_rest : (hs : List Header) (i : ℕ) (h : Header) → i < length hs → h ≡ get_or hs i h → headers_text (drop i hs) ≡ header_line h ++ headers_text (drop (i + 1) hs)
headers_rest hs i h lt e =
    ap (λ (t : List ℕ). t ++ line_end) (flat_map_rest header_line hs i h lt)
    ∙ append_assoc (header_line (get_or hs i h)) (flat_map header_line (drop (i + 1) hs)) line_end
    ∙ ap (λ (x : Header). header_line x ++ headers_text (drop (i + 1) hs)) (sym e)

-- no line is left but the empty one
pub headers_past : (hs : List Header) (i : ℕ) → length hs ≤ i → headers_text (drop i hs) ≡ line_end
headers_past hs i le = ap (λ (xs : List Header). headers_text xs) (drop_all i hs le)
