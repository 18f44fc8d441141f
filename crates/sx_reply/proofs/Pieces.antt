-- Parts of a view, one behind another.
use Rattle.std.proofs.Common.{◌≡◌, ◌+◌, ◌++◌, ℕ, List, take, drop, sym, ap, ◌∙◌, drop-drop}
use Rattle.std.proofs.lemmas.List.{take-append-drop}
use Rattle.sx_extent.specs.View.{part}

-- a part, and what is left behind it
pub part_front : (bytes : List ℕ) (at n : ℕ) → part bytes at n ++ drop (at + n) bytes ≡ drop at bytes
part_front bytes at n =
    ap (λ (t : List ℕ). take n (drop at bytes) ++ t) (sym (drop-drop n at bytes)) ∙ take-append-drop n (drop at bytes)
