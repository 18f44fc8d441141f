-- Parts of a list of bytes, joined and taken of one another.
use Rattle.std.proofs.Common.{◌≡◌, ℕ, ◌+◌, ◌-◌, ◌≤◌, List, ◌++◌, length, take, drop, sym, ap, ◌∙◌, arith, take-add, drop-drop}
use Rattle.std.proofs.lemmas.List.{drop-take, take-take, take_all}
use Rattle.sx_extent.specs.Ranges.{SparseFile, cut}
use Rattle.sx_extent.specs.View.{part}

pub parts_joined : (bytes : List ℕ) (at m n : ℕ) → part bytes at m ++ part bytes (at + m) n ≡ part bytes at (m + n)
parts_joined bytes at m n = ap (λ xs. take m (drop at bytes) ++ take n xs) (sym (drop-drop m at bytes)) ∙ sym (take-add m n (drop at bytes))

pub cuts_joined : (f : SparseFile) (from mid end : ℕ) → from ≤ mid → mid ≤ end → cut f from mid ++ cut f mid end ≡ cut f from end
cuts_joined f from mid end first last =
    let e : from + (mid - from) ≡ mid = omega arith in
    let t : mid - from + (end - mid) ≡ end - from = omega arith in
    ap (λ j. take (mid - from) (drop from f.bytes) ++ take (end - mid) (drop j f.bytes)) (sym e)
    ∙ parts_joined f.bytes from (mid - from) (end - mid)
    ∙ ap (λ j. take j (drop from f.bytes)) t

pub whole_part : (bytes : List ℕ) → part bytes 0 (length bytes) ≡ bytes
whole_part bytes = take_all (length bytes) bytes (omega arith)

pub part_of_cut : (f : SparseFile) (from end at n : ℕ) → from + at + n ≤ end → part (cut f from end) at n ≡ cut f (from + at) (from + at + n)
part_of_cut f from end at n fits =
    let r : ℕ = end - from - at in
    let e : end - from ≡ at + r = omega arith in
    let l : n ≤ r = omega arith in
    let s : n ≡ from + at + n - (from + at) = omega arith in
    ap (λ j. take n (drop at (take j (drop from f.bytes)))) e
    ∙ ap (take n) (drop-take at r (drop from f.bytes))
    ∙ take-take n r (drop at (drop from f.bytes)) l
    ∙ ap (take n) (drop-drop at from f.bytes)
    ∙ ap (λ j. take j (drop (from + at) f.bytes)) s
