-- The reads of a body, one behind another.
use Rattle.std.proofs.Common.{ℕ, ◌+◌, ◌≤◌, ◌≡◌, List, ◌++◌, length, take, drop, sym, ap, ◌∙◌, subst, arith, length-take}
use Rattle.std.specs.declared.option.Option.{Option}
use Rattle.std.specs.Io.KnownBytes.{Consumes}
use Rattle.std.proofs.Math.Seq.{take-add}
use Rattle.std.proofs.lemmas.List.{drop-append-le, take-take}
use Rattle.sx_base.proofs.Streams.{consumes_more}

-- the bytes before a place stay where those before a later place do
pub front_stays : (from count : ℕ) (now mid : List ℕ) → from ≤ count → take count now ≡ take count mid → take from now ≡ take from mid
front_stays from count now mid le e = sym (take-take from count now le) ∙ ap (take from) e ∙ take-take from count mid le

-- one read more
pub reads_more : (from count more : ℕ) (now mid : List ℕ) (l m n : Option (List ℕ)) → from ≤ count → count ≤ length mid → take count now ≡ take count mid → Consumes l m (drop from (take count mid)) → Consumes m n (take more (drop count now)) → Consumes l n (drop from (take (count + more) now))
reads_more from count more now mid l m n le fits e h k =
    let size : from ≤ length (take count mid) = omega (arith, le, fits, length-take count mid) in
    let all : take (count + more) now ≡ take count mid ++ take more (drop count now) = take-add count more now ∙ ap (λ (bs : List ℕ). bs ++ take more (drop count now)) e in
    let parts : drop from (take (count + more) now) ≡ drop from (take count mid) ++ take more (drop count now) = ap (drop from) all ∙ drop-append-le from (take count mid) (take more (drop count now)) size in
    subst (Consumes l n) (sym parts) (consumes_more l m n (drop from (take count mid)) (take more (drop count now)) h k)
