-- Entries that are put behind those with smaller keys.
use Rattle.std.proofs.Common.{◌≡◌, List, [], ◌∷◌, ◌++◌, map, refl, sym, ap, ◌∙◌, subst, append_assoc}
use Rattle.std.specs.List.{All}
use Rattle.std.specs.List.Sorted.{IsStrictlySortedBy}
use Rattle.std.specs.declared.cmp.Ordering.{Ordering}
use Rattle.std.specs.declared.cmp.Ordering.TheVariants.{Less, Greater}
use Rattle.std.specs.Ordering.{ordering_reverse}
use Rattle.std.specs.Cmp.{IsTotalOrder}
use Rattle.std.specs.BTreeMap.{insert_entry}
use Rattle.std.specs.Map.{keys_of}
use Rattle.std.proofs.lemmas.List.Elements.{All-head, All-tail}
use Rattle.std.proofs.lemmas.Map.Keys.{sorted_tail}
use Rattle.std.proofs.lemmas.Map.Views.{All-after_first}

-- what holds of all keys holds of one among them
holds_at : {K X : Type 0} (P : K → Type 0) (xs : List (K × X)) (k : K) (v : X) (ys : List (K × X)) → All P (keys_of (xs ++ (k, v) ∷ ys)) → P k
holds_at P [] k v ys all = All-head P k (keys_of ys) all
holds_at P (e ∷ xs) k v ys all = holds_at P xs k v ys (All-tail P e.0 (keys_of (xs ++ (k, v) ∷ ys)) all)

-- an entry whose key is behind all others is put at the end
pub appended : {K X : Type 0} (cmp : K → K → Ordering) → IsTotalOrder cmp → (xs : List (K × X)) (k : K) (v : X) (ys : List (K × X)) → IsStrictlySortedBy cmp (keys_of (xs ++ (k, v) ∷ ys)) → insert_entry cmp xs k v ≡ xs ++ (k, v) ∷ []
appended cmp total [] k v ys sorted = refl
appended {K} {X} cmp total (e ∷ xs) k v ys sorted =
    let less : cmp e.0 k ≡ Less = holds_at (λ (y : K). cmp e.0 y ≡ Less) xs k v ys (All-after_first cmp e.0 (keys_of (xs ++ (k, v) ∷ ys)) sorted) in
    let greater : cmp k e.0 ≡ Greater = total.antisymm k e.0 ∙ ap ordering_reverse less in
    rw greater (ap (λ (zs : List (K × X)). e ∷ zs) (appended cmp total xs k v ys (sorted_tail cmp e.0 (keys_of (xs ++ (k, v) ∷ ys)) sorted)))

-- the next of some entries in order, put into a map of those before it
pub copied_more : {K X : Type 0} (cmp : K → K → Ordering) → IsTotalOrder cmp → (copy es : List (K × X)) (k : K) (v : X) (rest : List (K × X)) → copy ++ (k, v) ∷ rest ≡ es → IsStrictlySortedBy cmp (keys_of es) → insert_entry cmp copy k v ++ rest ≡ es
copied_more {K} {X} cmp total copy es k v rest is sorted =
    let s : IsStrictlySortedBy cmp (keys_of (copy ++ (k, v) ∷ rest)) = subst (λ (zs : List (K × X)). IsStrictlySortedBy cmp (keys_of zs)) (sym is) sorted in
    ap (λ (zs : List (K × X)). zs ++ rest) (appended cmp total copy k v rest s) ∙ append_assoc copy ((k, v) ∷ []) rest ∙ is

-- entries with other values have the same keys
pub keys_kept : {K X Y : Type 0} (g : X → Y) (es : List (K × X)) → keys_of (map (λ e. (e.0, g e.1)) es) ≡ keys_of es
keys_kept g [] = refl
keys_kept {K} {X} {Y} g (e ∷ es) = ap (λ (ks : List K). e.0 ∷ ks) (keys_kept g es)
