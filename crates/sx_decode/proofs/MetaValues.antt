-- Headers of metadata, put one by one to the values of their names.
use Rattle.std.proofs.Common.{◌≡◌, ℕ, Bool, true, false, ◌||◌, List, [], ◌∷◌, ◌++◌, map, Bor, Option, Some, None, refl, sym, ap, ◌∙◌, subst, append_assoc, append-nil, bytes_eq, nat_eq, codes, if◌then◌else◌, ◌<◌, ◌+◌, length, take, get_or}
use Rattle.std.specs.List.{All, AllByRecursion, filter, flat_map, list_any, starts_with}
use Rattle.std.specs.List.Sorted.{IsStrictlySortedBy}
use Rattle.std.specs.Ordering.{nat_cmp, is_eq, match_ordering, ordering_reverse}
use Rattle.std.specs.declared.cmp.Ordering.{Ordering}
use Rattle.std.specs.declared.cmp.Ordering.TheVariants.{Less, Equal, Greater}
use Rattle.std.specs.Cmp.Lexicographic.{slice_cmp}
use Rattle.std.specs.BTreeSet.{insert_key}
use Rattle.std.specs.BTreeMap.{insert_entry, is_at}
use Rattle.std.specs.Map.{keys_of, lookup, set_value}
use Rattle.std.proofs.lemmas.Bool.{false≢true}
use Rattle.std.proofs.lemmas.Cmp.{nat_list_cmp_total, tied_itself}
use Rattle.std.proofs.lemmas.Grind.{flat_map-append}
use Rattle.std.proofs.lemmas.List.{map-append}
use Rattle.std.proofs.lemmas.List.{take_more}
use Rattle.std.proofs.lemmas.List.Elements.{filter-append, All-nil, All-head, All-tail}
use Rattle.std.proofs.lemmas.List.Folds.{list_any-append}
use Rattle.std.proofs.lemmas.Map.Text.{is_eq-slice_cmp}
use Rattle.std.proofs.lemmas.Map.Views.{All-insert_key}
use Rattle.std.proofs.lemmas.Slice.Eq.{bytes_eq-Decides}
use Rattle.sx_http.specs.Lookup.{is_named, header_values}
use Rattle.sx_http.specs.declared.heads.Header.{Header}
use Rattle.sx_decode.specs.Metadata.{is_meta_header, put_in_order, joined, header_names, named_values, put_value, lent_values, pairs_of, meta_of}

-- ---- names

abbrev order : List ℕ → List ℕ → Ordering
order = slice_cmp nat_cmp

same_name : (x y : List ℕ) → bytes_eq x y ≡ true → x ≡ y
same_name x y e = (bytes_eq-Decides x y).0 e

name_itself : (x : List ℕ) → bytes_eq x x ≡ true
name_itself x = (bytes_eq-Decides x x).1 refl

apart : (x y : List ℕ) (o : Ordering) → order x y ≡ o → is_eq o ≡ false → bytes_eq x y ≡ false
apart x y o e f = sym (is_eq-slice_cmp x y) ∙ ap is_eq e ∙ f

equal : (x y : List ℕ) → order x y ≡ Equal → x ≡ y
equal x y e = same_name x y (sym (is_eq-slice_cmp x y) ∙ ap is_eq e)

greater : (x y : List ℕ) → order x y ≡ Less → order y x ≡ Greater
greater x y lt = nat_list_cmp_total.antisymm y x ∙ ap ordering_reverse lt

less : (x y : List ℕ) → order x y ≡ Greater → order y x ≡ Less
less x y gt = nat_list_cmp_total.antisymm y x ∙ ap ordering_reverse gt

-- ---- which names are there

-- the name is one of these
abbrev has_name : List ℕ → List (List ℕ) → Bool
has_name name names = list_any (λ n. bytes_eq n name) names

once : (b c : Bool) → (b || c) ≡ (b || (b || c))
once true c = refl
once false c = refl

turned : (a b c : Bool) → (a || (b || c)) ≡ (b || (a || c))
turned true true c = refl
turned true false c = refl
turned false b c = refl

moved : (a b c : Bool) → ((a || b) || c) ≡ (b || (a || c))
moved true true c = refl
moved true false c = refl
moved false b c = refl

has-insert : (n k : List ℕ) (names : List (List ℕ)) → has_name n (insert_key order names k) ≡ (bytes_eq k n || has_name n names)
has-insert n k [] = refl
has-insert n k (m ∷ ms) =
    elim (order k m) as (λ (o : Ordering). order k m ≡ o → has_name n (match_ordering o (k ∷ m ∷ ms) (m ∷ ms) (m ∷ insert_key order ms k)) ≡ (bytes_eq k n || (bytes_eq m n || has_name n ms))) [
      | Less ↦ λ e. refl
      | Equal ↦ λ e. once (bytes_eq m n) (has_name n ms) ∙ ap (λ (x : List ℕ). bytes_eq x n || (bytes_eq m n || has_name n ms)) (sym (equal k m e))
      | Greater ↦ λ e. ap (λ b. bytes_eq m n || b) (has-insert n k ms) ∙ turned (bytes_eq m n) (bytes_eq k n) (has_name n ms)
    ] refl

has-put : (n : List ℕ) (names : List (List ℕ)) (hs : List Header) → has_name n (put_in_order names (map (λ (h : Header). h.name) hs)) ≡ (has_name n names || list_any (is_named n) hs)
has-put n names [] = or_false (has_name n names)
  where
    or_false : (b : Bool) → b ≡ (b || false)
    or_false true = refl
    or_false false = refl
has-put n names (h ∷ hs) =
    has-put n (insert_key order names h.name) hs
    ∙ ap (λ b. b || list_any (is_named n) hs) (has-insert n h.name names)
    ∙ moved (bytes_eq h.name n) (has_name n names) (list_any (is_named n) hs)

-- ---- one more header

put-append : (names xs ys : List (List ℕ)) → put_in_order names (xs ++ ys) ≡ put_in_order (put_in_order names xs) ys
put-append names [] ys = refl
put-append names (x ∷ xs) ys = put-append (insert_key order names x) xs ys

names-more : (hs : List Header) (h : Header) → header_names (hs ++ h ∷ []) ≡ insert_key order (header_names hs) h.name
names-more hs h =
    ap (put_in_order []) (map-append (λ (g : Header). g.name) hs (h ∷ []))
    ∙ put-append [] (map (λ (g : Header). g.name) hs) (h.name ∷ [])

values-append : (n : List ℕ) (a b : List Header) → header_values n (a ++ b) ≡ header_values n a ++ header_values n b
values-append n a b = rw (filter-append (is_named n) a b) (map-append (λ (h : Header). h.value) (filter (is_named n) a) (filter (is_named n) b))

values-other : (n : List ℕ) (hs : List Header) (h : Header) → bytes_eq h.name n ≡ false → header_values n (hs ++ h ∷ []) ≡ header_values n hs
values-other n hs h e = values-append n hs (h ∷ []) ∙ rw e (append-nil (header_values n hs))

values-more : (hs : List Header) (h : Header) → header_values h.name (hs ++ h ∷ []) ≡ header_values h.name hs ++ h.value ∷ []
values-more hs h = values-append h.name hs (h ∷ []) ∙ rw (name_itself h.name) refl

values-none : (n : List ℕ) (hs : List Header) → list_any (is_named n) hs ≡ false → header_values n hs ≡ []
values-none n [] e = refl
values-none n (h ∷ hs) e =
    elim (bytes_eq h.name n) as (λ b. (b || list_any (is_named n) hs) ≡ false → map (λ (g : Header). g.value) (if b then h ∷ filter (is_named n) hs else filter (is_named n) hs) ≡ []) [
      | true ↦ λ f. absurd (false≢true (sym f))
      | false ↦ λ f. values-none n hs f
    ] e

joined-more : (v : List ℕ) (vs : List (List ℕ)) (w : List ℕ) → joined (v ∷ (vs ++ w ∷ [])) ≡ joined (v ∷ vs) ++ 44 ∷ w
joined-more v vs w =
    ap (λ (t : List ℕ). v ++ t) (flat_map-append (λ (u : List ℕ). 44 ∷ u) vs (w ∷ []))
    ∙ sym (append_assoc v (flat_map (λ (u : List ℕ). 44 ∷ u) vs) (44 ∷ (w ++ [])))
    ∙ ap (λ (t : List ℕ). (v ++ flat_map (λ (u : List ℕ). 44 ∷ u) vs) ++ 44 ∷ t) (append-nil w)

-- a value joined to others of its name
joined-there : (n : List ℕ) (hs : List Header) (w : List ℕ) → list_any (is_named n) hs ≡ true → joined (header_values n hs ++ w ∷ []) ≡ joined (header_values n hs) ++ 44 ∷ w
joined-there n [] w e = absurd (false≢true e)
joined-there n (h ∷ hs) w e =
    elim (bytes_eq h.name n) as (λ b. (b || list_any (is_named n) hs) ≡ true
    → joined (map (λ (g : Header). g.value) (if b then h ∷ filter (is_named n) hs else filter (is_named n) hs) ++ w ∷ []) ≡ joined (map (λ (g : Header). g.value) (if b then h ∷ filter (is_named n) hs else filter (is_named n) hs)) ++ 44 ∷ w) [
      | true ↦ λ f. joined-more h.value (header_values n hs) w
      | false ↦ λ f. joined-there n hs w f
    ] e

-- ---- a value put to those of its name

-- each of these names comes after that one
abbrev After : List ℕ → List (List ℕ) → Type 0
After n names = AllByRecursion (λ m. order n m ≡ Less) names

after_more : (n k : List ℕ) (names : List (List ℕ)) → order n k ≡ Less → After k names → After n names
after_more n k [] lt h = tt
after_more n k (m ∷ ms) lt h = (nat_list_cmp_total.trans n k m lt h.0, after_more n k ms lt h.1)

after_other : (n : List ℕ) (names : List (List ℕ)) → After n names → has_name n names ≡ false
after_other n [] h = refl
after_other n (m ∷ ms) h = rw (apart m n Greater (greater n m h.0) refl) (after_other n ms h.1)

-- names, each with what a function gives for it
abbrev valued : (List ℕ → List ℕ) → List (List ℕ) → List (List ℕ × List ℕ)
valued f names = map (λ m. (m, f m)) names

module _ (f g : List ℕ → List ℕ) (n v : List ℕ) (others : (m : List ℕ) → bytes_eq n m ≡ false → g m ≡ f m) where
  after_alike : (names : List (List ℕ)) → After n names → valued f names ≡ valued g names
  after_alike [] h = refl
  after_alike (m ∷ ms) h =
      let here : f m ≡ g m = sym (others m (apart n m Less h.0 refl)) in
      let rest : valued f ms ≡ valued g ms = after_alike ms h.1 in
      λ i. (m, here i) ∷ rest i

  put_valued : (names : List (List ℕ)) → IsStrictlySortedBy order names → (has_name n names ≡ true → g n ≡ f n ++ 44 ∷ v) → (has_name n names ≡ false → g n ≡ v)
      → put_value (valued f names) n v ≡ valued g (insert_key order names n)
  unfolding IsStrictlySortedBy
  put_valued [] up there new = ap (λ (x : List ℕ). (n, x) ∷ []) (sym (new refl))
  put_valued (m ∷ ms) up there new =
      elim (order n m) as (λ (o : Ordering). order n m ≡ o
      → match_ordering o ((n, v) ∷ valued f (m ∷ ms)) ((m, f m ++ 44 ∷ v) ∷ valued f ms) ((m, f m) ∷ put_value (valued f ms) n v)
      ≡ valued g (match_ordering o (n ∷ m ∷ ms) (m ∷ ms) (m ∷ insert_key order ms n))) [
        | Less ↦ λ e.
            let after : After n (m ∷ ms) = (e, after_more n m ms e up.0) in
            let here : v ≡ g n = sym (new (after_other n (m ∷ ms) after)) in
            let rest : valued f (m ∷ ms) ≡ valued g (m ∷ ms) = after_alike (m ∷ ms) after in
            λ i. (n, here i) ∷ rest i
        | Equal ↦ λ e.
            let same : n ≡ m = equal n m e in
            let found : has_name n (m ∷ ms) ≡ true = rw (sym same, name_itself n) refl in
            let here : f m ++ 44 ∷ v ≡ g m = subst (λ k. f k ++ 44 ∷ v ≡ g k) same (sym (there found)) in
            let after : After n ms = subst (λ k. After k ms) (sym same) up.0 in
            let rest : valued f ms ≡ valued g ms = after_alike ms after in
            λ i. (m, here i) ∷ rest i
        | Greater ↦ λ e.
            let other : bytes_eq m n ≡ false = apart m n Less (less n m e) refl in
            let here : f m ≡ g m = sym (others m (apart n m Greater e refl)) in
            let skip : has_name n (m ∷ ms) ≡ has_name n ms = rw other refl in
            let rest : put_value (valued f ms) n v ≡ valued g (insert_key order ms n) = put_valued ms up.1 (λ q. there (skip ∙ q)) (λ q. new (skip ∙ q)) in
            λ i. (m, here i) ∷ rest i
      ] refl

after_insert : (m k : List ℕ) (names : List (List ℕ)) → order m k ≡ Less → After m names → After m (insert_key order names k)
after_insert m k [] lt h = (lt, tt)
after_insert m k (x ∷ xs) lt h =
    elim (order k x) as (λ (o : Ordering). After m (match_ordering o (k ∷ x ∷ xs) (x ∷ xs) (x ∷ insert_key order xs k))) [
      | Less ↦ (lt, h)
      | Equal ↦ h
      | Greater ↦ (h.0, after_insert m k xs lt h.1)
    ]

sorted_insert : (k : List ℕ) (names : List (List ℕ)) → IsStrictlySortedBy order names → IsStrictlySortedBy order (insert_key order names k)
unfolding IsStrictlySortedBy
sorted_insert k [] up = (tt, tt)
sorted_insert k (m ∷ ms) up =
    elim (order k m) as (λ (o : Ordering). order k m ≡ o → IsStrictlySortedBy order (match_ordering o (k ∷ m ∷ ms) (m ∷ ms) (m ∷ insert_key order ms k))) [
      | Less ↦ λ e. ((e, after_more k m ms e up.0), up)
      | Equal ↦ λ e. up
      | Greater ↦ λ e. (after_insert m k ms (less k m e) up.0, sorted_insert k ms up.1)
    ] refl

sorted_put : (names more : List (List ℕ)) → IsStrictlySortedBy order names → IsStrictlySortedBy order (put_in_order names more)
sorted_put names [] up = up
sorted_put names (n ∷ ns) up = sorted_put (insert_key order names n) ns (sorted_insert n names up)

sorted_names : (hs : List Header) → IsStrictlySortedBy order (header_names hs)
unfolding IsStrictlySortedBy
sorted_names hs = sorted_put [] (map (λ (h : Header). h.name) hs) tt

-- the values of headers by name, and those with one more header
values_more : (hs : List Header) (h : Header)
    → put_value (named_values hs (header_names hs)) h.name h.value ≡ named_values (hs ++ h ∷ []) (header_names (hs ++ h ∷ []))
values_more hs h =
    let there : has_name h.name (header_names hs) ≡ list_any (is_named h.name) hs = has-put h.name [] hs in
    let of = λ (gs : List Header) (n : List ℕ). joined (header_values n gs) in
    put_valued (of hs) (of (hs ++ h ∷ [])) h.name h.value
    (λ m e. ap joined (values-other m hs h e))
    (header_names hs) (sorted_names hs)
    (λ e. ap joined (values-more hs h) ∙ joined-there h.name hs h.value (sym there ∙ e))
    (λ e. ap joined (values-more hs h ∙ ap (λ (vs : List (List ℕ)). vs ++ h.value ∷ []) (values-none h.name hs (sym there ∙ e))) ∙ append-nil h.value)
    ∙ ap (named_values (hs ++ h ∷ [])) (sym (names-more hs h))

-- ---- lent names in a map

abbrev by_name : Bor (List ℕ) → Bor (List ℕ) → Ordering
by_name x y = order x.now y.now

some_none : {A : Type 0} (x : A) → Some x ≡ None → ⊥
some_none x e = cc

-- a name that isn't there, with its value
pub put_new : (es : List (Bor (List ℕ) × List ℕ)) (k : Bor (List ℕ)) (v : List ℕ) → lookup (is_at (λ y. order k.now y.now)) es ≡ None
    → lent_values (insert_entry by_name es k v) ≡ put_value (lent_values es) k.now v
put_new [] k v e = refl
put_new ((m, w) ∷ es) k v e =
    elim (order k.now m.now) as (λ (o : Ordering). (if is_eq o then Some w else lookup (is_at (λ y. order k.now y.now)) es) ≡ None
    → lent_values (match_ordering o ((k, v) ∷ (m, w) ∷ es) ((m, v) ∷ es) ((m, w) ∷ insert_entry by_name es k v)) ≡ match_ordering o ((k.now, v) ∷ lent_values ((m, w) ∷ es)) ((m.now, w ++ 44 ∷ v) ∷ lent_values es) ((m.now, w) ∷ put_value (lent_values es) k.now v)) [
      | Less ↦ λ f. refl
      | Equal ↦ λ f. absurd (some_none w f)
      | Greater ↦ λ f. ap (λ (xs : List (List ℕ × List ℕ)). (m.now, w) ∷ xs) (put_new es k v f)
    ] e

after_none : (k : List ℕ) (es : List (Bor (List ℕ) × List ℕ)) → AllByRecursion (λ y. order k y.now ≡ Less) (keys_of es) → lookup (is_at (λ y. order k y.now)) es ≡ None
after_none k [] h = refl
after_none k ((m, w) ∷ es) h = rw (h.0) (after_none k es h.1)

after_all : (k : List ℕ) (m : Bor (List ℕ)) (ks : List (Bor (List ℕ))) → order k m.now ≡ Less → AllByRecursion (λ y. by_name m y ≡ Less) ks → AllByRecursion (λ y. order k y.now ≡ Less) ks
after_all k m [] lt h = tt
after_all k m (x ∷ xs) lt h = (nat_list_cmp_total.trans k m.now x.now lt h.0, after_all k m xs lt h.1)

-- a name that is there, with one more value
pub put_there : (es : List (Bor (List ℕ) × List ℕ)) (k : List ℕ) (old v : List ℕ) → IsStrictlySortedBy by_name (keys_of es) → lookup (is_at (λ y. order k y.now)) es ≡ Some old
    → lent_values (set_value (is_at (λ y. order k y.now)) es (old ++ 44 ∷ v)) ≡ put_value (lent_values es) k v
unfolding IsStrictlySortedBy
put_there [] k old v up e = absurd (some_none old (sym e))
put_there ((m, w) ∷ es) k old v up e =
    elim (order k m.now) as (λ (o : Ordering). order k m.now ≡ o → (if is_eq o then Some w else lookup (is_at (λ y. order k y.now)) es) ≡ Some old
    → lent_values (if is_eq o then (m, old ++ 44 ∷ v) ∷ es else (m, w) ∷ set_value (is_at (λ y. order k y.now)) es (old ++ 44 ∷ v)) ≡ match_ordering o ((k, v) ∷ lent_values ((m, w) ∷ es)) ((m.now, w ++ 44 ∷ v) ∷ lent_values es) ((m.now, w) ∷ put_value (lent_values es) k v)) [
      | Less ↦ λ lt f. absurd (some_none old (sym f ∙ after_none k es (after_all k m (keys_of es) lt up.0)))
      | Equal ↦ λ q f. let same : old ≡ w = cc in ap (λ (x : List ℕ). (m.now, x ++ 44 ∷ v) ∷ lent_values es) same
      | Greater ↦ λ q f. ap (λ (xs : List (List ℕ × List ℕ)). (m.now, w) ∷ xs) (put_there es k old v up.1 f)
    ] refl e

-- ---- loops

-- the values of headers up to a place, and with the header that stands there
pub values_step : (xs : List (Bor Header)) (i : ℕ) (x : Bor Header) (es fs : List (Bor (List ℕ) × List ℕ)) → i < length xs → x ≡ get_or xs i x
    → lent_values es ≡ named_values (map (λ x. x.now) (take i xs)) (header_names (map (λ x. x.now) (take i xs)))
    → lent_values fs ≡ put_value (lent_values es) x.now.name x.now.value
    → lent_values fs ≡ named_values (map (λ x. x.now) (take (i + 1) xs)) (header_names (map (λ x. x.now) (take (i + 1) xs)))
values_step xs i x es fs lt here was put =
    let seen : Bor Header → Header = λ (y : Bor Header). y.now in
    let hs : List Header = map seen (take i xs) in
    let taken : take (i + 1) xs ≡ take i xs ++ x ∷ [] = take_more xs i x lt ∙ ap (λ (y : Bor Header). take i xs ++ y ∷ []) (sym here) in
    let more : map seen (take (i + 1) xs) ≡ hs ++ x.now ∷ [] = ap (map seen) taken ∙ map-append seen (take i xs) (x ∷ []) in
    put ∙ ap (λ (vs : List (List ℕ × List ℕ)). put_value vs x.now.name x.now.value) was ∙ values_more hs x.now ∙ ap (λ (gs : List Header). named_values gs (header_names gs)) (sym more)

-- ---- all headers, and those of metadata

-- the name is one of metadata
abbrev IsMeta : List ℕ → Type 0
IsMeta n = starts_with nat_eq n (codes "x-ms-meta-") ≡ true

twice_step : (n : List ℕ) → IsMeta n → (h : Header) (hs : List Header) (b c : Bool) → is_named n h ≡ b → is_meta_header h ≡ c
    → header_values n (filter is_meta_header hs) ≡ header_values n hs
    → header_values n (filter is_meta_header (h ∷ hs)) ≡ header_values n (h ∷ hs)
twice_step n meta h hs true true e f rest = rw (e, f) (rw e (ap (λ (xs : List (List ℕ)). h.value ∷ xs) rest))
twice_step n meta h hs true false e f rest = absurd (false≢true (sym f ∙ ap (λ (x : List ℕ). starts_with nat_eq x (codes "x-ms-meta-")) (same_name h.name n e) ∙ meta))
twice_step n meta h hs false true e f rest = rw (e, f) (rw e rest)
twice_step n meta h hs false false e f rest = rw (e, f) rest

filter_twice : (n : List ℕ) → IsMeta n → (hs : List Header) → header_values n (filter is_meta_header hs) ≡ header_values n hs
filter_twice n meta [] = refl
filter_twice n meta (h ∷ hs) = twice_step n meta h hs (is_named n h) (is_meta_header h) refl refl (filter_twice n meta hs)

names_meta : (names : List (List ℕ)) (hs : List Header) → All IsMeta names → All IsMeta (put_in_order names (map (λ (h : Header). h.name) (filter is_meta_header hs)))
names_meta names [] all = all
names_meta names (h ∷ hs) all =
    elim (is_meta_header h) as (λ b. is_meta_header h ≡ b → All IsMeta (put_in_order names (map (λ (g : Header). g.name) (if b then h ∷ filter is_meta_header hs else filter is_meta_header hs)))) [
      | true ↦ λ e. names_meta (insert_key order names h.name) hs (All-insert_key order h.name IsMeta names all e)
      | false ↦ λ e. names_meta names hs all
    ] refl

alike : (hs : List Header) (names : List (List ℕ)) → All IsMeta names → named_values (filter is_meta_header hs) names ≡ named_values hs names
alike hs [] all = refl
alike hs (n ∷ ns) all =
    let here : header_values n (filter is_meta_header hs) ≡ header_values n hs = filter_twice n (All-head IsMeta n ns all) hs in
    let rest : named_values (filter is_meta_header hs) ns ≡ named_values hs ns = alike hs ns (All-tail IsMeta n ns all) in
    λ i. (n, joined (here i)) ∷ rest i

-- the values of metadata among all headers
all_values : (hs : List Header) → named_values (filter is_meta_header hs) (header_names (filter is_meta_header hs)) ≡ named_values hs (header_names (filter is_meta_header hs))
all_values hs = alike hs (header_names (filter is_meta_header hs)) (names_meta [] hs (All-nil IsMeta))

-- the pairs of what was found are the metadata
pub meta_is : (hs own : List Header) (vs : List (List ℕ × List ℕ)) → own ≡ filter is_meta_header hs → vs ≡ named_values own (header_names own) → pairs_of [] vs ≡ meta_of hs
unfolding meta_of
meta_is hs own vs e f = ap (pairs_of []) (f ∙ ap (λ (gs : List Header). named_values gs (header_names gs)) e ∙ all_values hs)
