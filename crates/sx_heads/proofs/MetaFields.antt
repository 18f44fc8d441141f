-- Metadata that is spelled is read back.
use Rattle.std.proofs.Common.{◌≡◌, ◌≤◌, ℕ, nat_le, Bool, true, false, not, ◌&&◌, List, [], ◌∷◌, ◌++◌, length, codes, map, bytes_eq, nat_eq}
use Rattle.std.proofs.Common.{Option, Some, None, Ok, arith, refl, sym, ap, subst, ◌∙◌, append-nil, append_assoc, length-append}
use Rattle.std.specs.List.{filter, list_all, starts_with}
use Rattle.std.specs.Ordering.{nat_cmp, is_lt, is_eq, ordering_reverse}
use Rattle.std.specs.declared.cmp.Ordering.{Ordering}
use Rattle.std.specs.declared.cmp.Ordering.TheVariants.{Less, Equal, Greater}
use Rattle.std.specs.Cmp.Lexicographic.{slice_cmp}
use Rattle.std.specs.BTreeSet.{insert_key}
use Rattle.std.proofs.lemmas.Bool.{false≢true, and_parts}
use Rattle.std.proofs.lemmas.Bool.Decides.{nat_tests}
use Rattle.std.proofs.lemmas.Cmp.{nat_list_cmp_total, nat_list_eq_equiv}
use Rattle.std.proofs.lemmas.List.{map-append}
use Rattle.std.proofs.lemmas.List.Elements.{filter-append}
use Rattle.std.proofs.lemmas.List.Folds.{list_all-append}
use Rattle.std.proofs.lemmas.Map.Text.{is_eq-slice_cmp}
use Rattle.std.proofs.lemmas.Slice.Eq.{bytes_eq-Decides}
use Rattle.sx_http.specs.Lookup.{is_named, header_values}
use Rattle.sx_http.specs.declared.heads.Header.{Header}
use Rattle.sx_names.specs.Header.{is_header_text}
use Rattle.sx_names.specs.Meta.{is_meta, is_meta_pair, follows, in_order, meta_length}
use Rattle.sx_names.specs.MetaPair.{is_meta_name}
use Rattle.sx_names.specs.declared.meta.TheConstants.{MAX_META_NAMES, MAX_META_BYTES}
use Rattle.sx_names.specs.declared.meta_pair.MetaPair.{MetaPair}
use Rattle.sx_decode.specs.Metadata.{is_meta_header, put_in_order, meta_header_names, joined, named_values, with_value, pairs_of, meta_of}
use Rattle.sx_heads.specs.Fields.{Field, one, metas, header_if, meta_header, with_fields}
use Rattle.sx_heads.proofs.Lookups.{values-append}

-- the name of a pair's header
abbrev full : List ℕ → List ℕ
full name = codes "x-ms-meta-" ++ name

full_name : MetaPair → List ℕ
full_name pair = full pair.name

-- ---- which headers are of metadata

-- the pairs among fields
abbrev pub metas_in : List Field → List MetaPair
metas_in [] = []
metas_in (one n v ∷ fs) = metas_in fs
metas_in (metas ms ∷ fs) = ms ++ metas_in fs

-- no other field has a name of metadata
abbrev pub are_others : List Field → Bool
are_others [] = true
are_others (one n v ∷ fs) = not (starts_with nat_eq n (codes "x-ms-meta-")) && are_others fs
are_others (metas ms ∷ fs) = are_others fs

other_parts : (b c : Bool) → (not b && c) ≡ true → (b ≡ false) × (c ≡ true)
other_parts true c e = absurd (false≢true e)
other_parts false c e = (refl, e)

filter_one : (n : List ℕ) (v : Option (List ℕ)) → starts_with nat_eq n (codes "x-ms-meta-") ≡ false → filter is_meta_header (header_if n v) ≡ []
filter_one n None e = refl
filter_one n (Some v) e = rw e refl

filter_metas : (ms : List MetaPair) → filter is_meta_header (map meta_header ms) ≡ map meta_header ms
filter_metas [] = refl
filter_metas (m ∷ ms) = ap (λ (hs : List Header). meta_header m ∷ hs) (filter_metas ms)

filter_fields : (hs : List Header) (fs : List Field) → are_others fs ≡ true → filter is_meta_header (with_fields hs fs) ≡ filter is_meta_header hs ++ map meta_header (metas_in fs)
filter_fields hs [] e = sym (append-nil (filter is_meta_header hs))
filter_fields hs (one n v ∷ fs) e =
    let p = other_parts (starts_with nat_eq n (codes "x-ms-meta-")) (are_others fs) e in
    filter_fields (hs ++ header_if n v) fs p.1
    ∙ ap (λ (xs : List Header). xs ++ map meta_header (metas_in fs)) (filter-append is_meta_header hs (header_if n v) ∙ ap (λ (xs : List Header). filter is_meta_header hs ++ xs) (filter_one n v p.0) ∙ append-nil (filter is_meta_header hs))
filter_fields hs (metas ms ∷ fs) e =
    filter_fields (hs ++ map meta_header ms) fs e
    ∙ ap (λ (xs : List Header). xs ++ map meta_header (metas_in fs)) (filter-append is_meta_header hs (map meta_header ms) ∙ ap (λ (xs : List Header). filter is_meta_header hs ++ xs) (filter_metas ms))
    ∙ append_assoc (filter is_meta_header hs) (map meta_header ms) (map meta_header (metas_in fs))
    ∙ ap (λ (xs : List Header). filter is_meta_header hs ++ xs) (sym (map-append meta_header ms (metas_in fs)))

-- a header with such a name is one of metadata
named_meta : (name : List ℕ) (h : Header) → is_named (full name) h ≡ true → is_meta_header h ≡ true
named_meta name h e = subst (λ (n : List ℕ). starts_with nat_eq n (codes "x-ms-meta-") ≡ true) (sym (same_name h.name (full name) e)) refl
  where
    same_name : (xs ys : List ℕ) → bytes_eq xs ys ≡ true → xs ≡ ys
    same_name xs ys q = (bytes_eq-Decides xs ys).0 q

twice_step : (name : List ℕ) (h : Header) (hs : List Header) (b c : Bool) → is_named (full name) h ≡ b → is_meta_header h ≡ c
    → header_values (full name) hs ≡ header_values (full name) (filter is_meta_header hs)
    → header_values (full name) (h ∷ hs) ≡ header_values (full name) (filter is_meta_header (h ∷ hs))
twice_step name h hs true true e f rest = rw (e, f) (rw e (ap (λ (xs : List (List ℕ)). h.value ∷ xs) rest))
twice_step name h hs true false e f rest = absurd (false≢true (sym f ∙ named_meta name h e))
twice_step name h hs false true e f rest = rw (e, f) (rw e rest)
twice_step name h hs false false e f rest = rw (e, f) rest

filter_twice : (name : List ℕ) (hs : List Header) → header_values (full name) hs ≡ header_values (full name) (filter is_meta_header hs)
filter_twice name [] = refl
filter_twice name (h ∷ hs) = twice_step name h hs (is_named (full name) h) (is_meta_header h) refl refl (filter_twice name hs)

-- ---- the order of names

-- each name comes after this one
abbrev IsBefore : List ℕ → List MetaPair → Type 0
IsBefore n [] = Unit {0}
IsBefore n (p ∷ ps) = (slice_cmp nat_cmp n p.name ≡ Less) × IsBefore n ps

-- each name comes after those before it
abbrev AreSorted : List MetaPair → Type 0
AreSorted [] = Unit {0}
AreSorted (p ∷ ps) = IsBefore p.name ps × AreSorted ps

-- each name comes before this one
abbrev IsBehind : List ℕ → List MetaPair → Type 0
IsBehind n [] = Unit {0}
IsBehind n (p ∷ ps) = (slice_cmp nat_cmp p.name n ≡ Less) × IsBehind n ps

-- each of the latter comes after each of the former
abbrev AreBehind : List MetaPair → List MetaPair → Type 0
AreBehind done [] = Unit {0}
AreBehind done (p ∷ ps) = IsBehind p.name done × AreBehind done ps

less_is : (o : Ordering) → is_lt o ≡ true → o ≡ Less
less_is Less e = refl
less_is Equal e = absurd (false≢true e)
less_is Greater e = absurd (false≢true e)

before_all : (n : List ℕ) (p : MetaPair) (ps : List MetaPair) → slice_cmp nat_cmp n p.name ≡ Less → in_order (Some p) ps ≡ true → IsBefore n ps
before_all n p [] lt e = tt
before_all n p (q ∷ qs) lt e =
    let both = and_parts (is_lt (slice_cmp nat_cmp p.name q.name)) (in_order (Some q) qs) e in
    let more = nat_list_cmp_total.trans n p.name q.name lt (less_is (slice_cmp nat_cmp p.name q.name) both.0) in
    (more, before_all n q qs more both.1)

sorted_after : (p : MetaPair) (ps : List MetaPair) → in_order (Some p) ps ≡ true → IsBefore p.name ps × AreSorted ps
sorted_after p [] e = (tt, tt)
sorted_after p (q ∷ qs) e =
    let both = and_parts (is_lt (slice_cmp nat_cmp p.name q.name)) (in_order (Some q) qs) e in
    let lt = less_is (slice_cmp nat_cmp p.name q.name) both.0 in
    let more = sorted_after q qs both.1 in
    ((lt, before_all p.name q qs lt both.1), more)

sorted_all : (ps : List MetaPair) → in_order None ps ≡ true → AreSorted ps
sorted_all [] e = tt
sorted_all (p ∷ ps) e = sorted_after p ps e

behind_more : (n : List ℕ) (ds : List MetaPair) (p : MetaPair) → IsBehind n ds → slice_cmp nat_cmp p.name n ≡ Less → IsBehind n (ds ++ p ∷ [])
behind_more n [] p h lt = (lt, tt)
behind_more n (d ∷ ds) p h lt = (h.0, behind_more n ds p h.1 lt)

all_behind : (done : List MetaPair) (p : MetaPair) (ps : List MetaPair) → AreBehind done ps → IsBefore p.name ps → AreBehind (done ++ p ∷ []) ps
all_behind done p [] h k = tt
all_behind done p (q ∷ qs) h k = (behind_more q.name done p h.0 k.0, all_behind done p qs h.1 k.1)

nothing_behind : (ps : List MetaPair) → AreBehind [] ps
nothing_behind [] = tt
nothing_behind (p ∷ ps) = (tt, nothing_behind ps)

greater : (x y : List ℕ) → slice_cmp nat_cmp x y ≡ Less → slice_cmp nat_cmp y x ≡ Greater
greater x y lt = nat_list_cmp_total.antisymm y x ∙ ap ordering_reverse lt

put_last : (ds : List MetaPair) (n : List ℕ) → IsBehind n ds → insert_key (slice_cmp nat_cmp) (map full_name ds) (full n) ≡ map full_name ds ++ full n ∷ []
unfolding full_name
put_last [] n h = refl
put_last (d ∷ ds) n h = rw (greater d.name n h.0) (ap (λ (xs : List (List ℕ)). full d.name ∷ xs) (put_last ds n h.1))

put_sorted : (done rest : List MetaPair) → AreBehind done rest → AreSorted rest → put_in_order (map full_name done) (map full_name rest) ≡ map full_name (done ++ rest)
unfolding full_name
put_sorted done [] h k = ap (map full_name) (sym (append-nil done))
put_sorted done (p ∷ ps) h k =
    ap (λ (ns : List (List ℕ)). put_in_order ns (map full_name ps)) (put_last done p.name h.0 ∙ sym (map-append full_name done (p ∷ [])))
    ∙ put_sorted (done ++ p ∷ []) ps (all_behind done p ps h.1 k.0) k.1
    ∙ ap (map full_name) (append_assoc done (p ∷ []) ps)

names_are : (ms : List MetaPair) → map (λ (h : Header). h.name) (map meta_header ms) ≡ map full_name ms
unfolding full_name
names_are [] = refl
names_are (m ∷ ms) = ap (λ (xs : List (List ℕ)). full m.name ∷ xs) (names_are ms)

-- ---- the value of a name

apart : (x y : List ℕ) (o : Ordering) → slice_cmp nat_cmp x y ≡ o → is_eq o ≡ false → bytes_eq x y ≡ false
apart x y o e f = sym (is_eq-slice_cmp x y) ∙ ap is_eq e ∙ f

values_behind : (n : List ℕ) (ds : List MetaPair) → IsBehind n ds → header_values (full n) (map meta_header ds) ≡ []
values_behind n [] h = refl
values_behind n (d ∷ ds) h = rw (apart d.name n Less h.0 refl) (values_behind n ds h.1)

values_before : (n : List ℕ) (ds : List MetaPair) → IsBefore n ds → header_values (full n) (map meta_header ds) ≡ []
values_before n [] h = refl
values_before n (d ∷ ds) h = rw (apart d.name n Greater (greater n d.name h.0) refl) (values_before n ds h.1)

value_alone : (done : List MetaPair) (p : MetaPair) (ps : List MetaPair) → IsBehind p.name done → IsBefore p.name ps → header_values (full p.name) (map meta_header (done ++ p ∷ ps)) ≡ p.value ∷ []
value_alone done p ps h k =
    ap (header_values (full p.name)) (map-append meta_header done (p ∷ ps))
    ∙ values-append (full p.name) (map meta_header done) (meta_header p ∷ map meta_header ps)
    ∙ rw (values_behind p.name done h, nat_list_eq_equiv.refl p.name, values_before p.name ps k) refl

-- ---- what stands in front of metadata is metadata

order_front : (before : Option MetaPair) (xs ys : List MetaPair) → in_order before (xs ++ ys) ≡ true → in_order before xs ≡ true
order_front before [] ys e = refl
order_front before (x ∷ xs) ys e =
    let both = and_parts (follows before x) (in_order (Some x) (xs ++ ys)) e in
    rw (both.0, order_front (Some x) xs ys both.1) refl

length_front : (xs ys : List MetaPair) → meta_length xs ≤ meta_length (xs ++ ys)
length_front [] ys = omega arith
length_front (x ∷ xs) ys = omega (arith, length_front xs ys)

less_still : (a b c : ℕ) → a ≤ b → nat_le b c ≡ true → nat_le a c ≡ true
less_still a b c le e = grind (arith, nat_tests, le, e)

pub meta_front : (xs ys : List MetaPair) → is_meta (xs ++ ys) ≡ true → is_meta xs ≡ true
unfolding is_meta
meta_front xs ys e =
    let outer = and_parts (list_all is_meta_pair (xs ++ ys) && in_order None (xs ++ ys) && nat_le (length (xs ++ ys)) MAX_META_NAMES) (nat_le (meta_length (xs ++ ys)) MAX_META_BYTES) e in
    let middle = and_parts (list_all is_meta_pair (xs ++ ys) && in_order None (xs ++ ys)) (nat_le (length (xs ++ ys)) MAX_META_NAMES) outer.0 in
    let inner = and_parts (list_all is_meta_pair (xs ++ ys)) (in_order None (xs ++ ys)) middle.0 in
    let all = and_parts (list_all is_meta_pair xs) (list_all is_meta_pair ys) (sym (list_all-append is_meta_pair xs ys) ∙ inner.0) in
    let count : length xs ≤ length (xs ++ ys) = omega (arith, length-append xs ys) in
    rw (
      all.0,
      order_front None xs ys inner.1,
      less_still (length xs) (length (xs ++ ys)) MAX_META_NAMES count middle.1,
      less_still (meta_length xs) (meta_length (xs ++ ys)) MAX_META_BYTES (length_front xs ys) outer.1,
    ) refl

all_pairs : (ms : List MetaPair) → is_meta ms ≡ true → list_all is_meta_pair ms ≡ true
unfolding is_meta
all_pairs ms e = (and_parts (list_all is_meta_pair ms) (in_order None ms) (and_parts _ (nat_le (length ms) MAX_META_NAMES) (and_parts _ (nat_le (meta_length ms) MAX_META_BYTES) e).0).0).0

ordered : (ms : List MetaPair) → is_meta ms ≡ true → in_order None ms ≡ true
unfolding is_meta
ordered ms e = (and_parts (list_all is_meta_pair ms) (in_order None ms) (and_parts _ (nat_le (length ms) MAX_META_NAMES) (and_parts _ (nat_le (meta_length ms) MAX_META_BYTES) e).0).0).1

pair_in : (done : List MetaPair) (p : MetaPair) (ps : List MetaPair) → is_meta (done ++ p ∷ ps) ≡ true → is_meta_pair p ≡ true
pair_in done p ps e =
    let all = sym (list_all-append is_meta_pair done (p ∷ ps)) ∙ all_pairs (done ++ p ∷ ps) e in
    (and_parts (is_meta_pair p) (list_all is_meta_pair ps) (and_parts (list_all is_meta_pair done) (list_all is_meta_pair (p ∷ ps)) all).1).0

-- ---- reading

pair_back : (hs : List Header) (done : List MetaPair) (p : MetaPair) → header_values (full p.name) hs ≡ p.value ∷ [] → is_meta_pair p ≡ true → is_meta (done ++ p ∷ []) ≡ true
    → with_value done (full p.name) (joined (header_values (full p.name) hs)) ≡ Ok (done ++ p ∷ [])
pair_back hs done p v e m =
    let both = and_parts (is_meta_name p.name) (is_header_text p.value) e in
    rw (v, append-nil p.value, both.0, both.1, m) refl

pairs_back : (hs : List Header) (done rest : List MetaPair) → filter is_meta_header hs ≡ map meta_header (done ++ rest) → is_meta (done ++ rest) ≡ true
    → AreBehind done rest → AreSorted rest → pairs_of done (named_values hs (map full_name rest)) ≡ Ok (done ++ rest)
unfolding full_name
pairs_back hs done [] f m h k = ap (λ (xs : List MetaPair). Ok xs) (sym (append-nil done))
pairs_back hs done (p ∷ ps) f m h k =
    let v = filter_twice p.name hs ∙ ap (header_values (full p.name)) f ∙ value_alone done p ps h.0 k.0 in
    let join : (done ++ p ∷ []) ++ ps ≡ done ++ p ∷ ps = append_assoc done (p ∷ []) ps in
    let front = meta_front (done ++ p ∷ []) ps (ap is_meta join ∙ m) in
    rw (pair_back hs done p v (pair_in done p ps m) front)
    (pairs_back hs (done ++ p ∷ []) ps (f ∙ ap (map meta_header) (sym join)) (ap is_meta join ∙ m) (all_behind done p ps h.1 k.0) k.1 ∙ ap (λ (xs : List MetaPair). Ok xs) join)

-- metadata of fields is read
pub meta_back : (fs : List Field) (ms : List MetaPair) → are_others fs ≡ true → metas_in fs ≡ ms → is_meta ms ≡ true → meta_of (with_fields [] fs) ≡ Ok ms
unfolding meta_of
meta_back fs ms e is m =
    let f : filter is_meta_header (with_fields [] fs) ≡ map meta_header ms = filter_fields [] fs e ∙ ap (map meta_header) is in
    let sorted = sorted_all ms (ordered ms m) in
    let names : meta_header_names (with_fields [] fs) ≡ map full_name ms =
    ap (λ (hs : List Header). put_in_order [] (map (λ (h : Header). h.name) hs)) f ∙ ap (put_in_order []) (names_are ms) ∙ put_sorted [] ms (nothing_behind ms) sorted in
    rw names (pairs_back (with_fields [] fs) [] ms f m (nothing_behind ms) sorted)
