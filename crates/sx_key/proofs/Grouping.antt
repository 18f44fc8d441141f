-- Fields grouped by name.
use Rattle.std.proofs.Common.{◌≡◌, ℕ, zero, suc, ◌+◌, ◌<◌, ◌≤◌, Bool, true, false, cond, List, [], ◌∷◌, ◌++◌, length, map, take, drop, get_or, refl, sym, ap, ◌∙◌, subst, arith, append_assoc, codes}
use Rattle.std.specs.Prelude.{⊤, not, ◌&&◌, bytes_eq}
use Rattle.std.specs.Ordering.{is_lt, is_gt, ordering_reverse}
use Rattle.std.specs.List.{filter, flat_map, dedup, dedup_from, position_or_len, sum_by}
use Rattle.std.specs.List.Sorted.{IsPermutation, IsSortedByKey, IsStableBy, ties}
use Rattle.std.specs.declared.cmp.Ordering.{Ordering}
use Rattle.std.specs.declared.cmp.Ordering.TheVariants.{Less, Equal, Greater}
use Rattle.std.proofs.Math.Seq.{drop-drop}
use Rattle.std.proofs.lemmas.Cmp.{nat_list_cmp_total, tied_itself}
use Rattle.std.proofs.lemmas.Slice.Eq.{bytes_eq-Decides}
use Rattle.std.proofs.lemmas.Map.Lookups.{exact_bytes}
use Rattle.std.proofs.lemmas.List.{append-nil, drop_all, length-drop, take-append-drop}
use Rattle.std.proofs.lemmas.List.Folds.{flat_map-map}
use Rattle.std.proofs.lemmas.List.Sums.{sum_by-cons}
use Rattle.std.proofs.lemmas.List.Sorted.{sum_by-IsPermutation}
use Rattle.sx_key.specs.Texts.{byte_order, sorted_texts, joined_text}
use Rattle.sx_key.specs.Fields.{field_values, field_names, group_line, group_lines, run_line, IsRun, IsGrouping}
use Rattle.sx_key.specs.declared.fields.Field.{Field}
use Rattle.sx_key.proofs.Joining.{joined-cons}
use Rattle.sx_key.proofs.Sorting.{Ascends, Below, Upto, Same, order, both_upto, one_sorted, sorted_ascends, ascends_from, rises_from, sorted_sum, sum_of_map, sorted_is}

-- ---- texts

same_text : (a b : List ℕ) → bytes_eq a b ≡ true → a ≡ b
same_text a b e = (bytes_eq-Decides a b).0 e

text_itself : (a : List ℕ) → bytes_eq a a ≡ true
text_itself a = (bytes_eq-Decides a a).1 refl

false_by : (b : Bool) → (b ≡ true → ⊥) → b ≡ false
false_by true f = absurd (f refl)
false_by false f = refl

other_text : (a b : List ℕ) → (a ≡ b → ⊥) → bytes_eq a b ≡ false
other_text a b f = false_by (bytes_eq a b) (λ e. f (same_text a b e))

differ : true ≡ false → ⊥
differ e = cc

not_true : (b : Bool) → not b ≡ true → b ≡ false
not_true true e = cc
not_true false e = refl

not_false : (b : Bool) → not b ≡ false → b ≡ true
not_false true e = refl
not_false false e = cc

-- ---- runs

abbrev name_of : Field → List ℕ
name_of f = f.name

-- each field has that name
abbrev Named : List ℕ → List Field → Type 0
Named n [] = ⊤
Named n (f ∷ fs) = (bytes_eq f.name n ≡ true) × Named n fs

-- no text is that one
abbrev Others : List ℕ → List (List ℕ) → Type 0
Others n [] = ⊤
Others n (m ∷ ms) = (bytes_eq n m ≡ false) × Others n ms

-- how many fields at the front have that name
abbrev leading : List ℕ → List Field → ℕ
leading n fs = position_or_len (λ (g : Field). not (bytes_eq g.name n)) fs

one_more : (n : ℕ) → suc n ≡ 1 + n
one_more n = omega arith

named_front : (n : List ℕ) (fs : List Field) → Named n (take (leading n fs) fs)
named_front n [] = tt
named_front n (f ∷ fs) =
    elim (bytes_eq f.name n) as (λ b. bytes_eq f.name n ≡ b → Named n (take (cond (not (not b)) (1 + leading n fs) 0) (f ∷ fs))) [
      | true ↦ λ e. subst (λ (m : ℕ). Named n (take m (f ∷ fs))) (one_more (leading n fs)) (e, named_front n fs)
      | false ↦ λ e. tt
    ] refl

-- the first of the rest has another name
abbrev HeadDiffers : List ℕ → List Field → Type 0
HeadDiffers n [] = ⊤
HeadDiffers n (f ∷ fs) = bytes_eq f.name n ≡ false

rest_differs : (n : List ℕ) (fs : List Field) → HeadDiffers n (drop (leading n fs) fs)
rest_differs n [] = tt
rest_differs n (f ∷ fs) =
    elim (bytes_eq f.name n) as (λ b. bytes_eq f.name n ≡ b → HeadDiffers n (drop (cond (not (not b)) (1 + leading n fs) 0) (f ∷ fs))) [
      | true ↦ λ e. subst (λ (m : ℕ). HeadDiffers n (drop m (f ∷ fs))) (one_more (leading n fs)) (rest_differs n fs)
      | false ↦ λ e. e
    ] refl

values_named : (n : List ℕ) (run : List Field) → Named n run → field_values n run ≡ map (λ (f : Field). f.value) run
values_named n [] h = refl
values_named n (f ∷ fs) h = rw (h.0) (ap (λ (vs : List (List ℕ)). f.value ∷ vs) (values_named n fs h.1))

-- fields of another name before these
values_behind : (n m : List ℕ) (run rest : List Field) → Named n run → bytes_eq n m ≡ false → field_values m (run ++ rest) ≡ field_values m rest
values_behind n m [] rest h e = refl
values_behind n m (f ∷ fs) rest h e =
    let other : bytes_eq f.name m ≡ false = ap (λ (t : List ℕ). bytes_eq t m) (same_text f.name n h.0) ∙ e in
    rw other (values_behind n m fs rest h.1 e)

flipped : (n m : List ℕ) → bytes_eq n m ≡ false → bytes_eq m n ≡ false
flipped n m e = other_text m n (λ same. differ (sym (text_itself n) ∙ ap (bytes_eq n) (sym same) ∙ e))

-- no values where no name is that one
values_none : (n : List ℕ) (fs : List Field) → Others n (map (λ (f : Field). f.name) fs) → field_values n fs ≡ []
values_none n [] h = refl
values_none n (f ∷ fs) h = rw (flipped n f.name h.0) (values_none n fs h.1)

values_before : (n : List ℕ) (run rest : List Field) → Named n run → field_values n rest ≡ [] → field_values n (run ++ rest) ≡ map (λ (f : Field). f.value) run
values_before n [] rest h e = e
values_before n (f ∷ fs) rest h e = rw (h.0) (ap (λ (vs : List (List ℕ)). f.value ∷ vs) (values_before n fs rest h.1 e))

-- one name for a run, and then those of the rest
dedup_rest : (n : List ℕ) (rest : List Field) → HeadDiffers n rest → dedup_from bytes_eq n (map (λ (f : Field). f.name) rest) ≡ n ∷ dedup bytes_eq (map (λ (f : Field). f.name) rest)
dedup_rest n [] h = refl
dedup_rest n (f ∷ fs) h = rw h refl

dedup_run : (n : List ℕ) (run rest : List Field) → Named n run → HeadDiffers n rest → dedup_from bytes_eq n (map (λ (f : Field). f.name) (run ++ rest)) ≡ n ∷ dedup bytes_eq (map (λ (f : Field). f.name) rest)
dedup_run n [] rest h d = dedup_rest n rest d
dedup_run n (f ∷ fs) rest h d = rw (h.0) (dedup_run n fs rest h.1 d)

others_from : (n m : List ℕ) (ms : List (List ℕ)) → bytes_eq n m ≡ false → Others n ms → Others n (dedup_from bytes_eq m ms)
others_from n m [] e h = (e, tt)
others_from n m (k ∷ ks) e h =
    elim (bytes_eq k m) as (λ b. Others n (cond b (dedup_from bytes_eq m ks) (m ∷ dedup_from bytes_eq k ks))) [
      | true ↦ others_from n m ks e h.1
      | false ↦ (e, others_from n k ks h.0 h.1)
    ]

others_dedup : (n : List ℕ) (ms : List (List ℕ)) → Others n ms → Others n (dedup bytes_eq ms)
others_dedup n [] h = tt
others_dedup n (m ∷ ms) h = others_from n m ms h.0 h.1

-- names above a first one that differs from n, where n is at most that one
others_above : (n h : List ℕ) (ms : List (List ℕ)) → Upto n h → bytes_eq h n ≡ false → Below h ms → Others n ms
others_above n h [] le e b = tt
others_above n h (m ∷ ms) le e b =
    (other_text n m (λ same. let hn = both_upto h n (subst (Upto h) (sym same) b.0) le in differ (sym (text_itself h) ∙ ap (bytes_eq h) hn ∙ e)), others_above n h ms le e b.1)

below_rest : (n : List ℕ) (k : ℕ) (fs : List Field) → Below n (map (λ (f : Field). f.name) fs) → Below n (map (λ (f : Field). f.name) (drop k fs))
below_rest n zero fs b = b
below_rest n (suc k) [] b = tt
below_rest n (suc k) (f ∷ fs) b = below_rest n k fs b.1

pub ascends_rest : (k : ℕ) (fs : List Field) → Ascends (map (λ (f : Field). f.name) fs) → Ascends (map (λ (f : Field). f.name) (drop k fs))
ascends_rest zero fs a = a
ascends_rest (suc k) [] a = tt
ascends_rest (suc k) (f ∷ fs) a = ascends_rest k fs a.1

rest_others : (n : List ℕ) (rest : List Field) → Below n (map (λ (f : Field). f.name) rest) → Ascends (map (λ (f : Field). f.name) rest) → HeadDiffers n rest → Others n (map (λ (f : Field). f.name) rest)
rest_others n [] b a d = tt
rest_others n (f ∷ fs) b a d = (flipped f.name n d, others_above n f.name (map (λ (g : Field). g.name) fs) b.0 d a.0)

-- the lines of the names that come behind a run
lines_behind : (before after n : List ℕ) (run rest : List Field) (ms : List (List ℕ)) → Named n run → Others n ms → flat_map (group_line before after (run ++ rest)) ms ≡ flat_map (group_line before after rest) ms
lines_behind before after n run rest [] h o = refl
lines_behind before after n run rest (m ∷ ms) h o =
    let values = values_behind n m run rest h o.0 in
    let more = lines_behind before after n run rest ms h o.1 in
    λ i. (before ++ m ++ codes ":" ++ joined_text (values i) ++ after) ++ more i

-- the lines of fields whose first one begins this run
run_first : (before after : List ℕ) (r : Field) (run rest : List Field) → Named r.name run → HeadDiffers r.name rest → Others r.name (map (λ (f : Field). f.name) rest)
    → group_lines before after (r ∷ (run ++ rest)) ≡ run_line before after (r ∷ run) ++ group_lines before after rest
run_first before after r run rest h d o =
    let itself = text_itself r.name in
    let names = dedup_run r.name run rest h d in
    let values : field_values r.name (r ∷ (run ++ rest)) ≡ map (λ (f : Field). f.value) (r ∷ run) = values_before r.name (r ∷ run) rest (itself, h) (values_none r.name rest o) in
    let lines = lines_behind before after r.name (r ∷ run) rest (dedup bytes_eq (map (λ (f : Field). f.name) rest)) (itself, h) (others_dedup r.name (map (λ (f : Field). f.name) rest) o) in
    ap (flat_map (group_line before after (r ∷ (run ++ rest)))) names
    ∙ (λ i. (before ++ r.name ++ codes ":" ++ joined_text (values i) ++ after) ++ lines i)

-- the lines of fields in order: that of the run at the front, and those of the others
pub group_more : (before after : List ℕ) (fs : List Field) (n : ℕ) → 0 < length fs → Ascends (map (λ (f : Field). f.name) fs) → IsRun n fs
    → group_lines before after fs ≡ run_line before after (take n fs) ++ group_lines before after (drop n fs)
group_more before after [] n some a h = absurd (let no : ⊥ = omega (arith, some) in no)
group_more before after (r ∷ tail) n some a h =
    let k : ℕ = leading r.name tail in
    let run : List Field = take k tail in
    let rest : List Field = drop k tail in
    let differs = rest_differs r.name tail in
    let others = rest_others r.name rest (below_rest r.name k tail a.0) (ascends_rest k tail a.1) differs in
    let whole : tail ≡ run ++ rest = sym (take-append-drop k tail) in
    let one : n ≡ suc k = omega (arith, h) in
    let first = run_first before after r run rest (named_front r.name tail) differs others in
    ap (λ (fs : List Field). group_lines before after (r ∷ fs)) whole ∙ first
    ∙ ap (λ (m : ℕ). run_line before after (take m (r ∷ tail)) ++ group_lines before after (drop m (r ∷ tail))) (sym one)

-- one turn of the loop
pub group_turn : (before after start line out : List ℕ) (fields : List Field) (i n : ℕ) → i < length fields → Ascends (map (λ (f : Field). f.name) fields) → IsRun n (drop i fields)
    → line ≡ start ++ run_line before after (take n (drop i fields)) → start ++ group_lines before after (drop i fields) ≡ out → line ++ group_lines before after (drop (i + n) fields) ≡ out
group_turn before after start line out fields i n lt a h e inv =
    let some : 0 < length (drop i fields) = omega (arith, length-drop i fields, lt) in
    let more = group_more before after (drop i fields) n some (ascends_rest i fields a) h in
    let far : drop (i + n) fields ≡ drop n (drop i fields) = sym (drop-drop n i fields) in
    (λ j. e j ++ group_lines before after (far j))
    ∙ append_assoc start (run_line before after (take n (drop i fields))) (group_lines before after (drop n (drop i fields)))
    ∙ ap (λ (t : List ℕ). start ++ t) (sym more) ∙ inv

pub group_none : (before after : List ℕ) (fields : List Field) (i : ℕ) → length fields ≤ i → group_lines before after (drop i fields) ≡ []
group_none before after fields i le = ap (group_lines before after) (drop_all i fields le)

-- a run of fields that aren't none
pub is_run : (fields : List Field) (d : Field) (k : ℕ) → 0 < length fields → k ≡ position_or_len (λ (g : Field). not (bytes_eq g.name (get_or fields 0 d).name)) (drop 1 fields) → IsRun (1 + k) fields
is_run [] d k some e = absurd (let no : ⊥ = omega (arith, some) in no)
is_run (f ∷ fs) d k some e = ap (λ (n : ℕ). 1 + n) e

-- the line of a run that isn't none
pub line_is : (before after : List ℕ) (run : List Field) (d : Field) → 0 < length run → run_line before after run ≡ before ++ (get_or run 0 d).name ++ codes ":" ++ joined_text (map (λ (f : Field). f.value) run) ++ after
line_is before after [] d some = absurd (let no : ⊥ = omega (arith, some) in no)
line_is before after (f ∷ fs) d some = refl

-- the values of a run in a row
pub values_joined : (run : List Field) (d : Field) → 0 < length run → joined_text (map (λ (f : Field). f.value) run) ≡ (get_or run 0 d).value ++ flat_map (λ (f : Field). 44 ∷ f.value) (drop 1 run)
values_joined [] d some = absurd (let no : ⊥ = omega (arith, some) in no)
values_joined (f ∷ fs) d some = joined-cons 44 f.value (map (λ (g : Field). g.value) fs) ∙ ap (λ (t : List ℕ). f.value ++ t) (flat_map-map (λ (v : List ℕ). 44 ∷ v) (λ (g : Field). g.value) fs)

-- ---- sorting

below_less : (r : Ordering) (s : Ordering) → s ≡ ordering_reverse r → not (is_lt r) ≡ true → not (is_lt s) ≡ true → r ≡ Equal
below_less Less s e h k = cc
below_less Equal s e h k = refl
below_less Greater s e h k = absurd (differ (sym k ∙ ap (λ (o : Ordering). not (is_lt o)) e))

-- fields of one name tie
tie_is : (name : List ℕ) (x f : Field) → x.name ≡ name → ties (λ (a b : Field). is_lt (byte_order a.name b.name)) x f ≡ bytes_eq f.name name
tie_is name x f e =
    elim (bytes_eq f.name name) as (λ b. bytes_eq f.name name ≡ b → ties (λ (a b : Field). is_lt (byte_order a.name b.name)) x f ≡ b) [
      | true ↦ λ s. let same : f.name ≡ x.name = same_text f.name name s ∙ sym e in rw (same, tied_itself nat_list_cmp_total x.name) refl
      | false ↦ λ s. false_by (ties (λ (a b : Field). is_lt (byte_order a.name b.name)) x f) (λ t.
          let p = both_true (not (is_lt (byte_order x.name f.name))) (not (is_lt (byte_order f.name x.name))) t in
          let equal = below_less (byte_order x.name f.name) (byte_order f.name x.name) (nat_list_cmp_total.antisymm f.name x.name) p.0 p.1 in
          let same : x.name ≡ f.name = exact_bytes x.name f.name equal in
          differ (sym (text_itself f.name) ∙ ap (bytes_eq f.name) (sym same ∙ e) ∙ s))
    ] refl
  where
    both_true : (a b : Bool) → (a && b) ≡ true → (a ≡ true) × (b ≡ true)
    both_true true b e = (refl, e)
    both_true false b e = cc

filter_same : (p q : Field → Bool) → ((f : Field) → p f ≡ q f) → (fs : List Field) → filter p fs ≡ filter q fs
filter_same p q h [] = refl
filter_same p q h (f ∷ fs) = λ i. cond (h f i) (f ∷ filter_same p q h fs i) (filter_same p q h fs i)

-- what a stable sort by name leaves
pub stable_values : (xs ys : List Field) (name : List ℕ) → IsStableBy (λ (a b : Field). is_lt (byte_order a.name b.name)) xs ys → field_values name ys ≡ field_values name xs
stable_values xs ys name h =
    let x : Field = record { name = name; value = [] } in
    let tie = tie_is name x in
    ap (map (λ (f : Field). f.value))
    (sym (filter_same (ties (λ (a b : Field). is_lt (byte_order a.name b.name)) x) (λ (f : Field). bytes_eq f.name name) (λ f. tie f refl) ys)
    ∙ h x ∙ filter_same (ties (λ (a b : Field). is_lt (byte_order a.name b.name)) x) (λ (f : Field). bytes_eq f.name name) (λ f. tie f refl) xs)

-- the values of a name, of fields in the order of their values
abbrev value_of : Field → List ℕ
value_of f = f.value

below_values : (t name : List ℕ) (fs : List Field) → Below t (map value_of fs) → Below t (field_values name fs)
below_values t name [] b = tt
below_values t name (f ∷ fs) b =
    elim (bytes_eq f.name name) as (λ q. Below t (map value_of (cond q (f ∷ filter (λ (g : Field). bytes_eq g.name name) fs) (filter (λ (g : Field). bytes_eq g.name name) fs)))) [
      | true ↦ (b.0, below_values t name fs b.1)
      | false ↦ below_values t name fs b.1
    ]

ascends_values : (name : List ℕ) (fs : List Field) → Ascends (map value_of fs) → Ascends (field_values name fs)
ascends_values name [] a = tt
ascends_values name (f ∷ fs) a =
    elim (bytes_eq f.name name) as (λ q. Ascends (map value_of (cond q (f ∷ filter (λ (g : Field). bytes_eq g.name name) fs) (filter (λ (g : Field). bytes_eq g.name name) fs)))) [
      | true ↦ (below_values f.value name fs a.0, ascends_values name fs a.1)
      | false ↦ ascends_values name fs a.1
    ]

sum_values : (g : List ℕ → ℕ) (name : List ℕ) (fs : List Field) → sum_by g (field_values name fs) ≡ sum_by (λ (f : Field). cond (bytes_eq f.name name) (g f.value) 0) fs
sum_values g name [] = refl
sum_values g name (f ∷ fs) =
    let rest = sum_values g name fs in
    let right = sum_by-cons (λ (f : Field). cond (bytes_eq f.name name) (g f.value) 0) f fs in
    elim (bytes_eq f.name name) as (λ q. bytes_eq f.name name ≡ q → sum_by g (map value_of (cond q (f ∷ filter (λ (h : Field). bytes_eq h.name name) fs) (filter (λ (h : Field). bytes_eq h.name name) fs))) ≡ sum_by (λ (f : Field). cond (bytes_eq f.name name) (g f.value) 0) (f ∷ fs)) [
      | true ↦ λ e.
          let left = sum_by-cons g f.value (field_values name fs) in
          let here : cond (bytes_eq f.name name) (g f.value) 0 ≡ g f.value = ap (λ b. cond b (g f.value) 0) e in
          omega (arith, left, right, here, rest)
      | false ↦ λ e.
          let here : cond (bytes_eq f.name name) (g f.value) 0 ≡ 0 = ap (λ b. cond b (g f.value) 0) e in
          omega (arith, right, here, rest)
    ] refl

-- sorted by value, the values of a name are in order
pub values_sorted : (xs ys : List Field) (name : List ℕ) → IsPermutation xs ys → IsSortedByKey (λ (f : Field). f.value) byte_order ys → field_values name ys ≡ sorted_texts (field_values name xs)
values_sorted xs ys name p h =
    let up : Ascends (map value_of ys) = ascends_from value_of ys (rises_from value_of ys h) in
    one_sorted (field_values name ys) (sorted_texts (field_values name xs)) (ascends_values name ys up) (sorted_ascends (field_values name xs))
    (λ g. sum_values g name ys ∙ sum_by-IsPermutation (λ (f : Field). cond (bytes_eq f.name name) (g f.value) 0) xs ys p ∙ sym (sum_values g name xs) ∙ sym (sorted_sum g (field_values name xs)))

-- fields in the order of their names have them in order
pub ascends_names : (fs : List Field) → IsSortedByKey (λ (f : Field). f.name) byte_order fs → Ascends (map (λ (f : Field). f.name) fs)
ascends_names fs h = ascends_from name_of fs (rises_from name_of fs h)

lines_same : (f g : List ℕ → List ℕ) (ns : List (List ℕ)) → ((n : List ℕ) → f n ≡ g n) → flat_map f ns ≡ flat_map g ns
lines_same f g [] h = refl
lines_same f g (n ∷ ns) h = λ i. h n i ++ lines_same f g ns h i

-- the lines of fields in order are those of their names
pub lines_grouped : (before after : List ℕ) (xs ys : List Field) (f : List ℕ → List ℕ) → map (λ (g : Field). g.name) ys ≡ sorted_texts (map (λ (g : Field). g.name) xs) → ((n : List ℕ) → group_line before after ys n ≡ f n)
    → group_lines before after ys ≡ flat_map f (field_names xs)
lines_grouped before after xs ys f names lines =
    lines_same (group_line before after ys) f (dedup bytes_eq (map (λ (g : Field). g.name) ys)) lines ∙ ap (λ (ts : List (List ℕ)). flat_map f (dedup bytes_eq ts)) names
