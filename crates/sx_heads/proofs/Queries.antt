-- The query that is spelled is read back.
use Rattle.std.proofs.Common.{◌≡◌, ℕ, ◌==◌, Bool, true, false, cond, not, ◌&&◌, List, [], ◌∷◌, ◌++◌, length, map, codes, bytes_eq}
use Rattle.std.proofs.Common.{Option, Some, None, Ok, arith, refl, sym, ap, ◌∙◌, append-nil, append_assoc}
use Rattle.std.specs.Prelude.{All, IfSome, if◌then◌else◌}
use Rattle.std.specs.List.{slice_split, flat_map, list_all, before_first, after_first}
use Rattle.std.specs.Str.{is_utf8}
use Rattle.std.specs.Char.{to_ascii_lowercase}
use Rattle.std.proofs.lemmas.Bool.{false≢true}
use Rattle.std.proofs.lemmas.Grind.{flat_map-append}
use Rattle.std.proofs.lemmas.List.Elements.{All-nil, All-cons, All-append}
use Rattle.std.proofs.lemmas.List.Splits.{slice_split_none, slice_split_at}
use Rattle.percent_encoding.specs.Percent.{percent_decode}
use Rattle.sx_call.specs.declared.refusals.Syntax.TheVariants.{Query as BadQuery}
use Rattle.sx_decode.specs.declared.parameters.Parameter.{Parameter}
use Rattle.sx_decode.specs.Reading.{with_next}
use Rattle.sx_decode.specs.Lookup.{only}
use Rattle.sx_decode.specs.Parameters.{is_and, is_equals, is_question, parameter_of, parameters, parameter_values, encoded_or_none, one_parameter}
use Rattle.sx_heads.specs.Values.{escaped}
use Rattle.sx_heads.specs.Targets.{Query, with_parameter, query_text}
use Rattle.sx_heads.proofs.EncodedTexts.{text_back, lacks_and}
use Rattle.sx_heads.proofs.Paths.{LacksQuestion, cut_at, cut_none}

-- a name with its value, where it is given
abbrev pub Asked : Type 0
Asked = List ℕ × Option (List ℕ)

-- a name with its value
abbrev pub Pair : Type 0
Pair = List ℕ × List ℕ

-- NAME=VALUE
abbrev piece : Pair → List ℕ
piece p = p.0 ++ 61 ∷ escaped p.1

-- what is given
abbrev pub given : List Asked → List Pair
given [] = []
given ((n, None) ∷ qs) = given qs
given ((n, Some v) ∷ qs) = (n, v) ∷ given qs

-- a query of these
abbrev text_of : List Pair → List ℕ
text_of [] = []
text_of (p ∷ ps) = 63 ∷ piece p ++ flat_map (λ q. 38 ∷ piece q) ps

-- parameters added in order
abbrev pub added : List ℕ → List Asked → List ℕ
added query [] = query
added query (q ∷ qs) = added (with_parameter query q.0 q.1) qs

step_text : (done : List Pair) (n v : List ℕ) → with_parameter (text_of done) n (Some v) ≡ text_of (done ++ (n, v) ∷ [])
step_text [] n v = ap (λ (xs : List ℕ). 63 ∷ xs) (sym (append-nil (n ++ 61 ∷ escaped v)))
step_text (p ∷ ps) n v =
    let one : flat_map (λ (q : Pair). 38 ∷ piece q) ((n, v) ∷ []) ≡ 38 ∷ (n ++ 61 ∷ escaped v) = ap (λ (xs : List ℕ). 38 ∷ xs) (append-nil (n ++ 61 ∷ escaped v)) in
    let full : (length (text_of (p ∷ ps)) == 0) ≡ false = grind arith in
    rw full (append_assoc (text_of (p ∷ ps)) (38 ∷ n) (61 ∷ escaped v)
    ∙ ap (λ (xs : List ℕ). text_of (p ∷ ps) ++ xs) (sym one)
    ∙ append_assoc (63 ∷ piece p) (flat_map (λ (q : Pair). 38 ∷ piece q) ps) (flat_map (λ (q : Pair). 38 ∷ piece q) ((n, v) ∷ []))
    ∙ ap (λ (xs : List ℕ). 63 ∷ piece p ++ xs) (sym (flat_map-append (λ (q : Pair). 38 ∷ piece q) ps ((n, v) ∷ []))))

added_text : (done : List Pair) (qs : List Asked) → added (text_of done) qs ≡ text_of (done ++ given qs)
added_text done [] = ap text_of (sym (append-nil done))
added_text done ((n, None) ∷ qs) = added_text done qs
added_text done ((n, Some v) ∷ qs) =
    ap (λ (t : List ℕ). added t qs) (step_text done n v) ∙ added_text (done ++ (n, v) ∷ []) qs ∙ ap text_of (append_assoc done ((n, v) ∷ []) (given qs))

-- a name that is written as it stands
abbrev pub is_bare : List ℕ → Bool
is_bare n = list_all (λ b. not (b == 38)) n && list_all (λ b. not (b == 61)) n && bytes_eq (map to_ascii_lowercase (percent_decode n)) n

-- such a name, whose bytes are read as they stand
pub record IsBare (n : List ℕ) : Type 0 where
  pub no_and : All (λ b. (b == 38) ≡ false) n
  pub no_equals : All (λ b. (b == 61) ≡ false) n
  pub same : map to_ascii_lowercase (percent_decode n) ≡ n

-- each given name is bare
abbrev pub AreBare : List Pair → Type 0
AreBare [] = Unit {0}
AreBare (p ∷ ps) = IsBare p.0 × AreBare ps

abbrev pub AreBareNames : List Asked → Type 0
AreBareNames [] = Unit {0}
AreBareNames (q ∷ qs) = IsBare q.0 × AreBareNames qs

bare_given : (qs : List Asked) → AreBareNames qs → AreBare (given qs)
bare_given [] h = tt
bare_given ((n, None) ∷ qs) h = bare_given qs h.1
bare_given ((n, Some v) ∷ qs) h = (h.0, bare_given qs h.1)

piece_lacks : (p : Pair) → IsBare p.0 → All (λ b. (b == 38) ≡ false) (piece p)
piece_lacks p h = All-append (λ b. (b == 38) ≡ false) p.0 (61 ∷ escaped p.1) h.no_and (All-cons (λ b. (b == 38) ≡ false) 61 (escaped p.1) (refl {A = Bool}) (lacks_and p.1))

split_pieces : (p : Pair) (ps : List Pair) → AreBare (p ∷ ps) → slice_split is_and (piece p ++ flat_map (λ q. 38 ∷ piece q) ps) ≡ map piece (p ∷ ps)
split_pieces p [] h = rw (append-nil (piece p)) (slice_split_none is_and (piece p) (piece_lacks p h.0))
split_pieces p (q ∷ qs) h = slice_split_at is_and (piece p) 38 (piece q ++ flat_map (λ q. 38 ∷ piece q) qs) (piece_lacks p h.0) refl ∙ ap (λ (xs : List (List ℕ)). piece p ∷ xs) (split_pieces q qs h.1)

-- a parameter as it is read
abbrev pub param : Pair → Parameter
param p = record { name = p.0; value = escaped p.1 }

param_back : (p : Pair) → IsBare p.0 → parameter_of (piece p) ≡ param p
param_back p h =
    let c = cut_at is_equals p.0 (escaped p.1) 61 h.no_equals refl in
    rw (c.0, c.1, h.same) refl

params_back : (ps : List Pair) → AreBare ps → map parameter_of (map piece ps) ≡ map param ps
params_back [] h = refl
params_back (p ∷ ps) h = rw (param_back p h.0, params_back ps h.1) refl

-- the parameters of a query of these
abbrev read_of : List Pair → List Parameter
read_of [] = parameter_of [] ∷ []
read_of (p ∷ ps) = map param (p ∷ ps)

behind_path : (path : List ℕ) (ps : List Pair) → LacksQuestion path → AreBare ps
    → (before_first is_question (path ++ text_of ps) ≡ path) × (parameters (after_first is_question (path ++ text_of ps)) ≡ read_of ps)
unfolding parameters
behind_path path [] lacks h =
    let c = cut_none is_question path lacks in
    (rw (append-nil path) c.0, rw (append-nil path, c.1) refl)
behind_path path (p ∷ ps) lacks h =
    let c = cut_at is_question path (piece p ++ flat_map (λ q. 38 ∷ piece q) ps) 63 lacks refl in
    (c.0, rw (c.1, split_pieces p ps h) (params_back (p ∷ ps) h))

-- the value of the first of a name
abbrev pub value_of : List ℕ → List Asked → Option (List ℕ)
value_of n [] = None
value_of n (q ∷ qs) = if bytes_eq q.0 n then q.1 else value_of n qs

-- none has this name
abbrev pub none_named : List ℕ → List Asked → Bool
none_named n [] = true
none_named n (q ∷ qs) = not (bytes_eq q.0 n) && none_named n qs

-- at most one has this name
abbrev pub one_named : List ℕ → List Asked → Bool
one_named n [] = true
one_named n (q ∷ qs) = if bytes_eq q.0 n then none_named n qs else one_named n qs

-- a value, where there is one
abbrev shown : Option (List ℕ) → List (List ℕ)
shown None = []
shown (Some v) = escaped v ∷ []

no_and_rest : (b c : Bool) → (not b && c) ≡ true → (b ≡ false) × (c ≡ true)
no_and_rest true c e = absurd (false≢true e)
no_and_rest false c e = (refl, e)

values_none : (n : List ℕ) (qs : List Asked) → none_named n qs ≡ true → parameter_values n (map param (given qs)) ≡ []
values_none n [] e = refl
values_none n ((m, None) ∷ qs) e = values_none n qs (no_and_rest (bytes_eq m n) (none_named n qs) e).1
values_none n ((m, Some v) ∷ qs) e =
    let p = no_and_rest (bytes_eq m n) (none_named n qs) e in
    rw p.0 (values_none n qs p.1)

values_one : (n : List ℕ) (qs : List Asked) → one_named n qs ≡ true → parameter_values n (map param (given qs)) ≡ shown (value_of n qs)
values_one n [] e = refl
values_one n ((m, None) ∷ qs) e =
    elim (bytes_eq m n) as (λ b. cond b (none_named n qs) (one_named n qs) ≡ true → parameter_values n (map param (given qs)) ≡ shown (cond b None (value_of n qs))) [
      | true ↦ λ d. values_none n qs d
      | false ↦ λ d. values_one n qs d
    ] e
values_one n ((m, Some v) ∷ qs) e =
    elim (bytes_eq m n) as (λ b. bytes_eq m n ≡ b → cond b (none_named n qs) (one_named n qs) ≡ true → parameter_values n (map param (given ((m, Some v) ∷ qs))) ≡ shown (cond b (Some v) (value_of n qs))) [
      | true ↦ λ q d. rw q (ap (λ (xs : List (List ℕ)). escaped v ∷ xs) (values_none n qs d))
      | false ↦ λ q d. rw q (values_one n qs d)
    ] refl e

blank_or : (n : List ℕ) (ps : List Pair) → bytes_eq [] n ≡ false → parameter_values n (read_of ps) ≡ parameter_values n (map param ps)
unfolding percent_decode
blank_or n [] e = rw e refl
blank_or n (p ∷ ps) e = refl

only_shown : (n : List ℕ) (o : Option (List ℕ)) → IfSome o (λ v. is_utf8 v ≡ true) → with_next (only (BadQuery n) (shown o)) (encoded_or_none n) ≡ Ok o
only_shown n None h = refl
only_shown n (Some v) h = rw (text_back v h) refl

-- what a query asks for, in its order
abbrev pub asked_in : Query → List Asked
asked_in q =
    (codes "restype", q.restype) ∷ (codes "comp", q.comp) ∷ (codes "sharesnapshot", q.snapshot) ∷ (codes "prefix", q.prefix)
    ∷ (codes "marker", q.marker) ∷ (codes "maxresults", q.max) ∷ (codes "include", q.include) ∷ []

query_is : (q : Query) → query_text q ≡ text_of (given (asked_in q))
unfolding query_text
query_is q = added_text [] (asked_in q)

pub from_test : (c : ℕ) (n : List ℕ) → list_all (λ b. not (b == c)) n ≡ true → All (λ b. (b == c) ≡ false) n
from_test c [] e = All-nil (λ b. (b == c) ≡ false)
from_test c (b ∷ bs) e =
    let both = no_and_rest (b == c) (list_all (λ x. not (x == c)) bs) e in
    All-cons (λ b. (b == c) ≡ false) b bs both.0 (from_test c bs both.1)

bare_from : (n : List ℕ) → list_all (λ b. not (b == 38)) n ≡ true → list_all (λ b. not (b == 61)) n ≡ true → map to_ascii_lowercase (percent_decode n) ≡ n → IsBare n
bare_from n a e s = record { no_and = from_test 38 n a; no_equals = from_test 61 n e; same = s }

bare_names : (q : Query) → AreBareNames (asked_in q)
unfolding percent_decode
bare_names q = (
  bare_from (codes "restype") refl refl refl,
  (
    bare_from (codes "comp") refl refl refl,
    (
      bare_from (codes "sharesnapshot") refl refl refl,
      (
        bare_from (codes "prefix") refl refl refl,
        (
          bare_from (codes "marker") refl refl refl,
          (
            bare_from (codes "maxresults") refl refl refl,
            (bare_from (codes "include") refl refl refl, tt),
          ),
        ),
      ),
    ),
  ),
)

-- a target is cut where its query begins
pub cut_back : (path : List ℕ) (q : Query) → LacksQuestion path → before_first is_question (path ++ query_text q) ≡ path
cut_back path q lacks = rw (query_is q) (behind_path path (given (asked_in q)) lacks (bare_given (asked_in q) (bare_names q))).0

-- the parameters of a query that is spelled
pub params_of : Query → List Parameter
params_of q = read_of (given (asked_in q))

pub parameters_back : (path : List ℕ) (q : Query) → LacksQuestion path → parameters (after_first is_question (path ++ query_text q)) ≡ params_of q
unfolding params_of
parameters_back path q lacks = rw (query_is q) (behind_path path (given (asked_in q)) lacks (bare_given (asked_in q) (bare_names q))).1

-- a parameter of a query that is spelled is what was spelled
pub parameter_back : (n : List ℕ) (q : Query) → bytes_eq [] n ≡ false → one_named n (asked_in q) ≡ true → IfSome (value_of n (asked_in q)) (λ v. is_utf8 v ≡ true)
    → one_parameter n (params_of q) ≡ Ok (value_of n (asked_in q))
unfolding params_of one_parameter
parameter_back n q some one text =
    rw (blank_or n (given (asked_in q)) some, values_one n (asked_in q) one) (only_shown n (value_of n (asked_in q)) text)
