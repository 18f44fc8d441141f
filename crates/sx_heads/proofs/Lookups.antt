-- The headers of fields, looked up by name.
use Rattle.std.proofs.Common.{◌≡◌, ℕ, Bool, true, false, cond, not, ◌&&◌, ◌||◌, is_some, List, [], ◌∷◌, ◌++◌, map, codes, bytes_eq}
use Rattle.std.proofs.Common.{Option, Some, None, Ok, refl, sym, ap, ◌∙◌, append-nil}
use Rattle.std.specs.Prelude.{if◌then◌else◌}
use Rattle.std.specs.List.{filter}
use Rattle.std.proofs.lemmas.Bool.{false≢true}
use Rattle.std.proofs.lemmas.List.Elements.{filter-append}
use Rattle.std.proofs.lemmas.List.{map-append}
use Rattle.sx_http.specs.Lookup.{is_named, has_header, header_values}
use Rattle.sx_http.specs.declared.heads.Header.{Header}
use Rattle.sx_names.specs.declared.meta_pair.MetaPair.{MetaPair}
use Rattle.sx_call.specs.declared.refusals.Syntax.{Syntax}
use Rattle.sx_call.specs.declared.refusals.Syntax.TheVariants.{Header as BadHeader}
use Rattle.sx_decode.specs.Lookup.{only, one_header}
use Rattle.sx_heads.specs.Fields.{Field, one, metas, header_if, meta_header, with_fields}

pub values-append : (n : List ℕ) (a b : List Header) → header_values n (a ++ b) ≡ header_values n a ++ header_values n b
values-append n a b = rw (filter-append (is_named n) a b) (map-append (λ (h : Header). h.value) (filter (is_named n) a) (filter (is_named n) b))

-- no header of metadata has this name
abbrev pub IsPlain : List ℕ → Type 0
IsPlain n = (m : List ℕ) → bytes_eq (codes "x-ms-meta-" ++ m) n ≡ false

-- the value of the first field of a name
abbrev pub value_in : List ℕ → List Field → Option (List ℕ)
value_in n [] = None
value_in n (one m v ∷ fs) = if bytes_eq m n then v else value_in n fs
value_in n (metas ms ∷ fs) = value_in n fs

-- no field has this name
abbrev pub is_absent : List ℕ → List Field → Bool
is_absent n [] = true
is_absent n (one m v ∷ fs) = not (bytes_eq m n) && is_absent n fs
is_absent n (metas ms ∷ fs) = is_absent n fs

-- at most one field has this name
abbrev pub is_single : List ℕ → List Field → Bool
is_single n [] = true
is_single n (one m v ∷ fs) = if bytes_eq m n then is_absent n fs else is_single n fs
is_single n (metas ms ∷ fs) = is_single n fs

-- a value, where there is one
abbrev pub listed : Option (List ℕ) → List (List ℕ)
listed None = []
listed (Some v) = v ∷ []

values-header : (n m : List ℕ) (v : Option (List ℕ)) (b : Bool) → bytes_eq m n ≡ b → header_values n (header_if m v) ≡ cond b (listed v) []
values-header n m None true e = refl
values-header n m None false e = refl
values-header n m (Some v) true e = rw e refl
values-header n m (Some v) false e = rw e refl

pub values-metas : (n : List ℕ) → IsPlain n → (ms : List MetaPair) → header_values n (map meta_header ms) ≡ []
values-metas n other [] = refl
values-metas n other (m ∷ ms) = rw (other m.name) (values-metas n other ms)

not_first : (b c : Bool) → (not b && c) ≡ true → (b ≡ false) × (c ≡ true)
not_first true c e = absurd (false≢true e)
not_first false c e = (refl, e)

-- headers behind others of which none has the name
nothing_more : (n : List ℕ) (hs more : List Header) → header_values n more ≡ [] → header_values n (hs ++ more) ≡ header_values n hs
nothing_more n hs more e = values-append n hs more ∙ ap (λ (xs : List (List ℕ)). header_values n hs ++ xs) e ∙ append-nil (header_values n hs)

values-absent : (n : List ℕ) → IsPlain n → (fs : List Field) (hs : List Header) → is_absent n fs ≡ true → header_values n (with_fields hs fs) ≡ header_values n hs
values-absent n other [] hs e = refl
values-absent n other (one m v ∷ fs) hs e =
    let p = not_first (bytes_eq m n) (is_absent n fs) e in
    values-absent n other fs (hs ++ header_if m v) p.1 ∙ nothing_more n hs (header_if m v) (values-header n m v false p.0)
values-absent n other (metas ms ∷ fs) hs e =
    values-absent n other fs (hs ++ map meta_header ms) e ∙ nothing_more n hs (map meta_header ms) (values-metas n other ms)

values-single : (n : List ℕ) → IsPlain n → (fs : List Field) (hs : List Header) → is_single n fs ≡ true → header_values n (with_fields hs fs) ≡ header_values n hs ++ listed (value_in n fs)
values-single n other [] hs e = sym (append-nil (header_values n hs))
values-single n other (one m v ∷ fs) hs e =
    elim (bytes_eq m n) as (λ b. bytes_eq m n ≡ b → cond b (is_absent n fs) (is_single n fs) ≡ true → header_values n (with_fields (hs ++ header_if m v) fs) ≡ header_values n hs ++ listed (cond b v (value_in n fs))) [
      | true ↦ λ q d. values-absent n other fs (hs ++ header_if m v) d ∙ values-append n hs (header_if m v) ∙ ap (λ (xs : List (List ℕ)). header_values n hs ++ xs) (values-header n m v true q)
      | false ↦ λ q d. values-single n other fs (hs ++ header_if m v) d ∙ ap (λ (xs : List (List ℕ)). xs ++ listed (value_in n fs)) (nothing_more n hs (header_if m v) (values-header n m v false q))
    ] refl e
values-single n other (metas ms ∷ fs) hs e =
    values-single n other fs (hs ++ map meta_header ms) e ∙ ap (λ (xs : List (List ℕ)). xs ++ listed (value_in n fs)) (nothing_more n hs (map meta_header ms) (values-metas n other ms))

only_listed : (s : Syntax) (v : Option (List ℕ)) → only s (listed v) ≡ Ok v
only_listed s None = refl
only_listed s (Some v) = refl

-- a header is the field of its name
pub one_is : (n : List ℕ) (fs : List Field) → IsPlain n → is_single n fs ≡ true → one_header n (with_fields [] fs) ≡ Ok (value_in n fs)
unfolding one_header
one_is n fs other e = ap (λ (xs : List (List ℕ)). only (BadHeader n) xs) (values-single n other fs [] e) ∙ only_listed (BadHeader n) (value_in n fs)

-- whether there are some
abbrev has_some : List (List ℕ) → Bool
has_some [] = false
has_some (v ∷ vs) = true

has_step : (b : Bool) (v : List ℕ) (rest : Bool) (vs : List (List ℕ)) → rest ≡ has_some vs → (b || rest) ≡ has_some (cond b (v ∷ vs) vs)
has_step true v rest vs e = refl
has_step false v rest vs e = e

has_values : (n : List ℕ) (hs : List Header) → has_header n hs ≡ has_some (header_values n hs)
has_values n [] = refl
has_values n (h ∷ hs) = has_step (is_named n h) h.value (has_header n hs) (header_values n hs) (has_values n hs) ∙ same (is_named n h)
  where
    same : (b : Bool) → has_some (cond b (h.value ∷ header_values n hs) (header_values n hs)) ≡ has_some (map (λ (x : Header). x.value) (cond b (h ∷ filter (is_named n) hs) (filter (is_named n) hs)))
    same true = refl
    same false = refl

has_listed : (v : Option (List ℕ)) → has_some (listed v) ≡ is_some v
has_listed None = refl
has_listed (Some v) = refl

-- the headers of a name are the value of its field
pub values_are : (n : List ℕ) (fs : List Field) → IsPlain n → is_single n fs ≡ true → header_values n (with_fields [] fs) ≡ listed (value_in n fs)
values_are n fs other e = values-single n other fs [] e

-- a header is there where its field has a value
pub has_is : (n : List ℕ) (fs : List Field) → IsPlain n → is_single n fs ≡ true → has_header n (with_fields [] fs) ≡ is_some (value_in n fs)
has_is n fs other e = has_values n (with_fields [] fs) ∙ ap has_some (values_are n fs other e) ∙ has_listed (value_in n fs)
