-- A request fits at most one row of the table of calls: each key is tried.
use Rattle.std.proofs.Common.{◌≡◌, ℕ, zero, suc, Bool, true, false, List, [], ◌∷◌, length, Some, refl, subst}
use Rattle.std.specs.Prelude.{filter, leb, slice_get}
use Rattle.std.specs.List.{list_all}
use Rattle.std.proofs.lemmas.Bool.{and_parts, leb-true}
use Rattle.sx_decode.specs.declared.forms.Verb.{Verb}
use Rattle.sx_decode.specs.declared.forms.Verb.TheVariants as verb
use Rattle.sx_decode.specs.declared.forms.Shape.{Shape}
use Rattle.sx_decode.specs.declared.forms.Shape.TheVariants as shape
use Rattle.sx_decode.specs.declared.forms.Restype.{Restype}
use Rattle.sx_decode.specs.declared.forms.Restype.TheVariants as restype
use Rattle.sx_decode.specs.declared.forms.Comp.{Comp}
use Rattle.sx_decode.specs.declared.forms.Comp.TheVariants as comp
use Rattle.sx_decode.specs.declared.choice.Key.{Key}
use Rattle.sx_decode.specs.Rows.{table}
use Rattle.sx_decode.specs.Table.{fits}
use Rattle.sx_decode.specs.Laws.{RowsAreApart}

-- what all of a list pass, each of it passes
passes : {X : Type 0} (p : X → Bool) (xs : List X) (at : ℕ) (x : X) → list_all p xs ≡ true → slice_get xs at ≡ Some x → p x ≡ true
passes p [] at x all is = cc
passes p (y ∷ ys) zero x all is =
    let same : y ≡ x = cc in
    let first : p y ≡ true = (and_parts (p y) (list_all p ys) all).0 in
    subst (λ z. p z ≡ true) same first
passes p (y ∷ ys) (suc at) x all is = passes p ys at x (and_parts (p y) (list_all p ys) all).1 is

-- ---- all that a key may hold

abbrev flags : List Bool
flags = true ∷ false ∷ []

flag_passes : (p : Bool → Bool) → list_all p flags ≡ true → (b : Bool) → p b ≡ true
flag_passes p all true = passes p flags 0 true all refl
flag_passes p all false = passes p flags 1 false all refl

abbrev verbs : List Verb
verbs = verb.Get ∷ verb.Head ∷ verb.Put ∷ verb.Delete ∷ []

verb_passes : (p : Verb → Bool) → list_all p verbs ≡ true → (v : Verb) → p v ≡ true
verb_passes p all verb.Get = passes p verbs 0 verb.Get all refl
verb_passes p all verb.Head = passes p verbs 1 verb.Head all refl
verb_passes p all verb.Put = passes p verbs 2 verb.Put all refl
verb_passes p all verb.Delete = passes p verbs 3 verb.Delete all refl

abbrev shapes : List Shape
shapes = shape.Account ∷ shape.Share ∷ shape.Path ∷ []

shape_passes : (p : Shape → Bool) → list_all p shapes ≡ true → (s : Shape) → p s ≡ true
shape_passes p all shape.Account = passes p shapes 0 shape.Account all refl
shape_passes p all shape.Share = passes p shapes 1 shape.Share all refl
shape_passes p all shape.Path = passes p shapes 2 shape.Path all refl

abbrev restypes : List Restype
restypes = restype.Absent ∷ restype.Share ∷ restype.Directory ∷ restype.Other ∷ []

restype_passes : (p : Restype → Bool) → list_all p restypes ≡ true → (r : Restype) → p r ≡ true
restype_passes p all restype.Absent = passes p restypes 0 restype.Absent all refl
restype_passes p all restype.Share = passes p restypes 1 restype.Share all refl
restype_passes p all restype.Directory = passes p restypes 2 restype.Directory all refl
restype_passes p all restype.Other = passes p restypes 3 restype.Other all refl

abbrev comps : List Comp
comps =
    comp.Absent ∷ comp.List ∷ comp.Properties ∷ comp.Metadata ∷ comp.Snapshot ∷ comp.Lease ∷ comp.Range ∷ comp.RangeList
    ∷ comp.ListHandles ∷ comp.ForceCloseHandles ∷ comp.Other ∷ []

comp_passes : (p : Comp → Bool) → list_all p comps ≡ true → (c : Comp) → p c ≡ true
comp_passes p all comp.Absent = passes p comps 0 comp.Absent all refl
comp_passes p all comp.List = passes p comps 1 comp.List all refl
comp_passes p all comp.Properties = passes p comps 2 comp.Properties all refl
comp_passes p all comp.Metadata = passes p comps 3 comp.Metadata all refl
comp_passes p all comp.Snapshot = passes p comps 4 comp.Snapshot all refl
comp_passes p all comp.Lease = passes p comps 5 comp.Lease all refl
comp_passes p all comp.Range = passes p comps 6 comp.Range all refl
comp_passes p all comp.RangeList = passes p comps 7 comp.RangeList all refl
comp_passes p all comp.ListHandles = passes p comps 8 comp.ListHandles all refl
comp_passes p all comp.ForceCloseHandles = passes p comps 9 comp.ForceCloseHandles all refl
comp_passes p all comp.Other = passes p comps 10 comp.Other all refl

-- ---- each key is tried

abbrev key_by : Verb → Shape → Restype → Comp → Bool → Bool → Key
key_by v s r c snapshot clears = record {
  verb = v;
  shape = s;
  restype = r;
  comp = c;
  snapshot = snapshot;
  clears = clears;
}

-- the key fits at most one row
unfoldable is_apart : Key → Bool
is_apart key = leb (length (filter (fits key) table)) 1

abbrev with_flags : Verb → Shape → Restype → Comp → Bool
with_flags v s r c = list_all (λ a. list_all (λ b. is_apart (key_by v s r c a b)) flags) flags

abbrev all_apart : Bool
all_apart = list_all (λ v. list_all (λ s. list_all (λ r. list_all (λ c. with_flags v s r c) comps) restypes) shapes) verbs

are_tried : all_apart ≡ true
unfolding is_apart fits
are_tried = refl

apart : (v : Verb) (s : Shape) (r : Restype) (c : Comp) (a b : Bool) → is_apart (key_by v s r c a b) ≡ true
apart v s r c a b =
    let by_verb = verb_passes (λ x. list_all (λ y. list_all (λ z. list_all (λ w. with_flags x y z w) comps) restypes) shapes) are_tried v in
    let by_shape = shape_passes (λ y. list_all (λ z. list_all (λ w. with_flags v y z w) comps) restypes) by_verb s in
    let by_restype = restype_passes (λ z. list_all (λ w. with_flags v s z w) comps) by_shape r in
    let by_comp = comp_passes (λ w. with_flags v s r w) by_restype c in
    flag_passes (λ y. is_apart (key_by v s r c a y)) (flag_passes (λ x. list_all (λ y. is_apart (key_by v s r c x y)) flags) by_comp a) b

pub rows_are_apart : RowsAreApart
unfolding is_apart
rows_are_apart key = leb-true _ 1 (apart key.verb key.shape key.restype key.comp key.snapshot key.clears)
