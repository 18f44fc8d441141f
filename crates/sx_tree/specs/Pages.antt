-- Pages of listings.
use Rattle.std.specs.Prelude.{ℕ, ◌==◌, false, List, [], ◌∷◌, filter, map, take, drop, Option, Some, None}
use Rattle.std.specs.Ordering.{nat_cmp}
use Rattle.std.specs.Cmp.Lexicographic.{slice_cmp}
use Rattle.std.specs.BTreeMap.Range.{entries_between}
use Rattle.std.specs.declared.ops.Bound.TheVariants.{Included, Unbounded}
use Rattle.std.specs.List.{starts_with}
use Rattle.sx_names.specs.Names.{fold}
use Rattle.sx_names.specs.declared.page.NameItem.{NameItem}
use Rattle.sx_names.specs.declared.page.NamesPage.{NamesPage}
use Rattle.sx_tree.specs.Node.{is_directory, kind_length}
use Rattle.sx_tree.specs.Tree.{Nodes, Slot, slot_at}

-- the items of a page of so many: those of the first elements of what is listed
abbrev pub page_items : {A B : Type 0} → (A → B) → ℕ → List A → List B
page_items item max all = map item (take max all)

-- the marker of the first element, and nothing where there is none
abbrev pub first_marker : {A : Type 0} → (A → List ℕ) → List A → List ℕ
first_marker marker [] = []
first_marker marker (x ∷ xs) = marker x

-- the marker in which the page after one of so many starts: that of the first element that is left, and else empty
abbrev pub page_next : {A : Type 0} → (A → List ℕ) → ℕ → List A → List ℕ
page_next marker max all = first_marker marker (drop max all)

-- of some folded names in order, with their ids, those from a marker on that begin with a prefix
abbrev pub names_between : List ℕ → List ℕ → List (List ℕ × ℕ) → List (List ℕ × ℕ)
names_between prefix marker names =
    filter (λ e. starts_with ◌==◌ e.0 prefix)
    (entries_between (slice_cmp nat_cmp) (Included marker) Unbounded names)

-- the folded names below a slot, in order, with their ids
abbrev pub names_in : Option Slot → List (List ℕ × ℕ)
names_in None = []
names_in (Some s) = s.below

-- the folded names in a directory that begin with a folded prefix, from a marker on, in order, with their ids
abbrev pub names_from : Nodes → ℕ → List ℕ → List ℕ → List (List ℕ × ℕ)
names_from t dir prefix marker = names_between (fold prefix) marker (names_in (slot_at t dir))

-- a name as it is kept, and an empty one where there is none
abbrev pub kept_or_empty : Option (List ℕ) → List ℕ
kept_or_empty None = []
kept_or_empty (Some name) = name

-- a name folded, and an empty one where there is none
abbrev pub folded_or_empty : Option (List ℕ) → List ℕ
folded_or_empty None = []
folded_or_empty (Some name) = fold name

-- what is shown of what stands at an id
abbrev pub slot_item : ℕ → Option Slot → NameItem
slot_item id None = record { name = []; dir = false; id = id; length = 0 }
slot_item id (Some s) = record {
  name = kept_or_empty s.name;
  dir = is_directory s.node.kind;
  id = id;
  length = kind_length s.node.kind;
}

-- what is shown of an id that is listed under a folded name
abbrev pub item_of : Nodes → List ℕ × ℕ → NameItem
item_of t listed = slot_item listed.1 (slot_at t listed.1)

-- the folded name of what stands in a slot
abbrev pub slot_name : Option Slot → List ℕ
slot_name None = []
slot_name (Some s) = folded_or_empty s.name

-- the folded name of the node of an id that is listed
abbrev pub folded_name : Nodes → List ℕ × ℕ → List ℕ
folded_name t listed = slot_name (slot_at t listed.1)

-- a page of so many of the names in a directory that begin with a prefix, from a folded name on
abbrev pub names_page : Nodes → ℕ → List ℕ → List ℕ → ℕ → NamesPage
names_page t dir prefix marker max = record {
  prefix = prefix;
  marker = marker;
  max = max;
  items = page_items (item_of t) max (names_from t dir prefix marker);
  next = page_next (folded_name t) max (names_from t dir prefix marker);
}
