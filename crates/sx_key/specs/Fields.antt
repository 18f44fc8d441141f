-- Names with their values, which are canonical headers or a query's parameters, and the lines in which each name
-- stands once.
use Rattle.std.specs.Prelude.{ℕ, ◌≡◌, ◌+◌, List, [], ◌∷◌, map, ◌++◌, not, bytes_eq, codes}
use Rattle.std.specs.List.{filter, flat_map, dedup, position_or_len}
use Rattle.std.specs.List.Sorted.{IsPermutation, IsSortedByKey}
use Rattle.sx_key.specs.Texts.{byte_order, distinct_texts, joined_text}
use Rattle.sx_key.specs.declared.fields.Field.{Field}

-- the values of the fields of a name, in their order
abbrev pub field_values : List ℕ → List Field → List (List ℕ)
field_values name fields = map (λ (f : Field). f.value) (filter (λ (f : Field). bytes_eq f.name name) fields)

-- each name of the fields once, in the order of bytes
abbrev pub field_names : List Field → List (List ℕ)
field_names fields = distinct_texts (map (λ (f : Field). f.name) fields)

-- the fields in the order of their names, where those of one name stay in their order
pub record IsGrouping (old new : List Field) : Type 0 where
  pub same : IsPermutation old new
  pub ordered : IsSortedByKey (λ (f : Field). f.name) byte_order new
  pub stable : (name : List ℕ) → field_values name new ≡ field_values name old

-- `NAME:VALUES` between two texts
abbrev pub group_line : List ℕ → List ℕ → List Field → List ℕ → List ℕ
group_line before after fields name = before ++ name ++ codes ":" ++ joined_text (field_values name fields) ++ after

-- a line for each name of fields in which equal names stand together
abbrev pub group_lines : List ℕ → List ℕ → List Field → List ℕ
group_lines before after fields = flat_map (group_line before after fields)
    (dedup bytes_eq (map (λ (f : Field). f.name) fields))

-- the line of fields that have the first one's name
abbrev pub run_line : List ℕ → List ℕ → List Field → List ℕ
run_line before after [] = []
run_line before after (f ∷ fs) = before ++ f.name ++ codes ":" ++ joined_text (map (λ (g : Field). g.value) (f ∷ fs))
    ++ after

-- so many fields at the front have the first one's name, and the next one, where there is one, has another
abbrev pub IsRun : ℕ → List Field → Type 0
IsRun n [] = n ≡ 0
IsRun n (f ∷ fs) = n ≡ 1 + position_or_len (λ (g : Field). not (bytes_eq g.name f.name)) fs
