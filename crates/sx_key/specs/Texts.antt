-- Texts in the order of their bytes, each once, and in a row.
use Rattle.std.specs.Prelude.{ℕ, List, [], ◌∷◌, ◌++◌, bytes_eq, if◌then◌else◌}
use Rattle.std.specs.List.{dedup, join_with_byte}
use Rattle.std.specs.Ordering.{nat_cmp, is_gt}
use Rattle.std.specs.Cmp.Lexicographic.{slice_cmp}
use Rattle.std.specs.declared.cmp.Ordering.{Ordering}

-- the order of texts by their bytes
abbrev pub byte_order : List ℕ → List ℕ → Ordering
byte_order a b = slice_cmp nat_cmp a b

-- a text put before the first that isn't below it
abbrev pub insert_text : List ℕ → List (List ℕ) → List (List ℕ)
insert_text text [] = text ∷ []
insert_text text (t ∷ ts) = if is_gt (byte_order text t) then t ∷ insert_text text ts else text ∷ t ∷ ts

-- texts in the order of bytes: their one ordered permutation
abbrev pub sorted_texts : List (List ℕ) → List (List ℕ)
sorted_texts [] = []
sorted_texts (t ∷ ts) = insert_text t (sorted_texts ts)

-- each text once, in the order of bytes: the one strictly rising list with the same members
abbrev pub distinct_texts : List (List ℕ) → List (List ℕ)
distinct_texts texts = dedup bytes_eq (sorted_texts texts)

-- texts in a row, with a comma between each two
abbrev pub joined_text : List (List ℕ) → List ℕ
joined_text texts = join_with_byte 44 texts

-- a text with a line feed behind it
abbrev pub text_line : List ℕ → List ℕ
text_line text = text ++ 10 ∷ []
