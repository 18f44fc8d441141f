-- Words of values, which are compared without ASCII case.
use Rattle.std.specs.Prelude.{ℕ, ◌==◌, ◌&&◌, ◌||◌, Bool, not, nat_le, List, length, map, bytes_eq, take, drop}
use Rattle.std.specs.List.{list_all, position_or_len}
use Rattle.std.specs.Char.{to_ascii_lowercase}

-- the value is this word, without ASCII case
unfoldable pub is_word : List ℕ → List ℕ → Bool
is_word word value = bytes_eq (map to_ascii_lowercase value) (map to_ascii_lowercase word)

-- a space, or, where tabs may stand, a tab
abbrev pub is_blank : Bool → ℕ → Bool
is_blank tabs b = b == 32 || (tabs && b == 9)

-- a byte of a word
abbrev pub is_other : Bool → ℕ → Bool
is_other tabs b = not (is_blank tabs b)

-- the value behind the blanks in front
abbrev pub behind_blanks : Bool → List ℕ → List ℕ
behind_blanks tabs value = drop (position_or_len (is_other tabs) value) value

-- the word stands at the front, and only blanks behind it
abbrev pub is_word_in_front : Bool → List ℕ → List ℕ → Bool
is_word_in_front tabs word text =
    nat_le (length word) (length text)
    && (is_word word (take (length word) text) && list_all (is_blank tabs) (drop (length word) text))

-- the value is this word with blanks round it
unfoldable pub is_word_in_blanks : Bool → List ℕ → List ℕ → Bool
is_word_in_blanks tabs word value = is_word_in_front tabs word (behind_blanks tabs value)
