-- The words of a line, with one space between each two.
use Rattle.std.specs.Prelude.{ℕ, ◌-◌, ◌==◌, Bool, List, length, take, drop, slice_index, if◌then◌else◌, Option}
use Rattle.std.specs.Prelude.{Some, None, Ok, Err}
use Rattle.std.specs.List.{before_first, position_or_len}
use Rattle.sx_lines.specs.Reading.{Reading}

-- ` `
abbrev pub is_space : ℕ → Bool
is_space b = b == 32

-- the line without one carriage return at its end
abbrev pub without_return : List ℕ → List ℕ
without_return line = if slice_index line (length line - 1) == 13 then take (length line - 1) line else line

-- the first word of a text
abbrev pub first_word : List ℕ → List ℕ
first_word text = before_first is_space text

-- what stands behind the first word of a text: nothing, or a space and what follows it
abbrev pub behind_first : List ℕ → List ℕ
behind_first text = drop (position_or_len is_space text) text

-- the next word, by what stands behind the word before it; where no word stands there it is empty, which no field is
unfoldable pub next_word : List ℕ → List ℕ
next_word behind = first_word (drop 1 behind)

-- what stands behind the next word
unfoldable pub behind_next : List ℕ → List ℕ
behind_next behind = behind_first (drop 1 behind)

-- what the next word spells; else how much of the line is left from its place on, which is its end where it is missing
abbrev pub judged : {A : Type 0} → List ℕ → Option A → Reading A
judged behind None = Err (length behind - 1)
judged behind (Some a) = Ok a

-- no word stands there any more
unfoldable pub end_of : List ℕ → Reading (Unit {0})
end_of behind = if length behind == 0 then Ok tt else Err (length behind - 1)
