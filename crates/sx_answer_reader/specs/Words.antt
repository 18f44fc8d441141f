-- The next word of a line and what it spells, by what stands behind the word before it.
use Rattle.std.specs.Prelude.{ℕ, ◌==◌, Bool, true, false, bytes_eq, codes, List, [], ◌∷◌, length, if◌then◌else◌}
use Rattle.std.specs.Prelude.{Option, Some, None}
use Rattle.sx_call.specs.declared.replies.Fate.{Fate}
use Rattle.sx_call.specs.declared.replies.Fate.TheVariants.{Kept, Pending, Gone}
use Rattle.sx_lines.specs.Reading.{when_some}
use Rattle.sx_lines.specs.Words.{next_word}
use Rattle.sx_lines.specs.Fields.{number_in, hex_bytes_of}
use Rattle.sx_answer_reader.specs.Answers.{hex_text}

-- no word stands there any more
unfoldable pub end_of : List ℕ → Option (Unit {0})
end_of behind = if length behind == 0 then Some tt else None

-- a number of 64 bits
unfoldable pub number : List ℕ → Option ℕ
number behind = number_in 0 18446744073709551615 (next_word behind)

-- a number of 32 bits
unfoldable pub count : List ℕ → Option ℕ
count behind = number_in 0 4294967295 (next_word behind)

-- the index of a handle
unfoldable pub index : List ℕ → Option ℕ
index behind = number_in 1 4294967295 (next_word behind)

-- what a word stands for, by a table
abbrev pub found : {A : Type 0} → List (List ℕ × A) → List ℕ → Option A
found [] word = None
found (row ∷ rows) word = if bytes_eq word row.0 then Some row.1 else found rows word

-- one of two words: whether it is the first
unfoldable pub choice : List ℕ → List ℕ → List ℕ → Option Bool
choice first second behind = found ((first, true) ∷ (second, false) ∷ []) (next_word behind)

-- what a file or directory is after a close
unfoldable pub fate : List ℕ → Option Fate
fate behind =
    found ((codes "kept", Kept) ∷ (codes "pending", Pending) ∷ (codes "gone", Gone) ∷ []) (next_word behind)

-- a word that must stand there
unfoldable pub literal : List ℕ → List ℕ → Option (Unit {0})
literal word behind = if bytes_eq (next_word behind) word then Some tt else None

-- the bytes of hexadecimal digits in either case, and none of `-`
abbrev pub digits_or_dash : List ℕ → Option (List ℕ)
digits_or_dash word = if bytes_eq word (codes "-") then Some [] else hex_bytes_of word

-- bytes, where the word is how they are written
abbrev pub written_as : List ℕ → List ℕ → Option (List ℕ)
written_as bytes word = if bytes_eq (hex_text bytes) word then Some bytes else None

-- the bytes that a word is how to write
unfoldable pub bytes_of : List ℕ → Option (List ℕ)
bytes_of word = when_some (digits_or_dash word) (λ bytes. written_as bytes word)
