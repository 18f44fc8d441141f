-- The names of a page, each as a word of three fields with `:` between them.
use Rattle.std.specs.Prelude.{ℕ, zero, suc, ◌==◌, ◌&&◌, not, Bool, true, false, bytes_eq, codes, List, [], ◌∷◌, drop}
use Rattle.std.specs.Prelude.{if◌then◌else◌, Option, Some, None}
use Rattle.std.specs.List.{before_first, position_or_len}
use Rattle.std.specs.Str.{is_utf8}
use Rattle.percent_encoding.specs.Percent.{percent_decode}
use Rattle.sx_listing.specs.Percent.{percent_text}
use Rattle.sx_lines.specs.Answers.{next_text}
use Rattle.sx_lines.specs.Fields.{number_in}
use Rattle.sx_lines.specs.Reading.{when_some}
use Rattle.sx_lines.specs.Words.{next_word, behind_next}
use Rattle.sx_answer_reader.specs.declared.answer.Entry.{Entry}
use Rattle.sx_answer_reader.specs.Words.{end_of, found}

-- bytes as a name, where a word is how it is written
abbrev pub named_as : List ℕ → List ℕ → Option (List ℕ)
named_as name word = if is_utf8 name && bytes_eq (percent_text name) word then Some name else None

-- the name that a word is how to write
unfoldable pub name_of : List ℕ → Option (List ℕ)
name_of word = named_as (percent_decode word) word

-- what a word stands for, and nothing of `*`
abbrev pub decoded_or_star : List ℕ → List ℕ
decoded_or_star word = if bytes_eq word (codes "*") then [] else percent_decode word

-- bytes as the name in which the next page begins, where a word is how it is written
abbrev pub next_named : List ℕ → List ℕ → Option (List ℕ)
next_named name word = if is_utf8 name && bytes_eq (next_text name) word then Some name else None

-- the name in which the next page begins, which is empty at the end
unfoldable pub next_of : List ℕ → Option (List ℕ)
next_of word = next_named (decoded_or_star word) word

-- `:`
abbrev pub is_colon : ℕ → Bool
is_colon b = b == 58

-- what stands behind the first field of a text: nothing, or a colon and what follows it
abbrev pub behind_field : List ℕ → List ℕ
behind_field text = drop (position_or_len is_colon text) text

-- whether it is a directory's, by the first field
abbrev pub kind_in : List ℕ → Option Bool
kind_in word = found ((codes "dir", true) ∷ (codes "file", false) ∷ []) (before_first is_colon word)

-- the length, behind the kind
abbrev pub length_in : List ℕ → Option ℕ
length_in text = number_in 0 18446744073709551615 (before_first is_colon text)

-- the name behind a colon
abbrev pub colon_name : List ℕ → Option (List ℕ)
colon_name [] = None
colon_name (b ∷ word) = name_of word

-- the entry of a kind, a length and a name; a directory has no length
abbrev pub of_kind : Bool → ℕ → List ℕ → Option Entry
of_kind dir length name =
    if dir && not (length == 0) then None else Some (record { dir = dir; length = length; name = name })

-- `file:LENGTH:NAME` or `dir:0:NAME`
unfoldable pub entry_of : List ℕ → Option Entry
entry_of word =
    let text = drop 1 (behind_field word) in
    when_some (kind_in word) (λ dir.
    when_some (length_in text) (λ length.
    when_some (colon_name (behind_field text)) (λ name.
    of_kind dir length name)))

-- so many entries, up to the end of the line
unfoldable pub entries_of : ℕ → List ℕ → Option (List Entry)
entries_of zero behind = when_some (end_of behind) (λ _. Some [])
entries_of (suc count) behind =
    when_some (entry_of (next_word behind)) (λ entry.
    when_some (entries_of count (behind_next behind)) (λ entries.
    Some (entry ∷ entries)))
