-- A text of words, made word by word.
use Rattle.std.specs.Prelude.{ℕ, ◌==◌, ◌++◌, Bool, if◌then◌else◌, List, ◌∷◌, length, codes}
use Rattle.sx_names.specs.declared.attributes.Attributes.{Attributes}

-- a word, behind a bar where others stand before it
abbrev pub barred : List ℕ → List ℕ → List ℕ
barred text word = if length text == 0 then word else 124 ∷ word

-- words with one more, where it is said
abbrev pub with_word : List ℕ → Bool → List ℕ → List ℕ
with_word text said word = if said then text ++ barred text word else text

-- words, or `None` where there are none
abbrev pub or_none : List ℕ → List ℕ
or_none text = if length text == 0 then codes "None" else text

-- words with those of the first four attributes
abbrev pub with_former : List ℕ → Attributes → List ℕ
with_former text a =
    with_word (with_word (with_word (with_word text a.read_only (codes "ReadOnly")) a.hidden (codes "Hidden"))
    a.system (codes "System")) a.archive (codes "Archive")

-- words with those of the next four
abbrev pub with_latter : List ℕ → Attributes → List ℕ
with_latter text a =
    with_word (with_word (with_word (with_word text a.temporary (codes "Temporary")) a.offline (codes "Offline"))
    a.not_content_indexed (codes "NotContentIndexed")) a.no_scrub_data (codes "NoScrubData")
