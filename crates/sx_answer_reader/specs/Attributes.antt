-- The attributes of a file or directory, by their names with `|` between them.
use Rattle.std.specs.Prelude.{ℕ, ◌==◌, Bool, bytes_eq, codes, List, if◌then◌else◌, Option, Some, None}
use Rattle.std.specs.List.{list_any, slice_split}
use Rattle.sx_names.specs.declared.attributes.Attributes.{Attributes}
use Rattle.sx_lines.specs.Printed.{attributes_text}

-- `|`
abbrev pub is_bar : ℕ → Bool
is_bar b = b == 124

-- a name is one of the words that bars part
abbrev pub has_word : List ℕ → List ℕ → Bool
has_word name word = list_any (λ part. bytes_eq part name) (slice_split is_bar word)

-- the attributes whose names stand in a word
abbrev pub named : List ℕ → Attributes
named word =
    record {
      read_only = has_word (codes "ReadOnly") word;
      hidden = has_word (codes "Hidden") word;
      system = has_word (codes "System") word;
      archive = has_word (codes "Archive") word;
      temporary = has_word (codes "Temporary") word;
      offline = has_word (codes "Offline") word;
      not_content_indexed = has_word (codes "NotContentIndexed") word;
      no_scrub_data = has_word (codes "NoScrubData") word;
      directory = has_word (codes "Directory") word;
    }

-- the attributes that a word is how to write: each name at most once, and in order
unfoldable pub attributes_of : List ℕ → Option Attributes
attributes_of word = if bytes_eq (attributes_text (named word)) word then Some (named word) else None
