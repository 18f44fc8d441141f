-- The parts of an answer, and their texts.
use Rattle.std.specs.Prelude.{codes, ℕ, ◌&&◌, ◌||◌, ◌++◌, Bool, false, map, if◌then◌else◌, List, [], ◌∷◌}
use Rattle.std.specs.List.{concat, flat_map, join_with_byte}
use Rattle.std.specs.Fmt.{decimal}
use Rattle.hex.specs.Hex.{encode_lower}
use Rattle.sx_names.specs.declared.attributes.Attributes.{Attributes}
use Rattle.sx_listing.specs.Percent.{percent_text}
use Rattle.sx_reply.specs.Values.{text_if}
use Rattle.sx_names.specs.declared.page.NameItem.{NameItem}
use Rattle.sx_lines.specs.declared.gather.Word.{Word}
use Rattle.sx_lines.specs.declared.gather.Word.TheVariants.{Text, Number, Hex, Percent}
use Rattle.sx_lines.specs.declared.middle.Middle.{Middle}
use Rattle.sx_lines.specs.declared.middle.Middle.TheVariants.{View, Attributes as AttributeWords, Items, Path}

-- bytes as they stand, a number in decimal digits, bytes in lower-case hexadecimal digits, and bytes in
-- percent-encoding
abbrev pub word_text : Word → List ℕ
word_text (Text bytes) = bytes.now
word_text (Number n) = decimal n
word_text (Hex bytes) = encode_lower bytes.now
word_text (Percent bytes) = percent_text bytes.now

-- the words whose flags are set, with `|` between them, behind another such word or none; `None` where there is none
abbrev pub words_joined : Bool → List (Bool × List ℕ) → List ℕ
words_joined before [] = concat ((if before then [] else codes "None") ∷ [])
words_joined before (w ∷ words) =
    text_if (w.0 && before) (codes "|") ++ (text_if w.0 w.1 ++ words_joined (before || w.0) words)

-- the attributes that are set, in the order of the File service
unfoldable pub attributes_text : Attributes → List ℕ
attributes_text a =
    words_joined false (
    (a.read_only, codes "ReadOnly") ∷ (a.hidden, codes "Hidden") ∷ (a.system, codes "System")
    ∷ (a.archive, codes "Archive") ∷ (a.temporary, codes "Temporary") ∷ (a.offline, codes "Offline")
    ∷ (a.not_content_indexed, codes "NotContentIndexed") ∷ (a.no_scrub_data, codes "NoScrubData")
    ∷ (a.directory, codes "Directory") ∷ [])

-- ` dir:0:NAME` or ` file:LENGTH:NAME`
unfoldable pub item_text : NameItem → List ℕ
item_text item =
    if item.dir then concat (codes " dir:0:" ∷ percent_text item.name ∷ [])
    else concat (codes " file:" ∷ decimal item.length ∷ codes ":" ∷ percent_text item.name ∷ [])

-- a part of a path in percent-encoding, with a slash before it
abbrev pub slashed : List ℕ → List ℕ
slashed part = concat (codes "/" ∷ percent_text part ∷ [])

-- the parts of a path in percent-encoding one by one, with slashes between them
abbrev pub path_text : List (List ℕ) → List ℕ
path_text parts = join_with_byte 47 (map percent_text parts)

-- the part in the middle of a line: bytes in hexadecimal digits, attributes, items, or a path
abbrev pub middle_text : Middle → List ℕ
middle_text (View view) = encode_lower view.now
middle_text (AttributeWords attributes) = attributes_text attributes.now
middle_text (Items items) = flat_map item_text items.now
middle_text (Path parts) = path_text parts.now
