-- How values are written in headers.
use Rattle.std.specs.Prelude.{codes, ℕ, zero, suc, ◌/◌, ◌%◌, ◌&&◌, ◌||◌, Bool, false, if◌then◌else◌, List, [], ◌∷◌}
use Rattle.std.specs.Prelude.{◌++◌}
use Rattle.std.specs.List.{concat}
use Rattle.std.specs.Int.{w128, to_be_bytes}
use Rattle.uuid.specs.Text.{lower, hyphenated_text}
use Rattle.sx_names.specs.declared.attributes.Attributes.{Attributes}
use Rattle.sx_listing.specs.Percent.{upper_digit}

-- the last so many hexadecimal digits of a number, in upper case
abbrev pub upper_hex : ℕ → ℕ → List ℕ
upper_hex zero n = []
upper_hex (suc count) n = upper_hex count (n / 16) ++ upper_digit (n % 16) ∷ []

-- a number of 128 bits as a UUID (RFC 9562, section 4): five groups of hexadecimal digits in lower case
unfoldable pub uuid_text : ℕ → List ℕ
uuid_text n = hyphenated_text lower (to_be_bytes w128 n)

-- a text, where a condition holds
abbrev pub text_if : Bool → List ℕ → List ℕ
text_if condition text = if condition then text else []

-- the words whose flags are set, with ` | ` between them, behind another such word or none, up to the end of the line;
-- `None` where there is none
abbrev pub words_line : Bool → List (Bool × List ℕ) → List ℕ
words_line before [] = concat ((if before then codes "\r\n" else codes "None\r\n") ∷ [])
words_line before (w ∷ words) =
    text_if (w.0 && before) (codes " | ") ++ (text_if w.0 w.1 ++ words_line (before || w.0) words)

-- the line with the attributes that are set, in the order of the File service
unfoldable pub attributes_line : Attributes → List ℕ
attributes_line a =
    codes "x-ms-file-attributes: " ++ words_line false (
    (a.read_only, codes "ReadOnly") ∷ (a.hidden, codes "Hidden") ∷ (a.system, codes "System")
    ∷ (a.archive, codes "Archive") ∷ (a.temporary, codes "Temporary") ∷ (a.offline, codes "Offline")
    ∷ (a.not_content_indexed, codes "NotContentIndexed") ∷ (a.no_scrub_data, codes "NoScrubData")
    ∷ (a.directory, codes "Directory") ∷ [])
