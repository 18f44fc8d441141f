-- Attributes and times of files and directories.
use Rattle.std.specs.Prelude.{ℕ, ◌==◌, ◌&&◌, ◌||◌, not, nat_le, Bool, false, List, codes, if◌then◌else◌, Option}
use Rattle.std.specs.Prelude.{Some, None, Ok, Err}
use Rattle.std.specs.List.{list_all, list_any, count_by, slice_split}
use Rattle.sx_http.specs.declared.heads.Header.{Header}
use Rattle.sx_names.specs.declared.attributes.Attributes.{Attributes}
use Rattle.sx_call.specs.declared.times.Time.{Time}
use Rattle.sx_call.specs.declared.times.Time.TheVariants.{Keep, Now, At}
use Rattle.sx_call.specs.declared.refusals.Syntax.TheVariants.{Header as BadHeader}
use Rattle.sx_decode.specs.Reading.{Reading, with_next}
use Rattle.sx_decode.specs.Lookup.{one_header}
use Rattle.sx_decode.specs.Moments.{moment_of}
use Rattle.sx_decode.specs.Words.{is_word, is_word_in_blanks}

-- the bar between words
abbrev pub is_bar : ℕ → Bool
is_bar b = b == 124

-- the text is this word with spaces round it
abbrev pub names : List ℕ → List ℕ → Bool
names word text = is_word_in_blanks false word text

-- the text is one of the first four words of attributes
unfoldable pub is_former_attribute : List ℕ → Bool
is_former_attribute text =
    names (codes "ReadOnly") text || names (codes "Hidden") text || names (codes "System") text
    || names (codes "Archive") text

-- the text is one of the next four
unfoldable pub is_latter_attribute : List ℕ → Bool
is_latter_attribute text =
    names (codes "Temporary") text || names (codes "Offline") text || names (codes "NotContentIndexed") text
    || names (codes "NoScrubData") text

-- the text is a word of attributes, `Directory` of those of directories alone
unfoldable pub is_attribute : Bool → List ℕ → Bool
is_attribute directory text =
    is_former_attribute text || is_latter_attribute text || (directory && names (codes "Directory") text)

-- the word stands among them
abbrev pub stands : List ℕ → List (List ℕ) → Bool
stands word texts = list_any (names word) texts

-- the word stands among them at most once
abbrev pub is_once : List ℕ → List (List ℕ) → Bool
is_once word texts = nat_le (count_by (names word) texts) 1

-- each word stands at most once
abbrev pub are_once : List (List ℕ) → Bool
are_once texts =
    is_once (codes "ReadOnly") texts && is_once (codes "Hidden") texts && is_once (codes "System") texts
    && is_once (codes "Archive") texts && is_once (codes "Temporary") texts && is_once (codes "Offline") texts
    && is_once (codes "NotContentIndexed") texts && is_once (codes "NoScrubData") texts
    && is_once (codes "Directory") texts

-- the attributes that words name; those of a directory always say so
abbrev pub attributes_named : Bool → List (List ℕ) → Attributes
attributes_named directory texts = record {
  read_only = stands (codes "ReadOnly") texts;
  hidden = stands (codes "Hidden") texts;
  system = stands (codes "System") texts;
  archive = stands (codes "Archive") texts;
  temporary = stands (codes "Temporary") texts;
  offline = stands (codes "Offline") texts;
  not_content_indexed = stands (codes "NotContentIndexed") texts;
  no_scrub_data = stands (codes "NoScrubData") texts;
  directory = directory;
}

-- none but, of a directory, that which says so, and `archive` where it is wanted
abbrev pub plain_attributes : Bool → Bool → Attributes
plain_attributes archive directory = record {
  read_only = false;
  hidden = false;
  system = false;
  archive = archive;
  temporary = false;
  offline = false;
  not_content_indexed = false;
  no_scrub_data = false;
  directory = directory;
}

-- attributes that words name, each a known one and at most once
unfoldable pub attributes_in : Bool → List (List ℕ) → Reading Attributes
attributes_in directory texts =
    if list_all (is_attribute directory) texts && are_once texts then Ok (attributes_named directory texts)
    else Err (BadHeader (codes "x-ms-file-attributes"))

-- `None`, or words between bars
unfoldable pub attributes_read : Bool → List ℕ → Reading Attributes
attributes_read directory text =
    if is_word (codes "None") text then Ok (plain_attributes false directory)
    else attributes_in directory (slice_split is_bar text)

-- what absence means to a new file or directory: Archive for a file
abbrev pub attributes_or_new : Bool → Option (List ℕ) → Reading Attributes
attributes_or_new directory None = Ok (plain_attributes (not directory) directory)
attributes_or_new directory (Some text) = attributes_read directory text

-- the attributes of a new file or directory
unfoldable pub new_attributes : Bool → List Header → Reading Attributes
new_attributes directory headers =
    with_next (one_header (codes "x-ms-file-attributes") headers) (attributes_or_new directory)

-- `preserve`, which absence means, or the attributes of a file
abbrev pub attributes_or_kept : Option (List ℕ) → Reading (Option Attributes)
attributes_or_kept None = Ok None
attributes_or_kept (Some text) =
    if is_word (codes "preserve") text then Ok None
    else with_next (attributes_read false text) (λ attributes. Ok (Some attributes))

-- the attributes that Set File Properties gives
unfoldable pub set_attributes : List Header → Reading (Option Attributes)
set_attributes headers = with_next (one_header (codes "x-ms-file-attributes") headers) attributes_or_kept

-- the moment that a header's text names
abbrev pub moment_named : List ℕ → Option ℕ → Reading ℕ
moment_named name None = Err (BadHeader name)
moment_named name (Some moment) = Ok moment

-- `now`, which absence means, or a moment
abbrev pub time_or_now : List ℕ → Option (List ℕ) → Reading (Option ℕ)
time_or_now name None = Ok None
time_or_now name (Some text) =
    if is_word (codes "now") text then Ok None
    else with_next (moment_named name (moment_of text)) (λ moment. Ok (Some moment))

-- a time of a new file or directory
unfoldable pub new_time : List ℕ → List Header → Reading (Option ℕ)
new_time name headers = with_next (one_header name headers) (time_or_now name)

-- `preserve`, which absence means, `now`, or a moment
abbrev pub time_or_kept : List ℕ → Option (List ℕ) → Reading Time
time_or_kept name None = Ok Keep
time_or_kept name (Some text) =
    if is_word (codes "preserve") text then Ok Keep
    else if is_word (codes "now") text then Ok Now
    else with_next (moment_named name (moment_of text)) (λ moment. Ok (At moment))

-- a time that Set File Properties gives
unfoldable pub set_time : List ℕ → List Header → Reading Time
set_time name headers = with_next (one_header name headers) (time_or_kept name)
