-- Reading the body that lists a directory.
use Rattle.std.specs.Prelude.{codes, ◌≡◌, ℕ, Bool, true, false, List, ◌⊎◌}
use Rattle.std.specs.List.{AllByRecursion}
use Rattle.std.specs.Str.{is_utf8}
use Rattle.sx_names.specs.Limits.{IsPageSize}
use Rattle.sx_names.specs.declared.page.NameItem.{NameItem}
use Rattle.sx_names.specs.declared.page.NamesPage.{NamesPage}
use Rattle.sx_text.specs.Texts.{Reader}
use Rattle.sx_text.specs.Readers.{pair_at, closed_at, made_at, after, either_at, all_values_at}
use Rattle.sx_text.specs.Numbers.{number_after, IsFrom}
use Rattle.sx_text.specs.Escapes.{escaped_after}
use Rattle.sx_listing.specs.Body.{greatest_64}
use Rattle.sx_listing.specs.PercentReader.{percent_after}

-- a file of a name that is a text, with an id and a length of 64 bits
abbrev pub IsFile : NameItem → Type 0
IsFile item =
    (item.dir ≡ false) × (is_utf8 item.name ≡ true) × IsFrom 0 greatest_64 item.id × IsFrom 0 greatest_64 item.length

-- a directory of a name that is a text, with an id of 64 bits; its length, which isn't shown, is 0
abbrev pub IsDirectory : NameItem → Type 0
IsDirectory item = (item.dir ≡ true) × (is_utf8 item.name ≡ true) × IsFrom 0 greatest_64 item.id × (item.length ≡ 0)

-- a file or a directory
abbrev pub IsName : NameItem → Type 0
IsName item = IsFile item ⊎ IsDirectory item

-- a page of texts, with a size of 1 to 5,000
abbrev pub IsNames : NamesPage → Type 0
IsNames page =
    (is_utf8 page.prefix ≡ true) × (is_utf8 page.marker ≡ true) × IsPageSize page.max × AllByRecursion IsName page.items
    × (is_utf8 page.next ≡ true)

-- the item of a name, an id, what it is and a length
abbrev pub item_of : (List ℕ × ℕ) × (Bool × ℕ) → NameItem
item_of x = record { name = x.0.0; dir = x.1.0; id = x.0.1; length = x.1.1 }

-- the file of a name and an id, and of a length
abbrev pub file_of : (List ℕ × ℕ) × ℕ → NameItem
file_of x = item_of (x.0, (false, x.1))

-- the directory of a name and an id
abbrev pub directory_of : List ℕ × ℕ → NameItem
directory_of x = item_of (x, (true, 0))

-- the page of what was asked for, its items and the next marker
abbrev pub page_of : (List ℕ × (List ℕ × ℕ)) × (List NameItem × List ℕ) → NamesPage
page_of x = record { prefix = x.0.0; marker = x.0.1.0; max = x.0.1.1; items = x.1.0; next = x.1.1 }

-- a name and an id, with the tag in front of them
unfoldable pub name_and_id_at : List ℕ → Reader ℕ (List ℕ × ℕ)
name_and_id_at tag bytes =
    pair_at (escaped_after tag) (λ name. number_after (codes "/Name><FileId>") 60 0 greatest_64) bytes

-- the length of a file, and the `<` of what follows the file
unfoldable pub length_at : Reader ℕ ℕ
length_at bytes =
    closed_at (number_after (codes "/FileId><Properties><Content-Length>") 60 0 greatest_64)
    (codes "/Content-Length></Properties></File><") bytes

-- a file without the `<` at its front, and with that of what follows it
unfoldable pub file_at : Reader ℕ NameItem
file_at bytes = made_at file_of (pair_at (name_and_id_at (codes "File><Name>")) (λ named. length_at)) bytes

-- a directory without the `<` at its front, and with that of what follows it
unfoldable pub directory_at : Reader ℕ NameItem
directory_at bytes =
    made_at directory_of
    (closed_at (name_and_id_at (codes "Directory><Name>")) (codes "/FileId><Properties></Properties></Directory><"))
    bytes

-- a file where `F` stands at the front, and else a directory
unfoldable pub name_at : Reader ℕ NameItem
name_at bytes = either_at 70 file_at directory_at bytes

-- what was asked for, from the beginning on
unfoldable pub asked_at : Reader ℕ (List ℕ × (List ℕ × ℕ))
asked_at bytes =
    pair_at (escaped_after (codes "<?xml version=\"1.0\" encoding=\"utf-8\"?><EnumerationResults><Prefix>"))
    (λ prefix. pair_at (percent_after (codes "/Prefix><Marker>"))
    (λ marker. number_after (codes "/Marker><MaxResults>") 60 1 5000)) bytes

-- the items, with what stands in front of them and the `/` behind them
unfoldable pub entries_at : Reader ℕ (List NameItem)
entries_at bytes = after (codes "/MaxResults><Entries><") (all_values_at 47 name_at) bytes

-- the next marker, to the end
unfoldable pub next_at : Reader ℕ (List ℕ)
next_at bytes =
    closed_at (percent_after (codes "Entries><NextMarker>")) (codes "/NextMarker></EnumerationResults>") bytes

-- the items and the next marker
unfoldable pub answered_at : Reader ℕ (List NameItem × List ℕ)
answered_at bytes = pair_at entries_at (λ items. next_at) bytes

-- the page of a whole body
unfoldable pub names_at : Reader ℕ NamesPage
names_at bytes = made_at page_of (pair_at asked_at (λ asked. answered_at)) bytes
