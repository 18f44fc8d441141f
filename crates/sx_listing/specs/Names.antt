-- The body that lists a directory ("List Directories and Files" of Azure Files): its text.
use Rattle.std.specs.Prelude.{codes, ℕ, List, [], ◌∷◌, if◌then◌else◌}
use Rattle.std.specs.List.{concat, flat_map}
use Rattle.std.specs.Fmt.{decimal}
use Rattle.sx_names.specs.declared.page.NameItem.{NameItem}
use Rattle.sx_names.specs.declared.page.NamesPage.{NamesPage}
use Rattle.sx_text.specs.Escapes.{escaped}
use Rattle.sx_listing.specs.Percent.{percent_text}

-- a file: its name, its id and its length
unfoldable pub file_text : NameItem → List ℕ
file_text item =
    concat (
    codes "<File><Name>" ∷ escaped item.name
    ∷ codes "</Name><FileId>" ∷ decimal item.id
    ∷ codes "</FileId><Properties><Content-Length>" ∷ decimal item.length
    ∷ codes "</Content-Length></Properties></File>" ∷ [])

-- a directory: its name and its id
unfoldable pub directory_text : NameItem → List ℕ
directory_text item =
    concat (
    codes "<Directory><Name>" ∷ escaped item.name
    ∷ codes "</Name><FileId>" ∷ decimal item.id
    ∷ codes "</FileId><Properties></Properties></Directory>" ∷ [])

-- a file or a directory
abbrev pub name_text : NameItem → List ℕ
name_text item = if item.dir then directory_text item else file_text item

-- what was asked for
unfoldable pub asked_text : NamesPage → List ℕ
asked_text page =
    concat (
    codes "<Prefix>" ∷ escaped page.prefix
    ∷ codes "</Prefix><Marker>" ∷ percent_text page.marker
    ∷ codes "</Marker><MaxResults>" ∷ decimal page.max
    ∷ codes "</MaxResults>" ∷ [])

-- the whole body
unfoldable pub names_text : NamesPage → List ℕ
names_text page =
    concat (
    codes "<?xml version=\"1.0\" encoding=\"utf-8\"?><EnumerationResults>" ∷ asked_text page
    ∷ codes "<Entries>" ∷ flat_map name_text page.items
    ∷ codes "</Entries><NextMarker>" ∷ percent_text page.next
    ∷ codes "</NextMarker></EnumerationResults>" ∷ [])
