-- The body that lists shares ("List Shares" of Azure Files): its text.
use Rattle.std.specs.Prelude.{codes, ℕ, List, [], ◌∷◌, Option, Some, None}
use Rattle.std.specs.List.{concat, flat_map}
use Rattle.std.specs.Fmt.{decimal}
use Rattle.sx_base.specs.Moment.{moment_text}
use Rattle.sx_base.specs.Date.{date_text}
use Rattle.sx_text.specs.Hex.{hex_text}
use Rattle.sx_text.specs.Escapes.{escaped}
use Rattle.sx_call.specs.declared.pages.ShareItem.{ShareItem}
use Rattle.sx_call.specs.declared.pages.SharesPage.{SharesPage}

-- a snapshot's moment; a share as it stands has none
abbrev pub snapshot_text : Option ℕ → List ℕ
snapshot_text None = []
snapshot_text (Some moment) = concat (codes "<Snapshot>" ∷ moment_text moment ∷ codes "</Snapshot>" ∷ [])

-- when and by which entry it was changed, and its quota
unfoldable pub properties_text : ShareItem → List ℕ
properties_text item =
    concat (
    codes "<Properties><Last-Modified>" ∷ date_text item.changed
    ∷ codes "</Last-Modified><Etag>\"0x" ∷ hex_text 16 item.etag
    ∷ codes "\"</Etag><Quota>" ∷ decimal item.quota
    ∷ codes "</Quota></Properties>" ∷ [])

-- a share or a snapshot
unfoldable pub share_text : ShareItem → List ℕ
share_text item =
    concat (
    codes "<Share><Name>" ∷ escaped item.name
    ∷ codes "</Name>" ∷ snapshot_text item.snapshot
    ∷ properties_text item
    ∷ codes "</Share>" ∷ [])

-- what was asked for
unfoldable pub shares_asked_text : SharesPage → List ℕ
shares_asked_text page =
    concat (
    codes "<Prefix>" ∷ escaped page.prefix
    ∷ codes "</Prefix><Marker>" ∷ escaped page.marker
    ∷ codes "</Marker><MaxResults>" ∷ decimal page.max
    ∷ codes "</MaxResults>" ∷ [])

-- the whole body
unfoldable pub shares_text : SharesPage → List ℕ
shares_text page =
    concat (
    codes "<?xml version=\"1.0\" encoding=\"utf-8\"?><EnumerationResults>" ∷ shares_asked_text page
    ∷ codes "<Shares>" ∷ flat_map share_text page.items
    ∷ codes "</Shares><NextMarker>" ∷ escaped page.next
    ∷ codes "</NextMarker></EnumerationResults>" ∷ [])
