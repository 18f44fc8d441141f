-- Reading the body that lists shares.
use Rattle.std.specs.Prelude.{codes, ◌≡◌, ℕ, true, List, Option, Some, None, Ok}
use Rattle.std.specs.List.{AllByRecursion}
use Rattle.std.specs.Str.{is_utf8}
use Rattle.sx_names.specs.Limits.{IsPageSize, IsQuota}
use Rattle.sx_base.specs.Moment.{IsWritten}
use Rattle.sx_base.specs.MomentReader.{moment_at}
use Rattle.sx_base.specs.Date.{IsDated}
use Rattle.sx_base.specs.DateReader.{date_at}
use Rattle.sx_call.specs.declared.pages.ShareItem.{ShareItem}
use Rattle.sx_call.specs.declared.pages.SharesPage.{SharesPage}
use Rattle.sx_text.specs.Texts.{Reader}
use Rattle.sx_text.specs.Readers.{pair_at, closed_at, made_at, after, either_at, all_values_at}
use Rattle.sx_text.specs.Numbers.{number_after, IsFrom}
use Rattle.sx_text.specs.Hex.{hex_after}
use Rattle.sx_text.specs.Escapes.{escaped_after}
use Rattle.sx_listing.specs.Body.{greatest_64}

-- none for a share as it stands, or the moment of a snapshot, which has a text
abbrev pub IsSnapshot : Option ℕ → Type 0
IsSnapshot None = Unit {0}
IsSnapshot (Some moment) = IsWritten moment

-- a share or a snapshot whose name is a text, with moments that have a text, the change time in whole seconds, a number
-- of 64 bits for the ETag, and a quota
pub record IsShare (item : ShareItem) : Type 0 where
  pub name : is_utf8 item.name ≡ true
  pub snapshot : IsSnapshot item.snapshot
  pub changed : IsDated item.changed
  pub etag : IsFrom 0 greatest_64 item.etag
  pub quota : IsQuota item.quota

-- a page of texts and shares, with a size of 1 to 5,000
pub record AreShares (page : SharesPage) : Type 0 where
  pub prefix : is_utf8 page.prefix ≡ true
  pub marker : is_utf8 page.marker ≡ true
  pub max : IsPageSize page.max
  pub items : AllByRecursion IsShare page.items
  pub next : is_utf8 page.next ≡ true

-- a name, and the moment of a snapshot
abbrev pub Named : Type 0
Named = List ℕ × Option ℕ

-- change time, ETag and quota
abbrev pub Properties : Type 0
Properties = ℕ × (ℕ × ℕ)

-- prefix, marker and size of the page
abbrev pub Asked : Type 0
Asked = List ℕ × (List ℕ × ℕ)

-- the item of these parts
abbrev pub share_of : Named × Properties → ShareItem
share_of x = record { name = x.0.0; snapshot = x.0.1; changed = x.1.0; etag = x.1.1.0; quota = x.1.1.1 }

-- the page of what was asked for, its items and the next marker
abbrev pub page_of : Asked × (List ShareItem × List ℕ) → SharesPage
page_of x = record { prefix = x.0.0; marker = x.0.1.0; max = x.0.1.1; items = x.1.0; next = x.1.1 }

-- the moment of a snapshot, and the tag of the properties
unfoldable pub snapshot_at : Reader ℕ (Option ℕ)
snapshot_at bytes = made_at (λ moment. Some moment)
    (closed_at (after (codes "Snapshot>") moment_at) (codes "</Snapshot><Properties>")) bytes

-- no snapshot, and the tag of the properties
unfoldable pub standing_at : Reader ℕ (Option ℕ)
standing_at bytes = after (codes "Properties>") (λ rest. Ok (None, rest)) bytes

-- a snapshot where `S` stands at the front, and else none
unfoldable pub choice_at : Reader ℕ (Option ℕ)
choice_at bytes = either_at 83 snapshot_at standing_at bytes

-- the name without the `<` at the item's front, and the moment of a snapshot, up to the tag of the properties
unfoldable pub named_at : Reader ℕ Named
named_at bytes = pair_at (escaped_after (codes "Share><Name>")) (λ name. after (codes "/Name><") choice_at) bytes

-- the change time
unfoldable pub changed_at : Reader ℕ ℕ
changed_at bytes = after (codes "<Last-Modified>") date_at bytes

-- the quota, and the `<` of what follows the item
unfoldable pub quota_at : Reader ℕ ℕ
quota_at bytes = closed_at (number_after (codes "\"</Etag><Quota>") 60 1 5120)
    (codes "/Quota></Properties></Share><") bytes

-- the properties behind their tag
unfoldable pub properties_at : Reader ℕ Properties
properties_at bytes = pair_at changed_at
    (λ changed. pair_at (hex_after (codes "</Last-Modified><Etag>\"0x") 15) (λ etag. quota_at)) bytes

-- a share or a snapshot without the `<` at its front, and with that of what follows it
unfoldable pub share_at : Reader ℕ ShareItem
share_at bytes = made_at share_of (pair_at named_at (λ named. properties_at)) bytes

-- the marker and the size of the page
unfoldable pub marked_at : Reader ℕ (List ℕ × ℕ)
marked_at bytes = pair_at (escaped_after (codes "/Prefix><Marker>"))
    (λ marker. number_after (codes "/Marker><MaxResults>") 60 1 5000) bytes

-- what was asked for, from the beginning on
unfoldable pub asked_at : Reader ℕ Asked
asked_at bytes =
    pair_at (escaped_after (codes "<?xml version=\"1.0\" encoding=\"utf-8\"?><EnumerationResults><Prefix>"))
    (λ prefix. marked_at) bytes

-- the items, with what stands in front of them and the `/` behind them
unfoldable pub items_at : Reader ℕ (List ShareItem)
items_at bytes = after (codes "/MaxResults><Shares><") (all_values_at 47 share_at) bytes

-- the next marker, to the end
unfoldable pub next_at : Reader ℕ (List ℕ)
next_at bytes =
    closed_at (escaped_after (codes "Shares><NextMarker>")) (codes "/NextMarker></EnumerationResults>") bytes

-- the items and the next marker
unfoldable pub answered_at : Reader ℕ (List ShareItem × List ℕ)
answered_at bytes = pair_at items_at (λ items. next_at) bytes

-- the page of a whole body
unfoldable pub shares_at : Reader ℕ SharesPage
shares_at bytes = made_at page_of (pair_at asked_at (λ asked. answered_at)) bytes
