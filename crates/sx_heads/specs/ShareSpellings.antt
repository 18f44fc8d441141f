-- How the calls on shares are spelled.
use Rattle.std.specs.Prelude.{ℕ, if◌then◌else◌, Bool, List, [], ◌∷◌, codes, decimal, Option, Some, None}
use Rattle.std.specs.Option.{option_map}
use Rattle.sx_base.specs.Moment.{moment_text}
use Rattle.sx_lease.specs.declared.lease.LeaseId.{LeaseId}
use Rattle.sx_call.specs.declared.leases.LeaseAction.{LeaseAction}
use Rattle.sx_call.specs.declared.leases.LeaseAction.TheVariants.{Acquire, Change, Release, Break}
use Rattle.sx_call.specs.declared.share_calls.ListShares.{ListShares}
use Rattle.sx_call.specs.declared.share_calls.CreateShare.{CreateShare}
use Rattle.sx_call.specs.declared.share_calls.GetShareProperties.{GetShareProperties}
use Rattle.sx_call.specs.declared.share_calls.SetShareProperties.{SetShareProperties}
use Rattle.sx_call.specs.declared.share_calls.GetShareMetadata.{GetShareMetadata}
use Rattle.sx_call.specs.declared.share_calls.SetShareMetadata.{SetShareMetadata}
use Rattle.sx_call.specs.declared.share_calls.DeleteShare.{DeleteShare}
use Rattle.sx_call.specs.declared.share_calls.DeleteSnapshot.{DeleteSnapshot}
use Rattle.sx_call.specs.declared.share_calls.SnapshotShare.{SnapshotShare}
use Rattle.sx_call.specs.declared.share_calls.LeaseShare.{LeaseShare}
use Rattle.sx_decode.specs.declared.targets.Place.{Place}
use Rattle.sx_decode.specs.declared.targets.Place.TheVariants.{Account, Inside}
use Rattle.sx_heads.specs.Fields.{Field, one, metas}
use Rattle.sx_heads.specs.Values.{id_text, shares_marker_text}
use Rattle.sx_heads.specs.Targets.{Query, asks, with_page}
use Rattle.sx_heads.specs.Spellings.{Spelling}

-- a word, where it is said
abbrev pub said_if : Bool → List ℕ → Option (List ℕ)
said_if said word = if said then Some word else None

-- the share itself
abbrev pub root_of : List ℕ → Place
root_of share = Inside (record { share = share; path = [] })

-- what is asked of a share
abbrev pub of_share : Option (List ℕ) → Option ℕ → Query
of_share comp snap = asks (Some (codes "share")) comp (option_map moment_text snap)

-- x-ms-lease-id, where one is given
abbrev pub lease_field : Option LeaseId → Field
lease_field lease = one (codes "x-ms-lease-id") (option_map id_text lease)

-- the fields of an action on a lease
abbrev pub action_fields : LeaseAction → List Field
action_fields (Acquire proposed) =
    one (codes "x-ms-lease-action") (Some (codes "acquire"))
    ∷ one (codes "x-ms-lease-duration") (Some (codes "-1"))
    ∷ one (codes "x-ms-proposed-lease-id") (option_map id_text proposed)
    ∷ []
action_fields (Change id to) =
    one (codes "x-ms-lease-action") (Some (codes "change"))
    ∷ one (codes "x-ms-lease-id") (Some (id_text id))
    ∷ one (codes "x-ms-proposed-lease-id") (Some (id_text to))
    ∷ []
action_fields (Release id) =
    one (codes "x-ms-lease-action") (Some (codes "release"))
    ∷ one (codes "x-ms-lease-id") (Some (id_text id))
    ∷ []
action_fields Break = one (codes "x-ms-lease-action") (Some (codes "break")) ∷ []

-- a request without a body
abbrev pub bodiless : List ℕ → Place → Query → List Field → Spelling
bodiless method at query fields = record { method = method; at = at; query = query; fields = fields; body = [] }

-- List Shares
unfoldable pub list_shares : ListShares → Spelling
list_shares c =
    bodiless (codes "GET") Account (with_page (asks None (Some (codes "list")) None) (Some c.prefix)
    (option_map shares_marker_text c.marker) (decimal c.max) (said_if c.snapshots (codes "snapshots"))) []

-- Create Share
unfoldable pub create_share : CreateShare → Spelling
create_share c =
    bodiless (codes "PUT") (root_of c.share) (of_share None None) (
    one (codes "x-ms-share-quota") (Some (decimal c.quota))
    ∷ metas c.meta
    ∷ [])

-- Get Share Properties
unfoldable pub get_share_properties : GetShareProperties → Spelling
get_share_properties c =
    bodiless (codes "GET") (root_of c.share) (of_share None c.scope.snap) (lease_field c.scope.lease ∷ [])

-- Set Share Properties
unfoldable pub set_share_properties : SetShareProperties → Spelling
set_share_properties c =
    bodiless (codes "PUT") (root_of c.share) (of_share (Some (codes "properties")) None) (
    one (codes "x-ms-share-quota") (Some (decimal c.quota))
    ∷ lease_field c.lease
    ∷ [])

-- Get Share Metadata
unfoldable pub get_share_metadata : GetShareMetadata → Spelling
get_share_metadata c =
    bodiless (codes "GET") (root_of c.share) (of_share (Some (codes "metadata")) c.scope.snap) (
    lease_field c.scope.lease ∷ [])

-- Set Share Metadata
unfoldable pub set_share_metadata : SetShareMetadata → Spelling
set_share_metadata c =
    bodiless (codes "PUT") (root_of c.share) (of_share (Some (codes "metadata")) None) (
    metas c.meta
    ∷ lease_field c.lease
    ∷ [])

-- Delete Share
unfoldable pub delete_share : DeleteShare → Spelling
delete_share c =
    bodiless (codes "DELETE") (root_of c.share) (of_share None None) (
    one (codes "x-ms-delete-snapshots") (said_if c.include (codes "include"))
    ∷ lease_field c.lease
    ∷ [])

-- Delete Share of a snapshot
unfoldable pub delete_snapshot : DeleteSnapshot → Spelling
delete_snapshot c = bodiless (codes "DELETE") (root_of c.share) (of_share None (Some c.moment)) []

-- Snapshot Share
unfoldable pub snapshot_share : SnapshotShare → Spelling
snapshot_share c =
    bodiless (codes "PUT") (root_of c.share) (of_share (Some (codes "snapshot")) None) (metas c.meta ∷ [])

-- Lease Share
unfoldable pub lease_share : LeaseShare → Spelling
lease_share c =
    bodiless (codes "PUT") (root_of c.share) (of_share (Some (codes "lease")) None) (action_fields c.action)
