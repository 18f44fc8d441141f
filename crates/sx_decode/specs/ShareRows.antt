-- The calls on shares: what each reads, in order.
use Rattle.std.specs.Prelude.{ℕ, Bool, true, false, List, codes, if◌then◌else◌, Option, Some, None, Ok, Err}
use Rattle.sx_http.specs.declared.heads.Header.{Header}
use Rattle.sx_names.specs.declared.quota.TheConstants.{MAX_QUOTA}
use Rattle.sx_call.specs.declared.calls.Call.{Call}
use Rattle.sx_call.specs.declared.calls.Call.TheVariants as call
use Rattle.sx_call.specs.declared.refusals.Syntax.TheVariants.{Header as BadHeader, NoCall}
use Rattle.sx_call.specs.declared.targets.Target.{Target}
use Rattle.sx_decode.specs.declared.asked.Asked.{Asked}
use Rattle.sx_decode.specs.declared.forms.Row.{Row}
use Rattle.sx_decode.specs.declared.forms.Row.TheVariants as row
use Rattle.sx_decode.specs.Reading.{Reading, with_next}
use Rattle.sx_decode.specs.Lookup.{one_header, needed_header}
use Rattle.sx_decode.specs.Numbers.{number_of, limited}
use Rattle.sx_decode.specs.Words.{is_word}
use Rattle.sx_decode.specs.Leases.{lease_of, scope_of, lease_action}
use Rattle.sx_decode.specs.Metadata.{meta_of}
use Rattle.sx_decode.specs.Markers.{shares_marker}
use Rattle.sx_decode.specs.DirectoryRows.{directory_call}

-- a quota of 1 to 5,120 GiB
unfoldable pub quota_read : List ℕ → Reading ℕ
quota_read text = limited (codes "x-ms-share-quota") 1 MAX_QUOTA (number_of text)

-- the greatest one, where none is given
abbrev pub quota_or_most : Option (List ℕ) → Reading ℕ
quota_or_most None = Ok MAX_QUOTA
quota_or_most (Some text) = quota_read text

-- x-ms-share-quota of a new share
unfoldable pub new_quota : List Header → Reading ℕ
new_quota headers = with_next (one_header (codes "x-ms-share-quota") headers) quota_or_most

-- x-ms-share-quota that is set
unfoldable pub set_quota : List Header → Reading ℕ
set_quota headers = with_next (needed_header (codes "x-ms-share-quota") headers) quota_read

-- `include`: the snapshots are deleted, too
abbrev pub include_read : Option (List ℕ) → Reading Bool
include_read None = Ok false
include_read (Some text) =
    if is_word (codes "include") text then Ok true else Err (BadHeader (codes "x-ms-delete-snapshots"))

-- x-ms-delete-snapshots
unfoldable pub include_of : List Header → Reading Bool
include_of headers = with_next (one_header (codes "x-ms-delete-snapshots") headers) include_read

-- List Shares
unfoldable pub list_shares : Asked → Reading Call
list_shares a =
    with_next (shares_marker a.marker) (λ marker.
    Ok (call.ListShares (record { prefix = a.prefix; marker = marker; max = a.max; snapshots = a.snapshots })))

-- Create Share
unfoldable pub create_share : List ℕ → List Header → Reading Call
create_share share headers =
    with_next (new_quota headers) (λ quota.
    with_next (meta_of headers) (λ meta.
    Ok (call.CreateShare (record { share = share; quota = quota; meta = meta }))))

-- Get Share Properties
unfoldable pub get_share_properties : List ℕ → Option ℕ → List Header → Reading Call
get_share_properties share snap headers =
    with_next (scope_of snap headers) (λ scope.
    Ok (call.GetShareProperties (record { share = share; scope = scope })))

-- Set Share Properties
unfoldable pub set_share_properties : List ℕ → List Header → Reading Call
set_share_properties share headers =
    with_next (set_quota headers) (λ quota.
    with_next (lease_of headers) (λ lease.
    Ok (call.SetShareProperties (record { share = share; quota = quota; lease = lease }))))

-- Get Share Metadata
unfoldable pub get_share_metadata : List ℕ → Option ℕ → List Header → Reading Call
get_share_metadata share snap headers =
    with_next (scope_of snap headers) (λ scope.
    Ok (call.GetShareMetadata (record { share = share; scope = scope })))

-- Set Share Metadata
unfoldable pub set_share_metadata : List ℕ → List Header → Reading Call
set_share_metadata share headers =
    with_next (meta_of headers) (λ meta.
    with_next (lease_of headers) (λ lease.
    Ok (call.SetShareMetadata (record { share = share; meta = meta; lease = lease }))))

-- Delete Share
unfoldable pub delete_share : List ℕ → List Header → Reading Call
delete_share share headers =
    with_next (include_of headers) (λ include.
    with_next (lease_of headers) (λ lease.
    Ok (call.DeleteShare (record { share = share; include = include; lease = lease }))))

-- Delete Share of a snapshot
unfoldable pub delete_snapshot : List ℕ → Option ℕ → Reading Call
delete_snapshot share None = Err NoCall
delete_snapshot share (Some moment) = Ok (call.DeleteSnapshot (record { share = share; moment = moment }))

-- Snapshot Share
unfoldable pub snapshot_share : List ℕ → List Header → Reading Call
snapshot_share share headers =
    with_next (meta_of headers) (λ meta.
    Ok (call.SnapshotShare (record { share = share; meta = meta })))

-- Lease Share
unfoldable pub lease_share : List ℕ → List Header → Reading Call
lease_share share headers =
    with_next (lease_action headers) (λ action.
    Ok (call.LeaseShare (record { share = share; action = action })))

-- the call that a row names, on a share or on what is in it
unfoldable pub plain_call : Row → Target → Option ℕ → List Header → Reading Call
plain_call row.CreateShare at snap headers = create_share at.share headers
plain_call row.GetShareProperties at snap headers = get_share_properties at.share snap headers
plain_call row.SetShareProperties at snap headers = set_share_properties at.share headers
plain_call row.GetShareMetadata at snap headers = get_share_metadata at.share snap headers
plain_call row.SetShareMetadata at snap headers = set_share_metadata at.share headers
plain_call row.DeleteShare at snap headers = delete_share at.share headers
plain_call row.DeleteSnapshot at snap headers = delete_snapshot at.share snap
plain_call row.SnapshotShare at snap headers = snapshot_share at.share headers
plain_call row.LeaseShare at snap headers = lease_share at.share headers
plain_call other at snap headers = directory_call other at snap headers
