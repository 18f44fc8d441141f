-- The calls on shares are read back.
use Rattle.std.proofs.Common.{◌≡◌, Bool, true, false, List, [], codes, decimal, Option, Some, None, Ok, refl, append-nil}
use Rattle.std.specs.Prelude.{IfSome}
use Rattle.std.specs.Option.{option_map}
use Rattle.sx_http.specs.declared.heads.Header.{Header}
use Rattle.sx_call.specs.CallLimits.{IsWithinLimits}
use Rattle.sx_call.specs.declared.calls.Call.TheVariants as call
use Rattle.sx_call.specs.declared.share_calls.ListShares.{ListShares}
use Rattle.sx_call.specs.declared.share_calls.CreateShare.{CreateShare}
use Rattle.sx_call.specs.declared.share_calls.GetShareProperties.{GetShareProperties}
use Rattle.sx_call.specs.declared.share_calls.SetShareProperties.{SetShareProperties}
use Rattle.sx_call.specs.declared.share_calls.GetShareMetadata.{GetShareMetadata}
use Rattle.sx_call.specs.declared.share_calls.SetShareMetadata.{SetShareMetadata}
use Rattle.sx_call.specs.declared.share_calls.DeleteShare.{DeleteShare}
use Rattle.sx_call.specs.declared.share_calls.DeleteSnapshot.{DeleteSnapshot}
use Rattle.sx_call.specs.declared.share_calls.SnapshotShare.{SnapshotShare}
use Rattle.sx_call.specs.declared.share_calls.LeaseShare.{LeaseShare}
use Rattle.sx_decode.specs.declared.forms.Row.TheVariants as row
use Rattle.sx_decode.specs.declared.forms.Verb.TheVariants as verb
use Rattle.sx_decode.specs.declared.targets.Place.TheVariants.{Account}
use Rattle.sx_decode.specs.Bodies.{no_body}
use Rattle.sx_decode.specs.Words.{is_word}
use Rattle.sx_decode.specs.Table.{fits, row_of}
use Rattle.sx_decode.specs.Metadata.{meta_of}
use Rattle.sx_decode.specs.Spelling.{shape_of, restype_of, comp_of, comp_named, is_clear, key_of, row_for, account_call, call_by_row, call_inside, call_without_body, bodiless_call, inside_call}
use Rattle.sx_decode.specs.ShareRows.{plain_call}
use Rattle.sx_decode.specs.DirectoryRows.{directory_call}
use Rattle.sx_decode.specs.FileRows.{file_call}
use Rattle.sx_decode.specs.ShareRows.{list_shares, create_share, get_share_properties, set_share_properties, get_share_metadata, set_share_metadata, delete_share, delete_snapshot, snapshot_share, lease_share}
use Rattle.sx_heads.specs.ShareSpellings.{said_if}
use Rattle.sx_heads.specs.ShareSpellings as spelled
use Rattle.sx_heads.specs.Heads.{IsReadAs}
use Rattle.sx_heads.specs.Spellings.{headers_spelled, request_of}
use Rattle.sx_heads.specs.Values.{id_text}
use Rattle.sx_heads.proofs.Requests.{field_is, meta_is, reads_as, reads_plain, plain_asked}
use Rattle.sx_heads.proofs.PlainTexts.{plain_utf8}
use Rattle.sx_heads.proofs.FieldReads.{Holds, new_quota_read, set_quota_read, include_read, lease_read, scope_read, action_back}
use Rattle.sx_heads.proofs.RowTables.{verb_is_get, verb_is_put, verb_is_delete}
use Rattle.sx_call.specs.FieldLimits.{IsSharesMarker}
use Rattle.sx_call.specs.declared.leases.LeaseAction.{LeaseAction}
use Rattle.sx_call.specs.declared.leases.LeaseAction.TheVariants.{Acquire, Change, Release, Break}
use Rattle.sx_call.specs.declared.listings.SharesMarker.{SharesMarker}
use Rattle.std.specs.Str.{is_utf8}
use Rattle.std.proofs.lemmas.Bool.{and_parts}
use Rattle.sx_decode.specs.declared.asked.Asked.{Asked}
use Rattle.sx_decode.specs.Asked.{or_empty, includes_snapshots}
use Rattle.sx_decode.specs.Words.{is_word_in_blanks}
use Rattle.sx_decode.specs.Leases.{lease_action}
use Rattle.sx_heads.specs.ShareSpellings.{action_fields}
use Rattle.sx_heads.specs.Values.{shares_marker_text}
use Rattle.sx_heads.proofs.PlainTexts.{ascii_utf8, decimal_utf8}
use Rattle.sx_heads.proofs.ReadValues.{page_back, query_text_back, shares_marker_back, shares_marker_ascii}
use Rattle.sx_heads.proofs.Requests.{HasVersion, AreTexts, asked_by}

create_share_row : (c : CreateShare) (hs : List Header) → row_for (key_of verb.Put (spelled.root_of c.share) (plain_asked (Some (codes "share")) None None) hs) ≡ Ok row.CreateShare
unfolding row_for row_of fits key_of shape_of restype_of comp_of comp_named is_word is_clear
create_share_row c hs = refl

create_share_call : (c : CreateShare) (hs : List Header) → IsWithinLimits (call.CreateShare c) → Holds (codes "x-ms-share-quota") hs (Some (decimal c.quota)) → meta_of hs ≡ Ok c.meta
    → call_by_row row.CreateShare (spelled.root_of c.share) (plain_asked (Some (codes "share")) None None) hs [] ≡ Ok (call.CreateShare c)
unfolding call_by_row call_inside call_without_body bodiless_call inside_call plain_call directory_call file_call no_body create_share
create_share_call c hs h quota meta = rw (new_quota_read hs c.quota h.1 quota, meta) refl

pub create_share_back : (c : CreateShare) → IsWithinLimits (call.CreateShare c) → IsReadAs (call.CreateShare c) (request_of (spelled.create_share c))
unfolding spelled.create_share
create_share_back c h =
    let fields = (spelled.create_share c).fields in
    let hs = headers_spelled fields [] in
    reads_plain (codes "PUT") (spelled.root_of c.share) (Some (codes "share")) None None fields [] verb.Put row.CreateShare (call.CreateShare c)
    verb_is_put (h.0, refl) (plain_utf8 (codes "share") refl) tt tt (refl, refl) (create_share_row c hs)
    (create_share_call c hs h
    (field_is (codes "x-ms-share-quota") fields [] (λ m. refl) refl)
    (meta_is fields [] c.meta refl (append-nil c.meta) h.2))

get_share_properties_row : (c : GetShareProperties) (hs : List Header) → row_for (key_of verb.Get (spelled.root_of c.share) (plain_asked (Some (codes "share")) None c.scope.snap) hs) ≡ Ok row.GetShareProperties
unfolding row_for row_of fits key_of shape_of restype_of comp_of comp_named is_word is_clear
get_share_properties_row c hs = refl

get_share_properties_call : (c : GetShareProperties) (hs : List Header) → IsWithinLimits (call.GetShareProperties c) → Holds (codes "x-ms-lease-id") hs (option_map id_text c.scope.lease)
    → call_by_row row.GetShareProperties (spelled.root_of c.share) (plain_asked (Some (codes "share")) None c.scope.snap) hs [] ≡ Ok (call.GetShareProperties c)
unfolding call_by_row call_inside call_without_body bodiless_call inside_call plain_call directory_call file_call no_body get_share_properties
get_share_properties_call c hs h lease = rw (scope_read hs c.scope h.1 lease) refl

pub get_share_properties_back : (c : GetShareProperties) → IsWithinLimits (call.GetShareProperties c) → IsReadAs (call.GetShareProperties c) (request_of (spelled.get_share_properties c))
unfolding spelled.get_share_properties
get_share_properties_back c h =
    let fields = (spelled.get_share_properties c).fields in
    let hs = headers_spelled fields [] in
    reads_plain (codes "GET") (spelled.root_of c.share) (Some (codes "share")) None c.scope.snap fields [] verb.Get row.GetShareProperties (call.GetShareProperties c)
    verb_is_get (h.0, refl) (plain_utf8 (codes "share") refl) tt h.1.1 (refl, refl) (get_share_properties_row c hs)
    (get_share_properties_call c hs h
    (field_is (codes "x-ms-lease-id") fields [] (λ m. refl) refl))

set_share_properties_row : (c : SetShareProperties) (hs : List Header) → row_for (key_of verb.Put (spelled.root_of c.share) (plain_asked (Some (codes "share")) (Some (codes "properties")) None) hs) ≡ Ok row.SetShareProperties
unfolding row_for row_of fits key_of shape_of restype_of comp_of comp_named is_word is_clear
set_share_properties_row c hs = refl

set_share_properties_call : (c : SetShareProperties) (hs : List Header) → IsWithinLimits (call.SetShareProperties c) → Holds (codes "x-ms-share-quota") hs (Some (decimal c.quota)) → Holds (codes "x-ms-lease-id") hs (option_map id_text c.lease)
    → call_by_row row.SetShareProperties (spelled.root_of c.share) (plain_asked (Some (codes "share")) (Some (codes "properties")) None) hs [] ≡ Ok (call.SetShareProperties c)
unfolding call_by_row call_inside call_without_body bodiless_call inside_call plain_call directory_call file_call no_body set_share_properties
set_share_properties_call c hs h quota lease = rw (set_quota_read hs c.quota h.1 quota, lease_read hs c.lease h.2 lease) refl

pub set_share_properties_back : (c : SetShareProperties) → IsWithinLimits (call.SetShareProperties c) → IsReadAs (call.SetShareProperties c) (request_of (spelled.set_share_properties c))
unfolding spelled.set_share_properties
set_share_properties_back c h =
    let fields = (spelled.set_share_properties c).fields in
    let hs = headers_spelled fields [] in
    reads_plain (codes "PUT") (spelled.root_of c.share) (Some (codes "share")) (Some (codes "properties")) None fields [] verb.Put row.SetShareProperties (call.SetShareProperties c)
    verb_is_put (h.0, refl) (plain_utf8 (codes "share") refl) (plain_utf8 (codes "properties") refl) tt (refl, refl) (set_share_properties_row c hs)
    (set_share_properties_call c hs h
    (field_is (codes "x-ms-share-quota") fields [] (λ m. refl) refl)
    (field_is (codes "x-ms-lease-id") fields [] (λ m. refl) refl))

get_share_metadata_row : (c : GetShareMetadata) (hs : List Header) → row_for (key_of verb.Get (spelled.root_of c.share) (plain_asked (Some (codes "share")) (Some (codes "metadata")) c.scope.snap) hs) ≡ Ok row.GetShareMetadata
unfolding row_for row_of fits key_of shape_of restype_of comp_of comp_named is_word is_clear
get_share_metadata_row c hs = refl

get_share_metadata_call : (c : GetShareMetadata) (hs : List Header) → IsWithinLimits (call.GetShareMetadata c) → Holds (codes "x-ms-lease-id") hs (option_map id_text c.scope.lease)
    → call_by_row row.GetShareMetadata (spelled.root_of c.share) (plain_asked (Some (codes "share")) (Some (codes "metadata")) c.scope.snap) hs [] ≡ Ok (call.GetShareMetadata c)
unfolding call_by_row call_inside call_without_body bodiless_call inside_call plain_call directory_call file_call no_body get_share_metadata
get_share_metadata_call c hs h lease = rw (scope_read hs c.scope h.1 lease) refl

pub get_share_metadata_back : (c : GetShareMetadata) → IsWithinLimits (call.GetShareMetadata c) → IsReadAs (call.GetShareMetadata c) (request_of (spelled.get_share_metadata c))
unfolding spelled.get_share_metadata
get_share_metadata_back c h =
    let fields = (spelled.get_share_metadata c).fields in
    let hs = headers_spelled fields [] in
    reads_plain (codes "GET") (spelled.root_of c.share) (Some (codes "share")) (Some (codes "metadata")) c.scope.snap fields [] verb.Get row.GetShareMetadata (call.GetShareMetadata c)
    verb_is_get (h.0, refl) (plain_utf8 (codes "share") refl) (plain_utf8 (codes "metadata") refl) h.1.1 (refl, refl) (get_share_metadata_row c hs)
    (get_share_metadata_call c hs h
    (field_is (codes "x-ms-lease-id") fields [] (λ m. refl) refl))

set_share_metadata_row : (c : SetShareMetadata) (hs : List Header) → row_for (key_of verb.Put (spelled.root_of c.share) (plain_asked (Some (codes "share")) (Some (codes "metadata")) None) hs) ≡ Ok row.SetShareMetadata
unfolding row_for row_of fits key_of shape_of restype_of comp_of comp_named is_word is_clear
set_share_metadata_row c hs = refl

set_share_metadata_call : (c : SetShareMetadata) (hs : List Header) → IsWithinLimits (call.SetShareMetadata c) → meta_of hs ≡ Ok c.meta → Holds (codes "x-ms-lease-id") hs (option_map id_text c.lease)
    → call_by_row row.SetShareMetadata (spelled.root_of c.share) (plain_asked (Some (codes "share")) (Some (codes "metadata")) None) hs [] ≡ Ok (call.SetShareMetadata c)
unfolding call_by_row call_inside call_without_body bodiless_call inside_call plain_call directory_call file_call no_body set_share_metadata
set_share_metadata_call c hs h meta lease = rw (meta, lease_read hs c.lease h.2 lease) refl

pub set_share_metadata_back : (c : SetShareMetadata) → IsWithinLimits (call.SetShareMetadata c) → IsReadAs (call.SetShareMetadata c) (request_of (spelled.set_share_metadata c))
unfolding spelled.set_share_metadata
set_share_metadata_back c h =
    let fields = (spelled.set_share_metadata c).fields in
    let hs = headers_spelled fields [] in
    reads_plain (codes "PUT") (spelled.root_of c.share) (Some (codes "share")) (Some (codes "metadata")) None fields [] verb.Put row.SetShareMetadata (call.SetShareMetadata c)
    verb_is_put (h.0, refl) (plain_utf8 (codes "share") refl) (plain_utf8 (codes "metadata") refl) tt (refl, refl) (set_share_metadata_row c hs)
    (set_share_metadata_call c hs h
    (meta_is fields [] c.meta refl (append-nil c.meta) h.1)
    (field_is (codes "x-ms-lease-id") fields [] (λ m. refl) refl))

delete_share_row : (c : DeleteShare) (hs : List Header) → row_for (key_of verb.Delete (spelled.root_of c.share) (plain_asked (Some (codes "share")) None None) hs) ≡ Ok row.DeleteShare
unfolding row_for row_of fits key_of shape_of restype_of comp_of comp_named is_word is_clear
delete_share_row c hs = refl

delete_share_call : (c : DeleteShare) (hs : List Header) → IsWithinLimits (call.DeleteShare c) → Holds (codes "x-ms-delete-snapshots") hs (said_if c.include (codes "include")) → Holds (codes "x-ms-lease-id") hs (option_map id_text c.lease)
    → call_by_row row.DeleteShare (spelled.root_of c.share) (plain_asked (Some (codes "share")) None None) hs [] ≡ Ok (call.DeleteShare c)
unfolding call_by_row call_inside call_without_body bodiless_call inside_call plain_call directory_call file_call no_body delete_share
delete_share_call c hs h include lease = rw (include_read hs c.include include, lease_read hs c.lease h.1 lease) refl

pub delete_share_back : (c : DeleteShare) → IsWithinLimits (call.DeleteShare c) → IsReadAs (call.DeleteShare c) (request_of (spelled.delete_share c))
unfolding spelled.delete_share
delete_share_back c h =
    let fields = (spelled.delete_share c).fields in
    let hs = headers_spelled fields [] in
    reads_plain (codes "DELETE") (spelled.root_of c.share) (Some (codes "share")) None None fields [] verb.Delete row.DeleteShare (call.DeleteShare c)
    verb_is_delete (h.0, refl) (plain_utf8 (codes "share") refl) tt tt (refl, refl) (delete_share_row c hs)
    (delete_share_call c hs h
    (field_is (codes "x-ms-delete-snapshots") fields [] (λ m. refl) refl)
    (field_is (codes "x-ms-lease-id") fields [] (λ m. refl) refl))

delete_snapshot_row : (c : DeleteSnapshot) (hs : List Header) → row_for (key_of verb.Delete (spelled.root_of c.share) (plain_asked (Some (codes "share")) None (Some c.moment)) hs) ≡ Ok row.DeleteSnapshot
unfolding row_for row_of fits key_of shape_of restype_of comp_of comp_named is_word is_clear
delete_snapshot_row c hs = refl

delete_snapshot_call : (c : DeleteSnapshot) (hs : List Header) → IsWithinLimits (call.DeleteSnapshot c)
    → call_by_row row.DeleteSnapshot (spelled.root_of c.share) (plain_asked (Some (codes "share")) None (Some c.moment)) hs [] ≡ Ok (call.DeleteSnapshot c)
unfolding call_by_row call_inside call_without_body bodiless_call inside_call plain_call directory_call file_call no_body delete_snapshot
delete_snapshot_call c hs h = refl

pub delete_snapshot_back : (c : DeleteSnapshot) → IsWithinLimits (call.DeleteSnapshot c) → IsReadAs (call.DeleteSnapshot c) (request_of (spelled.delete_snapshot c))
unfolding spelled.delete_snapshot
delete_snapshot_back c h =
    let fields = (spelled.delete_snapshot c).fields in
    let hs = headers_spelled fields [] in
    reads_plain (codes "DELETE") (spelled.root_of c.share) (Some (codes "share")) None (Some c.moment) fields [] verb.Delete row.DeleteSnapshot (call.DeleteSnapshot c)
    verb_is_delete (h.0, refl) (plain_utf8 (codes "share") refl) tt h.1 (refl, refl) (delete_snapshot_row c hs)
    (delete_snapshot_call c hs h)

snapshot_share_row : (c : SnapshotShare) (hs : List Header) → row_for (key_of verb.Put (spelled.root_of c.share) (plain_asked (Some (codes "share")) (Some (codes "snapshot")) None) hs) ≡ Ok row.SnapshotShare
unfolding row_for row_of fits key_of shape_of restype_of comp_of comp_named is_word is_clear
snapshot_share_row c hs = refl

snapshot_share_call : (c : SnapshotShare) (hs : List Header) → IsWithinLimits (call.SnapshotShare c) → meta_of hs ≡ Ok c.meta
    → call_by_row row.SnapshotShare (spelled.root_of c.share) (plain_asked (Some (codes "share")) (Some (codes "snapshot")) None) hs [] ≡ Ok (call.SnapshotShare c)
unfolding call_by_row call_inside call_without_body bodiless_call inside_call plain_call directory_call file_call no_body snapshot_share
snapshot_share_call c hs h meta = rw (meta) refl

pub snapshot_share_back : (c : SnapshotShare) → IsWithinLimits (call.SnapshotShare c) → IsReadAs (call.SnapshotShare c) (request_of (spelled.snapshot_share c))
unfolding spelled.snapshot_share
snapshot_share_back c h =
    let fields = (spelled.snapshot_share c).fields in
    let hs = headers_spelled fields [] in
    reads_plain (codes "PUT") (spelled.root_of c.share) (Some (codes "share")) (Some (codes "snapshot")) None fields [] verb.Put row.SnapshotShare (call.SnapshotShare c)
    verb_is_put (h.0, refl) (plain_utf8 (codes "share") refl) (plain_utf8 (codes "snapshot") refl) tt (refl, refl) (snapshot_share_row c hs)
    (snapshot_share_call c hs h
    (meta_is fields [] c.meta refl (append-nil c.meta) h.1))

-- the version stands once beside an action
pub action_version : (action : LeaseAction) → HasVersion (action_fields action) []
action_version (Acquire proposed) = (refl, refl)
action_version (Change id to) = (refl, refl)
action_version (Release id) = (refl, refl)
action_version Break = (refl, refl)

lease_share_row : (c : LeaseShare) (hs : List Header) → row_for (key_of verb.Put (spelled.root_of c.share) (plain_asked (Some (codes "share")) (Some (codes "lease")) None) hs) ≡ Ok row.LeaseShare
unfolding row_for row_of fits key_of shape_of restype_of comp_of comp_named is_word is_clear
lease_share_row c hs = refl

lease_share_call : (c : LeaseShare) (hs : List Header) → lease_action hs ≡ Ok c.action
    → call_by_row row.LeaseShare (spelled.root_of c.share) (plain_asked (Some (codes "share")) (Some (codes "lease")) None) hs [] ≡ Ok (call.LeaseShare c)
unfolding call_by_row call_inside call_without_body bodiless_call inside_call plain_call no_body lease_share
lease_share_call c hs e = rw e refl

pub lease_share_back : (c : LeaseShare) → IsWithinLimits (call.LeaseShare c) → IsReadAs (call.LeaseShare c) (request_of (spelled.lease_share c))
unfolding spelled.lease_share
lease_share_back c h =
    let fields = action_fields c.action in
    let hs = headers_spelled fields [] in
    reads_plain (codes "PUT") (spelled.root_of c.share) (Some (codes "share")) (Some (codes "lease")) None fields [] verb.Put row.LeaseShare (call.LeaseShare c)
    verb_is_put (h.0, refl) (plain_utf8 (codes "share") refl) (plain_utf8 (codes "lease") refl) tt (action_version c.action) (lease_share_row c hs)
    (lease_share_call c hs (action_back c.action h.1))

-- what List Shares asks
abbrev shares_asked : ListShares → Asked
shares_asked c = record {
  restype = None;
  comp = Some (codes "list");
  snapshot = None;
  prefix = c.prefix;
  marker = or_empty (option_map shares_marker_text c.marker);
  max = c.max;
  snapshots = c.snapshots;
}

snapshots_back : (b : Bool) → includes_snapshots (or_empty (said_if b (codes "snapshots"))) ≡ b
unfolding includes_snapshots is_word_in_blanks is_word
snapshots_back true = refl
snapshots_back false = refl

snapshots_utf8 : (b : Bool) → IfSome (said_if b (codes "snapshots")) (λ v. is_utf8 v ≡ true)
snapshots_utf8 true = plain_utf8 (codes "snapshots") refl
snapshots_utf8 false = tt

marker_utf8 : (o : Option SharesMarker) → IfSome o IsSharesMarker → IfSome (option_map shares_marker_text o) (λ v. is_utf8 v ≡ true)
marker_utf8 None h = tt
marker_utf8 (Some m) h = ascii_utf8 (shares_marker_text m) (shares_marker_ascii m h)

list_shares_texts : (c : ListShares) → IsWithinLimits (call.ListShares c) → AreTexts (spelled.list_shares c).query
unfolding spelled.list_shares
list_shares_texts c h = record {
  restype = tt;
  comp = plain_utf8 (codes "list") refl;
  snapshot = tt;
  prefix = (and_parts (is_utf8 c.prefix) _ h.0).0;
  marker = marker_utf8 c.marker h.1;
  max = decimal_utf8 c.max h.2;
  include = snapshots_utf8 c.snapshots;
}

list_shares_asked : (c : ListShares) → IsWithinLimits (call.ListShares c) → asked_by (spelled.list_shares c).query ≡ Ok (shares_asked c)
unfolding spelled.list_shares
list_shares_asked c h = rw (query_text_back (codes "prefix") c.prefix h.0, page_back c.max h.2, snapshots_back c.snapshots) refl

list_shares_row : (c : ListShares) (hs : List Header) → row_for (key_of verb.Get Account (shares_asked c) hs) ≡ Ok row.ListShares
unfolding row_for row_of fits key_of shape_of restype_of comp_of comp_named is_word is_clear
list_shares_row c hs = refl

list_shares_call : (c : ListShares) (hs : List Header) → IsWithinLimits (call.ListShares c) → call_by_row row.ListShares Account (shares_asked c) hs [] ≡ Ok (call.ListShares c)
unfolding call_by_row call_without_body bodiless_call account_call no_body list_shares
list_shares_call c hs h = rw (shares_marker_back c.marker h.1) refl

pub list_shares_back : (c : ListShares) → IsWithinLimits (call.ListShares c) → IsReadAs (call.ListShares c) (request_of (spelled.list_shares c))
unfolding spelled.list_shares
list_shares_back c h =
    let hs = headers_spelled [] [] in
    reads_as (spelled.list_shares c) (shares_asked c) verb.Get row.ListShares (call.ListShares c)
    verb_is_get tt (list_shares_texts c h) (list_shares_asked c h) (refl, refl) (list_shares_row c hs) (list_shares_call c hs h)
