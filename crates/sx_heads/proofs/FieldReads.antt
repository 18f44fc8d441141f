-- Each field that is spelled is read back, where its header is what was spelled.
use Rattle.std.proofs.Common.{◌≡◌, ◌≤◌, ℕ, ◌-◌, Bool, true, false, List, [], codes, decimal, Option, Some, None, is_some, Ok, refl}
use Rattle.std.specs.Prelude.{IfSome}
use Rattle.std.specs.Option.{option_map}
use Rattle.sx_base.specs.Moment.{moment_text, IsWritten}
use Rattle.sx_extent.specs.Ranges.{Interval}
use Rattle.sx_guard.specs.Handle.{Handle}
use Rattle.sx_http.specs.Lookup.{has_header}
use Rattle.sx_http.specs.declared.heads.Header.{Header}
use Rattle.sx_lease.specs.declared.lease.LeaseId.{LeaseId}
use Rattle.sx_names.specs.Limits.{IsQuota}
use Rattle.sx_names.specs.declared.attributes.Attributes.{Attributes}
use Rattle.sx_names.specs.declared.content.Content.{Content}
use Rattle.sx_call.specs.FieldLimits.{IsLeaseId, IsLeaseAction, IsReadScope, IsHandleId, IsContent, IsTime}
use Rattle.sx_call.specs.Leases.{ReadScope}
use Rattle.sx_call.specs.Lengths.{is_file_length}
use Rattle.sx_call.specs.Ranges.{BytesFrom, is_first, is_byte_range}
use Rattle.sx_call.specs.declared.leases.LeaseAction.{LeaseAction}
use Rattle.sx_call.specs.declared.leases.LeaseAction.TheVariants.{Acquire, Change, Release, Break}
use Rattle.sx_call.specs.declared.targets.Target.{Target}
use Rattle.sx_call.specs.declared.times.Time.{Time}
use Rattle.sx_call.specs.Targets.{is_below_root}
use Rattle.sx_decode.specs.Lookup.{one_header, needed_header}
use Rattle.sx_decode.specs.Words.{is_word}
use Rattle.sx_decode.specs.Contents.{content_text, digest_of, content_of}
use Rattle.sx_decode.specs.Facts.{new_attributes, set_attributes, new_time, set_time}
use Rattle.sx_decode.specs.FileRows.{new_length, set_length, needed_word}
use Rattle.sx_decode.specs.Handles.{handle_of, recursive_of}
use Rattle.sx_decode.specs.Leases.{maybe_id, needed_id, lease_of, scope_of, duration_of, acquire_of, change_of, release_of, action_named, lease_action}
use Rattle.sx_decode.specs.Ranges.{range_name, span_of, interval_of}
use Rattle.sx_decode.specs.ShareRows.{new_quota, set_quota, include_of}
use Rattle.sx_decode.specs.Targets.{below_root}
use Rattle.sx_heads.specs.Digests.{IsReadDigest}
use Rattle.sx_heads.specs.Spellings.{headers_spelled}
use Rattle.sx_heads.specs.ShareSpellings.{said_if, action_fields}
use Rattle.sx_heads.specs.Values.{id_text, digest_text, bytes_text, interval_text, handle_or_all, bool_text, time_text, attributes_text}
use Rattle.sx_heads.proofs.AttributeWords.{attributes_back, attributes_kept_back}
use Rattle.sx_heads.proofs.ReadValues.{quota_back, length_back, length_if_back, id_given_back, id_read_back, scope_back, time_now_back, time_kept_back, first_back, interval_back, handle_back, recursive_back, text_given_back, digest_given_back}
use Rattle.sx_heads.proofs.Requests.{field_is}

-- the header of a name has a value, or is absent
abbrev pub Holds : List ℕ → List Header → Option (List ℕ) → Type 0
Holds name hs value = one_header name hs ≡ Ok value

pub new_quota_read : (hs : List Header) (q : ℕ) → IsQuota q → Holds (codes "x-ms-share-quota") hs (Some (decimal q)) → new_quota hs ≡ Ok q
unfolding new_quota
new_quota_read hs q h e = rw e (quota_back q h)

pub set_quota_read : (hs : List Header) (q : ℕ) → IsQuota q → Holds (codes "x-ms-share-quota") hs (Some (decimal q)) → set_quota hs ≡ Ok q
unfolding set_quota needed_header
set_quota_read hs q h e = rw e (quota_back q h)

pub include_read : (hs : List Header) (b : Bool) → Holds (codes "x-ms-delete-snapshots") hs (said_if b (codes "include")) → include_of hs ≡ Ok b
unfolding include_of is_word
include_read hs true e = rw e refl
include_read hs false e = rw e refl

pub lease_read : (hs : List Header) (o : Option LeaseId) → IfSome o IsLeaseId → Holds (codes "x-ms-lease-id") hs (option_map id_text o) → lease_of hs ≡ Ok o
unfolding lease_of maybe_id
lease_read hs o h e = rw e (id_given_back (codes "x-ms-lease-id") o h)

pub scope_read : (hs : List Header) (scope : ReadScope) → IsReadScope scope → Holds (codes "x-ms-lease-id") hs (option_map id_text scope.lease) → scope_of scope.snap hs ≡ Ok scope
unfolding scope_of
scope_read hs scope h e = rw (lease_read hs scope.lease h.2 e) (scope_back scope h.0)

pub below_read : (at : Target) → is_below_root at ≡ true → below_root at ≡ Ok at
unfolding below_root
below_read at e = rw e refl

pub new_attributes_read : (directory : Bool) (hs : List Header) (a : Attributes) → a.directory ≡ directory → Holds (codes "x-ms-file-attributes") hs (Some (attributes_text a)) → new_attributes directory hs ≡ Ok a
unfolding new_attributes
new_attributes_read directory hs a h e = rw e (attributes_back directory a h)

pub set_attributes_read : (hs : List Header) (o : Option Attributes) → IfSome o (λ a. a.directory ≡ false) → Holds (codes "x-ms-file-attributes") hs (option_map attributes_text o) → set_attributes hs ≡ Ok o
unfolding set_attributes
set_attributes_read hs o h e = rw e (attributes_kept_back o h)

pub new_time_read : (name : List ℕ) (hs : List Header) (o : Option ℕ) → IfSome o IsWritten → Holds name hs (option_map moment_text o) → new_time name hs ≡ Ok o
unfolding new_time
new_time_read name hs o h e = rw e (time_now_back name o h)

pub set_time_read : (name : List ℕ) (hs : List Header) (time : Time) → IsTime time → Holds name hs (Some (time_text time)) → set_time name hs ≡ Ok time
unfolding set_time
set_time_read name hs time h e = rw e (time_kept_back name time h)

pub new_length_read : (hs : List Header) (n : ℕ) → is_file_length n ≡ true → Holds (codes "x-ms-content-length") hs (Some (decimal n)) → new_length hs ≡ Ok n
unfolding new_length needed_header
new_length_read hs n h e = rw e (length_back n h)

pub set_length_read : (hs : List Header) (o : Option ℕ) → IfSome o (λ n. is_file_length n ≡ true) → Holds (codes "x-ms-content-length") hs (option_map decimal o) → set_length hs ≡ Ok o
unfolding set_length
set_length_read hs o h e = rw e (length_if_back o h)

pub word_read : (name word : List ℕ) (hs : List Header) → is_word word word ≡ true → Holds name hs (Some word) → needed_word name word hs ≡ Ok true
unfolding needed_word needed_header
word_read name word hs w e = rw (e, w) refl

pub recursive_read : (hs : List Header) (b : Bool) → Holds (codes "x-ms-recursive") hs (Some (bool_text b)) → recursive_of hs ≡ Ok b
unfolding recursive_of
recursive_read hs b e = rw e (recursive_back b)

pub handle_read : (hs : List Header) (o : Option Handle) → IfSome o IsHandleId → Holds (codes "x-ms-handle-id") hs (Some (handle_or_all o)) → handle_of hs ≡ Ok o
unfolding handle_of needed_header
handle_read hs o h e = rw e (handle_back o h)

-- the content headers are these
pub record HoldsContent (hs : List Header) (c : Content) : Type 0 where
  pub kind : Holds (codes "x-ms-content-type") hs c.kind
  pub encoding : Holds (codes "x-ms-content-encoding") hs c.encoding
  pub language : Holds (codes "x-ms-content-language") hs c.language
  pub cache_control : Holds (codes "x-ms-cache-control") hs c.cache_control
  pub disposition : Holds (codes "x-ms-content-disposition") hs c.disposition
  pub md5 : Holds (codes "x-ms-content-md5") hs (option_map digest_text c.md5)

pub content_read : (hs : List Header) (c : Content) → IsContent c → IsReadDigest c.md5 → HoldsContent hs c → content_of hs ≡ Ok c
unfolding content_of content_text digest_of
content_read hs c h d e = rw (
  e.kind,
  text_given_back (codes "x-ms-content-type") c.kind h.0,
  e.encoding,
  text_given_back (codes "x-ms-content-encoding") c.encoding h.1,
  e.language,
  text_given_back (codes "x-ms-content-language") c.language h.2,
  e.cache_control,
  text_given_back (codes "x-ms-cache-control") c.cache_control h.3,
  e.disposition,
  text_given_back (codes "x-ms-content-disposition") c.disposition h.4,
  e.md5,
  digest_given_back (codes "x-ms-content-md5") c.md5 d,
) refl

pub span_read : (hs : List Header) (o : Option BytesFrom) → IfSome o (λ b. is_first b ≡ true) → has_header (codes "x-ms-range") hs ≡ is_some o → has_header (codes "range") hs ≡ false
    → Holds (codes "x-ms-range") hs (option_map bytes_text o) → span_of hs ≡ Ok o
unfolding span_of range_name
span_read hs None h a b e = rw (a, b, e) refl
span_read hs (Some f) h a b e = rw (a, e) (first_back (codes "x-ms-range") (Some f) h)

pub interval_read : (most : ℕ) (hs : List Header) (i : Interval) → is_byte_range i ≡ true → i.end - i.from ≤ most → has_header (codes "x-ms-range") hs ≡ true
    → Holds (codes "x-ms-range") hs (Some (interval_text i)) → interval_of most hs ≡ Ok i
unfolding interval_of range_name needed_header
interval_read most hs i h le a e = rw (a, e) (interval_back (codes "x-ms-range") most i h le)

-- an action on a lease is read from its fields
pub action_back : (action : LeaseAction) → IsLeaseAction action → lease_action (headers_spelled (action_fields action) []) ≡ Ok action
unfolding lease_action needed_header action_named acquire_of change_of release_of duration_of maybe_id needed_id is_word
action_back (Acquire proposed) h =
    let fields = action_fields (Acquire proposed) in
    rw (
      field_is (codes "x-ms-lease-action") fields [] (λ m. refl) refl,
      field_is (codes "x-ms-lease-duration") fields [] (λ m. refl) refl,
      field_is (codes "x-ms-proposed-lease-id") fields [] (λ m. refl) refl,
      id_given_back (codes "x-ms-proposed-lease-id") proposed h,
    ) refl
action_back (Change id to) h =
    let fields = action_fields (Change id to) in
    rw (
      field_is (codes "x-ms-lease-action") fields [] (λ m. refl) refl,
      field_is (codes "x-ms-lease-id") fields [] (λ m. refl) refl,
      field_is (codes "x-ms-proposed-lease-id") fields [] (λ m. refl) refl,
      id_read_back (codes "x-ms-lease-id") id h.0,
      id_read_back (codes "x-ms-proposed-lease-id") to h.1,
    ) refl
action_back (Release id) h =
    let fields = action_fields (Release id) in
    rw (
      field_is (codes "x-ms-lease-action") fields [] (λ m. refl) refl,
      field_is (codes "x-ms-lease-id") fields [] (λ m. refl) refl,
      id_read_back (codes "x-ms-lease-id") id h,
    ) refl
action_back Break h =
    rw (field_is (codes "x-ms-lease-action") (action_fields Break) [] (λ m. refl) refl) refl
