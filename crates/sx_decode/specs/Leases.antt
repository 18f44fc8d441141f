-- Lease ids and lease actions in headers.
use Rattle.std.specs.Prelude.{ℕ, List, codes, bytes_eq, if◌then◌else◌, Bool, true, Option, Some, None, Ok, Err}
use Rattle.std.specs.Option.{option_map}
use Rattle.std.specs.Str.{is_utf8}
use Rattle.std.specs.Int.{w128, from_be_bytes}
use Rattle.uuid.specs.Text.{parsed}
use Rattle.sx_http.specs.declared.heads.Header.{Header}
use Rattle.sx_lease.specs.declared.lease.LeaseId.{LeaseId}
use Rattle.sx_call.specs.Leases.{ReadScope, is_read_scope}
use Rattle.sx_call.specs.declared.leases.LeaseAction.{LeaseAction}
use Rattle.sx_call.specs.declared.leases.LeaseAction.TheVariants.{Acquire, Change, Release, Break}
use Rattle.sx_call.specs.declared.refusals.Syntax.TheVariants.{Header as BadHeader}
use Rattle.sx_decode.specs.Reading.{Reading, with_next}
use Rattle.sx_decode.specs.Lookup.{one_header, needed_header}
use Rattle.sx_decode.specs.Words.{is_word}

-- the lease id with these 16 bytes
abbrev pub id_of_bytes : List ℕ → LeaseId
id_of_bytes bytes = record { 0 = from_be_bytes w128 bytes }

-- the lease id that a text spells: a UUID in any of its four text forms
abbrev pub lease_id_of : List ℕ → Option LeaseId
lease_id_of text = if is_utf8 text then option_map id_of_bytes (parsed text) else None

-- a lease id of a header
abbrev pub id_read : List ℕ → Option LeaseId → Reading LeaseId
id_read name None = Err (BadHeader name)
id_read name (Some id) = Ok id

-- the same where the header may be absent
abbrev pub id_if_given : List ℕ → Option (List ℕ) → Reading (Option LeaseId)
id_if_given name None = Ok None
id_if_given name (Some text) = with_next (id_read name (lease_id_of text)) (λ id. Ok (Some id))

-- a lease id that may be there
unfoldable pub maybe_id : List ℕ → List Header → Reading (Option LeaseId)
maybe_id name headers = with_next (one_header name headers) (id_if_given name)

-- a lease id that has to be there
unfoldable pub needed_id : List ℕ → List Header → Reading LeaseId
needed_id name headers = with_next (needed_header name headers) (λ text. id_read name (lease_id_of text))

-- x-ms-lease-id
unfoldable pub lease_of : List Header → Reading (Option LeaseId)
lease_of headers = maybe_id (codes "x-ms-lease-id") headers

-- a snapshot or a lease id, not both
unfoldable pub scope_with : Option ℕ → Option LeaseId → Reading ReadScope
scope_with snap lease =
    if is_read_scope (record { snap = snap; lease = lease }) then Ok (record { snap = snap; lease = lease })
    else Err (BadHeader (codes "x-ms-lease-id"))

-- x-ms-lease-id, which stands beside no snapshot
unfoldable pub scope_of : Option ℕ → List Header → Reading ReadScope
scope_of snap headers = with_next (lease_of headers) (scope_with snap)

-- no end: `-1`
abbrev pub infinite : Option (List ℕ) → Reading Bool
infinite None = Ok true
infinite (Some text) = if bytes_eq text (codes "-1") then Ok true else Err (BadHeader (codes "x-ms-lease-duration"))

-- x-ms-lease-duration: absence means no end
unfoldable pub duration_of : List Header → Reading Bool
duration_of headers = with_next (one_header (codes "x-ms-lease-duration") headers) infinite

-- acquire, with no end, under an id that may be proposed
unfoldable pub acquire_of : List Header → Reading LeaseAction
acquire_of headers =
    with_next (duration_of headers) (λ _.
    with_next (maybe_id (codes "x-ms-proposed-lease-id") headers) (λ proposed.
    Ok (Acquire proposed)))

-- change of an id to the one proposed
unfoldable pub change_of : List Header → Reading LeaseAction
change_of headers =
    with_next (needed_id (codes "x-ms-lease-id") headers) (λ id.
    with_next (needed_id (codes "x-ms-proposed-lease-id") headers) (λ to.
    Ok (Change id to)))

-- release of an id
unfoldable pub release_of : List Header → Reading LeaseAction
release_of headers = with_next (needed_id (codes "x-ms-lease-id") headers) (λ id. Ok (Release id))

-- the action that a word names, with its headers
unfoldable pub action_named : List ℕ → List Header → Reading LeaseAction
action_named word headers =
    if is_word (codes "acquire") word then acquire_of headers
    else if is_word (codes "change") word then change_of headers
    else if is_word (codes "release") word then release_of headers
    else if is_word (codes "break") word then Ok Break
    else Err (BadHeader (codes "x-ms-lease-action"))

-- x-ms-lease-action, and what it needs
unfoldable pub lease_action : List Header → Reading LeaseAction
lease_action headers = with_next (needed_header (codes "x-ms-lease-action") headers) (λ word. action_named word headers)
