-- The limits of the kinds of fields that calls have.
use Rattle.std.specs.Prelude.{ℕ, ◌≡◌, ◌≤◌, ◌<◌, ◌^◌, true, List, length, Option, IfSome}
use Rattle.sx_guard.specs.Handle.{Handle}
use Rattle.sx_lease.specs.declared.lease.LeaseId.{LeaseId}
use Rattle.sx_moment.specs.Moments.{IsShownMoment}
use Rattle.sx_names.specs.Names.{is_share_name, is_path}
use Rattle.sx_names.specs.Header.{is_content_text}
use Rattle.sx_names.specs.declared.content.Content.{Content}
use Rattle.sx_call.specs.Leases.{ReadScope, is_read_scope}
use Rattle.sx_call.specs.Targets.{has_part, is_below_root}
use Rattle.sx_call.specs.declared.targets.Target.{Target}
use Rattle.sx_call.specs.declared.listings.SharesMarker.{SharesMarker}
use Rattle.sx_call.specs.declared.times.Time.{Time}
use Rattle.sx_call.specs.declared.times.Time.TheVariants.{Keep, Now, At}
use Rattle.sx_call.specs.declared.leases.LeaseAction.{LeaseAction}
use Rattle.sx_call.specs.declared.leases.LeaseAction.TheVariants.{Acquire, Change, Release, Break}

-- a share name and a path
abbrev pub IsTarget : Target → Type 0
IsTarget at = (is_share_name at.share ≡ true) × (is_path at.path ≡ true)

-- a share name and a path of at least one part
abbrev pub IsTargetBelowRoot : Target → Type 0
IsTargetBelowRoot at = IsTarget at × (is_below_root at ≡ true)

-- a path of at least one part
abbrev pub IsNamedPath : List (List ℕ) → Type 0
IsNamedPath path = (is_path path ≡ true) × (has_part path ≡ true)

-- a UUID as a number
abbrev pub IsLeaseId : LeaseId → Type 0
IsLeaseId id = id.0 < 2 ^ 128

-- a moment or a lease id, not both
abbrev pub IsReadScope : ReadScope → Type 0
IsReadScope scope = (is_read_scope scope ≡ true) × IfSome scope.snap IsShownMoment × IfSome scope.lease IsLeaseId

-- ids that are UUIDs
abbrev pub IsLeaseAction : LeaseAction → Type 0
IsLeaseAction (Acquire proposed) = IfSome proposed IsLeaseId
IsLeaseAction (Change id to) = IsLeaseId id × IsLeaseId to
IsLeaseAction (Release id) = IsLeaseId id
IsLeaseAction Break = Unit {0}

-- where a page of shares begins
abbrev pub IsSharesMarker : SharesMarker → Type 0
IsSharesMarker marker = (is_share_name marker.share ≡ true) × IfSome marker.snapshot IsShownMoment

-- a content header that is given is a text that one can carry
abbrev pub IsContentText : Option (List ℕ) → Type 0
IsContentText text = IfSome text (λ bytes. is_content_text bytes ≡ true)

-- five texts and a digest of 16 bytes, where they are given
abbrev pub IsContent : Content → Type 0
IsContent content =
    IsContentText content.kind × IsContentText content.encoding × IsContentText content.language
    × IsContentText content.cache_control × IsContentText content.disposition
    × IfSome content.md5 (λ bytes. length bytes ≡ 16)

-- a time that is given is a moment
abbrev pub IsTime : Time → Type 0
IsTime Keep = Unit {0}
IsTime Now = Unit {0}
IsTime (At moment) = IsShownMoment moment

-- two numbers of 32 bits, from 1
abbrev pub IsHandleId : Handle → Type 0
IsHandleId handle = (1 ≤ handle.session) × (handle.session < 2 ^ 32) × (1 ≤ handle.index) × (handle.index < 2 ^ 32)

-- a number of 32 bits, from 1
abbrev pub IsHandleIndex : ℕ → Type 0
IsHandleIndex index = (1 ≤ index) × (index < 2 ^ 32)
