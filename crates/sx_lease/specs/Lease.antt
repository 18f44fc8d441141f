-- The table of lease actions, and the rule by which a call that gives a lease id, or none, is checked.
use Rattle.std.specs.Prelude.{ℕ, Bool, ◌==◌, if◌then◌else◌, Option, Some, None}
use Rattle.std.specs.Int.{w128, to_be_bytes, from_be_bytes}
use Rattle.uuid.specs.Parts.{with_variant, with_version}
use Rattle.uuid.specs.declared.Variant.TheVariants.{RFC4122}
use Rattle.uuid.specs.declared.Version.TheVariants.{Random}
use Rattle.sx_lease.specs.declared.lease.LeaseId.{LeaseId}
use Rattle.sx_lease.specs.declared.lease.LeaseState.{LeaseState}
use Rattle.sx_lease.specs.declared.lease.LeaseState.TheVariants.{Available, Leased, Broken}
use Rattle.sx_lease.specs.declared.lease.LeaseSay.{LeaseSay}
use Rattle.sx_lease.specs.declared.lease.LeaseSay.TheVariants.{Granted, Taken, IdWrong, NotThere}
use Rattle.sx_lease.specs.declared.lease.LeaseCheck.{LeaseCheck}
use Rattle.sx_lease.specs.declared.lease.LeaseCheck.TheVariants.{Pass, Held, Other, NoLease}

-- the lease id made from a random number: a UUID of version 4 ("random") and of the variant of RFC 9562, all of whose
-- other bits are the number's
abbrev pub random_lease_id : ℕ → ℕ
random_lease_id fresh = from_be_bytes w128 (with_version (with_variant (to_be_bytes w128 fresh) RFC4122) Random)

-- whether two lease ids are one
abbrev pub same_lease_id : LeaseId → LeaseId → Bool
same_lease_id a b = a.0 == b.0

-- acquire with an id: granted unless another holds the lease
abbrev pub acquire_lease : LeaseState → LeaseId → LeaseState × LeaseSay
acquire_lease Available id = (Leased id, Granted)
acquire_lease (Leased held) id = if same_lease_id id held then (Leased held, Granted) else (Leased held, Taken)
acquire_lease Broken id = (Leased id, Granted)

-- change an id to another: granted to the holder
abbrev pub change_lease : LeaseState → LeaseId → LeaseId → LeaseState × LeaseSay
change_lease Available id to = (Available, NotThere)
change_lease (Leased held) id to = if same_lease_id id held then (Leased to, Granted) else (Leased held, IdWrong)
change_lease Broken id to = (Broken, NotThere)

-- release by an id: granted to the holder
abbrev pub release_lease : LeaseState → LeaseId → LeaseState × LeaseSay
release_lease Available id = (Available, NotThere)
release_lease (Leased held) id = if same_lease_id id held then (Available, Granted) else (Leased held, IdWrong)
release_lease Broken id = (Broken, NotThere)

-- break by anybody: at once, and again where it is broken
abbrev pub break_lease : LeaseState → LeaseState × LeaseSay
break_lease Available = (Available, NotThere)
break_lease (Leased held) = (Broken, Granted)
break_lease Broken = (Broken, Granted)

-- the check of a call that writes or reads, and gives an id or none
abbrev pub check_lease : LeaseState → Option LeaseId → Bool → LeaseCheck
check_lease Available None writes = Pass
check_lease Available (Some id) writes = NoLease
check_lease (Leased held) None writes = if writes then Held else Pass
check_lease (Leased held) (Some id) writes = if same_lease_id id held then Pass else Other
check_lease Broken None writes = Pass
check_lease Broken (Some id) writes = NoLease

-- the id that holds the lease
abbrev pub lease_holder : LeaseState → Option LeaseId
lease_holder Available = None
lease_holder (Leased held) = Some held
lease_holder Broken = None

-- an action is refused
abbrev pub IsRefusal : LeaseSay → Type 0
IsRefusal Granted = ⊥
IsRefusal Taken = Unit {0}
IsRefusal IdWrong = Unit {0}
IsRefusal NotThere = Unit {0}
