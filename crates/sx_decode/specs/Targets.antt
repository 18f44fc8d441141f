-- What the path of a target names.
use Rattle.std.specs.Prelude.{ℕ, ◌==◌, ◌-◌, Bool, List, [], ◌∷◌, length, take, drop, slice_index, if◌then◌else◌}
use Rattle.std.specs.Prelude.{Option, Some, None, Ok, Err}
use Rattle.std.specs.List.{slice_split}
use Rattle.percent_encoding.specs.Percent.{percent_decode}
use Rattle.sx_names.specs.Fault.{part_fault, share_fault, whole_fault}
use Rattle.sx_names.specs.declared.fault.NameFault.{NameFault}
use Rattle.sx_names.specs.declared.fault.NameRule.TheVariants.{Utf8, Empty}
use Rattle.sx_call.specs.declared.refusals.Syntax.TheVariants.{Uri, NoCall}
use Rattle.sx_call.specs.declared.targets.Target.{Target}
use Rattle.sx_call.specs.Targets.{is_below_root}
use Rattle.sx_decode.specs.declared.targets.Place.{Place}
use Rattle.sx_decode.specs.declared.targets.Place.TheVariants.{Account, Inside}
use Rattle.sx_decode.specs.Reading.{Reading, with_next, each_read}
use Rattle.sx_decode.specs.Escapes.{first_bad}

-- what a segment encodes, unless a `%` begins no escape there
abbrev pub unless_bad : ℕ → List ℕ → Option ℕ → Reading (List ℕ)
unless_bad part text None = Ok (percent_decode text)
unless_bad part text (Some at) = Err (Uri Utf8 part at)

-- what a segment of the path encodes
abbrev pub segment_of : ℕ → List ℕ → Reading (List ℕ)
segment_of part text = unless_bad part text (first_bad text)

-- this name, unless it breaks a rule
abbrev pub unless_broken : {N : Type 0} → Option NameFault → N → Reading N
unless_broken None name = Ok name
unless_broken (Some fault) name = Err (Uri fault.rule fault.part fault.at)

-- the share that the first segment names
unfoldable pub share_of : List ℕ → Reading (List ℕ)
share_of text = with_next (segment_of 0 text) (λ name. unless_broken (share_fault name) name)

-- the part that a later segment names
abbrev pub part_of : ℕ → List ℕ → Reading (List ℕ)
part_of part text = with_next (segment_of part text) (λ name. unless_broken (part_fault part name) name)

-- the path of these segments, which breaks the rules of paths last
unfoldable pub path_of : List (List ℕ) → Reading (List (List ℕ))
path_of segments = with_next (each_read part_of 1 segments) (λ parts. unless_broken (whole_fault parts) parts)

-- what segments name, the first being the share
unfoldable pub place_of_segments : List (List ℕ) → Reading Place
place_of_segments [] = Ok Account
place_of_segments (first ∷ segments) =
    with_next (share_of first) (λ share.
    with_next (path_of segments) (λ path.
    Ok (Inside (record { share = share; path = path }))))

-- `/`
abbrev pub is_slash : ℕ → Bool
is_slash b = b == 47

-- one slash at the end is passed over
abbrev pub without_slash : List ℕ → List ℕ
without_slash text = if slice_index text (length text - 1) == 47 then take (length text - 1) text else text

-- what stands behind the first slash: nothing names the account, and segments are split at slashes before they are
-- decoded
unfoldable pub place_behind_slash : List ℕ → Reading Place
place_behind_slash text = if length text == 0 then Ok Account else place_of_segments (slice_split is_slash text)

-- what the path of a target names
unfoldable pub place_of : List ℕ → Reading Place
place_of path =
    if slice_index path 0 == 47 then place_behind_slash (without_slash (drop 1 path)) else Err (Uri Empty 0 0)

-- the target of a call that needs a name
unfoldable pub below_root : Target → Reading Target
below_root at = if is_below_root at then Ok at else Err NoCall
