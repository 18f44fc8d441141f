-- How the values of fields and parameters are spelled.
use Rattle.std.specs.Prelude.{ℕ, ◌-◌, ◌++◌, Bool, if◌then◌else◌, List, [], ◌∷◌, codes, decimal, Option, Some, None}
use Rattle.std.specs.List.{flat_map}
use Rattle.std.specs.Int.{w128, to_be_bytes}
use Rattle.base64.specs.GeneralPurpose.{encode_of}
use Rattle.base64.specs.Engines.{standard}
use Rattle.percent_encoding.specs.Percent.{percent_encode}
use Rattle.uuid.specs.Text.{lower, hyphenated_text}
use Rattle.sx_base.specs.Moment.{moment_text}
use Rattle.sx_extent.specs.Ranges.{Interval}
use Rattle.sx_guard.specs.Handle.{Handle}
use Rattle.sx_lease.specs.declared.lease.LeaseId.{LeaseId}
use Rattle.sx_names.specs.declared.attributes.Attributes.{Attributes}
use Rattle.sx_call.specs.Ranges.{BytesFrom}
use Rattle.sx_call.specs.declared.listings.SharesMarker.{SharesMarker}
use Rattle.sx_call.specs.declared.times.Time.{Time}
use Rattle.sx_call.specs.declared.times.Time.TheVariants.{Keep, Now, At}
use Rattle.sx_heads.specs.declared.escapes.TheConstants.{PLAIN}

-- percent-encoded: every byte but ASCII letters, digits, `-`, `_`, `.` and `~`
abbrev pub escaped : List ℕ → List ℕ
escaped text = percent_encode PLAIN text

-- a lease id: a UUID in lower case with hyphens
unfoldable pub id_text : LeaseId → List ℕ
id_text id = hyphenated_text lower (to_be_bytes w128 id.0)

-- a digest in base64
unfoldable pub digest_text : List ℕ → List ℕ
digest_text bytes = encode_of standard bytes

-- a last byte, where it is given
abbrev pub last_text : Option ℕ → List ℕ
last_text None = []
last_text (Some last) = decimal last

-- `bytes=A-` or `bytes=A-B`
unfoldable pub bytes_text : BytesFrom → List ℕ
bytes_text b = codes "bytes=" ++ decimal b.from ++ codes "-" ++ last_text b.last

-- `bytes=A-B`, of the first byte and the last one
abbrev pub interval_text : Interval → List ℕ
interval_text i = bytes_text (record { from = i.from; last = Some (i.end - 1) })

-- `S.K`
unfoldable pub handle_text : Handle → List ℕ
handle_text handle = decimal handle.session ++ codes "." ++ decimal handle.index

-- a handle, or `*` for all of them
abbrev pub handle_or_all : Option Handle → List ℕ
handle_or_all None = codes "*"
handle_or_all (Some handle) = handle_text handle

-- `true` or `false`
abbrev pub bool_text : Bool → List ℕ
bool_text value = if value then codes "true" else codes "false"

-- a time that is set
abbrev pub time_text : Time → List ℕ
time_text Keep = codes "preserve"
time_text Now = codes "now"
time_text (At moment) = moment_text moment

-- the words whose flags are set
abbrev pub words_said : List (Bool × List ℕ) → List (List ℕ)
words_said [] = []
words_said (word ∷ words) = if word.0 then word.1 ∷ words_said words else words_said words

-- the words of attributes with their flags, in their order
abbrev pub attribute_flags : Attributes → List (Bool × List ℕ)
attribute_flags a =
    (a.read_only, codes "ReadOnly") ∷ (a.hidden, codes "Hidden") ∷ (a.system, codes "System")
    ∷ (a.archive, codes "Archive") ∷ (a.temporary, codes "Temporary") ∷ (a.offline, codes "Offline")
    ∷ (a.not_content_indexed, codes "NotContentIndexed") ∷ (a.no_scrub_data, codes "NoScrubData")
    ∷ (a.directory, codes "Directory") ∷ []

-- words with bars between them, or `None`
abbrev pub words_text : List (List ℕ) → List ℕ
words_text [] = codes "None"
words_text (word ∷ words) = word ++ flat_map (λ w. 124 ∷ w) words

-- attributes: the words of those that are set with bars between them, or `None`
unfoldable pub attributes_text : Attributes → List ℕ
attributes_text a = words_text (words_said (attribute_flags a))

-- the moment of a snapshot behind `@`, where one is named
abbrev pub at_moment : Option ℕ → List ℕ
at_moment None = []
at_moment (Some moment) = 64 ∷ moment_text moment

-- `NAME` or `NAME@MOMENT`
unfoldable pub shares_marker_text : SharesMarker → List ℕ
shares_marker_text marker = marker.share ++ at_moment marker.snapshot
