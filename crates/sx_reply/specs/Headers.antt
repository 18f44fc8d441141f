-- The headers of answers that tell of shares, files and directories, each with its line end.
use Rattle.std.specs.Prelude.{codes, ℕ, ◌∷◌, [], List, Option, Some, None, unwrap_or}
use Rattle.std.specs.List.{concat, flat_map}
use Rattle.std.specs.Fmt.{decimal}
use Rattle.base64.specs.GeneralPurpose.{encode_of}
use Rattle.base64.specs.Engines.{standard}
use Rattle.sx_names.specs.declared.meta_pair.MetaPair.{MetaPair}
use Rattle.sx_lease.specs.declared.lease.LeaseId.{LeaseId}
use Rattle.sx_call.specs.declared.shown.Stamp.{Stamp}
use Rattle.sx_call.specs.declared.shown.Shown.{Shown}
use Rattle.sx_call.specs.declared.leases.LeaseShown.{LeaseShown}
use Rattle.sx_call.specs.declared.leases.LeaseShown.TheVariants.{Leased, Available, Broken}
use Rattle.sx_base.specs.Date.{date_text}
use Rattle.sx_base.specs.Moment.{moment_text}
use Rattle.sx_reply.specs.Values.{upper_hex, uuid_text}

-- a line of a head: a header's name with the colon and a space behind it, its value, and the line end
abbrev pub line : List ℕ → List ℕ → List ℕ
line name value = concat (name ∷ value ∷ codes "\r\n" ∷ [])

-- the same, where there is a value
abbrev pub line_if : List ℕ → Option (List ℕ) → List ℕ
line_if name None = []
line_if name (Some value) = line name value

-- the change time and the ETag
unfoldable pub stamp_text : Stamp → List ℕ
stamp_text stamp =
    concat (
    codes "Last-Modified: " ∷ date_text stamp.changed
    ∷ codes "\r\nETag: \"0x" ∷ upper_hex 16 stamp.etag
    ∷ codes "\"\r\n" ∷ [])

-- the times and ids of a file or directory
unfoldable pub facts_text : Shown → List ℕ
facts_text node =
    concat (
    codes "x-ms-file-creation-time: " ∷ moment_text node.created
    ∷ codes "\r\nx-ms-file-last-write-time: " ∷ moment_text node.written
    ∷ codes "\r\nx-ms-file-change-time: " ∷ moment_text node.changed
    ∷ codes "\r\nx-ms-file-id: " ∷ decimal node.id
    ∷ codes "\r\nx-ms-file-parent-id: " ∷ decimal node.parent
    ∷ codes "\r\n" ∷ [])

-- the state of a lease
unfoldable pub lease_text : LeaseShown → List ℕ
lease_text Leased =
    codes "x-ms-lease-status: locked\r\nx-ms-lease-state: leased\r\nx-ms-lease-duration: infinite\r\n"
lease_text Available = codes "x-ms-lease-status: unlocked\r\nx-ms-lease-state: available\r\n"
lease_text Broken = codes "x-ms-lease-status: unlocked\r\nx-ms-lease-state: broken\r\n"

-- a name of metadata with its value
unfoldable pub pair_text : MetaPair → List ℕ
pair_text pair = concat (codes "x-ms-meta-" ∷ pair.name ∷ codes ": " ∷ pair.value ∷ codes "\r\n" ∷ [])

-- the metadata, in its order
abbrev pub meta_text : List MetaPair → List ℕ
meta_text pairs = flat_map pair_text pairs

-- the content type, `application/octet-stream` where none is kept
abbrev pub kind_text : Option (List ℕ) → List ℕ
kind_text kind = line (codes "Content-Type: ") (unwrap_or kind (codes "application/octet-stream"))

-- an MD5 digest in base64 under the header's name, where one is kept
abbrev pub md5_text : List ℕ → Option (List ℕ) → List ℕ
md5_text name None = []
md5_text name (Some md5) = line name (encode_of standard md5)

-- an id under which a lease is held, where it is told
abbrev pub lease_id_text : Option LeaseId → List ℕ
lease_id_text None = []
lease_id_text (Some id) = line (codes "x-ms-lease-id: ") (uuid_text id.0)
