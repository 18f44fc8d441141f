-- The digest that a content header carries.
use Rattle.std.specs.Prelude.{ℕ, ◌==◌, if◌then◌else◌, List, length, Option, Some, None}
use Rattle.base64.specs.GeneralPurpose.{decoded_of}
use Rattle.base64.specs.Engines.{standard}

-- these bytes, if there are 16 of them
abbrev pub if_16 : Option (List ℕ) → Option (List ℕ)
if_16 None = None
if_16 (Some bytes) = if length bytes == 16 then Some bytes else None

-- the 16 bytes of which a text is the strict base64 (RFC 4648, section 4), if it is
unfoldable pub md5_of : List ℕ → Option (List ℕ)
md5_of text = if_16 (decoded_of standard text)
