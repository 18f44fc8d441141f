-- That a digest is read from its base64: a fact of bytes, which the type of a digest keeps.
use Rattle.std.specs.Prelude.{ℕ, ◌≡◌, List, Option, Some, IfSome}
use Rattle.sx_names.specs.Content.{md5_of}
use Rattle.sx_call.specs.declared.calls.Call.{Call}
use Rattle.sx_call.specs.declared.calls.Call.TheVariants.{CreateFile, SetFileProperties}
use Rattle.sx_heads.specs.Values.{digest_text}

-- a digest whose base64 is read as it
abbrev pub IsReadDigest : Option (List ℕ) → Type 0
IsReadDigest digest = IfSome digest (λ bytes. md5_of (digest_text bytes) ≡ Some bytes)

-- the digest of the content headers is such a one, where the call has them
abbrev pub HasReadDigest : Call → Type 0
HasReadDigest (CreateFile c) = IsReadDigest c.content.md5
HasReadDigest (SetFileProperties c) = IsReadDigest c.content.md5
HasReadDigest call = Unit {0}
