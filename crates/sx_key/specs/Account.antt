-- The names and keys of accounts.
use Rattle.std.specs.Prelude.{ℕ, ◌&&◌, Bool, nat_le, List, [], ◌∷◌, length, Option, Some, None}
use Rattle.std.specs.List.{list_all}
use Rattle.base64.specs.GeneralPurpose.{decoded_of}
use Rattle.base64.specs.Engines.{standard}
use Rattle.sx_names.specs.Names.{is_lower_or_digit}

-- 3 to 24 lower-case letters and digits
abbrev pub is_account_name : List ℕ → Bool
is_account_name name = nat_le 3 (length name) && nat_le (length name) 24 && list_all is_lower_or_digit name

-- at least one byte
abbrev pub nonempty_bytes : Option (List ℕ) → Option (List ℕ)
nonempty_bytes None = None
nonempty_bytes (Some []) = None
nonempty_bytes (Some (b ∷ bs)) = Some (b ∷ bs)

-- the key that a text spells in strict base64 (RFC 4648, section 4)
abbrev pub key_of : List ℕ → Option (List ℕ)
key_of text = nonempty_bytes (decoded_of standard text)
