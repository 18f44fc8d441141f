-- HMAC (RFC 2104, section 2) with SHA-256, whose blocks have 64 bytes.
use Rattle.std.specs.Prelude.{ℕ, ◌-◌, List, ◌++◌, length, map, replicate, bit_xor, if◌then◌else◌, nat_lt}
use Rattle.sha2.specs.Sha256.{sha256}

-- a key of at most a block with zeros behind it up to a block, each byte combined with the pad's
abbrev pub padded_key : ℕ → List ℕ → List ℕ
padded_key pad key = map (λ b. bit_xor b pad) key ++ replicate (64 - length key) pad

-- the digest of a padded key and a text
abbrev pub padded_digest : ℕ → List ℕ → List ℕ → List ℕ
padded_digest pad key text = sha256 (padded_key pad key ++ text)

-- the inner pad is 0x36, the outer pad 0x5c
abbrev pub block_hmac : List ℕ → List ℕ → List ℕ
block_hmac key text = padded_digest 0x5c key (padded_digest 0x36 key text)

-- a key longer than a block is hashed first
unfoldable pub hmac : List ℕ → List ℕ → List ℕ
hmac key text = block_hmac (if nat_lt 64 (length key) then sha256 key else key) text
