-- How a file is kept: a map with one entry for each marked granule, from its number to its 512 bytes.
use Rattle.std.specs.Prelude.{◌≡◌, ℕ, ◌+◌, ◌-◌, ◌*◌, ◌/◌, ◌%◌, ◌≤◌, ◌<◌, Bool, true, not, ◌&&◌, ◌||◌, if◌then◌else◌}
use Rattle.std.specs.Prelude.{nat_le, nat_lt, ◌==◌, List, [], length, map, slice_index, Option, is_some, IfSome}
use Rattle.std.specs.Prelude.{unwrap_or}
use Rattle.std.specs.List.{range_with_len}
use Rattle.std.specs.Map.{lookup}
use Rattle.std.specs.BTreeMap.{is_at}
use Rattle.std.specs.Ordering.{nat_cmp}
use Rattle.sx_extent.specs.Ranges.{SparseFile, granule_count, granule_size, most_bytes, marks_by, covers, touches}

-- the entries of such a map, in order
abbrev pub Entries : Type 0
Entries = List (ℕ × List ℕ)

-- the bytes of granule g, if it has an entry
abbrev pub granule_at : Entries → ℕ → Option (List ℕ)
granule_at es g = lookup (is_at (nat_cmp g)) es

-- granule g has an entry
unfoldable pub has_granule : Entries → ℕ → Bool
has_granule es g = is_some (granule_at es g)

-- the byte at place k, zero where its granule has no entry
unfoldable pub byte_at : Entries → ℕ → ℕ
byte_at es k = slice_index (unwrap_or (granule_at es (k / granule_size)) []) (k % granule_size)

-- so many bytes from a place on
unfoldable pub bytes_from : Entries → ℕ → ℕ → List ℕ
bytes_from es at count = map (byte_at es) (range_with_len at count)

-- each entry has a whole granule
unfoldable pub IsSized : Entries → Type 0
IsSized es = (g : ℕ) → IfSome (granule_at es g) (λ bytes. length bytes ≡ granule_size)

-- the file of a length that a map keeps
unfoldable pub file_of : ℕ → Entries → SparseFile
file_of bytes es =
    record { bytes = bytes_from es 0 bytes; marks = marks_by (has_granule es) (granule_count bytes) }

-- what a map keeps for a file of a length: whole granules, none past the end, and zeros past the end
pub record IsKept (bytes : ℕ) (es : Entries) : Type 0 where
  pub limit : bytes ≤ most_bytes
  pub sized : IsSized es
  pub within : (g : ℕ) → has_granule es g ≡ true → granule_size * g < bytes
  pub zeros : (k : ℕ) → bytes ≤ k → byte_at es k ≡ 0

-- what a map keeps for a view: whole granules, of a part of a file
pub record IsShown (from bytes : ℕ) (es : Entries) : Type 0 where
  pub limit : from + bytes ≤ most_bytes
  pub sized : IsSized es

-- place k lies in the interval
abbrev pub is_between : ℕ → ℕ → ℕ → Bool
is_between from end k = nat_le from k && nat_lt k end

-- bytes were written from a place on, and each granule kept its mark
pub record IsWritten (old new : Entries) (at : ℕ) (written : List ℕ) : Type 0 where
  pub marks : (g : ℕ) → has_granule new g ≡ has_granule old g
  pub bytes : (k : ℕ) → byte_at new k
      ≡ (if is_between at (at + length written) k then slice_index written (k - at) else byte_at old k)

-- each granule that the interval touches is marked, and each byte is as it was
pub record IsMarked (old new : Entries) (from end : ℕ) : Type 0 where
  pub marks : (g : ℕ) → has_granule new g ≡ (has_granule old g || touches from end g)
  pub bytes : (k : ℕ) → byte_at new k ≡ byte_at old k

-- bytes were written from a place on, and each granule that they touch is marked
pub record IsUpdated (old new : Entries) (at : ℕ) (written : List ℕ) : Type 0 where
  pub marks : (g : ℕ) → has_granule new g ≡ (has_granule old g || touches at (at + length written) g)
  pub bytes : (k : ℕ) → byte_at new k
      ≡ (if is_between at (at + length written) k then slice_index written (k - at) else byte_at old k)

-- the bytes of the interval are zeros, and each granule that it covers lost its mark
pub record IsErased (old new : Entries) (from end size : ℕ) : Type 0 where
  pub marks : (g : ℕ) → has_granule new g ≡ (has_granule old g && not (covers from end size g))
  pub bytes : (k : ℕ) → byte_at new k ≡ (if is_between from end k then 0 else byte_at old k)

-- granule g has these bytes, or no entry, and each other granule is as it was
pub record IsPut (old new : Entries) (g : ℕ) (kept : Option (List ℕ)) : Type 0 where
  pub at : (q : ℕ) → granule_at new q ≡ (if q == g then kept else granule_at old q)

-- each granule is as it was
abbrev pub IsSame : Entries → Entries → Type 0
IsSame old new = (g : ℕ) → granule_at new g ≡ granule_at old g
