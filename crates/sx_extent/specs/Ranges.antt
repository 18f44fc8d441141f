-- A sparse file: its bytes, and a mark on each granule of 512 bytes. Intervals are half open.
use Rattle.std.specs.Prelude.{◌≡◌, ℕ, ◌+◌, ◌-◌, ◌*◌, ◌/◌, ◌≤◌, ◌<◌, min, max, Bool, false, not, ◌&&◌, ◌||◌}
use Rattle.std.specs.Prelude.{if◌then◌else◌, nat_le, nat_lt, ◌==◌, List, [], ◌∷◌, ◌++◌, length, take, drop, replicate}
use Rattle.std.specs.Prelude.{map, filter, count_by, slice_index, slice_index_or}
use Rattle.std.specs.List.{range_with_len, list_any}
use Rattle.sx_extent.specs.declared.granules.TheConstants.{FILE_LIMIT, GRANULE_SIZE}

-- the most bytes that a file has, 4 TiB
abbrev pub most_bytes : ℕ
most_bytes = FILE_LIMIT

-- how many bytes a granule has
abbrev pub granule_size : ℕ
granule_size = GRANULE_SIZE

-- how many granules so many bytes fill or begin
abbrev pub granule_count : ℕ → ℕ
granule_count bytes = (bytes + (granule_size - 1)) / granule_size

-- the bytes of a file, and whether each of its granules is marked
pub record SparseFile : Type 0 where
  pub bytes : List ℕ
  pub marks : List Bool

-- granule g of the file is marked
unfoldable pub is_marked : SparseFile → ℕ → Bool
is_marked f g = slice_index_or f.marks g false

-- what every file keeps: its length, a mark for each granule, and zeros where there is no mark
pub record IsWellFormed (f : SparseFile) : Type 0 where
  pub limit : length f.bytes ≤ most_bytes
  pub marks : length f.marks ≡ granule_count (length f.bytes)
  pub zeros : (k : ℕ) → k < length f.bytes → is_marked f (k / granule_size) ≡ false
      → slice_index f.bytes k ≡ 0

-- granule g has a byte that lies in the interval
unfoldable pub touches : ℕ → ℕ → ℕ → Bool
touches from end g = nat_lt (max from (granule_size * g)) (min end (granule_size * g + granule_size))

-- each byte of granule g that lies below the length lies in the interval
unfoldable pub covers : ℕ → ℕ → ℕ → ℕ → Bool
covers from end bytes g =
    nat_le from (granule_size * g) && nat_le (min bytes (granule_size * g + granule_size)) end

-- the marks that a test gives to the first granules, so many of them
unfoldable pub marks_by : (ℕ → Bool) → ℕ → List Bool
marks_by test count = map test (range_with_len 0 count)

-- a file of so many zeros with no mark
unfoldable pub blank : ℕ → SparseFile
blank bytes = record { bytes = replicate bytes 0; marks = marks_by (λ g. false) (granule_count bytes) }

-- the piece is written at a place, and each granule that it touches is marked
unfoldable pub update : SparseFile → ℕ → List ℕ → SparseFile
update f at piece =
    let end = at + length piece in
    record {
      bytes = take at f.bytes ++ piece ++ drop end f.bytes;
      marks = marks_by (λ g. is_marked f g || touches at end g) (length f.marks);
    }

-- zeros are written to an interval, and each granule that it covers loses its mark
unfoldable pub clear : SparseFile → ℕ → ℕ → SparseFile
clear f from end = record {
  bytes = take from f.bytes ++ replicate (end - from) 0 ++ drop end f.bytes;
  marks = marks_by (λ g. is_marked f g && not (covers from end (length f.bytes) g)) (length f.marks);
}

-- the bytes below both lengths stay with their marks, and new bytes are zeros with no mark
unfoldable pub resize : SparseFile → ℕ → SparseFile
resize f bytes = record {
  bytes = take bytes f.bytes ++ replicate (bytes - length f.bytes) 0;
  marks = marks_by (is_marked f) (granule_count bytes);
}

-- the file, and zeros with no mark behind it where it has fewer bytes than these
unfoldable pub extend : SparseFile → ℕ → SparseFile
extend f bytes = resize f (max (length f.bytes) bytes)

-- the piece is written at a place of a file that is made longer where the piece ends past it
unfoldable pub write : SparseFile → ℕ → List ℕ → SparseFile
write f at piece = update (extend f (at + length piece)) at piece

-- the bytes of an interval
abbrev pub cut : SparseFile → ℕ → ℕ → List ℕ
cut f from end = take (end - from) (drop from f.bytes)

-- how many granules are marked
unfoldable pub used : SparseFile → ℕ
used f = count_by (λ marked. marked) f.marks

-- how many granules that the interval touches are not marked, those past the end of the file among them
unfoldable pub fresh : SparseFile → ℕ → ℕ → ℕ
fresh f from end =
    count_by (λ g. touches from end g && not (is_marked f g)) (range_with_len 0 (granule_count end))

-- the bytes from one place to before another
pub record Interval : Type 0 where
  pub from : ℕ
  pub end : ℕ

-- what lies both in granule g and in an interval
abbrev pub part_of_granule : ℕ → ℕ → ℕ → Interval
part_of_granule from end g =
    record { from = max from (granule_size * g); end = min end (granule_size * g + granule_size) }

-- an interval before others, made one with the first of them where the two meet
abbrev pub joined_before : Interval → List Interval → List Interval
joined_before s [] = s ∷ []
joined_before s (t ∷ ts) = if s.end == t.from then record { from = s.from; end = t.end } ∷ ts else s ∷ t ∷ ts

-- intervals in order, with those that meet made one
abbrev pub joined : List Interval → List Interval
joined [] = []
joined (s ∷ ss) = joined_before s (joined ss)

-- the largest runs of marked granules, cut at the file's length and at the interval
unfoldable pub listed : SparseFile → ℕ → ℕ → List Interval
listed f from end =
    let last = min end (length f.bytes) in
    let granules = filter (λ g. is_marked f g && touches from last g) (range_with_len 0 (length f.marks)) in
    joined (map (part_of_granule from last) granules)

-- place k lies in one of the intervals
abbrev pub lies_in : List Interval → ℕ → Bool
lies_in ss k = list_any (λ s. nat_le s.from k && nat_lt k s.end) ss

-- each interval has bytes, and ends before the next one begins, with a gap between them
abbrev pub AreApart : List Interval → Type 0
AreApart [] = Unit {0}
AreApart (s ∷ []) = s.from < s.end
AreApart (s ∷ (t ∷ ts)) = (s.from < s.end) × (s.end < t.from) × AreApart (t ∷ ts)

-- what a listing is: the bytes of marked granules in the interval and below the length, in largest runs
pub record AreRuns (f : SparseFile) (from end : ℕ) (ss : List Interval) : Type 0 where
  pub bytes : (k : ℕ) → lies_in ss k
      ≡ (nat_le from k && nat_lt k (min end (length f.bytes)) && is_marked f (k / granule_size))
  pub apart : AreApart ss
