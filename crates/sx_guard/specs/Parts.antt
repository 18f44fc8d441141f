-- One list of the items of all files, and the part of it that is one file's.
use Rattle.std.specs.Prelude.{Bool, List, filter, map}

-- the items that pass a test, each seen through a function: of all opens those of one file, as that file sees them
abbrev pub part_of : {X Y : Type 0} → (X → Bool) → (X → Y) → List X → List Y
part_of keep view all = map view (filter keep all)
