-- The words of restype and comp.
use Rattle.std.specs.Prelude.{ℕ, List, codes, Option, Some, None}
use Rattle.sx_decode.specs.declared.forms.Restype.{Restype}
use Rattle.sx_decode.specs.declared.forms.Restype.TheVariants as restype
use Rattle.sx_decode.specs.declared.forms.Comp.{Comp}
use Rattle.sx_decode.specs.declared.forms.Comp.TheVariants as comp

-- the word of a restype that rows have
abbrev pub restype_text : Restype → Option (List ℕ)
restype_text restype.Share = Some (codes "share")
restype_text restype.Directory = Some (codes "directory")
restype_text _ = None

-- the word of a comp that rows have
abbrev pub comp_text : Comp → Option (List ℕ)
comp_text comp.List = Some (codes "list")
comp_text comp.Properties = Some (codes "properties")
comp_text comp.Metadata = Some (codes "metadata")
comp_text comp.Snapshot = Some (codes "snapshot")
comp_text comp.Lease = Some (codes "lease")
comp_text comp.Range = Some (codes "range")
comp_text comp.RangeList = Some (codes "rangelist")
comp_text comp.ListHandles = Some (codes "listhandles")
comp_text comp.ForceCloseHandles = Some (codes "forceclosehandles")
comp_text _ = None
