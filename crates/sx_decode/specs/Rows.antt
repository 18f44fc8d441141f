-- The table of calls: which method, path, restype and comp each call has, in the order of the REST reference.
use Rattle.std.specs.Prelude.{List, [], ◌∷◌, ◌++◌}
use Rattle.sx_decode.specs.declared.forms.Verbs.{Verbs}
use Rattle.sx_decode.specs.declared.forms.Verbs.TheVariants.{Get, Head, GetOrHead, Put, Delete}
use Rattle.sx_decode.specs.declared.forms.Shapes.{Shapes}
use Rattle.sx_decode.specs.declared.forms.Shapes.TheVariants.{Account, Share, Path, ShareOrPath}
use Rattle.sx_decode.specs.declared.forms.Restype.{Restype}
use Rattle.sx_decode.specs.declared.forms.Restype.TheVariants as restype
use Rattle.sx_decode.specs.declared.forms.Comp.{Comp}
use Rattle.sx_decode.specs.declared.forms.Comp.TheVariants as comp
use Rattle.sx_decode.specs.declared.forms.Told.{Told}
use Rattle.sx_decode.specs.declared.forms.Told.TheVariants.{Alone, NoSnapshot, Snapshot, Update, Clear}
use Rattle.sx_decode.specs.declared.forms.Snap.{Snap}
use Rattle.sx_decode.specs.declared.forms.Snap.TheVariants.{Never, MayBe}
use Rattle.sx_decode.specs.declared.forms.Row.{Row}
use Rattle.sx_decode.specs.declared.forms.Row.TheVariants as call
use Rattle.sx_decode.specs.declared.forms.Form.{Form}

-- a row: its method, path, restype and comp, what tells it from the other row that has these, whether it may name a
-- snapshot, and the call that it spells
abbrev pub form : Verbs → Shapes → Restype → Comp → Told → Snap → Row → Form
form verbs shapes restype comp told snap named = record {
  row = named;
  verbs = verbs;
  shapes = shapes;
  restype = restype;
  comp = comp;
  told = told;
  snap = snap;
}

-- the calls on the account
abbrev pub on_account : List Form
on_account =
    form Get Account restype.Absent comp.List Alone Never call.ListShares ∷ []

-- the calls on a share and its snapshots
abbrev pub on_shares : List Form
on_shares =
    form Put Share restype.Share comp.Absent Alone Never call.CreateShare
    ∷ form GetOrHead Share restype.Share comp.Absent Alone MayBe call.GetShareProperties
    ∷ form Put Share restype.Share comp.Properties Alone Never call.SetShareProperties
    ∷ form GetOrHead Share restype.Share comp.Metadata Alone MayBe call.GetShareMetadata
    ∷ form Put Share restype.Share comp.Metadata Alone Never call.SetShareMetadata
    ∷ form Delete Share restype.Share comp.Absent NoSnapshot Never call.DeleteShare
    ∷ form Delete Share restype.Share comp.Absent Snapshot MayBe call.DeleteSnapshot
    ∷ form Put Share restype.Share comp.Snapshot Alone Never call.SnapshotShare
    ∷ form Put Share restype.Share comp.Lease Alone Never call.LeaseShare
    ∷ []

-- the calls on directories
abbrev pub on_directories : List Form
on_directories =
    form Put Path restype.Directory comp.Absent Alone Never call.CreateDirectory
    ∷ form GetOrHead ShareOrPath restype.Directory comp.Absent Alone MayBe call.GetDirectoryProperties
    ∷ form GetOrHead ShareOrPath restype.Directory comp.Metadata Alone MayBe call.GetDirectoryMetadata
    ∷ form Put ShareOrPath restype.Directory comp.Metadata Alone Never call.SetDirectoryMetadata
    ∷ form Delete Path restype.Directory comp.Absent Alone Never call.DeleteDirectory
    ∷ form Get ShareOrPath restype.Directory comp.List Alone MayBe call.ListDirectory
    ∷ []

-- the calls on files
abbrev pub on_files : List Form
on_files =
    form Put Path restype.Absent comp.Absent Alone Never call.CreateFile
    ∷ form Get Path restype.Absent comp.Absent Alone MayBe call.GetFile
    ∷ form Head Path restype.Absent comp.Absent Alone MayBe call.GetFileProperties
    ∷ form Put Path restype.Absent comp.Properties Alone Never call.SetFileProperties
    ∷ form GetOrHead Path restype.Absent comp.Metadata Alone MayBe call.GetFileMetadata
    ∷ form Put Path restype.Absent comp.Metadata Alone Never call.SetFileMetadata
    ∷ form Put Path restype.Absent comp.Range Update Never call.UpdateRange
    ∷ form Put Path restype.Absent comp.Range Clear Never call.ClearRange
    ∷ form Get Path restype.Absent comp.RangeList Alone MayBe call.ListRanges
    ∷ form Delete Path restype.Absent comp.Absent Alone Never call.DeleteFile
    ∷ form Put Path restype.Absent comp.Lease Alone Never call.LeaseFile
    ∷ []

-- the calls on handles
abbrev pub on_handles : List Form
on_handles =
    form Get ShareOrPath restype.Absent comp.ListHandles Alone Never call.ListHandles
    ∷ form Put ShareOrPath restype.Absent comp.ForceCloseHandles Alone Never call.ForceCloseHandles
    ∷ []

-- the 29 calls in their order
abbrev pub table : List Form
table = on_account ++ on_shares ++ on_directories ++ on_files ++ on_handles
