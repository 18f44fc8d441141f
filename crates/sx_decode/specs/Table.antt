-- The row of the table of calls that a request fits.
use Rattle.std.specs.Prelude.{ℕ, ◌==◌, ◌&&◌, nat_lt, Bool, true, not, Option}
use Rattle.std.specs.List.{find}
use Rattle.sx_decode.specs.declared.forms.Verb.{Verb}
use Rattle.sx_decode.specs.declared.forms.Verb.TheVariants as verb
use Rattle.sx_decode.specs.declared.forms.Verbs.{Verbs}
use Rattle.sx_decode.specs.declared.forms.Verbs.TheVariants.{Get, Head, GetOrHead, Put, Delete}
use Rattle.sx_decode.specs.declared.forms.Shape.{Shape}
use Rattle.sx_decode.specs.declared.forms.Shape.TheVariants as shape
use Rattle.sx_decode.specs.declared.forms.Shapes.{Shapes}
use Rattle.sx_decode.specs.declared.forms.Shapes.TheVariants as shapes
use Rattle.sx_decode.specs.declared.forms.Restype.{Restype}
use Rattle.sx_decode.specs.declared.forms.Restype.TheVariants as restype
use Rattle.sx_decode.specs.declared.forms.Comp.{Comp}
use Rattle.sx_decode.specs.declared.forms.Comp.TheVariants as comp
use Rattle.sx_decode.specs.declared.forms.Told.{Told}
use Rattle.sx_decode.specs.declared.forms.Told.TheVariants.{Alone, NoSnapshot, Snapshot, Update, Clear}
use Rattle.sx_decode.specs.declared.forms.Form.{Form}
use Rattle.sx_decode.specs.declared.choice.Key.{Key}
use Rattle.sx_decode.specs.Rows.{table}

-- the place of a method in its list
abbrev pub verb_number : Verb → ℕ
verb_number verb.Get = 0
verb_number verb.Head = 1
verb_number verb.Put = 2
verb_number verb.Delete = 3

-- the method is one of the row's
abbrev pub fits_verb : Verbs → Verb → Bool
fits_verb Get v = verb_number v == 0
fits_verb Head v = verb_number v == 1
fits_verb GetOrHead v = nat_lt (verb_number v) 2
fits_verb Put v = verb_number v == 2
fits_verb Delete v = verb_number v == 3

-- how much a path names: the account, a share, what is in it
abbrev pub shape_number : Shape → ℕ
shape_number shape.Account = 0
shape_number shape.Share = 1
shape_number shape.Path = 2

-- the path is one of the row's
abbrev pub fits_shape : Shapes → Shape → Bool
fits_shape shapes.Account s = shape_number s == 0
fits_shape shapes.Share s = shape_number s == 1
fits_shape shapes.Path s = shape_number s == 2
fits_shape shapes.ShareOrPath s = nat_lt 0 (shape_number s)

-- the place of a restype in its list
abbrev pub restype_number : Restype → ℕ
restype_number restype.Absent = 0
restype_number restype.Share = 1
restype_number restype.Directory = 2
restype_number restype.Other = 3

-- restype is the row's
abbrev pub fits_restype : Restype → Restype → Bool
fits_restype given r = restype_number given == restype_number r

-- the place of a comp in its list
abbrev pub comp_number : Comp → ℕ
comp_number comp.Absent = 0
comp_number comp.List = 1
comp_number comp.Properties = 2
comp_number comp.Metadata = 3
comp_number comp.Snapshot = 4
comp_number comp.Lease = 5
comp_number comp.Range = 6
comp_number comp.RangeList = 7
comp_number comp.ListHandles = 8
comp_number comp.ForceCloseHandles = 9
comp_number comp.Other = 10

-- comp is the row's
abbrev pub fits_comp : Comp → Comp → Bool
fits_comp given c = comp_number given == comp_number c

-- what tells it from the other row: whether sharesnapshot is there, or whether x-ms-write is `clear`
abbrev pub fits_told : Told → Bool → Bool → Bool
fits_told Alone snapshot clears = true
fits_told NoSnapshot snapshot clears = not snapshot
fits_told Snapshot snapshot clears = snapshot
fits_told Update snapshot clears = not clears
fits_told Clear snapshot clears = clears

-- the request fits the row
unfoldable pub fits : Key → Form → Bool
fits key form =
    fits_verb form.verbs key.verb
    && (fits_shape form.shapes key.shape
    && (fits_restype form.restype key.restype
    && (fits_comp form.comp key.comp && fits_told form.told key.snapshot key.clears)))

-- the first row that the request fits
unfoldable pub row_of : Key → Option Form
row_of key = find (fits key) table
