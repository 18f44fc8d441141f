-- The call that a request spells, or the first refusal of it.
use Rattle.std.specs.Prelude.{ℕ, ◌≡◌, ◌==◌, Bool, true, false, List, [], ◌∷◌, length, bytes_eq, codes, is_some}
use Rattle.std.specs.Prelude.{if◌then◌else◌, Option, Some, None, Ok, Err}
use Rattle.std.specs.List.{before_first, after_first}
use Rattle.sx_http.specs.Lookup.{header_values}
use Rattle.sx_http.specs.declared.heads.Header.{Header}
use Rattle.sx_http.specs.declared.heads.Request.{Request}
use Rattle.sx_call.specs.declared.calls.Call.{Call}
use Rattle.sx_call.specs.declared.refusals.Syntax.{Syntax}
use Rattle.sx_call.specs.declared.refusals.Syntax.TheVariants.{Verb as BadVerb, Header as BadHeader, Query, NoCall}
use Rattle.sx_call.specs.declared.targets.Target.{Target}
use Rattle.sx_decode.specs.declared.asked.Asked.{Asked}
use Rattle.sx_decode.specs.declared.choice.Key.{Key}
use Rattle.sx_decode.specs.declared.forms.Form.{Form}
use Rattle.sx_decode.specs.declared.forms.Row.{Row}
use Rattle.sx_decode.specs.declared.forms.Row.TheVariants as row
use Rattle.sx_decode.specs.declared.forms.Verb.{Verb}
use Rattle.sx_decode.specs.declared.forms.Verb.TheVariants.{Get, Head, Put, Delete}
use Rattle.sx_decode.specs.declared.forms.Shape.{Shape}
use Rattle.sx_decode.specs.declared.forms.Shape.TheVariants as shape
use Rattle.sx_decode.specs.declared.forms.Restype.{Restype}
use Rattle.sx_decode.specs.declared.forms.Restype.TheVariants as restype
use Rattle.sx_decode.specs.declared.forms.Comp.{Comp}
use Rattle.sx_decode.specs.declared.forms.Comp.TheVariants as comp
use Rattle.sx_decode.specs.declared.forms.Snap.{Snap}
use Rattle.sx_decode.specs.declared.forms.Snap.TheVariants.{Never, MayBe}
use Rattle.sx_decode.specs.declared.targets.Place.{Place}
use Rattle.sx_decode.specs.declared.targets.Place.TheVariants.{Account, Inside}
use Rattle.sx_decode.specs.Reading.{Reading, with_next}
use Rattle.sx_decode.specs.Lookup.{one_header}
use Rattle.sx_decode.specs.Words.{is_word}
use Rattle.sx_decode.specs.Parameters.{is_question, parameters}
use Rattle.sx_decode.specs.Asked.{asked_of}
use Rattle.sx_decode.specs.Targets.{place_of}
use Rattle.sx_decode.specs.Table.{row_of}
use Rattle.sx_decode.specs.Bodies.{no_body}
use Rattle.sx_decode.specs.ShareRows.{list_shares, plain_call}
use Rattle.sx_decode.specs.DirectoryRows.{list_directory, list_handles}
use Rattle.sx_decode.specs.FileRows.{update_range}

-- the method, one of the four that calls have
unfoldable pub verb_of : List ℕ → Reading Verb
verb_of method =
    if bytes_eq method (codes "GET") then Ok Get
    else if bytes_eq method (codes "HEAD") then Ok Head
    else if bytes_eq method (codes "PUT") then Ok Put
    else if bytes_eq method (codes "DELETE") then Ok Delete
    else Err BadVerb

-- the one version that is known
abbrev pub known_version : Option (List ℕ) → Reading Bool
known_version None = Ok true
known_version (Some version) =
    if bytes_eq version (codes "2020-10-02") then Ok true else Err (BadHeader (codes "x-ms-version"))

-- x-ms-version: it may be absent
unfoldable pub version_of : List Header → Reading Bool
version_of headers = with_next (one_header (codes "x-ms-version") headers) known_version

-- what the path names
unfoldable pub shape_of : Place → Shape
shape_of Account = shape.Account
shape_of (Inside at) = if length at.path == 0 then shape.Share else shape.Path

-- restype, without ASCII case
unfoldable pub restype_of : Option (List ℕ) → Restype
restype_of None = restype.Absent
restype_of (Some text) =
    if is_word (codes "share") text then restype.Share
    else if is_word (codes "directory") text then restype.Directory
    else restype.Other

-- the comp that a word names, without ASCII case
unfoldable pub comp_named : List ℕ → Comp
comp_named text =
    if is_word (codes "list") text then comp.List
    else if is_word (codes "properties") text then comp.Properties
    else if is_word (codes "metadata") text then comp.Metadata
    else if is_word (codes "snapshot") text then comp.Snapshot
    else if is_word (codes "lease") text then comp.Lease
    else if is_word (codes "range") text then comp.Range
    else if is_word (codes "rangelist") text then comp.RangeList
    else if is_word (codes "listhandles") text then comp.ListHandles
    else if is_word (codes "forceclosehandles") text then comp.ForceCloseHandles
    else comp.Other

-- comp
unfoldable pub comp_of : Option (List ℕ) → Comp
comp_of None = comp.Absent
comp_of (Some text) = comp_named text

-- these are the word `clear` alone
unfoldable pub is_clear : List (List ℕ) → Bool
is_clear [] = false
is_clear (text ∷ []) = is_word (codes "clear") text
is_clear (text ∷ other ∷ texts) = false

-- what of the request chooses its row
unfoldable pub key_of : Verb → Place → Asked → List Header → Key
key_of verb place a headers = record {
  verb = verb;
  shape = shape_of place;
  restype = restype_of a.restype;
  comp = comp_of a.comp;
  snapshot = is_some a.snapshot;
  clears = is_clear (header_values (codes "x-ms-write") headers);
}

-- the row, where there is one
abbrev pub chosen : Option Form → Reading Form
chosen None = Err NoCall
chosen (Some form) = Ok form

-- sharesnapshot stands only in a row that takes one
abbrev pub row_with : Snap → Bool → Row → Reading Row
row_with MayBe snapshot named = Ok named
row_with Never snapshot named = if snapshot then Err (Query (codes "sharesnapshot")) else Ok named

-- the row of the request
unfoldable pub row_for : Key → Reading Row
row_for key = with_next (chosen (row_of key)) (λ form. row_with form.snap key.snapshot form.row)

-- the call on the account that a row names
unfoldable pub account_call : Row → Asked → Reading Call
account_call row.ListShares a = list_shares a
account_call _ a = Err NoCall

-- the call on a share and what is in it that a row names, but for updates
unfoldable pub inside_call : Row → Target → Asked → List Header → Reading Call
inside_call row.ListDirectory at a headers = list_directory at a
inside_call row.ListHandles at a headers = list_handles at a headers
inside_call other at a headers = plain_call other at a.snapshot headers

-- the call of a row that takes no body
unfoldable pub bodiless_call : Row → Place → Asked → List Header → Reading Call
bodiless_call named Account a headers = account_call named a
bodiless_call named (Inside at) a headers = inside_call named at a headers

-- a call whose request has no body
unfoldable pub call_without_body : Row → Place → Asked → List Header → List ℕ → Reading Call
call_without_body named place a headers body =
    with_next (bodiless_call named place a headers) (λ call.
    with_next (no_body body) (λ _.
    Ok call))

-- the call on a share and what is in it that a row names: an update has a body, no other call has one
unfoldable pub call_inside : Row → Target → Asked → List Header → List ℕ → Reading Call
call_inside row.UpdateRange at a headers body = update_range at headers body
call_inside other at a headers body = call_without_body other (Inside at) a headers body

-- the call that a row names
unfoldable pub call_by_row : Row → Place → Asked → List Header → List ℕ → Reading Call
call_by_row named Account a headers body = call_without_body named Account a headers body
call_by_row named (Inside at) a headers body = call_inside named at a headers body

-- what a request says: the first of these that refuses it stands
unfoldable pub reading : Request → Reading Call
reading r =
    with_next (verb_of r.head.method) (λ verb.
    with_next (version_of r.head.headers) (λ _.
    with_next (place_of (before_first is_question r.head.target)) (λ place.
    with_next (asked_of (parameters (after_first is_question r.head.target))) (λ a.
    with_next (row_for (key_of verb place a r.head.headers)) (λ named.
    call_by_row named place a r.head.headers r.body)))))

-- the request spells the call
abbrev pub Spells : Call → Request → Type 0
Spells call r = reading r ≡ Ok call

-- the first refusal of the request
abbrev pub Refused : Syntax → Request → Type 0
Refused refusal r = reading r ≡ Err refusal
