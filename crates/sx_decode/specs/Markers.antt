-- Where a page begins: the markers of the calls that list.
use Rattle.std.specs.Prelude.{ℕ, ◌==◌, Bool, List, length, codes, if◌then◌else◌, Option, Some, None}
use Rattle.std.specs.Prelude.{Ok, Err}
use Rattle.std.specs.List.{list_any, before_first, after_first}
use Rattle.sx_guard.specs.Handle.{Handle}
use Rattle.sx_names.specs.Names.{is_share_name}
use Rattle.sx_call.specs.declared.listings.SharesMarker.{SharesMarker}
use Rattle.sx_call.specs.declared.refusals.Syntax.TheVariants.{Query}
use Rattle.sx_decode.specs.Reading.{Reading, with_next}
use Rattle.sx_decode.specs.Asked.{query_text}
use Rattle.sx_decode.specs.Escapes.{decoded_text}
use Rattle.sx_decode.specs.Handles.{handle_numbers, marker_read}
use Rattle.sx_decode.specs.Moments.{moment_of}

-- `@`
abbrev pub is_at : ℕ → Bool
is_at b = b == 64

-- the name of a share
unfoldable pub share_in_marker : List ℕ → Reading (List ℕ)
share_in_marker name = if is_share_name name then Ok name else Err (Query (codes "marker"))

-- the moment of a snapshot
abbrev pub moment_read : Option ℕ → Reading (Option ℕ)
moment_read None = Err (Query (codes "marker"))
moment_read (Some moment) = Ok (Some moment)

-- the moment behind `@`, where that stands
unfoldable pub moment_in_marker : List ℕ → Reading (Option ℕ)
moment_in_marker text = if list_any is_at text then moment_read (moment_of (after_first is_at text)) else Ok None

-- `NAME` or `NAME@MOMENT`
unfoldable pub shares_read : List ℕ → Reading (Option SharesMarker)
shares_read text =
    with_next (share_in_marker (before_first is_at text)) (λ share.
    with_next (moment_in_marker text) (λ snapshot.
    Ok (Some (record { share = share; snapshot = snapshot }))))

-- the marker of a page of shares: the empty one begins at the first
unfoldable pub shares_marker : List ℕ → Reading (Option SharesMarker)
shares_marker text = if length text == 0 then Ok None else shares_read text

-- a folded name, decoded
abbrev pub name_read : Option (List ℕ) → Reading (List ℕ)
name_read None = Err (Query (codes "marker"))
name_read (Some name) = query_text (codes "marker") name

-- the marker of a page of names: a folded name, which is percent-encoded once more
unfoldable pub names_marker : List ℕ → Reading (List ℕ)
names_marker text = name_read (decoded_text text)

-- the marker of a page of handles: `S.K`
unfoldable pub handles_marker : List ℕ → Reading (Option Handle)
handles_marker text = if length text == 0 then Ok None else marker_read (handle_numbers text)
