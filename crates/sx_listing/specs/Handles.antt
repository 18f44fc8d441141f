-- The body that lists handles ("List Handles" of Azure Files): its text.
use Rattle.std.specs.Prelude.{codes, ℕ, ◌/◌, ◌%◌, List, [], ◌∷◌, Option, Some, None}
use Rattle.std.specs.List.{concat, flat_map}
use Rattle.std.specs.Fmt.{decimal}
use Rattle.sx_base.specs.Moment.{moment_text}
use Rattle.sx_text.specs.Escapes.{escaped}
use Rattle.sx_guard.specs.Handle.{Handle}
use Rattle.sx_call.specs.declared.pages.HandleItem.{HandleItem}
use Rattle.sx_call.specs.declared.pages.HandlesPage.{HandlesPage}

-- a handle: the number of its session, and its index there
abbrev pub handle_id_text : Handle → List ℕ
handle_id_text handle = concat (decimal handle.session ∷ codes "." ∷ decimal handle.index ∷ [])

-- an IPv4 address (RFC 791) in dotted decimals
abbrev pub dotted : ℕ → List ℕ
dotted peer =
    concat (
    decimal (peer / 16777216) ∷ codes "." ∷ decimal (peer / 65536 % 256)
    ∷ codes "." ∷ decimal (peer / 256 % 256) ∷ codes "." ∷ decimal (peer % 256) ∷ [])

-- what is open: the handle, its path, the id of its file or directory, and that of the directory that this is in
unfoldable pub opened_text : HandleItem → List ℕ
opened_text item =
    concat (
    codes "<HandleId>" ∷ handle_id_text item.handle
    ∷ codes "</HandleId><Path>" ∷ escaped item.path
    ∷ codes "</Path><FileId>" ∷ decimal item.id
    ∷ codes "</FileId><ParentId>" ∷ decimal item.parent
    ∷ codes "</ParentId>" ∷ [])

-- by whom and when: the session, its peer, and the moment of opening
unfoldable pub opener_text : HandleItem → List ℕ
opener_text item =
    concat (
    codes "<SessionId>" ∷ decimal item.session
    ∷ codes "</SessionId><ClientIp>" ∷ dotted item.peer
    ∷ codes "</ClientIp><OpenTime>" ∷ moment_text item.at
    ∷ codes "</OpenTime>" ∷ [])

-- an open handle
unfoldable pub handle_item_text : HandleItem → List ℕ
handle_item_text item =
    concat (codes "<Handle>" ∷ opened_text item ∷ opener_text item ∷ codes "</Handle>" ∷ [])

-- the handle of the next page's first item, empty at the end
abbrev pub next_text : Option Handle → List ℕ
next_text None = []
next_text (Some handle) = handle_id_text handle

-- the whole body
unfoldable pub handles_text : HandlesPage → List ℕ
handles_text page =
    concat (
    codes "<?xml version=\"1.0\" encoding=\"utf-8\"?><EnumerationResults><Entries>"
    ∷ flat_map handle_item_text page.items
    ∷ codes "</Entries><NextMarker>" ∷ next_text page.next
    ∷ codes "</NextMarker></EnumerationResults>" ∷ [])
