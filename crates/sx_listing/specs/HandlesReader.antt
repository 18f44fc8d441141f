-- Reading the body that lists handles.
use Rattle.std.specs.Prelude.{codes, ◌≡◌, ℕ, ◌+◌, ◌*◌, true, List, [], Option, Some, None, Ok}
use Rattle.std.specs.List.{AllByRecursion}
use Rattle.std.specs.Str.{is_utf8}
use Rattle.sx_base.specs.Moment.{IsWritten}
use Rattle.sx_base.specs.MomentReader.{moment_at}
use Rattle.sx_guard.specs.Handle.{Handle}
use Rattle.sx_call.specs.declared.pages.HandleItem.{HandleItem}
use Rattle.sx_call.specs.declared.pages.HandlesPage.{HandlesPage}
use Rattle.sx_text.specs.Texts.{Reader}
use Rattle.sx_text.specs.Readers.{pair_at, closed_at, made_at, after, either_at, all_values_at}
use Rattle.sx_text.specs.Numbers.{number_at, number_after, IsFrom}
use Rattle.sx_text.specs.Escapes.{escaped_after}
use Rattle.sx_listing.specs.Body.{greatest_32, greatest_64}

-- a session's number and an index, both from 1
abbrev pub IsHandle : Handle → Type 0
IsHandle handle = IsFrom 1 greatest_32 handle.session × IsFrom 1 greatest_32 handle.index

-- an open handle whose path is a text, with numbers of their types and a moment that has a text
pub record IsOpened (item : HandleItem) : Type 0 where
  pub handle : IsHandle item.handle
  pub path : is_utf8 item.path ≡ true
  pub id : IsFrom 0 greatest_64 item.id
  pub parent : IsFrom 0 greatest_64 item.parent
  pub session : IsFrom 0 greatest_32 item.session
  pub peer : IsFrom 0 greatest_32 item.peer
  pub moment : IsWritten item.at

-- the handle of the next page's first item, where there is one
abbrev pub IsNext : Option Handle → Type 0
IsNext None = Unit {0}
IsNext (Some handle) = IsHandle handle

-- a page of open handles
abbrev pub AreHandles : HandlesPage → Type 0
AreHandles page = AllByRecursion IsOpened page.items × IsNext page.next

-- the handle of these numbers
abbrev pub handle_of : ℕ × ℕ → Handle
handle_of x = record { session = x.0; index = x.1 }

-- the same, where there are numbers
abbrev pub next_of : Option (ℕ × ℕ) → Option Handle
next_of None = None
next_of (Some x) = Some (handle_of x)

-- the numbers, where there are some, are those of a handle
abbrev pub IsNumbered : Option (ℕ × ℕ) → Type 0
IsNumbered None = Unit {0}
IsNumbered (Some x) = IsHandle (handle_of x)

-- the address of these bytes
abbrev pub address_of : ℕ × (ℕ × (ℕ × ℕ)) → ℕ
address_of x = x.0 * 16777216 + x.1.0 * 65536 + x.1.1.0 * 256 + x.1.1.1

-- what is open: session and index of the handle, its path, and the two ids
abbrev pub Opened : Type 0
Opened = (ℕ × ℕ) × (List ℕ × (ℕ × ℕ))

-- by whom and when: the session, its peer, and the moment
abbrev pub Opener : Type 0
Opener = ℕ × (ℕ × ℕ)

-- the item of these parts
abbrev pub item_of : Opened × Opener → HandleItem
item_of x = record {
  handle = handle_of x.0.0;
  path = x.0.1.0;
  id = x.0.1.1.0;
  parent = x.0.1.1.1;
  session = x.1.0;
  peer = x.1.1.0;
  at = x.1.1.1;
}

-- the page of these items, and of what follows
abbrev pub page_of : List HandleItem × Option Handle → HandlesPage
page_of x = record { items = x.0; next = x.1 }

-- a session's number behind a literal, and an index up to `<`
unfoldable pub handle_at : List ℕ → Reader ℕ (ℕ × ℕ)
handle_at literal bytes = pair_at (number_after literal 46 1 greatest_32) (λ session. number_at 60 1 greatest_32) bytes

-- the two ids
unfoldable pub ids_at : Reader ℕ (ℕ × ℕ)
ids_at bytes = pair_at (number_after (codes "/Path><FileId>") 60 0 greatest_64)
    (λ id. number_after (codes "/FileId><ParentId>") 60 0 greatest_64) bytes

-- the path and the two ids
unfoldable pub path_at : Reader ℕ (List ℕ × (ℕ × ℕ))
path_at bytes = pair_at (escaped_after (codes "/HandleId><Path>")) (λ path. ids_at) bytes

-- what is open, without the `<` at its front
unfoldable pub opened_at : Reader ℕ Opened
opened_at bytes = pair_at (handle_at (codes "Handle><HandleId>")) (λ handle. path_at) bytes

-- the last two bytes of an address
unfoldable pub low_at : Reader ℕ (ℕ × ℕ)
low_at bytes = pair_at (number_at 46 0 255) (λ third. number_at 60 0 255) bytes

-- the bytes of an address
unfoldable pub bytes_at : Reader ℕ (ℕ × (ℕ × (ℕ × ℕ)))
bytes_at bytes = pair_at (number_after (codes "/SessionId><ClientIp>") 46 0 255)
    (λ first. pair_at (number_at 46 0 255) (λ second. low_at)) bytes

-- an address
unfoldable pub address_at : Reader ℕ ℕ
address_at bytes = made_at address_of bytes_at bytes

-- the moment of opening, and the `<` of what follows the item
unfoldable pub time_at : Reader ℕ ℕ
time_at bytes = closed_at (after (codes "/ClientIp><OpenTime>") moment_at) (codes "</OpenTime></Handle><") bytes

-- by whom and when
unfoldable pub opener_at : Reader ℕ Opener
opener_at bytes = pair_at (number_after (codes "/ParentId><SessionId>") 60 0 greatest_32)
    (λ session. pair_at address_at (λ peer. time_at)) bytes

-- an open handle without the `<` at its front, and with that of what follows it
unfoldable pub item_at : Reader ℕ HandleItem
item_at bytes = made_at item_of (pair_at opened_at (λ opened. opener_at)) bytes

-- the items, with what stands in front of them and the `/` behind them
unfoldable pub items_at : Reader ℕ (List HandleItem)
items_at bytes = after (codes "<?xml version=\"1.0\" encoding=\"utf-8\"?><EnumerationResults><Entries><")
    (all_values_at 47 item_at) bytes

-- no handle
unfoldable pub none_at : Reader ℕ (Option Handle)
none_at bytes = after (codes "<") (λ rest. Ok (None, rest)) bytes

-- a handle
unfoldable pub some_at : Reader ℕ (Option Handle)
some_at bytes = made_at (λ x. Some (handle_of x)) (handle_at []) bytes

-- a handle or none
unfoldable pub choice_at : Reader ℕ (Option Handle)
choice_at bytes = either_at 60 none_at some_at bytes

-- the handle of the next page's first item, to the end
unfoldable pub next_at : Reader ℕ (Option Handle)
next_at bytes = closed_at (after (codes "Entries><NextMarker>") choice_at)
    (codes "/NextMarker></EnumerationResults>") bytes

-- the page of a whole body
unfoldable pub handles_at : Reader ℕ HandlesPage
handles_at bytes = made_at page_of (pair_at items_at (λ items. next_at)) bytes
