-- The line that spells a session's call, without a line feed.
use Rattle.std.specs.Prelude.{ℕ, ◌-◌, ◌++◌, ◌||◌, codes, Bool, List, [], ◌∷◌, if◌then◌else◌, ⊤}
use Rattle.std.specs.List.{concat}
use Rattle.std.specs.Fmt.{decimal}
use Rattle.hex.specs.Hex.{encode_lower, IsBytes}
use Rattle.sx_call.specs.declared.opens.How.{How}
use Rattle.sx_call.specs.declared.opens.How.TheVariants.{Existing, Create, Either}
use Rattle.sx_call.specs.declared.session_calls.SmbOpen.{SmbOpen as OpenCall}
use Rattle.sx_call.specs.declared.calls.Call.{Call}
use Rattle.sx_call.specs.declared.calls.Call.TheVariants.{SmbOpen, SmbClose, SmbRead, SmbWrite, SmbResize, SmbLock}
use Rattle.sx_call.specs.declared.calls.Call.TheVariants.{SmbUnlock, SmbStat, SmbList, SmbDispose}
use Rattle.sx_reply.specs.Values.{text_if}
use Rattle.sx_lines.specs.Printed.{path_text}
use Rattle.sx_lines.specs.Answers.{next_text}

-- the letters of the rights that are set, `-` for none
abbrev pub letters_text : Bool → Bool → Bool → List ℕ
letters_text read write delete =
    if read || write || delete
    then concat (text_if read (codes "r") ∷ text_if write (codes "w") ∷ text_if delete (codes "d") ∷ [])
    else codes "-"

-- what an open does with a name that is there and with one that is absent, as a word
abbrev pub how_word : How → List ℕ
how_word Existing = codes "existing"
how_word Create = codes "create"
how_word Either = codes "either"

-- the kind of a lock, as a word
abbrev pub lock_word : Bool → List ℕ
lock_word exclusive = if exclusive then codes "exclusive" else codes "shared"

-- whether a directory is opened, as a word
abbrev pub opened_word : Bool → List ℕ
opened_word dir = if dir then codes "dir" else codes "file"

-- whether a mark is set, as a word
abbrev pub mark_word : Bool → List ℕ
mark_word on = if on then codes "on" else codes "off"

-- `open SHARE PATH ACCESS MODE existing|create|either file|dir`, and ` doc` where the mark for delete on close is set
unfoldable pub open_text : OpenCall → List ℕ
open_text c =
    concat (codes "open " ∷ c.share ∷ codes " " ∷ [])
    ++ path_text c.path
    ++ concat (
    codes " " ∷ letters_text c.access.access.read c.access.access.write c.access.access.delete
    ∷ codes " " ∷ letters_text c.mode.read c.mode.write c.mode.delete
    ∷ codes " " ∷ how_word c.how ∷ codes " " ∷ opened_word c.dir ∷ text_if c.access.on_close (codes " doc") ∷ [])

-- a line that says nothing but an index behind its verb
abbrev pub handle_text : List ℕ → ℕ → List ℕ
handle_text verb index = concat (verb ∷ decimal index ∷ [])

-- `read K AT COUNT`
abbrev pub read_text : ℕ → ℕ → ℕ → List ℕ
read_text index at count =
    concat (codes "read " ∷ decimal index ∷ codes " " ∷ decimal at ∷ codes " " ∷ decimal count ∷ [])

-- `write K AT HEX`
abbrev pub write_text : ℕ → ℕ → List ℕ → List ℕ
write_text index at bytes =
    concat (codes "write " ∷ decimal index ∷ codes " " ∷ decimal at ∷ codes " " ∷ encode_lower bytes ∷ [])

-- `resize K LENGTH`
abbrev pub resize_text : ℕ → ℕ → List ℕ
resize_text index length = concat (codes "resize " ∷ decimal index ∷ codes " " ∷ decimal length ∷ [])

-- `lock K AT COUNT shared|exclusive` or `unlock K AT COUNT shared|exclusive`, by the verb
abbrev pub lock_text : List ℕ → ℕ → ℕ → ℕ → Bool → List ℕ
lock_text verb index from end exclusive =
    concat (
    verb ∷ decimal index ∷ codes " " ∷ decimal from ∷ codes " " ∷ decimal (end - from) ∷ codes " "
    ∷ lock_word exclusive ∷ [])

-- `list K MARKER MAX`
abbrev pub list_text : ℕ → List ℕ → ℕ → List ℕ
list_text index marker max =
    concat (codes "list " ∷ decimal index ∷ codes " " ∷ next_text marker ∷ codes " " ∷ decimal max ∷ [])

-- `dispose K on|off`
abbrev pub dispose_text : ℕ → Bool → List ℕ
dispose_text index on = concat (codes "dispose " ∷ decimal index ∷ codes " " ∷ mark_word on ∷ [])

-- the line of a call in a session
unfoldable pub call_text : Call → List ℕ
call_text (SmbOpen c) = open_text c
call_text (SmbClose c) = handle_text (codes "close ") c.index
call_text (SmbRead c) = read_text c.index c.range.at c.range.count
call_text (SmbWrite c) = write_text c.index c.write.at c.write.piece
call_text (SmbResize c) = resize_text c.index c.length
call_text (SmbLock c) = lock_text (codes "lock ") c.index c.range.from c.range.end c.exclusive
call_text (SmbUnlock c) = lock_text (codes "unlock ") c.index c.range.from c.range.end c.exclusive
call_text (SmbStat c) = handle_text (codes "stat ") c.index
call_text (SmbList c) = list_text c.index c.marker c.max
call_text (SmbDispose c) = dispose_text c.index c.on
call_text call = []

-- what a write writes is bytes
abbrev pub HasBytes : Call → Type 0
HasBytes (SmbWrite c) = IsBytes c.write.piece
HasBytes call = ⊤
