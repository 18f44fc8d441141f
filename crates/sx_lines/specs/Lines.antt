-- The grammar of a session's lines. Each name in a line's function is what is left of the line from that word on,
-- behind the word before it.
use Rattle.std.specs.Prelude.{ℕ, ◌-◌, bytes_eq, codes, List, length, if◌then◌else◌, Option, Some, None, Result, Ok, Err}
use Rattle.sx_call.specs.declared.session_calls.SmbLock.{SmbLock as LockCall}
use Rattle.sx_call.specs.declared.session_calls.SmbUnlock.{SmbUnlock as UnlockCall}
use Rattle.sx_call.specs.declared.calls.Call.{Call}
use Rattle.sx_call.specs.declared.calls.Call.TheVariants.{SmbClose, SmbRead, SmbWrite, SmbResize, SmbLock, SmbUnlock}
use Rattle.sx_call.specs.declared.calls.Call.TheVariants.{SmbStat, SmbList, SmbDispose}
use Rattle.sx_lines.specs.declared.line.Line.{Line}
use Rattle.sx_lines.specs.declared.line.Line.TheVariants.{Ask, Quit}
use Rattle.sx_lines.specs.declared.verb.Verb.{Verb}
use Rattle.sx_lines.specs.declared.verb.Verb.TheVariants.{Open, Close, Read, Write, Resize, Lock, Unlock}
use Rattle.sx_lines.specs.declared.verb.Verb.TheVariants.{Stat, List as Lists, Dispose}
use Rattle.sx_lines.specs.Reading.{Reading, with_next}
use Rattle.sx_lines.specs.Words.{next_word, behind_next, judged, end_of, without_return, first_word, behind_first}
use Rattle.sx_lines.specs.Fields.{index_of, offset_of, length_of, page_size_of, read_range_of, byte_range_of, write_of}
use Rattle.sx_lines.specs.Fields.{choice_of, marker_of}
use Rattle.sx_lines.specs.Opens.{open_call}

-- K, the index of a handle
abbrev pub index_in : List ℕ → Reading ℕ
index_in k = judged k (index_of (next_word k))

-- AT, an offset
abbrev pub offset_in : List ℕ → Reading ℕ
offset_in at = judged at (offset_of (next_word at))

-- `close K`
unfoldable pub close_call : List ℕ → Reading Call
close_call k =
    with_next (index_in k) (λ index.
    with_next (end_of (behind_next k)) (λ _.
    Ok (SmbClose (record { index = index }))))

-- `read K AT COUNT`
unfoldable pub read_call : List ℕ → Reading Call
read_call k =
    let at = behind_next k in
    let count = behind_next at in
    with_next (index_in k) (λ index.
    with_next (offset_in at) (λ from.
    with_next (judged count (read_range_of from (next_word count))) (λ range.
    with_next (end_of (behind_next count)) (λ _.
    Ok (SmbRead (record { index = index; range = range }))))))

-- `write K AT HEX`
unfoldable pub write_call : List ℕ → Reading Call
write_call k =
    let at = behind_next k in
    let hex = behind_next at in
    with_next (index_in k) (λ index.
    with_next (offset_in at) (λ from.
    with_next (judged hex (write_of from (next_word hex))) (λ write.
    with_next (end_of (behind_next hex)) (λ _.
    Ok (SmbWrite (record { index = index; write = write }))))))

-- `resize K LENGTH`
unfoldable pub resize_call : List ℕ → Reading Call
resize_call k =
    let length = behind_next k in
    with_next (index_in k) (λ index.
    with_next (judged length (length_of (next_word length))) (λ bytes.
    with_next (end_of (behind_next length)) (λ _.
    Ok (SmbResize (record { index = index; length = bytes })))))

-- `K AT COUNT shared|exclusive`, behind `lock` and `unlock`
unfoldable pub lock_in : List ℕ → Reading LockCall
lock_in k =
    let at = behind_next k in
    let count = behind_next at in
    let kind = behind_next count in
    with_next (index_in k) (λ index.
    with_next (offset_in at) (λ from.
    with_next (judged count (byte_range_of from (next_word count))) (λ range.
    with_next (judged kind (choice_of (codes "exclusive") (codes "shared") (next_word kind))) (λ exclusive.
    with_next (end_of (behind_next kind)) (λ _.
    Ok (record { index = index; range = range; exclusive = exclusive }))))))

-- `lock K AT COUNT shared|exclusive`
unfoldable pub lock_call : List ℕ → Reading Call
lock_call k = with_next (lock_in k) (λ lock. Ok (SmbLock lock))

-- the same lock, taken off
abbrev pub unlocked : LockCall → UnlockCall
unlocked lock = record { index = lock.index; range = lock.range; exclusive = lock.exclusive }

-- `unlock K AT COUNT shared|exclusive`
unfoldable pub unlock_call : List ℕ → Reading Call
unlock_call k = with_next (lock_in k) (λ lock. Ok (SmbUnlock (unlocked lock)))

-- `stat K`
unfoldable pub stat_call : List ℕ → Reading Call
stat_call k =
    with_next (index_in k) (λ index.
    with_next (end_of (behind_next k)) (λ _.
    Ok (SmbStat (record { index = index }))))

-- `list K MARKER MAX`
unfoldable pub list_call : List ℕ → Reading Call
list_call k =
    let marker = behind_next k in
    let max = behind_next marker in
    with_next (index_in k) (λ index.
    with_next (judged marker (marker_of (next_word marker))) (λ name.
    with_next (judged max (page_size_of (next_word max))) (λ size.
    with_next (end_of (behind_next max)) (λ _.
    Ok (SmbList (record { index = index; marker = name; max = size }))))))

-- `dispose K on|off`
unfoldable pub dispose_call : List ℕ → Reading Call
dispose_call k =
    let mark = behind_next k in
    with_next (index_in k) (λ index.
    with_next (judged mark (choice_of (codes "on") (codes "off") (next_word mark))) (λ on.
    with_next (end_of (behind_next mark)) (λ _.
    Ok (SmbDispose (record { index = index; on = on })))))

-- `quit`
unfoldable pub quit_line : List ℕ → Reading Line
quit_line behind = with_next (end_of behind) (λ _. Ok Quit)

-- the call of a line by its first word, and what stands behind that
unfoldable pub call_said : Verb → List ℕ → Reading Call
call_said Open behind = open_call behind
call_said Close behind = close_call behind
call_said Read behind = read_call behind
call_said Write behind = write_call behind
call_said Resize behind = resize_call behind
call_said Lock behind = lock_call behind
call_said Unlock behind = unlock_call behind
call_said Stat behind = stat_call behind
call_said Lists behind = list_call behind
call_said Dispose behind = dispose_call behind

-- the words with which calls begin
unfoldable pub verb_of : List ℕ → Option Verb
verb_of word =
    if bytes_eq word (codes "open") then Some Open
    else if bytes_eq word (codes "close") then Some Close
    else if bytes_eq word (codes "read") then Some Read
    else if bytes_eq word (codes "write") then Some Write
    else if bytes_eq word (codes "resize") then Some Resize
    else if bytes_eq word (codes "lock") then Some Lock
    else if bytes_eq word (codes "unlock") then Some Unlock
    else if bytes_eq word (codes "stat") then Some Stat
    else if bytes_eq word (codes "list") then Some Lists
    else if bytes_eq word (codes "dispose") then Some Dispose
    else None

-- the call of a text, if it begins with such a word; else all of the text is left
abbrev pub call_by : List ℕ → Option Verb → Reading Call
call_by text None = Err (length text)
call_by text (Some verb) = call_said verb (behind_first text)

-- what a text says without a carriage return: `quit`, or a call
unfoldable pub line_read : List ℕ → Reading Line
line_read text =
    if bytes_eq (first_word text) (codes "quit") then quit_line (behind_first text)
    else with_next (call_by text (verb_of (first_word text))) (λ call. Ok (Ask call))

-- the place of the wrong word, from what is left of the text there
abbrev pub placed : {A : Type 0} → List ℕ → Reading A → Result A ℕ
placed text (Ok a) = Ok a
placed text (Err left) = Err (length text - left)

-- what a line says, or the byte place of the first word that isn't as it must be: the line's length where a word is
-- missing. An interval is judged at the word that completes it.
unfoldable pub line_of : List ℕ → Result Line ℕ
line_of line = placed (without_return line) (line_read (without_return line))
