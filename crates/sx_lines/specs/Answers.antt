-- How the answers of a session's lines are printed, with the line feed at the end.
use Rattle.std.specs.Prelude.{codes, ℕ, ◌==◌, Bool, true, false, nat_lt, if◌then◌else◌, List, [], ◌∷◌, ◌++◌, length}
use Rattle.std.specs.List.{concat, flat_map}
use Rattle.std.specs.Fmt.{decimal}
use Rattle.hex.specs.Hex.{encode_lower}
use Rattle.sx_names.specs.declared.attributes.Attributes.{Attributes}
use Rattle.sx_names.specs.declared.page.NamesPage.{NamesPage}
use Rattle.sx_call.specs.declared.refusals.Refusal.{Refusal}
use Rattle.sx_call.specs.declared.refusals.Refusal.TheVariants.{Locked as LockInTheWay}
use Rattle.sx_call.specs.declared.refusals.Stop.{Stop}
use Rattle.sx_call.specs.declared.refusals.Stop.TheVariants.{NoMemory, HistoryFull}
use Rattle.sx_call.specs.declared.replies.Fate.{Fate}
use Rattle.sx_call.specs.declared.replies.Fate.TheVariants.{Kept, Pending, Gone}
use Rattle.sx_call.specs.declared.replies.Reply.{Reply}
use Rattle.sx_call.specs.declared.replies.Reply.TheVariants.{Smb, Refused}
use Rattle.sx_call.specs.declared.replies.SmbReply.{SmbReply}
use Rattle.sx_call.specs.declared.replies.SmbReply.TheVariants.{Started, Ended, Opened, Closed, Bytes, Wrote, Resized}
use Rattle.sx_call.specs.declared.replies.SmbReply.TheVariants.{Locked, Unlocked, Stats, Names, Disposed}
use Rattle.sx_listing.specs.Percent.{percent_text}
use Rattle.sx_reply.specs.Refusals.{row_of, message_of}
use Rattle.sx_lines.specs.Printed.{attributes_text, item_text}
use Rattle.sx_lines.specs.declared.answer.LineAnswer.{LineAnswer}
use Rattle.sx_lines.specs.declared.answer.LineAnswer.TheVariants.{Core, Syntax, Long, Stop as Stopped}
use Rattle.sx_lines.specs.declared.line.TheConstants.{LINE_LIMIT}

-- a refusal has a word for sessions
abbrev pub has_word : Refusal → Bool
has_word refusal = nat_lt 0 (length (row_of refusal).word)

-- a reply has a line for sessions
abbrev pub has_line : Reply → Bool
has_line (Smb reply) = true
has_line (Refused refusal) = has_word refusal
has_line reply = false

-- an answer has a line
abbrev pub is_printed : LineAnswer → Bool
is_printed (Core place reply locking) = has_line reply
is_printed (Syntax at) = true
is_printed Long = true
is_printed (Stopped stop) = true

-- `OK PLACE WORD`, the word with the space before it
abbrev pub word_line : ℕ → List ℕ → List ℕ
word_line place word = concat (codes "OK " ∷ decimal place ∷ word ∷ codes "\n" ∷ [])

-- `OK PLACE WORD NUMBER`, the word with its spaces
abbrev pub number_line : ℕ → List ℕ → ℕ → List ℕ
number_line place word n = concat (codes "OK " ∷ decimal place ∷ word ∷ decimal n ∷ codes "\n" ∷ [])

-- whether a file or directory was made, as a word with its spaces
abbrev pub made_word : Bool → List ℕ
made_word made = if made then codes " created " else codes " opened "

-- `OK PLACE open INDEX created|opened ID LENGTH`
abbrev pub open_line : ℕ → ℕ → Bool → ℕ → ℕ → List ℕ
open_line place index made id length =
    concat (
    codes "OK " ∷ decimal place ∷ codes " open " ∷ decimal index ∷ made_word made ∷ decimal id ∷ codes " "
    ∷ decimal length ∷ codes "\n" ∷ [])

-- what a file or directory is after a close, as a word
abbrev pub fate_word : Fate → List ℕ
fate_word Kept = codes " close kept"
fate_word Pending = codes " close pending"
fate_word Gone = codes " close gone"

-- `OK PLACE read N HEX`
abbrev pub some_bytes_line : ℕ → List ℕ → List ℕ
some_bytes_line place bytes =
    concat (codes "OK " ∷ decimal place ∷ codes " read " ∷ decimal (length bytes) ∷ codes " " ∷ [])
    ++ encode_lower bytes
    ++ concat (codes "\n" ∷ [])

-- the answer to a read: `read 0 -` where no bytes were read
unfoldable pub bytes_line : ℕ → List ℕ → List ℕ
bytes_line place bytes =
    if length bytes == 0 then word_line place (codes " read 0 -") else some_bytes_line place bytes

-- `OK PLACE write N LENGTH`
abbrev pub write_line : ℕ → ℕ → ℕ → List ℕ
write_line place count length =
    concat (
    codes "OK " ∷ decimal place ∷ codes " write " ∷ decimal count ∷ codes " " ∷ decimal length ∷ codes "\n" ∷ [])

-- a file or a directory, as a word with its spaces
abbrev pub kind_word : Bool → List ℕ
kind_word dir = if dir then codes " dir " else codes " file "

-- `OK PLACE stat ID file|dir LENGTH ATTRIBUTES CREATED WRITTEN CHANGED`, the times in ticks
unfoldable pub stat_line : ℕ → ℕ → Bool → ℕ → Attributes → ℕ → ℕ → ℕ → List ℕ
stat_line place id dir length attributes created written changed =
    concat (codes "OK " ∷ decimal place ∷ codes " stat " ∷ decimal id ∷ kind_word dir ∷ decimal length ∷ codes " " ∷ [])
    ++ attributes_text attributes
    ++ concat (
    codes " " ∷ decimal created ∷ codes " " ∷ decimal written ∷ codes " " ∷ decimal changed ∷ codes "\n" ∷ [])

-- the name in which the next page begins, `*` at the end
abbrev pub next_text : List ℕ → List ℕ
next_text next = if length next == 0 then codes "*" else percent_text next

-- `OK PLACE list N NEXT`, and the items
unfoldable pub list_line : ℕ → NamesPage → List ℕ
list_line place page =
    concat (
    codes "OK " ∷ decimal place ∷ codes " list " ∷ decimal (length page.items) ∷ codes " " ∷ next_text page.next ∷ [])
    ++ flat_map item_text page.items
    ++ concat (codes "\n" ∷ [])

-- the answer to a session's call that was not refused
unfoldable pub smb_line : ℕ → SmbReply → List ℕ
smb_line place (Started session) = number_line place (codes " start ") session
smb_line place (Ended closed) = number_line place (codes " end ") closed
smb_line place (Opened index made id length) = open_line place index made id length
smb_line place (Closed fate) = word_line place (fate_word fate)
smb_line place (Bytes view) = bytes_line place view
smb_line place (Wrote count length) = write_line place count length
smb_line place (Resized length) = number_line place (codes " resize ") length
smb_line place Locked = word_line place (codes " lock")
smb_line place Unlocked = word_line place (codes " unlock")
smb_line place (Stats id dir length attributes created written changed) =
    stat_line place id dir length attributes created written changed
smb_line place (Names page) = list_line place page
smb_line place Disposed = word_line place (codes " dispose")

-- a refusal's word, which to a lock line is another where a lock is in the way
unfoldable pub refusal_word : Bool → Refusal → List ℕ
refusal_word true (LockInTheWay held) = codes "LOCK_NOT_GRANTED"
refusal_word locking refusal = (row_of refusal).word

-- `ERR WORD PLACE `
abbrev pub refusal_front : ℕ → Bool → Refusal → List ℕ
refusal_front place locking refusal =
    concat (codes "ERR " ∷ refusal_word locking refusal ∷ codes " " ∷ decimal place ∷ codes " " ∷ [])

-- `ERR WORD PLACE MESSAGE`
unfoldable pub refusal_line : ℕ → Bool → Refusal → List ℕ
refusal_line place locking refusal =
    refusal_front place locking refusal ++ message_of refusal ++ concat (codes "\n" ∷ [])

-- the answer to a call, by its reply
unfoldable pub reply_line : ℕ → Reply → Bool → List ℕ
reply_line place (Smb reply) locking = smb_line place reply
reply_line place (Refused refusal) locking = refusal_line place locking refusal
reply_line place reply locking = []

-- `ERR WORD NUMBER`, the word with its spaces
abbrev pub error_line : List ℕ → ℕ → List ℕ
error_line word n = concat (codes "ERR" ∷ word ∷ decimal n ∷ codes "\n" ∷ [])

-- `ERR HISTORY_FULL ENTRIES SESSIONS LIMIT`
abbrev pub full_line : ℕ → ℕ → ℕ → List ℕ
full_line entries sessions limit =
    concat (
    codes "ERR HISTORY_FULL " ∷ decimal entries ∷ codes " " ∷ decimal sessions ∷ codes " " ∷ decimal limit
    ∷ codes "\n" ∷ [])

-- why a call was not appended: `ERR NO_MEMORY`, or that the history is full
abbrev pub stop_line : Stop → List ℕ
stop_line NoMemory = concat (codes "ERR NO_MEMORY\n" ∷ [])
stop_line (HistoryFull entries sessions limit) = full_line entries sessions limit

-- the bytes that answer a line
unfoldable pub answer_line : LineAnswer → List ℕ
answer_line (Core place reply locking) = reply_line place reply locking
answer_line (Syntax at) = error_line (codes " SYNTAX ") at
answer_line Long = error_line (codes " LINE ") LINE_LIMIT
answer_line (Stopped stop) = stop_line stop
