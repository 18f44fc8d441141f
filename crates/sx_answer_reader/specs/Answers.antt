-- The lines of a session's answers, by their words.
use Rattle.std.specs.Prelude.{codes, ℕ, ◌≡◌, ◌==◌, ◌++◌, Bool, true, if◌then◌else◌, List, [], ◌∷◌, length, map, ⊤}
use Rattle.std.specs.List.{All, join_with_byte}
use Rattle.std.specs.Str.{is_utf8}
use Rattle.std.specs.Fmt.{decimal}
use Rattle.hex.specs.Hex.{encode_lower, IsBytes}
use Rattle.sx_call.specs.declared.refusals.Stop.{Stop}
use Rattle.sx_call.specs.declared.refusals.Stop.TheVariants.{NoMemory, HistoryFull}
use Rattle.sx_call.specs.declared.replies.Fate.{Fate}
use Rattle.sx_call.specs.declared.replies.Fate.TheVariants.{Kept, Pending, Gone}
use Rattle.sx_listing.specs.Percent.{percent_text}
use Rattle.sx_lines.specs.Answers.{next_text}
use Rattle.sx_lines.specs.Printed.{attributes_text}
use Rattle.sx_lines.specs.declared.line.TheConstants.{LINE_LIMIT}
use Rattle.sx_answer_reader.specs.declared.answer.Entry.{Entry}
use Rattle.sx_answer_reader.specs.declared.answer.Told.{Told}
use Rattle.sx_answer_reader.specs.declared.answer.Told.TheVariants.{Started, Ended, Opened, Closed, Read, Wrote}
use Rattle.sx_answer_reader.specs.declared.answer.Told.TheVariants.{Resized, Locked, Unlocked, Stats, Listed, Disposed}
use Rattle.sx_answer_reader.specs.Limits.{IsNumber, IsCount, IsIndex}
use Rattle.sx_answer_reader.specs.Refusals.{reason_word, message_words, FitsReason}
use Rattle.sx_answer_reader.specs.declared.answer.Answer.{Answer}
use Rattle.sx_answer_reader.specs.declared.answer.Answer.TheVariants.{Done, Refused, Syntax, Long, Stop as Stopped}

-- what a file or directory is after a close, as a word
abbrev pub fate_word : Fate → List ℕ
fate_word Kept = codes "kept"
fate_word Pending = codes "pending"
fate_word Gone = codes "gone"

-- whether an open made its file or directory, as a word
abbrev pub made_word : Bool → List ℕ
made_word made = if made then codes "created" else codes "opened"

-- whether it is a directory, as a word
abbrev pub dir_word : Bool → List ℕ
dir_word dir = if dir then codes "dir" else codes "file"

-- bytes in lower-case hexadecimal digits, and `-` for none
abbrev pub hex_text : List ℕ → List ℕ
hex_text bytes = if length bytes == 0 then codes "-" else encode_lower bytes

-- an entry as a word: `file:LENGTH:NAME` or `dir:0:NAME`, the name in percent-encoding
abbrev pub entry_word : Entry → List ℕ
entry_word e = dir_word e.dir ++ (codes ":" ++ (decimal e.length ++ (codes ":" ++ percent_text e.name)))

-- the words that tell what became of a call that was not refused
unfoldable pub told_words : Told → List (List ℕ)
told_words (Started session) = codes "start" ∷ decimal session ∷ []
told_words (Ended closed) = codes "end" ∷ decimal closed ∷ []
told_words (Opened index made id length) =
    codes "open" ∷ decimal index ∷ made_word made ∷ decimal id ∷ decimal length ∷ []
told_words (Closed fate) = codes "close" ∷ fate_word fate ∷ []
told_words (Read bytes) = codes "read" ∷ decimal (length bytes) ∷ hex_text bytes ∷ []
told_words (Wrote count length) = codes "write" ∷ decimal count ∷ decimal length ∷ []
told_words (Resized length) = codes "resize" ∷ decimal length ∷ []
told_words Locked = codes "lock" ∷ []
told_words Unlocked = codes "unlock" ∷ []
told_words (Stats id dir length attributes created written changed) =
    codes "stat" ∷ decimal id ∷ dir_word dir ∷ decimal length ∷ attributes_text attributes
    ∷ decimal created ∷ decimal written ∷ decimal changed ∷ []
told_words (Listed entries next) =
    codes "list" ∷ decimal (length entries) ∷ next_text next ∷ map entry_word entries
told_words Disposed = codes "dispose" ∷ []

-- why a call was not appended to the history, in words behind `ERR`
abbrev pub stop_words : Stop → List (List ℕ)
stop_words NoMemory = codes "NO_MEMORY" ∷ []
stop_words (HistoryFull entries sessions limit) =
    codes "HISTORY_FULL" ∷ decimal entries ∷ decimal sessions ∷ decimal limit ∷ []

-- the words of an answer
unfoldable pub words_of : Answer → List (List ℕ)
words_of (Done place told) = codes "OK" ∷ decimal place ∷ told_words told
words_of (Refused place reason) = codes "ERR" ∷ reason_word reason ∷ decimal place ∷ message_words reason
words_of (Syntax at) = codes "ERR" ∷ codes "SYNTAX" ∷ decimal at ∷ []
words_of Long = codes "ERR" ∷ codes "LINE" ∷ decimal LINE_LIMIT ∷ []
words_of (Stopped stop) = codes "ERR" ∷ stop_words stop

-- the line of an answer: its words with one space between each two, and no line feed
unfoldable pub told_line : Answer → List ℕ
told_line answer = join_with_byte 32 (words_of answer)

-- an entry's name is a text, its length is a number, and a directory's is 0
abbrev pub FitsEntry : Entry → Type 0
FitsEntry e = (is_utf8 e.name ≡ true) × IsNumber e.length × (e.dir ≡ true → e.length ≡ 0)

-- the numbers and bytes of what is told fit their fields
abbrev pub FitsTold : Told → Type 0
FitsTold (Started session) = IsCount session
FitsTold (Ended closed) = IsCount closed
FitsTold (Opened index made id length) = IsIndex index × IsNumber id × IsNumber length
FitsTold (Closed fate) = ⊤
FitsTold (Read bytes) = IsBytes bytes × IsNumber (length bytes)
FitsTold (Wrote count length) = IsCount count × IsNumber length
FitsTold (Resized length) = IsNumber length
FitsTold Locked = ⊤
FitsTold Unlocked = ⊤
FitsTold (Stats id dir length attributes created written changed) =
    IsNumber id × IsNumber length × IsNumber created × IsNumber written × IsNumber changed
FitsTold (Listed entries next) = All FitsEntry entries × IsNumber (length entries) × (is_utf8 next ≡ true)
FitsTold Disposed = ⊤

-- the numbers of a stop fit their fields
abbrev pub FitsStop : Stop → Type 0
FitsStop NoMemory = ⊤
FitsStop (HistoryFull entries sessions limit) = IsNumber entries × IsNumber sessions × IsNumber limit

-- the numbers and bytes of an answer fit their fields, as those of every answer in a program do
abbrev pub Fits : Answer → Type 0
Fits (Done place told) = IsNumber place × FitsTold told
Fits (Refused place reason) = IsNumber place × FitsReason reason
Fits (Syntax at) = IsNumber at
Fits Long = ⊤
Fits (Stopped stop) = FitsStop stop
