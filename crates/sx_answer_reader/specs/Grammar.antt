-- What the words of an answer's line spell, one after another. Each name in a function is what is left of the line from
-- that word on, behind the word before it.
use Rattle.std.specs.Prelude.{ℕ, ◌==◌, bytes_eq, codes, List, [], ◌∷◌, length, if◌then◌else◌}
use Rattle.std.specs.Prelude.{Option, Some, None}
use Rattle.sx_call.specs.declared.refusals.Stop.TheVariants.{NoMemory, HistoryFull}
use Rattle.sx_lines.specs.declared.line.TheConstants.{LINE_LIMIT}
use Rattle.sx_lines.specs.Reading.{when_some}
use Rattle.sx_lines.specs.Words.{first_word, behind_first, next_word, behind_next}
use Rattle.sx_answer_reader.specs.Words.{end_of, number, count, index, choice, fate, bytes_of, found}
use Rattle.sx_answer_reader.specs.Attributes.{attributes_of}
use Rattle.sx_answer_reader.specs.Entries.{entries_of, next_of}
use Rattle.sx_answer_reader.specs.Messages.{message}
use Rattle.sx_answer_reader.specs.Refusals.{reason_word}
use Rattle.sx_answer_reader.specs.declared.answer.Told.{Told}
use Rattle.sx_answer_reader.specs.declared.answer.Told.TheVariants.{Started, Ended, Opened, Closed}
use Rattle.sx_answer_reader.specs.declared.answer.Told.TheVariants.{Read as BytesRead, Wrote, Resized}
use Rattle.sx_answer_reader.specs.declared.answer.Told.TheVariants.{Locked, Unlocked, Stats, Listed, Disposed}
use Rattle.sx_answer_reader.specs.declared.answer.Answer.{Answer}
use Rattle.sx_answer_reader.specs.declared.answer.Answer.TheVariants.{Done, Refused, Syntax, Long, Stop as Stopped}
use Rattle.sx_answer_reader.specs.declared.kind.Kind.{Kind}
use Rattle.sx_answer_reader.specs.declared.kind.Kind.TheVariants.{Start, End, Open, Close, Read, Write}
use Rattle.sx_answer_reader.specs.declared.kind.Kind.TheVariants.{Resize, Lock, Unlock, Stat, List as Lists, Dispose}

-- `start SESSION`
unfoldable pub started : List ℕ → Option Told
started session =
    when_some (count session) (λ number.
    when_some (end_of (behind_next session)) (λ _.
    Some (Started number)))

-- `end N`
unfoldable pub ended : List ℕ → Option Told
ended closed =
    when_some (count closed) (λ number.
    when_some (end_of (behind_next closed)) (λ _.
    Some (Ended number)))

-- `open K created|opened ID LENGTH`
unfoldable pub opened : List ℕ → Option Told
opened k =
    let word = behind_next k in
    let id = behind_next word in
    let length = behind_next id in
    when_some (index k) (λ i.
    when_some (choice (codes "created") (codes "opened") word) (λ made.
    when_some (number id) (λ node.
    when_some (number length) (λ bytes.
    when_some (end_of (behind_next length)) (λ _.
    Some (Opened i made node bytes))))))

-- `close kept|pending|gone`
unfoldable pub closed : List ℕ → Option Told
closed word =
    when_some (fate word) (λ f.
    when_some (end_of (behind_next word)) (λ _.
    Some (Closed f)))

-- so many bytes
unfoldable pub bytes_read : ℕ → List ℕ → Option Told
bytes_read count hex =
    when_some (bytes_of (next_word hex)) (λ bytes.
    if length bytes == count then Some (BytesRead bytes) else None)

-- `read N HEX`
unfoldable pub read : List ℕ → Option Told
read n =
    let hex = behind_next n in
    when_some (number n) (λ count.
    when_some (end_of (behind_next hex)) (λ _.
    bytes_read count hex))

-- `write N LENGTH`
unfoldable pub wrote : List ℕ → Option Told
wrote n =
    let length = behind_next n in
    when_some (count n) (λ written.
    when_some (number length) (λ bytes.
    when_some (end_of (behind_next length)) (λ _.
    Some (Wrote written bytes))))

-- `resize LENGTH`
unfoldable pub resized : List ℕ → Option Told
resized length =
    when_some (number length) (λ bytes.
    when_some (end_of (behind_next length)) (λ _.
    Some (Resized bytes)))

-- `stat ID file|dir LENGTH ATTRIBUTES CREATED WRITTEN CHANGED`
unfoldable pub stats : List ℕ → Option Told
stats id =
    let kind = behind_next id in
    let length = behind_next kind in
    let names = behind_next length in
    let creation = behind_next names in
    let write = behind_next creation in
    let change = behind_next write in
    when_some (number id) (λ node.
    when_some (choice (codes "dir") (codes "file") kind) (λ dir.
    when_some (number length) (λ bytes.
    when_some (attributes_of (next_word names)) (λ attributes.
    when_some (number creation) (λ created.
    when_some (number write) (λ written.
    when_some (number change) (λ changed.
    when_some (end_of (behind_next change)) (λ _.
    Some (Stats node dir bytes attributes created written changed)))))))))

-- `list N NEXT` and the entries
unfoldable pub listed : List ℕ → Option Told
listed n =
    let following = behind_next n in
    let first = behind_next following in
    when_some (number n) (λ count.
    when_some (entries_of count first) (λ entries.
    when_some (next_of (next_word following)) (λ next.
    Some (Listed entries next))))

-- a word that stands alone
unfoldable pub bare : Told → List ℕ → Option Told
bare told behind = when_some (end_of behind) (λ _. Some told)

-- what a call is told by the words behind its first
unfoldable pub told_by : Kind → List ℕ → Option Told
told_by Start behind = started behind
told_by End behind = ended behind
told_by Open behind = opened behind
told_by Close behind = closed behind
told_by Read behind = read behind
told_by Write behind = wrote behind
told_by Resize behind = resized behind
told_by Lock behind = bare Locked behind
told_by Unlock behind = bare Unlocked behind
told_by Stat behind = stats behind
told_by Lists behind = listed behind
told_by Dispose behind = bare Disposed behind

-- the words with which calls are told
unfoldable pub kind_of : List ℕ → Option Kind
kind_of word =
    found (
    (codes "start", Start) ∷ (codes "end", End) ∷ (codes "open", Open) ∷ (codes "close", Close)
    ∷ (codes "read", Read) ∷ (codes "write", Write) ∷ (codes "resize", Resize) ∷ (codes "lock", Lock)
    ∷ (codes "unlock", Unlock) ∷ (codes "stat", Stat) ∷ (codes "list", Lists) ∷ (codes "dispose", Dispose) ∷ [])
    word

-- what a call is told, behind the place of its entry
unfoldable pub told : List ℕ → Option Told
told behind = when_some (kind_of (next_word behind)) (λ kind. told_by kind (behind_next behind))

-- `OK PLACE` and what the call is told
unfoldable pub done : List ℕ → Option Answer
done place =
    when_some (number place) (λ entry.
    when_some (told (behind_next place)) (λ t.
    Some (Done entry t)))

-- `SYNTAX AT`
unfoldable pub syntax : List ℕ → Option Answer
syntax at =
    when_some (number at) (λ offset.
    when_some (end_of (behind_next at)) (λ _.
    Some (Syntax offset)))

-- `LINE LIMIT`
unfoldable pub long : List ℕ → Option Answer
long limit =
    when_some (number limit) (λ bytes.
    when_some (end_of (behind_next limit)) (λ _.
    if bytes == LINE_LIMIT then Some Long else None))

-- `HISTORY_FULL ENTRIES SESSIONS LIMIT`
unfoldable pub full : List ℕ → Option Answer
full entries =
    let sessions = behind_next entries in
    let limit = behind_next sessions in
    when_some (number entries) (λ come.
    when_some (number sessions) (λ live.
    when_some (number limit) (λ most.
    when_some (end_of (behind_next limit)) (λ _.
    Some (Stopped (HistoryFull come live most))))))

-- `NO_MEMORY`
unfoldable pub stopped : List ℕ → Option Answer
stopped behind = when_some (end_of behind) (λ _. Some (Stopped NoMemory))

-- the word of a refusal, `PLACE` and its message
unfoldable pub refused : List ℕ → Option Answer
refused word =
    let place = behind_next word in
    when_some (number place) (λ entry.
    when_some (message (bytes_eq (next_word word) (codes "LOCK_NOT_GRANTED")) (behind_next place)) (λ reason.
    if bytes_eq (next_word word) (reason_word reason) then Some (Refused entry reason) else None))

-- `ERR` and why nothing was done
unfoldable pub failed : List ℕ → Option Answer
failed behind =
    if bytes_eq (next_word behind) (codes "SYNTAX") then syntax (behind_next behind)
    else if bytes_eq (next_word behind) (codes "LINE") then long (behind_next behind)
    else if bytes_eq (next_word behind) (codes "HISTORY_FULL") then full (behind_next behind)
    else if bytes_eq (next_word behind) (codes "NO_MEMORY") then stopped (behind_next behind)
    else refused behind

-- what a line tells
unfoldable pub answer_of : List ℕ → Option Answer
answer_of line =
    if bytes_eq (first_word line) (codes "OK") then done (behind_first line)
    else if bytes_eq (first_word line) (codes "ERR") then failed (behind_first line)
    else None
