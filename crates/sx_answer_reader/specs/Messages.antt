-- What the words of a refusal's message spell. Each name in a function is what is left of the line from that word on,
-- behind the word before it.
use Rattle.std.specs.Prelude.{ℕ, ◌==◌, Bool, bytes_eq, codes, List, [], ◌∷◌, drop, if◌then◌else◌, Option, Some}
use Rattle.std.specs.List.{before_first, position_or_len}
use Rattle.sx_guard.specs.Handle.{Handle}
use Rattle.sx_lines.specs.Reading.{when_some}
use Rattle.sx_lines.specs.Words.{next_word, behind_next}
use Rattle.sx_lines.specs.Fields.{number_in}
use Rattle.sx_answer_reader.specs.declared.reason.Reason.{Reason}
use Rattle.sx_answer_reader.specs.declared.reason.Reason.TheVariants.{ShareAbsent, ParentAbsent, NameAbsent, NameThere}
use Rattle.sx_answer_reader.specs.declared.reason.Reason.TheVariants.{IsDirectory, IsFile, LeaseHeld}
use Rattle.sx_answer_reader.specs.declared.reason.Reason.TheVariants.{Pending as IsPending, ReadOnly as IsReadOnly}
use Rattle.sx_answer_reader.specs.declared.reason.Reason.TheVariants.{Shared, Locked, NotLocked, QuotaMet, OpensFull}
use Rattle.sx_answer_reader.specs.declared.reason.Reason.TheVariants.{NoHandle, LacksAccess}
use Rattle.sx_answer_reader.specs.declared.subject.Subject.{Subject}
use Rattle.sx_answer_reader.specs.declared.subject.Subject.TheVariants.{No, There, Directory, File, Pending, ReadOnly}
use Rattle.sx_answer_reader.specs.declared.subject.Subject.TheVariants.{Lease, Sharing, Lock, Not, Quota, Opens}
use Rattle.sx_answer_reader.specs.declared.subject.Subject.TheVariants.{Handle as HandleWord, Access}
use Rattle.sx_answer_reader.specs.Words.{end_of, number, count, literal, found}

-- `.`
abbrev pub is_dot : ℕ → Bool
is_dot b = b == 46

-- a handle, `SESSION.INDEX`
unfoldable pub handle_of : List ℕ → Option Handle
handle_of word =
    when_some (number_in 1 4294967295 (before_first is_dot word)) (λ session.
    when_some (number_in 1 4294967295 (drop 1 (drop (position_or_len is_dot word) word))) (λ index.
    Some (record { session = session; index = index })))

-- the last word is a handle
unfoldable pub last_handle : List ℕ → Option Handle
last_handle word =
    when_some (handle_of (next_word word)) (λ handle.
    when_some (end_of (behind_next word)) (λ _.
    Some handle))

-- the last word is a number
unfoldable pub last_number : List ℕ → Option ℕ
last_number word =
    when_some (number word) (λ n.
    when_some (end_of (behind_next word)) (λ _.
    Some n))

-- the last word is this one
unfoldable pub last_word : List ℕ → List ℕ → Option (Unit {0})
last_word word behind =
    when_some (literal word behind) (λ _.
    end_of (behind_next behind))

-- `id N`
unfoldable pub id : List ℕ → Option ℕ
id word = when_some (literal (codes "id") word) (λ _. last_number (behind_next word))

-- `parent N`
unfoldable pub parent : List ℕ → Option Reason
parent word =
    let parts = behind_next word in
    when_some (literal (codes "parent") word) (λ _.
    when_some (count parts) (λ n.
    when_some (end_of (behind_next parts)) (λ _.
    Some (ParentAbsent n))))

-- `share`, `name`, or `parent N`, behind `no`
unfoldable pub absent : List ℕ → Option Reason
absent word =
    if bytes_eq (next_word word) (codes "parent") then parent word
    else if bytes_eq (next_word word) (codes "share")
    then when_some (last_word (codes "share") word) (λ _. Some ShareAbsent)
    else when_some (last_word (codes "name") word) (λ _. Some NameAbsent)

-- `handle S.I`, behind `sharing`
unfoldable pub sharing : List ℕ → Option Reason
sharing word =
    when_some (literal (codes "handle") word) (λ _.
    when_some (last_handle (behind_next word)) (λ handle.
    Some (Shared handle)))

-- `handle S.I from FIRST to LAST`, behind `lock`
unfoldable pub lock : Bool → List ℕ → Option Reason
lock locking word =
    let handle = behind_next word in
    let from = behind_next handle in
    let first = behind_next from in
    let to = behind_next first in
    when_some (literal (codes "handle") word) (λ _.
    when_some (handle_of (next_word handle)) (λ holder.
    when_some (literal (codes "from") from) (λ _.
    when_some (number first) (λ start.
    when_some (literal (codes "to") to) (λ _.
    when_some (last_number (behind_next to)) (λ end.
    Some (Locked holder start end locking)))))))

-- `used USED more MORE limit LIMIT`, behind `quota`
unfoldable pub quota : List ℕ → Option Reason
quota word =
    let used = behind_next word in
    let more = behind_next used in
    let added = behind_next more in
    let limit = behind_next added in
    when_some (literal (codes "used") word) (λ _.
    when_some (number used) (λ u.
    when_some (literal (codes "more") more) (λ _.
    when_some (number added) (λ m.
    when_some (literal (codes "limit") limit) (λ _.
    when_some (last_number (behind_next limit)) (λ l.
    Some (QuotaMet u m l)))))))

-- a message by its first word, and what stands behind that
unfoldable pub message_by : Bool → Subject → List ℕ → Option Reason
message_by locking No behind = absent behind
message_by locking There behind = when_some (id behind) (λ n. Some (NameThere n))
message_by locking Directory behind = when_some (id behind) (λ n. Some (IsDirectory n))
message_by locking File behind = when_some (id behind) (λ n. Some (IsFile n))
message_by locking Pending behind = when_some (id behind) (λ n. Some (IsPending n))
message_by locking ReadOnly behind = when_some (id behind) (λ n. Some (IsReadOnly n))
message_by locking Lease behind = when_some (last_word (codes "held") behind) (λ _. Some LeaseHeld)
message_by locking Sharing behind = sharing behind
message_by locking Lock behind = lock locking behind
message_by locking Not behind = when_some (last_word (codes "locked") behind) (λ _. Some NotLocked)
message_by locking Quota behind = quota behind
message_by locking Opens behind = when_some (last_number behind) (λ n. Some (OpensFull n))
message_by locking HandleWord behind = when_some (last_handle behind) (λ handle. Some (NoHandle handle))
message_by locking Access behind = when_some (last_handle behind) (λ handle. Some (LacksAccess handle))

-- the first words of messages
unfoldable pub subject_of : List ℕ → Option Subject
subject_of word =
    found (
    (codes "no", No) ∷ (codes "there", There) ∷ (codes "directory", Directory) ∷ (codes "file", File)
    ∷ (codes "pending", Pending) ∷ (codes "read-only", ReadOnly) ∷ (codes "lease", Lease)
    ∷ (codes "sharing", Sharing) ∷ (codes "lock", Lock) ∷ (codes "not", Not) ∷ (codes "quota", Quota)
    ∷ (codes "opens", Opens) ∷ (codes "handle", HandleWord) ∷ (codes "access", Access) ∷ [])
    word

-- a message, to a call that locks or to another
unfoldable pub message : Bool → List ℕ → Option Reason
message locking behind =
    when_some (subject_of (next_word behind)) (λ subject. message_by locking subject (behind_next behind))
