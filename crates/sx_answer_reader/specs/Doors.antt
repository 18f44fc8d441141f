-- What the answers of a session's door tell.
use Rattle.std.specs.Prelude.{codes, ℕ, ◌≡◌, ◌-◌, ◌++◌, Bool, Option, Some, None, option_map, IfSome, map}
use Rattle.std.specs.Prelude.{if◌then◌else◌}
use Rattle.sx_call.specs.declared.replies.Reply.{Reply}
use Rattle.sx_call.specs.declared.replies.Reply.TheVariants.{Smb, Refused as RefusedReply}
use Rattle.sx_call.specs.declared.refusals.Refusal.{Refusal}
use Rattle.sx_call.specs.declared.refusals.Refusal.TheVariants.{ShareAbsent as NoShare, ParentAbsent as NoParent}
use Rattle.sx_call.specs.declared.refusals.Refusal.TheVariants.{NameAbsent as NoName, NameThere as SameName}
use Rattle.sx_call.specs.declared.refusals.Refusal.TheVariants.{IsDirectory as NoFile, IsFile as NoDirectory}
use Rattle.sx_call.specs.declared.refusals.Refusal.TheVariants.{Pending as DeletePending, ReadOnly as NoWriting}
use Rattle.sx_call.specs.declared.refusals.Refusal.TheVariants.{LeaseHeld as HasLease, Shared as NotShared}
use Rattle.sx_call.specs.declared.refusals.Refusal.TheVariants.{Locked as HasLock, NotLocked as NoLock}
use Rattle.sx_call.specs.declared.refusals.Refusal.TheVariants.{QuotaMet as DiskFull, OpensFull as ManyOpens}
use Rattle.sx_call.specs.declared.refusals.Refusal.TheVariants.{NoHandle as BadHandle, LacksAccess as NoAccess}
use Rattle.sx_call.specs.declared.replies.SmbReply.{SmbReply}
use Rattle.sx_call.specs.declared.replies.SmbReply.TheVariants.{Started as StartReply, Ended as EndReply}
use Rattle.sx_call.specs.declared.replies.SmbReply.TheVariants.{Opened as OpenReply, Closed as CloseReply}
use Rattle.sx_call.specs.declared.replies.SmbReply.TheVariants.{Bytes as BytesReply, Stats as StatsReply}
use Rattle.sx_call.specs.declared.replies.SmbReply.TheVariants.{Names as NamesReply}
use Rattle.sx_names.specs.declared.page.NameItem.{NameItem}
use Rattle.sx_call.specs.declared.replies.SmbReply.TheVariants.{Wrote as WriteReply, Resized as ResizeReply}
use Rattle.sx_call.specs.declared.replies.SmbReply.TheVariants.{Locked as LockReply, Unlocked as UnlockReply}
use Rattle.sx_call.specs.declared.replies.SmbReply.TheVariants.{Disposed as DisposeReply}
use Rattle.sx_lines.specs.declared.answer.LineAnswer.{LineAnswer}
use Rattle.sx_lines.specs.declared.answer.LineAnswer.TheVariants.{Core, Syntax as SyntaxAnswer, Long as LongAnswer}
use Rattle.sx_lines.specs.declared.answer.LineAnswer.TheVariants.{Stop as StopAnswer}
use Rattle.sx_lines.specs.Answers.{answer_line}
use Rattle.sx_answer_reader.specs.declared.answer.Entry.{Entry}
use Rattle.sx_answer_reader.specs.declared.answer.Told.{Told}
use Rattle.sx_answer_reader.specs.declared.answer.Told.TheVariants.{Started, Ended, Opened, Closed, Read, Wrote}
use Rattle.sx_answer_reader.specs.declared.answer.Told.TheVariants.{Resized, Locked, Unlocked, Stats, Listed, Disposed}
use Rattle.sx_answer_reader.specs.declared.answer.Answer.{Answer}
use Rattle.sx_answer_reader.specs.declared.answer.Answer.TheVariants.{Done, Refused, Syntax, Long, Stop}
use Rattle.sx_answer_reader.specs.declared.reason.Reason.{Reason}
use Rattle.sx_answer_reader.specs.declared.reason.Reason.TheVariants.{ShareAbsent, ParentAbsent, NameAbsent, NameThere}
use Rattle.sx_answer_reader.specs.declared.reason.Reason.TheVariants.{IsDirectory, IsFile, Pending, ReadOnly, LeaseHeld}
use Rattle.sx_answer_reader.specs.declared.reason.Reason.TheVariants.{Shared, Locked as LockInTheWay}
use Rattle.sx_answer_reader.specs.declared.reason.Reason.TheVariants.{NotLocked, QuotaMet}
use Rattle.sx_answer_reader.specs.declared.reason.Reason.TheVariants.{OpensFull, NoHandle, LacksAccess}
use Rattle.sx_answer_reader.specs.Answers.{told_line}

-- what a name of a page tells: not its id, and of a directory no length
abbrev pub entry_of : NameItem → Entry
entry_of item = record { dir = item.dir; length = if item.dir then 0 else item.length; name = item.name }

-- what a reply tells
unfoldable pub told_of : SmbReply → Told
told_of (StartReply session) = Started session
told_of (EndReply closed) = Ended closed
told_of (OpenReply index made id length) = Opened index made id length
told_of (CloseReply fate) = Closed fate
told_of (BytesReply view) = Read view
told_of (WriteReply count length) = Wrote count length
told_of (ResizeReply length) = Resized length
told_of LockReply = Locked
told_of UnlockReply = Unlocked
told_of (StatsReply id dir length attributes created written changed) =
    Stats id dir length attributes created written changed
told_of (NamesReply page) = Listed (map entry_of page.items) page.next
told_of DisposeReply = Disposed

-- why a call was refused, where sessions are refused so; a lock in the way is told by its bytes, not by its kind
unfoldable pub reason_of : Bool → Refusal → Option Reason
reason_of locking NoShare = Some ShareAbsent
reason_of locking (NoParent parts) = Some (ParentAbsent parts)
reason_of locking NoName = Some NameAbsent
reason_of locking (SameName id) = Some (NameThere id)
reason_of locking (NoFile id) = Some (IsDirectory id)
reason_of locking (NoDirectory id) = Some (IsFile id)
reason_of locking (DeletePending id) = Some (Pending id)
reason_of locking (NoWriting id) = Some (ReadOnly id)
reason_of locking HasLease = Some LeaseHeld
reason_of locking (NotShared handle) = Some (Shared handle)
reason_of locking (HasLock held) = Some (LockInTheWay held.handle held.from (held.end - 1) locking)
reason_of locking NoLock = Some NotLocked
reason_of locking (DiskFull used more limit) = Some (QuotaMet used more limit)
reason_of locking (ManyOpens n) = Some (OpensFull n)
reason_of locking (BadHandle handle) = Some (NoHandle handle)
reason_of locking (NoAccess handle) = Some (LacksAccess handle)
reason_of locking refusal = None

-- the same of a reply at its place, to a call that locks or to another
unfoldable pub reply_told : ℕ → Reply → Bool → Option Answer
reply_told place (Smb reply) locking = Some (Done place (told_of reply))
reply_told place (RefusedReply refusal) locking = option_map (Refused place) (reason_of locking refusal)
reply_told place reply locking = None

-- what a door's answer tells, where it is a session's
unfoldable pub answer_told : LineAnswer → Option Answer
answer_told (Core place reply locking) = reply_told place reply locking
answer_told (SyntaxAnswer at) = Some (Syntax at)
answer_told LongAnswer = Some Long
answer_told (StopAnswer stop) = Some (Stop stop)

-- the line that the door prints for an answer is the line of what it tells, with a line feed behind it
abbrev pub IsLineOf : LineAnswer → Type 0
IsLineOf answer = IfSome (answer_told answer) (λ told. answer_line answer ≡ told_line told ++ codes "\n")
