-- The line that a session's door prints for an answer is the line of what it tells.
use Rattle.std.proofs.Common.{codes, ◌≡◌, ℕ, Bool, true, false, List, [], ◌∷◌, ◌++◌, Option, Some, None, option_map, IfSome}
use Rattle.std.proofs.Common.{refl, sym, ap, ◌∙◌, arith, append_assoc, append-nil, ◌-◌, length, map, cond}
use Rattle.std.proofs.lemmas.List.{length-map}
use Rattle.std.proofs.lemmas.Bool.{ne_eqb}
use Rattle.std.proofs.lemmas.Fmt.{decimal_digit}
use Rattle.std.specs.List.{concat, flat_map}
use Rattle.std.specs.List.{join_with_byte}
use Rattle.std.specs.Fmt.{decimal}
use Rattle.sx_call.specs.declared.refusals.Stop.{Stop as StopCause}
use Rattle.sx_call.specs.declared.refusals.Stop.TheVariants.{NoMemory, HistoryFull}
use Rattle.sx_call.specs.declared.replies.Fate.TheVariants.{Kept, Pending, Gone}
use Rattle.sx_call.specs.declared.replies.Reply.{Reply}
use Rattle.sx_call.specs.declared.replies.Reply.TheVariants.{Smb, Refused as RefusedReply}
use Rattle.sx_call.specs.declared.replies.SmbReply.{SmbReply}
use Rattle.sx_call.specs.declared.replies.SmbReply.TheVariants.{Started as StartReply, Ended as EndReply, Opened as OpenReply, Closed as CloseReply, Bytes as BytesReply, Wrote as WriteReply, Resized as ResizeReply, Locked as LockReply, Unlocked as UnlockReply, Stats as StatsReply, Names as NamesReply, Disposed as DisposeReply}
use Rattle.sx_lines.specs.declared.line.TheConstants.{LINE_LIMIT}
use Rattle.sx_lines.specs.declared.answer.LineAnswer.{LineAnswer}
use Rattle.sx_lines.specs.declared.answer.LineAnswer.TheVariants.{Core, Syntax as SyntaxAnswer, Long as LongAnswer, Stop as StopAnswer}
use Rattle.sx_call.specs.declared.refusals.Refusal.{Refusal}
use Rattle.sx_call.specs.declared.refusals.Refusal.TheVariants.{ShareAbsent as NoShare, ParentAbsent as NoParent, NameAbsent as NoName, NameThere as SameName, IsDirectory as NoFile, IsFile as NoDirectory, Pending as DeletePending, ReadOnly as NoWriting, LeaseHeld as HasLease, Shared as NotShared, Locked as HasLock, NotLocked as NoLock, QuotaMet as DiskFull, OpensFull as ManyOpens, NoHandle as BadHandle, LacksAccess as NoAccess}
use Rattle.sx_call.specs.declared.refusals.Refusal.TheVariants.{ShareThere, SnapshotAbsent, NotEmpty, LeaseOther, NoLease, LeaseTaken, LeaseIdWrong, LeaseNotThere, OutOfFile, SnapshotsFull, SnapshotsStand}
use Rattle.sx_answer_reader.specs.declared.reason.Reason.{Reason}
use Rattle.sx_guard.specs.Handle.{Handle}
use Rattle.sx_reply.specs.Refusals.{row_of, message_of}
use Rattle.hex.specs.Hex.{encode_lower}
use Rattle.sx_lines.specs.Answers.{answer_line, reply_line, smb_line, bytes_line, stat_line, list_line, next_text, stop_line, refusal_word, refusal_line}
use Rattle.sx_answer_reader.specs.declared.answer.Answer.TheVariants.{Done, Refused, Stop}
use Rattle.sx_answer_reader.specs.declared.answer.Told.TheVariants.{Read, Stats, Listed}
use Rattle.sx_names.specs.declared.attributes.Attributes.{Attributes}
use Rattle.sx_names.specs.declared.page.NamesPage.{NamesPage}
use Rattle.sx_names.specs.declared.page.NameItem.{NameItem}
use Rattle.sx_listing.specs.Percent.{percent_text}
use Rattle.sx_lines.specs.Printed.{attributes_text, item_text}
use Rattle.sx_answer_reader.specs.Refusals.{reason_word, handle_text, message_words}
use Rattle.sx_answer_reader.specs.Answers.{entry_word, told_words, words_of, told_line}
use Rattle.sx_answer_reader.specs.Doors.{entry_of, told_of, reason_of, reply_told, answer_told, IsLineOf}
use Rattle.sx_answer_reader.proofs.Walks.{behind, joined}

-- words with a space before each, and an end behind them
abbrev behind_then : List (List ℕ) → List ℕ → List ℕ
behind_then [] end = end
behind_then (w ∷ ws) end = 32 ∷ (w ++ behind_then ws end)

then_is : (ws : List (List ℕ)) (end : List ℕ) → behind ws ++ end ≡ behind_then ws end
then_is [] end = refl
then_is (w ∷ ws) end =
    ap (λ (x : List ℕ). 32 ∷ x) (append_assoc w (behind ws) end ∙ ap (λ (x : List ℕ). w ++ x) (then_is ws end))

line_then : (w : List ℕ) (ws : List (List ℕ)) (end : List ℕ) → join_with_byte 32 (w ∷ ws) ++ end ≡ w ++ behind_then ws end
line_then w ws end =
    ap (λ (x : List ℕ). x ++ end) (joined w ws) ∙ append_assoc w (behind ws) end ∙ ap (λ (x : List ℕ). w ++ x) (then_is ws end)

ok_line : (place : ℕ) (ws : List (List ℕ)) → codes "OK" ++ behind_then (decimal place ∷ ws) (codes "\n") ≡ join_with_byte 32 (codes "OK" ∷ decimal place ∷ ws) ++ codes "\n"
ok_line place ws = sym (line_then (codes "OK") (decimal place ∷ ws) (codes "\n"))

err_line : (ws : List (List ℕ)) → codes "ERR" ++ behind_then ws (codes "\n") ≡ join_with_byte 32 (codes "ERR" ∷ ws) ++ codes "\n"
err_line ws = sym (line_then (codes "ERR") ws (codes "\n"))

-- the line feed
abbrev feed : List ℕ
feed = codes "\n"

read_then : (p n x : List ℕ) → (concat (codes "OK " ∷ p ∷ codes " read " ∷ n ∷ codes " " ∷ []) ++ x) ++ concat (codes "\n" ∷ [])
    ≡ codes "OK" ++ behind_then (p ∷ codes "read" ∷ n ∷ x ∷ []) feed
read_then p n x =
    ap (λ (y : List ℕ). codes "OK " ++ y) (
    append_assoc (p ++ (codes " read " ++ (n ++ (32 ∷ [])))) x feed
    ∙ append_assoc p (codes " read " ++ (n ++ (32 ∷ []))) (x ++ feed)
    ∙ ap (λ (y : List ℕ). p ++ (codes " read " ++ y)) (append_assoc n (32 ∷ []) (x ++ feed)))

bytes_are : (place : ℕ) (bytes : List ℕ) → bytes_line place bytes ≡ told_line (Done place (Read bytes)) ++ feed
unfolding bytes_line told_line words_of told_words
bytes_are place [] =
    ap (λ (x : List ℕ). codes "OK " ++ (decimal place ++ (codes " read " ++ (x ++ codes " -\n")))) (sym (decimal_digit 0 (omega arith)))
    ∙ ok_line place (codes "read" ∷ decimal 0 ∷ codes "-" ∷ [])
bytes_are place (b ∷ bytes) =
    rw (ne_eqb (length (b ∷ bytes)) 0 (λ q. omega (arith, q))) (
    read_then (decimal place) (decimal (length (b ∷ bytes))) (encode_lower (b ∷ bytes))
    ∙ ok_line place (codes "read" ∷ decimal (length (b ∷ bytes)) ∷ encode_lower (b ∷ bytes) ∷ []))

stat_then : (p i k l a x : List ℕ) → (concat (codes "OK " ∷ p ∷ codes " stat " ∷ i ∷ k ∷ l ∷ codes " " ∷ []) ++ a) ++ x
    ≡ codes "OK " ++ (p ++ (codes " stat " ++ (i ++ (k ++ (l ++ (32 ∷ (a ++ x)))))))
stat_then p i k l a x =
    ap (λ (y : List ℕ). codes "OK " ++ y) (
    append_assoc (p ++ (codes " stat " ++ (i ++ (k ++ (l ++ (32 ∷ [])))))) a x
    ∙ append_assoc p (codes " stat " ++ (i ++ (k ++ (l ++ (32 ∷ []))))) (a ++ x)
    ∙ ap (λ (y : List ℕ). p ++ (codes " stat " ++ y)) (
    append_assoc i (k ++ (l ++ (32 ∷ []))) (a ++ x)
    ∙ ap (λ (y : List ℕ). i ++ y) (
    append_assoc k (l ++ (32 ∷ [])) (a ++ x) ∙ ap (λ (y : List ℕ). k ++ y) (append_assoc l (32 ∷ []) (a ++ x)))))

-- the times, with the line feed
abbrev times : ℕ → ℕ → ℕ → List ℕ
times c w g = concat (codes " " ∷ decimal c ∷ codes " " ∷ decimal w ∷ codes " " ∷ decimal g ∷ codes "\n" ∷ [])

stats_are : (place id : ℕ) (dir : Bool) (l : ℕ) (a : Attributes) (c w g : ℕ)
    → stat_line place id dir l a c w g ≡ told_line (Done place (Stats id dir l a c w g)) ++ feed
unfolding stat_line told_line words_of told_words
stats_are place id true l a c w g =
    stat_then (decimal place) (decimal id) (codes " dir ") (decimal l) (attributes_text a) (times c w g)
    ∙ ok_line place (codes "stat" ∷ decimal id ∷ codes "dir" ∷ decimal l ∷ attributes_text a ∷ decimal c ∷ decimal w ∷ decimal g ∷ [])
stats_are place id false l a c w g =
    stat_then (decimal place) (decimal id) (codes " file ") (decimal l) (attributes_text a) (times c w g)
    ∙ ok_line place (codes "stat" ∷ decimal id ∷ codes "file" ∷ decimal l ∷ attributes_text a ∷ decimal c ∷ decimal w ∷ decimal g ∷ [])

item_by : (dir : Bool) (n : ℕ) (name : List ℕ)
    → cond dir (concat (codes " dir:0:" ∷ percent_text name ∷ [])) (concat (codes " file:" ∷ decimal n ∷ codes ":" ∷ percent_text name ∷ []))
    ≡ 32 ∷ entry_word (record { dir = dir; length = cond dir 0 n; name = name })
item_by true n name =
    ap (λ (x : List ℕ). codes " dir:0:" ++ x) (append-nil (percent_text name))
    ∙ ap (λ (x : List ℕ). codes " dir:" ++ (x ++ (codes ":" ++ percent_text name))) (sym (decimal_digit 0 (omega arith)))
item_by false n name = ap (λ (x : List ℕ). codes " file:" ++ (decimal n ++ (codes ":" ++ x))) (append-nil (percent_text name))

item_is : (item : NameItem) → item_text item ≡ 32 ∷ entry_word (entry_of item)
unfolding item_text
item_is item = item_by item.dir item.length item.name

items_then : (items : List NameItem) → flat_map item_text items ++ feed ≡ behind_then (map entry_word (map entry_of items)) feed
items_then [] = refl
items_then (item ∷ items) =
    ap (λ (x : List ℕ). (x ++ flat_map item_text items) ++ feed) (item_is item)
    ∙ ap (λ (x : List ℕ). 32 ∷ x) (
    append_assoc (entry_word (entry_of item)) (flat_map item_text items) feed
    ∙ ap (λ (x : List ℕ). entry_word (entry_of item) ++ x) (items_then items))

list_then : (p n x y : List ℕ) → (concat (codes "OK " ∷ p ∷ codes " list " ∷ n ∷ codes " " ∷ x ∷ []) ++ y) ++ concat (codes "\n" ∷ [])
    ≡ codes "OK " ++ (p ++ (codes " list " ++ (n ++ (32 ∷ (x ++ (y ++ feed))))))
list_then p n x y =
    ap (λ (z : List ℕ). codes "OK " ++ z) (
    append_assoc (p ++ (codes " list " ++ (n ++ (32 ∷ (x ++ []))))) y feed
    ∙ append_assoc p (codes " list " ++ (n ++ (32 ∷ (x ++ [])))) (y ++ feed)
    ∙ ap (λ (z : List ℕ). p ++ (codes " list " ++ z)) (
    append_assoc n (32 ∷ (x ++ [])) (y ++ feed) ∙ ap (λ (z : List ℕ). n ++ (32 ∷ z)) (append_assoc x [] (y ++ feed))))

page_is : (place : ℕ) (page : NamesPage) → list_line place page ≡ told_line (Done place (Listed (map entry_of page.items) page.next)) ++ feed
unfolding list_line told_line words_of told_words
page_is place page =
    let entries = map entry_of page.items in
    let next = next_text page.next in
    list_then (decimal place) (decimal (length page.items)) next (flat_map item_text page.items)
    ∙ ap (λ (z : List ℕ). codes "OK " ++ (decimal place ++ (codes " list " ++ (decimal (length page.items) ++ (32 ∷ (next ++ z)))))) (items_then page.items)
    ∙ ap (λ (m : ℕ). codes "OK " ++ (decimal place ++ (codes " list " ++ (decimal m ++ (32 ∷ (next ++ behind_then (map entry_word entries) feed)))))) (sym (length-map page.items entry_of))
    ∙ ok_line place (codes "list" ∷ decimal (length entries) ∷ next ∷ map entry_word entries)

smb_is : (place : ℕ) (reply : SmbReply) → smb_line place reply ≡ told_line (Done place (told_of reply)) ++ codes "\n"
unfolding smb_line told_of told_line words_of told_words
smb_is place (StartReply session) = ok_line place (codes "start" ∷ decimal session ∷ [])
smb_is place (EndReply closed) = ok_line place (codes "end" ∷ decimal closed ∷ [])
smb_is place (OpenReply index true id length) = ok_line place (codes "open" ∷ decimal index ∷ codes "created" ∷ decimal id ∷ decimal length ∷ [])
smb_is place (OpenReply index false id length) = ok_line place (codes "open" ∷ decimal index ∷ codes "opened" ∷ decimal id ∷ decimal length ∷ [])
smb_is place (CloseReply Kept) = ok_line place (codes "close" ∷ codes "kept" ∷ [])
smb_is place (CloseReply Pending) = ok_line place (codes "close" ∷ codes "pending" ∷ [])
smb_is place (CloseReply Gone) = ok_line place (codes "close" ∷ codes "gone" ∷ [])
smb_is place (BytesReply view) = bytes_are place view
smb_is place (WriteReply count length) = ok_line place (codes "write" ∷ decimal count ∷ decimal length ∷ [])
smb_is place (ResizeReply length) = ok_line place (codes "resize" ∷ decimal length ∷ [])
smb_is place LockReply = ok_line place (codes "lock" ∷ [])
smb_is place UnlockReply = ok_line place (codes "unlock" ∷ [])
smb_is place (StatsReply id dir length attributes created written changed) = stats_are place id dir length attributes created written changed
smb_is place (NamesReply page) = page_is place page
smb_is place DisposeReply = ok_line place (codes "dispose" ∷ [])

-- a refusal's line, by its word, place and message
front_then : (word place message : List ℕ) (ws : List (List ℕ)) → 32 ∷ (message ++ feed) ≡ behind_then ws feed
    → (concat (codes "ERR " ∷ word ∷ codes " " ∷ place ∷ codes " " ∷ []) ++ message) ++ concat (codes "\n" ∷ []) ≡ codes "ERR" ++ behind_then (word ∷ place ∷ ws) feed
front_then word place message ws h =
    ap (λ (x : List ℕ). codes "ERR " ++ x) (
    append_assoc (word ++ (32 ∷ (place ++ (32 ∷ [])))) message feed
    ∙ append_assoc word (32 ∷ (place ++ (32 ∷ []))) (message ++ feed)
    ∙ ap (λ (x : List ℕ). word ++ (32 ∷ x)) (append_assoc place (32 ∷ []) (message ++ feed) ∙ ap (λ (x : List ℕ). place ++ x) h))

number_then : (n : ℕ) → (decimal n ++ []) ++ feed ≡ decimal n ++ feed
number_then n = ap (λ (x : List ℕ). x ++ feed) (append-nil (decimal n))

handle_then : (h : Handle) → (decimal h.session ++ (46 ∷ (decimal h.index ++ []))) ++ feed ≡ handle_text h ++ feed
handle_then h = ap (λ (x : List ℕ). (decimal h.session ++ (46 ∷ x)) ++ feed) (append-nil (decimal h.index))

lock_then : (s i f e : List ℕ) → (s ++ (46 ∷ (i ++ (codes " from " ++ (f ++ (codes " to " ++ (e ++ []))))))) ++ feed
    ≡ (s ++ (46 ∷ i)) ++ (codes " from " ++ (f ++ (codes " to " ++ (e ++ feed))))
lock_then s i f e =
    append_assoc s (46 ∷ (i ++ (codes " from " ++ (f ++ (codes " to " ++ (e ++ [])))))) feed
    ∙ ap (λ (x : List ℕ). s ++ (46 ∷ x)) (
    append_assoc i (codes " from " ++ (f ++ (codes " to " ++ (e ++ [])))) feed
    ∙ ap (λ (x : List ℕ). i ++ (codes " from " ++ x)) (
    append_assoc f (codes " to " ++ (e ++ [])) feed ∙ ap (λ (x : List ℕ). f ++ (codes " to " ++ x)) (append_assoc e [] feed)))
    ∙ sym (append_assoc s (46 ∷ i) (codes " from " ++ (f ++ (codes " to " ++ (e ++ feed)))))

quota_then : (u m l : List ℕ) → (u ++ (codes " more " ++ (m ++ (codes " limit " ++ (l ++ []))))) ++ feed
    ≡ u ++ (codes " more " ++ (m ++ (codes " limit " ++ (l ++ feed))))
quota_then u m l =
    append_assoc u (codes " more " ++ (m ++ (codes " limit " ++ (l ++ [])))) feed
    ∙ ap (λ (x : List ℕ). u ++ (codes " more " ++ x)) (
    append_assoc m (codes " limit " ++ (l ++ [])) feed ∙ ap (λ (x : List ℕ). m ++ (codes " limit " ++ x)) (append_assoc l [] feed))

-- the message of a refusal is the words of its reason
message_text : (locking : Bool) (refusal : Refusal) → IfSome (reason_of locking refusal) (λ reason. 32 ∷ (message_of refusal ++ feed) ≡ behind_then (message_words reason) feed)
unfolding reason_of message_of message_words
message_text locking NoShare = refl
message_text locking (NoParent n) = ap (λ (x : List ℕ). 32 ∷ (codes "no parent " ++ x)) (number_then n)
message_text locking NoName = refl
message_text locking (SameName n) = ap (λ (x : List ℕ). 32 ∷ (codes "there id " ++ x)) (number_then n)
message_text locking (NoFile n) = ap (λ (x : List ℕ). 32 ∷ (codes "directory id " ++ x)) (number_then n)
message_text locking (NoDirectory n) = ap (λ (x : List ℕ). 32 ∷ (codes "file id " ++ x)) (number_then n)
message_text locking (DeletePending n) = ap (λ (x : List ℕ). 32 ∷ (codes "pending id " ++ x)) (number_then n)
message_text locking (NoWriting n) = ap (λ (x : List ℕ). 32 ∷ (codes "read-only id " ++ x)) (number_then n)
message_text locking HasLease = refl
message_text locking (NotShared handle) = ap (λ (x : List ℕ). 32 ∷ (codes "sharing handle " ++ x)) (handle_then handle)
message_text locking (HasLock held) = ap (λ (x : List ℕ). 32 ∷ (codes "lock handle " ++ x)) (lock_then (decimal held.handle.session) (decimal held.handle.index) (decimal held.from) (decimal (held.end - 1)))
message_text locking NoLock = refl
message_text locking (DiskFull used more limit) = ap (λ (x : List ℕ). 32 ∷ (codes "quota used " ++ x)) (quota_then (decimal used) (decimal more) (decimal limit))
message_text locking (ManyOpens n) = ap (λ (x : List ℕ). 32 ∷ (codes "opens " ++ x)) (number_then n)
message_text locking (BadHandle handle) = ap (λ (x : List ℕ). 32 ∷ (codes "handle " ++ x)) (handle_then handle)
message_text locking (NoAccess handle) = ap (λ (x : List ℕ). 32 ∷ (codes "access " ++ x)) (handle_then handle)
message_text locking ShareThere = tt
message_text locking (SnapshotAbsent moment) = tt
message_text locking (NotEmpty id) = tt
message_text locking (LeaseOther share) = tt
message_text locking (NoLease share) = tt
message_text locking LeaseTaken = tt
message_text locking LeaseIdWrong = tt
message_text locking LeaseNotThere = tt
message_text locking (OutOfFile length) = tt
message_text locking (SnapshotsFull n) = tt
message_text locking (SnapshotsStand n) = tt

-- the word of a refusal is that of its reason
word_is : (locking : Bool) (refusal : Refusal) → IfSome (reason_of locking refusal) (λ reason. refusal_word locking refusal ≡ reason_word reason)
unfolding reason_of refusal_word row_of reason_word
word_is true NoShare = refl
word_is true (NoParent n) = refl
word_is true NoName = refl
word_is true (SameName n) = refl
word_is true (NoFile n) = refl
word_is true (NoDirectory n) = refl
word_is true (DeletePending n) = refl
word_is true (NoWriting n) = refl
word_is true HasLease = refl
word_is true (NotShared handle) = refl
word_is true (HasLock held) = refl
word_is true NoLock = refl
word_is true (DiskFull used more limit) = refl
word_is true (ManyOpens n) = refl
word_is true (BadHandle handle) = refl
word_is true (NoAccess handle) = refl
word_is true ShareThere = tt
word_is true (SnapshotAbsent moment) = tt
word_is true (NotEmpty id) = tt
word_is true (LeaseOther share) = tt
word_is true (NoLease share) = tt
word_is true LeaseTaken = tt
word_is true LeaseIdWrong = tt
word_is true LeaseNotThere = tt
word_is true (OutOfFile length) = tt
word_is true (SnapshotsFull n) = tt
word_is true (SnapshotsStand n) = tt
word_is false NoShare = refl
word_is false (NoParent n) = refl
word_is false NoName = refl
word_is false (SameName n) = refl
word_is false (NoFile n) = refl
word_is false (NoDirectory n) = refl
word_is false (DeletePending n) = refl
word_is false (NoWriting n) = refl
word_is false HasLease = refl
word_is false (NotShared handle) = refl
word_is false (HasLock held) = refl
word_is false NoLock = refl
word_is false (DiskFull used more limit) = refl
word_is false (ManyOpens n) = refl
word_is false (BadHandle handle) = refl
word_is false (NoAccess handle) = refl
word_is false ShareThere = tt
word_is false (SnapshotAbsent moment) = tt
word_is false (NotEmpty id) = tt
word_is false (LeaseOther share) = tt
word_is false (NoLease share) = tt
word_is false LeaseTaken = tt
word_is false LeaseIdWrong = tt
word_is false LeaseNotThere = tt
word_is false (OutOfFile length) = tt
word_is false (SnapshotsFull n) = tt
word_is false (SnapshotsStand n) = tt

refused_is : (place : ℕ) (locking : Bool) (refusal : Refusal)
    → IfSome (option_map (Refused place) (reason_of locking refusal)) (λ told. refusal_line place locking refusal ≡ told_line told ++ codes "\n")
unfolding refusal_line told_line words_of
refused_is place locking refusal = by (reason_of locking refusal) (message_text locking refusal) (word_is locking refusal)
  where
    by : (o : Option Reason) → IfSome o (λ reason. 32 ∷ (message_of refusal ++ feed) ≡ behind_then (message_words reason) feed)
        → IfSome o (λ reason. refusal_word locking refusal ≡ reason_word reason)
        → IfSome (option_map (Refused place) o) (λ told. refusal_line place locking refusal ≡ told_line told ++ codes "\n")
    by None m w = tt
    by (Some reason) m w =
        front_then (refusal_word locking refusal) (decimal place) (message_of refusal) (message_words reason) m
        ∙ ap (λ (x : List ℕ). codes "ERR" ++ behind_then (x ∷ decimal place ∷ message_words reason) (codes "\n")) w
        ∙ err_line (reason_word reason ∷ decimal place ∷ message_words reason)

reply_is : (place : ℕ) (reply : Reply) (locking : Bool) → IfSome (reply_told place reply locking) (λ told. reply_line place reply locking ≡ told_line told ++ codes "\n")
unfolding reply_line reply_told
reply_is place (Smb reply) locking = smb_is place reply
reply_is place (RefusedReply refusal) locking = refused_is place locking refusal
reply_is place reply locking = tt

stop_is : (stop : StopCause) → stop_line stop ≡ told_line (Stop stop) ++ codes "\n"
unfolding told_line words_of
stop_is NoMemory = err_line (codes "NO_MEMORY" ∷ [])
stop_is (HistoryFull entries sessions limit) = err_line (codes "HISTORY_FULL" ∷ decimal entries ∷ decimal sessions ∷ decimal limit ∷ [])

pub line_is : (answer : LineAnswer) → IsLineOf answer
unfolding answer_line answer_told told_line words_of
line_is (Core place reply locking) = reply_is place reply locking
line_is (SyntaxAnswer at) = err_line (codes "SYNTAX" ∷ decimal at ∷ [])
line_is LongAnswer = err_line (codes "LINE" ∷ decimal LINE_LIMIT ∷ [])
line_is (StopAnswer stop) = stop_is stop
