-- The words of a message are read as its reason.
use Rattle.std.proofs.Common.{codes, ◌≡◌, ℕ, Bool, true, cond, List, [], ◌∷◌, ◌++◌, Some, bytes_eq}
use Rattle.std.proofs.Common.{refl, ap, ◌∙◌, arith}
use Rattle.std.specs.Fmt.{decimal}
use Rattle.std.proofs.lemmas.Slice.Eq.{bytes_eq-Decides}
use Rattle.sx_guard.specs.Handle.{Handle}
use Rattle.sx_lines.specs.Reading.{when_some}
use Rattle.sx_lines.specs.Words.{next_word}
use Rattle.sx_lines.proofs.SpelledWords.{IsWord, IsBehind, next_is, rest_is}
use Rattle.sx_lines.proofs.SpelledNumbers.{decimal_word, number_is}
use Rattle.sx_answer_reader.specs.declared.reason.Reason.{Reason}
use Rattle.sx_answer_reader.specs.declared.reason.Reason.TheVariants.{ShareAbsent, ParentAbsent, NameAbsent, NameThere, IsDirectory, IsFile, LeaseHeld, Pending as IsPending, ReadOnly as IsReadOnly, Shared, Locked, NotLocked, QuotaMet, OpensFull, NoHandle, LacksAccess}
use Rattle.sx_answer_reader.specs.declared.subject.Subject.{Subject}
use Rattle.sx_answer_reader.specs.declared.subject.Subject.TheVariants.{No, There, Directory, File, Pending, ReadOnly, Lease, Sharing, Lock, Not, Quota, Opens, Handle as HandleWord, Access}
use Rattle.sx_answer_reader.specs.Limits.{IsNumber, IsCount}
use Rattle.sx_answer_reader.specs.Refusals.{handle_text, message_words, IsHandle, FitsReason}
use Rattle.sx_answer_reader.specs.Words.{end_of, number, count, literal}
use Rattle.sx_answer_reader.specs.Messages.{handle_of, last_handle, last_number, last_word, id, parent, absent, sharing, lock, quota, message_by, subject_of, message}
use Rattle.sx_answer_reader.proofs.Walks.{behind}
use Rattle.sx_answer_reader.proofs.HandleWords.{handle_word, handle_back}

pub number_word : (n : ℕ) → IsNumber n → IsWord (decimal n)
number_word n h = decimal_word n (omega (arith, h))

pub count_word : (n : ℕ) → IsCount n → IsWord (decimal n)
count_word n h = decimal_word n (omega (arith, h))

-- a next word, and what stands behind it
pub number_back : (n : ℕ) (rest : List ℕ) → IsNumber n → IsBehind rest → number (32 ∷ (decimal n ++ rest)) ≡ Some n
unfolding number
number_back n rest h b =
    rw (next_is (decimal n) rest (number_word n h) b) (number_is 0 18446744073709551615 n (omega arith) h (omega (arith, h)))

pub count_back : (n : ℕ) (rest : List ℕ) → IsCount n → IsBehind rest → count (32 ∷ (decimal n ++ rest)) ≡ Some n
unfolding count
count_back n rest h b =
    rw (next_is (decimal n) rest (count_word n h) b) (number_is 0 4294967295 n (omega arith) h (omega (arith, h)))

pub same_word : (w : List ℕ) → bytes_eq w w ≡ true
same_word w = (bytes_eq-Decides w w).1 refl

-- a word that must stand there
literal_back : (w rest : List ℕ) → IsWord w → IsBehind rest → literal w (32 ∷ (w ++ rest)) ≡ Some tt
unfolding literal
literal_back w rest v b = rw (next_is w rest v b, same_word w) refl

word_back : (w : List ℕ) → IsWord w → last_word w (32 ∷ (w ++ [])) ≡ Some tt
unfolding last_word end_of
word_back w v = rw (literal_back w [] v tt, rest_is w [] v tt) refl

last_back : (n : ℕ) → IsNumber n → last_number (32 ∷ (decimal n ++ [])) ≡ Some n
unfolding last_number end_of
last_back n h = rw (number_back n [] h tt, rest_is (decimal n) [] (number_word n h) tt) refl

owner_back : (o : Handle) (rest : List ℕ) → IsHandle o → IsBehind rest → handle_of (next_word (32 ∷ (handle_text o ++ rest))) ≡ Some o
owner_back o rest h b = ap handle_of (next_is (handle_text o) rest (handle_word o h) b) ∙ handle_back o h

handled_back : (o : Handle) → IsHandle o → last_handle (32 ∷ (handle_text o ++ [])) ≡ Some o
unfolding last_handle end_of
handled_back o h = rw (owner_back o [] h tt, rest_is (handle_text o) [] (handle_word o h) tt) refl

id_back : (n : ℕ) → IsNumber n → id (32 ∷ (codes "id" ++ 32 ∷ (decimal n ++ []))) ≡ Some n
unfolding id
id_back n h =
    let k1 = 32 ∷ (decimal n ++ []) in
    rw (literal_back (codes "id") k1 refl refl, rest_is (codes "id") k1 refl refl, last_back n h) refl

parent_back : (n : ℕ) → IsCount n → parent (32 ∷ (codes "parent" ++ 32 ∷ (decimal n ++ []))) ≡ Some (ParentAbsent n)
unfolding parent end_of
parent_back n h =
    let k1 = 32 ∷ (decimal n ++ []) in
    rw (
      literal_back (codes "parent") k1 refl refl,
      rest_is (codes "parent") k1 refl refl,
      count_back n [] h tt,
      rest_is (decimal n) [] (count_word n h) tt,
    ) refl

absent_by : (w rest : List ℕ) → IsWord w → IsBehind rest → absent (32 ∷ (w ++ rest)) ≡ cond (bytes_eq w (codes "parent")) (parent (32 ∷ (w ++ rest)))
    (cond (bytes_eq w (codes "share")) (when_some (last_word (codes "share") (32 ∷ (w ++ rest))) (λ _. Some ShareAbsent))
    (when_some (last_word (codes "name") (32 ∷ (w ++ rest))) (λ _. Some NameAbsent)))
unfolding absent
absent_by w rest v b = rw (next_is w rest v b) refl

worded_back : (w : List ℕ) (r : Reason) → IsWord w → when_some (last_word w (32 ∷ (w ++ []))) (λ _. Some r) ≡ Some r
worded_back w r v = rw (word_back w v) refl

sharing_back : (o : Handle) → IsHandle o → sharing (32 ∷ (codes "handle" ++ 32 ∷ (handle_text o ++ []))) ≡ Some (Shared o)
unfolding sharing
sharing_back o h =
    let k1 = 32 ∷ (handle_text o ++ []) in
    rw (literal_back (codes "handle") k1 refl refl, rest_is (codes "handle") k1 refl refl, handled_back o h) refl

lock_back : (l : Bool) (o : Handle) (s e : ℕ) → IsHandle o → IsNumber s → IsNumber e
    → lock l (32 ∷ (codes "handle" ++ 32 ∷ (handle_text o ++ 32 ∷ (codes "from" ++ 32 ∷ (decimal s ++ 32 ∷ (codes "to" ++ 32 ∷ (decimal e ++ []))))))) ≡ Some (Locked o s e l)
unfolding lock
lock_back l o s e ho hs he =
    let k5 = 32 ∷ (decimal e ++ []) in
    let k4 = 32 ∷ (codes "to" ++ k5) in
    let k3 = 32 ∷ (decimal s ++ k4) in
    let k2 = 32 ∷ (codes "from" ++ k3) in
    let k1 = 32 ∷ (handle_text o ++ k2) in
    rw (
      rest_is (codes "handle") k1 refl refl,
      rest_is (handle_text o) k2 (handle_word o ho) refl,
      rest_is (codes "from") k3 refl refl,
      rest_is (decimal s) k4 (number_word s hs) refl,
      rest_is (codes "to") k5 refl refl,
      literal_back (codes "handle") k1 refl refl,
      owner_back o k2 ho refl,
      literal_back (codes "from") k3 refl refl,
      number_back s k4 hs refl,
      literal_back (codes "to") k5 refl refl,
      last_back e he,
    ) refl

quota_back : (u m l : ℕ) → IsNumber u → IsNumber m → IsNumber l
    → quota (32 ∷ (codes "used" ++ 32 ∷ (decimal u ++ 32 ∷ (codes "more" ++ 32 ∷ (decimal m ++ 32 ∷ (codes "limit" ++ 32 ∷ (decimal l ++ []))))))) ≡ Some (QuotaMet u m l)
unfolding quota
quota_back u m l hu hm hl =
    let k5 = 32 ∷ (decimal l ++ []) in
    let k4 = 32 ∷ (codes "limit" ++ k5) in
    let k3 = 32 ∷ (decimal m ++ k4) in
    let k2 = 32 ∷ (codes "more" ++ k3) in
    let k1 = 32 ∷ (decimal u ++ k2) in
    rw (
      rest_is (codes "used") k1 refl refl,
      rest_is (decimal u) k2 (number_word u hu) refl,
      rest_is (codes "more") k3 refl refl,
      rest_is (decimal m) k4 (number_word m hm) refl,
      rest_is (codes "limit") k5 refl refl,
      literal_back (codes "used") k1 refl refl,
      number_back u k2 hu refl,
      literal_back (codes "more") k3 refl refl,
      number_back m k4 hm refl,
      literal_back (codes "limit") k5 refl refl,
      last_back l hl,
    ) refl

-- whether the call was one that locks, where the reason tells it
abbrev pub IsAsked : Bool → Reason → Type 0
IsAsked l (Locked handle first last locking) = l ≡ locking
IsAsked l r = Unit {0}

by_first : (l : Bool) (w rest : List ℕ) (s : Subject) (r : Reason) → IsWord w → IsBehind rest → subject_of w ≡ Some s → message_by l s rest ≡ Some r
    → message l (32 ∷ (w ++ rest)) ≡ Some r
unfolding message
by_first l w rest s r v b e f = rw (next_is w rest v b, rest_is w rest v b, e, f) refl

numbered_back : (make : ℕ → Reason) (n : ℕ) → IsNumber n → when_some (id (32 ∷ (codes "id" ++ 32 ∷ (decimal n ++ [])))) (λ m. Some (make m)) ≡ Some (make n)
numbered_back make n h = rw (id_back n h) refl

made_back : (make : Handle → Reason) (o : Handle) → IsHandle o → when_some (last_handle (32 ∷ (handle_text o ++ []))) (λ x. Some (make x)) ≡ Some (make o)
made_back make o h = rw (handled_back o h) refl

opens_back : (n : ℕ) → IsNumber n → when_some (last_number (32 ∷ (decimal n ++ []))) (λ m. Some (OpensFull m)) ≡ Some (OpensFull n)
opens_back n h = rw (last_back n h) refl

pub message_back : (l : Bool) (r : Reason) → IsAsked l r → FitsReason r → message l (behind (message_words r)) ≡ Some r
unfolding message_words subject_of message_by
message_back l ShareAbsent a h =
    by_first l (codes "no") (32 ∷ (codes "share" ++ [])) No ShareAbsent refl refl refl
    (absent_by (codes "share") [] refl tt ∙ worded_back (codes "share") ShareAbsent refl)
message_back l (ParentAbsent n) a h =
    by_first l (codes "no") (32 ∷ (codes "parent" ++ 32 ∷ (decimal n ++ []))) No (ParentAbsent n) refl refl refl
    (absent_by (codes "parent") (32 ∷ (decimal n ++ [])) refl refl ∙ parent_back n h)
message_back l NameAbsent a h =
    by_first l (codes "no") (32 ∷ (codes "name" ++ [])) No NameAbsent refl refl refl
    (absent_by (codes "name") [] refl tt ∙ worded_back (codes "name") NameAbsent refl)
message_back l (NameThere n) a h = by_first l (codes "there") (32 ∷ (codes "id" ++ 32 ∷ (decimal n ++ []))) There (NameThere n) refl refl refl (numbered_back NameThere n h)
message_back l (IsDirectory n) a h = by_first l (codes "directory") (32 ∷ (codes "id" ++ 32 ∷ (decimal n ++ []))) Directory (IsDirectory n) refl refl refl (numbered_back IsDirectory n h)
message_back l (IsFile n) a h = by_first l (codes "file") (32 ∷ (codes "id" ++ 32 ∷ (decimal n ++ []))) File (IsFile n) refl refl refl (numbered_back IsFile n h)
message_back l (IsPending n) a h = by_first l (codes "pending") (32 ∷ (codes "id" ++ 32 ∷ (decimal n ++ []))) Pending (IsPending n) refl refl refl (numbered_back IsPending n h)
message_back l (IsReadOnly n) a h = by_first l (codes "read-only") (32 ∷ (codes "id" ++ 32 ∷ (decimal n ++ []))) ReadOnly (IsReadOnly n) refl refl refl (numbered_back IsReadOnly n h)
message_back l LeaseHeld a h = by_first l (codes "lease") (32 ∷ (codes "held" ++ [])) Lease LeaseHeld refl refl refl (worded_back (codes "held") LeaseHeld refl)
message_back l (Shared o) a h = by_first l (codes "sharing") (32 ∷ (codes "handle" ++ 32 ∷ (handle_text o ++ []))) Sharing (Shared o) refl refl refl (sharing_back o h)
message_back l (Locked o s e locking) a h =
    by_first l (codes "lock") (32 ∷ (codes "handle" ++ 32 ∷ (handle_text o ++ 32 ∷ (codes "from" ++ 32 ∷ (decimal s ++ 32 ∷ (codes "to" ++ 32 ∷ (decimal e ++ []))))))) Lock (Locked o s e locking) refl refl refl
    (lock_back l o s e h.0 h.1 h.2 ∙ ap (λ (b : Bool). Some (Locked o s e b)) a)
message_back l NotLocked a h = by_first l (codes "not") (32 ∷ (codes "locked" ++ [])) Not NotLocked refl refl refl (worded_back (codes "locked") NotLocked refl)
message_back l (QuotaMet u m n) a h =
    by_first l (codes "quota") (32 ∷ (codes "used" ++ 32 ∷ (decimal u ++ 32 ∷ (codes "more" ++ 32 ∷ (decimal m ++ 32 ∷ (codes "limit" ++ 32 ∷ (decimal n ++ []))))))) Quota (QuotaMet u m n) refl refl refl
    (quota_back u m n h.0 h.1 h.2)
message_back l (OpensFull n) a h = by_first l (codes "opens") (32 ∷ (decimal n ++ [])) Opens (OpensFull n) refl refl refl (opens_back n h)
message_back l (NoHandle o) a h = by_first l (codes "handle") (32 ∷ (handle_text o ++ [])) HandleWord (NoHandle o) refl refl refl (made_back NoHandle o h)
message_back l (LacksAccess o) a h = by_first l (codes "access") (32 ∷ (handle_text o ++ [])) Access (LacksAccess o) refl refl refl (made_back LacksAccess o h)
