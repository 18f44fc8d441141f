-- A message that is read has the words of its reason.
use Rattle.std.proofs.Common.{codes, ◌≡◌, ℕ, ◌<◌, Bool, true, false, cond, List, [], ◌∷◌, length, Option, Some, None, bytes_eq}
use Rattle.std.proofs.Common.{refl, ap, subst, ◌∙◌, arith}
use Rattle.std.specs.Fmt.{decimal}
use Rattle.sx_guard.specs.Handle.{Handle}
use Rattle.sx_lines.specs.Reading.{when_some}
use Rattle.sx_lines.specs.Words.{next_word, behind_next}
use Rattle.sx_lines.proofs.SpelledWords.{IsBehind}
use Rattle.sx_answer_reader.specs.declared.reason.Reason.{Reason}
use Rattle.sx_answer_reader.specs.declared.reason.Reason.TheVariants.{ShareAbsent, ParentAbsent, NameAbsent, NameThere, IsDirectory, IsFile, LeaseHeld, Pending as IsPending, ReadOnly as IsReadOnly, Shared, Locked, NotLocked, QuotaMet, OpensFull, NoHandle, LacksAccess}
use Rattle.sx_answer_reader.specs.declared.subject.Subject.{Subject}
use Rattle.sx_answer_reader.specs.declared.subject.Subject.TheVariants.{No, There, Directory, File, Pending, ReadOnly, Lease, Sharing, Lock, Not, Quota, Opens, Handle as HandleWord, Access}
use Rattle.sx_answer_reader.specs.Limits.{IsNumber}
use Rattle.sx_answer_reader.specs.Refusals.{handle_text, message_words, IsHandle, FitsReason}
use Rattle.sx_answer_reader.specs.Words.{end_of, number, count, literal}
use Rattle.sx_answer_reader.specs.Messages.{handle_of, last_handle, last_number, last_word, id, parent, absent, sharing, lock, quota, message_by, subject_of, message}
use Rattle.sx_answer_reader.proofs.Walks.{behind, next_shaped, stands, nothing, chosen}
use Rattle.sx_answer_reader.proofs.WrittenFields.{some_is, same_text, number_is, count_is, found_is}
use Rattle.sx_answer_reader.proofs.HandleWords.{handle_is, handle_some}

literal_is : (w k : List ℕ) (u : Unit {0}) → literal w k ≡ Some u → next_word k ≡ w
unfolding literal
literal_is w k u e =
    elim (bytes_eq (next_word k) w) as (λ (b : Bool). bytes_eq (next_word k) w ≡ b → ◌≡◌ {A = Option (Unit {0})} (cond b (Some tt) None) (Some u) → next_word k ≡ w) [
      | true ↦ λ t q. same_text (next_word k) w t
      | false ↦ λ t q. cc
    ] refl e

word_last : (w k : List ℕ) (u : Unit {0}) → 0 < length w → IsBehind k → last_word w k ≡ Some u → behind (w ∷ []) ≡ k
unfolding last_word
word_last w k u l h e =
    let a = chosen (literal w k) (λ _. end_of (behind_next k)) u e in
    stands k w [] h (literal_is w k a.0 a.1) l (nothing (behind_next k) u a.2)

number_last : (k : List ℕ) (n : ℕ) → IsBehind k → last_number k ≡ Some n → (behind (decimal n ∷ []) ≡ k) × IsNumber n
unfolding last_number
number_last k n h e =
    let a = chosen (number k) (λ m. when_some (end_of (behind_next k)) (λ _. Some m)) n e in
    let b = chosen (end_of (behind_next k)) (λ _. Some a.0) n a.2 in
    let i = number_is k a.0 a.1 in
    subst (λ (x : ℕ). (behind (decimal x ∷ []) ≡ k) × IsNumber x) (some_is a.0 n b.2)
    (stands k (decimal a.0) [] h i.0 i.1 (nothing (behind_next k) b.0 b.1), i.3)

handle_last : (k : List ℕ) (o : Handle) → IsBehind k → last_handle k ≡ Some o → (behind (handle_text o ∷ []) ≡ k) × IsHandle o
unfolding last_handle
handle_last k o h e =
    let a = chosen (handle_of (next_word k)) (λ x. when_some (end_of (behind_next k)) (λ _. Some x)) o e in
    let b = chosen (end_of (behind_next k)) (λ _. Some a.0) o a.2 in
    let i = handle_is (next_word k) a.0 a.1 in
    subst (λ (x : Handle). (behind (handle_text x ∷ []) ≡ k) × IsHandle x) (some_is a.0 o b.2)
    (stands k (handle_text a.0) [] h i.0 (handle_some a.0) (nothing (behind_next k) b.0 b.1), i.1)

id_is : (k : List ℕ) (n : ℕ) → IsBehind k → id k ≡ Some n → (behind (codes "id" ∷ decimal n ∷ []) ≡ k) × IsNumber n
unfolding id
id_is k n h e =
    let a = chosen (literal (codes "id") k) (λ _. last_number (behind_next k)) n e in
    let i = number_last (behind_next k) n (next_shaped k) a.2 in
    (stands k (codes "id") (decimal n ∷ []) h (literal_is (codes "id") k a.0 a.1) (omega arith) i.0, i.1)

-- the message of a reason has a first word, and the words behind it stand here
abbrev pub Says : Reason → List ℕ → List ℕ → Type 0
Says r first k = (ws : List (List ℕ)) × (message_words r ≡ first ∷ ws) × (behind ws ≡ k) × FitsReason r

numbered_is : (make : ℕ → Reason) (first k : List ℕ) (r : Reason) → ((n : ℕ) → message_words (make n) ≡ first ∷ codes "id" ∷ decimal n ∷ [])
    → ((n : ℕ) → IsNumber n → FitsReason (make n)) → IsBehind k → when_some (id k) (λ n. Some (make n)) ≡ Some r → Says r first k
numbered_is make first k r w f h e =
    let a = chosen (id k) (λ n. Some (make n)) r e in
    let i = id_is k a.0 h a.1 in
    subst (λ (x : Reason). Says x first k) (some_is (make a.0) r a.2) (codes "id" ∷ decimal a.0 ∷ [], w a.0, i.0, f a.0 i.1)

-- one more word, and no number
worded_is : (first second k : List ℕ) (one r : Reason) → message_words one ≡ first ∷ second ∷ [] → FitsReason one → 0 < length second → IsBehind k
    → when_some (last_word second k) (λ _. Some one) ≡ Some r → Says r first k
worded_is first second k one r w f l h e =
    let a = chosen (last_word second k) (λ _. Some one) r e in
    subst (λ (x : Reason). Says x first k) (some_is one r a.2) (second ∷ [], w, word_last second k a.0 l h a.1, f)

handled_is : (make : Handle → Reason) (first k : List ℕ) (r : Reason) → ((o : Handle) → message_words (make o) ≡ first ∷ handle_text o ∷ [])
    → ((o : Handle) → IsHandle o → FitsReason (make o)) → IsBehind k → when_some (last_handle k) (λ o. Some (make o)) ≡ Some r → Says r first k
handled_is make first k r w f h e =
    let a = chosen (last_handle k) (λ o. Some (make o)) r e in
    let i = handle_last k a.0 h a.1 in
    subst (λ (x : Reason). Says x first k) (some_is (make a.0) r a.2) (handle_text a.0 ∷ [], w a.0, i.0, f a.0 i.1)

parent_is : (k : List ℕ) (r : Reason) → IsBehind k → parent k ≡ Some r → Says r (codes "no") k
unfolding parent message_words
parent_is k r h e =
    let parts = behind_next k in
    let a = chosen (literal (codes "parent") k) (λ _. when_some (count parts) (λ n. when_some (end_of (behind_next parts)) (λ _. Some (ParentAbsent n)))) r e in
    let b = chosen (count parts) (λ n. when_some (end_of (behind_next parts)) (λ _. Some (ParentAbsent n))) r a.2 in
    let c = chosen (end_of (behind_next parts)) (λ _. Some (ParentAbsent b.0)) r b.2 in
    let n = count_is parts b.0 b.1 in
    let s1 = stands parts (decimal b.0) [] (next_shaped k) n.0 n.1 (nothing (behind_next parts) c.0 c.1) in
    subst (λ (x : Reason). Says x (codes "no") k) (some_is (ParentAbsent b.0) r c.2)
    (codes "parent" ∷ decimal b.0 ∷ [], refl, stands k (codes "parent") (decimal b.0 ∷ []) h (literal_is (codes "parent") k a.0 a.1) (omega arith) s1, n.3)

absent_is : (k : List ℕ) (r : Reason) → IsBehind k → absent k ≡ Some r → Says r (codes "no") k
unfolding absent message_words
absent_is k r h e = by (bytes_eq (next_word k) (codes "parent")) (bytes_eq (next_word k) (codes "share")) e
  where
    by : (p s : Bool) → cond p (parent k) (cond s (when_some (last_word (codes "share") k) (λ _. Some ShareAbsent)) (when_some (last_word (codes "name") k) (λ _. Some NameAbsent))) ≡ Some r
        → Says r (codes "no") k
    by true s e = parent_is k r h e
    by false true e = worded_is (codes "no") (codes "share") k ShareAbsent r refl tt (omega arith) h e
    by false false e = worded_is (codes "no") (codes "name") k NameAbsent r refl tt (omega arith) h e

sharing_is : (k : List ℕ) (r : Reason) → IsBehind k → sharing k ≡ Some r → Says r (codes "sharing") k
unfolding sharing message_words
sharing_is k r h e =
    let a = chosen (literal (codes "handle") k) (λ _. when_some (last_handle (behind_next k)) (λ o. Some (Shared o))) r e in
    let b = chosen (last_handle (behind_next k)) (λ o. Some (Shared o)) r a.2 in
    let i = handle_last (behind_next k) b.0 (next_shaped k) b.1 in
    subst (λ (x : Reason). Says x (codes "sharing") k) (some_is (Shared b.0) r b.2)
    (codes "handle" ∷ handle_text b.0 ∷ [], refl, stands k (codes "handle") (handle_text b.0 ∷ []) h (literal_is (codes "handle") k a.0 a.1) (omega arith) i.0, i.1)

lock_is : (l : Bool) (k : List ℕ) (r : Reason) → IsBehind k → lock l k ≡ Some r → Says r (codes "lock") k
unfolding lock message_words
lock_is l k r h e =
    let k1 = behind_next k in
    let k2 = behind_next k1 in
    let k3 = behind_next k2 in
    let k4 = behind_next k3 in
    let k5 = behind_next k4 in
    let a = chosen (literal (codes "handle") k) (λ _. when_some (handle_of (next_word k1)) (λ o. when_some (literal (codes "from") k2) (λ _. when_some (number k3) (λ s. when_some (literal (codes "to") k4) (λ _. when_some (last_number k5) (λ n. Some (Locked o s n l))))))) r e in
    let b = chosen (handle_of (next_word k1)) (λ o. when_some (literal (codes "from") k2) (λ _. when_some (number k3) (λ s. when_some (literal (codes "to") k4) (λ _. when_some (last_number k5) (λ n. Some (Locked o s n l)))))) r a.2 in
    let c = chosen (literal (codes "from") k2) (λ _. when_some (number k3) (λ s. when_some (literal (codes "to") k4) (λ _. when_some (last_number k5) (λ n. Some (Locked b.0 s n l))))) r b.2 in
    let d = chosen (number k3) (λ s. when_some (literal (codes "to") k4) (λ _. when_some (last_number k5) (λ n. Some (Locked b.0 s n l)))) r c.2 in
    let f = chosen (literal (codes "to") k4) (λ _. when_some (last_number k5) (λ n. Some (Locked b.0 d.0 n l))) r d.2 in
    let g = chosen (last_number k5) (λ n. Some (Locked b.0 d.0 n l)) r f.2 in
    let o = handle_is (next_word k1) b.0 b.1 in
    let s = number_is k3 d.0 d.1 in
    let n = number_last k5 g.0 (next_shaped k4) g.1 in
    let s4 = stands k4 (codes "to") (decimal g.0 ∷ []) (next_shaped k3) (literal_is (codes "to") k4 f.0 f.1) (omega arith) n.0 in
    let s3 = stands k3 (decimal d.0) (codes "to" ∷ decimal g.0 ∷ []) (next_shaped k2) s.0 s.1 s4 in
    let s2 = stands k2 (codes "from") (decimal d.0 ∷ codes "to" ∷ decimal g.0 ∷ []) (next_shaped k1) (literal_is (codes "from") k2 c.0 c.1) (omega arith) s3 in
    let s1 = stands k1 (handle_text b.0) (codes "from" ∷ decimal d.0 ∷ codes "to" ∷ decimal g.0 ∷ []) (next_shaped k) o.0 (handle_some b.0) s2 in
    let s0 = stands k (codes "handle") (handle_text b.0 ∷ codes "from" ∷ decimal d.0 ∷ codes "to" ∷ decimal g.0 ∷ []) h (literal_is (codes "handle") k a.0 a.1) (omega arith) s1 in
    subst (λ (x : Reason). Says x (codes "lock") k) (some_is (Locked b.0 d.0 g.0 l) r g.2)
    (codes "handle" ∷ handle_text b.0 ∷ codes "from" ∷ decimal d.0 ∷ codes "to" ∷ decimal g.0 ∷ [], refl, s0, (o.1, s.3, n.1))

quota_is : (k : List ℕ) (r : Reason) → IsBehind k → quota k ≡ Some r → Says r (codes "quota") k
unfolding quota message_words
quota_is k r h e =
    let k1 = behind_next k in
    let k2 = behind_next k1 in
    let k3 = behind_next k2 in
    let k4 = behind_next k3 in
    let k5 = behind_next k4 in
    let a = chosen (literal (codes "used") k) (λ _. when_some (number k1) (λ u. when_some (literal (codes "more") k2) (λ _. when_some (number k3) (λ m. when_some (literal (codes "limit") k4) (λ _. when_some (last_number k5) (λ n. Some (QuotaMet u m n))))))) r e in
    let b = chosen (number k1) (λ u. when_some (literal (codes "more") k2) (λ _. when_some (number k3) (λ m. when_some (literal (codes "limit") k4) (λ _. when_some (last_number k5) (λ n. Some (QuotaMet u m n)))))) r a.2 in
    let c = chosen (literal (codes "more") k2) (λ _. when_some (number k3) (λ m. when_some (literal (codes "limit") k4) (λ _. when_some (last_number k5) (λ n. Some (QuotaMet b.0 m n))))) r b.2 in
    let d = chosen (number k3) (λ m. when_some (literal (codes "limit") k4) (λ _. when_some (last_number k5) (λ n. Some (QuotaMet b.0 m n)))) r c.2 in
    let f = chosen (literal (codes "limit") k4) (λ _. when_some (last_number k5) (λ n. Some (QuotaMet b.0 d.0 n))) r d.2 in
    let g = chosen (last_number k5) (λ n. Some (QuotaMet b.0 d.0 n)) r f.2 in
    let u = number_is k1 b.0 b.1 in
    let m = number_is k3 d.0 d.1 in
    let n = number_last k5 g.0 (next_shaped k4) g.1 in
    let s4 = stands k4 (codes "limit") (decimal g.0 ∷ []) (next_shaped k3) (literal_is (codes "limit") k4 f.0 f.1) (omega arith) n.0 in
    let s3 = stands k3 (decimal d.0) (codes "limit" ∷ decimal g.0 ∷ []) (next_shaped k2) m.0 m.1 s4 in
    let s2 = stands k2 (codes "more") (decimal d.0 ∷ codes "limit" ∷ decimal g.0 ∷ []) (next_shaped k1) (literal_is (codes "more") k2 c.0 c.1) (omega arith) s3 in
    let s1 = stands k1 (decimal b.0) (codes "more" ∷ decimal d.0 ∷ codes "limit" ∷ decimal g.0 ∷ []) (next_shaped k) u.0 u.1 s2 in
    let s0 = stands k (codes "used") (decimal b.0 ∷ codes "more" ∷ decimal d.0 ∷ codes "limit" ∷ decimal g.0 ∷ []) h (literal_is (codes "used") k a.0 a.1) (omega arith) s1 in
    subst (λ (x : Reason). Says x (codes "quota") k) (some_is (QuotaMet b.0 d.0 g.0) r g.2)
    (codes "used" ∷ decimal b.0 ∷ codes "more" ∷ decimal d.0 ∷ codes "limit" ∷ decimal g.0 ∷ [], refl, s0, (u.3, m.3, n.1))

opens_is : (k : List ℕ) (r : Reason) → IsBehind k → when_some (last_number k) (λ n. Some (OpensFull n)) ≡ Some r → Says r (codes "opens") k
unfolding message_words
opens_is k r h e =
    let a = chosen (last_number k) (λ n. Some (OpensFull n)) r e in
    let i = number_last k a.0 h a.1 in
    subst (λ (x : Reason). Says x (codes "opens") k) (some_is (OpensFull a.0) r a.2) (decimal a.0 ∷ [], refl, i.0, i.1)

-- the first word of each message
abbrev pub subject_word : Subject → List ℕ
subject_word No = codes "no"
subject_word There = codes "there"
subject_word Directory = codes "directory"
subject_word File = codes "file"
subject_word Pending = codes "pending"
subject_word ReadOnly = codes "read-only"
subject_word Lease = codes "lease"
subject_word Sharing = codes "sharing"
subject_word Lock = codes "lock"
subject_word Not = codes "not"
subject_word Quota = codes "quota"
subject_word Opens = codes "opens"
subject_word HandleWord = codes "handle"
subject_word Access = codes "access"

subject_is : (w : List ℕ) (s : Subject) → subject_of w ≡ Some s → w ≡ subject_word s
unfolding subject_of
subject_is w s e =
    found_is subject_word (
    (codes "no", No) ∷ (codes "there", There) ∷ (codes "directory", Directory) ∷ (codes "file", File)
    ∷ (codes "pending", Pending) ∷ (codes "read-only", ReadOnly) ∷ (codes "lease", Lease)
    ∷ (codes "sharing", Sharing) ∷ (codes "lock", Lock) ∷ (codes "not", Not) ∷ (codes "quota", Quota)
    ∷ (codes "opens", Opens) ∷ (codes "handle", HandleWord) ∷ (codes "access", Access) ∷ [])
    w s (refl, (refl, (refl, (refl, (refl, (refl, (refl, (refl, (refl, (refl, (refl, (refl, (refl, (refl, tt)))))))))))))) e

subject_some : (s : Subject) → 0 < length (subject_word s)
subject_some No = omega arith
subject_some There = omega arith
subject_some Directory = omega arith
subject_some File = omega arith
subject_some Pending = omega arith
subject_some ReadOnly = omega arith
subject_some Lease = omega arith
subject_some Sharing = omega arith
subject_some Lock = omega arith
subject_some Not = omega arith
subject_some Quota = omega arith
subject_some Opens = omega arith
subject_some HandleWord = omega arith
subject_some Access = omega arith

by_subject : (l : Bool) (s : Subject) (k : List ℕ) (r : Reason) → IsBehind k → message_by l s k ≡ Some r → Says r (subject_word s) k
unfolding message_by message_words
by_subject l No k r h e = absent_is k r h e
by_subject l There k r h e = numbered_is NameThere (codes "there") k r (λ n. refl) (λ n f. f) h e
by_subject l Directory k r h e = numbered_is IsDirectory (codes "directory") k r (λ n. refl) (λ n f. f) h e
by_subject l File k r h e = numbered_is IsFile (codes "file") k r (λ n. refl) (λ n f. f) h e
by_subject l Pending k r h e = numbered_is IsPending (codes "pending") k r (λ n. refl) (λ n f. f) h e
by_subject l ReadOnly k r h e = numbered_is IsReadOnly (codes "read-only") k r (λ n. refl) (λ n f. f) h e
by_subject l Lease k r h e = worded_is (codes "lease") (codes "held") k LeaseHeld r refl tt (omega arith) h e
by_subject l Sharing k r h e = sharing_is k r h e
by_subject l Lock k r h e = lock_is l k r h e
by_subject l Not k r h e = worded_is (codes "not") (codes "locked") k NotLocked r refl tt (omega arith) h e
by_subject l Quota k r h e = quota_is k r h e
by_subject l Opens k r h e = opens_is k r h e
by_subject l HandleWord k r h e = handled_is NoHandle (codes "handle") k r (λ o. refl) (λ o f. f) h e
by_subject l Access k r h e = handled_is LacksAccess (codes "access") k r (λ o. refl) (λ o f. f) h e

pub message_is : (l : Bool) (k : List ℕ) (r : Reason) → IsBehind k → message l k ≡ Some r → (behind (message_words r) ≡ k) × FitsReason r
unfolding message
message_is l k r h e =
    let a = chosen (subject_of (next_word k)) (λ s. message_by l s (behind_next k)) r e in
    let s = by_subject l a.0 (behind_next k) r (next_shaped k) a.2 in
    (ap behind s.1 ∙ stands k (subject_word a.0) s.0 h (subject_is (next_word k) a.0 a.1) (subject_some a.0) s.2, s.3)
