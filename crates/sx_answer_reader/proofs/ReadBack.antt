-- The line of an answer is read as this answer.
use Rattle.std.proofs.Common.{codes, ◌≡◌, ℕ, Bool, true, false, cond, ◌==◌, List, [], ◌∷◌, ◌++◌, length, map, Some, None, bytes_eq}
use Rattle.std.proofs.Common.{refl, sym, ap, ◌∙◌, arith}
use Rattle.std.specs.List.{join_with_byte}
use Rattle.std.specs.Fmt.{decimal}
use Rattle.sx_call.specs.declared.refusals.Stop.{Stop}
use Rattle.sx_call.specs.declared.refusals.Stop.TheVariants.{NoMemory, HistoryFull}
use Rattle.sx_call.specs.declared.replies.Fate.{Fate}
use Rattle.sx_call.specs.declared.replies.Fate.TheVariants.{Kept, Pending, Gone}
use Rattle.sx_lines.specs.declared.line.TheConstants.{LINE_LIMIT}
use Rattle.sx_lines.specs.Words.{next_word}
use Rattle.sx_lines.proofs.SpelledWords.{IsWord, IsBehind, first_is, behind_is, next_is, rest_is}
use Rattle.sx_lines.proofs.SpelledNumbers.{number_is}
use Rattle.sx_answer_reader.specs.declared.kind.Kind.{Kind}
use Rattle.sx_answer_reader.specs.declared.kind.Kind.TheVariants.{Start, End, Open, Close, Read, Write, Resize, Lock, Unlock, Stat, List as Lists, Dispose}
use Rattle.sx_answer_reader.specs.declared.answer.Told.{Told}
use Rattle.sx_answer_reader.specs.declared.answer.Told.TheVariants.{Started, Ended, Opened, Closed, Read as BytesRead, Wrote, Resized, Locked, Unlocked, Stats, Listed, Disposed}
use Rattle.sx_answer_reader.specs.declared.answer.Answer.{Answer}
use Rattle.sx_answer_reader.specs.declared.answer.Answer.TheVariants.{Done, Refused, Syntax, Long, Stop as Stopped}
use Rattle.sx_answer_reader.specs.Answers.{told_words, words_of, told_line, made_word, fate_word, dir_word, hex_text, entry_word, FitsEntry, FitsTold, FitsStop, Fits}
use Rattle.sx_answer_reader.specs.Words.{index, choice, fate, end_of}
use Rattle.sx_answer_reader.specs.Grammar.{started, ended, opened, closed, bytes_read, read, wrote, resized, stats, listed, bare, told_by, kind_of, told, done, syntax, long, full, stopped, refused, failed, answer_of}
use Rattle.sx_answer_reader.specs.declared.reason.Reason.{Reason}
use Rattle.sx_answer_reader.specs.declared.reason.Reason.TheVariants.{ShareAbsent, ParentAbsent, NameAbsent, NameThere, IsDirectory, IsFile, LeaseHeld, Pending, ReadOnly, Shared, Locked as LockInTheWay, NotLocked, QuotaMet, OpensFull, NoHandle, LacksAccess}
use Rattle.sx_answer_reader.specs.Limits.{IsNumber, IsCount, IsIndex}
use Rattle.sx_answer_reader.specs.Refusals.{reason_word, message_words, FitsReason}
use Rattle.sx_answer_reader.specs.Messages.{message}
use Rattle.sx_answer_reader.proofs.MessageBack.{number_word, count_word, number_back, count_back, same_word, IsAsked, message_back}
use Rattle.hex.specs.Hex.{IsBytes}
use Rattle.std.proofs.lemmas.Bool.{eq-eqb}
use Rattle.sx_names.specs.declared.attributes.Attributes.{Attributes}
use Rattle.sx_lines.specs.Printed.{attributes_text}
use Rattle.sx_answer_reader.specs.Attributes.{attributes_of}
use Rattle.sx_answer_reader.proofs.HexWords.{hex_visible, bytes_back}
use Rattle.std.specs.List.{All}
use Rattle.std.specs.Str.{is_utf8}
use Rattle.sx_lines.specs.Answers.{next_text}
use Rattle.sx_lines.proofs.SpelledPaths.{marker_word}
use Rattle.sx_answer_reader.specs.declared.answer.Entry.{Entry}
use Rattle.sx_answer_reader.proofs.EntryWords.{next_back}
use Rattle.sx_answer_reader.proofs.EntryLists.{entries_back}
use Rattle.sx_answer_reader.proofs.AttributeWords.{attributes_visible, attributes_back}
use Rattle.sx_answer_reader.proofs.Walks.{behind, joined, behind_shaped}

-- ---- fields

index_back : (n : ℕ) (rest : List ℕ) → IsIndex n → IsBehind rest → index (32 ∷ (decimal n ++ rest)) ≡ Some n
unfolding index
index_back n rest h b =
    rw (next_is (decimal n) rest (count_word n h.1) b) (number_is 1 4294967295 n h.0 h.1 (omega (arith, h.1)))

made_visible : (made : Bool) → IsWord (made_word made)
made_visible true = refl
made_visible false = refl

made_chosen : (made : Bool) (k : List ℕ) → next_word k ≡ made_word made → choice (codes "created") (codes "opened") k ≡ Some made
unfolding choice
made_chosen true k e = rw e refl
made_chosen false k e = rw e refl

made_back : (made : Bool) (rest : List ℕ) → IsBehind rest → choice (codes "created") (codes "opened") (32 ∷ (made_word made ++ rest)) ≡ Some made
made_back made rest b = made_chosen made (32 ∷ (made_word made ++ rest)) (next_is (made_word made) rest (made_visible made) b)

dir_visible : (dir : Bool) → IsWord (dir_word dir)
dir_visible true = refl
dir_visible false = refl

dir_chosen : (dir : Bool) (k : List ℕ) → next_word k ≡ dir_word dir → choice (codes "dir") (codes "file") k ≡ Some dir
unfolding choice
dir_chosen true k e = rw e refl
dir_chosen false k e = rw e refl

dir_back : (dir : Bool) (rest : List ℕ) → IsBehind rest → choice (codes "dir") (codes "file") (32 ∷ (dir_word dir ++ rest)) ≡ Some dir
dir_back dir rest b = dir_chosen dir (32 ∷ (dir_word dir ++ rest)) (next_is (dir_word dir) rest (dir_visible dir) b)

named_back : (a : Attributes) (rest : List ℕ) → IsBehind rest → attributes_of (next_word (32 ∷ (attributes_text a ++ rest))) ≡ Some a
named_back a rest b = ap attributes_of (next_is (attributes_text a) rest (attributes_visible a) b) ∙ attributes_back a

fate_visible : (f : Fate) → IsWord (fate_word f)
fate_visible Kept = refl
fate_visible Pending = refl
fate_visible Gone = refl

fate_chosen : (f : Fate) (k : List ℕ) → next_word k ≡ fate_word f → fate k ≡ Some f
unfolding fate
fate_chosen Kept k e = rw e refl
fate_chosen Pending k e = rw e refl
fate_chosen Gone k e = rw e refl

fate_back : (f : Fate) (rest : List ℕ) → IsBehind rest → fate (32 ∷ (fate_word f ++ rest)) ≡ Some f
fate_back f rest b = fate_chosen f (32 ∷ (fate_word f ++ rest)) (next_is (fate_word f) rest (fate_visible f) b)

-- ---- what is told

started_back : (n : ℕ) → IsCount n → started (32 ∷ (decimal n ++ [])) ≡ Some (Started n)
unfolding started end_of
started_back n h = rw (count_back n [] h tt, rest_is (decimal n) [] (count_word n h) tt) refl

ended_back : (n : ℕ) → IsCount n → ended (32 ∷ (decimal n ++ [])) ≡ Some (Ended n)
unfolding ended end_of
ended_back n h = rw (count_back n [] h tt, rest_is (decimal n) [] (count_word n h) tt) refl

opened_back : (i : ℕ) (made : Bool) (id l : ℕ) → IsIndex i → IsNumber id → IsNumber l
    → opened (32 ∷ (decimal i ++ 32 ∷ (made_word made ++ 32 ∷ (decimal id ++ 32 ∷ (decimal l ++ []))))) ≡ Some (Opened i made id l)
unfolding opened end_of
opened_back i made id l hi hn hl =
    let k3 = 32 ∷ (decimal l ++ []) in
    let k2 = 32 ∷ (decimal id ++ k3) in
    let k1 = 32 ∷ (made_word made ++ k2) in
    rw (
      rest_is (decimal i) k1 (count_word i hi.1) refl,
      rest_is (made_word made) k2 (made_visible made) refl,
      rest_is (decimal id) k3 (number_word id hn) refl,
      rest_is (decimal l) [] (number_word l hl) tt,
      index_back i k1 hi refl,
      made_back made k2 refl,
      number_back id k3 hn refl,
      number_back l [] hl tt,
    ) refl

closed_back : (f : Fate) → closed (32 ∷ (fate_word f ++ [])) ≡ Some (Closed f)
unfolding closed end_of
closed_back f = rw (fate_back f [] tt, rest_is (fate_word f) [] (fate_visible f) tt) refl

same_number : (n : ℕ) → (n == n) ≡ true
same_number n = eq-eqb n n refl

read_back : (bytes : List ℕ) → IsBytes bytes → IsNumber (length bytes) → read (32 ∷ (decimal (length bytes) ++ 32 ∷ (hex_text bytes ++ []))) ≡ Some (BytesRead bytes)
unfolding read bytes_read end_of
read_back bytes h n =
    let k1 = 32 ∷ (hex_text bytes ++ []) in
    rw (
      rest_is (decimal (length bytes)) k1 (number_word (length bytes) n) refl,
      rest_is (hex_text bytes) [] (hex_visible bytes h) tt,
      number_back (length bytes) k1 n refl,
      next_is (hex_text bytes) [] (hex_visible bytes h) tt,
      bytes_back bytes h,
      same_number (length bytes),
    ) refl

wrote_back : (n l : ℕ) → IsCount n → IsNumber l → wrote (32 ∷ (decimal n ++ 32 ∷ (decimal l ++ []))) ≡ Some (Wrote n l)
unfolding wrote end_of
wrote_back n l hn hl =
    let k1 = 32 ∷ (decimal l ++ []) in
    rw (
      rest_is (decimal n) k1 (count_word n hn) refl,
      rest_is (decimal l) [] (number_word l hl) tt,
      count_back n k1 hn refl,
      number_back l [] hl tt,
    ) refl

resized_back : (l : ℕ) → IsNumber l → resized (32 ∷ (decimal l ++ [])) ≡ Some (Resized l)
unfolding resized end_of
resized_back l h = rw (number_back l [] h tt, rest_is (decimal l) [] (number_word l h) tt) refl

-- what is left of the line behind the length, and from the length on
abbrev times : ℕ → ℕ → ℕ → List ℕ
times c w g = 32 ∷ (decimal c ++ 32 ∷ (decimal w ++ 32 ∷ (decimal g ++ [])))

abbrev behind_dir : ℕ → Attributes → ℕ → ℕ → ℕ → List ℕ
behind_dir l a c w g = 32 ∷ (decimal l ++ 32 ∷ (attributes_text a ++ times c w g))

stats_back : (id : ℕ) (dir : Bool) (l : ℕ) (a : Attributes) (c w g : ℕ) → IsNumber id → IsNumber l → IsNumber c → IsNumber w → IsNumber g
    → stats (32 ∷ (decimal id ++ 32 ∷ (dir_word dir ++ behind_dir l a c w g))) ≡ Some (Stats id dir l a c w g)
unfolding stats end_of
stats_back id dir l a c w g hi hl hc hw hg =
    let k6 = 32 ∷ (decimal g ++ []) in
    let k5 = 32 ∷ (decimal w ++ k6) in
    let k4 = 32 ∷ (decimal c ++ k5) in
    let k3 = 32 ∷ (attributes_text a ++ k4) in
    let k2 = 32 ∷ (decimal l ++ k3) in
    let k1 = 32 ∷ (dir_word dir ++ k2) in
    rw (
      rest_is (decimal id) k1 (number_word id hi) refl,
      rest_is (dir_word dir) k2 (dir_visible dir) refl,
      rest_is (decimal l) k3 (number_word l hl) refl,
      rest_is (attributes_text a) k4 (attributes_visible a) refl,
      rest_is (decimal c) k5 (number_word c hc) refl,
      rest_is (decimal w) k6 (number_word w hw) refl,
      rest_is (decimal g) [] (number_word g hg) tt,
      number_back id k1 hi refl,
      dir_back dir k2 refl,
      number_back l k3 hl refl,
      named_back a k4 refl,
      number_back c k5 hc refl,
      number_back w k6 hw refl,
      number_back g [] hg tt,
    ) refl

listed_back : (es : List Entry) (next : List ℕ) → All FitsEntry es → IsNumber (length es) → is_utf8 next ≡ true
    → listed (32 ∷ (decimal (length es) ++ 32 ∷ (next_text next ++ behind (map entry_word es)))) ≡ Some (Listed es next)
unfolding listed
listed_back es next h n u =
    let k2 = behind (map entry_word es) in
    let k1 = 32 ∷ (next_text next ++ k2) in
    let shaped = behind_shaped (map entry_word es) in
    rw (
      rest_is (decimal (length es)) k1 (number_word (length es) n) refl,
      rest_is (next_text next) k2 (marker_word next u) shaped,
      number_back (length es) k1 n refl,
      next_is (next_text next) k2 (marker_word next u) shaped,
      entries_back es h,
      next_back next u,
    ) refl

bare_back : (t : Told) → bare t [] ≡ Some t
unfolding bare end_of
bare_back t = refl

by_word : (verb rest : List ℕ) (kind : Kind) (t : Told) → IsWord verb → IsBehind rest → kind_of verb ≡ Some kind → told_by kind rest ≡ Some t
    → told (32 ∷ (verb ++ rest)) ≡ Some t
unfolding told
by_word verb rest kind t w b e f = rw (next_is verb rest w b, rest_is verb rest w b, e, f) refl

pub told_back : (t : Told) → FitsTold t → told (behind (told_words t)) ≡ Some t
unfolding told_words kind_of told_by
told_back (Started n) h = by_word (codes "start") (32 ∷ (decimal n ++ [])) Start (Started n) refl refl refl (started_back n h)
told_back (Ended n) h = by_word (codes "end") (32 ∷ (decimal n ++ [])) End (Ended n) refl refl refl (ended_back n h)
told_back (Opened i made id l) h =
    by_word (codes "open") (32 ∷ (decimal i ++ 32 ∷ (made_word made ++ 32 ∷ (decimal id ++ 32 ∷ (decimal l ++ []))))) Open (Opened i made id l) refl refl refl
    (opened_back i made id l h.0 h.1 h.2)
told_back (Closed f) h = by_word (codes "close") (32 ∷ (fate_word f ++ [])) Close (Closed f) refl refl refl (closed_back f)
told_back (BytesRead bytes) h =
    by_word (codes "read") (32 ∷ (decimal (length bytes) ++ 32 ∷ (hex_text bytes ++ []))) Read (BytesRead bytes) refl refl refl (read_back bytes h.0 h.1)
told_back (Wrote n l) h = by_word (codes "write") (32 ∷ (decimal n ++ 32 ∷ (decimal l ++ []))) Write (Wrote n l) refl refl refl (wrote_back n l h.0 h.1)
told_back (Resized l) h = by_word (codes "resize") (32 ∷ (decimal l ++ [])) Resize (Resized l) refl refl refl (resized_back l h)
told_back Locked h = by_word (codes "lock") [] Lock Locked refl tt refl (bare_back Locked)
told_back Unlocked h = by_word (codes "unlock") [] Unlock Unlocked refl tt refl (bare_back Unlocked)
told_back (Stats id dir l a c w g) h =
    by_word (codes "stat") (32 ∷ (decimal id ++ 32 ∷ (dir_word dir ++ behind_dir l a c w g))) Stat (Stats id dir l a c w g) refl refl refl
    (stats_back id dir l a c w g h.0 h.1 h.2 h.3 h.4)
told_back (Listed es next) h =
    by_word (codes "list") (32 ∷ (decimal (length es) ++ 32 ∷ (next_text next ++ behind (map entry_word es)))) Lists (Listed es next) refl refl refl
    (listed_back es next h.0 h.1 h.2)
told_back Disposed h = by_word (codes "dispose") [] Dispose Disposed refl tt refl (bare_back Disposed)

-- ---- answers

done_back : (p : ℕ) (t : Told) → IsNumber p → FitsTold t → done (32 ∷ (decimal p ++ behind (told_words t))) ≡ Some (Done p t)
unfolding done
done_back p t hp ht =
    let b = behind_shaped (told_words t) in
    rw (
      number_back p (behind (told_words t)) hp b,
      rest_is (decimal p) (behind (told_words t)) (number_word p hp) b,
      told_back t ht,
    ) refl

syntax_back : (n : ℕ) → IsNumber n → syntax (32 ∷ (decimal n ++ [])) ≡ Some (Syntax n)
unfolding syntax end_of
syntax_back n h = rw (number_back n [] h tt, rest_is (decimal n) [] (number_word n h) tt) refl

limit_small : IsNumber LINE_LIMIT
limit_small = omega arith

long_back : long (32 ∷ (decimal LINE_LIMIT ++ [])) ≡ Some Long
unfolding long end_of
long_back = rw (number_back LINE_LIMIT [] limit_small tt, rest_is (decimal LINE_LIMIT) [] (number_word LINE_LIMIT limit_small) tt) refl

full_back : (x y z : ℕ) → IsNumber x → IsNumber y → IsNumber z
    → full (32 ∷ (decimal x ++ 32 ∷ (decimal y ++ 32 ∷ (decimal z ++ [])))) ≡ Some (Stopped (HistoryFull x y z))
unfolding full end_of
full_back x y z hx hy hz =
    let k2 = 32 ∷ (decimal z ++ []) in
    let k1 = 32 ∷ (decimal y ++ k2) in
    rw (
      rest_is (decimal x) k1 (number_word x hx) refl,
      rest_is (decimal y) k2 (number_word y hy) refl,
      rest_is (decimal z) [] (number_word z hz) tt,
      number_back x k1 hx refl,
      number_back y k2 hy refl,
      number_back z [] hz tt,
    ) refl

stopped_back : stopped [] ≡ Some (Stopped NoMemory)
unfolding stopped end_of
stopped_back = refl

-- the word of a refusal is none of the other words behind `ERR`
abbrev IsOther : List ℕ → Type 0
IsOther w = (IsWord w) × (bytes_eq w (codes "SYNTAX") ≡ false) × (bytes_eq w (codes "LINE") ≡ false) × (bytes_eq w (codes "HISTORY_FULL") ≡ false)
    × (bytes_eq w (codes "NO_MEMORY") ≡ false)

reason_other : (r : Reason) → IsOther (reason_word r)
unfolding reason_word
reason_other ShareAbsent = (refl, refl, refl, refl, refl)
reason_other (ParentAbsent parts) = (refl, refl, refl, refl, refl)
reason_other NameAbsent = (refl, refl, refl, refl, refl)
reason_other (NameThere id) = (refl, refl, refl, refl, refl)
reason_other (IsDirectory id) = (refl, refl, refl, refl, refl)
reason_other (IsFile id) = (refl, refl, refl, refl, refl)
reason_other (Pending id) = (refl, refl, refl, refl, refl)
reason_other (ReadOnly id) = (refl, refl, refl, refl, refl)
reason_other LeaseHeld = (refl, refl, refl, refl, refl)
reason_other (Shared handle) = (refl, refl, refl, refl, refl)
reason_other (LockInTheWay handle first last true) = (refl, refl, refl, refl, refl)
reason_other (LockInTheWay handle first last false) = (refl, refl, refl, refl, refl)
reason_other NotLocked = (refl, refl, refl, refl, refl)
reason_other (QuotaMet used more limit) = (refl, refl, refl, refl, refl)
reason_other (OpensFull n) = (refl, refl, refl, refl, refl)
reason_other (NoHandle handle) = (refl, refl, refl, refl, refl)
reason_other (LacksAccess handle) = (refl, refl, refl, refl, refl)

reason_asked : (r : Reason) → IsAsked (bytes_eq (reason_word r) (codes "LOCK_NOT_GRANTED")) r
unfolding reason_word
reason_asked ShareAbsent = tt
reason_asked (ParentAbsent parts) = tt
reason_asked NameAbsent = tt
reason_asked (NameThere id) = tt
reason_asked (IsDirectory id) = tt
reason_asked (IsFile id) = tt
reason_asked (Pending id) = tt
reason_asked (ReadOnly id) = tt
reason_asked LeaseHeld = tt
reason_asked (Shared handle) = tt
reason_asked (LockInTheWay handle first last true) = refl
reason_asked (LockInTheWay handle first last false) = refl
reason_asked NotLocked = tt
reason_asked (QuotaMet used more limit) = tt
reason_asked (OpensFull n) = tt
reason_asked (NoHandle handle) = tt
reason_asked (LacksAccess handle) = tt

refused_by : (w : List ℕ) (p : ℕ) (r : Reason) → IsWord w → w ≡ reason_word r → IsNumber p → message (bytes_eq w (codes "LOCK_NOT_GRANTED")) (behind (message_words r)) ≡ Some r
    → refused (32 ∷ (w ++ 32 ∷ (decimal p ++ behind (message_words r)))) ≡ Some (Refused p r)
unfolding refused
refused_by w p r v is hp m =
    let b = behind_shaped (message_words r) in
    let k1 = 32 ∷ (decimal p ++ behind (message_words r)) in
    let same : bytes_eq w (reason_word r) ≡ true = ap (λ (x : List ℕ). bytes_eq w x) (sym is) ∙ same_word w in
    rw (
      rest_is w k1 v refl,
      next_is w k1 v refl,
      rest_is (decimal p) (behind (message_words r)) (number_word p hp) b,
      number_back p (behind (message_words r)) hp b,
      m,
      same,
    ) refl

refused_back : (p : ℕ) (r : Reason) → IsNumber p → FitsReason r
    → refused (32 ∷ (reason_word r ++ 32 ∷ (decimal p ++ behind (message_words r)))) ≡ Some (Refused p r)
refused_back p r hp hr =
    refused_by (reason_word r) p r (reason_other r).0 refl hp
    (message_back (bytes_eq (reason_word r) (codes "LOCK_NOT_GRANTED")) r (reason_asked r) hr)

failed_by : (word rest : List ℕ) → IsWord word → IsBehind rest → failed (32 ∷ (word ++ rest))
    ≡ cond (bytes_eq word (codes "SYNTAX")) (syntax rest) (cond (bytes_eq word (codes "LINE")) (long rest)
    (cond (bytes_eq word (codes "HISTORY_FULL")) (full rest) (cond (bytes_eq word (codes "NO_MEMORY")) (stopped rest) (refused (32 ∷ (word ++ rest))))))
unfolding failed
failed_by word rest w b = rw (next_is word rest w b, rest_is word rest w b) refl

answer_by : (word rest : List ℕ) → IsWord word → IsBehind rest → answer_of (word ++ rest)
    ≡ cond (bytes_eq word (codes "OK")) (done rest) (cond (bytes_eq word (codes "ERR")) (failed rest) None)
unfolding answer_of
answer_by word rest w b = rw (first_is word rest w b, behind_is word rest w b) refl

-- a line that begins with `ERR`
failing : (word : List ℕ) (ws : List (List ℕ)) (a : Answer) → failed (behind (word ∷ ws)) ≡ Some a → words_of a ≡ codes "ERR" ∷ word ∷ ws → answer_of (told_line a) ≡ Some a
unfolding told_line
failing word ws a e is = ap answer_of (ap (λ (x : List (List ℕ)). join_with_byte 32 x) is ∙ joined (codes "ERR") (word ∷ ws)) ∙ answer_by (codes "ERR") (behind (word ∷ ws)) refl refl ∙ e

stop_back : (s : Stop) → FitsStop s → answer_of (told_line (Stopped s)) ≡ Some (Stopped s)
unfolding words_of
stop_back NoMemory h = failing (codes "NO_MEMORY") [] (Stopped NoMemory) (failed_by (codes "NO_MEMORY") [] refl tt ∙ stopped_back) refl
stop_back (HistoryFull x y z) h =
    failing (codes "HISTORY_FULL") (decimal x ∷ decimal y ∷ decimal z ∷ []) (Stopped (HistoryFull x y z))
    (failed_by (codes "HISTORY_FULL") (32 ∷ (decimal x ++ 32 ∷ (decimal y ++ 32 ∷ (decimal z ++ [])))) refl refl ∙ full_back x y z h.0 h.1 h.2) refl

failed_so : (word rest : List ℕ) → IsOther word → IsBehind rest → failed (32 ∷ (word ++ rest)) ≡ refused (32 ∷ (word ++ rest))
failed_so word rest o b = failed_by word rest o.0 b ∙ rw (o.1, o.2, o.3, o.4) refl

refusal_back : (p : ℕ) (r : Reason) → IsNumber p → FitsReason r → answer_of (told_line (Refused p r)) ≡ Some (Refused p r)
unfolding words_of
refusal_back p r hp hr =
    failing (reason_word r) (decimal p ∷ message_words r) (Refused p r)
    (failed_so (reason_word r) (32 ∷ (decimal p ++ behind (message_words r))) (reason_other r) refl ∙ refused_back p r hp hr) refl

pub answer_back : (a : Answer) → Fits a → answer_of (told_line a) ≡ Some a
unfolding told_line words_of
answer_back (Done p t) h =
    ap answer_of (joined (codes "OK") (decimal p ∷ told_words t))
    ∙ answer_by (codes "OK") (32 ∷ (decimal p ++ behind (told_words t))) refl refl ∙ done_back p t h.0 h.1
answer_back (Refused p r) h = refusal_back p r h.0 h.1
answer_back (Syntax n) h =
    failing (codes "SYNTAX") (decimal n ∷ []) (Syntax n) (failed_by (codes "SYNTAX") (32 ∷ (decimal n ++ [])) refl refl ∙ syntax_back n h) refl
answer_back Long h =
    failing (codes "LINE") (decimal LINE_LIMIT ∷ []) Long (failed_by (codes "LINE") (32 ∷ (decimal LINE_LIMIT ++ [])) refl refl ∙ long_back) refl
answer_back (Stopped s) h = stop_back s h
