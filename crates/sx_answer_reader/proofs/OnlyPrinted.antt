-- A line that is read is the line of the answer that it is read as.
use Rattle.std.proofs.Common.{codes, ◌≡◌, ℕ, ◌<◌, Bool, true, false, cond, ◌==◌, List, [], ◌∷◌, ◌++◌, length, map, Option, Some, None, bytes_eq}
use Rattle.std.proofs.Common.{refl, sym, ap, subst, ◌∙◌, arith}
use Rattle.std.specs.List.{join_with_byte}
use Rattle.std.specs.Fmt.{decimal}
use Rattle.std.proofs.lemmas.Bool.{eqb-true}
use Rattle.sx_call.specs.declared.refusals.Stop.TheVariants.{NoMemory, HistoryFull}
use Rattle.sx_lines.specs.declared.line.TheConstants.{LINE_LIMIT}
use Rattle.sx_lines.specs.Reading.{when_some}
use Rattle.sx_lines.specs.Words.{first_word, behind_first, next_word, behind_next}
use Rattle.sx_lines.proofs.SpelledWords.{IsBehind}
use Rattle.sx_answer_reader.specs.declared.kind.Kind.{Kind}
use Rattle.sx_answer_reader.specs.declared.kind.Kind.TheVariants.{Start, End, Open, Close, Read, Write, Resize, Lock, Unlock, Stat, List as Lists, Dispose}
use Rattle.sx_answer_reader.specs.declared.answer.Told.{Told}
use Rattle.sx_answer_reader.specs.declared.answer.Told.TheVariants.{Started, Ended, Opened, Closed, Read as BytesRead, Wrote, Resized, Locked, Unlocked, Stats, Listed, Disposed}
use Rattle.sx_answer_reader.specs.declared.answer.Answer.{Answer}
use Rattle.sx_answer_reader.specs.declared.answer.Answer.TheVariants.{Done, Refused, Syntax, Long, Stop as Stopped}
use Rattle.sx_answer_reader.specs.Answers.{told_words, words_of, told_line, made_word, fate_word, dir_word, hex_text, entry_word, FitsTold, Fits}
use Rattle.sx_answer_reader.specs.Words.{number, count, index, choice, fate, bytes_of, end_of}
use Rattle.sx_answer_reader.specs.Grammar.{started, ended, opened, closed, bytes_read, read, wrote, resized, stats, listed, bare, told_by, kind_of, told, done, syntax, long, full, stopped, refused, failed, answer_of}
use Rattle.sx_answer_reader.specs.declared.reason.Reason.{Reason}
use Rattle.sx_answer_reader.specs.declared.reason.Reason.TheVariants.{ShareAbsent, ParentAbsent, NameAbsent, NameThere, IsDirectory, IsFile, LeaseHeld, Pending, ReadOnly, Shared, Locked as LockInTheWay, NotLocked, QuotaMet, OpensFull, NoHandle, LacksAccess}
use Rattle.sx_answer_reader.specs.Refusals.{reason_word, message_words}
use Rattle.sx_answer_reader.specs.Messages.{message}
use Rattle.sx_answer_reader.proofs.MessageWords.{message_is}
use Rattle.sx_answer_reader.proofs.Walks.{behind, joined, first_shaped, next_shaped, whole, stands, nothing, chosen}
use Rattle.sx_answer_reader.proofs.WrittenFields.{some_is, same_text, number_is, count_is, index_is, made_is, made_some, fate_is, fate_some, dir_is, dir_some, kind_word, kind_is, kind_some, kept_if}
use Rattle.sx_names.specs.declared.attributes.Attributes.{Attributes}
use Rattle.sx_lines.specs.Printed.{attributes_text}
use Rattle.sx_answer_reader.specs.Attributes.{attributes_of}
use Rattle.sx_answer_reader.proofs.HexWords.{bytes_is}
use Rattle.sx_lines.specs.Answers.{next_text}
use Rattle.sx_answer_reader.specs.Entries.{entries_of, next_of}
use Rattle.sx_answer_reader.proofs.AttributeWords.{attributes_is}
use Rattle.sx_answer_reader.proofs.EntryWords.{next_is_text, next_some}
use Rattle.sx_answer_reader.proofs.EntryLists.{entries_are}

-- what is told has a first word, and the words behind it stand here
abbrev pub Spells : Told → List ℕ → List ℕ → Type 0
Spells t verb k = (ws : List (List ℕ)) × (told_words t ≡ verb ∷ ws) × (behind ws ≡ k) × FitsTold t

-- the last word of a line
last : (k w : List ℕ) (u : Unit {0}) → IsBehind k → next_word k ≡ w → 0 < length w → end_of (behind_next k) ≡ Some u → behind (w ∷ []) ≡ k
last k w u h e l d = stands k w [] h e l (nothing (behind_next k) u d)

started_is : (k : List ℕ) (t : Told) → IsBehind k → started k ≡ Some t → Spells t (codes "start") k
unfolding started told_words
started_is k t h e =
    let a = chosen (count k) (λ n. when_some (end_of (behind_next k)) (λ _. Some (Started n))) t e in
    let b = chosen (end_of (behind_next k)) (λ _. Some (Started a.0)) t a.2 in
    let n = count_is k a.0 a.1 in
    subst (λ (x : Told). Spells x (codes "start") k) (some_is (Started a.0) t b.2)
    (decimal a.0 ∷ [], refl, last k (decimal a.0) b.0 h n.0 n.1 b.1, n.3)

ended_is : (k : List ℕ) (t : Told) → IsBehind k → ended k ≡ Some t → Spells t (codes "end") k
unfolding ended told_words
ended_is k t h e =
    let a = chosen (count k) (λ n. when_some (end_of (behind_next k)) (λ _. Some (Ended n))) t e in
    let b = chosen (end_of (behind_next k)) (λ _. Some (Ended a.0)) t a.2 in
    let n = count_is k a.0 a.1 in
    subst (λ (x : Told). Spells x (codes "end") k) (some_is (Ended a.0) t b.2)
    (decimal a.0 ∷ [], refl, last k (decimal a.0) b.0 h n.0 n.1 b.1, n.3)

opened_is : (k : List ℕ) (t : Told) → IsBehind k → opened k ≡ Some t → Spells t (codes "open") k
unfolding opened told_words
opened_is k t h e =
    let word = behind_next k in
    let id = behind_next word in
    let bytes = behind_next id in
    let a = chosen (index k) (λ i. when_some (choice (codes "created") (codes "opened") word) (λ m. when_some (number id) (λ n. when_some (number bytes) (λ l. when_some (end_of (behind_next bytes)) (λ _. Some (Opened i m n l)))))) t e in
    let b = chosen (choice (codes "created") (codes "opened") word) (λ m. when_some (number id) (λ n. when_some (number bytes) (λ l. when_some (end_of (behind_next bytes)) (λ _. Some (Opened a.0 m n l))))) t a.2 in
    let c = chosen (number id) (λ n. when_some (number bytes) (λ l. when_some (end_of (behind_next bytes)) (λ _. Some (Opened a.0 b.0 n l)))) t b.2 in
    let d = chosen (number bytes) (λ l. when_some (end_of (behind_next bytes)) (λ _. Some (Opened a.0 b.0 c.0 l))) t c.2 in
    let f = chosen (end_of (behind_next bytes)) (λ _. Some (Opened a.0 b.0 c.0 d.0)) t d.2 in
    let i = index_is k a.0 a.1 in
    let n = number_is id c.0 c.1 in
    let l = number_is bytes d.0 d.1 in
    let made = made_word b.0 in
    let s3 = last bytes (decimal d.0) f.0 (next_shaped id) l.0 l.1 f.1 in
    let s2 = stands id (decimal c.0) (decimal d.0 ∷ []) (next_shaped word) n.0 n.1 s3 in
    let s1 = stands word made (decimal c.0 ∷ decimal d.0 ∷ []) (next_shaped k) (made_is word b.0 b.1) (made_some b.0) s2 in
    let s0 = stands k (decimal a.0) (made ∷ decimal c.0 ∷ decimal d.0 ∷ []) h i.0 i.1 s1 in
    subst (λ (x : Told). Spells x (codes "open") k) (some_is (Opened a.0 b.0 c.0 d.0) t f.2)
    (decimal a.0 ∷ made ∷ decimal c.0 ∷ decimal d.0 ∷ [], refl, s0, ((i.2, i.3), n.3, l.3))

closed_is : (k : List ℕ) (t : Told) → IsBehind k → closed k ≡ Some t → Spells t (codes "close") k
unfolding closed told_words
closed_is k t h e =
    let a = chosen (fate k) (λ f. when_some (end_of (behind_next k)) (λ _. Some (Closed f))) t e in
    let b = chosen (end_of (behind_next k)) (λ _. Some (Closed a.0)) t a.2 in
    subst (λ (x : Told). Spells x (codes "close") k) (some_is (Closed a.0) t b.2)
    (fate_word a.0 ∷ [], refl, last k (fate_word a.0) b.0 h (fate_is k a.0 a.1) (fate_some a.0) b.1, tt)

read_is : (k : List ℕ) (t : Told) → IsBehind k → read k ≡ Some t → Spells t (codes "read") k
unfolding read bytes_read told_words
read_is k t h e =
    let hex = behind_next k in
    let a = chosen (number k) (λ n. when_some (end_of (behind_next hex)) (λ _. when_some (bytes_of (next_word hex)) (λ x. cond (length x == n) (Some (BytesRead x)) None))) t e in
    let u = chosen (end_of (behind_next hex)) (λ _. when_some (bytes_of (next_word hex)) (λ x. cond (length x == a.0) (Some (BytesRead x)) None)) t a.2 in
    let b = chosen (bytes_of (next_word hex)) (λ x. cond (length x == a.0) (Some (BytesRead x)) None) t u.2 in
    let p = kept_if (length b.0 == a.0) (BytesRead b.0) t b.2 in
    let same = eqb-true (length b.0) a.0 p.0 in
    let n = number_is k a.0 a.1 in
    let w = bytes_is (next_word hex) b.0 b.1 in
    let s1 = last hex (hex_text b.0) u.0 (next_shaped k) w.0 w.1 u.1 in
    let s0 = stands k (decimal a.0) (hex_text b.0 ∷ []) h n.0 n.1 s1 in
    subst (λ (x : Told). Spells x (codes "read") k) p.1
    (decimal (length b.0) ∷ hex_text b.0 ∷ [], refl, ap (λ (m : ℕ). behind (decimal m ∷ hex_text b.0 ∷ [])) same ∙ s0, (w.2, omega (arith, same, n.3)))

wrote_is : (k : List ℕ) (t : Told) → IsBehind k → wrote k ≡ Some t → Spells t (codes "write") k
unfolding wrote told_words
wrote_is k t h e =
    let bytes = behind_next k in
    let a = chosen (count k) (λ n. when_some (number bytes) (λ l. when_some (end_of (behind_next bytes)) (λ _. Some (Wrote n l)))) t e in
    let b = chosen (number bytes) (λ l. when_some (end_of (behind_next bytes)) (λ _. Some (Wrote a.0 l))) t a.2 in
    let c = chosen (end_of (behind_next bytes)) (λ _. Some (Wrote a.0 b.0)) t b.2 in
    let n = count_is k a.0 a.1 in
    let l = number_is bytes b.0 b.1 in
    let s = stands k (decimal a.0) (decimal b.0 ∷ []) h n.0 n.1 (last bytes (decimal b.0) c.0 (next_shaped k) l.0 l.1 c.1) in
    subst (λ (x : Told). Spells x (codes "write") k) (some_is (Wrote a.0 b.0) t c.2)
    (decimal a.0 ∷ decimal b.0 ∷ [], refl, s, (n.3, l.3))

resized_is : (k : List ℕ) (t : Told) → IsBehind k → resized k ≡ Some t → Spells t (codes "resize") k
unfolding resized told_words
resized_is k t h e =
    let a = chosen (number k) (λ l. when_some (end_of (behind_next k)) (λ _. Some (Resized l))) t e in
    let b = chosen (end_of (behind_next k)) (λ _. Some (Resized a.0)) t a.2 in
    let l = number_is k a.0 a.1 in
    subst (λ (x : Told). Spells x (codes "resize") k) (some_is (Resized a.0) t b.2)
    (decimal a.0 ∷ [], refl, last k (decimal a.0) b.0 h l.0 l.1 b.1, l.3)

stats_is : (k : List ℕ) (t : Told) → IsBehind k → stats k ≡ Some t → Spells t (codes "stat") k
unfolding stats told_words
stats_is k t h e =
    let k1 = behind_next k in
    let k2 = behind_next k1 in
    let k3 = behind_next k2 in
    let k4 = behind_next k3 in
    let k5 = behind_next k4 in
    let k6 = behind_next k5 in
    let end : (ℕ → Bool → ℕ → Attributes → ℕ → ℕ → ℕ → Option Told) = λ id dir l a c w g. when_some (end_of (behind_next k6)) (λ _. Some (Stats id dir l a c w g)) in
    let f = chosen (number k) (λ id. when_some (choice (codes "dir") (codes "file") k1) (λ dir. when_some (number k2) (λ l. when_some (attributes_of (next_word k3)) (λ a. when_some (number k4) (λ c. when_some (number k5) (λ w. when_some (number k6) (λ g. end id dir l a c w g))))))) t e in
    let d = chosen (choice (codes "dir") (codes "file") k1) (λ dir. when_some (number k2) (λ l. when_some (attributes_of (next_word k3)) (λ a. when_some (number k4) (λ c. when_some (number k5) (λ w. when_some (number k6) (λ g. end f.0 dir l a c w g)))))) t f.2 in
    let l = chosen (number k2) (λ l. when_some (attributes_of (next_word k3)) (λ a. when_some (number k4) (λ c. when_some (number k5) (λ w. when_some (number k6) (λ g. end f.0 d.0 l a c w g))))) t d.2 in
    let a = chosen (attributes_of (next_word k3)) (λ a. when_some (number k4) (λ c. when_some (number k5) (λ w. when_some (number k6) (λ g. end f.0 d.0 l.0 a c w g)))) t l.2 in
    let c = chosen (number k4) (λ c. when_some (number k5) (λ w. when_some (number k6) (λ g. end f.0 d.0 l.0 a.0 c w g))) t a.2 in
    let w = chosen (number k5) (λ w. when_some (number k6) (λ g. end f.0 d.0 l.0 a.0 c.0 w g)) t c.2 in
    let g = chosen (number k6) (λ g. end f.0 d.0 l.0 a.0 c.0 w.0 g) t w.2 in
    let u = chosen (end_of (behind_next k6)) (λ _. Some (Stats f.0 d.0 l.0 a.0 c.0 w.0 g.0)) t g.2 in
    let ni = number_is k f.0 f.1 in
    let nl = number_is k2 l.0 l.1 in
    let na = attributes_is (next_word k3) a.0 a.1 in
    let nc = number_is k4 c.0 c.1 in
    let nw = number_is k5 w.0 w.1 in
    let ng = number_is k6 g.0 g.1 in
    let w6 = decimal g.0 ∷ [] in
    let w5 = decimal w.0 ∷ w6 in
    let w4 = decimal c.0 ∷ w5 in
    let w3 = attributes_text a.0 ∷ w4 in
    let w2 = decimal l.0 ∷ w3 in
    let w1 = dir_word d.0 ∷ w2 in
    let s6 = last k6 (decimal g.0) u.0 (next_shaped k5) ng.0 ng.1 u.1 in
    let s5 = stands k5 (decimal w.0) w6 (next_shaped k4) nw.0 nw.1 s6 in
    let s4 = stands k4 (decimal c.0) w5 (next_shaped k3) nc.0 nc.1 s5 in
    let s3 = stands k3 (attributes_text a.0) w4 (next_shaped k2) na.0 na.1 s4 in
    let s2 = stands k2 (decimal l.0) w3 (next_shaped k1) nl.0 nl.1 s3 in
    let s1 = stands k1 (dir_word d.0) w2 (next_shaped k) (dir_is k1 d.0 d.1) (dir_some d.0) s2 in
    let s0 = stands k (decimal f.0) w1 h ni.0 ni.1 s1 in
    subst (λ (x : Told). Spells x (codes "stat") k) (some_is (Stats f.0 d.0 l.0 a.0 c.0 w.0 g.0) t u.2)
    (decimal f.0 ∷ w1, refl, s0, (ni.3, nl.3, nc.3, nw.3, ng.3))

listed_is : (k : List ℕ) (t : Told) → IsBehind k → listed k ≡ Some t → Spells t (codes "list") k
unfolding listed told_words
listed_is k t h e =
    let k1 = behind_next k in
    let k2 = behind_next k1 in
    let a = chosen (number k) (λ n. when_some (entries_of n k2) (λ es. when_some (next_of (next_word k1)) (λ x. Some (Listed es x)))) t e in
    let b = chosen (entries_of a.0 k2) (λ es. when_some (next_of (next_word k1)) (λ x. Some (Listed es x))) t a.2 in
    let c = chosen (next_of (next_word k1)) (λ x. Some (Listed b.0 x)) t b.2 in
    let n = number_is k a.0 a.1 in
    let es = entries_are a.0 k2 b.0 (next_shaped k1) b.1 in
    let x = next_is_text (next_word k1) c.0 c.1 in
    let count = es.1 in
    let ws = map entry_word b.0 in
    let s1 = stands k1 (next_text c.0) ws (next_shaped k) x.0 (next_some c.0 x.1) es.0 in
    let s0 = stands k (decimal a.0) (next_text c.0 ∷ ws) h n.0 n.1 s1 in
    subst (λ (v : Told). Spells v (codes "list") k) (some_is (Listed b.0 c.0) t c.2) (
      decimal (length b.0) ∷ next_text c.0 ∷ ws,
      refl,
      ap (λ (m : ℕ). behind (decimal m ∷ next_text c.0 ∷ ws)) count ∙ s0,
      (es.2, omega (arith, count, n.3), x.1),
    )

bare_is : (k verb : List ℕ) (one t : Told) → told_words one ≡ verb ∷ [] → FitsTold one → bare one k ≡ Some t → Spells t verb k
unfolding bare
bare_is k verb one t w f e =
    let a = chosen (end_of k) (λ _. Some one) t e in
    subst (λ (x : Told). Spells x verb k) (some_is one t a.2) ([], w, nothing k a.0 a.1, f)

by_kind : (kind : Kind) (k : List ℕ) (t : Told) → IsBehind k → told_by kind k ≡ Some t → Spells t (kind_word kind) k
unfolding told_by told_words
by_kind Start k t h e = started_is k t h e
by_kind End k t h e = ended_is k t h e
by_kind Open k t h e = opened_is k t h e
by_kind Close k t h e = closed_is k t h e
by_kind Read k t h e = read_is k t h e
by_kind Write k t h e = wrote_is k t h e
by_kind Resize k t h e = resized_is k t h e
by_kind Lock k t h e = bare_is k (codes "lock") Locked t refl tt e
by_kind Unlock k t h e = bare_is k (codes "unlock") Unlocked t refl tt e
by_kind Stat k t h e = stats_is k t h e
by_kind Lists k t h e = listed_is k t h e
by_kind Dispose k t h e = bare_is k (codes "dispose") Disposed t refl tt e

pub told_is : (k : List ℕ) (t : Told) → IsBehind k → told k ≡ Some t → (behind (told_words t) ≡ k) × FitsTold t
unfolding told
told_is k t h e =
    let a = chosen (kind_of (next_word k)) (λ kind. told_by kind (behind_next k)) t e in
    let s = by_kind a.0 (behind_next k) t (next_shaped k) a.2 in
    (ap behind s.1 ∙ stands k (kind_word a.0) s.0 h (kind_is (next_word k) a.0 a.1) (kind_some a.0) s.2, s.3)

-- an answer has a first word, and the words behind it stand here
abbrev Answers : Answer → List ℕ → List ℕ → Type 0
Answers a word k = (ws : List (List ℕ)) × (words_of a ≡ word ∷ ws) × (behind ws ≡ k) × Fits a

done_is : (k : List ℕ) (a : Answer) → IsBehind k → done k ≡ Some a → Answers a (codes "OK") k
unfolding done words_of
done_is k a h e =
    let p = chosen (number k) (λ n. when_some (told (behind_next k)) (λ t. Some (Done n t))) a e in
    let q = chosen (told (behind_next k)) (λ t. Some (Done p.0 t)) a p.2 in
    let n = number_is k p.0 p.1 in
    let t = told_is (behind_next k) q.0 (next_shaped k) q.1 in
    subst (λ (x : Answer). Answers x (codes "OK") k) (some_is (Done p.0 q.0) a q.2)
    (decimal p.0 ∷ told_words q.0, refl, stands k (decimal p.0) (told_words q.0) h n.0 n.1 t.0, (n.3, t.1))

-- an answer that begins with `ERR` and this word, with the words behind it
abbrev Fails : Answer → List ℕ → List ℕ → Type 0
Fails a word k = (ws : List (List ℕ)) × (words_of a ≡ codes "ERR" ∷ word ∷ ws) × (behind ws ≡ k) × Fits a

syntax_is : (k : List ℕ) (a : Answer) → IsBehind k → syntax k ≡ Some a → Fails a (codes "SYNTAX") k
unfolding syntax words_of
syntax_is k a h e =
    let p = chosen (number k) (λ n. when_some (end_of (behind_next k)) (λ _. Some (Syntax n))) a e in
    let q = chosen (end_of (behind_next k)) (λ _. Some (Syntax p.0)) a p.2 in
    let n = number_is k p.0 p.1 in
    subst (λ (x : Answer). Fails x (codes "SYNTAX") k) (some_is (Syntax p.0) a q.2)
    (decimal p.0 ∷ [], refl, last k (decimal p.0) q.0 h n.0 n.1 q.1, n.3)

limit_is : (n : ℕ) (a : Answer) → cond (n == LINE_LIMIT) (Some Long) None ≡ Some a → (n ≡ LINE_LIMIT) × (Long ≡ a)
limit_is n a e =
    elim (n == LINE_LIMIT) as (λ (b : Bool). (n == LINE_LIMIT) ≡ b → cond b (Some Long) None ≡ Some a → (n ≡ LINE_LIMIT) × (Long ≡ a)) [
      | true ↦ λ t q. (eqb-true n LINE_LIMIT t, some_is Long a q)
      | false ↦ λ t q. cc
    ] refl e

long_is : (k : List ℕ) (a : Answer) → IsBehind k → long k ≡ Some a → Fails a (codes "LINE") k
unfolding long words_of
long_is k a h e =
    let p = chosen (number k) (λ n. when_some (end_of (behind_next k)) (λ _. cond (n == LINE_LIMIT) (Some Long) None)) a e in
    let q = chosen (end_of (behind_next k)) (λ _. cond (p.0 == LINE_LIMIT) (Some Long) None) a p.2 in
    let r = limit_is p.0 a q.2 in
    let n = number_is k p.0 p.1 in
    subst (λ (x : Answer). Fails x (codes "LINE") k) r.1
    (decimal LINE_LIMIT ∷ [], refl, ap (λ (m : ℕ). behind (decimal m ∷ [])) (sym r.0) ∙ last k (decimal p.0) q.0 h n.0 n.1 q.1, tt)

full_is : (k : List ℕ) (a : Answer) → IsBehind k → full k ≡ Some a → Fails a (codes "HISTORY_FULL") k
unfolding full words_of
full_is k a h e =
    let ses = behind_next k in
    let lim = behind_next ses in
    let p = chosen (number k) (λ x. when_some (number ses) (λ y. when_some (number lim) (λ z. when_some (end_of (behind_next lim)) (λ _. Some (Stopped (HistoryFull x y z)))))) a e in
    let q = chosen (number ses) (λ y. when_some (number lim) (λ z. when_some (end_of (behind_next lim)) (λ _. Some (Stopped (HistoryFull p.0 y z))))) a p.2 in
    let r = chosen (number lim) (λ z. when_some (end_of (behind_next lim)) (λ _. Some (Stopped (HistoryFull p.0 q.0 z)))) a q.2 in
    let s = chosen (end_of (behind_next lim)) (λ _. Some (Stopped (HistoryFull p.0 q.0 r.0))) a r.2 in
    let x = number_is k p.0 p.1 in
    let y = number_is ses q.0 q.1 in
    let z = number_is lim r.0 r.1 in
    let s2 = last lim (decimal r.0) s.0 (next_shaped ses) z.0 z.1 s.1 in
    let s1 = stands ses (decimal q.0) (decimal r.0 ∷ []) (next_shaped k) y.0 y.1 s2 in
    let s0 = stands k (decimal p.0) (decimal q.0 ∷ decimal r.0 ∷ []) h x.0 x.1 s1 in
    subst (λ (v : Answer). Fails v (codes "HISTORY_FULL") k) (some_is (Stopped (HistoryFull p.0 q.0 r.0)) a s.2)
    (decimal p.0 ∷ decimal q.0 ∷ decimal r.0 ∷ [], refl, s0, (x.3, y.3, z.3))

stopped_is : (k : List ℕ) (a : Answer) → stopped k ≡ Some a → Fails a (codes "NO_MEMORY") k
unfolding stopped words_of
stopped_is k a e =
    let p = chosen (end_of k) (λ _. Some (Stopped NoMemory)) a e in
    subst (λ (x : Answer). Fails x (codes "NO_MEMORY") k) (some_is (Stopped NoMemory) a p.2) ([], refl, nothing k p.0 p.1, tt)

-- the words behind `ERR` stand here
failing : (k word : List ℕ) (a : Answer) → IsBehind k → bytes_eq (next_word k) word ≡ true → 0 < length word → Fails a word (behind_next k) → Answers a (codes "ERR") k
failing k word a h t l f = (word ∷ f.0, f.1, stands k word f.0 h (same_text (next_word k) word t) l f.2, f.3)

reason_some : (r : Reason) → 0 < length (reason_word r)
unfolding reason_word
reason_some ShareAbsent = omega arith
reason_some (ParentAbsent parts) = omega arith
reason_some NameAbsent = omega arith
reason_some (NameThere id) = omega arith
reason_some (IsDirectory id) = omega arith
reason_some (IsFile id) = omega arith
reason_some (Pending id) = omega arith
reason_some (ReadOnly id) = omega arith
reason_some LeaseHeld = omega arith
reason_some (Shared handle) = omega arith
reason_some (LockInTheWay handle first last true) = omega arith
reason_some (LockInTheWay handle first last false) = omega arith
reason_some NotLocked = omega arith
reason_some (QuotaMet used more limit) = omega arith
reason_some (OpensFull n) = omega arith
reason_some (NoHandle handle) = omega arith
reason_some (LacksAccess handle) = omega arith

passed : (b : Bool) (x a : Answer) → cond b (Some x) None ≡ Some a → (b ≡ true) × (x ≡ a)
passed true x a e = (refl, some_is x a e)
passed false x a e = cc

refused_is : (k : List ℕ) (a : Answer) → IsBehind k → refused k ≡ Some a → Answers a (codes "ERR") k
unfolding refused words_of
refused_is k a h e =
    let k1 = behind_next k in
    let k2 = behind_next k1 in
    let l = bytes_eq (next_word k) (codes "LOCK_NOT_GRANTED") in
    let p = chosen (number k1) (λ n. when_some (message l k2) (λ r. cond (bytes_eq (next_word k) (reason_word r)) (Some (Refused n r)) None)) a e in
    let q = chosen (message l k2) (λ r. cond (bytes_eq (next_word k) (reason_word r)) (Some (Refused p.0 r)) None) a p.2 in
    let t = passed (bytes_eq (next_word k) (reason_word q.0)) (Refused p.0 q.0) a q.2 in
    let n = number_is k1 p.0 p.1 in
    let m = message_is l k2 q.0 (next_shaped k1) q.1 in
    let s1 = stands k1 (decimal p.0) (message_words q.0) (next_shaped k) n.0 n.1 m.0 in
    let s0 = stands k (reason_word q.0) (decimal p.0 ∷ message_words q.0) h (same_text (next_word k) (reason_word q.0) t.0) (reason_some q.0) s1 in
    subst (λ (x : Answer). Answers x (codes "ERR") k) t.1
    (reason_word q.0 ∷ decimal p.0 ∷ message_words q.0, refl, s0, (n.3, m.1))

failed_is : (k : List ℕ) (a : Answer) → IsBehind k → failed k ≡ Some a → Answers a (codes "ERR") k
unfolding failed
failed_is k a h e =
    by (bytes_eq (next_word k) (codes "SYNTAX")) (bytes_eq (next_word k) (codes "LINE")) (bytes_eq (next_word k) (codes "HISTORY_FULL"))
    (bytes_eq (next_word k) (codes "NO_MEMORY")) refl refl refl refl e
  where
    by : (s l f m : Bool) → bytes_eq (next_word k) (codes "SYNTAX") ≡ s → bytes_eq (next_word k) (codes "LINE") ≡ l
        → bytes_eq (next_word k) (codes "HISTORY_FULL") ≡ f → bytes_eq (next_word k) (codes "NO_MEMORY") ≡ m
        → cond s (syntax (behind_next k)) (cond l (long (behind_next k)) (cond f (full (behind_next k)) (cond m (stopped (behind_next k)) (refused k)))) ≡ Some a
        → Answers a (codes "ERR") k
    by true l f m p q r v e = failing k (codes "SYNTAX") a h p (omega arith) (syntax_is (behind_next k) a (next_shaped k) e)
    by false true f m p q r v e = failing k (codes "LINE") a h q (omega arith) (long_is (behind_next k) a (next_shaped k) e)
    by false false true m p q r v e = failing k (codes "HISTORY_FULL") a h r (omega arith) (full_is (behind_next k) a (next_shaped k) e)
    by false false false true p q r v e = failing k (codes "NO_MEMORY") a h v (omega arith) (stopped_is (behind_next k) a e)
    by false false false false p q r v e = refused_is k a h e

-- a line with this first word, and the words behind it
lined : (line word : List ℕ) (a : Answer) → bytes_eq (first_word line) word ≡ true → Answers a word (behind_first line) → (told_line a ≡ line) × Fits a
unfolding told_line
lined line word a t s = (
  ap (join_with_byte 32) s.1 ∙ joined word s.0 ∙ ap (λ (x : List ℕ). word ++ x) s.2
      ∙ ap (λ (x : List ℕ). x ++ behind_first line) (sym (same_text (first_word line) word t)) ∙ whole line,
  s.3,
)

pub answer_is : (line : List ℕ) (a : Answer) → answer_of line ≡ Some a → (told_line a ≡ line) × Fits a
unfolding answer_of
answer_is line a e = by (bytes_eq (first_word line) (codes "OK")) (bytes_eq (first_word line) (codes "ERR")) refl refl e
  where
    by : (o f : Bool) → bytes_eq (first_word line) (codes "OK") ≡ o → bytes_eq (first_word line) (codes "ERR") ≡ f
        → cond o (done (behind_first line)) (cond f (failed (behind_first line)) None) ≡ Some a → (told_line a ≡ line) × Fits a
    by true f p q e = lined line (codes "OK") a p (done_is (behind_first line) a (first_shaped line) e)
    by false true p q e = lined line (codes "ERR") a q (failed_is (behind_first line) a (first_shaped line) e)
    by false false p q e = cc
