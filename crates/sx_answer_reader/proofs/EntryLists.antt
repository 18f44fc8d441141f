-- The entries of a page as words, one behind another, and read back.
use Rattle.std.proofs.Common.{◌≡◌, ℕ, zero, suc, ◌+◌, ◌-◌, ◌≤◌, ◌<◌, List, [], ◌∷◌, ◌++◌, length, map, Option, Some, None, Err}
use Rattle.std.proofs.Common.{refl, sym, ap, subst, ◌∙◌, arith, append-nil, append_assoc}
use Rattle.std.specs.List.{All}
use Rattle.std.proofs.lemmas.List.Elements.{All-cons, All-head, All-map, All-nil, All-tail}
use Rattle.std.proofs.lemmas.List.{length-map}
use Rattle.sx_lines.specs.Reading.{when_some}
use Rattle.sx_lines.specs.Words.{next_word, behind_next}
use Rattle.sx_lines.proofs.Parts.{after_these}
use Rattle.sx_lines.proofs.SpelledWords.{IsBehind, next_is, rest_is}
use Rattle.sx_names.specs.declared.page.NameItem.{NameItem}
use Rattle.sx_answer_reader.specs.declared.answer.Entry.{Entry}
use Rattle.sx_answer_reader.specs.declared.answer.Unread.{Unread}
use Rattle.sx_answer_reader.specs.declared.answer.Unread.TheVariants.{NoAnswer, NoMemory}
use Rattle.sx_answer_reader.specs.Limits.{IsNumber}
use Rattle.sx_answer_reader.specs.Reading.{Reads}
use Rattle.sx_answer_reader.specs.Doors.{entry_of as told_entry}
use Rattle.sx_answer_reader.specs.Answers.{entry_word, FitsEntry}
use Rattle.sx_answer_reader.specs.Words.{end_of}
use Rattle.sx_answer_reader.specs.Entries.{entry_of, entries_of}
use Rattle.sx_answer_reader.proofs.Walks.{behind, behind_shaped, next_shaped, stands, nothing, chosen}
use Rattle.sx_answer_reader.proofs.WrittenFields.{some_is}
use Rattle.sx_answer_reader.proofs.EntryWords.{entry_is, entry_some, entry_back, entry_visible}

-- these entries stand here, and they are so many
abbrev pub AreEntries : ℕ → List ℕ → List Entry → Type 0
AreEntries n k es = (behind (map entry_word es) ≡ k) × (length es ≡ n) × All FitsEntry es

pub entries_are : (n : ℕ) (k : List ℕ) (es : List Entry) → IsBehind k → entries_of n k ≡ Some es → AreEntries n k es
unfolding entries_of
entries_are zero k es h q =
    let a = chosen (end_of k) (λ _. Some []) es q in
    subst (λ (x : List Entry). AreEntries 0 k x) (some_is [] es a.2) (nothing k a.0 a.1, refl, All-nil FitsEntry)
entries_are (suc n) k es h q =
    let a = chosen (entry_of (next_word k)) (λ e. when_some (entries_of n (behind_next k)) (λ r. Some (e ∷ r))) es q in
    let b = chosen (entries_of n (behind_next k)) (λ r. Some (a.0 ∷ r)) es a.2 in
    let e = entry_is (next_word k) a.0 a.1 in
    let r = entries_are n (behind_next k) b.0 (next_shaped k) b.1 in
    let count = r.1 in
    subst (λ (x : List Entry). AreEntries (suc n) k x) (some_is (a.0 ∷ b.0) es b.2)
    (stands k (entry_word a.0) (map entry_word b.0) h e.0 (entry_some a.0) r.0, omega (arith, count), All-cons FitsEntry a.0 b.0 e.1 r.2)

pub entries_back : (es : List Entry) → All FitsEntry es → entries_of (length es) (behind (map entry_word es)) ≡ Some es
unfolding entries_of end_of
entries_back [] h = refl
entries_back (e ∷ es) h =
    let fits = All-head FitsEntry e es h in
    let rest = behind (map entry_word es) in
    let shaped = behind_shaped (map entry_word es) in
    rw (
      next_is (entry_word e) rest (entry_visible e fits) shaped,
      rest_is (entry_word e) rest (entry_visible e fits) shaped,
      entry_back e fits,
      entries_back es (All-tail FitsEntry e es h),
    ) refl

-- ---- a loop over them

more_of : (done : List Entry) (e : Entry) (o : Option (List Entry))
    → after_these done (when_some o (λ r. Some (e ∷ r))) ≡ after_these (done ++ e ∷ []) o
more_of done e None = refl
more_of done e (Some r) = ap Some (sym (append_assoc done (e ∷ []) r))

one_more : (done : List Entry) (n : ℕ) (k : List ℕ) (e : Entry) → entry_of (next_word k) ≡ Some e
    → after_these done (entries_of (suc n) k) ≡ after_these (done ++ e ∷ []) (entries_of n (behind_next k))
unfolding entries_of
one_more done n k e q = rw q (more_of done e (entries_of n (behind_next k)))

pub entries_more : (whole : Option (List Entry)) (done : List Entry) (count i : ℕ) (k : List ℕ) (e : Entry) → i < count
    → whole ≡ after_these done (entries_of (count - i) k) → entry_of (next_word k) ≡ Some e
    → whole ≡ after_these (done ++ e ∷ []) (entries_of (count - (i + 1)) (behind_next k))
entries_more whole done count i k e l inv q =
    let left : count - i ≡ suc (count - (i + 1)) = omega (arith, l) in
    inv ∙ ap (λ (n : ℕ). after_these done (entries_of n k)) left ∙ one_more done (count - (i + 1)) k e q

none_more : (done : List Entry) (n : ℕ) (k : List ℕ) → entry_of (next_word k) ≡ None → after_these done (entries_of (suc n) k) ≡ None
unfolding entries_of
none_more done n k q = rw q refl

pub entries_stop : (whole : Option (List Entry)) (done : List Entry) (count i : ℕ) (k : List ℕ) → i < count
    → whole ≡ after_these done (entries_of (count - i) k) → entry_of (next_word k) ≡ None → whole ≡ None
entries_stop whole done count i k l inv q =
    let left : count - i ≡ suc (count - (i + 1)) = omega (arith, l) in
    inv ∙ ap (λ (n : ℕ). after_these done (entries_of n k)) left ∙ none_more done (count - (i + 1)) k q

at_end : (done : List Entry) (k : List ℕ) (o : Option (Unit {0})) → end_of k ≡ o
    → after_these done (entries_of 0 k) ≡ after_these done (when_some o (λ _. Some []))
unfolding entries_of
at_end done k o q = rw q refl

pub entries_done : (whole : Option (List Entry)) (done : List Entry) (count i : ℕ) (k : List ℕ) (u : Unit {0}) → count ≤ i
    → whole ≡ after_these done (entries_of (count - i) k) → end_of k ≡ Some u → whole ≡ Some done
entries_done whole done count i k u l inv q =
    let left : count - i ≡ 0 = omega (arith, l) in
    inv ∙ ap (λ (n : ℕ). after_these done (entries_of n k)) left ∙ at_end done k (Some u) q ∙ ap Some (append-nil done)

pub entries_over : (whole : Option (List Entry)) (done : List Entry) (count i : ℕ) (k : List ℕ) → count ≤ i
    → whole ≡ after_these done (entries_of (count - i) k) → end_of k ≡ None → whole ≡ None
entries_over whole done count i k l inv q =
    let left : count - i ≡ 0 = omega (arith, l) in
    inv ∙ ap (λ (n : ℕ). after_these done (entries_of n k)) left ∙ at_end done k None q

-- a turn of the loop, by what its calls gave
pub entries_next : (whole : Option (List Entry)) (done more : List Entry) (count i : ℕ) (k w r : List ℕ) (e : Entry)
    → w ≡ next_word k → r ≡ behind_next k → more ≡ done ++ e ∷ [] → i < count
    → whole ≡ after_these done (entries_of (count - i) k) → entry_of w ≡ Some e
    → whole ≡ after_these more (entries_of (count - (i + 1)) r)
entries_next whole done more count i k w r e we re me l inv q =
    entries_more whole done count i k e l inv (ap entry_of (sym we) ∙ q)
    ∙ ap (λ (x : List Entry). after_these x (entries_of (count - (i + 1)) (behind_next k))) (sym me)
    ∙ ap (λ (x : List ℕ). after_these more (entries_of (count - (i + 1)) x)) (sym re)

-- a word that is no entry, and want of memory
pub entries_err : (u : Unread) (whole : Option (List Entry)) (done : List Entry) (count i : ℕ) (k w : List ℕ) → w ≡ next_word k → i < count
    → whole ≡ after_these done (entries_of (count - i) k) → Reads {A = Entry} (Err u) (entry_of w) → Reads {A = List Entry} (Err u) whole
entries_err NoAnswer whole done count i k w e l inv r = entries_stop whole done count i k l inv (ap entry_of (sym e) ∙ r)
entries_err NoMemory whole done count i k w e l inv r = tt

-- words that are left over
pub entries_left : (u : Unread) (whole : Option (List Entry)) (done : List Entry) (count i : ℕ) (k : List ℕ) → count ≤ i
    → whole ≡ after_these done (entries_of (count - i) k) → Reads {A = Unit {0}} (Err u) (end_of k) → Reads {A = List Entry} (Err u) whole
entries_left NoAnswer whole done count i k l inv r = entries_over whole done count i k l inv r
entries_left NoMemory whole done count i k l inv r = tt

-- ---- the names of a page of the door

-- they fit, as they are told
pub told_entries : (items shown : List NameItem) → shown ≡ items → All (λ item. FitsEntry (told_entry item)) shown → IsNumber (length shown)
    → All FitsEntry (map told_entry items) × IsNumber (length (map told_entry items))
told_entries items shown e h n = (
  All-map FitsEntry told_entry items (subst (λ (xs : List NameItem). All (λ item. FitsEntry (told_entry item)) xs) e h),
  subst IsNumber (sym (length-map items told_entry)) (subst (λ (xs : List NameItem). IsNumber (length xs)) e n),
)
