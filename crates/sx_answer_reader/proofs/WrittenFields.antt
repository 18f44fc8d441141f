-- Fields that are read of a line's next word: what this word is.
use Rattle.std.proofs.Common.{codes, ◌≡◌, ℕ, ◌<◌, Bool, true, false, cond, List, [], ◌∷◌, length, Some, None, bytes_eq}
use Rattle.std.proofs.Common.{refl, ap, ◌∙◌, arith}
use Rattle.std.proofs.lemmas.Slice.Eq.{bytes_eq-Decides}
use Rattle.sx_call.specs.declared.replies.Fate.{Fate}
use Rattle.sx_call.specs.declared.replies.Fate.TheVariants.{Kept, Pending, Gone}
use Rattle.sx_lines.specs.Words.{next_word}
use Rattle.sx_answer_reader.specs.declared.kind.Kind.{Kind}
use Rattle.sx_answer_reader.specs.declared.kind.Kind.TheVariants.{Start, End, Open, Close, Read, Write, Resize, Lock, Unlock, Stat, List as Lists, Dispose}
use Rattle.sx_answer_reader.specs.Answers.{made_word, fate_word, dir_word}
use Rattle.sx_answer_reader.specs.Words.{number, count, index, choice, fate, found}
use Rattle.sx_answer_reader.specs.Grammar.{kind_of}
use Rattle.sx_answer_reader.proofs.Numerals.{IsNumeral, numeral}

pub some_is : {A : Type 0} (a b : A) → Some a ≡ Some b → a ≡ b
some_is a b e = cc

-- a value that is given where a test holds
pub kept_if : {A : Type 0} (b : Bool) (x a : A) → cond b (Some x) None ≡ Some a → (b ≡ true) × (x ≡ a)
kept_if true x a e = (refl, some_is x a e)
kept_if false x a e = cc

pub same_text : (v w : List ℕ) → bytes_eq v w ≡ true → v ≡ w
same_text v w e = (bytes_eq-Decides v w).0 e

pub number_is : (k : List ℕ) (n : ℕ) → number k ≡ Some n → IsNumeral 0 18446744073709551615 (next_word k) n
unfolding number
number_is k n e = numeral 0 18446744073709551615 (next_word k) n (omega arith) e

pub count_is : (k : List ℕ) (n : ℕ) → count k ≡ Some n → IsNumeral 0 4294967295 (next_word k) n
unfolding count
count_is k n e = numeral 0 4294967295 (next_word k) n (omega arith) e

pub index_is : (k : List ℕ) (n : ℕ) → index k ≡ Some n → IsNumeral 1 4294967295 (next_word k) n
unfolding index
index_is k n e = numeral 1 4294967295 (next_word k) n (omega arith) e

-- each row of a table has the word of its value
abbrev pub AreRows : {A : Type 0} → (A → List ℕ) → List (List ℕ × A) → Type 0
AreRows word [] = Unit {0}
AreRows word (row ∷ rows) = (row.0 ≡ word row.1) × AreRows word rows

pub found_is : {A : Type 0} (word : A → List ℕ) (rows : List (List ℕ × A)) (w : List ℕ) (a : A) → AreRows word rows → found rows w ≡ Some a → w ≡ word a
found_is word [] w a h e = cc
found_is word (row ∷ rows) w a h e =
    elim (bytes_eq w row.0) as (λ (b : Bool). bytes_eq w row.0 ≡ b → cond b (Some row.1) (found rows w) ≡ Some a → w ≡ word a) [
      | true ↦ λ t q. same_text w row.0 t ∙ h.0 ∙ ap word (some_is row.1 a q)
      | false ↦ λ t q. found_is word rows w a h.1 q
    ] refl e

pub made_is : (k : List ℕ) (made : Bool) → choice (codes "created") (codes "opened") k ≡ Some made → next_word k ≡ made_word made
unfolding choice
made_is k made e = found_is made_word ((codes "created", true) ∷ (codes "opened", false) ∷ []) (next_word k) made (refl, (refl, tt)) e

pub made_some : (made : Bool) → 0 < length (made_word made)
made_some true = omega arith
made_some false = omega arith

pub dir_is : (k : List ℕ) (dir : Bool) → choice (codes "dir") (codes "file") k ≡ Some dir → next_word k ≡ dir_word dir
unfolding choice
dir_is k dir e = found_is dir_word ((codes "dir", true) ∷ (codes "file", false) ∷ []) (next_word k) dir (refl, (refl, tt)) e

pub dir_some : (dir : Bool) → 0 < length (dir_word dir)
dir_some true = omega arith
dir_some false = omega arith

pub fate_is : (k : List ℕ) (f : Fate) → fate k ≡ Some f → next_word k ≡ fate_word f
unfolding fate
fate_is k f e =
    found_is fate_word ((codes "kept", Kept) ∷ (codes "pending", Pending) ∷ (codes "gone", Gone) ∷ []) (next_word k) f (refl, (refl, (refl, tt))) e

pub fate_some : (f : Fate) → 0 < length (fate_word f)
fate_some Kept = omega arith
fate_some Pending = omega arith
fate_some Gone = omega arith

-- the word of each kind
abbrev pub kind_word : Kind → List ℕ
kind_word Start = codes "start"
kind_word End = codes "end"
kind_word Open = codes "open"
kind_word Close = codes "close"
kind_word Read = codes "read"
kind_word Write = codes "write"
kind_word Resize = codes "resize"
kind_word Lock = codes "lock"
kind_word Unlock = codes "unlock"
kind_word Stat = codes "stat"
kind_word Lists = codes "list"
kind_word Dispose = codes "dispose"

pub kind_is : (w : List ℕ) (kind : Kind) → kind_of w ≡ Some kind → w ≡ kind_word kind
unfolding kind_of
kind_is w kind e =
    found_is kind_word (
    (codes "start", Start) ∷ (codes "end", End) ∷ (codes "open", Open) ∷ (codes "close", Close)
    ∷ (codes "read", Read) ∷ (codes "write", Write) ∷ (codes "resize", Resize) ∷ (codes "lock", Lock) ∷ (codes "unlock", Unlock)
    ∷ (codes "stat", Stat) ∷ (codes "list", Lists) ∷ (codes "dispose", Dispose) ∷ [])
    w kind (refl, (refl, (refl, (refl, (refl, (refl, (refl, (refl, (refl, (refl, (refl, (refl, tt)))))))))))) e

pub kind_some : (kind : Kind) → 0 < length (kind_word kind)
kind_some Start = omega arith
kind_some End = omega arith
kind_some Open = omega arith
kind_some Close = omega arith
kind_some Read = omega arith
kind_some Write = omega arith
kind_some Resize = omega arith
kind_some Lock = omega arith
kind_some Unlock = omega arith
kind_some Stat = omega arith
kind_some Lists = omega arith
kind_some Dispose = omega arith
