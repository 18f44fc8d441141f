-- The words of attributes are read back.
use Rattle.std.proofs.Common.{◌≡◌, ◌≤◌, ℕ, suc, ◌==◌, Bool, true, false, cond, not, ◌&&◌, ◌||◌, List, [], ◌∷◌, ◌++◌, codes}
use Rattle.std.proofs.Common.{Option, Some, None, Ok, arith, refl, sym, ap, ◌∙◌, append-nil, IfSome}
use Rattle.std.specs.Prelude.{All}
use Rattle.std.specs.List.{slice_split, flat_map, list_all, list_any, count_by}
use Rattle.std.specs.Option.{option_map}
use Rattle.std.proofs.lemmas.Bool.{false≢true, and_parts}
use Rattle.std.proofs.lemmas.List.Sums.{sum_by-cons}
use Rattle.std.proofs.lemmas.List.Splits.{slice_split_none, slice_split_at}
use Rattle.sx_names.specs.declared.attributes.Attributes.{Attributes}
use Rattle.sx_decode.specs.Words.{is_word, is_word_in_blanks}
use Rattle.sx_decode.specs.Facts.{is_bar, names, is_former_attribute, is_latter_attribute, is_attribute, stands, is_once, are_once, attributes_named, attributes_in, attributes_read, attributes_or_kept}
use Rattle.sx_heads.specs.Values.{words_said, attribute_flags, words_text, attributes_text}
use Rattle.sx_heads.proofs.Queries.{from_test}

-- a word with its flag
abbrev Flag : Type 0
Flag = Bool × List ℕ

-- ---- what holds of the words that are said

abbrev any_said : (List ℕ → Bool) → List Flag → Bool
any_said f [] = false
any_said f (w ∷ ws) = cond (f w.1) w.0 false || any_said f ws

any_step : (f : List ℕ → Bool) (b t : Bool) (v : List ℕ) (rest : List (List ℕ)) (more : Bool) → f v ≡ t → list_any f rest ≡ more
    → list_any f (cond b (v ∷ rest) rest) ≡ (cond t b false || more)
any_step f true true v rest more e r = rw e refl
any_step f true false v rest more e r = rw e r
any_step f false true v rest more e r = r
any_step f false false v rest more e r = r

any_is : (f : List ℕ → Bool) (ws : List Flag) → list_any f (words_said ws) ≡ any_said f ws
any_is f [] = refl
any_is f (w ∷ ws) = any_step f w.0 (f w.1) w.1 (words_said ws) (any_said f ws) refl (any_is f ws)

-- each word that may be said passes, or isn't said
abbrev all_pass : (List ℕ → Bool) → List Flag → Bool
all_pass f [] = true
all_pass f (w ∷ ws) = cond (f w.1) true (not w.0) && all_pass f ws

all_step : (f : List ℕ → Bool) (b t : Bool) (v : List ℕ) (rest : List (List ℕ)) → f v ≡ t → cond t true (not b) ≡ true → list_all f rest ≡ true
    → list_all f (cond b (v ∷ rest) rest) ≡ true
all_step f true true v rest e p r = rw e r
all_step f true false v rest e p r = absurd (false≢true p)
all_step f false t v rest e p r = r

all_is : (f : List ℕ → Bool) (ws : List Flag) → all_pass f ws ≡ true → list_all f (words_said ws) ≡ true
all_is f [] h = refl
all_is f (w ∷ ws) h =
    let both = and_parts (cond (f w.1) true (not w.0)) (all_pass f ws) h in
    all_step f w.0 (f w.1) w.1 (words_said ws) refl both.0 (all_is f ws both.1)

-- how many words pass
abbrev matches : (List ℕ → Bool) → List Flag → ℕ
matches f [] = 0
matches f (w ∷ ws) = cond (f w.1) (suc (matches f ws)) (matches f ws)

count_step : (f : List ℕ → Bool) (b t : Bool) (v : List ℕ) (rest : List (List ℕ)) (n : ℕ) → f v ≡ t → count_by f rest ≤ n
    → count_by f (cond b (v ∷ rest) rest) ≤ cond t (suc n) n
count_step f true true v rest n e le =
    let c = sum_by-cons (λ x. cond (f x) 1 0) v rest in
    let one : ◌≡◌ {A = ℕ} (cond (f v) 1 0) 1 = rw e refl in
    omega (arith, c, one, le)
count_step f true false v rest n e le =
    let c = sum_by-cons (λ x. cond (f x) 1 0) v rest in
    let none : ◌≡◌ {A = ℕ} (cond (f v) 1 0) 0 = rw e refl in
    omega (arith, c, none, le)
count_step f false true v rest n e le = omega (arith, le)
count_step f false false v rest n e le = le

count_is : (f : List ℕ → Bool) (ws : List Flag) → count_by f (words_said ws) ≤ matches f ws
count_is f [] = omega arith
count_is f (w ∷ ws) = count_step f w.0 (f w.1) w.1 (words_said ws) (matches f ws) refl (count_is f ws)

once_is : (word : List ℕ) (ws : List Flag) → matches (names word) ws ≡ 1 → is_once word (words_said ws) ≡ true
once_is word ws e =
    let le = count_is (names word) ws in
    grind (arith, le, e)

-- ---- the text is split into its words

-- no bar stands in the word, and nothing that begins with it is `None`
abbrev IsSaid : List ℕ → Type 0
IsSaid word = All (λ b. (b == 124) ≡ false) word × ((rest : List ℕ) → is_word (codes "None") (word ++ rest) ≡ false)

abbrev AreSaid : List (List ℕ) → Type 0
AreSaid [] = Unit {0}
AreSaid (w ∷ ws) = IsSaid w × AreSaid ws

abbrev AreFlags : List Flag → Type 0
AreFlags [] = Unit {0}
AreFlags (w ∷ ws) = IsSaid w.1 × AreFlags ws

said_step : (b : Bool) (v : List ℕ) (rest : List (List ℕ)) → IsSaid v → AreSaid rest → AreSaid (cond b (v ∷ rest) rest)
said_step true v rest h k = (h, k)
said_step false v rest h k = k

said_are : (ws : List Flag) → AreFlags ws → AreSaid (words_said ws)
said_are [] h = tt
said_are (w ∷ ws) h = said_step w.0 w.1 (words_said ws) h.0 (said_are ws h.1)

split_words : (w : List ℕ) (ws : List (List ℕ)) → AreSaid (w ∷ ws) → slice_split is_bar (words_text (w ∷ ws)) ≡ w ∷ ws
split_words w [] h = rw (append-nil w) (slice_split_none is_bar w h.0.0)
split_words w (v ∷ vs) h = slice_split_at is_bar w 124 (words_text (v ∷ vs)) h.0.0 refl ∙ ap (λ (xs : List (List ℕ)). w ∷ xs) (split_words v vs h.1)

none_back : (directory : Bool) → attributes_read directory (codes "None") ≡ Ok (attributes_named directory [])
unfolding attributes_read is_word
none_back directory = refl

words_back : (directory : Bool) (ws : List (List ℕ)) → AreSaid ws → list_all (is_attribute directory) ws ≡ true → are_once ws ≡ true
    → attributes_read directory (words_text ws) ≡ Ok (attributes_named directory ws)
unfolding attributes_read attributes_in
words_back directory [] h all once = none_back directory
words_back directory (w ∷ ws) h all once = rw (h.0.1 (flat_map (λ v. 124 ∷ v) ws), split_words w ws h, all, once) refl

-- ---- the words of attributes

word_said : (word : List ℕ) → list_all (λ b. not (b == 124)) word ≡ true → ((rest : List ℕ) → is_word (codes "None") (word ++ rest) ≡ false) → IsSaid word
word_said word lacks other = (from_test 124 word lacks, other)

are_flags : (a : Attributes) → AreFlags (attribute_flags a)
unfolding is_word
are_flags a = (word_said (codes "ReadOnly") refl (λ rest. refl), (word_said (codes "Hidden") refl (λ rest. refl), (word_said (codes "System") refl (λ rest. refl), (word_said (codes "Archive") refl (λ rest. refl), (word_said (codes "Temporary") refl (λ rest. refl), (word_said (codes "Offline") refl (λ rest. refl), (word_said (codes "NotContentIndexed") refl (λ rest. refl), (word_said (codes "NoScrubData") refl (λ rest. refl), (word_said (codes "Directory") refl (λ rest. refl), tt)))))))))

or_false : (b : Bool) → (b || false) ≡ b
or_false true = refl
or_false false = refl

read_only_stands : (a : Attributes) → stands (codes "ReadOnly") (words_said (attribute_flags a)) ≡ a.read_only
unfolding is_word_in_blanks is_word
read_only_stands a = any_is (names (codes "ReadOnly")) (attribute_flags a) ∙ or_false a.read_only

hidden_stands : (a : Attributes) → stands (codes "Hidden") (words_said (attribute_flags a)) ≡ a.hidden
unfolding is_word_in_blanks is_word
hidden_stands a = any_is (names (codes "Hidden")) (attribute_flags a) ∙ or_false a.hidden

system_stands : (a : Attributes) → stands (codes "System") (words_said (attribute_flags a)) ≡ a.system
unfolding is_word_in_blanks is_word
system_stands a = any_is (names (codes "System")) (attribute_flags a) ∙ or_false a.system

archive_stands : (a : Attributes) → stands (codes "Archive") (words_said (attribute_flags a)) ≡ a.archive
unfolding is_word_in_blanks is_word
archive_stands a = any_is (names (codes "Archive")) (attribute_flags a) ∙ or_false a.archive

temporary_stands : (a : Attributes) → stands (codes "Temporary") (words_said (attribute_flags a)) ≡ a.temporary
unfolding is_word_in_blanks is_word
temporary_stands a = any_is (names (codes "Temporary")) (attribute_flags a) ∙ or_false a.temporary

offline_stands : (a : Attributes) → stands (codes "Offline") (words_said (attribute_flags a)) ≡ a.offline
unfolding is_word_in_blanks is_word
offline_stands a = any_is (names (codes "Offline")) (attribute_flags a) ∙ or_false a.offline

not_content_indexed_stands : (a : Attributes) → stands (codes "NotContentIndexed") (words_said (attribute_flags a)) ≡ a.not_content_indexed
unfolding is_word_in_blanks is_word
not_content_indexed_stands a = any_is (names (codes "NotContentIndexed")) (attribute_flags a) ∙ or_false a.not_content_indexed

no_scrub_data_stands : (a : Attributes) → stands (codes "NoScrubData") (words_said (attribute_flags a)) ≡ a.no_scrub_data
unfolding is_word_in_blanks is_word
no_scrub_data_stands a = any_is (names (codes "NoScrubData")) (attribute_flags a) ∙ or_false a.no_scrub_data

once : (a : Attributes) → are_once (words_said (attribute_flags a)) ≡ true
unfolding is_word_in_blanks is_word
once a = rw (
  once_is (codes "ReadOnly") (attribute_flags a) refl,
  once_is (codes "Hidden") (attribute_flags a) refl,
  once_is (codes "System") (attribute_flags a) refl,
  once_is (codes "Archive") (attribute_flags a) refl,
  once_is (codes "Temporary") (attribute_flags a) refl,
  once_is (codes "Offline") (attribute_flags a) refl,
  once_is (codes "NotContentIndexed") (attribute_flags a) refl,
  once_is (codes "NoScrubData") (attribute_flags a) refl,
  once_is (codes "Directory") (attribute_flags a) refl,
) refl

directory_words : (a : Attributes) → a.directory ≡ true → list_all (is_attribute true) (words_said (attribute_flags a)) ≡ true
unfolding is_former_attribute is_latter_attribute is_attribute is_word_in_blanks is_word
directory_words a e = all_is (is_attribute true) (attribute_flags a) refl

file_words : (a : Attributes) → a.directory ≡ false → list_all (is_attribute false) (words_said (attribute_flags a)) ≡ true
unfolding is_former_attribute is_latter_attribute is_attribute is_word_in_blanks is_word
file_words a e = all_is (is_attribute false) (attribute_flags a) (rw e refl)

named_back : (a : Attributes) → attributes_named a.directory (words_said (attribute_flags a)) ≡ a
named_back a = rw (read_only_stands a, hidden_stands a, system_stands a, archive_stands a, temporary_stands a, offline_stands a, not_content_indexed_stands a, no_scrub_data_stands a) refl

-- attributes that are spelled are read
pub attributes_back : (directory : Bool) (a : Attributes) → a.directory ≡ directory → attributes_read directory (attributes_text a) ≡ Ok a
unfolding attributes_text
attributes_back true a e =
    words_back true (words_said (attribute_flags a)) (said_are (attribute_flags a) (are_flags a)) (directory_words a e) (once a)
    ∙ ap (λ (d : Bool). Ok (attributes_named d (words_said (attribute_flags a)))) (sym e) ∙ ap (λ (x : Attributes). Ok x) (named_back a)
attributes_back false a e =
    words_back false (words_said (attribute_flags a)) (said_are (attribute_flags a) (are_flags a)) (file_words a e) (once a)
    ∙ ap (λ (d : Bool). Ok (attributes_named d (words_said (attribute_flags a)))) (sym e) ∙ ap (λ (x : Attributes). Ok x) (named_back a)

-- nothing that begins with the word is `preserve`
abbrev IsKeptWord : List ℕ → Type 0
IsKeptWord word = (rest : List ℕ) → is_word (codes "preserve") (word ++ rest) ≡ false

abbrev AreKept : List (List ℕ) → Type 0
AreKept [] = Unit {0}
AreKept (w ∷ ws) = IsKeptWord w × AreKept ws

abbrev AreKeptFlags : List Flag → Type 0
AreKeptFlags [] = Unit {0}
AreKeptFlags (w ∷ ws) = IsKeptWord w.1 × AreKeptFlags ws

text_no_preserve : (ws : List (List ℕ)) → AreKept ws → is_word (codes "preserve") (words_text ws) ≡ false
unfolding is_word
text_no_preserve [] h = refl
text_no_preserve (w ∷ ws) h = h.0 (flat_map (λ v. 124 ∷ v) ws)

kept_step : (b : Bool) (v : List ℕ) (rest : List (List ℕ)) → IsKeptWord v → AreKept rest → AreKept (cond b (v ∷ rest) rest)
kept_step true v rest h k = (h, k)
kept_step false v rest h k = k

kept_are : (ws : List Flag) → AreKeptFlags ws → AreKept (words_said ws)
kept_are [] h = tt
kept_are (w ∷ ws) h = kept_step w.0 w.1 (words_said ws) h.0 (kept_are ws h.1)

kept_flags : (a : Attributes) → AreKeptFlags (attribute_flags a)
unfolding is_word
kept_flags a = (λ rest. refl, (λ rest. refl, (λ rest. refl, (λ rest. refl, (λ rest. refl, (λ rest. refl, (λ rest. refl, (λ rest. refl, (λ rest. refl, tt)))))))))

-- attributes that are set are read
pub attributes_kept_back : (o : Option Attributes) → IfSome o (λ a. a.directory ≡ false) → attributes_or_kept (option_map attributes_text o) ≡ Ok o
unfolding attributes_text
attributes_kept_back None h = refl
attributes_kept_back (Some a) h = rw (text_no_preserve (words_said (attribute_flags a)) (kept_are (attribute_flags a) (kept_flags a)), attributes_back false a h) refl
