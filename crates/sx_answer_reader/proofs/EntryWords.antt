-- The names of a page as words, and read back.
use Rattle.std.proofs.Common.{codes, ◌≡◌, ℕ, suc, ◌+◌, ◌^◌, ◌<◌, Bool, true, false, cond, not, ◌&&◌, ◌==◌, List, [], ◌∷◌, ◌++◌, length, drop, Some, None, bytes_eq}
use Rattle.std.proofs.Common.{refl, sym, ap, subst, ◌∙◌, arith, take-append-drop, length-append}
use Rattle.std.specs.Char.{is_ascii_digit}
use Rattle.std.specs.List.{before_first, position_or_len, list_all}
use Rattle.std.specs.Fmt.{decimal}
use Rattle.std.specs.Str.{is_utf8}
use Rattle.std.proofs.lemmas.Bool.{ne_eqb, eqb-true, eq-eqb, and_parts, and_from, not-true}
use Rattle.std.proofs.lemmas.Bool.Decides.{nat_tests}
use Rattle.std.proofs.Math.Seq.{take-append_seam, drop-append_seam}
use Rattle.percent_encoding.specs.Percent.{percent_decode}
use Rattle.sx_listing.specs.Percent.{percent_byte, percent_text}
use Rattle.sx_lines.specs.Answers.{next_text}
use Rattle.sx_lines.specs.Fields.{number_in}
use Rattle.sx_lines.specs.Reading.{when_some}
use Rattle.sx_lines.proofs.SpelledWords.{is_visible, IsWord, both_pass, all_weaker}
use Rattle.sx_lines.proofs.SpelledNumbers.{decimal_word, is_decimal, number_is}
use Rattle.sx_lines.proofs.SpelledBytes.{is_encoded, percent_encoded, encoded_word, percent_is, utf8_bytes, byte_some}
use Rattle.sx_answer_reader.specs.declared.answer.Entry.{Entry}
use Rattle.sx_answer_reader.specs.Limits.{IsNumber}
use Rattle.sx_answer_reader.specs.Answers.{dir_word, entry_word, FitsEntry}
use Rattle.sx_answer_reader.specs.Words.{found}
use Rattle.sx_answer_reader.specs.Entries.{named_as, name_of, decoded_or_star, next_named, next_of, is_colon, behind_field, kind_in, length_in, colon_name, of_kind, entry_of}
use Rattle.sx_answer_reader.proofs.Numerals.{numeral}
use Rattle.sx_answer_reader.proofs.Walks.{chosen}
use Rattle.sx_answer_reader.proofs.WrittenFields.{some_is, same_text, kept_if, found_is}
use Rattle.sx_answer_reader.proofs.MessageBack.{same_word}

-- ---- names

-- bytes that are given where they are a text and another test holds
text_if_both : (u b : Bool) (x a : List ℕ) → cond (u && b) (Some x) None ≡ Some a → (u ≡ true) × (b ≡ true) × (x ≡ a)
text_if_both u b x a e =
    let k = kept_if (u && b) x a e in
    let p = and_parts u b k.0 in
    (p.0, p.1, k.1)

name_is : (w name : List ℕ) → name_of w ≡ Some name → (w ≡ percent_text name) × (is_utf8 name ≡ true)
unfolding name_of
name_is w name e =
    let t = text_if_both (is_utf8 (percent_decode w)) (bytes_eq (percent_text (percent_decode w)) w) (percent_decode w) name e in
    (sym (same_text (percent_text (percent_decode w)) w t.1) ∙ ap (λ (x : List ℕ). percent_text x) t.2, ap is_utf8 (sym t.2) ∙ t.0)

name_by : (w n name : List ℕ) → n ≡ name → is_utf8 name ≡ true → percent_text name ≡ w → named_as n w ≡ Some name
name_by w n name e u is =
    subst (λ (x : List ℕ). named_as n x ≡ Some name) is (rw (e, u, same_word (percent_text name)) refl)

name_back : (name : List ℕ) → is_utf8 name ≡ true → name_of (percent_text name) ≡ Some name
unfolding name_of
name_back name u = name_by (percent_text name) (percent_decode (percent_text name)) name (percent_is name (utf8_bytes name u)) u refl

pub next_is_text : (w next : List ℕ) → next_of w ≡ Some next → (w ≡ next_text next) × (is_utf8 next ≡ true)
unfolding next_of
next_is_text w next e =
    let n = decoded_or_star w in
    let t = text_if_both (is_utf8 n) (bytes_eq (next_text n) w) n next e in
    (sym (same_text (next_text n) w t.1) ∙ ap (λ (x : List ℕ). next_text x) t.2, ap is_utf8 (sym t.2) ∙ t.0)

next_by : (w n next : List ℕ) → n ≡ next → is_utf8 next ≡ true → next_text next ≡ w → next_named n w ≡ Some next
next_by w n next e u is =
    subst (λ (x : List ℕ). next_named n x ≡ Some next) is (rw (e, u, same_word (next_text next)) refl)

not_star : (w : List ℕ) → list_all is_encoded w ≡ true → bytes_eq w (codes "*") ≡ false
not_star [] h = refl
not_star (b ∷ w) h = rw (encoded_not_star b (and_parts (is_encoded b) (list_all is_encoded w) h).0) refl
  where
    encoded_not_star : (b : ℕ) → is_encoded b ≡ true → (b == 42) ≡ false
    encoded_not_star b e = grind (arith, nat_tests)

some_next : (b : ℕ) (bytes : List ℕ) → next_text (b ∷ bytes) ≡ percent_text (b ∷ bytes)
some_next b bytes = rw (ne_eqb (length (b ∷ bytes)) 0 (λ q. omega (arith, q))) refl

decoded_next : (b : ℕ) (bytes : List ℕ) → is_utf8 (b ∷ bytes) ≡ true → decoded_or_star (next_text (b ∷ bytes)) ≡ b ∷ bytes
decoded_next b bytes u =
    let are = utf8_bytes (b ∷ bytes) u in
    ap (λ (x : List ℕ). decoded_or_star x) (some_next b bytes)
    ∙ rw (not_star (percent_text (b ∷ bytes)) (percent_encoded (b ∷ bytes) are)) (percent_is (b ∷ bytes) are)

pub next_back : (next : List ℕ) → is_utf8 next ≡ true → next_of (next_text next) ≡ Some next
unfolding next_of
next_back [] u = next_by (next_text []) (decoded_or_star (next_text [])) [] refl u refl
next_back (b ∷ bytes) u = next_by (next_text (b ∷ bytes)) (decoded_or_star (next_text (b ∷ bytes))) (b ∷ bytes) (decoded_next b bytes u) u refl

percent_some : (b : ℕ) (bytes : List ℕ) → 0 < length (percent_text (b ∷ bytes))
percent_some b bytes = omega (arith, length-append (percent_byte b) (percent_text bytes), byte_some b)

pub next_some : (next : List ℕ) → is_utf8 next ≡ true → 0 < length (next_text next)
next_some [] u = omega arith
next_some (b ∷ bytes) u =
    subst (λ (w : List ℕ). 0 < length w) (sym (some_next b bytes)) (percent_some b bytes)

-- ---- fields with colons between them

-- nothing, or a colon and what follows it
abbrev IsColoned : List ℕ → Type 0
IsColoned [] = Unit {0}
IsColoned (b ∷ bs) = b ≡ 58

coloned : (text : List ℕ) → IsColoned (behind_field text)
coloned [] = tt
coloned (b ∷ text) =
    elim (b == 58) as (λ (c : Bool). (b == 58) ≡ c → IsColoned (drop (cond (not c) (1 + position_or_len is_colon text) 0) (b ∷ text))) [
      | true ↦ λ e. eqb-true b 58 e
      | false ↦ λ e.
          let more : 1 + position_or_len is_colon text ≡ suc (position_or_len is_colon text) = omega arith in
          subst (λ (n : ℕ). IsColoned (drop n (b ∷ text))) (sym more) (coloned text)
    ] refl

whole : (text : List ℕ) → before_first is_colon text ++ behind_field text ≡ text
whole text = take-append-drop (position_or_len is_colon text) text

after_colon : (r : List ℕ) → IsColoned r → 0 < length (drop 1 r) → 58 ∷ drop 1 r ≡ r
after_colon [] d l = absurd (omega (arith, l))
after_colon (b ∷ r) d l = ap (λ (c : ℕ). c ∷ r) (sym d)

colon_name_is : (r name : List ℕ) → IsColoned r → colon_name r ≡ Some name → (r ≡ 58 ∷ percent_text name) × (is_utf8 name ≡ true)
colon_name_is [] name d e = cc
colon_name_is (b ∷ r) name d e =
    let n = name_is r name e in
    (ap (λ (c : ℕ). c ∷ r) d ∙ ap (λ (x : List ℕ). 58 ∷ x) n.0, n.1)

of_kind_is : (dir : Bool) (n : ℕ) (name : List ℕ) (e : Entry) → of_kind dir n name ≡ Some e
    → (record { dir = dir; length = n; name = name } ≡ e) × (dir ≡ true → n ≡ 0)
of_kind_is false n name e q = (some_is _ e q, λ c. cc)
of_kind_is true n name e q =
    elim (n == 0) as (λ (b : Bool). (n == 0) ≡ b → cond (not b) None (Some (record { dir = true; length = n; name = name })) ≡ Some e
    → (record { dir = true; length = n; name = name } ≡ e) × (true ≡ true → n ≡ 0)) [
      | true ↦ λ z p. (some_is _ e p, λ c. eqb-true n 0 z)
      | false ↦ λ z p. cc
    ] refl q

pub entry_is : (w : List ℕ) (e : Entry) → entry_of w ≡ Some e → (w ≡ entry_word e) × FitsEntry e
unfolding entry_of
entry_is w e q =
    let r1 = behind_field w in
    let text = drop 1 r1 in
    let r2 = behind_field text in
    let a = chosen (kind_in w) (λ d. when_some (length_in text) (λ n. when_some (colon_name r2) (λ x. of_kind d n x))) e q in
    let b = chosen (length_in text) (λ n. when_some (colon_name r2) (λ x. of_kind a.0 n x)) e a.2 in
    let c = chosen (colon_name r2) (λ x. of_kind a.0 b.0 x) e b.2 in
    let k = of_kind_is a.0 b.0 c.0 e c.2 in
    let front = found_is dir_word ((codes "dir", true) ∷ (codes "file", false) ∷ []) (before_first is_colon w) a.0 (refl, (refl, tt)) a.1 in
    let m = numeral 0 18446744073709551615 (before_first is_colon text) b.0 (omega arith) b.1 in
    let n = colon_name_is r2 c.0 (coloned text) c.1 in
    let one : Entry = record { dir = a.0; length = b.0; name = c.0 } in
    let text_is : decimal b.0 ++ (58 ∷ percent_text c.0) ≡ text =
    ap (λ (x : List ℕ). decimal b.0 ++ x) (sym n.0) ∙ ap (λ (x : List ℕ). x ++ r2) (sym m.0) ∙ whole text in
    let some : 0 < length text = omega (arith, m.1, ap length text_is, length-append (decimal b.0) (58 ∷ percent_text c.0)) in
    let is : w ≡ entry_word one =
    sym (whole w) ∙ ap (λ (x : List ℕ). x ++ r1) front
    ∙ ap (λ (x : List ℕ). dir_word a.0 ++ x) (sym (after_colon r1 (coloned w) some) ∙ ap (λ (x : List ℕ). 58 ∷ x) (sym text_is)) in
    subst (λ (x : Entry). (w ≡ entry_word x) × FitsEntry x) k.0 (is, (n.1, m.3, k.1))

-- ---- read back

abbrev no_colon : ℕ → Bool
no_colon b = not (is_colon b)

colon_at : (w rest : List ℕ) → list_all no_colon w ≡ true → position_or_len is_colon (w ++ 58 ∷ rest) ≡ length w
colon_at [] rest h = refl
colon_at (b ∷ w) rest h =
    let parts = and_parts (no_colon b) (list_all no_colon w) h in
    let other : (b == 58) ≡ false = not-true (b == 58) parts.0 in
    let ih = colon_at w rest parts.1 in
    rw other (omega (arith, ih))

front_is : (w rest : List ℕ) → list_all no_colon w ≡ true → before_first is_colon (w ++ 58 ∷ rest) ≡ w
front_is w rest h = rw (colon_at w rest h) (take-append_seam w (58 ∷ rest))

back_is : (w rest : List ℕ) → list_all no_colon w ≡ true → behind_field (w ++ 58 ∷ rest) ≡ 58 ∷ rest
back_is w rest h = rw (colon_at w rest h) (drop-append_seam w (58 ∷ rest))

small : (n : ℕ) → IsNumber n → n < 2 ^ 64
small n h = omega (arith, h)

digit_no_colon : (b : ℕ) → is_ascii_digit b ≡ true → no_colon b ≡ true
digit_no_colon b e = grind (arith, nat_tests)

number_no_colon : (n : ℕ) → IsNumber n → list_all no_colon (decimal n) ≡ true
number_no_colon n h =
    all_weaker is_ascii_digit no_colon digit_no_colon (decimal n) (and_parts _ _ (and_parts _ _ (is_decimal n (small n h))).0).1

dir_no_colon : (dir : Bool) → list_all no_colon (dir_word dir) ≡ true
dir_no_colon true = refl
dir_no_colon false = refl

dir_found : (dir : Bool) → found ((codes "dir", true) ∷ (codes "file", false) ∷ []) (dir_word dir) ≡ Some dir
dir_found true = refl
dir_found false = refl

of_kind_back : (dir : Bool) (n : ℕ) (name : List ℕ) → (dir ≡ true → n ≡ 0) → of_kind dir n name ≡ Some (record { dir = dir; length = n; name = name })
of_kind_back false n name h = refl
of_kind_back true n name h = rw (eq-eqb n 0 (h refl)) refl

entry_by : (w d m p : List ℕ) (dir : Bool) (n : ℕ) (name : List ℕ)
    → before_first is_colon w ≡ d → behind_field w ≡ 58 ∷ (m ++ 58 ∷ p)
    → before_first is_colon (m ++ 58 ∷ p) ≡ m → behind_field (m ++ 58 ∷ p) ≡ 58 ∷ p
    → found ((codes "dir", true) ∷ (codes "file", false) ∷ []) d ≡ Some dir
    → number_in 0 18446744073709551615 m ≡ Some n → name_of p ≡ Some name
    → entry_of w ≡ of_kind dir n name
unfolding entry_of
entry_by w d m p dir n name e1 e2 e3 e4 f g h = rw (e1, e2, e3, e4, f, g, h) refl

pub entry_back : (e : Entry) → FitsEntry e → entry_of (entry_word e) ≡ Some e
entry_back e fits =
    let p = percent_text e.name in
    let m = decimal e.length in
    let d = dir_word e.dir in
    let hd = dir_no_colon e.dir in
    let hm = number_no_colon e.length fits.1 in
    entry_by (entry_word e) d m p e.dir e.length e.name
    (front_is d (m ++ 58 ∷ p) hd) (back_is d (m ++ 58 ∷ p) hd) (front_is m p hm) (back_is m p hm)
    (dir_found e.dir) (number_is 0 18446744073709551615 e.length (omega arith) fits.1 (small e.length fits.1)) (name_back e.name fits.0)
    ∙ of_kind_back e.dir e.length e.name fits.2

dir_visible : (dir : Bool) → IsWord (dir_word dir)
dir_visible true = refl
dir_visible false = refl

pub entry_visible : (e : Entry) → FitsEntry e → IsWord (entry_word e)
entry_visible e fits =
    let p = percent_text e.name in
    let pv = encoded_word p (percent_encoded e.name (utf8_bytes e.name fits.0)) in
    both_pass is_visible (dir_word e.dir) (58 ∷ (decimal e.length ++ 58 ∷ p)) (dir_visible e.dir)
    (and_from (is_visible 58) _ refl
    (both_pass is_visible (decimal e.length) (58 ∷ p) (decimal_word e.length (small e.length fits.1)) (and_from (is_visible 58) _ refl pv)))

pub entry_some : (e : Entry) → 0 < length (entry_word e)
entry_some e = omega (arith, length-append (dir_word e.dir) (58 ∷ (decimal e.length ++ 58 ∷ percent_text e.name)))
