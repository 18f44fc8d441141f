-- A handle as a word, and read back.
use Rattle.std.proofs.Common.{◌≡◌, ℕ, suc, ◌+◌, ◌^◌, ◌<◌, Bool, true, false, cond, not, ◌==◌, List, [], ◌∷◌, ◌++◌, length, drop, Some}
use Rattle.std.proofs.Common.{refl, sym, ap, subst, ◌∙◌, arith, take-append-drop, length-append}
use Rattle.std.specs.Char.{is_ascii_digit}
use Rattle.std.specs.List.{before_first, position_or_len, list_all}
use Rattle.std.specs.Fmt.{decimal}
use Rattle.std.proofs.lemmas.Bool.{ne_eqb, eqb-true, and_parts, and_from}
use Rattle.std.proofs.Math.Seq.{take-append_seam, drop-append_seam}
use Rattle.sx_guard.specs.Handle.{Handle}
use Rattle.sx_lines.specs.Reading.{when_some}
use Rattle.sx_lines.specs.Fields.{number_in}
use Rattle.sx_lines.proofs.DecimalDigits.{digit_is}
use Rattle.sx_lines.proofs.SpelledWords.{is_visible, IsWord, both_pass}
use Rattle.sx_lines.proofs.SpelledNumbers.{decimal_word, is_decimal, number_is}
use Rattle.sx_answer_reader.specs.Limits.{IsIndex}
use Rattle.sx_answer_reader.specs.Refusals.{handle_text, IsHandle}
use Rattle.sx_answer_reader.specs.Messages.{is_dot, handle_of}
use Rattle.sx_answer_reader.proofs.Numerals.{numeral}
use Rattle.sx_answer_reader.proofs.Walks.{chosen}
use Rattle.sx_answer_reader.proofs.WrittenFields.{some_is}

small : (n : ℕ) → IsIndex n → n < 2 ^ 64
small n h = omega (arith, h.1)

pub handle_word : (h : Handle) → IsHandle h → IsWord (handle_text h)
handle_word h f =
    both_pass is_visible (decimal h.session) (46 ∷ decimal h.index) (decimal_word h.session (small h.session f.0))
    (and_from (is_visible 46) (list_all is_visible (decimal h.index)) refl (decimal_word h.index (small h.index f.1)))

pub handle_some : (h : Handle) → 0 < length (handle_text h)
handle_some h = omega (arith, length-append (decimal h.session) (46 ∷ decimal h.index))

digits : (n : ℕ) → n < 2 ^ 64 → list_all is_ascii_digit (decimal n) ≡ true
digits n h = (and_parts _ _ (and_parts _ _ (is_decimal n h)).0).1

dot_at : (w rest : List ℕ) → list_all is_ascii_digit w ≡ true → position_or_len is_dot (w ++ 46 ∷ rest) ≡ length w
dot_at [] rest h = refl
dot_at (b ∷ w) rest h =
    let parts = and_parts (is_ascii_digit b) (list_all is_ascii_digit w) h in
    let d = digit_is b parts.0 in
    let other : (b == 46) ≡ false = ne_eqb b 46 (λ q. omega (arith, q, d.0)) in
    let ih = dot_at w rest parts.1 in
    rw other (omega (arith, ih))

front_is : (w rest : List ℕ) → list_all is_ascii_digit w ≡ true → before_first is_dot (w ++ 46 ∷ rest) ≡ w
front_is w rest h = rw (dot_at w rest h) (take-append_seam w (46 ∷ rest))

back_is : (w rest : List ℕ) → list_all is_ascii_digit w ≡ true → drop 1 (drop (position_or_len is_dot (w ++ 46 ∷ rest)) (w ++ 46 ∷ rest)) ≡ rest
back_is w rest h = rw (dot_at w rest h) (ap (λ (x : List ℕ). drop 1 x) (drop-append_seam w (46 ∷ rest)))

pub handle_back : (h : Handle) → IsHandle h → handle_of (handle_text h) ≡ Some h
unfolding handle_of
handle_back h f =
    let s = small h.session f.0 in
    let i = small h.index f.1 in
    rw (
      front_is (decimal h.session) (decimal h.index) (digits h.session s),
      back_is (decimal h.session) (decimal h.index) (digits h.session s),
      number_is 1 4294967295 h.session f.0.0 f.0.1 s,
      number_is 1 4294967295 h.index f.1.0 f.1.1 i,
    ) refl

-- nothing, or a dot and what follows it
abbrev IsDotted : List ℕ → Type 0
IsDotted [] = Unit {0}
IsDotted (b ∷ bs) = b ≡ 46

dotted : (text : List ℕ) → IsDotted (drop (position_or_len is_dot text) text)
dotted [] = tt
dotted (b ∷ text) =
    elim (b == 46) as (λ (c : Bool). (b == 46) ≡ c → IsDotted (drop (cond (not c) (1 + position_or_len is_dot text) 0) (b ∷ text))) [
      | true ↦ λ e. eqb-true b 46 e
      | false ↦ λ e.
          let more : 1 + position_or_len is_dot text ≡ suc (position_or_len is_dot text) = omega arith in
          subst (λ (n : ℕ). IsDotted (drop n (b ∷ text))) (sym more) (dotted text)
    ] refl

after_dot : (r : List ℕ) → IsDotted r → 0 < length (drop 1 r) → 46 ∷ drop 1 r ≡ r
after_dot [] d l = absurd (omega (arith, l))
after_dot (b ∷ r) d l = ap (λ (c : ℕ). c ∷ r) (sym d)

pub handle_is : (w : List ℕ) (h : Handle) → handle_of w ≡ Some h → (w ≡ handle_text h) × IsHandle h
unfolding handle_of
handle_is w h e =
    let rest = drop (position_or_len is_dot w) w in
    let a = chosen (number_in 1 4294967295 (before_first is_dot w)) (λ s. when_some (number_in 1 4294967295 (drop 1 rest)) (λ i. Some (record { session = s; index = i }))) h e in
    let b = chosen (number_in 1 4294967295 (drop 1 rest)) (λ i. Some (record { session = a.0; index = i })) h a.2 in
    let n = numeral 1 4294967295 (before_first is_dot w) a.0 (omega arith) a.1 in
    let m = numeral 1 4294967295 (drop 1 rest) b.0 (omega arith) b.1 in
    let one : Handle = record { session = a.0; index = b.0 } in
    let is : w ≡ handle_text one =
    sym (take-append-drop (position_or_len is_dot w) w)
    ∙ ap (λ (x : List ℕ). x ++ rest) n.0
    ∙ ap (λ (x : List ℕ). decimal a.0 ++ x) (sym (after_dot rest (dotted w) (omega (arith, m.1, ap length m.0))) ∙ ap (λ (x : List ℕ). 46 ∷ x) m.0) in
    subst (λ (x : Handle). (w ≡ handle_text x) × IsHandle x) (some_is one h b.2) (is, ((n.2, n.3), (m.2, m.3)))
