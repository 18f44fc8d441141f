-- The longest front of some bytes that is UTF-8, and the characters that came off a text.
use Rattle.std.proofs.Common.{◌≡◌, ℕ, zero, suc, ◌+◌, ◌≤◌, Bool, true, false, List, [], ◌∷◌, ◌++◌, map, length, chars, encode_utf8, encode_utf8_all, IsUtf8, refl, sym, ap, ◌∙◌, arith, append_assoc, length-append, nat_lt, take, subst, zero-add}
use Rattle.std.specs.Str.{is_utf8, IsValidUpTo}
use Rattle.std.proofs.lemmas.Str.{IsUtf8-past_char, chars_past_char, IsUtf8-from_is_utf8, is_utf8-from_IsUtf8}
use Rattle.std.proofs.lemmas.Bool.{ltb-true, ltb-false}
use Rattle.std.specs.Iterator.{Yields}
use Rattle.std.specs.Str.Iter.{char_indices_steps, char_indices_rest, char_indices_offset}
use Rattle.sx_names.specs.Fault.{utf8_front}

not_true : (b : Bool) → (b ≡ true → ⊥) → b ≡ false
not_true true h = absurd (h refl)
not_true false h = refl

-- bytes that have a longest UTF-8 front are not all UTF-8
pub not_utf8 : (bs : List ℕ) → (IsUtf8 bs → ⊥) → is_utf8 bs ≡ false
not_utf8 bs h = not_true (is_utf8 bs) (λ e. h (IsUtf8-from_is_utf8 bs e))

front_more : (bs : List ℕ) (n m : ℕ) → IsValidUpTo bs n → n ≤ suc m → (n ≤ m → utf8_front bs m ≡ n) → (b : Bool) → nat_lt n (suc m) ≡ b → utf8_front bs (suc m) ≡ n
front_more bs n m valid le less true e =
    let longer : is_utf8 (take (suc m) bs) ≡ false = not_utf8 (take (suc m) bs) (valid.longest (suc m) (ltb-true n (suc m) e)) in
    rw longer (less (omega (arith, ltb-true n (suc m) e)))
front_more bs n m valid le less false e =
    let same : suc m ≡ n = omega (arith, ltb-false n (suc m) e, le) in
    let front : is_utf8 (take (suc m) bs) ≡ true = subst (λ k. is_utf8 (take k bs) ≡ true) (sym same) (is_utf8-from_IsUtf8 (take n bs) valid.front) in
    rw front same

-- the longest UTF-8 front of at most so many bytes
pub front_is : (bs : List ℕ) (n m : ℕ) → IsValidUpTo bs n → n ≤ m → utf8_front bs m ≡ n
front_is bs n zero valid le = omega (arith, le)
front_is bs n (suc m) valid le = front_more bs n m valid le (front_is bs n m valid) (nat_lt n (suc m)) refl

-- the characters came off the front of the text, and leave the rest from the offset on
pub record ComeOff (text : List ℕ) (from : ℕ) (cs rest : List ℕ) (offset : ℕ) : Type 0 where
  pub bytes : text ≡ encode_utf8_all cs ++ rest
  pub read : chars text ≡ cs ++ chars rest
  pub utf8 : IsUtf8 rest
  pub at : offset ≡ from + length (encode_utf8_all cs)

pub come_off : (xs : List (ℕ × ℕ)) (s t : _) → IsUtf8 (char_indices_rest s) → Yields char_indices_steps s xs t →
    ComeOff (char_indices_rest s) (char_indices_offset s) (map (λ x. x.1) xs) (char_indices_rest t) (char_indices_offset t)
come_off [] s t utf8 same = rw (← same) (record { bytes = refl; read = refl; utf8 = utf8; at = omega arith })
come_off (x ∷ xs) s t utf8 y =
    let step = y.1 in
    let more = come_off xs y.0 t (IsUtf8-past_char _ _ x.1 utf8 step.1) y.2 in
    let cs = map (λ (p : ℕ × ℕ). p.1) xs in record {
      bytes = step.1 ∙ ap (λ l. encode_utf8 x.1 ++ l) more.bytes ∙ sym (append_assoc (encode_utf8 x.1) (encode_utf8_all cs) _);
      read = chars_past_char _ _ x.1 utf8 step.1 ∙ ap (λ l. x.1 ∷ l) more.read;
      utf8 = more.utf8;
      at = omega (arith, more.at, step.2, length-append (encode_utf8 x.1) (encode_utf8_all cs));
    }

-- the place of the character behind so many
pub place_after : {text cs rest : List ℕ} {offset : ℕ} (n : ℕ) → ComeOff text 0 cs rest offset → take n (chars text) ≡ cs → offset ≡ length (encode_utf8_all (take n (chars text)))
place_after n h e = rw e (h.at ∙ zero-add _)
