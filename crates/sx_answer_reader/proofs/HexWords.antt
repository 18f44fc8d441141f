-- Bytes in hexadecimal digits as a word, and read back.
use Rattle.std.proofs.Common.{codes, ◌≡◌, ℕ, ◌<◌, Bool, true, false, cond, ◌&&◌, List, [], ◌∷◌, length, Some, Result, Ok, Err, bytes_eq}
use Rattle.std.proofs.Common.{refl, sym, ap, subst, ◌∙◌, arith}
use Rattle.std.proofs.lemmas.Bool.{ne_eqb}
use Rattle.hex.specs.Hex.{encode_lower, encode_with, decode_of, IsBytes}
use Rattle.hex.specs.declared.error.FromHexError.{FromHexError}
use Rattle.hex.proofs.HexLemmas.{decode_of-ok}
use Rattle.sx_lines.specs.Fields.{decoded_bytes, hex_bytes_of}
use Rattle.sx_lines.proofs.SpelledWords.{IsWord}
use Rattle.sx_lines.proofs.SpelledBytes.{hex_word, hex_is}
use Rattle.sx_answer_reader.specs.Answers.{hex_text}
use Rattle.sx_answer_reader.specs.Words.{digits_or_dash, written_as, bytes_of}
use Rattle.sx_answer_reader.proofs.Walks.{chosen}
use Rattle.sx_answer_reader.proofs.WrittenFields.{some_is, same_text, kept_if}
use Rattle.sx_answer_reader.proofs.MessageBack.{same_word}

some_text : (b : ℕ) (bytes : List ℕ) → hex_text (b ∷ bytes) ≡ encode_lower (b ∷ bytes)
some_text b bytes = rw (ne_eqb (length (b ∷ bytes)) 0 (λ q. omega (arith, q))) refl

pub hex_visible : (bytes : List ℕ) → IsBytes bytes → IsWord (hex_text bytes)
hex_visible [] h = refl
hex_visible (b ∷ bytes) h = subst IsWord (sym (some_text b bytes)) (hex_word (b ∷ bytes) h)

hex_some : (bytes : List ℕ) → 0 < length (hex_text bytes)
unfolding encode_with
hex_some [] = omega arith
hex_some (b ∷ bytes) = subst (λ (w : List ℕ). 0 < length w) (sym (some_text b bytes)) (omega arith)

-- ---- only printed

no_bytes : IsBytes []
no_bytes i = omega arith

decoded_ok : (r : Result (List ℕ) FromHexError) (bytes : List ℕ) → decoded_bytes r ≡ Some bytes → r ≡ Ok bytes
decoded_ok (Ok x) bytes e = ap Ok (some_is x bytes e)
decoded_ok (Err error) bytes e = cc

are_bytes : (w bytes : List ℕ) → digits_or_dash w ≡ Some bytes → IsBytes bytes
are_bytes w bytes e =
    elim (bytes_eq w (codes "-")) as (λ (b : Bool). cond b (Some []) (hex_bytes_of w) ≡ Some bytes → IsBytes bytes) [
      | true ↦ λ q. subst IsBytes (some_is [] bytes q) no_bytes
      | false ↦ λ q. (decode_of-ok w bytes (decoded_ok (decode_of w) bytes q)).3
    ] e

pub bytes_is : (w bytes : List ℕ) → bytes_of w ≡ Some bytes → (w ≡ hex_text bytes) × (0 < length (hex_text bytes)) × IsBytes bytes
unfolding bytes_of
bytes_is w bytes e =
    let a = chosen (digits_or_dash w) (λ x. written_as x w) bytes e in
    let t = kept_if (bytes_eq (hex_text a.0) w) a.0 bytes a.2 in
    (sym (same_text (hex_text a.0) w t.0) ∙ ap (λ (x : List ℕ). hex_text x) t.1, hex_some bytes, subst IsBytes t.1 (are_bytes w a.0 a.1))

-- ---- read back

written_same : (bytes w : List ℕ) → hex_text bytes ≡ w → written_as bytes w ≡ Some bytes
written_same bytes w e = subst (λ (x : List ℕ). written_as bytes x ≡ Some bytes) e (rw (same_word (hex_text bytes)) refl)

never : (b : Bool) → (b && false) ≡ false
never true = refl
never false = refl

no_dash : (b : ℕ) (bytes : List ℕ) → bytes_eq (encode_lower (b ∷ bytes)) (codes "-") ≡ false
unfolding encode_with
no_dash b bytes = never _

bytes_by : (w bytes : List ℕ) → bytes_eq w (codes "-") ≡ false → hex_bytes_of w ≡ Some bytes → hex_text bytes ≡ w → bytes_of w ≡ Some bytes
unfolding bytes_of
bytes_by w bytes n h e = rw (n, h) (written_same bytes w e)

pub bytes_back : (bytes : List ℕ) → IsBytes bytes → bytes_of (hex_text bytes) ≡ Some bytes
unfolding bytes_of
bytes_back [] h = refl
bytes_back (b ∷ bytes) h =
    ap bytes_of (some_text b bytes)
    ∙ bytes_by (encode_lower (b ∷ bytes)) (b ∷ bytes) (no_dash b bytes) (hex_is (b ∷ bytes) h) (some_text b bytes)
