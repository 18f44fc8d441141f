-- Strict base64 of 16 bytes.
use Rattle.std.proofs.Common.{◌≡◌, ℕ, List, ◌++◌, length, refl, ap, ◌∙◌, arith, Some, None, Result, Ok, Err, true}
use Rattle.std.proofs.Common.{length-append, append-nil, ne_eqb, sym, replicate}
use Rattle.std.proofs.lemmas.List.{drop_all}
use Rattle.std.specs.Result.{result_ok}
use Rattle.base64.specs.declared.decode.DecodeError.{DecodeError}
use Rattle.base64.specs.GeneralPurpose.{IsBytes, IsStrict, IsConsistent, IsEncodedOver, decode_of, decoded_of, encode_of, encoded_size_of}
use Rattle.base64.specs.Engines.{standard}
use Rattle.base64.specs.Rfc4648.{encode_symbols, encode}
use Rattle.base64.proofs.EngineFacts.{decode_of_strict, decode_of-encode_of}
use Rattle.base64.proofs.RoundTrip.{length-encode_symbols}
use Rattle.sx_names.specs.Content.{md5_of, if_16}

strict : IsStrict standard
strict = (refl, refl)

consistent : IsConsistent standard
consistent = refl

encoded_with : (symbols bytes : List ℕ) → length bytes ≡ 16 → length (encode symbols 61 true bytes) ≡ 24
encoded_with symbols bytes count =
    rw (count, length-append (encode_symbols symbols bytes) (replicate 2 61), length-encode_symbols symbols bytes, count) refl

encoded_length : (bytes : List ℕ) → length bytes ≡ 16 → length (encode_of standard bytes) ≡ 24
encoded_length bytes count = encoded_with standard.encode_table bytes count

-- a text that is the strict base64 of 16 bytes has 24
text_length : (text bytes : List ℕ) → IsBytes text → decode_of standard text ≡ Ok bytes → length bytes ≡ 16 → length text ≡ 24
text_length text bytes small ok count =
    ap length (decode_of_strict standard text bytes strict small ok) ∙ encoded_length bytes count

some_if : (r : Result (List ℕ) DecodeError) (bytes : List ℕ) → r ≡ Ok bytes → length bytes ≡ 16 → Some bytes ≡ if_16 (result_ok r)
some_if r bytes ok count = rw (ok, count) refl

none_if : (r : Result (List ℕ) DecodeError) (bytes : List ℕ) → r ≡ Ok bytes → (length bytes ≡ 16 → ⊥) → None ≡ if_16 (result_ok r)
none_if r bytes ok other = rw (ok, ne_eqb (length bytes) 16 other) refl

none_else : (r : Result (List ℕ) DecodeError) (error : DecodeError) → r ≡ Err error → None ≡ if_16 (result_ok r)
none_else r error failed = rw failed refl

-- such a text is the digest
pub md5_some : (text bytes : List ℕ) → decode_of standard text ≡ Ok bytes → length bytes ≡ 16 → Some bytes ≡ md5_of text
unfolding md5_of decoded_of
md5_some text bytes ok count = some_if (decode_of standard text) bytes ok count

-- of another number of bytes it isn't
pub md5_other : (text bytes : List ℕ) → decode_of standard text ≡ Ok bytes → (length bytes ≡ 16 → ⊥) → None ≡ md5_of text
unfolding md5_of decoded_of
md5_other text bytes ok other = none_if (decode_of standard text) bytes ok other

-- a text that isn't base64 is none
pub md5_error : (text : List ℕ) (error : DecodeError) → decode_of standard text ≡ Err error → None ≡ md5_of text
unfolding md5_of decoded_of
md5_error text error failed = none_else (decode_of standard text) error failed

by_result : (text : List ℕ) → IsBytes text → (length text ≡ 24 → ⊥) → (r : Result (List ℕ) DecodeError) → decode_of standard text ≡ r → None ≡ md5_of text
by_result text small other (Ok bytes) is = md5_other text bytes is (λ count. other (text_length text bytes small is count))
by_result text small other (Err error) is = md5_error text error is

-- nor is a text of another length
pub md5_none : (text : List ℕ) → IsBytes text → (length text ≡ 24 → ⊥) → None ≡ md5_of text
md5_none text small other = by_result text small other (decode_of standard text) refl

-- what is written over 24 bytes is the whole base64
pub encoded_whole : (bytes old new : List ℕ) → length bytes ≡ 16 → length old ≡ 24 → IsEncodedOver standard bytes old new → new ≡ encode_of standard bytes
encoded_whole bytes old new count room written =
    let size : encoded_size_of standard (length bytes) ≡ 24 = rw count refl in
    written ∙ ap (λ rest. encode_of standard bytes ++ rest) (drop_all _ old (omega (arith, room, size))) ∙ append-nil _

-- the base64 of 16 bytes is read as these
pub md5_read : (bytes : List ℕ) → IsBytes bytes → length bytes ≡ 16 → md5_of (encode_of standard bytes) ≡ Some bytes
md5_read bytes small count =
    sym (md5_some (encode_of standard bytes) bytes (decode_of-encode_of standard bytes consistent small) count)
