-- The Authorization value that is given reads back.
use Rattle.std.proofs.Common.{◌≡◌, ℕ, zero, suc, ◌+◌, true, false, List, [], ◌∷◌, ◌++◌, length, take, drop, Some, refl, sym, ap, ◌∙◌, arith, codes, length-append, append_assoc, w32}
use Rattle.std.specs.Prelude.{◌==◌, nat_le, ◌&&◌, slice_index}
use Rattle.std.specs.Int.{to_be_bytes}
use Rattle.std.specs.List.{list_all, position_or_len, before_first, after_first}
use Rattle.std.proofs.lemmas.Bool.Decides.{nat_tests}
use Rattle.std.proofs.Math.Seq.{take-append_seam, drop-append_seam}
use Rattle.sha2.specs.Sha256.{sha256, digest_bytes}
use Rattle.sha2.proofs.Facts256.{length-sha256}
use Rattle.base64.specs.GeneralPurpose.{IsBytes, encode_of, decoded_of}
use Rattle.base64.specs.Engines.{standard}
use Rattle.base64.proofs.EngineFacts.{decode_of-encode_of}
use Rattle.base64.proofs.Streams.{decoded_of-ok}
use Rattle.sx_names.specs.Names.{is_lower_or_digit}
use Rattle.sx_key.specs.Account.{is_account_name}
use Rattle.sx_key.specs.Checking.{is_colon, signature_of}
use Rattle.sx_key.specs.Digest.{hmac}
use Rattle.sx_key.proofs.Lists.{and_parts}

no_colon : (b : ℕ) → is_lower_or_digit b ≡ true → (b == 58) ≡ false
no_colon b e = grind (arith, nat_tests)

colon_place : (name rest : List ℕ) → list_all is_lower_or_digit name ≡ true → position_or_len is_colon ((name ++ codes ":") ++ rest) ≡ length name
colon_place [] rest e = refl
colon_place (b ∷ bs) rest e =
    let p = and_parts (is_lower_or_digit b) (list_all is_lower_or_digit bs) e in
    let more = colon_place bs rest p.1 in
    rw (no_colon b p.0) (omega (arith, more))

before_colon : (name rest : List ℕ) → list_all is_lower_or_digit name ≡ true → before_first is_colon ((name ++ codes ":") ++ rest) ≡ name
before_colon name rest e =
    ap (λ n. take n ((name ++ codes ":") ++ rest)) (colon_place name rest e)
    ∙ ap (take (length name)) (append_assoc name (codes ":") rest)
    ∙ take-append_seam name (codes ":" ++ rest)

after_colon : (name rest : List ℕ) → list_all is_lower_or_digit name ≡ true → after_first is_colon ((name ++ codes ":") ++ rest) ≡ rest
after_colon name rest e =
    ap (λ n. drop n ((name ++ codes ":") ++ rest)) (ap (λ n. n + 1) (colon_place name rest e) ∙ sym (length-append name (codes ":")))
    ∙ drop-append_seam (name ++ codes ":") rest

all_lower : (name : List ℕ) → is_account_name name ≡ true → list_all is_lower_or_digit name ≡ true
all_lower name e = (and_parts (nat_le 3 (length name) && nat_le (length name) 24) (list_all is_lower_or_digit name) e).1

pub spelled_reads : (name signature : List ℕ) → is_account_name name ≡ true → length signature ≡ 32 → IsBytes signature
    → signature_of (codes "SharedKey " ++ name ++ codes ":" ++ encode_of standard signature) ≡ Some (record { account = name; signature = signature })
spelled_reads name signature named long bytes =
    let lower = all_lower name named in
    let before = before_colon name (encode_of standard signature) lower in
    let after = after_colon name (encode_of standard signature) lower in
    let read : decoded_of standard (encode_of standard signature) ≡ Some signature = decoded_of-ok standard (encode_of standard signature) signature (decode_of-encode_of standard signature refl bytes) in
    rw (before, after, named, read, long) refl

bytes_append : (xs ys : List ℕ) → IsBytes xs → IsBytes ys → IsBytes (xs ++ ys)
bytes_append [] ys a b i = b i
bytes_append (x ∷ xs) ys a b zero = a zero
bytes_append (x ∷ xs) ys a b (suc i) = bytes_append xs ys (λ k. a (suc k)) b i

word_bytes : (n : ℕ) → IsBytes (to_be_bytes w32 n)
word_bytes n zero = omega arith
word_bytes n (suc zero) = omega arith
word_bytes n (suc (suc zero)) = omega arith
word_bytes n (suc (suc (suc zero))) = omega arith
word_bytes n (suc (suc (suc (suc i)))) = omega arith

digest_is_bytes : (words : List ℕ) (n : ℕ) → IsBytes (digest_bytes words n)
unfolding digest_bytes
digest_is_bytes words zero = λ i. omega arith
digest_is_bytes words (suc n) = bytes_append (digest_bytes words n) (to_be_bytes w32 (slice_index words n)) (digest_is_bytes words n) (word_bytes (slice_index words n))

pub hmac_is_bytes : (key text : List ℕ) → IsBytes (hmac key text)
unfolding hmac sha256
hmac_is_bytes key text = digest_is_bytes _ 8

pub hmac_length : (key text : List ℕ) → length (hmac key text) ≡ 32
unfolding hmac
hmac_length key text = length-sha256 _
