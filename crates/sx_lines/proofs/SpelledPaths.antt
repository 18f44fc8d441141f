-- Paths and markers in percent-encoding are read back.
use Rattle.std.proofs.Common.{codes, ◌≡◌, ◌≢◌, ℕ, zero, suc, ◌+◌, ◌-◌, ◌≤◌, ◌<◌, Bool, true, false, not, ◌&&◌, ◌||◌, ◌==◌, List, [], ◌∷◌, ◌++◌, map, length}
use Rattle.std.proofs.Common.{refl, sym, ap, subst, ◌∙◌, arith, Option, Some, None, bytes_eq, length-append}
use Rattle.std.specs.Str.{is_utf8}
use Rattle.std.specs.List.{list_all, All, AllByRecursion, join_with_byte, slice_split}
use Rattle.std.proofs.lemmas.Bool.{ne_eqb, and_parts, and_from}
use Rattle.std.proofs.lemmas.Bool.Decides.{nat_tests}
use Rattle.std.proofs.lemmas.List.Sums.{AllPass-from_list_all}
use Rattle.std.proofs.lemmas.List.Splits.{slice_split_none, slice_split_at}
use Rattle.hex.specs.Hex.{IsBytes}
use Rattle.sx_names.specs.Names.{is_part, is_path}
use Rattle.sx_call.specs.Targets.{has_part}
use Rattle.sx_listing.specs.Percent.{percent_text, percent_byte}
use Rattle.sx_lines.specs.Fields.{decoded_if, part_of, path_of, all_of, is_slash, marker_of}
use Rattle.sx_lines.specs.Answers.{next_text}
use Rattle.sx_lines.proofs.SpelledWords.{is_visible, IsWord, both_pass, all_weaker}
use Rattle.sx_lines.proofs.SpelledBytes.{is_encoded, percent_encoded, encoded_word, byte_some, escapes_good, percent_is, utf8_bytes}

pub decoded_is : (test : List ℕ → Bool) (text : List ℕ) → is_utf8 text ≡ true → test text ≡ true → decoded_if test (percent_text text) ≡ Some text
decoded_is test text u t =
    let bytes = utf8_bytes text u in
    rw (escapes_good text bytes, percent_is text bytes, t) refl

-- the parts of a path

part_is : (part : List ℕ) → is_part part ≡ true → part_of (percent_text part) ≡ Some part
unfolding part_of
part_is part h = decoded_is is_part part (and_parts (is_utf8 part) _ h).0 h

parts_are : (parts : List (List ℕ)) → list_all is_part parts ≡ true → all_of part_of (map percent_text parts) ≡ Some parts
parts_are [] h = refl
parts_are (p ∷ parts) h =
    let both = and_parts (is_part p) (list_all is_part parts) h in
    rw (part_is p both.0, parts_are parts both.1) refl

-- words of such bytes
abbrev AreEncoded : List (List ℕ) → Type 0
AreEncoded [] = Unit {0}
AreEncoded (w ∷ ws) = (list_all is_encoded w ≡ true) × AreEncoded ws

encoded_parts : (parts : List (List ℕ)) → list_all is_part parts ≡ true → AreEncoded (map percent_text parts)
encoded_parts [] h = tt
encoded_parts (p ∷ parts) h =
    let both = and_parts (is_part p) (list_all is_part parts) h in
    (percent_encoded p (utf8_bytes p (and_parts (is_utf8 p) _ both.0).0), encoded_parts parts both.1)

encoded_not_slash : (b : ℕ) → is_encoded b ≡ true → is_slash b ≡ false
encoded_not_slash b e = grind (arith, nat_tests)

without_slash : (w : List ℕ) → list_all is_encoded w ≡ true → All (λ b. is_slash b ≡ false) w
without_slash w h k d l = encoded_not_slash _ (AllPass-from_list_all is_encoded w h k d l)

split_is : (w : List ℕ) (ws : List (List ℕ)) → AreEncoded (w ∷ ws) → slice_split is_slash (join_with_byte 47 (w ∷ ws)) ≡ w ∷ ws
split_is w [] h = slice_split_none is_slash w (without_slash w h.0)
split_is w (v ∷ ws) h =
    slice_split_at is_slash w 47 (join_with_byte 47 (v ∷ ws)) (without_slash w h.0) refl ∙ ap (λ (x : List (List ℕ)). w ∷ x) (split_is v ws h.1)

joined_word : (w : List ℕ) (ws : List (List ℕ)) → AreEncoded (w ∷ ws) → IsWord (join_with_byte 47 (w ∷ ws))
joined_word w [] h = encoded_word w h.0
joined_word w (v ∷ ws) h = both_pass is_visible w (47 ∷ join_with_byte 47 (v ∷ ws)) (encoded_word w h.0) (joined_word v ws h.1)

path_parts : (parts : List (List ℕ)) → is_path parts ≡ true → list_all is_part parts ≡ true
path_parts parts h = (and_parts (list_all is_part parts) _ (and_parts _ _ h).0).0

pub path_is : (parts : List (List ℕ)) → is_path parts ≡ true → has_part parts ≡ true → path_of (join_with_byte 47 (map percent_text parts)) ≡ Some parts
unfolding path_of
path_is [] h k = cc
path_is (p ∷ parts) h k =
    let are = path_parts (p ∷ parts) h in
    rw (split_is (percent_text p) (map percent_text parts) (encoded_parts (p ∷ parts) are), parts_are (p ∷ parts) are, h, k) refl

pub path_word : (parts : List (List ℕ)) → is_path parts ≡ true → IsWord (join_with_byte 47 (map percent_text parts))
path_word [] h = refl
path_word (p ∷ parts) h = joined_word (percent_text p) (map percent_text parts) (encoded_parts (p ∷ parts) (path_parts (p ∷ parts) h))

-- markers

encoded_not_star : (b : ℕ) → is_encoded b ≡ true → (b == 42) ≡ false
encoded_not_star b e = grind (arith, nat_tests)

not_star : (w : List ℕ) → list_all is_encoded w ≡ true → bytes_eq w (codes "*") ≡ false
not_star [] h = refl
not_star (b ∷ w) h = rw (encoded_not_star b (and_parts (is_encoded b) (list_all is_encoded w) h).0) refl

some_encoded : (w : List ℕ) → list_all is_encoded w ≡ true → 0 < length w → marker_of w ≡ decoded_if is_utf8 w
unfolding marker_of
some_encoded w h l = rw (not_star w h, ne_eqb (length w) 0 (λ q. omega (arith, q, l))) refl

percent_some : (b : ℕ) (bytes : List ℕ) → 0 < length (percent_text (b ∷ bytes))
percent_some b bytes = omega (arith, length-append (percent_byte b) (percent_text bytes), byte_some b)

next_is_percent : (b : ℕ) (bytes : List ℕ) → next_text (b ∷ bytes) ≡ percent_text (b ∷ bytes)
next_is_percent b bytes = rw (ne_eqb (length (b ∷ bytes)) 0 (λ q. omega (arith, q))) refl

pub marker_word : (marker : List ℕ) → is_utf8 marker ≡ true → IsWord (next_text marker)
marker_word [] h = refl
marker_word (b ∷ marker) h =
    subst IsWord (sym (next_is_percent b marker)) (encoded_word (percent_text (b ∷ marker)) (percent_encoded (b ∷ marker) (utf8_bytes (b ∷ marker) h)))

pub marker_is : (marker : List ℕ) → is_utf8 marker ≡ true → marker_of (next_text marker) ≡ Some marker
unfolding marker_of
marker_is [] h = refl
marker_is (b ∷ marker) h =
    ap marker_of (next_is_percent b marker)
    ∙ some_encoded (percent_text (b ∷ marker)) (percent_encoded (b ∷ marker) (utf8_bytes (b ∷ marker) h)) (percent_some b marker)
    ∙ decoded_is is_utf8 (b ∷ marker) h h
