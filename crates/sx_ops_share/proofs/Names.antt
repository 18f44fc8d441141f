-- The name of a share is a text.
use Rattle.std.proofs.Common.{◌≡◌, ◌∙◌, ap, refl, Option, Some, None, ℕ, ◌-◌, ◌<◌, Bool, true, false, not, List, arith, length}
use Rattle.std.specs.Prelude.{if◌then◌else◌, nat_le, slice_index, ◌&&◌}
use Rattle.std.specs.List.{list_all, list_any, range_with_len}
use Rattle.std.specs.Str.{is_utf8}
use Rattle.std.proofs.lemmas.Bool.Decides.{nat_tests}
use Rattle.std.proofs.lemmas.Str.{IsUtf8-from_ascii, is_utf8-from_IsUtf8}
use Rattle.std.proofs.lemmas.Str.Ascii.{IsAscii-from_all}
use Rattle.std.proofs.lemmas.List.Sums.{AllPass-from_list_all}
use Rattle.sx_names.specs.Names.{is_share_name, is_share_byte, is_lower_or_digit, is_hyphens_at}
use Rattle.sx_names.specs.declared.share.TheConstants.{MIN_SHARE_BYTES, MAX_SHARE_BYTES}

small : (b : ℕ) → is_share_byte b ≡ true → b < 128
small b e = grind (arith, nat_tests)

first : (a b : Bool) → (a && b) ≡ true → a ≡ true
first true b e = refl
first false b e = e

second : (a b : Bool) → (a && b) ≡ true → b ≡ true
second true b e = e
second false b e = cc

third : (a b c d e f : Bool) → (a && b && c && d && e && f) ≡ true → c ≡ true
third a b c d e f h = second (a && b) c (first (a && b && c) d (first (a && b && c && d) e (first (a && b && c && d && e) f h)))

all_bytes : (name : List ℕ) → is_share_name name ≡ true → list_all is_share_byte name ≡ true
all_bytes name h =
    third (nat_le MIN_SHARE_BYTES (length name)) (nat_le (length name) MAX_SHARE_BYTES) (list_all is_share_byte name)
    (is_lower_or_digit (slice_index name 0)) (is_lower_or_digit (slice_index name (length name - 1)))
    (not (list_any (is_hyphens_at name) (range_with_len 0 (length name)))) h

-- the name of a share is UTF-8
pub share_name_is_utf8 : (name : List ℕ) → is_share_name name ≡ true → is_utf8 name ≡ true
share_name_is_utf8 name h = is_utf8-from_IsUtf8 name (IsUtf8-from_ascii name (IsAscii-from_all name (λ k d lt. small _ (AllPass-from_list_all is_share_byte name (all_bytes name h) k d lt))))

-- bytes that are the name of a share are never none as a text
pub share_name_is_text : (name bytes : List ℕ) (text : Option (List ℕ)) → is_share_name name ≡ true → bytes ≡ name → text ≡ (if is_utf8 bytes then Some bytes else None) → text ≡ None → ⊥
share_name_is_text name bytes text named same is none =
    let utf8 : is_utf8 bytes ≡ true = ap is_utf8 same ∙ share_name_is_utf8 name named in
    let some : text ≡ Some bytes = rw utf8 at is in
    cc
