-- A header that isn't signed leaves the signed text as it was.
use Rattle.std.proofs.Common.{◌≡◌, ℕ, true, false, List, [], ◌∷◌, ◌++◌, map, refl, sym, ap, ◌∙◌, codes}
use Rattle.std.specs.Prelude.{not, bytes_eq, if◌then◌else◌}
use Rattle.std.specs.List.{list_all, flat_map}
use Rattle.std.specs.Str.Lossy.{utf8_lossy}
use Rattle.sx_http.specs.declared.heads.Head.{Head}
use Rattle.sx_http.specs.declared.heads.Header.{Header}
use Rattle.sx_key.specs.declared.account.Account.{Account}
use Rattle.sx_key.specs.declared.fields.Field.{Field}
use Rattle.sx_key.specs.Checking.{request_date, only_date}
use Rattle.sx_key.specs.Digest.{hmac}
use Rattle.sx_http.specs.Lookup.{has_header, header_values}
use Rattle.sx_key.specs.Texts.{joined_text, text_line}
use Rattle.sx_key.specs.Fields.{field_names}
use Rattle.sx_key.specs.Signature.{joined_header, header_lines, signed_length, signed_date, names_first, names_between, names_last, standard_lines, is_ms_header, canonical_field, canonical_fields, canonical_line, canonical_headers, canonical_resource, signed_bytes, signature}
use Rattle.sx_key.proofs.Lists.{filter_without, any_without, and_parts, not_true}

-- a header with another name than those that are signed, and the headers round it
module _ (v : List ℕ) (front back : List Header) where
  abbrev given : List Header
  given = front ++ record { name = codes "authorization"; value = v } ∷ back

  pub same_values : (name : List ℕ) → bytes_eq (codes "authorization") name ≡ false → header_values name given ≡ header_values name (front ++ back)
  same_values name e = ap (map (λ (h : Header). h.value)) (filter_without (λ (h : Header). bytes_eq h.name name) (record { name = codes "authorization"; value = v }) front back e)

  same_text : (name : List ℕ) → bytes_eq (codes "authorization") name ≡ false → joined_header name given ≡ joined_header name (front ++ back)
  same_text name e = ap joined_text (same_values name e)

  pub same_has : (name : List ℕ) → bytes_eq (codes "authorization") name ≡ false → has_header name given ≡ has_header name (front ++ back)
  same_has name e = any_without (λ (h : Header). bytes_eq h.name name) (record { name = codes "authorization"; value = v }) front back e

  same_lines : (names : List (List ℕ)) → list_all (λ n. not (bytes_eq (codes "authorization") n)) names ≡ true → header_lines names given ≡ header_lines names (front ++ back)
  same_lines [] e = refl
  same_lines (n ∷ ns) e =
      let p = and_parts (not (bytes_eq (codes "authorization") n)) (list_all (λ m. not (bytes_eq (codes "authorization") m)) ns) e in
      ap (λ t. text_line t ++ header_lines ns given) (same_text n (not_true (bytes_eq (codes "authorization") n) p.0))
      ∙ ap (λ r. text_line (joined_header n (front ++ back)) ++ r) (same_lines ns p.1)

  same_length : signed_length given ≡ signed_length (front ++ back)
  same_length = ap (λ t. if bytes_eq t (codes "0") then [] else t) (same_text (codes "content-length") refl)

  same_date : signed_date given ≡ signed_date (front ++ back)
  same_date =
      ap (λ b. if b then [] else joined_header (codes "date") given) (same_has (codes "x-ms-date") refl)
      ∙ ap (λ t. if has_header (codes "x-ms-date") (front ++ back) then [] else t) (same_text (codes "date") refl)

  same_standard : (verb : List ℕ) → standard_lines verb given ≡ standard_lines verb (front ++ back)
  same_standard verb =
      ap (λ t. text_line verb ++ t ++ text_line (signed_length given) ++ header_lines names_between given ++ text_line (signed_date given) ++ header_lines names_last given) (same_lines names_first refl)
      ∙ ap (λ t. text_line verb ++ header_lines names_first (front ++ back) ++ text_line t ++ header_lines names_between given ++ text_line (signed_date given) ++ header_lines names_last given) same_length
      ∙ ap (λ t. text_line verb ++ header_lines names_first (front ++ back) ++ text_line (signed_length (front ++ back)) ++ t ++ text_line (signed_date given) ++ header_lines names_last given) (same_lines names_between refl)
      ∙ ap (λ t. text_line verb ++ header_lines names_first (front ++ back) ++ text_line (signed_length (front ++ back)) ++ header_lines names_between (front ++ back) ++ text_line t ++ header_lines names_last given) same_date
      ∙ ap (λ t. text_line verb ++ header_lines names_first (front ++ back) ++ text_line (signed_length (front ++ back)) ++ header_lines names_between (front ++ back) ++ text_line (signed_date (front ++ back)) ++ t) (same_lines names_last refl)

  same_own : canonical_fields given ≡ canonical_fields (front ++ back)
  same_own = ap (map canonical_field) (filter_without is_ms_header (record { name = codes "authorization"; value = v }) front back refl)

  same_canonical : canonical_headers given ≡ canonical_headers (front ++ back)
  same_canonical = ap (λ (fs : List Field). flat_map (canonical_line fs) (field_names fs)) same_own

  same_bytes : (head : Head) (account : List ℕ) → head.headers ≡ front ++ back → signed_bytes (record head { headers = given }) account ≡ signed_bytes head account
  same_bytes head account e =
      ap (λ t. t ++ canonical_headers given ++ canonical_resource account head.target) (same_standard head.method)
      ∙ ap (λ t. standard_lines head.method (front ++ back) ++ t ++ canonical_resource account head.target) same_canonical
      ∙ ap (λ (hs : List Header). standard_lines head.method hs ++ canonical_headers hs ++ canonical_resource account head.target) (sym e)

  pub same_signature : (head : Head) (account : Account) → head.headers ≡ front ++ back → signature (record head { headers = given }) account ≡ signature head account
  same_signature head account e = ap (λ t. hmac account.key (utf8_lossy t)) (same_bytes head account.name e)

  pub same_dated : request_date given ≡ request_date (front ++ back)
  same_dated =
      ap (λ b. if b then only_date (header_values (codes "x-ms-date") given) else only_date (header_values (codes "date") given)) (same_has (codes "x-ms-date") refl)
      ∙ ap (λ vs. if has_header (codes "x-ms-date") (front ++ back) then only_date vs else only_date (header_values (codes "date") given)) (same_values (codes "x-ms-date") refl)
      ∙ ap (λ vs. if has_header (codes "x-ms-date") (front ++ back) then only_date (header_values (codes "x-ms-date") (front ++ back)) else only_date vs) (same_values (codes "date") refl)
