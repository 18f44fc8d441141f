-- What is signed passes the check while its date is timely.
use Rattle.std.proofs.Common.{◌≡◌, ℕ, true, List, [], ◌∷◌, ◌++◌, map, Ok, Err, refl, sym, ap, ◌∙◌, codes}
use Rattle.std.specs.Prelude.{bytes_eq}
use Rattle.std.specs.List.{filter}
use Rattle.std.proofs.lemmas.Slice.Eq.{bytes_eq-Decides}
use Rattle.sx_http.specs.declared.heads.Head.{Head}
use Rattle.sx_http.specs.declared.heads.Header.{Header}
use Rattle.sx_key.specs.declared.account.Account.{Account}
use Rattle.sx_key.specs.Answers.{Checked, with_next}
use Rattle.sx_key.specs.Checking.{sent_signature, request_date, check_date}
use Rattle.sx_key.specs.Laws.{SignedPasses, authorization_header, signed_head}
use Rattle.sx_http.specs.Lookup.{header_values}
use Rattle.sx_key.specs.Signature.{signature, authorization, string_to_sign}
use Rattle.sx_key.proofs.Lists.{filter_alone, no_items}
use Rattle.sx_key.proofs.Same.{same_dated, same_signature}
use Rattle.sx_key.proofs.Spelled.{spelled_reads, hmac_is_bytes, hmac_length}

same_as_itself : (xs : List ℕ) → bytes_eq xs xs ≡ true
same_as_itself xs = (bytes_eq-Decides xs xs).1 refl

next_ok : (r : Checked (Unit {0})) → with_next r (λ _. Ok tt) ≡ r
next_ok (Ok u) = refl
next_ok (Err e) = refl

-- the one Authorization header
one_value : (head : Head) (account : Account) (front back : List Header) → header_values (codes "authorization") (front ++ back) ≡ []
    → header_values (codes "authorization") (front ++ authorization_header head account ∷ back) ≡ authorization head account ∷ []
one_value head account front back none =
    let p = λ (h : Header). bytes_eq h.name (codes "authorization") in
    let nothing = no_items (λ (h : Header). h.value) (filter p (front ++ back)) none in
    ap (map (λ (h : Header). h.value)) (filter_alone p (authorization_header head account) front back refl nothing)

one_sent : (head : Head) (account : Account) (front back : List Header) → header_values (codes "authorization") (front ++ back) ≡ []
    → sent_signature (front ++ authorization_header head account ∷ back) ≡ Ok (record { account = account.name; signature = signature head account })
one_sent head account front back none =
    let read = spelled_reads account.name (signature head account) account.named (hmac_length account.key (string_to_sign head account.name)) (hmac_is_bytes account.key (string_to_sign head account.name)) in
    rw (one_value head account front back none, read) refl

pub signed_passes : SignedPasses
signed_passes head account front back date now e none is_date =
    let absent : header_values (codes "authorization") (front ++ back) ≡ [] = ap (header_values (codes "authorization")) (sym e) ∙ none in
    let read : request_date (front ++ authorization_header head account ∷ back) ≡ Ok date = same_dated (authorization head account) front back ∙ ap request_date (sym e) ∙ is_date in
    let signs : signature (signed_head head account front back) account ≡ signature head account = same_signature (authorization head account) front back head account e in
    rw (one_sent head account front back absent, same_as_itself account.name, read, signs, same_as_itself (signature head account)) (next_ok (check_date date now))
