-- The names of accounts are ASCII.
use Rattle.std.proofs.Common.{◌≡◌, ℕ, ◌<◌, Bool, true, false, List, ◌++◌, arith, length, codes, refl}
use Rattle.std.specs.Prelude.{nat_lt, nat_le, ◌&&◌}
use Rattle.std.specs.List.{list_all}
use Rattle.std.specs.Str.{IsAscii, is_utf8}
use Rattle.std.proofs.lemmas.Bool.Decides.{nat_tests}
use Rattle.std.proofs.lemmas.Str.{IsAscii-append, IsUtf8-from_ascii, is_utf8-from_IsUtf8}
use Rattle.std.proofs.lemmas.Str.Ascii.{IsAscii-from_all}
use Rattle.std.proofs.lemmas.List.Sums.{AllPass-from_list_all}
use Rattle.sx_names.specs.Names.{is_lower_or_digit}
use Rattle.base64.specs.GeneralPurpose.{encode_of}
use Rattle.base64.specs.Engines.{standard}
use Rattle.base64.proofs.EngineFacts.{IsAscii-encode_of}
use Rattle.sx_http.specs.declared.heads.Head.{Head}
use Rattle.sx_key.specs.declared.account.Account.{Account}
use Rattle.sx_key.specs.Account.{is_account_name}
use Rattle.sx_key.specs.Signature.{signature, authorization}

small : (b : ℕ) → is_lower_or_digit b ≡ true → b < 128
small b e = grind (arith, nat_tests)

last_holds : (a b : Bool) → (a && b) ≡ true → b ≡ true
last_holds true b e = e
last_holds false b e = cc

all_lower : (name : List ℕ) → is_account_name name ≡ true → list_all is_lower_or_digit name ≡ true
all_lower name e = last_holds (nat_le 3 (length name) && nat_le (length name) 24) (list_all is_lower_or_digit name) e

pub name_is_ascii : (name : List ℕ) → is_account_name name ≡ true → IsAscii name
name_is_ascii name e = IsAscii-from_all name (λ k d lt. small _ (AllPass-from_list_all is_lower_or_digit name (all_lower name e) k d lt))

pub name_is_utf8 : (name : List ℕ) → is_account_name name ≡ true → is_utf8 name ≡ true
name_is_utf8 name e = is_utf8-from_IsUtf8 name (IsUtf8-from_ascii name (name_is_ascii name e))

below : (b : ℕ) → nat_lt b 128 ≡ true → b < 128
below b e = grind (arith, nat_tests)

literal_is_ascii : (bs : List ℕ) → list_all (λ b. nat_lt b 128) bs ≡ true → IsAscii bs
literal_is_ascii bs e = IsAscii-from_all bs (λ k d lt. below _ (AllPass-from_list_all (λ b. nat_lt b 128) bs e k d lt))

pub authorization_is_utf8 : (head : Head) (account : Account) → is_utf8 (authorization head account) ≡ true
authorization_is_utf8 head account =
    let signed = encode_of standard (signature head account) in
    let first = IsAscii-append (codes "SharedKey ") account.name (literal_is_ascii (codes "SharedKey ") refl) (name_is_ascii account.name account.named) in
    let next = IsAscii-append (codes "SharedKey " ++ account.name) (codes ":") first (literal_is_ascii (codes ":") refl) in
    let all = IsAscii-append (codes "SharedKey " ++ account.name ++ codes ":") signed next (IsAscii-encode_of standard (signature head account)) in
    is_utf8-from_IsUtf8 (authorization head account) (IsUtf8-from_ascii (authorization head account) all)
