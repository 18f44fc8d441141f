-- The first fault of a signed request ("Authorize with Shared Key" of Azure Storage).
use Rattle.std.specs.Prelude.{ℕ, ◌==◌, ◌*◌, ◌-◌, Bool, nat_lt, nat_eq, List, [], ◌∷◌, length, drop, bytes_eq, codes}
use Rattle.std.specs.Prelude.{if◌then◌else◌, Option, Some, None, option_map, Ok, Err}
use Rattle.std.specs.List.{before_first, after_first, starts_with}
use Rattle.base64.specs.GeneralPurpose.{decoded_of}
use Rattle.base64.specs.Engines.{standard}
use Rattle.httpdate.specs.Date.{parse_secs}
use Rattle.sx_http.specs.declared.heads.Head.{Head}
use Rattle.sx_http.specs.declared.heads.Header.{Header}
use Rattle.sx_key.specs.declared.account.Account.{Account}
use Rattle.sx_key.specs.declared.sent.SentSignature.{SentSignature}
use Rattle.sx_key.specs.declared.fault.AuthFault.TheVariants.{NoHeader, BadHeader, OtherAccount, NoDate, BadDate}
use Rattle.sx_key.specs.declared.fault.AuthFault.TheVariants.{TooOld, TooNew, Differs}
use Rattle.sx_key.specs.Account.{is_account_name}
use Rattle.sx_key.specs.Answers.{Checked, with_next}
use Rattle.sx_http.specs.Lookup.{has_header, header_values}
use Rattle.sx_key.specs.declared.checking.TheConstants.{DATE_WINDOW}
use Rattle.sx_key.specs.Signature.{signature}

-- a signature has the 32 bytes of SHA-256
abbrev pub signature_by : List ℕ → Option (List ℕ) → Option SentSignature
signature_by name None = None
signature_by name (Some bytes) = if length bytes == 32 then Some
    (record { account = name; signature = bytes }) else None

-- `:`
abbrev pub is_colon : ℕ → Bool
is_colon b = b == 58

-- `NAME:SIGNATURE`, the signature in strict base64
abbrev pub signature_in : List ℕ → Option SentSignature
signature_in text =
    if is_account_name (before_first is_colon text)
    then signature_by (before_first is_colon text) (decoded_of standard (after_first is_colon text))
    else None

-- what an Authorization value says, if it is of the form `SharedKey NAME:SIGNATURE`
abbrev pub signature_of : List ℕ → Option SentSignature
signature_of value = if starts_with nat_eq value (codes "SharedKey ") then signature_in (drop 10 value) else None

-- the signature, where the value is of the form
abbrev pub or_bad_header : Option SentSignature → Checked SentSignature
or_bad_header None = Err BadHeader
or_bad_header (Some signature) = Ok signature

-- what the one value of Authorization says
abbrev pub only_signature : List (List ℕ) → Checked SentSignature
only_signature [] = Err NoHeader
only_signature (value ∷ []) = or_bad_header (signature_of value)
only_signature (v ∷ w ∷ more) = Err BadHeader

-- what the headers say of the signature
abbrev pub sent_signature : List Header → Checked SentSignature
sent_signature headers = only_signature (header_values (codes "authorization") headers)

-- the signature is of the account with that name
abbrev pub check_account : List ℕ → SentSignature → Checked (Unit {0})
check_account name s = if bytes_eq s.account name then Ok tt else Err OtherAccount

-- the moment of a date of HTTP (RFC 9110, section 5.6.7), in ticks of 100 ns
abbrev pub date_moment : List ℕ → Option ℕ
date_moment text = option_map (λ seconds. seconds * 10000000) (parse_secs text)

-- the moment, where there is one
abbrev pub or_bad_date : Option ℕ → Checked ℕ
or_bad_date None = Err BadDate
or_bad_date (Some moment) = Ok moment

-- the moment of the one value of a date's header
abbrev pub only_date : List (List ℕ) → Checked ℕ
only_date [] = Err NoDate
only_date (value ∷ []) = or_bad_date (date_moment value)
only_date (v ∷ w ∷ more) = Err BadDate

-- the moment of `x-ms-date`, else of Date
abbrev pub request_date : List Header → Checked ℕ
request_date headers =
    if has_header (codes "x-ms-date") headers
    then only_date (header_values (codes "x-ms-date") headers)
    else only_date (header_values (codes "date") headers)

-- the date is at most 15 minutes before or after now
abbrev pub check_date : ℕ → ℕ → Checked (Unit {0})
check_date date now =
    if nat_lt DATE_WINDOW (now - date) then Err (TooOld date now)
    else if nat_lt DATE_WINDOW (date - now) then Err (TooNew date now)
    else Ok tt

-- the computed signature is the sent one
abbrev pub check_signature : List ℕ → SentSignature → Checked (Unit {0})
check_signature computed s = if bytes_eq computed s.signature then Ok tt else Err Differs

-- the first fault of a request at a moment, or none
abbrev pub auth : Head → Account → ℕ → Checked (Unit {0})
auth head account now =
    with_next (sent_signature head.headers) (λ s.
    with_next (check_account account.name s) (λ _.
    with_next (request_date head.headers) (λ date.
    with_next (check_date date now) (λ _.
    check_signature (signature head account) s))))
