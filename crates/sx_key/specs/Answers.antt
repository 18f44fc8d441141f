-- What calls answer of accounts and of signed requests.
use Rattle.std.specs.Prelude.{ℕ, ◌≡◌, List, Option, Some, None, Result, Ok, Err, ⊤, if◌then◌else◌}
use Rattle.sx_key.specs.declared.account.Account.{Account}
use Rattle.sx_key.specs.declared.account.AccountFault.{AccountFault}
use Rattle.sx_key.specs.declared.account.AccountFault.TheVariants.{BadName, BadKey, NoMemory as WantsMemory}
use Rattle.sx_key.specs.declared.fault.AuthFault.{AuthFault}
use Rattle.sx_key.specs.declared.fault.AuthFault.TheVariants.{NoMemory}
use Rattle.sx_key.specs.Account.{is_account_name, key_of}

-- an account's name and key
pub record Credentials : Type 0 where
  pub name : List ℕ
  pub key : List ℕ

-- the key of that name, where the text spells one
abbrev pub with_key : List ℕ → Option (List ℕ) → Result Credentials AccountFault
with_key name None = Err BadKey
with_key name (Some key) = Ok (record { name = name; key = key })

-- the account that two words spell, or the first fault
abbrev pub credentials_of : List ℕ → List ℕ → Result Credentials AccountFault
credentials_of name key = if is_account_name name then with_key name (key_of key) else Err BadName

-- the call answers this, or lacked memory
abbrev pub ReadsAccount : Result Account AccountFault → Result Credentials AccountFault → Type 0
ReadsAccount (Ok a) d = d ≡ Ok (record { name = a.name; key = a.key })
ReadsAccount (Err WantsMemory) d = ⊤
ReadsAccount (Err e) d = d ≡ Err e

-- what is found of a request, or the first fault
abbrev pub Checked : Type 0 → Type 0
Checked A = Result A AuthFault

-- one after another: the first fault stands
abbrev pub with_next : {A B : Type 0} → Checked A → (A → Checked B) → Checked B
with_next (Ok a) f = f a
with_next (Err e) f = Err e

-- the call answers this, or lacked memory
abbrev pub Answers : {A : Type 0} → Checked A → Checked A → Type 0
Answers (Ok a) d = d ≡ Ok a
Answers (Err NoMemory) d = ⊤
Answers (Err e) d = d ≡ Err e
