-- The words of the tool's commands.
use Rattle.std.specs.Prelude.{ℕ, ◌≡◌, ◌≤◌, List, [], ◌∷◌, codes, decimal, Ok}
use Rattle.sx_base.specs.Clock.{greatest_moment}
use Rattle.sx_key.specs.Answers.{credentials_of}
use Rattle.sx_key.specs.declared.account.Account.{Account}
use Rattle.sx_tool.specs.declared.words.Tool.{Tool}
use Rattle.sx_tool.specs.declared.words.Tool.TheVariants as tool

-- these words are this account's name and its key in base64
abbrev pub IsAccount : List ℕ → List ℕ → Account → Type 0
IsAccount name key account = credentials_of name key ≡ Ok (record { name = account.name; key = account.key })

-- this word is a number up to a greatest one, in decimal digits without leading zeros
abbrev pub IsNumber : List ℕ → ℕ → ℕ → Type 0
IsNumber word most number = (word ≡ decimal number) × (number ≤ most)

-- this word is a moment that a clock may tell
abbrev pub IsTicks : List ℕ → ℕ → Type 0
IsTicks word moment = IsNumber word greatest_moment moment

-- `sign ACCOUNT KEY`
pub record IsSign (words : List (List ℕ)) (account : Account) : Type 0 where
  pub name : List ℕ
  pub key : List ℕ
  pub are : words ≡ codes "sign" ∷ name ∷ key ∷ []
  pub is : IsAccount name key account

-- `check ACCOUNT KEY TICKS`
pub record IsCheck (words : List (List ℕ)) (account : Account) (now : ℕ) : Type 0 where
  pub name : List ℕ
  pub key : List ℕ
  pub ticks : List ℕ
  pub are : words ≡ codes "check" ∷ name ∷ key ∷ ticks ∷ []
  pub is : IsAccount name key account
  pub at : IsTicks ticks now

-- no command
pub record IsUnknown (words : List (List ℕ)) : Type 0 where
  pub no_sign : (account : Account) → ¬ (IsSign words account)
  pub no_check : (account : Account) (now : ℕ) → ¬ (IsCheck words account now)

-- the command that the words are; running out of memory is free
abbrev pub Spells : Tool → List (List ℕ) → Type 0
Spells (tool.Sign account) words = IsSign words account
Spells (tool.Check account now) words = IsCheck words account now
Spells tool.Unknown words = IsUnknown words
Spells tool.NoMemory words = Unit {0}
