-- What contracts see of a book, and the account that its state stands for.
use Rattle.std.specs.Prelude.{ℕ, List}
use Rattle.sx_call.specs.declared.entries.Noted.{Noted}
use Rattle.sx_spec.specs.Account.{Store, Account}

-- the entries, and how many there may be
pub record History : Type 0 where
  pub entries : List Noted
  pub limit : ℕ

-- the account behind so many entries that left this
abbrev pub account_of : ℕ → Store → Account
account_of came store = record { came = came; store = store }
