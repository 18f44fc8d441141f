-- What `conn ACCOUNT KEY` does: it serves one connection over the program's input and output.
use Rattle.std.specs.Prelude.{ℕ, codes, ◌+◌, ◌≡◌, ◌≤◌, ◌⊎◌, List, [], ◌∷◌, Result, Ok, Err}
use Rattle.std.specs.List.{AllByRecursion}
use Rattle.sx_call.specs.declared.entries.Noted.{Noted}
use Rattle.sx_key.specs.declared.account.Account.{Account}
use Rattle.sx_spec.specs.History.{IsHistory}
use Rattle.sx_turn.specs.Seats.{TableId}
use Rattle.sx_book.specs.History.{History}
use Rattle.sx_book.specs.Passes.{PassView, first_pass, new_pass, pass_after_look}
use Rattle.sx_book.specs.declared.report.ConnReport.{ConnReport}
use Rattle.sx_rest_door.specs.Conversation.{RestConversation, RestLinkState, RestVisit}
use Rattle.sx_tool.specs.Typed.{IsAccount}
use Rattle.sharebox.specs.declared.command.WordsFault.{WordsFault}
use Rattle.sharebox.specs.declared.command.WordsFault.TheVariants.{Unknown, NoMemory}
use Rattle.sharebox.specs.Limits.{history_limit, session_caller, input_budget, status_after_close}

-- `conn ACCOUNT KEY`
pub record IsConn (words : List (List ℕ)) (account : Account) : Type 0 where
  pub name : List ℕ
  pub key : List ℕ
  pub are : words ≡ codes "conn" ∷ name ∷ key ∷ []
  pub is : IsAccount name key account

-- the words are `conn ACCOUNT KEY` for no account
abbrev pub IsNoConn : List (List ℕ) → Type 0
IsNoConn words = (account : Account) → ¬ (IsConn words account)

-- the account of the words, where they are `conn ACCOUNT KEY`; running out of memory is free
abbrev pub SpellsConn : Result Account WordsFault → List (List ℕ) → Type 0
SpellsConn (Ok account) words = IsConn words account
SpellsConn (Err Unknown) words = IsNoConn words
SpellsConn (Err NoMemory) words = Unit {0}

-- the connection has a pass of number 1, and nothing was seen
pub record HasSplit (office : TableId) (main pass : PassView) : Type 0 where
  pub main_is : main ≡ pass_after_look [] (session_caller + 1) (first_pass office history_limit)
  pub pass_is : pass ≡ new_pass main session_caller []

-- the program's connection in the history of these entries
abbrev pub conn_visit : Account → List Noted → RestVisit
conn_visit account entries = record {
  who = session_caller;
  account = account;
  budget = input_budget;
  history = record { entries = entries; limit = history_limit };
  from = 0;
}

-- how the office was closed: its book is the history of these entries, all of which are the connection's; or it could
-- not be closed, since so many passes were out
abbrev pub ClosesAll : Result History ℕ → List Noted → Type 0
ClosesAll (Ok book) entries =
    (book ≡ record { entries = entries; limit = history_limit })
    × AllByRecursion (λ n. n.entry.who ≡ session_caller) entries
ClosesAll (Err out) entries = 1 ≤ out

-- the connection was served and the office closed, all in one legal history
pub record ServesConn {C R : Type 0} (ticks : C → ℕ → C → Type 0) (draws : R → ℕ → R → Type 0) (account : Account)
    (wrote wrote' : List ℕ → Type 0) (old new : RestLinkState C R) (status : ℕ)
    : Type 0 where
  pub entries : List Noted
  pub legal : IsHistory history_limit entries
  pub report : ConnReport
  pub conversation : RestConversation ticks draws wrote wrote' (conn_visit account entries) old new report
  pub closed : Result History ℕ
  pub closing : ClosesAll closed entries
  pub status_is : status ≡ status_after_close closed report

-- no memory was left before the connection, or the office gave no pass for it: nothing was read or written
pub record LacksConn {K C R : Type 0} (out out' : K) (old new : RestLinkState C R) (status : ℕ) : Type 0 where
  pub status_is : status ≡ 5
  pub out_same : out' ≡ out
  pub same : new ≡ old

-- what a connection of an account does
abbrev pub IsConnRun : {K C R : Type 0} → (K → List ℕ → Type 0) → (C → ℕ → C → Type 0) → (R → ℕ → R → Type 0) → Account
    → K → K → RestLinkState C R → RestLinkState C R → ℕ → Type 0
IsConnRun wrote ticks draws account out out' old new status =
    LacksConn out out' old new status ⊎ ServesConn ticks draws account (wrote out) (wrote out') old new status
