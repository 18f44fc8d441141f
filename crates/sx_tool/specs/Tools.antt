-- What the commands `sign` and `check` write, and the statuses that they end with.
use Rattle.std.specs.Prelude.{ℕ, ◌≡◌, ◌⊎◌, ◌++◌, List, [], codes, decimal, Option, Ok, Err}
use Rattle.sx_base.specs.Causes.{Rose}
use Rattle.sx_base.specs.Sides.{Sides}
use Rattle.sx_base.specs.Sink.{Writes, WritesPrefix}
use Rattle.sx_http.specs.declared.heads.Head.{Head}
use Rattle.sx_key.specs.Answers.{Checked}
use Rattle.sx_key.specs.Checking.{auth}
use Rattle.sx_key.specs.Signature.{string_to_sign, authorization}
use Rattle.sx_key.specs.declared.account.Account.{Account}
use Rattle.sx_key.specs.declared.fault.AuthFault.TheVariants.{NoHeader, BadHeader, OtherAccount, NoDate, BadDate}
use Rattle.sx_key.specs.declared.fault.AuthFault.TheVariants.{TooOld, TooNew, Differs, NoMemory}
use Rattle.sx_tool.specs.Inputs.{IsOneHead, IsNoHead, TakesSome}
use Rattle.sx_tool.specs.Typed.{IsSign, IsCheck, IsUnknown}

-- the signed text, and the header that signs it
abbrev pub signed_lines : Account → Head → List ℕ
signed_lines account head =
    string_to_sign head account.name ++ codes "\nAuthorization: " ++ authorization head account ++ codes "\n"

-- the verdict on a signed head; running out of memory is none
abbrev pub verdict_line : Checked (Unit {0}) → List ℕ
verdict_line (Ok u) = codes "ok\n"
verdict_line (Err NoHeader) = codes "auth no-header\n"
verdict_line (Err BadHeader) = codes "auth bad-header\n"
verdict_line (Err OtherAccount) = codes "auth other-account\n"
verdict_line (Err NoDate) = codes "auth no-date\n"
verdict_line (Err BadDate) = codes "auth bad-date\n"
verdict_line (Err (TooOld dated now)) = codes "auth too-old " ++ decimal dated ++ codes " " ++ decimal now ++ codes "\n"
verdict_line (Err (TooNew dated now)) = codes "auth too-new " ++ decimal dated ++ codes " " ++ decimal now ++ codes "\n"
verdict_line (Err Differs) = codes "auth differs\n"
verdict_line (Err NoMemory) = []

-- 0 where there is no fault, else 8
abbrev pub verdict_status : Checked (Unit {0}) → ℕ
verdict_status (Ok u) = 0
verdict_status (Err e) = 8

-- an input and an output, with the sink itself, before or after a call
pub record Streams (K : Type 0) : Type 0 where
  pub sides : Sides
  pub out : K

-- a text was written by puts alone and the command ended with its status; or a put failed, and a prefix of it was
-- written; or memory ran out, and nothing was written
abbrev pub Reports : {K : Type 0} → (K → List ℕ → Type 0) → List ℕ → ℕ → K → K → ℕ → ℕ → ℕ → Type 0
Reports wrote text status old new before now result =
    ((result ≡ status) × Writes wrote old new text × (now ≡ before))
    ⊎ ((result ≡ 4) × WritesPrefix wrote old new text × Rose before now)
    ⊎ ((result ≡ 5) × (new ≡ old) × (now ≡ before))

-- the input is one head, and its text was written
pub record AnswersHead {K : Type 0} (wrote : K → List ℕ → Type 0) (line : Head → List ℕ) (status : Head → ℕ)
    (old new : Streams K)
    (result : ℕ) : Type 0 where
  pub head : Head
  pub read : IsOneHead old.sides.left new.sides.left head
  pub kept : new.sides.reads ≡ old.sides.reads
  pub printed : Reports wrote (line head) (status head) old.out new.out old.sides.writes new.sides.writes result

-- why nothing was answered: the input isn't one head, a read failed, or memory ran out
abbrev pub NotAnswered : {K : Type 0} → Streams K → Streams K → ℕ → Type 0
NotAnswered old new result =
    ((result ≡ 2) × IsNoHead old.sides.left new.sides.left × (new.sides.reads ≡ old.sides.reads))
    ⊎ ((result ≡ 3) × TakesSome old.sides.left new.sides.left × Rose old.sides.reads new.sides.reads)
    ⊎ ((result ≡ 5) × TakesSome old.sides.left new.sides.left × (new.sides.reads ≡ old.sides.reads))

-- nothing was written, for one of these reasons
pub record AnswersNone {K : Type 0} (old new : Streams K) (result : ℕ) : Type 0 where
  pub unwritten : (new.out ≡ old.out) × (new.sides.writes ≡ old.sides.writes)
  pub cause : NotAnswered old new result

-- a command over the one head that the input is
abbrev pub Does : {K : Type 0} → (K → List ℕ → Type 0) → (Head → List ℕ) → (Head → ℕ) → Streams K → Streams K → ℕ
    → Type 0
Does wrote line status old new result = AnswersHead wrote line status old new result ⊎ AnswersNone old new result

-- `sign`: the signed text and the header that signs it
abbrev pub Signs : {K : Type 0} → (K → List ℕ → Type 0) → Account → Streams K → Streams K → ℕ → Type 0
Signs wrote account old new result = Does wrote (signed_lines account) (λ _. 0) old new result

-- `check`: the verdict at a moment
abbrev pub Checks : {K : Type 0} → (K → List ℕ → Type 0) → Account → ℕ → Streams K → Streams K → ℕ → Type 0
Checks wrote account now old new result =
    Does wrote (λ head. verdict_line (auth head account now))
    (λ head. verdict_status (auth head account now)) old new result

-- the words are no command: nothing was read, and the refusal was written, or a prefix of it where the put failed
pub record RefusesCommand {K : Type 0} (wrote : K → List ℕ → Type 0) (words : List (List ℕ)) (old new : Streams K)
    (result : ℕ)
    : Type 0 where
  pub unknown : IsUnknown words
  pub status_is : result ≡ 1
  pub unread : (new.sides.left ≡ old.sides.left) × (new.sides.reads ≡ old.sides.reads)
  pub written : (Writes wrote old.out new.out (codes "words refused\n") × (new.sides.writes ≡ old.sides.writes))
      ⊎ (WritesPrefix wrote old.out new.out (codes "words refused\n") × Rose old.sides.writes new.sides.writes)

-- memory ran out while the words were read: nothing was read or written
pub record IsOutOfMemory {K : Type 0} (old new : Streams K) (result : ℕ) : Type 0 where
  pub status_is : result ≡ 5
  pub same : new ≡ old

-- what the tool does by its words
abbrev pub RunsTool : {K : Type 0} → (K → List ℕ → Type 0) → List (List ℕ) → Streams K → Streams K → ℕ → Type 0
RunsTool wrote words old new result =
    RefusesCommand wrote words old new result ⊎ IsOutOfMemory old new result
    ⊎ ((account : Account) × IsSign words account × Signs wrote account old new result)
    ⊎ ((account : Account) × (now : ℕ) × IsCheck words account now × Checks wrote account now old new result)
