-- What reading an answer's line comes to.
use Rattle.std.specs.Prelude.{ℕ, ◌≡◌, List, Option, Some, None, Result, Ok, Err, ⊤}
use Rattle.sx_answer_reader.specs.declared.answer.Answer.{Answer}
use Rattle.sx_answer_reader.specs.declared.answer.Unread.{Unread}
use Rattle.sx_answer_reader.specs.declared.answer.Unread.TheVariants.{NoAnswer, NoMemory}
use Rattle.sx_answer_reader.specs.Answers.{told_line, Fits}

-- a function answers exactly what is spelled, or it lacked memory
abbrev pub Reads : {A : Type 0} → Result A Unread → Option A → Type 0
Reads (Ok a) d = d ≡ Some a
Reads (Err NoAnswer) d = d ≡ None
Reads (Err NoMemory) d = ⊤

-- a line is an answer's, and no other's
pub record IsOf (line : List ℕ) (answer : Answer) : Type 0 where
  pub told : told_line answer ≡ line
  pub fits : Fits answer
  pub alone : (other : Answer) → Fits other → told_line other ≡ line → other ≡ answer

-- the line is no answer's
abbrev pub IsNone : List ℕ → Type 0
IsNone line = (answer : Answer) → Fits answer → told_line answer ≡ line → ⊥

-- what is read of a line is the one answer that has it, or no answer has it, or memory was lacking
abbrev pub IsRead : Result Answer Unread → List ℕ → Type 0
IsRead (Ok answer) line = IsOf line answer
IsRead (Err NoAnswer) line = IsNone line
IsRead (Err NoMemory) line = ⊤
