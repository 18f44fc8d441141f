-- What a line says, or where its first word stands that isn't as it must be.
use Rattle.std.specs.Prelude.{ℕ, ◌≡◌, Option, Some, None, Result, Ok, Err, ⊤}
use Rattle.sx_lines.specs.declared.line.LineFault.{LineFault}
use Rattle.sx_lines.specs.declared.line.LineFault.TheVariants.{Syntax, NoMemory}
use Rattle.sx_lines.specs.declared.unread.Unread.{Unread}
use Rattle.sx_lines.specs.declared.unread.Unread.TheVariants.{Wrong, NoMemory as WithoutMemory}

-- what is read, or how many bytes of the line are left from the wrong word on
abbrev pub Reading : Type 0 → Type 0
Reading A = Result A ℕ

-- one word after another: the first that is wrong stands
abbrev pub with_next : {A B : Type 0} → Reading A → (A → Reading B) → Reading B
with_next (Ok a) f = f a
with_next (Err left) f = Err left

-- a value is made of another, where that is there
abbrev pub when_some : {A B : Type 0} → Option A → (A → Option B) → Option B
when_some None f = None
when_some (Some a) f = f a

-- a function answers exactly what is to be read, or it lacked memory
abbrev pub Reads : {A : Type 0} → Result A Unread → Reading A → Type 0
Reads (Ok a) d = d ≡ Ok a
Reads (Err (Wrong left)) d = d ≡ Err left
Reads (Err WithoutMemory) d = ⊤

-- the same of a whole line, with the place of the wrong word
abbrev pub ReadsLine : {A : Type 0} → Result A LineFault → Result A ℕ → Type 0
ReadsLine (Ok a) d = d ≡ Ok a
ReadsLine (Err (Syntax at)) d = d ≡ Err at
ReadsLine (Err NoMemory) d = ⊤
