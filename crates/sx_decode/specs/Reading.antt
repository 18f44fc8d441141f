-- What a request says, or the first reason why it says nothing.
use Rattle.std.specs.Prelude.{ℕ, ◌≡◌, ◌+◌, ◌++◌, [], ◌∷◌, List, Result, Ok, Err, ⊤, min}
use Rattle.sx_call.specs.declared.refusals.Syntax.{Syntax}
use Rattle.sx_decode.specs.declared.unread.Unread.{Unread}
use Rattle.sx_decode.specs.declared.unread.Unread.TheVariants.{Syntax as Refused, NoMemory}

-- what is read, or the first refusal
abbrev pub Reading : Type 0 → Type 0
Reading A = Result A Syntax

-- one after another: the first refusal stands
abbrev pub with_next : {A B : Type 0} → Reading A → (A → Reading B) → Reading B
with_next (Ok a) f = f a
with_next (Err s) f = Err s

-- a function answers exactly what is to be read, or it lacked memory
abbrev pub Reads : {A : Type 0} → Result A Unread → Reading A → Type 0
Reads (Ok a) d = d ≡ Ok a
Reads (Err (Refused s)) d = d ≡ Err s
Reads (Err NoMemory) d = ⊤

-- the same where what it answers stands for what is read
abbrev pub ReadsBy : {A R : Type 0} → (R → A) → Result R Unread → Reading A → Type 0
ReadsBy f (Ok r) d = d ≡ Ok (f r)
ReadsBy f (Err (Refused s)) d = d ≡ Err s
ReadsBy f (Err NoMemory) d = ⊤

-- the next item's number, which stands still at 4,294,967,295
abbrev pub next_number : ℕ → ℕ
next_number k = min (k + 1) 4294967295

-- each item in order, with its number: the first refusal stands
abbrev pub each_read : {A B : Type 0} → (ℕ → A → Reading B) → ℕ → List A → Reading (List B)
each_read f k [] = Ok []
each_read f k (x ∷ xs) = with_next (f k x) (λ y. with_next (each_read f (next_number k) xs) (λ ys. Ok (y ∷ ys)))

-- what is read behind these
abbrev pub after_these : {B : Type 0} → List B → Reading (List B) → Reading (List B)
after_these done (Ok ys) = Ok (done ++ ys)
after_these done (Err s) = Err s
