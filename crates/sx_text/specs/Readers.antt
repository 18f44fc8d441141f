-- Readers made of readers. An `Err` goes through each of them unchanged, since it tells how many items are left.
use Rattle.std.specs.Prelude.{◌≡◌, ℕ, zero, suc, ◌+◌, List, [], ◌∷◌, ◌++◌, length, Result, Ok, Err, ◌==◌, if◌then◌else◌}
use Rattle.std.specs.Prelude.{Bool}
use Rattle.sx_text.specs.Texts.{Reader}

-- what is read, and then the next
infixl 10 ◌>>=◌
abbrev pub ◌>>=◌ : {A B : Type 0} → Result A ℕ → (A → Result B ℕ) → Result B ℕ
(Ok x) >>= f = f x
(Err left) >>= f = Err left

-- a literal is taken from the front of some bytes
unfoldable pub literal_at : List ℕ → List ℕ → Result (List ℕ) ℕ
literal_at [] bytes = Ok bytes
literal_at (c ∷ cs) [] = Err 0
literal_at (c ∷ cs) (b ∷ bs) = if b == c then literal_at cs bs else Err (suc (length bs))

-- a literal, and then a value
abbrev pub after : {A : Type 0} → List ℕ → Reader ℕ A → Reader ℕ A
after literal next bytes = literal_at literal bytes >>= next

-- a value, and then one whose form may depend on it
abbrev pub pair_at : {A B E : Type 0} → Reader E A → (A → Reader E B) → Reader E (A × B)
pair_at first next items = first items >>= λ x. (next x.0 x.1 >>= λ y. Ok ((x.0, y.0), y.1))

-- a value, and then a literal
abbrev pub closed_at : {A : Type 0} → Reader ℕ A → List ℕ → Reader ℕ A
closed_at read literal bytes = read bytes >>= λ x. (literal_at literal x.1 >>= λ rest. Ok (x.0, rest))

-- a value made of the one that is read
abbrev pub made_at : {A B E : Type 0} → (A → B) → Reader E A → Reader E B
made_at make read items = read items >>= λ x. Ok (make x.0, x.1)

-- values up to a byte that begins none of them, fewer than n
unfoldable pub values_at : {A : Type 0} → ℕ → ℕ → Reader ℕ A → Reader ℕ (List A)
values_at zero stop read bytes = Err (length bytes)
values_at (suc n) stop read [] = Err 0
values_at (suc n) stop read (b ∷ bs) = if b == stop then Ok ([], bs)
    else (read (b ∷ bs) >>= λ x. (values_at n stop read x.1 >>= λ y. Ok (x.0 ∷ y.0, y.1)))

-- values up to a byte that begins none of them
abbrev pub all_values_at : {A : Type 0} → ℕ → Reader ℕ A → Reader ℕ (List A)
all_values_at stop read bytes = values_at (length bytes + 1) stop read bytes

-- the text of values up to such a byte
abbrev pub values_text : {A : Type 0} → (A → List ℕ) → ℕ → List A → List ℕ
values_text text stop [] = stop ∷ []
values_text text stop (x ∷ xs) = text x ++ values_text text stop xs

-- no value's text is empty or begins with the byte
abbrev pub IsNoStart : {A : Type 0} → (A → List ℕ) → (A → Type 0) → ℕ → Type 0
IsNoStart {A} text Fits stop = (a : A) → Fits a → (b : ℕ) × (more : List ℕ) × (text a ≡ b ∷ more) × (b ≡ stop → ⊥)

-- each value's text begins with the byte
abbrev pub IsStart : {A : Type 0} → (A → List ℕ) → (A → Type 0) → ℕ → Type 0
IsStart {A} text Fits start = (a : A) → Fits a → (more : List ℕ) × (text a ≡ start ∷ more)

-- whether this byte stands at the front
abbrev pub next_is_at : ℕ → List ℕ → Result Bool ℕ
next_is_at start [] = Err 0
next_is_at start (b ∷ bs) = Ok (b == start)

-- a value of one form where this byte stands at the front, and else of another form
unfoldable pub either_at : {A : Type 0} → ℕ → Reader ℕ A → Reader ℕ A → Reader ℕ A
either_at start first second bytes = next_is_at start bytes >>= λ is. if is then first bytes else second bytes

-- all of the items
abbrev pub whole_of : {A E : Type 0} → Reader E A → List E → Result A ℕ
whole_of read items = read items >>= λ x. (if length x.1 == 0 then Ok x.0 else Err (length x.1))
