-- Forms of text: which items begin one, how much of some items does, and what it is to read one. A form is given by
-- the text of each value and by which values fit. Items are bytes in most forms; they may be of any type.
use Rattle.std.specs.Prelude.{◌≡◌, ℕ, ◌-◌, ◌≤◌, List, ◌++◌, length, take, Result, Ok, Err}

-- some value that fits has a text that begins with these items
abbrev pub Begins : {A E : Type 0} → (A → List E) → (A → Type 0) → List E → Type 0
Begins {A} {E} text Fits front = (a : A) × (more : List E) × Fits a × (text a ≡ front ++ more)

-- n is the length of the longest prefix of the items that begins a text
pub record IsLongest {A E : Type 0} (text : A → List E) (Fits : A → Type 0) (items : List E) (n : ℕ) : Type 0 where
  pub within : n ≤ length items
  pub begins : Begins text Fits (take n items)
  pub last : (m : ℕ) → m ≤ length items → Begins text Fits (take m items) → m ≤ n

-- the items are no text, and n of them begin one
pub record IsNoText {A E : Type 0} (text : A → List E) (Fits : A → Type 0) (items : List E) (n : ℕ) : Type 0 where
  pub longest : IsLongest text Fits items n
  pub none : (a : A) → Fits a → items ≡ text a → ⊥

-- reading from the front: a value and the items behind it, or how many items are left behind the longest prefix that
-- begins a text
abbrev pub Reader : Type 0 → Type 0 → Type 0
Reader E A = List E → Result (A × List E) ℕ

-- a reader of a form: it reads exactly its texts, whatever stands behind them, and tells how far other items go
pub record IsReading {A E : Type 0} (text : A → List E) (Fits : A → Type 0) (read : Reader E A) : Type 0 where
  pub takes : (items : List E) (a : A) (rest : List E) → read items ≡ Ok (a, rest) → Fits a × (items ≡ text a ++ rest)
  pub again : (a : A) (rest : List E) → Fits a → read (text a ++ rest) ≡ Ok (a, rest)
  pub fault : (items : List E) (left : ℕ) → read items ≡ Err left → (left ≤ length items)
      × IsLongest text Fits items (length items - left)

-- the same for a reader of all of the items
pub record IsWholeReading {A E : Type 0} (text : A → List E) (Fits : A → Type 0) (read : List E
    → Result A ℕ) : Type 0 where
  pub takes : (items : List E) (a : A) → read items ≡ Ok a → Fits a × (items ≡ text a)
  pub again : (a : A) → Fits a → read (text a) ≡ Ok a
  pub fault : (items : List E) (left : ℕ) → read items ≡ Err left → (left ≤ length items)
      × IsNoText text Fits items (length items - left)
