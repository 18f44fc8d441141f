-- The lines of a stream, and what a reader of lines answers.
use Rattle.std.specs.Prelude.{ℕ, ◌+◌, ◌-◌, ◌<◌, ◌≤◌, ◌≡◌, ◌==◌, ◌++◌, ◌∷◌, [], Bool, false, List, All, length, take}
use Rattle.std.specs.Prelude.{IfSome}
use Rattle.std.specs.declared.option.Option.{Option}
use Rattle.std.specs.Io.KnownBytes.{Keeps, Consumes, IsAtEnd, prepend_known}
use Rattle.sx_base.specs.Causes.{Rose}
use Rattle.sx_base.specs.declared.buffer.Refill.{Refill}
use Rattle.sx_base.specs.declared.buffer.Refill.TheVariants.{More, End as Ended, ReadFault as Failed}
use Rattle.sx_base.specs.declared.buffer.Refill.TheVariants.{NoMemory as OutOfMemory}
use Rattle.sx_lines.specs.declared.line.TheConstants.{LINE_LIMIT}
use Rattle.sx_smb_door.specs.LineReaderView.{LineReaderView}
use Rattle.sx_smb_door.specs.declared.lines.NextLine.{NextLine}
use Rattle.sx_smb_door.specs.declared.lines.NextLine.TheVariants.{Line, End, Cut, Long, Spent, ReadFault, NoMemory}

-- whether a byte is a line feed
abbrev pub is_line_end : ℕ → Bool
is_line_end b = b == 10

-- no line ends in the bytes
abbrev pub IsOneLine : List ℕ → Type 0
IsOneLine bytes = All (λ b. is_line_end b ≡ false) bytes

-- a line as it stands on a stream
abbrev pub with_line_feed : List ℕ → List ℕ
with_line_feed line = line ++ 10 ∷ []

-- n bytes without a line's end stand at the front
abbrev pub BeginsUnended : ℕ → List ℕ → Type 0
BeginsUnended n bytes = (n ≤ length bytes) × IsOneLine (take n bytes)

-- the bytes are what is left of a line
abbrev pub IsCutLine : ℕ → List ℕ → Type 0
IsCutLine left bytes = (length bytes ≡ left) × IsOneLine bytes

-- what a reader has yet to give, where its source tells what is left
abbrev pub line_stream : LineReaderView → Option (List ℕ) → Option (List ℕ)
line_stream reader left = prepend_known reader.held left

-- a line was taken off the stream
pub record GivesLine (line : List ℕ) (old new : LineReaderView) (left left' : Option (List ℕ)) : Type 0 where
  pub bytes : Consumes (line_stream old left) (line_stream new left') (with_line_feed line)
  pub one : IsOneLine line
  pub short : length line ≤ LINE_LIMIT
  pub taken : new.taken ≡ old.taken + length line + 1
  pub within : new.taken ≤ new.budget
  pub budget : new.budget ≡ old.budget

-- nothing was given: the stream is as it was
pub record KeepsStream (old new : LineReaderView) (left left' : Option (List ℕ)) : Type 0 where
  pub bytes : Keeps (line_stream old left) (line_stream new left')
  pub taken : new.taken ≡ old.taken
  pub budget : new.budget ≡ old.budget

-- what is held is the beginning of a line within its limit, and the budget leaves room for more
pub record WantsMore (reader : LineReaderView) : Type 0 where
  pub one : IsOneLine reader.held
  pub short : length reader.held ≤ LINE_LIMIT
  pub room : reader.taken + length reader.held < reader.budget

-- why no line was given, by the reader afterwards and what it had yet to give
abbrev pub IsReason : NextLine → LineReaderView → Option (List ℕ) → ℕ → ℕ → Type 0
IsReason (Line line) reader bytes before now = ⊥
IsReason End reader bytes before now = IsAtEnd bytes × (reader.held ≡ []) × (reader.taken < reader.budget)
IsReason (Cut left) reader bytes before now =
    IfSome bytes (IsCutLine left) × IsCutLine left reader.held × (1 ≤ left) × (left ≤ LINE_LIMIT)
    × (reader.taken + left < reader.budget)
IsReason (Long at) reader bytes before now =
    IfSome bytes (BeginsUnended (LINE_LIMIT + 1)) × BeginsUnended (LINE_LIMIT + 1) reader.held × (at ≡ reader.taken)
IsReason Spent reader bytes before now =
    IfSome bytes (BeginsUnended (reader.budget - reader.taken)) × IsCutLine (reader.budget - reader.taken) reader.held
    × (reader.taken ≤ reader.budget) × (reader.budget ≤ reader.taken + LINE_LIMIT)
IsReason ReadFault reader bytes before now = Rose before now × WantsMore reader
IsReason NoMemory reader bytes before now = Unit {0}

-- what a reader answered, with what its source has left and its count of faults, before and after
abbrev pub IsNextLine : NextLine → LineReaderView → LineReaderView → Option (List ℕ) → Option (List ℕ) → ℕ → ℕ → Type 0
IsNextLine (Line line) old new left left' before now = GivesLine line old new left left'
IsNextLine next old new left left' before now =
    KeepsStream old new left left' × IsReason next new (line_stream old left) before now

-- the count of failed reads rose where the answer is a failed read, and is as it was where it is not
abbrev pub HasReadCause : NextLine → ℕ → ℕ → Type 0
HasReadCause ReadFault before now = Rose before now
HasReadCause next before now = now ≡ before

-- what is answered where the source has ended, by what is held
abbrev pub IsReasonAtEnd : NextLine → LineReaderView → Type 0
IsReasonAtEnd next reader =
    (bytes : Option (List ℕ)) → (before now : ℕ) → IfSome bytes (λ b. b ≡ reader.held)
    → IsReason next reader bytes before now

-- what one read behind the bytes that are held did
abbrev pub FillsLine : Refill → LineReaderView → LineReaderView → Option (List ℕ) → Option (List ℕ) → ℕ → ℕ → Type 0
FillsLine More old new left left' before now =
    KeepsStream old new left left' × (take (length old.held) new.held ≡ old.held) × (length old.held < length new.held)
    × (now ≡ before)
FillsLine Ended old new left left' before now =
    KeepsStream old new left left' × IsAtEnd left' × (new ≡ old) × (now ≡ before)
FillsLine Failed old new left left' before now = KeepsStream old new left left' × Rose before now × (new ≡ old)
FillsLine OutOfMemory old new left left' before now = KeepsStream old new left left' × (now ≡ before)
