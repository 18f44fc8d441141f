-- What contracts see of a reader of lines.
use Rattle.std.specs.Prelude.{ℕ, List}

-- the bytes that a reader took from its source and has not given, how many it gave, and how many it may take in all
pub record LineReaderView : Type 0 where
  pub held : List ℕ
  pub taken : ℕ
  pub budget : ℕ
