-- Both sides of a connection, as contracts see them.
use Rattle.std.specs.Prelude.{ℕ, List}
use Rattle.std.specs.declared.option.Option.{Option}

-- an input and an output, or both directions of a link, before or after a call: the bytes that are left to be read,
-- where they are told, and the counts of failed reads and writes
pub record Sides : Type 0 where
  pub left : Option (List ℕ)
  pub reads : ℕ
  pub writes : ℕ
