-- What a reader of requests keeps.
use Rattle.std.specs.Prelude.{ℕ, Bool, List}

-- the bytes that a reader took from its source and has not given, how many it gave, how many it tells to have taken,
-- how many it may take, and whether it has ended
pub record Requests : Type 0 where
  pub held : List ℕ
  pub given : ℕ
  pub taken : ℕ
  pub budget : ℕ
  pub ended : Bool
