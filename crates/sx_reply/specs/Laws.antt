-- What a client may rely on.
use Rattle.std.specs.Prelude.{codes, ◌≡◌, ℕ, List, ◌++◌, length}
use Rattle.std.specs.Fmt.{decimal}
use Rattle.sx_reply.specs.Headers.{line}

-- a head has a line, behind some text and before some other
pub record HasLine (head one : List ℕ) : Type 0 where
  pub before : List ℕ
  pub behind : List ℕ
  pub whole : head ≡ before ++ one ++ behind

-- a head states the length of a body
abbrev pub StatesLength : List ℕ → List ℕ → Type 0
StatesLength head body = HasLine head (line (codes "Content-Length: ") (decimal (length body)))
