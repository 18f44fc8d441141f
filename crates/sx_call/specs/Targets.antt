-- Paths that name a file or directory below the root.
use Rattle.std.specs.Prelude.{ℕ, Bool, nat_lt, List, length}
use Rattle.sx_call.specs.declared.targets.Target.{Target}

-- a path of at least one part
abbrev pub has_part : List (List ℕ) → Bool
has_part path = nat_lt 0 (length path)

-- a target below the root of its share
abbrev pub is_below_root : Target → Bool
is_below_root target = has_part target.path
