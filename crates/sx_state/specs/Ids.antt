-- That the next file id is free, and that counts have a number more.
use Rattle.std.specs.Prelude.{◌≡◌, ℕ, ◌<◌, ◌-◌, ◌^◌, Some, None}
use Rattle.std.specs.List.{AllByRecursion}
use Rattle.sx_base.specs.Entries.{value_at}
use Rattle.sx_spec.specs.Account.{Store}
use Rattle.sx_tree.specs.Tree.{slot_at}
use Rattle.sx_tree.specs.declared.share.Share.{Share}

-- no share has a node of the next file id
abbrev pub IsFresh : Store → Type 0
IsFresh s = (n : ℕ) (x : Share) → value_at s.shares n ≡ Some x → slot_at x.tree s.next_id ≡ None

-- each session can be granted one open more
abbrev pub CanGrant : Store → Type 0
CanGrant s = AllByRecursion (λ l. l.granted < 2 ^ 32 - 1) s.sessions
