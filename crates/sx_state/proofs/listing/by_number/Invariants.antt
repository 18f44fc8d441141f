use Rattle.std.proofs.Common.{◌≡◌, ◌++◌, map}
use Rattle.sx_state.proofs.listing.by_number.Given as goal

-- what is listed, and what is left to list
abbrev pub invariant-loop-number : goal.invariant-loop-number
invariant-loop-number l = map (λ s. s.now) l.listed.items ++ map (λ e. e.1) l._number-iterator ≡ map (λ e. e.1) l.fn.shares.entries
