use Rattle.std.proofs.Common.{◌≡◌, ◌++◌, drop}
use Rattle.std.specs.List.{flat_map}
use Rattle.sx_answer_reader.proofs.joined.joined.Given as goal

-- what was put there, and what is left to put
abbrev pub invariant-loop-fragment : goal.invariant-loop-fragment
invariant-loop-fragment l =
    l.text.items ++ flat_map (λ f. f.now) (drop l.fragment-index l.fragments) ≡ flat_map (λ f. f.now) l.fragments
