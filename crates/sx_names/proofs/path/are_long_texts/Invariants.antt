use Rattle.std.proofs.Common.{◌≡◌, ◌+◌, ◌≤◌, drop, length, map, sum, chars}
use Rattle.sx_names.specs.Names.{path_length}
use Rattle.sx_names.proofs.path.are_long_texts.Given as goal

-- what was counted, and the characters of the parts that are left
abbrev pub invariant-loop-text : goal.invariant-loop-text
invariant-loop-text l =
    (l.length + sum (map (λ p. length (chars p)) (drop l.text-index l.texts)) ≡ path_length l.texts) × (l.length ≤ 2048)
