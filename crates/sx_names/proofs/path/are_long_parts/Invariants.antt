use Rattle.std.proofs.Common.{◌≡◌, ◌+◌, ◌≤◌, drop, length, map, sum, chars}
use Rattle.std.specs.List.{list_all}
use Rattle.sx_names.specs.Names.{is_part, path_length}
use Rattle.sx_names.proofs.path.are_long_parts.Given as goal

-- what was counted, and the characters of the parts that are left; and the parts so far are names
abbrev pub invariant-loop-part : goal.invariant-loop-part
invariant-loop-part l =
    (l.length + sum (map (λ p. length (chars p)) (drop l.part-index l.parts)) ≡ path_length l.parts) × (l.length ≤ 2048)
    × (list_all is_part l.parts ≡ list_all is_part (drop l.part-index l.parts))
