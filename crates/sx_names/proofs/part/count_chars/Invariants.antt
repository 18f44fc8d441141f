use Rattle.std.proofs.Common.{◌≡◌, ◌+◌, ◌≤◌, length}
use Rattle.sx_names.proofs.part.count_chars.Given as goal

abbrev pub invariant-loop-character : goal.invariant-loop-character
invariant-loop-character l =
    (l.count ≡ length l.yielded)
    × (l.count + goal.iterator-loop-character.remaining l._character-iterator ≤ goal.iterator-loop-character.remaining l.initial._character-iterator)
