use Rattle.std.proofs.Common.{◌≡◌, ◌+◌, ◌*◌, ◌^◌, ◌≤◌, length, drop}
use Rattle.std.specs.List.{flat_map}
use Rattle.sx_reply.specs.Words.{escaped_word}
use Rattle.sx_reply.proofs.escapes.escaped_words_length.Given as goal

-- what was counted and what is left are all, and each word has so many at most
abbrev pub invariant-loop-word : goal.invariant-loop-word
invariant-loop-word l =
    (l.length + length (flat_map escaped_word (drop l.word-index l.words)) ≡ length (flat_map escaped_word l.words))
    × (l.length ≤ l.word-index * (5 * 2 ^ 63))
