use Rattle.std.proofs.Common.{◌≡◌, drop}
use Rattle.sx_text.specs.Readers.{literal_at}
use Rattle.sx_text.proofs.literal_reader.literal.Given as goal

abbrev pub invariant-loop-wanted : goal.invariant-loop-wanted
invariant-loop-wanted l = literal_at (drop l.wanted-index l.text) l.rest ≡ literal_at l.text l.bytes
