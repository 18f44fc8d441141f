use Rattle.std.proofs.Common.{◌≡◌, drop}
use Rattle.sx_text.specs.Machines.{run_from}
use Rattle.sx_listing.specs.PercentReader.{percent_step, percent_at, IsEscape}
use Rattle.sx_listing.proofs.percent_reader.marks.Given as goal

abbrev pub invariant-loop-byte : goal.invariant-loop-byte
invariant-loop-byte l = (run_from percent_step (l.kept.items, (l.spot, l.escape)) (drop l.byte-index l.bytes) ≡ percent_at l.bytes) × (l.rest ≡ drop l.byte-index l.bytes) × IsEscape l.escape
