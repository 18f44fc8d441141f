use Rattle.std.proofs.Common.{◌≡◌, ◌-◌, ◌+◌, length}
use Rattle.sx_text.specs.Readers.{values_at}
use Rattle.sx_text.proofs.Loops.{with_front}
use Rattle.sx_listing.specs.SharesReader.{share_at}
use Rattle.sx_listing.proofs.shares_reader.shares.Given as goal

-- the items so far, and those that are still read
abbrev pub invariant-loop : goal.invariant-loop
invariant-loop l =
    with_front l.items (values_at ((length l.bytes + 1) - l.counter) 47 share_at l.rest) ≡ values_at (length l.bytes + 1) 47 share_at l.bytes
