use Rattle.sx_listing.specs.Ranges.{ranges_text, AreRanges, ranges_at}
use Rattle.sx_listing.proofs.Bodies.{read_back}
use Rattle.sx_listing.proofs.RangesRead.{ranges-reading}
use Rattle.sx_listing.proofs.ranges.ranges_are_read_back.Goals as goal

pub returns : goal.returns
returns c = λ spans read fits is. read_back ranges_text AreRanges ranges_at ranges-reading spans read fits is
