use Rattle.sx_listing.specs.Shares.{shares_text}
use Rattle.sx_listing.specs.SharesReader.{AreShares, shares_at}
use Rattle.sx_listing.proofs.Bodies.{read_back}
use Rattle.sx_listing.proofs.SharesRead.{shares-reading}
use Rattle.sx_listing.proofs.shares_reader.shares_are_read_back.Goals as goal

pub returns : goal.returns
returns c = λ page read fits is. read_back shares_text AreShares shares_at shares-reading page read fits is
