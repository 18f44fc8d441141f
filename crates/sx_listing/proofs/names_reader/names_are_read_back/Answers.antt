use Rattle.sx_listing.specs.Names.{names_text}
use Rattle.sx_listing.specs.NamesReader.{IsNames, names_at}
use Rattle.sx_listing.proofs.Bodies.{read_back}
use Rattle.sx_listing.proofs.NamesRead.{names-reading}
use Rattle.sx_listing.proofs.names_reader.names_are_read_back.Goals as goal

pub returns : goal.returns
returns c = λ page read fits is. read_back names_text IsNames names_at names-reading page read fits is
