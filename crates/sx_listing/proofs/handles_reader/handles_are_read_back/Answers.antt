use Rattle.sx_listing.specs.Handles.{handles_text}
use Rattle.sx_listing.specs.HandlesReader.{AreHandles, handles_at}
use Rattle.sx_listing.proofs.Bodies.{read_back}
use Rattle.sx_listing.proofs.HandlesRead.{handles-reading}
use Rattle.sx_listing.proofs.handles_reader.handles_are_read_back.Goals as goal

pub returns : goal.returns
returns c = λ page read fits is. read_back handles_text AreHandles handles_at handles-reading page read fits is
