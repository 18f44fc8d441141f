use Rattle.sx_listing.specs.Error.{error_text, IsError, error_at}
use Rattle.sx_listing.proofs.Bodies.{read_back}
use Rattle.sx_listing.proofs.ErrorsRead.{error-reading}
use Rattle.sx_listing.proofs.error.errors_are_read_back.Goals as goal

pub returns : goal.returns
returns c = λ error read fits is. read_back error_text IsError error_at error-reading error read fits is
