use Rattle.sx_decode.proofs.RowsApart.{rows_are_apart}
use Rattle.sx_decode.proofs.laws.rows_are_apart.Goals as goal

pub returns : goal.returns
returns c = rows_are_apart
