use Rattle.sx_book.proofs.Growth.{all_grow, calls_grow}
use Rattle.sx_book.proofs.laws.histories_grow.Goals as goal

pub returns : goal.returns
returns c = record { came = (λ limit from entries more. all_grow limit entries more from); calls = calls_grow }
