use Rattle.sx_book.proofs.Calls.{asks_none, asks_join, asks_exact, appended_asks, full_asks, starved_asks}
use Rattle.sx_book.proofs.laws.calls_come.Goals as goal

pub returns : goal.returns
returns c = record { none = asks_none; join = asks_join; exact = asks_exact; appended = appended_asks; full = full_asks; starved = starved_asks }
