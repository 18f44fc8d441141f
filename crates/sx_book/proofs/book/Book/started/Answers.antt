use Rattle.std.proofs.Common.{length, ap, arith}
use Rattle.sx_spec.specs.Account.{Store}
use Rattle.sx_spec.proofs.Histories.{came_is}
use Rattle.sx_book.specs.History.{History}
use Rattle.sx_book.proofs.book.Book.started.Goals as goal

pub returns-clause-few : goal.returns-clause-few
returns-clause-few c =
    omega (arith, c.started.ensures, ap (λ (s : Store). s.started) c.self.invariant.state, c.self.invariant.whole.sessions.count, came_is c.self.inside.entries.items, ap (λ (h : History). length h.entries) c.self.view_is)
