use Rattle.std.proofs.Common.{◌≡◌, ◌∙◌, ◌-◌, sym, ap, length, Some}
use Rattle.std.specs.List.{slice_get}
use Rattle.sx_book.specs.History.{History}
use Rattle.sx_spec.specs.History.{last_moment}
use Rattle.sx_book.proofs.Books.{moment_last}
use Rattle.sx_book.proofs.book.Book.last_moment.Goals as goal

pub returns-in-Some-clause-moment : goal.returns-in-Some-clause-moment
returns-in-Some-clause-moment c =
    let at : slice_get c.self.inside.entries.items (length c.self.inside.entries.items - 1) ≡ Some c.in-Some.noted.now =
    let h = c.in-Some.ensures in rw c.deref.ensures.value at (sym h.value) in
    c.ticks.ensures.value ∙ (sym (moment_last c.self.inside.entries.items c.in-Some.noted.now at) ∙ ap (λ (h : History). last_moment h.entries) c.self.view_is)
