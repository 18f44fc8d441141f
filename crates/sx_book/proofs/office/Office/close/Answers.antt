use Rattle.std.proofs.Common.{subst, ◌≤◌, length}
use Rattle.sx_book.specs.Passes.{GrowsByOthers, OwnsAllNumbers, OwnsEachSeen, HasExactPlaces, pass_pairs}
use Rattle.sx_book.proofs.Appended.{others_found}
use Rattle.sx_book.proofs.office.Office.close.Goals as goal

pub returns-in-Ok-clause-all : goal.returns-in-Ok-clause-all
returns-in-Ok-clause-all g c = let all = c.in-Ok.ensures.all in
    subst (λ q. OwnsAllNumbers q × OwnsEachSeen q × HasExactPlaces q × (q.known ≤ length (pass_pairs q))) c.pass.view_is (all.0, all.1, all.2, c.in-Ok.ensures.known)

pub returns-in-Err-clause-others : goal.returns-in-Err-clause-others
returns-in-Err-clause-others g c = let seen = c.in-Err.ensures.seen in
    subst (λ q. GrowsByOthers q.number q.seen c.in-Err.field-0.token.seen) c.pass.view_is (others_found c.pass.inside.seat c.in-Err.field-0.token.seen seen.0 seen.1 seen.2)
