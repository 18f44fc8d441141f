use Rattle.std.proofs.Common.{◌≡◌, insert, ap, sym, ◌∙◌}
use Rattle.std.specs.List.{position_or_len}
use Rattle.sx_guard.proofs.Places.{insert_by-is}
use Rattle.sx_guard.proofs.ordered.insert_ordered.Goals as goal
use Rattle.sx_guard.proofs.ordered.insert_ordered.Goals.{in-Ok, in-Err}

pub returns-clause-ok : goal.returns-clause-ok
returns-clause-ok g c =
    let before = g.T.Ordered.before in let items = c.args.items.now.items in
    let at : c.place_for-at.result ≡ position_or_len (before c.args.item) items = cc in
    elim c.match-insert.branch [
      | in-Ok w ↦ rw w.result-is (w.in-Ok.ensures.items ∙ ap (λ i. insert items i c.args.item) at ∙ sym (insert_by-is before c.args.item items))
      | in-Err w ↦ rw w.result-is tt
    ]
