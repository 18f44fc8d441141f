use Rattle.std.proofs.Common.{◌≡◌, insert, ap, sym, ◌∙◌}
use Rattle.std.specs.List.{position_or_len}
use Rattle.sx_guard.proofs.Places.{insert_by-is}
use Rattle.sx_spec.specs.Changes.{open_before}
use Rattle.sx_state.proofs.handles.insert_open.Goals as goal

pub returns-in-Ok-clause-ok : goal.returns-in-Ok-clause-ok
returns-in-Ok-clause-ok c =
    let items = c.args.opens.now.items in
    let at : c.place_behind-place.result ≡ position_or_len (open_before c.args.added) items = cc in
    c.in-Ok.ensures.items ∙ ap (λ i. insert items i c.args.added) at ∙ sym (insert_by-is open_before c.args.added items)
