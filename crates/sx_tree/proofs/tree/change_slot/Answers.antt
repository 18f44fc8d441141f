use Rattle.std.proofs.Common.{◌≡◌, sym, ◌∙◌}
use Rattle.std.proofs.lemmas.Map.Steps.{set_value_same}
use Rattle.std.proofs.lemmas.Result.{on_err_weaker}
use Rattle.sx_tree.proofs.tree.change_slot.Goals as goal

pub returns-in-Some-clause-err : goal.returns-in-Some-clause-err
returns-in-Some-clause-err c =
    on_err_weaker c.change.result
    (λ (same : c.change.new.self ≡ c.in-Some.slot.now). (c.get_mut.follows.holds c.change.new.self).0 ∙ rw same (set_value_same _ _ _ (sym (rw c.in-Some.is at c.get_mut.ensures.value))))
    c.change.ensures.err
