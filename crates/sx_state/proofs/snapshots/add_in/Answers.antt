use Rattle.std.proofs.Common.{◌≡◌, sym, ◌∙◌}
use Rattle.std.proofs.lemmas.Map.Steps.{set_value_same}
use Rattle.std.proofs.lemmas.Result.{on_err_weaker}
use Rattle.sx_state.proofs.snapshots.add_in.Goals as goal

pub returns-in-Some-clause-err : goal.returns-in-Some-clause-err
returns-in-Some-clause-err c =
    on_err_weaker c.add_to_share.result
    (λ (same : c.add_to_share.new.share ≡ c.in-Some.share.now). (c.get_mut.follows.holds c.add_to_share.new.share).0 ∙ rw same (set_value_same _ _ _ (sym (rw c.in-Some.is at c.get_mut.ensures.value))))
    c.add_to_share.ensures.err
