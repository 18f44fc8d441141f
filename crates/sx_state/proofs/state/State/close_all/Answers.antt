use Rattle.std.proofs.Common.{◌∙◌, ◌+◌, ap, sym, drop}
use Rattle.std.proofs.lemmas.List.{at_drop_more}
use Rattle.sx_call.specs.declared.opens.Open.{Open}
use Rattle.sx_spec.specs.Changes.{close, close_all}
use Rattle.sx_state.proofs.state.State.close_all.Goals as goal

pub loop-held-preserved : goal.loop-held-preserved
unfolding close_all
loop-held-preserved c =
    let rest = drop (c.loop-held.held-index + 1) c.args.opens.now in
    ap (close_all rest) c.close.ensures.closed
    ∙ ap (λ (o : Open). close_all rest (close o c.loop-held.self)) c.held-item.is
    ∙ sym (at_drop_more (λ os. close_all os c.loop-held.self) c.args.opens.now c.loop-held.held-index c.held-item.result c.loop-held-test.true)
    ∙ c.loop-held.invariant
