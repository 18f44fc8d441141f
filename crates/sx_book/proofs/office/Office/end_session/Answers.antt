use Rattle.std.proofs.Common.{sym, ◌∙◌}
use Rattle.sx_call.specs.declared.calls.Call.TheVariants.{End}
use Rattle.sx_book.proofs.Held.{took_keeps}
use Rattle.sx_book.proofs.office.Office.end_session.Goals as goal

pub returns-clause-others_held : goal.returns-clause-others_held
returns-clause-others_held g c s other h = took_keeps c.args.pass.now c.append_in_turn.new.pass c.session.inside.number c.args.now 0 End c.in-Ok.receipt s (λ _ same. other (sym same ∙ c.session.view_is)) c.in-Ok.ensures.ok h
