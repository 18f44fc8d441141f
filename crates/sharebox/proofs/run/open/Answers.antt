use Rattle.std.proofs.Common.{◌≡◌, sym, ◌∙◌}
use Rattle.sharebox.specs.Limits.{session_caller}
use Rattle.sharebox.proofs.Own.{opened_by}
use Rattle.sharebox.proofs.run.open.Goals as goal

pub returns-clause-ok : goal.returns-clause-ok
returns-clause-ok g c =
    let number : c.in-Ok.pass.number ≡ session_caller = sym c.number.ensures ∙ c.if-number-ne-SESSION_CALLER.false in
    opened_by c.args.office.now c.args.share.now c.args.now c.create_share.new.main c.split.new.pass c.in-Ok.pass c.in_ok-create_share.ensures.ok
    c.in-Ok.ensures.new number c.in-Ok.ensures.number.3 c.in-Ok.ensures.asked c.split.ensures.others
