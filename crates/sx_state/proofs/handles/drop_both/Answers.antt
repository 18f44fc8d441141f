use Rattle.std.proofs.Common.{◌≡◌, ◌∙◌, Some, None, ap, find, sym}
use Rattle.std.specs.Option.{option_copied}
use Rattle.sx_spec.specs.Account.{has_handle}
use Rattle.sx_state.proofs.OpenRuns.{take_none}
use Rattle.sx_state.proofs.GuardLaws.{AreGuards-take}
use Rattle.sx_state.proofs.handles.drop_both.Goals as goal

pub returns-in_default-clause-taken : goal.returns-in_default-clause-taken
returns-in_default-clause-taken c =
    let test = has_handle c.args.handle in
    let none : find test c.args.opens.now.items ≡ None =
    sym (c.open_of.ensures ∙ ap (find test) c.deref.ensures.value) ∙ ap option_copied c.in_default.is in
    take_none c.args.handle c.args.opens.now.items none

pub returns-clause-kept : goal.returns-clause-kept
returns-clause-kept c =
    let test = has_handle c.args.handle in
    let found : find test c.args.opens.now.items ≡ Some c.in-Some.held.now =
    sym (c.open_of.ensures ∙ ap (find test) c.deref.ensures.value) ∙ ap option_copied c.in-Some.is in
    rw (c.drop_open.ensures, c.drop_on.ensures)
    (AreGuards-take c.args.handle c.in-Some.held.now c.args.opens.now.items c.args.nodes.now.items c.requires found)
