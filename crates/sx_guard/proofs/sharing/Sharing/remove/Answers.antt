use Rattle.std.proofs.Common.{◌≡◌, Some, None, position, subst, sym, ◌∙◌}
use Rattle.sx_guard.specs.Sharing.{AreOpens, is_open_of}
use Rattle.sx_guard.proofs.Kept.{remove_first-opens}
use Rattle.sx_guard.proofs.Places.{place-Some, place-None, remove-place, remove_first-none}
use Rattle.sx_guard.proofs.sharing.Sharing.remove.Goals as goal

pub returns-in-Some-clause-there : goal.returns-in-Some-clause-there
returns-in-Some-clause-there c =
    let e : position (is_open_of c.args.handle) c.args.self.now ≡ Some c.in-Some.at = cc in
    sym (place-Some (is_open_of c.args.handle) c.args.self.now c.in-Some.at e).0

pub returns-in-Some-clause-others : goal.returns-in-Some-clause-others
returns-in-Some-clause-others c =
    let e : position (is_open_of c.args.handle) c.self.inside.opens.items ≡ Some c.in-Some.at = cc in
    c.remove.ensures.items
    ∙ remove-place (is_open_of c.args.handle) c.self.inside.opens.items c.in-Some.at e
    ∙ rw (← c.self.view_is) (remove_first-opens c.args.handle c.self.inside.opens.items c.self.invariant)

pub returns-in-None-clause-there : goal.returns-in-None-clause-there
returns-in-None-clause-there c =
    let e : position (is_open_of c.args.handle) c.args.self.now ≡ None = cc in
    sym (place-None (is_open_of c.args.handle) c.args.self.now e)

pub returns-in-None-clause-others : goal.returns-in-None-clause-others
returns-in-None-clause-others c =
    let e : position (is_open_of c.args.handle) c.args.self.now ≡ None = cc in
    sym (remove_first-none (is_open_of c.args.handle) c.args.self.now (place-None (is_open_of c.args.handle) c.args.self.now e))
    ∙ remove_first-opens c.args.handle c.args.self.now (subst AreOpens c.self.view_is c.self.invariant)

pub returns-in-Some-clause-one : goal.returns-in-Some-clause-one
returns-in-Some-clause-one c =
    let e : position (is_open_of c.args.handle) c.self.inside.opens.items ≡ Some c.in-Some.at = cc in
    rw (← c.self.view_is) (c.remove.ensures.items ∙ remove-place (is_open_of c.args.handle) c.self.inside.opens.items c.in-Some.at e)

pub returns-in-None-clause-one : goal.returns-in-None-clause-one
returns-in-None-clause-one c =
    let e : position (is_open_of c.args.handle) c.args.self.now ≡ None = cc in
    sym (remove_first-none (is_open_of c.args.handle) c.args.self.now (place-None (is_open_of c.args.handle) c.args.self.now e))
