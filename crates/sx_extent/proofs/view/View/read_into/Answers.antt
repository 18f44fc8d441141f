use Rattle.std.proofs.Common.{◌∙◌, sym, ap, arith, length}
use Rattle.sx_extent.specs.View.{part}
use Rattle.sx_extent.proofs.ViewLemmas.{part_is, view_length}
use Rattle.sx_extent.proofs.view.View.read_into.Goals as goal

pub overflow_add-self-inside : goal.overflow_add-self-inside
overflow_add-self-inside c =
    let n = view_length c.self.inside.from c.self.inside.length c.self.inside.granules.entries c.args.self.now c.self.view_is in
    omega arith

pub read-requires-clause-limit : goal.read-requires-clause-limit
read-requires-clause-limit c =
    let n = view_length c.self.inside.from c.self.inside.length c.self.inside.granules.entries c.args.self.now c.self.view_is in
    omega arith

pub returns : goal.returns
returns c =
    let n = view_length c.self.inside.from c.self.inside.length c.self.inside.granules.entries c.args.self.now c.self.view_is in
    c.read.ensures
    ∙ sym (part_is c.self.inside.granules.entries c.self.inside.from c.self.inside.length c.args.at (length c.args.into.now) (omega arith))
    ∙ ap (λ bytes. part bytes c.args.at (length c.args.into.now)) c.self.view_is
