use Rattle.std.proofs.Common.{◌≡◌, ◌∙◌, ap, arith, length}
use Rattle.sx_extent.specs.Ranges.{clear}
use Rattle.sx_extent.proofs.FileLemmas.{self_length, file_cleared, kept_cleared}
use Rattle.sx_extent.proofs.ranges.Ranges.clear.Goals as goal

pub erase-requires-clause-limit : goal.erase-requires-clause-limit
erase-requires-clause-limit c =
    let n : length c.args.self.now.bytes ≡ c.self.inside.length = self_length _ _ _ c.self.view_is in
    omega arith

pub invariant_of-self : goal.invariant_of-self
invariant_of-self c =
    let n : length c.args.self.now.bytes ≡ c.self.inside.length = self_length _ _ _ c.self.view_is in
    kept_cleared c.self.inside.length c.self.inside.granules.entries c.erase.new.granules.entries c.args.from c.args.end (omega arith) c.self.invariant c.erase.ensures.erased c.erase.ensures.sized

pub returns-clause-ok : goal.returns-clause-ok
returns-clause-ok c =
    let n : length c.args.self.now.bytes ≡ c.self.inside.length = self_length _ _ _ c.self.view_is in
    file_cleared c.self.inside.length c.self.inside.granules.entries c.erase.new.granules.entries c.args.from c.args.end c.requires.order (omega arith) c.self.invariant c.erase.ensures.erased
    ∙ ap (λ f. clear f c.args.from c.args.end) c.self.view_is
