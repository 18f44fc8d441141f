use Rattle.std.proofs.Common.{◌≡◌, ◌+◌, ◌-◌, ◌∙◌, sym, ap, arith, length}
use Rattle.sx_extent.specs.Ranges.{cut}
use Rattle.sx_extent.specs.Granules.{bytes_from}
use Rattle.sx_extent.proofs.FileLemmas.{self_length, cut_is}
use Rattle.sx_extent.proofs.ranges.Ranges.read_into.Goals as goal

pub read-requires-clause-limit : goal.read-requires-clause-limit
read-requires-clause-limit c =
    let n : length c.args.self.now.bytes ≡ c.self.inside.length = self_length _ _ _ c.self.view_is in
    omega arith

pub returns : goal.returns
returns c =
    let n : length c.args.self.now.bytes ≡ c.self.inside.length = self_length _ _ _ c.self.view_is in
    let es = c.self.inside.granules.entries in
    let at = c.args.at in
    let m = length c.args.into.now in
    let e : m ≡ at + m - at = omega arith in
    c.read.ensures ∙ ap (bytes_from es at) e ∙ sym (cut_is c.self.inside.length es at (at + m) (omega arith) (omega arith)) ∙ ap (λ f. cut f at (at + m)) c.self.view_is
