use Rattle.std.proofs.Common.{◌≡◌, ◌+◌, ◌≤◌, ◌∙◌, ap, arith, length}
use Rattle.sx_extent.specs.Ranges.{most_bytes, update}
use Rattle.sx_extent.proofs.FileLemmas.{self_length, file_updated, kept_updated, kept_same, file_same}
use Rattle.sx_extent.proofs.GranuleSteps.{on_ok, on_err, either_way}
use Rattle.sx_extent.proofs.ranges.Ranges.update.Goals as goal

-- the piece lies in the file
fits : (c : goal.After-put) → c.args.at + length c.bytes.result.now ≤ c.self.inside.length
fits c =
    let n : length c.args.self.now.bytes ≡ c.self.inside.length = self_length _ _ _ c.self.view_is in
    let b : length c.bytes.result.now ≡ length c.args.piece.now = ap length c.bytes.ensures.value in
    omega arith

pub put-requires-clause-limit : goal.put-requires-clause-limit
put-requires-clause-limit c =
    let n : length c.args.self.now.bytes ≡ c.self.inside.length = self_length _ _ _ c.self.view_is in
    let b : length c.bytes.result.now ≡ length c.args.piece.now = ap length c.bytes.ensures.value in
    let l : c.self.inside.length ≤ most_bytes = c.self.invariant.limit in
    omega arith

pub invariant_of-self : goal.invariant_of-self
invariant_of-self c =
    either_way c.put.result c.put.ensures.ok c.put.ensures.err
    (λ updated. kept_updated c.self.inside.length c.self.inside.granules.entries c.put.new.granules.entries c.args.at c.bytes.result.now (fits c) c.self.invariant updated c.put.ensures.sized)
    (λ same. kept_same c.self.inside.length c.self.inside.granules.entries c.put.new.granules.entries same c.self.invariant)

pub returns-clause-ok : goal.returns-clause-ok
returns-clause-ok c =
    on_ok c.put.result
    (λ updated.
    file_updated c.self.inside.length c.self.inside.granules.entries c.put.new.granules.entries c.args.at c.bytes.result.now (fits c) c.self.invariant updated
    ∙ ap (λ f. update f c.args.at c.bytes.result.now) c.self.view_is
    ∙ ap (update c.args.self.now c.args.at) c.bytes.ensures.value)
    c.put.ensures.ok

pub returns-clause-err : goal.returns-clause-err
returns-clause-err c =
    on_err c.put.result (λ same. file_same c.self.inside.length c.self.inside.granules.entries c.put.new.granules.entries same ∙ c.self.view_is) c.put.ensures.err
