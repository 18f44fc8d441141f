use Rattle.std.proofs.Common.{◌≡◌, ◌≤◌, ◌∙◌, ap, arith, length}
use Rattle.sx_extent.specs.Ranges.{most_bytes, write}
use Rattle.sx_extent.proofs.FileLemmas.{file_written, kept_written, kept_same, file_same}
use Rattle.sx_extent.proofs.ranges.Ranges.write.Goals as goal

pub invariant_of-self : goal.invariant_of-self
invariant_of-self c =
    let l : c.self.inside.length ≤ most_bytes = c.self.invariant.limit in
    let b : length c.bytes-bytes.result.now ≡ length c.args.piece.now = ap length c.bytes-bytes.ensures.value in
    let r = c.requires in
    let m = c.max-self-inside.ensures in
    kept_written c.self.inside.length c.max-self-inside.result c.self.inside.granules.entries c.put.new.granules.entries c.args.at c.bytes-bytes.result.now m (omega arith) c.self.invariant c.in-Ok.ensures.ok c.put.ensures.sized

pub invariant_of-self-in-Err : goal.invariant_of-self-in-Err
invariant_of-self-in-Err c = kept_same c.self.inside.length c.self.inside.granules.entries c.put.new.granules.entries c.in-Err.ensures.err c.self.invariant

pub returns-in-Ok-clause-ok : goal.returns-in-Ok-clause-ok
returns-in-Ok-clause-ok c =
    let l : c.self.inside.length ≤ most_bytes = c.self.invariant.limit in
    let b : length c.bytes-bytes.result.now ≡ length c.args.piece.now = ap length c.bytes-bytes.ensures.value in
    let r = c.requires in
    let m = c.max-self-inside.ensures in
    file_written c.self.inside.length c.max-self-inside.result c.self.inside.granules.entries c.put.new.granules.entries c.args.at c.bytes-bytes.result.now m (omega arith) c.self.invariant c.in-Ok.ensures.ok
    ∙ ap (λ f. write f c.args.at c.bytes-bytes.result.now) c.self.view_is
    ∙ ap (write c.args.self.now c.args.at) c.bytes-bytes.ensures.value

pub returns-in-Err-clause-err : goal.returns-in-Err-clause-err
returns-in-Err-clause-err c = file_same c.self.inside.length c.self.inside.granules.entries c.put.new.granules.entries c.in-Err.ensures.err ∙ c.self.view_is
